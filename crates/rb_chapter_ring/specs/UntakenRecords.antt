-- What an opening's records show.
use Rattle.rb_history.specs.History.{Shown, Status}
use Rattle.rb_history.specs.History.Status.{Busy, Waiting, Discarded}
use Rattle.rb_chapter_ring.specs.declared.snapshot.UntakenRecord.{UntakenRecord}
use Rattle.rb_chapter_ring.specs.declared.snapshot.UntakenStatus.{UntakenStatus}
use Rattle.rb_chapter_ring.specs.declared.snapshot.UntakenStatus.TheVariants.{Busy as IsBusy, Waiting as IsWaiting, Discarded as IsDiscarded}

abbrev pub status_shown : UntakenStatus → Status
status_shown IsBusy = Busy
status_shown IsWaiting = Waiting
status_shown IsDiscarded = Discarded

-- the record as a state shows it
abbrev pub untaken_shown : UntakenRecord → Shown
untaken_shown s = record { pos = s.pos; len = s.len; worker = s.worker; serial = s.serial; status = status_shown s.status }
