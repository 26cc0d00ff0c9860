use Rattle.rb_chapter_ring.proofs.Keeping.{calls-keep}
use Rattle.rb_chapter_ring.proofs.Room.{keep-room, next-room}
use Rattle.rb_chapter_ring.proofs.chapter_laws.room_is_kept.Goals as goal

pub returns : goal.returns
returns c = record { entries = keep-room; next = next-room; calls = calls-keep }
