-- What each call of the ring of one thread ensures, as one relation by its result.
use Rattle.std.proofs.Common.{◌≡◌, ◌≢◌, ℕ, ◌<◌, ◌≤◌, List, length, Result, Ok, Err, IfOk, IfErr, replicate, ◌↔◌}
use Rattle.std.specs.Prelude.{OnOk}
use Rattle.rb_history.specs.declared.answers.Notice.{Notice}
use Rattle.rb_history.specs.declared.answers.Notice.TheVariants.{Due}
use Rattle.rb_history.specs.NoticesAndQueries.{IsDue}
use Rattle.rb_chapter_ring.specs.ChapterRing.{ChapterRing}
use Rattle.rb_chapter_ring.specs.ChapterCalls.{OutputsByChapter, producer_by_chapter, consumer_by_chapter}
use Rattle.rb_chapter_ring.specs.declared.faults.ReserveFault.{ReserveFault}
use Rattle.rb_chapter_ring.specs.declared.faults.ReserveFault.TheVariants.{Flags}
use Rattle.rb_chapter_ring.specs.RingFaults.{RefusesInChapter}
use Rattle.rb_chapter_ring.specs.HandRing.{HandRing, GrantsToHand}
use Rattle.rb_chapter_ring.specs.HandGranted.{HandGranted}
use Rattle.rb_shared_ring.specs.inner.ChapterAnswers.{OutputsInChapter}
use Rattle.rb_shared_ring.specs.inner.HandCalls.{ReservesToHand}

pub meets-reserve : (old new : HandRing) (w hand n : ℕ) (a : Result HandGranted (ReserveFault × List ℕ)) → IfOk a (λ r. GrantsToHand old new w hand n r.granted.pos r.granted.serial) → IfOk a (λ r. r.granted.worker ≡ w)
    → IfOk a (λ r. r.granted.bytes ≡ replicate n 0) → IfErr a (λ e. RefusesInChapter old.ring new.ring w n e.0) → IfErr a (λ e. e.0 ≢ Flags) → IfErr a (λ e. new.hands ≡ old.hands) → ReservesToHand w hand n a old new
meets-reserve old new w hand n (Ok r) granted worker zeros refused flags same = (granted, worker, zeros)
meets-reserve old new w hand n (Err e) granted worker zeros refused flags same = (refused, flags, same)

pub meets-output : (old new : ChapterRing) (w : ℕ) (b : List ℕ) (flags : ℕ) (a : Result Notice (ReserveFault × List ℕ)) → OnOk a (OutputsByChapter old new w b) → IfOk a (λ n. (n ≡ Due) ↔ IsDue (consumer_by_chapter old) (producer_by_chapter old) flags)
    → OnOk a (flags ≤ 3) → IfErr a (λ e. (e.0 ≡ Flags) ↔ (3 < flags)) → IfErr a (λ e. RefusesInChapter old new w (length b) e.0) → OutputsInChapter w b flags a old new
meets-output old new w b flags (Ok n) done due known flags_above refused = (done, due, known)
meets-output old new w b flags (Err e) done due known flags_above refused = (refused, flags_above)
