-- The first state is put in, and each later one is put back.
use Rattle.std.proofs.Common.{◌≡◌, ℕ, List, [], Some, ap}
use Rattle.std.specs.FinMap.{empty}
use Rattle.crossbeam_queue.specs.Fifo.{Pushes, Learns}
use Rattle.rb_history.specs.declared.entries.Entry.{Entry}
use Rattle.rb_chapter_ring.specs.ChapterRing.{StandsForChapter}
use Rattle.rb_chapter_ring.specs.OpenedRing.{IsChapterRingWithin}
use Rattle.rb_chapter_ring.specs.WholeHistory.{IsKept}
use Rattle.rb_ledger.specs.ChapteredRing.{chaptered_ring, IsChapteredRing}
use Rattle.rb_chapter_ring.specs.Hands.{free_book}
use Rattle.rb_chapter_ring.specs.HandRing.{HandRing, HasHands}
use Rattle.rb_ledger.specs.HandKnowledge.{HandPassView, hand_view}
use Rattle.rb_ledger.specs.LockRule.{KeepsHandLockRule}
use Rattle.rb_ledger.specs.HandLockSteps.{MayPutHands, PutsHandState, OpensHandState, unopened_hands}
use Rattle.rb_ledger.proofs.HandLock.{puts, opens, away}
use Rattle.rb_shared_ring.specs.inner.LentState.{IsKeptHandRing}

-- what a ring states of itself is its invariant
pub kept-by-facts : (v : HandRing) → ((earlier : List Entry) × IsKept earlier v.ring.chapter) → StandsForChapter v.ring → IsChapterRingWithin v.ring → HasHands v → IsKeptHandRing v
kept-by-facts v kept stands bounded hands = record { kept = record { legal = kept.1.continues.legal; room = kept.1.room; stands = stands; bounded = bounded }; hands = hands }

pub put-step : (n pass : ℕ) (v : HandPassView) (new : HandRing) → MayPutHands v new → Pushes KeepsHandLockRule n pass v new (PutsHandState v new) × Learns KeepsHandLockRule pass v (λ items. items ≡ [])
put-step n pass v new m = (puts n pass v new m, away pass v m.out (ap (λ (x : HandPassView). x.out) m.view_is))

pub open-step : (n pass : ℕ) (v : HandPassView) (r : HandRing) → v ≡ hand_view [] (Some unopened_hands) → IsChapteredRing (chaptered_ring [] r.ring) → r.ring.contents ≡ empty → HasHands r → r.hands ≡ free_book r.ring.chapter.opening.setup.workers
    → Pushes KeepsHandLockRule n pass v r (OpensHandState v r) × Learns KeepsHandLockRule pass v (λ items. items ≡ [])
open-step n pass v r is ring nothing has free =
    (opens n pass v r is ring.is_ring ring.has_chapters nothing has free, away pass v unopened_hands (ap (λ (x : HandPassView). x.out) is))
