-- What a seat's pass (its right to use the lock) knows between calls, including its hands.
use Rattle.std.specs.Prelude.{◌≡◌, ℕ, List, [], ◌∷◌, None, length}
use Rattle.rb_history.specs.RingModel.{Contents}
use Rattle.rb_chapter_ring.specs.Chapters.{Chapter}
use Rattle.rb_ledger.specs.Roles.{Role, Book}
use Rattle.rb_chapter_ring.specs.Hands.{Hands}
use Rattle.rb_ledger.specs.HandKnowledge.{HandKnowledge, HandPassView, hand_view, without_hands}
use Rattle.rb_ledger.specs.NoStranger.{HoldsOwnBusy}
use Rattle.rb_shared_ring.specs.inner.SeatPasses.{known_as, seen_by, bytes_by, room_by, handed_out_by}

-- the whole history that it has seen, its bytes, the chapters' room, and the chapters that were handed out
abbrev pub seen_with : HandPassView → Book
seen_with v = seen_by (without_hands v)

abbrev pub bytes_with : HandPassView → Contents
bytes_with v = bytes_by (without_hands v)

abbrev pub room_with : HandPassView → ℕ
room_with v = room_by (without_hands v)

abbrev pub handed_out_with : HandPassView → List Chapter
handed_out_with v = handed_out_by (without_hands v)

-- the hands of its first role, and how many entries had been handed out when that role last saw the ring
abbrev pub first_hands : List HandKnowledge → Hands
first_hands [] = []
first_hands (k ∷ ks) = k.hands

abbrev pub first_cut : List HandKnowledge → ℕ
first_cut [] = 0
first_cut (k ∷ ks) = k.cut

abbrev pub hands_by : HandPassView → Hands
hands_by v = first_hands v.knows

abbrev pub cut_by : HandPassView → ℕ
cut_by v = first_cut v.knows

-- what a pass with this one role knows
abbrev pub known_with : Role → HandPassView → HandKnowledge
known_with role v = record { chapter = known_as role (without_hands v); cut = cut_by v; hands = hands_by v }

-- the pass has this one role, and does not hold the state
abbrev pub IsIdleWith : Role → HandPassView → Type 0
IsIdleWith role v = v ≡ hand_view (known_with role v ∷ []) None

-- a worker's pass shows these four hands, which hold exactly the worker's busy records in the history that it has seen,
-- each once
pub record KeepsHands (v : HandPassView) (worker : ℕ) (hands : Hands) : Type 0 where
  pub shows : hands_by v ≡ hands
  pub four : length hands ≡ 4
  pub holds : HoldsOwnBusy hands worker (seen_with v).history
