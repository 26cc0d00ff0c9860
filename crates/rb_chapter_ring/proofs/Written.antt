-- A record keeps its length, whatever is written into it.
use Rattle.std.proofs.Common.{◌≡◌, ℕ, List, ◌++◌, Some, drop, length, length-append, sym, ap, ◌∙◌, arith}
use Rattle.std.proofs.lemmas.List.{length-take, length-drop}
use Rattle.rb_history.specs.ReservationModel.{Granted}
use Rattle.rb_lend.specs.Ranges.{in_place_of}
use Rattle.rb_chapter_ring.specs.Hands.{out_record}
use Rattle.rb_chapter_ring.specs.HandRing.{HandRing, HasInHand}

pub long-as : (old w : List ℕ) → length (in_place_of old w) ≡ length old
long-as old w =
    let a = length-take (length old) (w ++ drop (length w) old) in
    let b = length-append w (drop (length w) old) in
    let d = length-drop (length w) old in
    omega arith

-- it remains in its hand
pub written-in-hand : (v : HandRing) (hand : ℕ) (r : Granted) (w : List ℕ) → HasInHand v hand r → HasInHand v hand (record r { bytes = in_place_of r.bytes w })
written-in-hand v hand r w out = out ∙ ap (λ n. Some (out_record r.pos r.serial n)) (sym (long-as r.bytes w))
