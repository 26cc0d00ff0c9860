-- Contexts that were dealt: each of them to one worker, or it was dropped.
use Rattle.std.proofs.Common.{◌≡◌, ◌≢◌, ℕ, ◌+◌, ◌-◌, ◌<◌, ◌^◌, Bool, cond, eqb, List, [], ◌∷◌, Option, None, Some, length, filter, true, false, refl, sym, ap, length-append, arith}
use Rattle.std.proofs.lemmas.Bool.{eq-eqb, ne_eqb}
use Rattle.std.proofs.lemmas.List.Elements.{All-head, All-tail}
use Rattle.std.specs.Prelude.{IfSome}
use Rattle.rb_dealing.specs.Dealt.{DealtPiece, AreDealtAmong, contexts_in, dealt_to, dropped_in, is_worker, saturated}
use Rattle.rb_stream.proofs.OfAll.{length_of_all}
use Rattle.rb_stream.specs.Streamed.{of_all}
use Rattle.rb_workers.proofs.Sums.{sum_to, sum_to_but_one, sum_to_none}

-- the number of contexts that this worker got
got : ℕ → List DealtPiece → ℕ
got k pieces = length (dealt_to k pieces)

-- the number of contexts that all workers got
got_by_all : ℕ → List DealtPiece → ℕ
got_by_all count pieces = length (of_all count (λ k. dealt_to k pieces))

by_workers : (count : ℕ) (pieces : List DealtPiece) → got_by_all count pieces ≡ sum_to count (λ k. got k pieces)
unfolding got got_by_all
by_workers count pieces = length_of_all count (λ k. dealt_to k pieces)

got_none : (count : ℕ) → got_by_all count [] ≡ 0
unfolding got got_by_all
got_none count = let all = by_workers count [] in let none = sum_to_none count in omega (arith, all, none)

-- a piece that this worker got, or that it did not get
if_got : (b : Bool) (piece : DealtPiece) (taken : List DealtPiece) → length (contexts_in (cond b (piece ∷ taken) taken)) ≡ cond b (length piece.contexts) 0 + length (contexts_in taken)
if_got true piece taken = length-append piece.contexts (contexts_in taken)
if_got false piece taken = omega arith

got_more : (k worker : ℕ) (contexts : List (List ℕ)) (pieces : List DealtPiece) → got k (record { contexts = contexts; worker = Some worker } ∷ pieces) ≡ cond (eqb worker k) (length contexts) 0 + got k pieces
unfolding got
got_more k worker contexts pieces = if_got (eqb worker k) (record { contexts = contexts; worker = Some worker }) (filter (λ p. is_worker k p.worker) pieces)

module _ (count worker : ℕ) (contexts : List (List ℕ)) (pieces : List DealtPiece) (known : worker < count) where
  -- one worker got this piece, and no other
  one_got : got_by_all count (record { contexts = contexts; worker = Some worker } ∷ pieces) ≡ length contexts + got_by_all count pieces
  one_got =
      let all = record { contexts = contexts; worker = Some worker } ∷ pieces in
      let others : (k : ℕ) → k < count → k ≢ worker → got k all ≡ got k pieces =
      λ k below other. (let e = got_more k worker contexts pieces in let no = ap (λ b. cond b (length contexts) 0) (ne_eqb worker k (λ same. other (sym same))) in omega (arith, e, no)) in
      let here = got_more worker worker contexts pieces in
      let yes = ap (λ b. cond b (length contexts) 0) (eq-eqb worker worker refl) in
      let sum = sum_to_but_one count worker (λ k. got k all) (λ k. got k pieces) known others in
      let with_it = by_workers count all in
      let before = by_workers count pieces in
      omega (arith, here, yes, sum, with_it, before)

piece_adds_up : (count : ℕ) (contexts : List (List ℕ)) (worker : Option ℕ) (pieces : List DealtPiece) → IfSome worker (λ k. k < count) → length (contexts_in pieces) ≡ got_by_all count pieces + length (dropped_in pieces)
    → length (contexts_in (record { contexts = contexts; worker = worker } ∷ pieces)) ≡ got_by_all count (record { contexts = contexts; worker = worker } ∷ pieces) + length (dropped_in (record { contexts = contexts; worker = worker } ∷ pieces))
unfolding got_by_all
piece_adds_up count contexts None pieces known rest =
    let all = length-append contexts (contexts_in pieces) in
    let lost = length-append contexts (dropped_in pieces) in
    omega (arith, all, lost, rest)
piece_adds_up count contexts (Some worker) pieces known rest =
    let all = length-append contexts (contexts_in pieces) in
    let one = one_got count worker contexts pieces known in
    omega (arith, all, one, rest)

pieces_add_up : (count : ℕ) (pieces : List DealtPiece) → AreDealtAmong count pieces → length (contexts_in pieces) ≡ got_by_all count pieces + length (dropped_in pieces)
pieces_add_up count [] known = let none = got_none count in omega (arith, none)
pieces_add_up count (p ∷ pieces) known =
    piece_adds_up count p.contexts p.worker pieces (All-head (λ (p : DealtPiece). IfSome p.worker (λ k. k < count)) p pieces known)
    (pieces_add_up count pieces (All-tail (λ (p : DealtPiece). IfSome p.worker (λ k. k < count)) p pieces known))

-- counts that did not reach the greatest number add up
pub counts_add_up : (count : ℕ) (pieces : List DealtPiece) (all ran dropped : ℕ) → AreDealtAmong count pieces → all ≡ saturated (length (contexts_in pieces)) → ran ≡ saturated (length (of_all count (λ k. dealt_to k pieces)))
    → dropped ≡ saturated (length (dropped_in pieces)) → all < 2 ^ 64 - 1 → all ≡ ran + dropped
unfolding got_by_all
counts_add_up count pieces all ran dropped known all_is ran_is dropped_is small = let sum = pieces_add_up count pieces known in omega (arith, sum)
