-- The front of a buffer grows by the bytes that are written after it.
use Rattle.std.proofs.Common.{◌≡◌, ℕ, ◌+◌, List, ◌++◌, length, take, drop, refl, ◌∙◌, sym, ap, arith, length-append}
use Rattle.std.proofs.lemmas.Slice.{drop-append-drop}
use Rattle.std.proofs.lemmas.List.{take_at}
use Rattle.heskavo_c.specs.Writing.{WritesFront}

-- `bytes` was written after a front that was written before
pub front_grows : (front bytes old was now : List ℕ) (at end : ℕ) → length front ≡ at → end ≡ at + length bytes → WritesFront front old was
    → now ≡ take at was ++ bytes ++ drop end was → WritesFront (front ++ bytes) old now
front_grows front bytes old was now at end here ends wrote is =
    let whole : length (front ++ bytes) ≡ end = length-append front bytes ∙ ap (λ n. n + length bytes) here ∙ sym ends in
    let kept : take at was ≡ front = ap (take at) wrote ∙ take_at front (drop (length front) old) at here in
    let behind : drop end was ≡ drop (length (front ++ bytes)) old =
    ap (drop end) wrote ∙ drop-append-drop (length front) old front end (omega (arith, here, ends)) refl ∙ ap (λ n. drop n old) (sym whole) in
    is ∙ ap (λ x. x ++ bytes ++ drop end was) kept ∙ ap (λ x. front ++ bytes ++ x) behind
