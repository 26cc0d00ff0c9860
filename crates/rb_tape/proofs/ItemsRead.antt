-- The items that were read from an input.
use Rattle.std.proofs.Common.{◌≡◌, ℕ, ◌+◌, ◌≤◌, ◌<◌, List, [], ◌∷◌, ◌++◌, length, refl, sym, ap, ◌∙◌, append_assoc, arith, inl, inr}
use Rattle.std.proofs.lemmas.List.{append_cancel_left, append-nil}
use Rattle.rb_history.specs.TapeBytes.{Item, item_bytes, item_span, tape, AreItemsFrom, end_of}
use Rattle.rb_history.proofs.HeaderLaws.{tape-append, end_of-nil, end_of-cons, end_of-append, AreItemsFrom-push, unique_tape}
use Rattle.rb_tape.specs.TapeFront.{StartsWithItem}
use Rattle.rb_tape.proofs.TapeFronts.{item_length, part_short, no_item_at_fault}
use Rattle.rb_tape.specs.LongestTape.{IsTapeAndRest, HasReadItems, HasNoItemNext, IsLongestList}

pub begins : (size start : ℕ) (input : List ℕ) → HasReadItems size start input [] start input
begins size start input = record { splits = record { stand = tt; text = refl }; here = sym (end_of-nil start) }

pub fed : (size start : ℕ) (input : List ℕ) (items : List Item) (position : ℕ) (rest piece : List ℕ) → HasReadItems size start input items position rest → HasReadItems size start (input ++ piece) items position (rest ++ piece)
fed size start input items position rest piece r = record {
  splits = record { stand = r.splits.stand; text = ap (λ x. x ++ piece) r.splits.text ∙ append_assoc (tape size items) rest piece };
  here = r.here;
}

pub read_more : (size start at : ℕ) (input : List ℕ) (items : List Item) (item : Item) (before after : List ℕ) → IsTapeAndRest size start input items before → at ≡ end_of start items → StartsWithItem size at before item after → IsTapeAndRest size start input (items ++ item ∷ []) after
read_more size start at input items item before after s e f = record {
  stand = AreItemsFrom-push size start items item s.stand (rw (← e) f.stands);
  text =
      let one : tape size (item ∷ []) ≡ item_bytes size item = append-nil (item_bytes size item) in
      let both : tape size (items ++ item ∷ []) ≡ tape size items ++ item_bytes size item = tape-append size items (item ∷ []) ∙ ap (λ x. tape size items ++ x) one in
      s.text ∙ ap (λ x. tape size items ++ x) f.text ∙ sym (append_assoc (tape size items) (item_bytes size item) after) ∙ ap (λ x. x ++ after) (sym both);
}

pub end_of-push : (start : ℕ) (items : List Item) (item : Item) → end_of start (items ++ item ∷ []) ≡ end_of start items + item_span item
end_of-push start items item =
    let a = end_of-append start items (item ∷ []) in
    let b = end_of-cons (end_of start items) item [] in
    let c = end_of-nil (end_of start items + item_span item) in
    omega arith

pub goes_on : (size start : ℕ) (input : List ℕ) (items : List Item) (position : ℕ) (rest : List ℕ) (item : Item) (after : List ℕ) → HasReadItems size start input items position rest → StartsWithItem size position rest item after → HasReadItems size start input (items ++ item ∷ []) (position + item_span item) after
goes_on size start input items position rest item after r s = record {
  splits = read_more size start position input items item rest after r.splits r.here s;
  here = ap (λ n. n + item_span item) r.here ∙ sym (end_of-push start items item);
}

same_tails : (i j : Item) (is js : List Item) → i ∷ is ≡ j ∷ js → i ≡ j
same_tails i j is js e = cc

pub longest : (size start : ℕ) (items others : List Item) (rest more : List ℕ) → AreItemsFrom size start items → AreItemsFrom size start others → ((item : Item) (after : List ℕ) → StartsWithItem size (end_of start items) rest item after → ⊥) → tape size items ++ rest ≡ tape size others ++ more → length others ≤ length items
longest size start items [] rest more a b n e = omega arith
longest size start [] (j ∷ js) rest more a b n e =
    absurd (n j (tape size js ++ more) (rw (end_of-nil start) (record { stands = b.0; text = e ∙ append_assoc (item_bytes size j) (tape size js) more })))
longest size start (i ∷ is) (j ∷ js) rest more a b n e =
    let text : item_bytes size i ++ (tape size is ++ rest) ≡ item_bytes size j ++ (tape size js ++ more) =
    sym (append_assoc (item_bytes size i) (tape size is) rest) ∙ e ∙ append_assoc (item_bytes size j) (tape size js) more in
    let single : (k : Item) (xs : List ℕ) → tape size (k ∷ []) ++ xs ≡ item_bytes size k ++ xs = λ k xs. ap (λ x. x ++ xs) (append-nil (item_bytes size k)) in
    let first : i ≡ j = same_tails i j [] [] (unique_tape size start (i ∷ []) (j ∷ []) (tape size is ++ rest) (tape size js ++ more) (a.0, tt) (b.0, tt) refl (single i (tape size is ++ rest) ∙ text ∙ sym (single j (tape size js ++ more)))) in
    let tails : tape size is ++ rest ≡ tape size js ++ more =
    append_cancel_left (item_bytes size i) (tape size is ++ rest) (tape size js ++ more) (text ∙ ap (λ k. item_bytes size k ++ (tape size js ++ more)) (sym first)) in
    let next : AreItemsFrom size (start + item_span i) js = rw first b.1 in
    let less : length js ≤ length is = longest size (start + item_span i) is js rest more a.1 next (λ item after s. n item after (rw (end_of-cons start i is) s)) tails in
    omega arith

none_stands : (size position : ℕ) (rest : List ℕ) → 0 < size → size ≤ 67108864 → HasNoItemNext size position rest → (item : Item) (after : List ℕ) → StartsWithItem size position rest item after → ⊥
none_stands size position rest p u (inl e) item after s = (part_short size position rest (let l = ap length e in omega arith)).no_item item after s
none_stands size position rest p u (inr (inl (kind, shows))) item after s = no_item_at_fault size position rest kind item after p u shows s
none_stands size position rest p u (inr (inr part)) item after s = part.no_item item after s

pub is_longest : (size start : ℕ) (input : List ℕ) (items : List Item) (position : ℕ) (rest : List ℕ) → 0 < size → size ≤ 67108864 → HasReadItems size start input items position rest → HasNoItemNext size position rest → IsLongestList size start input items
is_longest size start input items position rest p u h stops others more s =
    longest size start items others rest more h.splits.stand s.stand (λ item after t. none_stands size position rest p u stops item after (rw h.here t)) (sym h.splits.text ∙ s.text)

pub item_bytes_long : (size position : ℕ) (bytes : List ℕ) (item : Item) (rest : List ℕ) → StartsWithItem size position bytes item rest → length rest + 8 ≤ length bytes
item_bytes_long size position bytes item rest s = let e = item_length size position bytes item rest s in omega arith
