-- The parts of a record's bytes.
use Rattle.std.proofs.Common.{◌≡◌, ℕ, ◌+◌, ◌*◌, ◌-◌, ◌≤◌, List, ◌++◌, length, take, drop, sym, ap, ◌∙◌, subst, arith, append_assoc}
use Rattle.std.specs.Prelude.{Option}
use Rattle.std.proofs.Math.Seq.{drop-append-add, take-append_seam, take-add}
use Rattle.std.proofs.lemmas.List.{take_all, drop-take, drop-append-le, take-take, drop-replicate, take-replicate, length-append, length-take, length-drop, length-take-le, length-replicate, replicate-append-replicate}
use Rattle.std.specs.Io.KnownBytes.{Appends}
use Rattle.std.proofs.KnownBytes.{Appends-trans}
use Rattle.rb_history.specs.Header.{header_bytes}
use Rattle.rb_history.specs.Span.{eights}
use Rattle.rb_history.specs.TapeBytes.{Item, item_len, item_span, item_bytes, header_of, padding, zeros}
use Rattle.rb_history.specs.TapeBytes.Item.{Event, Skip}
use Rattle.rb_tape.specs.inner.RecordParts.{bytes_before_zeros}

-- a part of a list, from the part's byte k on, is a piece of the list
pub piece-of-part : (front part back text : List ℕ) (k at : ℕ) → text ≡ front ++ (part ++ back) → at ≡ length front + k → k ≤ length part → take (length (drop k part)) (drop at text) ≡ drop k part
piece-of-part front part back text k at is here within =
    let cut : drop at text ≡ drop k part ++ back = ap (λ n. drop n text) here ∙ ap (drop (length front + k)) is ∙ drop-append-add front (part ++ back) k ∙ drop-append-le k part back within in
    ap (take (length (drop k part))) cut ∙ take-append_seam (drop k part) back

-- if a list ends with zeros, any number of them that is left is a piece of it
pub piece-of-zeros : (front text : List ℕ) (m k at n : ℕ) → text ≡ front ++ zeros m → at ≡ length front + k → n ≤ m - k → take n (drop at text) ≡ zeros n
piece-of-zeros front text m k at n is here few =
    let cut : drop at text ≡ zeros (m - k) = ap (λ i. drop i text) here ∙ ap (drop (length front + k)) is ∙ drop-append-add front (zeros m) k ∙ drop-replicate k m 0 in
    ap (take n) cut ∙ take-replicate n (m - k) 0 few

-- bytes that are written from a piece of a list are bytes of the list
pub out-of-text : (text piece : List ℕ) (a b : Option (List ℕ)) (at n : ℕ) → take (length piece) (drop at text) ≡ piece → n ≤ length piece → Appends a b (take n piece) → Appends a b (take n (drop at text))
out-of-text text piece a b at n is few gone = subst (Appends a b) (ap (take n) (sym is) ∙ take-take n (length piece) (drop at text) few) gone

-- a piece of the list ends within the list
pub piece-within : (text piece : List ℕ) (at n : ℕ) → at ≤ length text → take (length piece) (drop at text) ≡ piece → n ≤ length piece → at + n ≤ length text
piece-within text piece at n within is few =
    let l = length-take (length piece) (drop at text) in
    let same = ap length is in
    omega (arith, l, same, length-drop at text)

-- the same for zeros, which are written from a block of zeros
pub zeros-out : (front text : List ℕ) (m k at n j c : ℕ) (a b : Option (List ℕ)) → text ≡ front ++ zeros m → at ≡ length front + k → j ≤ c → j ≤ m - k → n ≤ length (take j (zeros c)) → Appends a b (take n (take j (zeros c))) → Appends a b (take n (drop at text))
zeros-out front text m k at n j c a b is here small few fits gone =
    let z : take j (zeros c) ≡ zeros j = take-replicate j c 0 small in
    let size : length (take j (zeros c)) ≡ j = ap length z ∙ length-replicate j 0 in
    let le : n ≤ j = omega (arith, fits, size) in
    subst (Appends a b) (ap (take n) z ∙ take-replicate n j 0 le ∙ sym (piece-of-zeros front text m k at n is here (omega arith))) gone

-- the bytes of a slice from its byte k
pub slice-behind : (d p : List ℕ) (k : ℕ) → d ≡ p → take (length d - k) (drop k d) ≡ drop k p
slice-behind d p k same = take_all (length d - k) (drop k d) (omega (arith, length-drop k d)) ∙ ap (drop k) same

-- ---- the three parts of a record

-- the number of zeros after the header and the payload
abbrev pub zeros_after : Item → ℕ
zeros_after item = 8 * eights (item_len item) - length (bytes_before_zeros item)

pub record-parts : (size : ℕ) (item : Item) → item_bytes size item ≡ header_bytes (header_of size item) ++ (bytes_before_zeros item ++ zeros (zeros_after item))
record-parts size (Event position bytes) = append_assoc (header_bytes (header_of size (Event position bytes))) bytes (zeros (padding (length bytes)))
record-parts size (Skip position len) =
    let up : len ≤ 8 * eights len = omega arith in
    let all : len + padding len ≡ 8 * eights len - 0 = omega arith in
    append_assoc (header_bytes (header_of size (Skip position len))) (zeros len) (zeros (padding len))
    ∙ ap (λ x. header_bytes (header_of size (Skip position len)) ++ x) (replicate-append-replicate len (padding len) 0 ∙ ap zeros all)

-- some bytes of the payload are written
pub payload-out : (size : ℕ) (item : Item) (piece : List ℕ) (a b : Option (List ℕ)) (at k n : ℕ) → piece ≡ drop k (bytes_before_zeros item) → at ≡ 8 + k → k ≤ length (bytes_before_zeros item) → n ≤ length piece → Appends a b (take n piece) → Appends a b (take n (drop at (item_bytes size item)))
payload-out size item piece a b at k n same here within few gone =
    let part = piece-of-part (header_bytes (header_of size item)) (bytes_before_zeros item) (zeros (zeros_after item)) (item_bytes size item) k at (record-parts size item) here within in
    out-of-text (item_bytes size item) piece a b at n (subst (λ x. take (length x) (drop at (item_bytes size item)) ≡ x) (sym same) part) few gone

-- some of the zeros are written
pub filling-out : (size : ℕ) (item : Item) (a b : Option (List ℕ)) (at n j c : ℕ) → 8 + length (bytes_before_zeros item) ≤ at → j ≤ c → j ≤ item_span item - at → n ≤ length (take j (zeros c)) → Appends a b (take n (take j (zeros c))) → Appends a b (take n (drop at (item_bytes size item)))
filling-out size item a b at n j c behind small few fits gone =
    let h = header_bytes (header_of size item) in
    let p = bytes_before_zeros item in
    let front = length-append h p in
    zeros-out (h ++ p) (item_bytes size item) (zeros_after item) (at - (8 + length p)) at n j c a b
    (record-parts size item ∙ sym (append_assoc h p (zeros (zeros_after item)))) (omega (arith, front)) small (omega arith) fits gone

-- ---- a record as a whole

-- bytes of the list from `from` on were written, and then n more
pub went-out : (text : List ℕ) (a b c : Option (List ℕ)) (from sent n : ℕ) → from ≤ sent → sent ≤ length text → Appends a b (drop from (take sent text)) → Appends b c (take n (drop sent text)) → Appends a c (drop from (take (sent + n) text))
went-out text a b c from sent n more within before after =
    let all : drop from (take (sent + n) text) ≡ drop from (take sent text) ++ take n (drop sent text) =
    ap (drop from) (take-add sent n text) ∙ drop-append-le from (take sent text) (take n (drop sent text)) (omega (arith, length-take-le sent text within)) in
    subst (Appends a c) (sym all) (Appends-trans a b c _ _ before after)

-- some bytes of the list from `from` on were written
pub first-out : (text : List ℕ) (a b : Option (List ℕ)) (from n : ℕ) → Appends a b (take n (drop from text)) → Appends a b (drop from (take (from + n) text))
first-out text a b from n gone = subst (Appends a b) (sym (drop-take from n text)) gone

-- bytes of the list from `from` on were written, and then those after them
pub then-out : (text : List ℕ) (a b c : Option (List ℕ)) (from mid end : ℕ) → from ≤ mid → mid ≤ end → mid ≤ length text → Appends a b (drop from (take mid text)) → Appends b c (drop mid (take end text)) → Appends a c (drop from (take end text))
then-out text a b c from mid end more further within before after =
    let n = end - mid in
    let whole : mid + n ≡ end = omega arith in
    let second = subst (Appends b c) (ap (λ k. drop mid (take k text)) (sym whole) ∙ drop-take mid n text) after in
    subst (λ k. Appends a c (drop from (take k text))) whole (went-out text a b c from mid n more within before second)
