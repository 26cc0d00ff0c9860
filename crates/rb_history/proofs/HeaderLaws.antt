-- Laws of headers and tapes.
use Rattle.std.proofs.Common.{◌≡◌, ℕ, ◌+◌, ◌*◌, ◌^◌, ◌<◌, ◌≤◌, Bool, true, false, List, [], ◌∷◌, ◌++◌, length, refl, sym, ap, ◌∙◌, append_assoc, arith}
use Rattle.std.specs.Int.{w32, to_le_bytes}
use Rattle.std.proofs.lemmas.Bool.{false≢true, true≢false}
use Rattle.std.proofs.lemmas.Grind.{flat_map-append}
use Rattle.std.proofs.lemmas.List.{append_cancel_left, length-append, length-replicate}
use Rattle.std.proofs.lemmas.List.Sums.{sum_by-cons, sum_by-append}
use Rattle.rb_history.specs.Header.{header_bytes, length_word}
use Rattle.rb_history.specs.Span.{eights}
use Rattle.rb_history.specs.TapeBytes.{Item, item_position, item_len, is_skip, payload_of, header_of, padding, zeros, item_bytes, tape, item_span, IsItemAt, AreItemsFrom, end_of}
use Rattle.rb_history.specs.TapeBytes.Item.{Event, Skip}
use Rattle.rb_history.proofs.HeaderBytes.{halves, same_number, same_fields}

-- ---- lengths

pub length-payload_of : (item : Item) → length (payload_of item) ≡ item_len item
length-payload_of (Event position bytes) = refl
length-payload_of (Skip position len) = length-replicate len 0

-- an item has as many bytes as it advances the positions
pub length-item_bytes : (size : ℕ) (item : Item) → length (item_bytes size item) ≡ item_span item
length-item_bytes size item =
    let h = header_bytes (header_of size item) in
    let p = payload_of item in
    let z = zeros (padding (item_len item)) in
    let whole : length ((h ++ p) ++ z) ≡ (8 + length p) + length z = length-append (h ++ p) z ∙ ap (λ (n : ℕ). n + length z) (length-append h p) in
    let payload = length-payload_of item in
    let filled : length z ≡ padding (item_len item) = length-replicate (padding (item_len item)) 0 in
    let up : item_len item ≤ 8 * eights (item_len item) = omega arith in
    omega arith

-- if two sequences that begin with the four bytes of a number are equal, the numbers and the rests are equal
pub same_first_word : (m n : ℕ) (xs ys : List ℕ) → m < 2 ^ 32 → n < 2 ^ 32 → to_le_bytes w32 m ++ xs ≡ to_le_bytes w32 n ++ ys → (m ≡ n) × (xs ≡ ys)
same_first_word m n xs ys hm hn e =
    let parts = halves (to_le_bytes w32 m) xs (to_le_bytes w32 n) ys refl e in
    (same_number m n hm hn parts.0, parts.1)

-- ---- concatenating tapes and items

pub tape-append : (size : ℕ) (items more : List Item) → tape size (items ++ more) ≡ tape size items ++ tape size more
tape-append size items more = flat_map-append (item_bytes size) items more

pub end_of-nil : (start : ℕ) → end_of start [] ≡ start
end_of-nil start = omega arith

pub end_of-cons : (start : ℕ) (item : Item) (items : List Item) → end_of start (item ∷ items) ≡ end_of (start + item_span item) items
end_of-cons start item items = let e = sum_by-cons item_span item items in omega arith

pub end_of-append : (start : ℕ) (items more : List Item) → end_of start (items ++ more) ≡ end_of (end_of start items) more
end_of-append start items more = let e = sum_by-append item_span items more in omega arith

-- the length of a tape is the distance by which its items advance the positions
pub end_of-tape : (size start : ℕ) (items : List Item) → start + length (tape size items) ≡ end_of start items
end_of-tape size start [] = omega arith
end_of-tape size start (item ∷ items) =
    let here = length-item_bytes size item in
    let rest = end_of-tape size (start + item_span item) items in
    let whole = length-append (item_bytes size item) (tape size items) in
    let ends = end_of-cons start item items in
    omega arith

pub AreItemsFrom-append : (size start : ℕ) (items more : List Item) → AreItemsFrom size start items → AreItemsFrom size (end_of start items) more → AreItemsFrom size start (items ++ more)
AreItemsFrom-append size start [] more a b = rw (sym (end_of-nil start)) b
AreItemsFrom-append size start (item ∷ items) more a b =
    (a.0, AreItemsFrom-append size (start + item_span item) items more a.1 (rw (sym (end_of-cons start item items)) b))

-- one more item
pub AreItemsFrom-push : (size start : ℕ) (items : List Item) (item : Item) → AreItemsFrom size start items → IsItemAt size (end_of start items) item → AreItemsFrom size start (items ++ item ∷ [])
AreItemsFrom-push size start items item a i = AreItemsFrom-append size start items (item ∷ []) a (i, tt)

-- ---- equal bytes, equal items

-- an item is determined by its kind, its position, its length and its bytes
same_item : (i j : Item) → item_position i ≡ item_position j → item_len i ≡ item_len j → is_skip i ≡ is_skip j → payload_of i ≡ payload_of j → i ≡ j
same_item (Event p b) (Event q c) at len kind bytes = cc
same_item (Event p b) (Skip q m) at len kind bytes = absurd (false≢true kind)
same_item (Skip p n) (Event q c) at len kind bytes = absurd (true≢false kind)
same_item (Skip p n) (Skip q m) at len kind bytes = cc

word_below : (n : ℕ) (s : Bool) → n < 2 ^ 30 → length_word (record { len = n; busy = false; discard = s; page = 0 }) < 2 ^ 32
word_below n true h = omega arith
word_below n false h = omega arith

regroup : (a b c d : List ℕ) → ((a ++ b) ++ c) ++ d ≡ a ++ (b ++ (c ++ d))
regroup a b c d = simp append_assoc

-- the first item of a byte sequence, and the rest, are unique
first_item : (size at : ℕ) (i j : Item) (rest more : List ℕ) → IsItemAt size at i → IsItemAt size at j → item_bytes size i ++ rest ≡ item_bytes size j ++ more → (i ≡ j) × (rest ≡ more)
first_item size at i j rest more hi hj e =
    let header = λ (x : Item). header_bytes (header_of size x) in
    let fill = λ (x : Item). zeros (padding (item_len x)) in
    let text : header i ++ (payload_of i ++ (fill i ++ rest)) ≡ header j ++ (payload_of j ++ (fill j ++ more)) =
    sym (regroup (header i) (payload_of i) (fill i) rest) ∙ e ∙ regroup (header j) (payload_of j) (fill j) more in
    let fronts = halves (header i) (payload_of i ++ (fill i ++ rest)) (header j) (payload_of j ++ (fill j ++ more)) refl text in
    let words = halves (to_le_bytes w32 (length_word (header_of size i))) (to_le_bytes w32 (header_of size i).page) (to_le_bytes w32 (length_word (header_of size j))) (to_le_bytes w32 (header_of size j).page) refl fronts.0 in
    let word = same_number (length_word (header_of size i)) (length_word (header_of size j)) (word_below (item_len i) (is_skip i) hi.has_header) (word_below (item_len j) (is_skip j) hj.has_header) words.0 in
    let fields = same_fields (item_len i) (item_len j) (is_skip i) (is_skip j) false false hi.has_header hj.has_header word in
    let bodies = halves (payload_of i) (fill i ++ rest) (payload_of j) (fill j ++ more) (length-payload_of i ∙ fields.0 ∙ sym (length-payload_of j)) fronts.1 in
    let tails : fill i ++ rest ≡ fill i ++ more = bodies.1 ∙ ap (λ (n : ℕ). zeros (padding n) ++ more) (sym fields.0) in
    (same_item i j (hi.here ∙ sym hj.here) fields.0 fields.1 bodies.0, append_cancel_left (fill i) rest more tails)

same_span : (at : ℕ) (i j : Item) → i ≡ j → at + item_span i ≡ at + item_span j
same_span at i j e = ap (λ x. at + item_span x) e

-- a byte sequence begins with at most one list of a given number of items
pub unique_tape : (size start : ℕ) (items others : List Item) (rest more : List ℕ) → AreItemsFrom size start items → AreItemsFrom size start others → length items ≡ length others → tape size items ++ rest ≡ tape size others ++ more → items ≡ others
unique_tape size start [] [] rest more a b n e = refl
unique_tape size start [] (j ∷ js) rest more a b n e = absurd (omega arith)
unique_tape size start (i ∷ is) [] rest more a b n e = absurd (omega arith)
unique_tape size start (i ∷ is) (j ∷ js) rest more a b n e =
    let text : item_bytes size i ++ (tape size is ++ rest) ≡ item_bytes size j ++ (tape size js ++ more) =
    sym (append_assoc (item_bytes size i) (tape size is) rest) ∙ e ∙ append_assoc (item_bytes size j) (tape size js) more in
    let first = first_item size start i j (tape size is ++ rest) (tape size js ++ more) a.0 b.0 text in
    let next : AreItemsFrom size (start + item_span i) js = rw (same_span start i j first.0) b.1 in
    let tails = unique_tape size (start + item_span i) is js rest more a.1 next (omega arith) first.1 in
    let heads = first.0 in
    cc
