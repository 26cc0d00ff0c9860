-- What the bytes at the front show.
use Rattle.std.proofs.Common.{◌≡◌, ℕ, ◌+◌, ◌-◌, ◌*◌, ◌^◌, ◌<◌, ◌≤◌, Bool, true, false, cond, List, ◌++◌, length, take, drop, refl, sym, ap, ◌∙◌, append_assoc, arith}
use Rattle.std.proofs.lemmas.Bool.{false≢true, true≢false}
use Rattle.std.proofs.lemmas.List.{length-append, length-drop, length-replicate, length-take-le, take-append-drop, take-take, take_rest, drop-take}
use Rattle.std.proofs.Math.Seq.{drop-append-add, drop-append_seam, take-append_seam}
use Rattle.rb_history.specs.declared.headers.Header.{Header}
use Rattle.rb_history.specs.Header.{header_bytes, HasFields}
use Rattle.rb_history.specs.Span.{span, eights}
use Rattle.rb_history.specs.TapeBytes.{Item, item_position, item_len, is_skip, payload_of, header_of, page_of, padding, zeros, item_bytes, item_span, IsItemAt}
use Rattle.rb_history.specs.TapeBytes.Item.{Event, Skip}
use Rattle.rb_history.proofs.HeaderLaws.{length-item_bytes, length-payload_of}
use Rattle.rb_tape.specs.declared.fault.TapeKind.{TapeKind}
use Rattle.rb_tape.specs.declared.fault.TapeKind.TheVariants.{Busy, Page, Padding, TooLong, DiscardedBytes, Truncated, Memory}
use Rattle.rb_tape.specs.TapeFront.{StartsWithItem, StartsWithHeader, IsHeaderAt, payload_after, padding_after, IsFirstTapeFault, ShowsFault, IsUndecided}
use Rattle.rb_tape.specs.inner.FrontLook.{item_after, HasWholeItem}
use Rattle.rb_tape.proofs.HeaderBegins.{same_begin}

-- ---- an item, and the header with which it begins

regroup : (a b c d : List ℕ) → ((a ++ b) ++ c) ++ d ≡ a ++ (b ++ (c ++ d))
regroup a b c d = simp append_assoc

-- the bytes after an item's header
abbrev after_item : Item → List ℕ → List ℕ
after_item item rest = payload_of item ++ (zeros (padding (item_len item)) ++ rest)

-- the page of a position in a ring fits in four bytes
item_begins : (size position : ℕ) (bytes : List ℕ) (item : Item) (rest : List ℕ) → page_of size (item_position item) < 2 ^ 32 → StartsWithItem size position bytes item rest → StartsWithHeader bytes (header_of size item) (after_item item rest)
item_begins size position bytes item rest p s = record {
  fields = record { len = s.stands.has_header; page = p };
  text = s.text ∙ regroup (header_bytes (header_of size item)) (payload_of item) (zeros (padding (item_len item))) rest;
}

-- ---- a header that was read

pub begins_bytes : (bytes : List ℕ) (h : Header) → HasFields h → header_bytes h ≡ take 8 bytes → StartsWithHeader bytes h (drop 8 bytes)
begins_bytes bytes h f e = record {
  fields = f;
  text = sym (take-append-drop 8 bytes) ∙ ap (λ x. x ++ drop 8 bytes) (sym e);
}

-- a fault of a header that was read
moved : (size position : ℕ) (kind : TapeKind) (h k : Header) (b c : List ℕ) → h ≡ k → b ≡ c → IsFirstTapeFault size position h b kind → IsFirstTapeFault size position k c kind
moved size position kind h k b c e f x = rw (← e, ← f) x

pub page_fits : (size position : ℕ) → 0 < size → size ≤ 67108864 → page_of size position < 2 ^ 32
page_fits size position p s = omega arith

-- ---- the results exclude each other

-- a whole item shows no fault
sound_header : (size position : ℕ) (item : Item) → IsItemAt size position item → IsHeaderAt size position (header_of size item)
sound_header size position item i = record {
  taken = refl;
  page = ap (page_of size) i.here;
  fits = (i.has_fitted, i.bounded);
}

item_payload : (item : Item) (rest : List ℕ) → take (item_len item) (after_item item rest) ≡ payload_of item
item_payload item rest =
    ap (λ n. take n (after_item item rest)) (sym (length-payload_of item)) ∙ take-append_seam (payload_of item) (zeros (padding (item_len item)) ++ rest)

item_padding : (item : Item) (rest : List ℕ) → take (padding (item_len item)) (drop (item_len item) (after_item item rest)) ≡ zeros (padding (item_len item))
item_padding item rest =
    let z = zeros (padding (item_len item)) in
    let behind : drop (item_len item) (after_item item rest) ≡ z ++ rest =
    ap (λ n. drop n (after_item item rest)) (sym (length-payload_of item)) ∙ drop-append_seam (payload_of item) (z ++ rest) in
    ap (take (padding (item_len item))) behind
    ∙ (ap (λ n. take n (z ++ rest)) (sym (length-replicate (padding (item_len item)) 0)) ∙ take-append_seam z rest)

item_discarded : (item : Item) (rest : List ℕ) → is_skip item ≡ true → take (item_len item) (after_item item rest) ≡ zeros (item_len item)
item_discarded (Event p b) rest e = absurd (false≢true e)
item_discarded (Skip p n) rest e = item_payload (Skip p n) rest

item_faultless : (size position : ℕ) (item : Item) (rest : List ℕ) (kind : TapeKind) → IsItemAt size position item → IsFirstTapeFault size position (header_of size item) (after_item item rest) kind → ⊥
item_faultless size position item rest Busy i x = false≢true x
item_faultless size position item rest Page i x = x.1 (ap (page_of size) i.here)
item_faultless size position item rest TooLong i x = x.2 (i.has_fitted, i.bounded)
item_faultless size position item rest DiscardedBytes i x = x.2.1 (item_discarded item rest x.2.0)
item_faultless size position item rest Padding i x = x.3 (item_padding item rest)
item_faultless size position item rest Truncated i x = x
item_faultless size position item rest Memory i x = x

pub no_item_at_fault : (size position : ℕ) (bytes : List ℕ) (kind : TapeKind) (item : Item) (rest : List ℕ) → 0 < size → size ≤ 67108864 → ShowsFault size position bytes kind → StartsWithItem size position bytes item rest → ⊥
no_item_at_fault size position bytes kind item rest p u (h, behind, b, f) s =
    let begun = item_begins size position bytes item rest (page_fits size (item_position item) p u) s in
    let same = same_begin bytes h (header_of size item) behind (after_item item rest) b begun in
    item_faultless size position item rest kind s.stands (moved size position kind h (header_of size item) behind (after_item item rest) same.0 same.1 f)

one_kind : (size position : ℕ) (h : Header) (b : List ℕ) (kind other : TapeKind) → IsFirstTapeFault size position h b kind → IsFirstTapeFault size position h b other → kind ≡ other
one_kind size position h b Busy Busy x y = refl
one_kind size position h b Busy Page x y = absurd (true≢false (sym x ∙ y.0))
one_kind size position h b Busy TooLong x y = absurd (true≢false (sym x ∙ y.0))
one_kind size position h b Busy DiscardedBytes x y = absurd (true≢false (sym x ∙ y.0.taken))
one_kind size position h b Busy Padding x y = absurd (true≢false (sym x ∙ y.0.taken))
one_kind size position h b Page Busy x y = absurd (true≢false (sym y ∙ x.0))
one_kind size position h b Page Page x y = refl
one_kind size position h b Page TooLong x y = absurd (x.1 y.1)
one_kind size position h b Page DiscardedBytes x y = absurd (x.1 y.0.page)
one_kind size position h b Page Padding x y = absurd (x.1 y.0.page)
one_kind size position h b TooLong Busy x y = absurd (true≢false (sym y ∙ x.0))
one_kind size position h b TooLong Page x y = absurd (y.1 x.1)
one_kind size position h b TooLong TooLong x y = refl
one_kind size position h b TooLong DiscardedBytes x y = absurd (x.2 y.0.fits)
one_kind size position h b TooLong Padding x y = absurd (x.2 y.0.fits)
one_kind size position h b DiscardedBytes Busy x y = absurd (true≢false (sym y ∙ x.0.taken))
one_kind size position h b DiscardedBytes Page x y = absurd (y.1 x.0.page)
one_kind size position h b DiscardedBytes TooLong x y = absurd (y.2 x.0.fits)
one_kind size position h b DiscardedBytes DiscardedBytes x y = refl
one_kind size position h b DiscardedBytes Padding x y = absurd (y.2 x.2)
one_kind size position h b Padding Busy x y = absurd (true≢false (sym y ∙ x.0.taken))
one_kind size position h b Padding Page x y = absurd (y.1 x.0.page)
one_kind size position h b Padding TooLong x y = absurd (y.2 x.0.fits)
one_kind size position h b Padding DiscardedBytes x y = absurd (x.2 y.2)
one_kind size position h b Padding Padding x y = refl
one_kind size position h b Busy Truncated x y = absurd y
one_kind size position h b Busy Memory x y = absurd y
one_kind size position h b Page Truncated x y = absurd y
one_kind size position h b Page Memory x y = absurd y
one_kind size position h b TooLong Truncated x y = absurd y
one_kind size position h b TooLong Memory x y = absurd y
one_kind size position h b DiscardedBytes Truncated x y = absurd y
one_kind size position h b DiscardedBytes Memory x y = absurd y
one_kind size position h b Padding Truncated x y = absurd y
one_kind size position h b Padding Memory x y = absurd y
one_kind size position h b Truncated Busy x y = absurd x
one_kind size position h b Truncated Page x y = absurd x
one_kind size position h b Truncated TooLong x y = absurd x
one_kind size position h b Truncated DiscardedBytes x y = absurd x
one_kind size position h b Truncated Padding x y = absurd x
one_kind size position h b Truncated Truncated x y = absurd x
one_kind size position h b Truncated Memory x y = absurd x
one_kind size position h b Memory Busy x y = absurd x
one_kind size position h b Memory Page x y = absurd x
one_kind size position h b Memory TooLong x y = absurd x
one_kind size position h b Memory DiscardedBytes x y = absurd x
one_kind size position h b Memory Padding x y = absurd x
one_kind size position h b Memory Truncated x y = absurd x
one_kind size position h b Memory Memory x y = absurd x

-- bytes show at most one first fault
pub one_fault : (size position : ℕ) (bytes : List ℕ) (kind other : TapeKind) → ShowsFault size position bytes kind → ShowsFault size position bytes other → kind ≡ other
one_fault size position bytes kind other (h, b, x, f) (k, c, y, g) =
    let same = same_begin bytes k h c b y x in
    one_kind size position h b kind other f (moved size position other k h c b same.0 same.1 g)

-- ---- too few bytes

pub item_length : (size position : ℕ) (bytes : List ℕ) (item : Item) (rest : List ℕ) → StartsWithItem size position bytes item rest → length bytes ≡ item_span item + length rest
item_length size position bytes item rest s =
    let whole : length bytes ≡ length (item_bytes size item) + length rest = ap length s.text ∙ length-append (item_bytes size item) rest in
    let own = length-item_bytes size item in
    omega arith

begun_length : (bytes : List ℕ) (h : Header) (behind : List ℕ) → StartsWithHeader bytes h behind → length bytes ≡ 8 + length behind
begun_length bytes h behind b = ap length b.text ∙ length-append (header_bytes h) behind

-- there is not even a whole header
pub part_short : (size position : ℕ) (bytes : List ℕ) → length bytes < 8 → IsUndecided size position bytes
part_short size position bytes l = record {
  no_item = λ item rest s. let e = item_length size position bytes item rest s in absurd (omega arith);
  no_fault = λ kind s. let e = begun_length bytes s.0 s.1 s.2 in absurd (omega arith);
}

cut_faultless : (size position : ℕ) (h : Header) (b : List ℕ) (kind : TapeKind) → IsHeaderAt size position h → 8 + length b < span h.len → IsFirstTapeFault size position h b kind → ⊥
cut_faultless size position h b Busy i l x = false≢true (sym i.taken ∙ x)
cut_faultless size position h b Page i l x = x.1 i.page
cut_faultless size position h b TooLong i l x = x.2 i.fits
cut_faultless size position h b DiscardedBytes i l x = let there = x.1 in omega arith
cut_faultless size position h b Padding i l x = let there = x.1 in omega arith
cut_faultless size position h b Truncated i l x = x
cut_faultless size position h b Memory i l x = x

-- the header is available and shows no fault, but not all bytes of its record are
pub part_cut : (size position : ℕ) (bytes : List ℕ) (h : Header) → 0 < size → size ≤ 67108864 → StartsWithHeader bytes h (drop 8 bytes) → IsHeaderAt size position h → length bytes < span h.len → IsUndecided size position bytes
part_cut size position bytes h p u b i l = record {
  no_item = λ item rest s.
      let begun = item_begins size position bytes item rest (page_fits size (item_position item) p u) s in
      let same = same_begin bytes h (header_of size item) (drop 8 bytes) (after_item item rest) b begun in
      let len : h.len ≡ item_len item = ap (λ (k : Header). k.len) same.0 in
      let spans : span h.len ≡ item_span item = ap span len in
      let e = item_length size position bytes item rest s in
      absurd (omega arith);
  no_fault = λ kind s.
      let same = same_begin bytes s.0 h s.1 (drop 8 bytes) s.2 b in
      let e = begun_length bytes h (drop 8 bytes) b in
      cut_faultless size position h (drop 8 bytes) kind i (omega arith) (moved size position kind s.0 h s.1 (drop 8 bytes) same.0 same.1 s.3);
}

-- ---- a whole record

drop-plus : (m n : ℕ) (xs : List ℕ) → m ≤ length xs → drop (m + n) xs ≡ drop n (drop m xs)
drop-plus m n xs l =
    ap (λ k. drop (k + n) xs) (sym (length-take-le m xs l))
    ∙ (ap (drop (length (take m xs) + n)) (sym (take-append-drop m xs)) ∙ drop-append-add (take m xs) (drop m xs) n)

-- the item of a header that shows no fault, if all its bytes are available and its padding is zeros
module _ (size position : ℕ) (bytes : List ℕ) (h : Header) (b : StartsWithHeader bytes h (drop 8 bytes)) (at : IsHeaderAt size position h) (there : span h.len ≤ length bytes) (filled : padding_after h (drop 8 bytes) ≡ zeros (padding h.len)) where
  -- the three parts of the bytes
  parts : bytes ≡ ((header_bytes h ++ payload_after h (drop 8 bytes)) ++ zeros (padding h.len)) ++ drop (span h.len) bytes
  parts =
      let behind = drop 8 bytes in
      let long : length behind ≡ length bytes - 8 = length-drop 8 bytes in
      let up : h.len + padding h.len ≡ 8 * eights h.len = omega arith in
      let within : h.len ≤ length behind = omega arith in
      let first : behind ≡ take h.len behind ++ drop h.len behind = sym (take-append-drop h.len behind) in
      let second : drop h.len behind ≡ take (padding h.len) (drop h.len behind) ++ drop (padding h.len) (drop h.len behind) = sym (take-append-drop (padding h.len) (drop h.len behind)) in
      let last : drop (span h.len) bytes ≡ drop (padding h.len) (drop h.len behind) =
      ap (λ n. drop n bytes) (let e : span h.len ≡ 8 + (h.len + padding h.len) = omega arith in e)
      ∙ (drop-plus 8 (h.len + padding h.len) bytes (omega arith) ∙ drop-plus h.len (padding h.len) behind within) in
      let joined : behind ≡ take h.len behind ++ (zeros (padding h.len) ++ drop (span h.len) bytes) =
      first ∙ ap (λ x. take h.len behind ++ x) (second ∙ (ap (λ x. x ++ drop (padding h.len) (drop h.len behind)) filled ∙ ap (λ x. zeros (padding h.len) ++ x) (sym last))) in
      b.text ∙ ap (λ x. header_bytes h ++ x) joined ∙ sym (regroup (header_bytes h) (payload_after h behind) (zeros (padding h.len)) (drop (span h.len) bytes))

  stands : (item : Item) → item_position item ≡ position → item_len item ≡ h.len → IsItemAt size position item
  stands item p l =
      let spans : item_span item ≡ span h.len = ap span l in
      let few = b.fields.len in
      let fits = at.fits.0 in
      let ends = at.fits.1 in
      record { here = p; has_header = omega arith; has_fitted = omega arith; bounded = omega arith }

  starts : (item : Item) → item_position item ≡ position → item_len item ≡ h.len → header_of size item ≡ h → payload_of item ≡ payload_after h (drop 8 bytes) → StartsWithItem size position bytes item (drop (span h.len) bytes)
  starts item p l e f = record {
    stands = stands item p l;
    text = let own : item_bytes size item ≡ (header_bytes h ++ payload_after h (drop 8 bytes)) ++ zeros (padding h.len) = cc in parts ∙ ap (λ x. x ++ drop (span h.len) bytes) (sym own);
  }

-- ---- the two parts after a header

filled_span : (h : Header) → span h.len - 8 ≡ h.len + padding h.len
filled_span h = omega arith

pub payload_part : (bytes p : List ℕ) (h : Header) → p ≡ take h.len (take (span h.len - 8) (drop 8 bytes)) → p ≡ payload_after h (drop 8 bytes)
payload_part bytes p h e =
    let behind = drop 8 bytes in
    let cut : take h.len (take (h.len + padding h.len) behind) ≡ take h.len behind = take-take h.len (h.len + padding h.len) behind (omega arith) in
    e ∙ ap (λ n. take h.len (take n behind)) (filled_span h) ∙ cut

pub padding_part : (bytes p : List ℕ) (h : Header) → p ≡ drop h.len (take (span h.len - 8) (drop 8 bytes)) → p ≡ padding_after h (drop 8 bytes)
padding_part bytes p h e = e ∙ ap (λ n. drop h.len (take n (drop 8 bytes))) (filled_span h) ∙ drop-take h.len (padding h.len) (drop 8 bytes)

pub are_zeros : (p q : List ℕ) (n : ℕ) → p ≡ q → length p ≡ n → p ≡ zeros (length p) → q ≡ zeros n
are_zeros p q n e l z = sym e ∙ z ∙ ap zeros l

pub were_zeros : (p q : List ℕ) (n : ℕ) → p ≡ q → length p ≡ n → q ≡ zeros n → p ≡ zeros (length p)
were_zeros p q n e l z = e ∙ z ∙ ap zeros (sym l)

-- ---- the rest of the bytes that arrived

pub rest_is : (xs ys : List ℕ) (at : ℕ) → xs ≡ ys → take (length xs - at) (drop at xs) ≡ drop at ys
rest_is xs ys at e = take_rest xs at ∙ ap (drop at) e

pub shows_there : (size position : ℕ) (r s : List ℕ) (kind : TapeKind) → r ≡ s → ShowsFault size position r kind → ShowsFault size position s kind
shows_there size position r s kind e x = rw (← e) x

pub part_there : (size position : ℕ) (r s : List ℕ) → r ≡ s → IsUndecided size position r → IsUndecided size position s
part_there size position r s e x = rw (← e) x

chosen_length : (d : Bool) (position n : ℕ) (bytes : List ℕ) → n ≤ length bytes → item_len (cond d (Skip position n) (Event position (take n bytes))) ≡ n
chosen_length true position n bytes l = refl
chosen_length false position n bytes l = length-take-le n bytes l

item_spans : (size position : ℕ) (bytes : List ℕ) (h : Header) → HasWholeItem size position bytes h → item_span (item_after position h (drop 8 bytes)) ≡ span h.len
item_spans size position bytes h w =
    let there = w.there in
    let long = length-drop 8 bytes in
    ap span (chosen_length h.discard position h.len (drop 8 bytes) (omega arith))

pub starts_there : (size position at : ℕ) (items r s : List ℕ) (h : Header) (item : Item) → r ≡ drop at items → s ≡ drop at items → at ≤ length items → HasWholeItem size position r h → item ≡ item_after position h (drop 8 s) → StartsWithItem size position (drop at items) item (drop (at + span h.len) items)
starts_there size position at items r s h item e f l w i =
    let whole : HasWholeItem size position (drop at items) h = rw (← e) w in
    let same : item ≡ item_after position h (drop 8 (drop at items)) = i ∙ ap (λ (x : List ℕ). item_after position h (drop 8 x)) f in
    rw (same, drop-plus at (span h.len) items l) whole.starts

pub spans_there : (size position : ℕ) (rest r s : List ℕ) (h : Header) (item : Item) → r ≡ rest → s ≡ rest → HasWholeItem size position r h → item ≡ item_after position h (drop 8 s) → item_span item ≡ span h.len
spans_there size position rest r s h item e f w i =
    ap item_span (i ∙ ap (λ (x : List ℕ). item_after position h (drop 8 x)) (f ∙ sym e)) ∙ item_spans size position r h w
