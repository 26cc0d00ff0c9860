-- A header's bytes determine its fields.
use Rattle.std.proofs.Common.{◌≡◌, ℕ, ◌+◌, ◌*◌, ◌/◌, ◌%◌, ◌^◌, ◌<◌, ◌&&◌, Bool, true, false, not, cond, eqb, List, [], ◌∷◌, ◌++◌, length, get_or, take, drop, refl, sym, ap, ◌∙◌, arith, bit_and, inl, inr}
use Rattle.std.proofs.lemmas.List.{get_or-take, get_or-drop}
use borrow.Rule.Slice.PartMut.{mid_of}
use Rattle.std.proofs.lemmas.Nat.{and_mask, from_le_bytes-to_le_bytes_4}
use Rattle.std.proofs.lemmas.Nat.Bits.{and_pow}
use Rattle.std.proofs.lemmas.Bool.{true≢false, and_from, cases_eq, eqb-true, eqb-false, ne_eqb, eq-eqb}
use Rattle.std.specs.Int.{w32, to_le_bytes, from_le_bytes}
use Rattle.rb_history.specs.declared.headers.Header.{Header}
use Rattle.rb_history.specs.Header.{length_word, header_bytes, HasFields, IsHeader, HasBothBits}

-- ---- numbers and their four bytes

-- numbers with the same four bytes are equal
pub same_number : (m n : ℕ) → m < 2 ^ 32 → n < 2 ^ 32 → to_le_bytes w32 m ≡ to_le_bytes w32 n → m ≡ n
same_number m n hm hn e = sym (from_le_bytes-to_le_bytes_4 m hm) ∙ ap (from_le_bytes w32) e ∙ from_le_bytes-to_le_bytes_4 n hn

four_bytes : (a b c d : ℕ) → a < 256 → b < 256 → c < 256 → d < 256 → to_le_bytes w32 (a + 256 * (b + 256 * (c + 256 * d))) ≡ a ∷ b ∷ c ∷ d ∷ []
four_bytes a b c d ha hb hc hd =
    let n = a + 256 * (b + 256 * (c + 256 * d)) in
    let e0 : n % 256 ≡ a = omega arith in
    let e1 : n / 256 % 256 ≡ b = omega arith in
    let e2 : n / 65536 % 256 ≡ c = omega arith in
    let e3 : n / 16777216 % 256 ≡ d = omega arith in
    cc

eight_cells : (bs : List ℕ) → length bs ≡ 8 → get_or bs 0 0 ∷ get_or bs 1 0 ∷ get_or bs 2 0 ∷ get_or bs 3 0 ∷ get_or bs 4 0 ∷ get_or bs 5 0 ∷ get_or bs 6 0 ∷ get_or bs 7 0 ∷ [] ≡ bs
eight_cells (a ∷ b ∷ c ∷ d ∷ e ∷ f ∷ g ∷ h ∷ []) l = refl
eight_cells _ l = absurd (omega arith)

-- the number whose bytes are the four from index i
abbrev pub number_at : List ℕ → ℕ → ℕ
number_at bs i = get_or bs i 0 + 256 * (get_or bs (i + 1) 0 + 256 * (get_or bs (i + 2) 0 + 256 * get_or bs (i + 3) 0))

-- eight bytes are the four bytes of one number followed by those of another
pub two_numbers : (bs : List ℕ) (word page : ℕ) → length bs ≡ 8 → ((i : ℕ) → get_or bs i 0 < 256) → word ≡ number_at bs 0 → page ≡ number_at bs 4 → to_le_bytes w32 word ++ to_le_bytes w32 page ≡ bs
two_numbers bs word page l fits ew ep =
    let first : to_le_bytes w32 word ≡ get_or bs 0 0 ∷ get_or bs 1 0 ∷ get_or bs 2 0 ∷ get_or bs 3 0 ∷ [] =
    ap (to_le_bytes w32) ew ∙ four_bytes (get_or bs 0 0) (get_or bs 1 0) (get_or bs 2 0) (get_or bs 3 0) (fits 0) (fits 1) (fits 2) (fits 3) in
    let second : to_le_bytes w32 page ≡ get_or bs 4 0 ∷ get_or bs 5 0 ∷ get_or bs 6 0 ∷ get_or bs 7 0 ∷ [] =
    ap (to_le_bytes w32) ep ∙ four_bytes (get_or bs 4 0) (get_or bs 5 0) (get_or bs 6 0) (get_or bs 7 0) (fits 4) (fits 5) (fits 6) (fits 7) in
    let joined : (xs ys zs ws : List ℕ) → xs ≡ zs → ys ≡ ws → xs ++ ys ≡ zs ++ ws = λ xs ys zs ws e f. cc in
    joined _ _ _ _ first second ∙ eight_cells bs l

-- ---- the length word and its fields

-- tests one bit of the word
abbrev pub bit_test : ℕ → ℕ → Bool
bit_test word mask = not (eqb (bit_and word mask) 0)

pub bit_set : (word mask : ℕ) → (bit_and word mask ≡ 0 → ⊥) → bit_test word mask ≡ true
bit_set word mask h = rw (ne_eqb (bit_and word mask) 0 h) refl

pub bit_clear : (word mask : ℕ) → bit_and word mask ≡ 0 → bit_test word mask ≡ false
bit_clear word mask h = rw (eq-eqb (bit_and word mask) 0 h) refl

-- the header that the code reads from the two numbers
abbrev pub fields_of : ℕ → ℕ → Header
fields_of word page = record { len = bit_and word 1073741823; busy = bit_test word 2147483648; discard = bit_test word 1073741824; page = page }

-- a set bit contributes its value
worth : (word k : ℕ) → cond (bit_test word (2 ^ k)) (2 ^ k) 0 ≡ bit_and word (2 ^ k)
worth word k = by (eqb (bit_and word (2 ^ k)) 0) refl
  where
    bit : bit_and word (2 ^ k) ≡ word / 2 ^ k % 2 * 2 ^ k
    bit = and_pow word k

    one : (eqb (bit_and word (2 ^ k)) 0 ≡ false) → word / 2 ^ k % 2 ≡ 1
    one e = elim (cases_eq (word / 2 ^ k % 2) 0) [
      | inl z ↦ absurd (eqb-false _ _ e (bit ∙ ap (λ (x : ℕ). x * 2 ^ k) z ∙ omega arith))
      | inr z ↦ omega arith
    ]

    by : (b : Bool) → eqb (bit_and word (2 ^ k)) 0 ≡ b → cond (not b) (2 ^ k) 0 ≡ bit_and word (2 ^ k)
    by true e = sym (eqb-true _ _ e)
    by false e = sym (bit ∙ ap (λ (x : ℕ). x * 2 ^ k) (one e) ∙ omega arith)

pub word_of_fields : (word page : ℕ) → word < 2 ^ 32 → length_word (fields_of word page) ≡ word
word_of_fields word page h =
    let low : bit_and word 1073741823 ≡ word % 2 ^ 30 = and_mask word 30 in
    let discard : cond (bit_test word 1073741824) 1073741824 0 ≡ bit_and word 1073741824 = worth word 30 in
    let busy : cond (bit_test word 2147483648) 2147483648 0 ≡ bit_and word 2147483648 = worth word 31 in
    let discard_bit : bit_and word 1073741824 ≡ word / 2 ^ 30 % 2 * 2 ^ 30 = and_pow word 30 in
    let busy_bit : bit_and word 2147483648 ≡ word / 2 ^ 31 % 2 * 2 ^ 31 = and_pow word 31 in
    rw (low, discard, busy, discard_bit, busy_bit) (omega arith)

pub has_fields : (word page : ℕ) → page < 2 ^ 32 → HasFields (fields_of word page)
has_fields word page h =
    let low : bit_and word 1073741823 ≡ word % 2 ^ 30 = and_mask word 30 in
    record { len = rw low (omega arith); page = h }

word_fits : (h : Header) → HasFields h → length_word h < 2 ^ 32
word_fits h f = by h.discard h.busy
  where
    by : (d b : Bool) → h.len + cond d (2 ^ 30) 0 + cond b (2 ^ 31) 0 < 2 ^ 32
    by true true = let l = f.len in omega arith
    by true false = let l = f.len in omega arith
    by false true = let l = f.len in omega arith
    by false false = let l = f.len in omega arith

-- a length word determines the length and both bits
pub same_fields : (m n : ℕ) (d e b c : Bool) → m < 2 ^ 30 → n < 2 ^ 30 → m + cond d (2 ^ 30) 0 + cond b (2 ^ 31) 0 ≡ n + cond e (2 ^ 30) 0 + cond c (2 ^ 31) 0 → (m ≡ n) × (d ≡ e) × (b ≡ c)
same_fields m n true true true true hm hn e = (omega arith, refl, refl)
same_fields m n true true false false hm hn e = (omega arith, refl, refl)
same_fields m n false false true true hm hn e = (omega arith, refl, refl)
same_fields m n false false false false hm hn e = (omega arith, refl, refl)
same_fields m n false false false true hm hn e = absurd (omega arith)
same_fields m n false false true false hm hn e = absurd (omega arith)
same_fields m n false true false false hm hn e = absurd (omega arith)
same_fields m n false true false true hm hn e = absurd (omega arith)
same_fields m n false true true false hm hn e = absurd (omega arith)
same_fields m n false true true true hm hn e = absurd (omega arith)
same_fields m n true false false false hm hn e = absurd (omega arith)
same_fields m n true false false true hm hn e = absurd (omega arith)
same_fields m n true false true false hm hn e = absurd (omega arith)
same_fields m n true false true true hm hn e = absurd (omega arith)
same_fields m n true true false true hm hn e = absurd (omega arith)
same_fields m n true true true false hm hn e = absurd (omega arith)

-- if two concatenations are equal and their first parts have equal lengths, their parts are equal
pub halves : (a b c d : List ℕ) → length a ≡ length c → a ++ b ≡ c ++ d → (a ≡ c) × (b ≡ d)
halves [] b [] d l e = (refl, e)
halves [] b (y ∷ c) d l e = absurd (omega arith)
halves (x ∷ a) b [] d l e = absurd (omega arith)
halves (x ∷ a) b (y ∷ c) d l e =
    let tails : a ++ b ≡ c ++ d = cc in
    let heads : x ≡ y = cc in
    let more = halves a b c d (omega arith) tails in
    (let t = more.0 in cc, more.1)

abbrev header : ℕ → Bool → Bool → ℕ → Header
header l b d p = record { len = l; busy = b; discard = d; page = p }

same_parts : (l m p q : ℕ) (b c d e : Bool) → l ≡ m → b ≡ c → d ≡ e → p ≡ q → header l b d p ≡ header m c e q
same_parts l m p q b c d e hl hb hd hp = cc

-- a header is determined by its bytes
pub same_header : (h k : Header) → HasFields h → HasFields k → header_bytes h ≡ header_bytes k → h ≡ k
same_header h k fh fk e =
    let parts = halves (to_le_bytes w32 (length_word h)) (to_le_bytes w32 h.page) (to_le_bytes w32 (length_word k)) (to_le_bytes w32 k.page) refl e in
    let word = same_number (length_word h) (length_word k) (word_fits h fh) (word_fits k fk) parts.0 in
    let page = same_number h.page k.page fh.page fk.page parts.1 in
    let fields = same_fields h.len k.len h.discard k.discard h.busy k.busy fh.len fk.len word in
    same_parts h.len k.len h.page k.page h.busy k.busy h.discard k.discard fields.0 fields.2 fields.1 page

-- ---- the header that was read

-- the number in the four bytes from index 4
pub second_number : (bs : List ℕ) → number_at (mid_of 4 4 bs) 0 ≡ number_at bs 4
second_number bs =
    let at : (i : ℕ) → i < 4 → get_or (take 4 (drop 4 bs)) i 0 ≡ get_or bs (4 + i) 0 = λ i h. get_or-take 4 (drop 4 bs) i 0 h ∙ get_or-drop 4 bs i 0 in
    let a = at 0 (omega arith) in
    let b = at 1 (omega arith) in
    let c = at 2 (omega arith) in
    let d = at 3 (omega arith) in
    rw (a, b, c, d) refl

module _ (bs : List ℕ) (word page : ℕ) (sized : length bs ≡ 8) (fits : (i : ℕ) → get_or bs i 0 < 256) (first : word ≡ number_at bs 0) (second : page ≡ number_at (mid_of 4 4 bs) 0) where
  pub read_fields : HasFields (fields_of word page)
  read_fields = has_fields word page (let e = second_number bs in omega (arith, fits 4, fits 5, fits 6, fits 7))

  pub read_bytes : header_bytes (fields_of word page) ≡ bs
  read_bytes =
      let below : word < 2 ^ 32 = omega (arith, fits 0, fits 1, fits 2, fits 3) in
      ap (λ (w : ℕ). to_le_bytes w32 w ++ to_le_bytes w32 page) (word_of_fields word page below)
      ∙ two_numbers bs word page sized fits first (second ∙ second_number bs)

  read_same : (h : Header) → HasFields h → header_bytes h ≡ bs → fields_of word page ≡ h
  read_same h f e = same_header (fields_of word page) h read_fields f (read_bytes ∙ sym e)

  -- if both bits are set, no header has these bytes, and they are a fault
  pub no_header : bit_test word 2147483648 ≡ true → bit_test word 1073741824 ≡ true → (h : Header) → IsHeader h → header_bytes h ≡ bs → ⊥
  no_header b d h i e =
      let same = read_same h i.fields e in
      let busy : h.busy ≡ true = sym (ap (λ (k : Header). k.busy) same) ∙ b in
      let discard : h.discard ≡ true = sym (ap (λ (k : Header). k.discard) same) ∙ d in
      true≢false (sym (and_from _ _ busy discard) ∙ i.one_bit)

  pub both_bits : bit_test word 2147483648 ≡ true → bit_test word 1073741824 ≡ true → HasBothBits bs
  both_bits b d = (fields_of word page, read_fields, b, d, read_bytes)

  -- if not both bits are set, the header that was read is the only one with these bytes
  pub read_header : (bit_test word 2147483648 && bit_test word 1073741824) ≡ false → IsHeader (fields_of word page)
  read_header n = record { fields = read_fields; one_bit = n }

  pub only_header : (h : Header) → IsHeader h → header_bytes h ≡ bs → fields_of word page ≡ h
  only_header h i e = read_same h i.fields e

  pub no_fault : (bit_test word 2147483648 && bit_test word 1073741824) ≡ false → HasBothBits bs → ⊥
  no_fault n both =
      let same = read_same both.0 both.1 both.4 in
      let busy : bit_test word 2147483648 ≡ true = ap (λ (k : Header). k.busy) same ∙ both.2 in
      let discard : bit_test word 1073741824 ≡ true = ap (λ (k : Header). k.discard) same ∙ both.3 in
      true≢false (sym (and_from _ _ busy discard) ∙ n)
