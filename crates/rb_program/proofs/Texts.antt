-- Hex text: the crate `hex` computes the relation between digits and bytes; and the results that a text excludes.
use Rattle.std.proofs.Common.{◌≡◌, ℕ, ◌+◌, ◌-◌, ◌*◌, ◌%◌, ◌<◌, ◌≤◌, ◌⊎◌, inl, inr, Bool, true, false, cond, ◌&&◌, leb, eqb, List, [], ◌∷◌, length, Option, Some, None, Result, Ok, Err, refl, sym, ap, subst, ◌∙◌, arith}
use Rattle.std.specs.Prelude.{IfOk, IfErr}
use Rattle.std.proofs.lemmas.Bool.{leb-true, le-leb}
use Rattle.rb_insn.specs.declared.insn.Insn.{Insn}
use Rattle.rb_insn.specs.Spelling.{SpellsAll}
use Rattle.rb_insn.proofs.Laws.{one_list_spells}
use Rattle.hex.specs.Hex.{hex_digit_value, digit_or_error, value_at, pair_value, decode_pairs, decode_of, ◌>>=◌}
use Rattle.hex.specs.declared.error.FromHexError.{FromHexError}
use Rattle.hex.specs.declared.error.FromHexError.TheVariants.{InvalidHexCharacter, OddLength, InvalidStringLength, OutOfMemory}
use Rattle.rb_program.specs.declared.fault.DecodeFault.{DecodeFault}
use Rattle.rb_program.specs.declared.fault.TextFault.{TextFault}
use Rattle.rb_program.specs.declared.fault.TextFault.TheVariants.{NotHex, Memory, Decode}
use Rattle.rb_program.specs.declared.fault.DecodeKind.{DecodeKind}
use Rattle.rb_program.specs.declared.fault.DecodeKind.TheVariants as kinds
use Rattle.rb_program.specs.FirstDecodeFault.{decode_no_memory, IsFirstDecodeFault}
use Rattle.rb_program.specs.Program.{IsProgram}
use Rattle.rb_program.specs.Text.{IsHexDigit, IsHexOf}
use Rattle.rb_program.specs.TextFaults.{hex_fault_of, text_fault_of}
use Rattle.rb_program.specs.inner.TextFaults.{IsTextFault}
use Rattle.rb_program.proofs.FirstFaults.{spelled_no_fault, one_first_fault}

-- ---- digits

and_parts : (a b : Bool) → (a && b) ≡ true → (a ≡ true) × (b ≡ true)
and_parts true b h = (refl, h)
and_parts false b h = absurd cc

and_false : (a b : Bool) → (a && b) ≡ false → (a ≡ false) ⊎ (b ≡ false)
and_false true b h = inr h
and_false false b h = inl refl

not_true : (b : Bool) → (b ≡ true → ⊥) → b ≡ false
not_true true h = absurd (h refl)
not_true false h = refl

-- a test of two bounds
within : (a b c : ℕ) → (leb a c && leb c b) ≡ true → (a ≤ c) × (c ≤ b)
within a b c h = let parts = and_parts (leb a c) (leb c b) h in (leb-true a c parts.0, leb-true c b parts.1)

is_within : (a b c : ℕ) → a ≤ c → c ≤ b → (leb a c && leb c b) ≡ true
is_within a b c low high = let l = le-leb a c low in let h = le-leb c b high in rw (l, h) refl

is_without : (a b c : ℕ) → (c < a) ⊎ (b < c) → (leb a c && leb c b) ≡ false
is_without a b c out = not_true (leb a c && leb c b) (λ h. let parts = within a b c h in elim out [ inl low ↦ absurd (omega arith) | inr high ↦ absurd (omega arith) ])

-- the value of a digit, from the three tests
from_tests : (a b d : Bool) (c : ℕ) (v : ℕ) → cond a (Some (c - 55)) (cond b (Some (c - 87)) (cond d (Some (c - 48)) None)) ≡ Some v
    → ((a ≡ true) × (c - 55 ≡ v)) ⊎ (((b ≡ true) × (c - 87 ≡ v)) ⊎ ((d ≡ true) × (c - 48 ≡ v)))
from_tests true b d c v e = inl (refl, cc)
from_tests false true d c v e = inr (inl (refl, cc))
from_tests false false true c v e = inr (inr (refl, cc))
from_tests false false false c v e = absurd cc

digit_of-value : (c v : ℕ) → hex_digit_value c ≡ Some v → IsHexDigit c v
digit_of-value c v e =
    elim (from_tests (leb 65 c && leb c 70) (leb 97 c && leb c 102) (leb 48 c && leb c 57) c v e) [
      | inl h ↦ let in_range = within 65 70 c h.0 in let is = h.1 in inr (inl (in_range.0, in_range.1, omega arith))
      | inr h ↦ elim h [
        | inl h ↦ let in_range = within 97 102 c h.0 in let is = h.1 in inr (inr (in_range.0, in_range.1, omega arith))
        | inr h ↦ let in_range = within 48 57 c h.0 in let is = h.1 in inl (in_range.0, in_range.1, omega arith)
      ]
    ]

value-of_digit : (c v : ℕ) → IsHexDigit c v → hex_digit_value c ≡ Some v
value-of_digit c v (inl h) =
    let low = h.0 in
    let high = h.1 in
    let is = h.2 in
    let a = is_without 65 70 c (inl (omega arith)) in
    let b = is_without 97 102 c (inl (omega arith)) in
    let d = is_within 48 57 c low high in
    rw (a, b, d) (ap Some (omega arith))
value-of_digit c v (inr (inl h)) =
    let low = h.0 in
    let high = h.1 in
    let is = h.2 in
    let a = is_within 65 70 c low high in
    rw a (ap Some (omega arith))
value-of_digit c v (inr (inr h)) =
    let low = h.0 in
    let high = h.1 in
    let is = h.2 in
    let a = is_without 65 70 c (inr (omega arith)) in
    let b = is_within 97 102 c low high in
    rw (a, b) (ap Some (omega arith))

-- ---- pairs

bind_ok : {A B : Type 0} (r : Result A FromHexError) (f : A → Result B FromHexError) (y : B) → (r >>= f) ≡ Ok y → (x : A) × (r ≡ Ok x) × (f x ≡ Ok y)
bind_ok (Ok x) f y e = (x, refl, e)
bind_ok (Err d) f y e = absurd cc

value_ok : (c i v : ℕ) (o : Option ℕ) → digit_or_error c i o ≡ Ok v → o ≡ Some v
value_ok c i v (Some w) e = ap Some cc
value_ok c i v None e = absurd cc

abbrev done : {A : Type 0} → A → Result A FromHexError
done x = Ok x

ok_is : {A : Type 0} (x y : A) → done x ≡ done y → x ≡ y
ok_is x y e = cc

-- the next pair
pair_read : (i high low byte : ℕ) → pair_value high low i ≡ Ok byte → (h : ℕ) × (l : ℕ) × IsHexDigit high h × IsHexDigit low l × (byte ≡ 16 * h + l)
pair_read i high low byte e =
    let first = bind_ok (value_at high i) (λ h. value_at low (i + 1) >>= λ l. Ok (h * 16 + l)) byte e in
    let second = bind_ok (value_at low (i + 1)) (λ l. Ok (first.0 * 16 + l)) byte first.2 in
    let h = digit_of-value high first.0 (value_ok high i first.0 (hex_digit_value high) first.1) in
    let l = digit_of-value low second.0 (value_ok low (i + 1) second.0 (hex_digit_value low) second.1) in
    let sum : first.0 * 16 + second.0 ≡ byte = ok_is (first.0 * 16 + second.0) byte second.2 in
    (first.0, second.0, h, l, omega arith)

value_read : (c i v : ℕ) → IsHexDigit c v → value_at c i ≡ Ok v
value_read c i v d = ap (digit_or_error c i) (value-of_digit c v d)

pair_again : (i high low h l : ℕ) → IsHexDigit high h → IsHexDigit low l → pair_value high low i ≡ Ok (16 * h + l)
pair_again i high low h l dh dl =
    ap (λ (r : Result ℕ FromHexError). r >>= (λ x. value_at low (i + 1) >>= λ y. Ok (x * 16 + y))) (value_read high i h dh)
    ∙ ap (λ (r : Result ℕ FromHexError). r >>= (λ y. Ok (h * 16 + y))) (value_read low (i + 1) l dl)
    ∙ ap done (omega arith)

is_hex-cons : (high low byte : ℕ) (text bytes all : List ℕ) → (byte ∷ bytes) ≡ all → (h : ℕ) × (l : ℕ) × IsHexDigit high h × IsHexDigit low l × (byte ≡ 16 * h + l)
    → IsHexOf text bytes → IsHexOf (high ∷ low ∷ text) all
is_hex-cons high low byte text bytes all e pair rest = subst (IsHexOf (high ∷ low ∷ text)) e (pair.0, pair.1, pair.2, pair.3, pair.4, rest)

pairs_read : (i : ℕ) (text bytes : List ℕ) → decode_pairs i text ≡ Ok bytes → IsHexOf text bytes
unfolding decode_pairs
pairs_read i [] [] e = tt
pairs_read i [] (byte ∷ bytes) e = absurd cc
pairs_read i (digit ∷ []) bytes e = absurd cc
pairs_read i (high ∷ low ∷ text) bytes e =
    let first = bind_ok (pair_value high low i) (λ byte. decode_pairs (i + 2) text >>= λ rest. Ok (byte ∷ rest)) bytes e in
    let rest = bind_ok (decode_pairs (i + 2) text) (λ rest. Ok (first.0 ∷ rest)) bytes first.2 in
    is_hex-cons high low first.0 text rest.0 bytes (ok_is (first.0 ∷ rest.0) bytes rest.2) (pair_read i high low first.0 first.1) (pairs_read (i + 2) text rest.0 rest.1)

pairs_again : (i : ℕ) (text bytes : List ℕ) → IsHexOf text bytes → decode_pairs i text ≡ Ok bytes
unfolding decode_pairs
pairs_again i [] [] h = refl
pairs_again i [] (byte ∷ bytes) h = absurd h
pairs_again i (digit ∷ []) bytes h = absurd h
pairs_again i (high ∷ low ∷ text) [] h = absurd h
pairs_again i (high ∷ low ∷ text) (byte ∷ bytes) h =
    ap (λ (r : Result ℕ FromHexError). r >>= (λ x. decode_pairs (i + 2) text >>= λ rest. Ok (x ∷ rest))) (pair_again i high low h.0 h.1 h.2 h.3 ∙ ap done (sym h.4))
    ∙ ap (λ (r : Result (List ℕ) FromHexError). r >>= (λ rest. Ok (byte ∷ rest))) (pairs_again (i + 2) text bytes h.5)

even : (text bytes : List ℕ) → IsHexOf text bytes → length text % 2 ≡ 0
even [] [] h = refl
even [] (byte ∷ bytes) h = absurd h
even (digit ∷ []) bytes h = absurd h
even (high ∷ low ∷ text) [] h = absurd h
even (high ∷ low ∷ text) (byte ∷ bytes) h = omega (arith, even text bytes h.5)

not_odd : {A : Type 0} (b : Bool) (x y z : A) → cond b x y ≡ z → b ≡ false → y ≡ z
not_odd true x y z e h = absurd cc
not_odd false x y z e h = e

-- what the crate reads is what the digits encode
odd_or_pairs : (b : Bool) (text bytes : List ℕ) → cond b (Err OddLength) (decode_pairs 0 text) ≡ Ok bytes → decode_pairs 0 text ≡ Ok bytes
odd_or_pairs true text bytes e = absurd cc
odd_or_pairs false text bytes e = e

pub decode_of-is_hex : (text bytes : List ℕ) → decode_of text ≡ Ok bytes → IsHexOf text bytes
decode_of-is_hex text bytes e = pairs_read 0 text bytes (odd_or_pairs (eqb (length text % 2) 1) text bytes e)

pub is_hex-decode_of : (text bytes : List ℕ) → IsHexOf text bytes → decode_of text ≡ Ok bytes
is_hex-decode_of text bytes h = let e = even text bytes h in rw e (pairs_again 0 text bytes h)

-- the digits encode at most one list of bytes
pub one_list_of_bytes : (text a b : List ℕ) → IsHexOf text a → IsHexOf text b → a ≡ b
one_list_of_bytes text a b ha hb = ok_is a b (sym (is_hex-decode_of text a ha) ∙ is_hex-decode_of text b hb)

-- ---- the result for a text

pub record IsTextAnswer (digits : List ℕ) (answer : Result (List Insn) TextFault) : Type 0 where
  pub bounds : IfOk answer IsProgram
  pub spelled : IfOk answer (λ program. (bytes : List ℕ) × IsHexOf digits bytes × SpellsAll program bytes)
  pub fault : IfErr answer (IsTextFault digits)

pub only_hex : (digits : List ℕ) (answer : Result (List Insn) TextFault) → IsTextAnswer digits answer → ((bytes : List ℕ) → IsHexOf digits bytes → ⊥)
    → (answer ≡ Err NotHex) ⊎ (answer ≡ Err Memory)
only_hex digits (Ok program) is none = absurd (none is.spelled.0 is.spelled.1)
only_hex digits (Err NotHex) is none = inl refl
only_hex digits (Err Memory) is none = inr refl
only_hex digits (Err (Decode fault)) is none = absurd (none is.fault.0 is.fault.1)

pub text_program : (digits : List ℕ) (answer : Result (List Insn) TextFault) → IsTextAnswer digits answer → (bytes : List ℕ) (program : List Insn) → IsHexOf digits bytes
    → IsProgram program → SpellsAll program bytes → (answer ≡ Ok program) ⊎ (answer ≡ Err Memory)
text_program digits (Ok found) is bytes program hex bounds spells =
    let same = one_list_of_bytes digits is.spelled.0 bytes is.spelled.1 hex in
    inl (ap Ok (one_list_spells found program bytes (subst (SpellsAll found) same is.spelled.2) spells))
text_program digits (Err NotHex) is bytes program hex bounds spells = absurd (is.fault bytes hex)
text_program digits (Err Memory) is bytes program hex bounds spells = inr refl
text_program digits (Err (Decode fault)) is bytes program hex bounds spells =
    let same = one_list_of_bytes digits is.fault.0 bytes is.fault.1 hex in
    absurd (spelled_no_fault program bytes fault bounds spells (subst (λ (l : List ℕ). IsFirstDecodeFault l fault) same is.fault.2))

pub text_fault : (digits : List ℕ) (answer : Result (List Insn) TextFault) → IsTextAnswer digits answer → (bytes : List ℕ) (fault : DecodeFault) → IsHexOf digits bytes
    → IsFirstDecodeFault bytes fault → (answer ≡ Err (Decode fault)) ⊎ (answer ≡ Err Memory)
text_fault digits (Ok found) is bytes fault hex first =
    let same = one_list_of_bytes digits is.spelled.0 bytes is.spelled.1 hex in
    absurd (spelled_no_fault found bytes fault is.bounds (subst (SpellsAll found) same is.spelled.2) first)
text_fault digits (Err NotHex) is bytes fault hex first = absurd (is.fault bytes hex)
text_fault digits (Err Memory) is bytes fault hex first = inr refl
text_fault digits (Err (Decode found)) is bytes fault hex first =
    let same = one_list_of_bytes digits is.fault.0 bytes is.fault.1 hex in
    inl (ap (λ (f : DecodeFault). Err (Decode f)) (one_first_fault bytes found fault (subst (λ (l : List ℕ). IsFirstDecodeFault l found) same is.fault.2) first))

-- ---- faults that are passed on

no_bytes : (digits : List ℕ) (e : FromHexError) → decode_of digits ≡ Err e → (bytes : List ℕ) → IsHexOf digits bytes → ⊥
no_bytes digits e h bytes hex = let read = is_hex-decode_of digits bytes hex in absurd cc

pub hex_fault : (digits : List ℕ) (e : FromHexError) → (e ≡ OutOfMemory) ⊎ (decode_of digits ≡ Err e) → IsTextFault digits (hex_fault_of e)
hex_fault digits OutOfMemory h = tt
hex_fault digits OddLength (inl memory) = absurd cc
hex_fault digits OddLength (inr read) = no_bytes digits OddLength read
hex_fault digits InvalidStringLength (inl memory) = absurd cc
hex_fault digits InvalidStringLength (inr read) = no_bytes digits InvalidStringLength read
hex_fault digits (InvalidHexCharacter c index) (inl memory) = absurd cc
hex_fault digits (InvalidHexCharacter c index) (inr read) = no_bytes digits (InvalidHexCharacter c index) read

abbrev fault_at : ℕ → DecodeKind → DecodeFault
fault_at unit kind = record { unit = unit; kind = kind }

kept : (digits bytes : List ℕ) (f : DecodeFault) → IsHexOf digits bytes → (f.kind ≡ kinds.Memory → ⊥) → (f ≡ decode_no_memory) ⊎ IsFirstDecodeFault bytes f
    → (bytes : List ℕ) × IsHexOf digits bytes × IsFirstDecodeFault bytes f
kept digits bytes f hex other (inl memory) = absurd (other (ap (λ (g : DecodeFault). g.kind) memory))
kept digits bytes f hex other (inr first) = (bytes, hex, first)

passed_on : (digits bytes : List ℕ) (unit : ℕ) (kind : DecodeKind) → IsHexOf digits bytes → (fault_at unit kind ≡ decode_no_memory) ⊎ IsFirstDecodeFault bytes (fault_at unit kind)
    → IsTextFault digits (text_fault_of (fault_at unit kind))
passed_on digits bytes unit kinds.Memory hex h = tt
passed_on digits bytes unit kind hex h = kept digits bytes (fault_at unit kind) hex (λ e. absurd cc) h

pub decode_fault : (digits bytes : List ℕ) (f : DecodeFault) → IsHexOf digits bytes → (f ≡ decode_no_memory) ⊎ IsFirstDecodeFault bytes f → IsTextFault digits (text_fault_of f)
decode_fault digits bytes f hex h = passed_on digits bytes f.unit f.kind hex h
