-- The first kind of fault at a unit, from what the decoder has found there.
use Rattle.std.proofs.Common.{◌≡◌, ℕ, ◌<◌, ◌≤◌, ◌⊎◌, inl, inr, Bool, true, false, ◌&&◌, List, length, Option, Some, None, refl, sym, ap, subst, arith}
use Rattle.std.specs.Prelude.{IsSomeAnd, IsSome, IsTrue}
use Rattle.std.proofs.lemmas.Bool.{leb-false, leb-true}
use Rattle.rb_program.specs.declared.fields.Fields.{Fields}
use Rattle.rb_program.specs.declared.fault.DecodeKind.{DecodeKind}
use Rattle.rb_program.specs.declared.fault.DecodeKind.TheVariants.{Length, TooLong, LeftOut, BadOpcode, BadRegister, UnusedField, HalfWide, Memory}
use Rattle.rb_program.specs.UnitFields.{fields_at}
use Rattle.rb_program.specs.OpcodeTable.{Allowed, register, any, only, named, Row, row_of}
use Rattle.rb_program.specs.DecodeFaults.{is_left_out, IsBadRegister, HasBadRegister, IsNotAllowed, HasBadSecondUnit, HasUnusedField, HasDecodeFault, kind_order, IsFirstKind}
use Rattle.rb_program.specs.inner.FieldChecks.{fits_register, fits_unused, registers_fit, numbers_fit}

-- ---- registers

bad_register : (a : Allowed) (n : ℕ) → fits_register a n ≡ false → IsBadRegister a n
bad_register register n h = leb-false n 10 h
bad_register any n h = absurd cc
bad_register (only numbers) n h = absurd cc
bad_register (named numbers) n h = absurd cc

good_register : (a : Allowed) (n : ℕ) → fits_register a n ≡ true → IsBadRegister a n → ⊥
good_register register n h bad = let fine : n ≤ 10 = leb-true n 10 h in absurd (omega arith)
good_register any n h bad = bad
good_register (only numbers) n h bad = bad
good_register (named numbers) n h bad = bad

and_false : (a b : Bool) → (a && b) ≡ false → (a ≡ false) ⊎ (b ≡ false)
and_false true b h = inr h
and_false false b h = inl refl

and_true : (a b : Bool) → (a && b) ≡ true → (a ≡ true) × (b ≡ true)
and_true true b h = (refl, h)
and_true false b h = absurd cc

pub has_bad_register : (r : Row) (f : Fields) → registers_fit r f ≡ false → HasBadRegister r f
has_bad_register r f h =
    elim (and_false (fits_register r.dst f.dst) (fits_register r.src f.src) h) [
      | inl e ↦ inl (bad_register r.dst f.dst e)
      | inr e ↦ inr (bad_register r.src f.src e)
    ]

pub has_no_bad_register : (r : Row) (f : Fields) → registers_fit r f ≡ true → HasBadRegister r f → ⊥
has_no_bad_register r f h (inl bad) = good_register r.dst f.dst (and_true (fits_register r.dst f.dst) (fits_register r.src f.src) h).0 bad
has_no_bad_register r f h (inr bad) = good_register r.src f.src (and_true (fits_register r.dst f.dst) (fits_register r.src f.src) h).1 bad

-- ---- other fields

refused : (a : Allowed) (n : ℕ) → fits_unused a n ≡ false → IsNotAllowed a n
refused register n h = absurd cc
refused any n h = absurd cc
refused (only numbers) n h = h
refused (named numbers) n h = absurd cc

not_refused : (a : Allowed) (n : ℕ) → fits_unused a n ≡ true → IsNotAllowed a n → ⊥
not_refused register n h bad = bad
not_refused any n h bad = bad
not_refused (only numbers) n h bad = absurd cc
not_refused (named numbers) n h bad = bad

-- what the row allows in each field of the first unit
pub record NumbersFit (r : Row) (f : Fields) : Type 0 where
  pub dst : fits_unused r.dst f.dst ≡ true
  pub src : fits_unused r.src f.src ≡ true
  pub offset : fits_unused r.offset f.offset ≡ true
  pub imm : fits_unused r.imm f.imm ≡ true

pub numbers_fit-each : (r : Row) (f : Fields) → numbers_fit r f ≡ true → NumbersFit r f
numbers_fit-each r f h =
    let a = and_true (fits_unused r.dst f.dst) (fits_unused r.src f.src && (fits_unused r.offset f.offset && fits_unused r.imm f.imm)) h in
    let b = and_true (fits_unused r.src f.src) (fits_unused r.offset f.offset && fits_unused r.imm f.imm) a.1 in
    let c = and_true (fits_unused r.offset f.offset) (fits_unused r.imm f.imm) b.1 in
    record { dst = a.0; src = b.0; offset = c.0; imm = c.1 }

pub has_unused : (r : Row) (bytes : List ℕ) → numbers_fit r (fields_at bytes) ≡ false → HasUnusedField r bytes
has_unused r bytes h =
    let f = fields_at bytes in
    elim (and_false (fits_unused r.dst f.dst) (fits_unused r.src f.src && (fits_unused r.offset f.offset && fits_unused r.imm f.imm)) h) [
      | inl e ↦ inl (refused r.dst f.dst e)
      | inr e ↦ elim (and_false (fits_unused r.src f.src) (fits_unused r.offset f.offset && fits_unused r.imm f.imm) e) [
        | inl e ↦ inr (inl (refused r.src f.src e))
        | inr e ↦ elim (and_false (fits_unused r.offset f.offset) (fits_unused r.imm f.imm) e) [
          | inl e ↦ inr (inr (inl (refused r.offset f.offset e)))
          | inr e ↦ inr (inr (inr (inl (refused r.imm f.imm e))))
        ]
      ]
    ]

-- the second unit, if present, holds what the row allows
abbrev pub SecondFits : Row → List ℕ → Type 0
SecondFits r bytes = (16 ≤ length bytes) × IsSomeAnd r.next (λ next. HasBadSecondUnit next bytes) → ⊥

pub has_no_unused : (r : Row) (bytes : List ℕ) → numbers_fit r (fields_at bytes) ≡ true → SecondFits r bytes → HasUnusedField r bytes → ⊥
has_no_unused r bytes h second (inl bad) = not_refused r.dst _ (numbers_fit-each r (fields_at bytes) h).dst bad
has_no_unused r bytes h second (inr (inl bad)) = not_refused r.src _ (numbers_fit-each r (fields_at bytes) h).src bad
has_no_unused r bytes h second (inr (inr (inl bad))) = not_refused r.offset _ (numbers_fit-each r (fields_at bytes) h).offset bad
has_no_unused r bytes h second (inr (inr (inr (inl bad)))) = not_refused r.imm _ (numbers_fit-each r (fields_at bytes) h).imm bad
has_no_unused r bytes h second (inr (inr (inr (inr bad)))) = second bad

-- ---- kinds

left : (b : Bool) → b ≡ false → IsTrue b → ⊥
left b h t = absurd cc

at_row : (o : Option Row) (r : Row) (P : Row → Type 0) → o ≡ Some r → P r → IsSomeAnd o P
at_row o r P e p = subst (λ (x : Option Row). IsSomeAnd x P) (sym e) p

of_row : (o : Option Row) (r : Row) (P : Row → Type 0) → o ≡ Some r → IsSomeAnd o P → P r
of_row o r P e p = subst (λ (x : Option Row). IsSomeAnd x P) e p

before_left_out : (bytes : List ℕ) (other : DecodeKind) → kind_order other < kind_order LeftOut → HasDecodeFault other bytes → ⊥
before_left_out bytes Length h stands = stands
before_left_out bytes TooLong h stands = stands
before_left_out bytes Memory h stands = stands
before_left_out bytes other h stands = absurd (omega arith)

pub first_left_out : (bytes : List ℕ) → is_left_out (fields_at bytes) ≡ true → IsFirstKind LeftOut bytes
first_left_out bytes h = record { stands = h; first = before_left_out bytes }

before_bad_opcode : (bytes : List ℕ) → is_left_out (fields_at bytes) ≡ false → (other : DecodeKind) → kind_order other < kind_order BadOpcode → HasDecodeFault other bytes → ⊥
before_bad_opcode bytes kept LeftOut h stands = left (is_left_out (fields_at bytes)) kept stands
before_bad_opcode bytes kept Length h stands = stands
before_bad_opcode bytes kept TooLong h stands = stands
before_bad_opcode bytes kept Memory h stands = stands
before_bad_opcode bytes kept other h stands = absurd (omega arith)

pub first_bad_opcode : (bytes : List ℕ) → is_left_out (fields_at bytes) ≡ false → row_of (fields_at bytes) ≡ None → IsFirstKind BadOpcode bytes
first_bad_opcode bytes kept h = record { stands = h; first = before_bad_opcode bytes kept }

-- what the decoder has found for a unit that is in a row
pub record InRow (r : Row) (bytes : List ℕ) : Type 0 where
  pub kept : is_left_out (fields_at bytes) ≡ false
  pub row : row_of (fields_at bytes) ≡ Some r

no_row : (o : Option Row) (r : Row) → o ≡ Some r → o ≡ None → ⊥
no_row o r e n = absurd cc

before_bad_register : (r : Row) (bytes : List ℕ) → InRow r bytes → (other : DecodeKind) → kind_order other < kind_order BadRegister → HasDecodeFault other bytes → ⊥
before_bad_register r bytes in_row LeftOut h stands = left (is_left_out (fields_at bytes)) in_row.kept stands
before_bad_register r bytes in_row BadOpcode h stands = no_row (row_of (fields_at bytes)) r in_row.row stands
before_bad_register r bytes in_row Length h stands = stands
before_bad_register r bytes in_row TooLong h stands = stands
before_bad_register r bytes in_row Memory h stands = stands
before_bad_register r bytes in_row other h stands = absurd (omega arith)

pub first_bad_register : (r : Row) (bytes : List ℕ) → InRow r bytes → HasBadRegister r (fields_at bytes) → IsFirstKind BadRegister bytes
first_bad_register r bytes in_row bad = record {
  stands = at_row (row_of (fields_at bytes)) r (λ row. HasBadRegister row (fields_at bytes)) in_row.row bad;
  first = before_bad_register r bytes in_row;
}

before_unused : (r : Row) (bytes : List ℕ) → InRow r bytes → (HasBadRegister r (fields_at bytes) → ⊥) → (other : DecodeKind) → kind_order other < kind_order UnusedField → HasDecodeFault other bytes → ⊥
before_unused r bytes in_row good LeftOut h stands = left (is_left_out (fields_at bytes)) in_row.kept stands
before_unused r bytes in_row good BadOpcode h stands = no_row (row_of (fields_at bytes)) r in_row.row stands
before_unused r bytes in_row good BadRegister h stands = good (of_row (row_of (fields_at bytes)) r (λ row. HasBadRegister row (fields_at bytes)) in_row.row stands)
before_unused r bytes in_row good Length h stands = stands
before_unused r bytes in_row good TooLong h stands = stands
before_unused r bytes in_row good Memory h stands = stands
before_unused r bytes in_row good other h stands = absurd (omega arith)

pub first_unused : (r : Row) (bytes : List ℕ) → InRow r bytes → (HasBadRegister r (fields_at bytes) → ⊥) → HasUnusedField r bytes → IsFirstKind UnusedField bytes
first_unused r bytes in_row good bad = record {
  stands = at_row (row_of (fields_at bytes)) r (λ row. HasUnusedField row bytes) in_row.row bad;
  first = before_unused r bytes in_row good;
}

-- the unit has no fault, except that a second unit may be missing
pub none_but_half : (r : Row) (bytes : List ℕ) → InRow r bytes → (HasBadRegister r (fields_at bytes) → ⊥) → (HasUnusedField r bytes → ⊥)
    → (other : DecodeKind) → (other ≡ HalfWide → ⊥) → HasDecodeFault other bytes → ⊥
none_but_half r bytes in_row good used LeftOut h stands = left (is_left_out (fields_at bytes)) in_row.kept stands
none_but_half r bytes in_row good used BadOpcode h stands = no_row (row_of (fields_at bytes)) r in_row.row stands
none_but_half r bytes in_row good used BadRegister h stands = good (of_row (row_of (fields_at bytes)) r (λ row. HasBadRegister row (fields_at bytes)) in_row.row stands)
none_but_half r bytes in_row good used UnusedField h stands = used (of_row (row_of (fields_at bytes)) r (λ row. HasUnusedField row bytes) in_row.row stands)
none_but_half r bytes in_row good used HalfWide h stands = h refl
none_but_half r bytes in_row good used Length h stands = stands
none_but_half r bytes in_row good used TooLong h stands = stands
none_but_half r bytes in_row good used Memory h stands = stands

before_half : (other : DecodeKind) → kind_order other < kind_order HalfWide → other ≡ HalfWide → ⊥
before_half other h e = let same = ap kind_order e in absurd (omega arith)

pub first_half : (r : Row) (bytes : List ℕ) → InRow r bytes → (HasBadRegister r (fields_at bytes) → ⊥) → (HasUnusedField r bytes → ⊥)
    → IsSome r.next → length bytes < 16 → IsFirstKind HalfWide bytes
first_half r bytes in_row good used wide short = record {
  stands = at_row (row_of (fields_at bytes)) r (λ row. IsSome row.next × (length bytes < 16)) in_row.row (wide, short);
  first = λ other h. none_but_half r bytes in_row good used other (before_half other h);
}

half_or_other : (other : DecodeKind) → (other ≡ HalfWide) ⊎ (other ≡ HalfWide → ⊥)
half_or_other HalfWide = inl refl
half_or_other other = inr (λ e. absurd cc)

-- a unit that keeps the rules of its row has no fault
pub no_kind : (r : Row) (bytes : List ℕ) → InRow r bytes → (HasBadRegister r (fields_at bytes) → ⊥) → (HasUnusedField r bytes → ⊥)
    → (IsSome r.next → 16 ≤ length bytes) → (kind : DecodeKind) → HasDecodeFault kind bytes → ⊥
no_kind r bytes in_row good used whole kind stands =
    elim (half_or_other kind) [
      | inl e ↦
          let P : DecodeKind → Type 0 = λ k. HasDecodeFault k bytes in
          let half : HasDecodeFault HalfWide bytes = subst P e stands in
          let both = of_row (row_of (fields_at bytes)) r (λ row. IsSome row.next × (length bytes < 16)) in_row.row half in
          let long : 16 ≤ length bytes = whole both.0 in
          let short : length bytes < 16 = both.1 in
          absurd (omega arith)
      | inr e ↦ none_but_half r bytes in_row good used kind e stands
    ]
