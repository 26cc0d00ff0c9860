-- The eight-byte units of a ring, and the number of records of a row.
use Rattle.std.proofs.Common.{◌≡◌, ℕ, ◌+◌, ◌*◌, ◌-◌, ◌/◌, ◌<◌, ◌≤◌, ◌^◌, List, [], ◌∷◌, length, map, ap, inl, inr, arith}
use Rattle.std.specs.Int.{IsPowerOfTwo}
use Rattle.std.proofs.lemmas.Bool.{cases_lt}
use Rattle.std.proofs.lemmas.Nat.{pow_below, pow-add}
use Rattle.rb_history.specs.Span.{span}
use Rattle.rb_history.specs.declared.stored_records.StoredRecord.{StoredRecord}
use Rattle.rb_history.specs.inner.RecordRows.{InRow}
use Rattle.rb_history.specs.StoredRecords.{shown_record}
use Rattle.rb_history.specs.RingModel.{IsRingSize}

-- a size is eight times a power of two
eighth : (size : ℕ) → IsRingSize size → (k : ℕ) × (size ≡ 8 * 2 ^ k)
eighth size z = elim (cases_lt z.0.0 3) [
  | inl low ↦ let less : 2 ^ z.0.0 < 2 ^ 3 = pow_below z.0.0 3 low in absurd (omega (arith, less, z.0.1, z.1))
  | inr high ↦
      let split : z.0.0 ≡ z.0.0 - 3 + 3 = omega arith in
      let parts : 2 ^ (z.0.0 - 3 + 3) ≡ 2 ^ (z.0.0 - 3) * 2 ^ 3 = pow-add 2 (z.0.0 - 3) 3 in
      (z.0.0 - 3, omega (arith, z.0.1, ap (λ x. 2 ^ x) split, parts))
]

-- a size is a whole number of eight-byte units
pub eights-in : (size : ℕ) → IsRingSize size → (m : ℕ) × (size ≡ 8 * m)
eights-in size z = let e = eighth size z in (2 ^ e.0, e.1)

-- the number of units is a power of two
pub eighth-power : (size : ℕ) → IsRingSize size → IsPowerOfTwo (size / 8)
eighth-power size z = let e = eighth size z in (e.0, omega (arith, e.1))

-- ---- a row of records

pub row-many : (c : ℕ) (ss : List StoredRecord) (p : ℕ) → InRow c (map shown_record ss) p → c + 8 * length ss ≤ p
row-many c [] p row = omega (arith, row)
row-many c (s ∷ ss) p row = omega (arith, row-many (c + span s.len) ss p row.1)
