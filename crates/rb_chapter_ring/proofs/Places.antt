-- The records after those that were taken.
use Rattle.std.proofs.Common.{◌≡◌, ℕ, zero, suc, ◌+◌, ◌<◌, List, [], ◌∷◌, length, map, drop, get_or, set, refl, ap, arith}
use Rattle.rb_chapter_ring.specs.declared.snapshot.UntakenRecord.{UntakenRecord}
use Rattle.rb_chapter_ring.specs.declared.snapshot.UntakenStatus.{UntakenStatus}
use Rattle.rb_chapter_ring.specs.UntakenRecords.{status_shown, untaken_shown}
use Rattle.rb_chapter_ring.specs.Snapshot.{no_record}

-- one of them has another status
status-here : (rs : List UntakenRecord) (i : ℕ) (d : UntakenRecord) (st : UntakenStatus) → i < length rs →
    map untaken_shown (set rs i (record (get_or rs i d) { status = st })) ≡ set (map untaken_shown rs) i (record (get_or (map untaken_shown rs) i no_record) { status = status_shown st })
status-here [] i d st l = absurd (omega arith)
status-here (r ∷ rs) zero d st l = refl
status-here (r ∷ rs) (suc i) d st l = ap (λ ss. untaken_shown r ∷ ss) (status-here rs i d st (omega arith))

pub status-set : (rs : List UntakenRecord) (first i : ℕ) (d : UntakenRecord) (st : UntakenStatus) → first + i < length rs →
    map untaken_shown (drop first (set rs (first + i) (record (get_or rs (first + i) d) { status = st })))
    ≡ set (map untaken_shown (drop first rs)) i (record (get_or (map untaken_shown (drop first rs)) i no_record) { status = status_shown st })
status-set rs zero i d st l = let same : 0 + i ≡ i = omega arith in rw same (status-here rs i d st (omega arith))
status-set [] (suc first) i d st l = absurd (omega arith)
status-set (r ∷ rs) (suc first) i d st l = let next : suc first + i ≡ suc (first + i) = omega arith in rw next (status-set rs first i d st (omega arith))

-- one more of them was taken
pub one-dropped : (rs : List UntakenRecord) (first : ℕ) → map untaken_shown (drop (first + 1) rs) ≡ drop 1 (map untaken_shown (drop first rs))
one-dropped [] zero = refl
one-dropped [] (suc first) = let next : suc first + 1 ≡ suc (first + 1) = omega arith in rw next refl
one-dropped (r ∷ rs) zero = refl
one-dropped (r ∷ rs) (suc first) = let next : suc first + 1 ≡ suc (first + 1) = omega arith in rw next (one-dropped rs first)
