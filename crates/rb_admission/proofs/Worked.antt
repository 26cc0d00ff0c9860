-- Examples of histories: workers that look before they request and one that does not, and consumers that are on time
-- and late.
use Rattle.std.proofs.Common.{◌≡◌, ⊎_elim, ℕ, zero, suc, ◌+◌, ◌<◌, ◌≤◌, ap, refl, ◌∙◌, subst, List, [], ◌∷◌, length, take, arith, lit≤}
use Rattle.std.specs.List.{sum_by}
use Rattle.std.proofs.lemmas.List.{length-append, take_at}
use Rattle.std.proofs.lemmas.List.Elements.{All-cons, All-nil}
use Rattle.rb_history.specs.declared.entries.Entry.{Entry}
use Rattle.rb_history.specs.declared.entries.Entry.TheVariants.{Res, Sub, Take}
use Rattle.rb_history.specs.RoomRule.{Setup}
use Rattle.rb_history.specs.WorkerCounts.{numbers_below}
use Rattle.rb_admission.specs.Admission.{asked_bytes, MayBegin, LooksBeforeItAsks}
use Rattle.rb_admission.specs.Lateness.{JobsCut, late_jobs, IsLateByAtMost}
use Rattle.rb_admission.proofs.Admitted.{has-looked}

-- a ring of 4,096 bytes for two workers
abbrev ring : Setup
ring = record { size = 4096; start = 0; workers = 2 }

-- Worker 0 is granted two records of 8 bytes, 16 with their headers, and worker 1 one of 1,000 bytes, 1,008 with its
-- header. Nothing is taken.
abbrev both : List Entry
both = Res 0 0 8 0 ∷ Res 1 0 1000 16 ∷ Sub 0 ∷ Res 0 1 8 1024 ∷ []

-- with turns of 1,008 bytes, worker 0 has one turn, which begins before the first entry
first_looks : LooksBeforeItAsks ring 1008 0 both
first_looks = record { first = []; turns = both ∷ []; whole = refl; idle = refl; in_turns = (lit≤ tt, lit≤ tt, tt) }

-- and worker 1 has one, which begins after the first entry: it finds 16 bytes untaken, and twice 1,008 are free beside
-- them
second_looks : LooksBeforeItAsks ring 1008 1 both
second_looks =
    record { first = Res 0 0 8 0 ∷ []; turns = (Res 1 0 1000 16 ∷ Sub 0 ∷ Res 0 1 8 1024 ∷ []) ∷ []; whole = refl; idle = refl; in_turns = (lit≤ tt, lit≤ tt, tt) }

-- worker 0 may have two turns as well: it looks again before its second record
looks_twice : LooksBeforeItAsks ring 1008 0 both
looks_twice =
    record { first = []; turns = (Res 0 0 8 0 ∷ Res 1 0 1000 16 ∷ Sub 0 ∷ []) ∷ (Res 0 1 8 1024 ∷ []) ∷ []; whole = refl; idle = refl; in_turns = (lit≤ tt, lit≤ tt, (lit≤ tt, lit≤ tt, tt)) }

-- a look that finds 2,080 bytes untaken allows no turn of 1,008 bytes: 2,080 and twice 1,008 are 4,096, and one byte
-- stays free
no_turn : MayBegin ring 1008 (Res 0 0 2072 0 ∷ []) → ⊥
no_turn may = absurd (omega arith)

-- The premise is not the conclusion. With turns of 8 bytes, worker 0 requests more than a turn by its first entry,
-- although nothing is refused.
asks_for_more : LooksBeforeItAsks ring 8 0 (Res 0 0 8 0 ∷ []) → ⊥
asks_for_more looks =
    ⊎_elim
    (λ idle. let asked : asked_bytes 0 (Res 0 0 8 0 ∷ []) ≡ 0 = idle in absurd (omega arith))
    (λ own.
    let first : own.0 ≡ 0 = omega (arith, own.1.0) in
    let none : asked_bytes 0 (take own.0 (Res 0 0 8 0 ∷ [])) ≡ asked_bytes 0 [] = ap (λ n. asked_bytes 0 (take n (Res 0 0 8 0 ∷ []))) first in
    let within : asked_bytes 0 (Res 0 0 8 0 ∷ []) ≤ asked_bytes 0 (take own.0 (Res 0 0 8 0 ∷ [])) + 8 = own.2 in
    absurd (omega arith))
    (has-looked ring 8 (Res 0 0 8 0 ∷ []) 0 looks 0 (omega arith))

-- ---- a consumer that is late, and one that is not

-- a ring of 4,096 bytes for one worker
abbrev one_worker : Setup
one_worker = record { size = 4096; start = 0; workers = 1 }

-- A worker ran two jobs, each of which reserved and submitted a record of 8 bytes, 16 with its header. The first job's
-- record was taken before the second job began.
abbrev first_job : List Entry
first_job = Res 0 0 8 0 ∷ Sub 0 ∷ Take 0 ∷ []

abbrev second_job : List Entry
second_job = Res 0 1 8 16 ∷ Sub 16 ∷ []

abbrev on_time : List Entry
on_time = Res 0 0 8 0 ∷ Sub 0 ∷ Take 0 ∷ Res 0 1 8 16 ∷ Sub 16 ∷ []

abbrev jobs_on_time : ℕ → List (List Entry)
jobs_on_time w = first_job ∷ second_job ∷ []

-- the jobs cut the history, and each requests 16 bytes
cut_on_time : JobsCut 16 0 on_time (jobs_on_time 0)
cut_on_time = record { whole = refl; each = All-cons (λ entries. asked_bytes 0 entries ≤ 16) first_job (second_job ∷ []) (lit≤ tt) (All-cons (λ entries. asked_bytes 0 entries ≤ 16) second_job [] (lit≤ tt) (All-nil (λ entries. asked_bytes 0 entries ≤ 16))) }

late_at : (k : ℕ) → k < 5 → sum_by (λ w. late_jobs w (take k on_time) (jobs_on_time w)) (numbers_below 1) ≤ 0
late_at zero lt = lit≤ tt
late_at (suc zero) lt = lit≤ tt
late_at (suc (suc zero)) lt = lit≤ tt
late_at (suc (suc (suc zero))) lt = lit≤ tt
late_at (suc (suc (suc (suc zero)))) lt = lit≤ tt
late_at (suc (suc (suc (suc (suc k))))) lt = absurd (omega arith)

-- the consumer was never late: a ring of more than 16 bytes would refuse nothing
never_late : IsLateByAtMost one_worker on_time jobs_on_time 0
never_late now e after is =
    let long : length on_time ≡ length now + length (e ∷ after) = ap length is ∙ length-append now (e ∷ after) in
    let five : length on_time ≡ 5 = refl in
    let front : take (length now) on_time ≡ now = ap (take (length now)) is ∙ take_at now (e ∷ after) (length now) refl in
    subst (λ x. sum_by (λ w. late_jobs w x (jobs_on_time w)) (numbers_below 1) ≤ 0) front (late_at (length now) (omega arith))

-- The premise is not the conclusion here either. Without the take, the second job begins while the first job's record
-- is left: the consumer is late by one job, although nothing is refused.
late_by_one : IsLateByAtMost one_worker (Res 0 0 8 0 ∷ Sub 0 ∷ Res 0 1 8 16 ∷ []) (λ w. (Res 0 0 8 0 ∷ Sub 0 ∷ []) ∷ (Res 0 1 8 16 ∷ []) ∷ []) 0 → ⊥
late_by_one late =
    let one : 1 ≤ 0 = late (Res 0 0 8 0 ∷ Sub 0 ∷ []) (Res 0 1 8 16) [] refl in
    absurd (omega arith)
