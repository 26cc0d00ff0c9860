-- The sizes of rings with which turns are possible, and with which they are longest.
use Rattle.std.proofs.Common.{◌≡◌, ◌≢◌, ℕ, ◌*◌, ◌<◌, ◌≤◌, refl, sym, ap, ◌∙◌, Bool, true, false, cond, List, [], ◌∷◌, Option, None, Some, find, arith, ⊎_elim}
use Rattle.std.specs.Prelude.{nat_lt, unwrap_or}
use Rattle.std.specs.List.{AllByRecursion}
use Rattle.std.proofs.lemmas.Bool.{cases_lt}
use Rattle.std.proofs.lemmas.Bool.Decides.{nat_tests}
use Rattle.rb_cost.specs.RingSize.{IsLeastRing, least_ring}
use Rattle.rb_cost.specs.TurnSize.{contexts_at_once, or_one, turn_lengths}
use Rattle.rb_cost.proofs.LeastRings.{least_rings}
use Rattle.rb_cost.proofs.TurnSizes.{least_rings_have_turns}
use Rattle.rb_waiting.specs.TurnSizes.{LongTurnsNeed, TurnsNeed, TurnsNeedTheirSizes}

-- ---- the tests by which a turn's length is chosen

-- whether one context of every worker fits, whether 16 fit, and what is chosen otherwise
chosen : Bool → Bool → Option ℕ → Option ℕ
chosen some long rest = cond some (Some (or_one (cond long (Some 16) rest))) None

longest : (some long : Bool) (rest : Option ℕ) → some ≡ true → long ≡ true → chosen some long rest ≡ Some 16
unfolding chosen
longest true true rest is_some is_long = refl
longest true false rest is_some is_long = absurd cc
longest false long rest is_some is_long = absurd cc

shorter : (some long : Bool) (rest : Option ℕ) → or_one rest < 16 → long ≡ false → chosen some long rest ≢ Some 16
unfolding chosen
shorter true false rest few is_short e = let same : or_one rest ≡ 16 = ap (λ o. unwrap_or o 0) e in omega (arith, few, same)
shorter true true rest few is_short e = absurd cc
shorter false long rest few is_short e = cc

found_below : (test : ℕ → Bool) (ns : List ℕ) → AllByRecursion (λ n. n < 16) ns → or_one (find test ns) < 16
found_below test [] all = omega arith
found_below test (n ∷ ns) all = by_test (test n) (found_below test ns all.1)
  where
    by_test : (b : Bool) → or_one (find test ns) < 16 → or_one (cond b (Some n) (find test ns)) < 16
    by_test true rest = all.0
    by_test false rest = rest

test_true : (a b : ℕ) → a < b → nat_lt a b ≡ true
test_true a b lt = grind (arith, nat_tests)

test_false : (a b : ℕ) → b ≤ a → nat_lt a b ≡ false
test_false a b le = grind (arith, nat_tests)

module _ (size workers bytes : ℕ) where
  abbrev each : ℕ
  each = workers * bytes

  abbrev others : Option ℕ
  others = find (λ n. nat_lt (2 * n * (workers * bytes)) size) (8 ∷ 4 ∷ 2 ∷ [])

  is_chosen : contexts_at_once size workers bytes ≡ chosen (nat_lt each size) (nat_lt (32 * each) size) others
  unfolding chosen
  is_chosen = refl

  is_longest : 32 * each < size → contexts_at_once size workers bytes ≡ Some 16
  is_longest fits = is_chosen ∙ longest (nat_lt each size) (nat_lt (32 * each) size) others (test_true each size (omega (arith, fits))) (test_true (32 * each) size fits)

  is_shorter : size ≤ 32 * each → contexts_at_once size workers bytes ≢ Some 16
  is_shorter over e =
      shorter (nat_lt each size) (nat_lt (32 * each) size) others (found_below (λ n. nat_lt (2 * n * (workers * bytes)) size) (8 ∷ 4 ∷ 2 ∷ []) (omega arith, (omega arith, (omega arith, tt)))) (test_false (32 * each) size over)
      (sym is_chosen ∙ e)

  is_none : size ≤ each → contexts_at_once size workers bytes ≡ None
  is_none over = ap (λ b. cond b (Some (or_one (find (λ n. nat_lt (2 * n * (workers * bytes)) size) turn_lengths))) None) (test_false each size over)

-- ---- sizes

long_turns : (workers bytes : ℕ) (found : Option ℕ) → IsLeastRing (32 * (workers * bytes)) found → LongTurnsNeed workers bytes found
long_turns workers bytes None least = λ size ring. ⊎_elim (λ fits. absurd (least size ring fits)) (λ over. is_shorter size workers bytes over) (cases_lt (32 * (workers * bytes)) size)
long_turns workers bytes (Some smallest) least = λ size ring.
    let larger = least.1 in (
      λ enough. is_longest size workers bytes (omega (arith, larger, enough)),
      λ small.
          ⊎_elim (λ fits. let low = least.2 size ring fits in absurd (omega (arith, low, small))) (λ over. is_shorter size workers bytes over) (cases_lt (32 * (workers * bytes)) size),
    )

turns : (workers bytes : ℕ) (found : Option ℕ) → least_ring (workers * bytes) ≡ found → IsLeastRing (workers * bytes) found → TurnsNeed workers bytes found
turns workers bytes None is least = λ size ring. ⊎_elim (λ fits. absurd (least size ring fits)) (λ over. is_none size workers bytes over) (cases_lt (workers * bytes) size)
turns workers bytes (Some smallest) is least = λ size ring. least_rings_have_turns size workers bytes smallest ring is

pub turns_need : TurnsNeedTheirSizes
turns_need workers bytes = (
  turns workers bytes (least_ring (workers * bytes)) refl (least_rings (workers * bytes)),
  long_turns workers bytes (least_ring (32 * (workers * bytes))) (least_rings (32 * (workers * bytes))),
)
