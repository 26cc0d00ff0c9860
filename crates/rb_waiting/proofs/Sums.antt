-- Sums of what programs request from rings, and turns that fit.
use Rattle.std.proofs.Common.{◌≡◌, ℕ, ◌+◌, ◌*◌, ◌<◌, ◌≤◌, ◌^◌, List, [], ◌∷◌, ◌++◌, length, get_or, sym, ap, ◌∙◌, subst, take, arith, Option, None, Some, Result, Ok, Err, inl, inr, min, ⊎_elim}
use Rattle.std.specs.Prelude.{All, IsErrOf}
use Rattle.std.specs.List.{AllZip}
use Rattle.std.proofs.lemmas.Bool.{cases_lt}
use Rattle.std.proofs.lemmas.List.{get_or_append_left, get_or_default, get_or_push, take_more}
use Rattle.std.proofs.lemmas.List.Elements.{All-append, All-cons, All-nil}
use Rattle.std.proofs.lemmas.List.Sums.{sum_by_push}
use Rattle.std.proofs.Math.Seq.{take-length}
use Rattle.std.proofs.Math.Nat.{mul-le-mul, mul-le-mul_left, mul-le-mul_right}
use Rattle.rb_verifier.specs.Subject.{Subject}
use Rattle.rb_cost.specs.declared.cost.Cost.{Cost}
use Rattle.rb_cost.specs.Cost.{IsCost}
use Rattle.rb_cost.specs.RingSize.{IsLeastRing, least_ring}
use Rattle.rb_cost.specs.Runs.{ring_cost_at}
use Rattle.rb_cost.specs.TurnSize.{IsTurnLength, contexts_at_once}
use Rattle.rb_cost.proofs.LeastRings.{least_rings}
use Rattle.rb_cost.proofs.TurnSizes.{turns_fit}
use Rattle.rb_run_cost.specs.CallCosts.{IsVerified}
use Rattle.rb_workers.specs.declared.opened.Opened.{Opened}
use Rattle.rb_workers.proofs.Parts.{zip_more}
use Rattle.rb_stream_worker.specs.declared.when_full.Turns.{Turns}
use Rattle.rb_waiting.specs.Faults.{IsFirstTooSmall}
use Rattle.rb_waiting.specs.Plans.{IsLongest, IsPlan, bytes_asked, contexts_by}
use Rattle.rb_waiting.specs.declared.plan.SmallRing.{SmallRing}
use Rattle.rb_waiting.specs.declared.plan.TurnFault.{TurnFault}
use Rattle.rb_waiting.specs.declared.plan.TurnFault.TheVariants.{TooSmall}
use Rattle.rb_waiting.specs.inner.Sums.{AddsCost, AreLongest, AreSums, FitsTurns, IsFirstSmall, SumsUp, capped}

-- a cost has a part for each ring that its program uses
pub cost_rings : (p : Subject) (cost : Cost) → IsVerified p → IsCost p cost → length cost.rings.items ≡ p.rings
cost_rings p cost verified is = (is verified.valid.0 verified.valid.1).count

-- nothing was added
pub sums_none : (rings : ℕ) (sums : List ℕ) → ((k d : ℕ) → k < rings → get_or sums k d ≡ 0) → SumsUp [] rings sums
sums_none rings sums zeros k d below = let z = zeros k d below in omega (arith, z)

-- one more cost
pub sums_more : (costs : List Cost) (cost : Cost) (rings : ℕ) (olds news : List ℕ) → length olds ≡ rings → SumsUp costs rings olds → AddsCost cost olds news → SumsUp (costs ++ cost ∷ []) rings news
sums_more costs cost rings olds news many before added k d below =
    let a = added k d (omega (arith, many, below)) in
    let b = before k d below in
    let c = sum_by_push (λ (x : Cost). (ring_cost_at x k).bytes) costs cost in
    omega (arith, a, b, c)

-- a sum that fits a ring is exact
pub exact_where_it_fits : (workers contexts cost sum size : ℕ) → 1 ≤ workers → 1 ≤ contexts → sum ≡ capped cost → size < 2 ^ 64 → workers * (contexts * sum) < size → sum ≡ cost
exact_where_it_fits workers contexts cost sum size some one is small fits =
    let a : 1 * (1 * sum) ≤ workers * (contexts * sum) = mul-le-mul some (mul-le-mul_right sum one) in
    let b : 1 * (1 * sum) ≡ sum = omega arith in
    omega (arith, is, small, fits, a, b)

-- shorter turns fit, too
pub shorter_fits : (workers few many sum size : ℕ) → few ≤ many → workers * (many * sum) < size → workers * (few * sum) < size
shorter_fits workers few many sum size le fits =
    let a : workers * (few * sum) ≤ workers * (many * sum) = mul-le-mul_left workers (mul-le-mul_right sum le) in
    omega (arith, a, fits)

-- ---- lists up to an index

pub all_more : {A : Type 0} (P : A → Type 0) (xs : List A) (i : ℕ) (x : A) → i < length xs → x ≡ get_or xs i x → All P (take i xs) → P x → All P (take (i + 1) xs)
all_more P xs i x below is before here =
    subst (All P) (sym (take_more xs i x below ∙ ap (λ y. take i xs ++ y ∷ []) (sym is))) (All-append P (take i xs) (x ∷ []) before (All-cons P x [] here (All-nil P)))

pub all_taken : {A : Type 0} (P : A → Type 0) (xs : List A) (i : ℕ) → i ≤ length xs → length xs ≤ i → All P (take i xs) → All P xs
all_taken P xs i below over all =
    let end : i ≡ length xs = omega (arith, below, over) in
    subst (All P) (ap (λ n. take n xs) end ∙ take-length xs) all

-- one more program
pub are_sums_more : (programs : List Subject) (i : ℕ) (p : Subject) (cost : Cost) (rings : ℕ) (olds news : List ℕ) → i < length programs → p ≡ get_or programs i p → AreSums (take i programs) rings olds → IsCost p cost → length news ≡ length olds
    → AddsCost cost olds news → AreSums (take (i + 1) programs) rings news
are_sums_more programs i p cost rings olds news below is before costs long added = record {
  costs = before.costs ++ cost ∷ [];
  costs_are = subst (λ l. AllZip IsCost l (before.costs ++ cost ∷ [])) (sym (take_more programs i p below ∙ ap (λ y. take i programs ++ y ∷ []) (sym is))) (zip_more IsCost (take i programs) before.costs p cost before.costs_are costs);
  many = long ∙ before.many;
  sums_are = sums_more before.costs cost rings olds news before.many before.sums_are added;
}

-- ---- turns that fit

-- the properties of a chosen turn length
pub chosen_fits : (size workers sum most : ℕ) → Some most ≡ contexts_at_once size workers sum → IsTurnLength size workers sum (Some most)
chosen_fits size workers sum most is = subst (IsTurnLength size workers sum) (sym is) (turns_fit size workers sum)

module _ {S : Type 0} (opened : List (Opened S)) (sums : List ℕ) where
  -- turns fit the rings before an index
  pub record FitsBefore (at contexts : ℕ) : Type 0 where
    pub some : 1 ≤ contexts
    pub few : contexts ≤ 16
    pub workers : (k : ℕ) (o : Opened S) → k < at → 1 ≤ (get_or opened k o).consumer.seen.setup.workers
    pub small : (k : ℕ) (o : Opened S) → k < at → (get_or opened k o).consumer.seen.setup.size < 2 ^ 64
    pub fits : (k s : ℕ) (o : Opened S) → k < at → (get_or opened k o).consumer.seen.setup.workers * (contexts * get_or sums k s) < (get_or opened k o).consumer.seen.setup.size

  pub fits_more : (at old most new : ℕ) (x : Opened S) → at < length opened → at < length sums → x ≡ get_or opened at x → new ≤ old → new ≤ most → 1 ≤ new → FitsBefore at old
      → 1 ≤ x.consumer.seen.setup.workers → x.consumer.seen.setup.size < 2 ^ 64 → x.consumer.seen.setup.workers * (most * get_or sums at 0) < x.consumer.seen.setup.size → FitsBefore (at + 1) new
  fits_more at old most new x in_opened in_sums is le_old le_most one before works is_small here =
      let few = before.few in
      let item : (o : Opened S) → get_or opened at o ≡ x = λ o. get_or_default opened at o x in_opened ∙ sym is in
      let same : (k : ℕ) → k < at + 1 → at ≤ k → k ≡ at = λ k below from. omega (arith, below, from) in
      let short : x.consumer.seen.setup.workers * (new * get_or sums at 0) < x.consumer.seen.setup.size = shorter_fits x.consumer.seen.setup.workers new most (get_or sums at 0) x.consumer.seen.setup.size le_most here in
      record {
        some = one;
        few = omega (arith, few, le_old);
        workers = λ k o below.
            ⊎_elim (λ lower. before.workers k o lower)
            (λ last. subst (λ j. 1 ≤ (get_or opened j o).consumer.seen.setup.workers) (sym (same k below last)) (subst (λ (y : Opened S). 1 ≤ y.consumer.seen.setup.workers) (sym (item o)) works)) (cases_lt k at);
        small = λ k o below.
            ⊎_elim (λ lower. before.small k o lower)
            (λ last. subst (λ j. (get_or opened j o).consumer.seen.setup.size < 2 ^ 64) (sym (same k below last)) (subst (λ (y : Opened S). y.consumer.seen.setup.size < 2 ^ 64) (sym (item o)) is_small)) (cases_lt k at);
        fits = λ k s o below.
            ⊎_elim (λ lower. shorter_fits (get_or opened k o).consumer.seen.setup.workers new old (get_or sums k s) (get_or opened k o).consumer.seen.setup.size le_old (before.fits k s o lower))
            (λ last.
            subst (λ j. (get_or opened j o).consumer.seen.setup.workers * (new * get_or sums j s) < (get_or opened j o).consumer.seen.setup.size) (sym (same k below last))
            (subst (λ (y : Opened S). y.consumer.seen.setup.workers * (new * get_or sums at s) < y.consumer.seen.setup.size) (sym (item o))
            (subst (λ n. x.consumer.seen.setup.workers * (new * n) < x.consumer.seen.setup.size) (get_or_default sums at 0 s in_sums) short))) (cases_lt k at);
      }

-- turns that are as long as one ring more allows
pub longest_more : {S : Type 0} (opened : List (Opened S)) (sums : List ℕ) (at old most new : ℕ) (x : Opened S) → at < length opened → at < length sums → x ≡ get_or opened at x → new ≡ min old most → AreLongest opened sums at old
    → contexts_at_once x.consumer.seen.setup.size x.consumer.seen.setup.workers (get_or sums at 0) ≡ Some most → AreLongest opened sums (at + 1) new
longest_more {S} opened sums at old most new x in_opened in_sums is least before chosen =
    let by : ℕ → ℕ → Opened S → Option ℕ = λ k s o. contexts_by (get_or opened k o).consumer.seen.setup (get_or sums k s) in
    let here : (s : ℕ) (o : Opened S) → by at s o ≡ Some most = λ s o.
    subst (λ (y : Opened S). contexts_by y.consumer.seen.setup (get_or sums at s) ≡ Some most) (sym (get_or_default opened at o x in_opened ∙ sym is))
    (subst (λ n. contexts_by x.consumer.seen.setup n ≡ Some most) (get_or_default sums at 0 s in_sums) chosen) in
    record {
      within = λ k s o below.
          ⊎_elim
          (λ lower. let w = before.within k s o lower in let le = w.2 in (w.0, w.1, omega (arith, least, le)))
          (λ last.
          let same : k ≡ at = omega (arith, last, below) in
          (most, subst (λ j. by j s o ≡ Some most) (sym same) (here s o), omega (arith, least)))
          (cases_lt k at);
      reached =
          ⊎_elim
          (λ shorter. let same : most ≡ new = omega (arith, least, shorter) in inr (at, omega arith, λ s o. subst (λ n. by at s o ≡ Some n) same (here s o)))
          (λ longer.
          let same : old ≡ new = omega (arith, least, longer) in
          ⊎_elim (λ sixteen. inl (sym same ∙ sixteen))
          (λ one. let below = one.1 in inr (one.0, omega (arith, below), λ s o. subst (λ n. by one.0 s o ≡ Some n) same (one.2 s o)))
          before.reached)
          (cases_lt most old);
    }

-- one limit more
pub limits_more : {S : Type 0} (opened : List (Opened S)) (sums limits : List ℕ) (contexts at limit : ℕ) (x : Opened S) → length limits ≡ at → at < length opened → at < length sums → x ≡ get_or opened at x
    → ((k d s : ℕ) (o : Opened S) → k < at → get_or limits k d + (get_or opened k o).consumer.seen.setup.workers * (contexts * get_or sums k s) + 1 ≡ (get_or opened k o).consumer.seen.setup.size)
    → limit + x.consumer.seen.setup.workers * (contexts * get_or sums at 0) + 1 ≡ x.consumer.seen.setup.size
    → (k d s : ℕ) (o : Opened S) → k < at + 1 → get_or (limits ++ limit ∷ []) k d + (get_or opened k o).consumer.seen.setup.workers * (contexts * get_or sums k s) + 1 ≡ (get_or opened k o).consumer.seen.setup.size
limits_more {S} opened sums limits contexts at limit x long in_opened in_sums is before here k d s o below =
    ⊎_elim
    (λ lower.
    subst (λ n. n + (get_or opened k o).consumer.seen.setup.workers * (contexts * get_or sums k s) + 1 ≡ (get_or opened k o).consumer.seen.setup.size) (sym (get_or_append_left limits (limit ∷ []) d k (omega (arith, lower, long))))
    (before k d s o lower))
    (λ last.
    let same : k ≡ at = omega (arith, last, below) in
    let item : x ≡ get_or opened k o = is ∙ (get_or_default opened at x o in_opened ∙ ap (λ j. get_or opened j o) (sym same)) in
    let sum : get_or sums at 0 ≡ get_or sums k s = get_or_default sums at 0 s in_sums ∙ ap (λ j. get_or sums j s) (sym same) in
    let own : get_or (limits ++ limit ∷ []) k d ≡ limit = get_or_push limits limit d k (long ∙ sym same) in
    subst (λ n. n + (get_or opened k o).consumer.seen.setup.workers * (contexts * get_or sums k s) + 1 ≡ (get_or opened k o).consumer.seen.setup.size) (sym own)
    (subst (λ m. limit + (get_or opened k o).consumer.seen.setup.workers * (contexts * m) + 1 ≡ (get_or opened k o).consumer.seen.setup.size) sum
    (subst (λ (y : Opened S). limit + y.consumer.seen.setup.workers * (contexts * get_or sums at 0) + 1 ≡ y.consumer.seen.setup.size) item here)))
    (cases_lt k at)

-- ---- a plan

pub plan_of : {S : Type 0} (opened : List (Opened S)) (programs : List Subject) (sums : List ℕ) (t : Turns) → AreSums programs (length opened) sums → FitsTurns opened sums t.contexts → All IsVerified programs → All (λ p. length opened ≤ p.rings) programs
    → length t.limits.items ≡ length opened
    → ((k d s : ℕ) (o : Opened S) → k < length opened → get_or t.limits.items k d + (get_or opened k o).consumer.seen.setup.workers * (t.contexts * get_or sums k s) + 1 ≡ (get_or opened k o).consumer.seen.setup.size)
    → IsPlan opened programs t
plan_of opened programs sums t are fit verified knows many limits = record {
  costs = are.costs;
  costs_are = are.costs_are;
  verified = verified;
  knows = knows;
  some = fit.some;
  as_many = many;
  leaves_room = λ k d o below.
      let r = (get_or opened k o).consumer.seen.setup in
      let exact : get_or sums k 0 ≡ bytes_asked are.costs k =
      exact_where_it_fits r.workers t.contexts (bytes_asked are.costs k) (get_or sums k 0) r.size (fit.workers k o below) fit.some (are.sums_are k 0 below) (fit.small k o below) (fit.fits k 0 o below)
      in
      subst (λ n. get_or t.limits.items k d + r.workers * (t.contexts * n) + 1 ≡ r.size) exact (limits k d 0 o below);
}

-- ---- rings that are too small

-- a ring that a capped cost does not fit is too small for the cost, too
more_than_capped : (workers cost : ℕ) → workers * capped cost ≤ workers * cost
more_than_capped workers cost = mul-le-mul_left workers (let c : capped cost ≤ cost = omega arith in c)

-- the smallest ring for a capped cost is the smallest one for the cost: no ring is larger than a cost that was capped
least_capped : (workers cost : ℕ) (least : Option ℕ) → 1 ≤ workers → IsLeastRing (workers * capped cost) least → IsLeastRing (workers * cost) least
least_capped workers cost None some is =
    let more = more_than_capped workers cost in
    λ other size larger. is other size (omega (arith, more, larger))
least_capped workers cost (Some size) some is =
    let most = is.0.2 in
    let larger = is.1 in
    let one : 1 * capped cost ≤ workers * capped cost = mul-le-mul_right (capped cost) some in
    let exact : capped cost ≡ cost = omega (arith, most, larger, one) in
    subst (λ c. IsLeastRing (workers * c) (Some size)) exact is

-- a ring that one context of every worker fits, by a capped cost
one_each_fits : (workers cost sum size : ℕ) → 1 ≤ workers → sum ≡ capped cost → size < 2 ^ 64 → workers * sum < size → workers * cost < size
one_each_fits workers cost sum size some is small fits =
    let one : workers * (1 * sum) ≡ workers * sum = omega arith in
    let exact : sum ≡ cost = exact_where_it_fits workers 1 cost sum size some (omega arith) is small (omega (arith, one, fits)) in
    subst (λ c. workers * c < size) exact fits

-- the first ring that is too small by the sums of what programs request
pub first_too_small : {S : Type 0} (opened : List (Opened S)) (programs : List Subject) (sums : List ℕ) (small : SmallRing) → AreSums programs (length opened) sums → IsFirstSmall opened sums small → IsFirstTooSmall opened programs small
first_too_small {S} opened programs sums small are is = record {
  costs = are.costs;
  costs_are = are.costs_are;
  inside = is.inside;
  too_small = λ o fits.
      let at : get_or sums small.ring 0 ≡ capped (bytes_asked are.costs small.ring) = are.sums_are small.ring 0 is.inside in
      let w = (get_or opened small.ring o).consumer.seen.setup.workers in
      let over : (get_or opened small.ring o).consumer.seen.setup.size ≤ w * get_or sums small.ring 0 = is.too_small 0 o in
      let same : w * get_or sums small.ring 0 ≡ w * capped (bytes_asked are.costs small.ring) = ap (λ n. w * n) at in
      let more = more_than_capped w (bytes_asked are.costs small.ring) in
      omega (arith, over, same, more, fits);
  first = λ k o below.
      let inside = is.inside in
      one_each_fits (get_or opened k o).consumer.seen.setup.workers (bytes_asked are.costs k) (get_or sums k 0) (get_or opened k o).consumer.seen.setup.size (is.workers k o (omega (arith, below)))
      (are.sums_are k 0 (omega (arith, below, inside))) (is.below k o below) (is.fits k 0 o below);
  least = λ o.
      let w = (get_or opened small.ring o).consumer.seen.setup.workers in
      let at : get_or sums small.ring 0 ≡ capped (bytes_asked are.costs small.ring) = are.sums_are small.ring 0 is.inside in
      let found : least_ring (w * capped (bytes_asked are.costs small.ring)) ≡ small.least = ap (λ n. least_ring (w * n)) (sym at) ∙ sym (is.least 0 o) in
      least_capped w (bytes_asked are.costs small.ring) small.least (is.workers small.ring o (omega arith))
      (subst (IsLeastRing (w * capped (bytes_asked are.costs small.ring))) found (least_rings (w * capped (bytes_asked are.costs small.ring))));
}

-- what a ring has no turns for
pub too_large : (size workers sum : ℕ) → contexts_at_once size workers sum ≡ None → size ≤ workers * sum
too_large size workers sum is = subst (IsTurnLength size workers sum) is (turns_fit size workers sum)

-- the ring after those that turns fit is the first that they do not fit
pub first_small : {S : Type 0} (opened : List (Opened S)) (sums : List ℕ) (at contexts : ℕ) (least : Option ℕ) (x : Opened S) → at < length opened → at < length sums → x ≡ get_or opened at x → FitsBefore opened sums at contexts → 1 ≤ x.consumer.seen.setup.workers
    → contexts_at_once x.consumer.seen.setup.size x.consumer.seen.setup.workers (get_or sums at 0) ≡ None → least ≡ least_ring (x.consumer.seen.setup.workers * get_or sums at 0)
    → IsFirstSmall opened sums (record { ring = at; least = least })
first_small {S} opened sums at contexts least x in_opened in_sums is before works none found =
    let item : (o : Opened S) → get_or opened at o ≡ x = λ o. get_or_default opened at o x in_opened ∙ sym is in
    record {
      inside = in_opened;
      workers = λ k o le.
          ⊎_elim (λ lower. before.workers k o lower)
          (λ last.
          let same : k ≡ at = omega (arith, last, le) in
          subst (λ j. 1 ≤ (get_or opened j o).consumer.seen.setup.workers) (sym same) (subst (λ (y : Opened S). 1 ≤ y.consumer.seen.setup.workers) (sym (item o)) works)) (cases_lt k at);
      below = λ k o lower. before.small k o lower;
      fits = λ k s o lower.
          let w = (get_or opened k o).consumer.seen.setup.workers in
          let one : w * (1 * get_or sums k s) ≡ w * get_or sums k s = omega arith in
          let fits = shorter_fits w 1 contexts (get_or sums k s) (get_or opened k o).consumer.seen.setup.size before.some (before.fits k s o lower) in
          omega (arith, one, fits);
      too_small = λ s o.
          subst (λ (y : Opened S). y.consumer.seen.setup.size ≤ y.consumer.seen.setup.workers * get_or sums at s) (sym (item o))
          (subst (λ n. x.consumer.seen.setup.size ≤ x.consumer.seen.setup.workers * n) (get_or_default sums at 0 s in_sums) (too_large x.consumer.seen.setup.size x.consumer.seen.setup.workers (get_or sums at 0) none));
      least = λ s o.
          subst (λ (y : Opened S). least ≡ least_ring (y.consumer.seen.setup.workers * get_or sums at s)) (sym (item o))
          (subst (λ n. least ≡ least_ring (x.consumer.seen.setup.workers * n)) (get_or_default sums at 0 s in_sums) found);
    }

-- a plan's turns are as long as the rings allow
pub is_longest : {S : Type 0} (opened : List (Opened S)) (programs : List Subject) (sums : List ℕ) (contexts : ℕ) → AreSums programs (length opened) sums → FitsTurns opened sums contexts → AreLongest opened sums (length opened) contexts
    → IsLongest opened programs contexts
is_longest {S} opened programs sums contexts are fit longest =
    let exact : (k : ℕ) (o : Opened S) → k < length opened → get_or sums k 0 ≡ bytes_asked are.costs k = λ k o below.
    exact_where_it_fits (get_or opened k o).consumer.seen.setup.workers contexts (bytes_asked are.costs k) (get_or sums k 0) (get_or opened k o).consumer.seen.setup.size (fit.workers k o below) fit.some (are.sums_are k 0 below)
    (fit.small k o below) (fit.fits k 0 o below) in
    record {
      costs = are.costs;
      costs_are = are.costs_are;
      within = λ k o below.
          let w = longest.within k 0 o below in
          (w.0, subst (λ n. contexts_by (get_or opened k o).consumer.seen.setup n ≡ Some w.0) (exact k o below) w.1, w.2);
      reached =
          ⊎_elim (λ sixteen. inl sixteen)
          (λ one. inr (one.0, one.1, λ o. subst (λ n. contexts_by (get_or opened one.0 o).consumer.seen.setup n ≡ Some contexts) (exact one.0 o one.1) (one.2 0 o)))
          longest.reached;
    }

-- ---- faults

-- what holds of a ring that is too small holds of the one that is reported
pub reported_small : {T : Type 0} (IsSmall : SmallRing → Type 0) (small : SmallRing) → IsSmall small → (other : SmallRing) → IsErrOf {T = T} (Err (TooSmall small)) (TooSmall other) → IsSmall other
reported_small {T} IsSmall small is other e = subst IsSmall (same_small small other e) is
  where
    same_small : (a b : SmallRing) → ◌≡◌ {A = Result T TurnFault} (Err (TooSmall a)) (Err (TooSmall b)) → a ≡ b
    same_small a b e = cc

pub no_fault : {T E : Type 0} {value : T} {error : E} → ◌≡◌ {A = Result T E} (Ok value) (Err error) → ⊥
no_fault e = cc
