use Rattle.std.proofs.Common.{◌≡◌, ℕ, ◌+◌, ◌<◌, ◌++◌, ⊎_elim, List, [], ◌∷◌, length, sym, ◌∙◌, ap, subst, arith}
use Rattle.std.specs.Prelude.{slice_index_or}
use Rattle.std.proofs.lemmas.Bool.{cases_lt}
use Rattle.std.proofs.lemmas.List.{get_or_append_left, length-append}
use Rattle.std.proofs.Math.Seq.{get_or-append_seam}
use Rattle.rb_verifier.specs.Annotation.{state_at}
use Rattle.rb_cost.specs.Cost.{IsRingCost, no_ring_cost}
use Rattle.rb_cost.proofs.Agreeing.{most_same, total-steps}
use Rattle.rb_cost.proofs.program_cost.cost_under.Goals as goal

-- what holds for each index of a list, and for one more element, holds for each index of the longer list
each_pushed : {X : Type 0} (P : ℕ → X → Type 0) (xs : List X) (y d : X) (n : ℕ) → length xs ≡ n → ((k : ℕ) → k < n → P k (slice_index_or xs k d)) → P n y → (k : ℕ) → k < n + 1 → P k (slice_index_or (xs ++ y ∷ []) k d)
each_pushed P xs y d n count each here k lt = ⊎_elim
    (λ before. let inside : k < length xs = omega arith in subst (P k) (sym (get_or_append_left xs (y ∷ []) d k inside)) (each k before))
    (λ late. let last : length xs ≡ k = omega arith in
    let value : slice_index_or (xs ++ y ∷ []) k d ≡ y = subst (λ i. slice_index_or (xs ++ y ∷ []) i d ≡ y) last (get_or-append_seam xs y [] d) in
    subst (P k) (sym value) (subst (λ i. P i y) (sym count ∙ last) here))
    (cases_lt k n)

pub loop-ring-preserved : goal.loop-ring-preserved
loop-ring-preserved c =
    let items : c.push.new.self.items ≡ c.loop-ring.costs.items ++ c.in_ok-ring_cost.field-0 ∷ [] = c.in_ok-push.ensures.items in
    record {
      count = ap length items ∙ (length-append c.loop-ring.costs.items (c.in_ok-ring_cost.field-0 ∷ []) ∙ ap (λ n. n + 1) c.loop-ring.invariant.count);
      each = λ ring lt. subst (λ xs. IsRingCost c.args.program.now (state_at c.args.states.now) ring (slice_index_or xs ring no_ring_cost)) (sym items)
          (each_pushed (IsRingCost c.args.program.now (state_at c.args.states.now)) c.loop-ring.costs.items c.in_ok-ring_cost.field-0 no_ring_cost c.loop-ring.ring c.loop-ring.invariant.count c.loop-ring.invariant.each c.in_ok-ring_cost.ensures ring lt);
    }

pub returns : goal.returns
returns c =
    let last : c.loop-ring.ring ≡ c.args.rings = omega arith in
    record {
      steps = most_same (λ path is. total-steps path) c.in_ok-most_on_path.ensures;
      calls = c.in_ok-most_on_path-2.ensures;
      count = c.loop-ring.invariant.count ∙ last;
      rings = λ ring lt. c.loop-ring.invariant.each ring (omega arith);
    }
