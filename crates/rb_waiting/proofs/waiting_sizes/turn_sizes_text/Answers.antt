use Rattle.std.proofs.Common.{◌≡◌, ℕ, List, ◌++◌, ◌+◌, suc, ◌∙◌, ap, subst, arith}
use Rattle.std.specs.Prelude.{string_bytes, slice_index_or}
use Rattle.rb_json.specs.declared.form.LineForm.{LineForm}
use Rattle.rb_cost.specs.declared.cost.RingCost.{RingCost}
use Rattle.rb_cost.specs.Cost.{no_ring_cost}
use Rattle.rb_waiting.specs.TurnSizes.{ring_text, rings_text}
use Rattle.rb_waiting.proofs.waiting_sizes.turn_sizes_text.Goals as goal

next_rings : (form : LineForm) (workers : ℕ) (costs : List RingCost) (ring : ℕ) → rings_text form workers costs ring ++ ring_text form ring workers (slice_index_or costs ring no_ring_cost).bytes ≡ rings_text form workers costs (ring + 1)
next_rings form workers costs ring = let next : suc ring ≡ ring + 1 = omega arith in ap (rings_text form workers costs) next

pub loop-ring-preserved : goal.loop-ring-preserved
loop-ring-preserved c =
    let form = c.args.form in
    let workers = c.args.workers in
    let ring = c.loop-ring.ring in
    let costs = c.args.cost.now.rings.items in
    let added : string_bytes c.push_sizes.new.text ≡ string_bytes c.loop-ring.text ++ ring_text form ring workers (slice_index_or costs ring no_ring_cost).bytes =
    subst (λ items. string_bytes c.push_sizes.new.text ≡ string_bytes c.loop-ring.text ++ ring_text form ring workers (slice_index_or items ring no_ring_cost).bytes) c.deref-ring_cost-items.ensures.value c.in_ok-push_sizes.ensures.added in
    added ∙ (ap (λ x. x ++ ring_text form ring workers (slice_index_or costs ring no_ring_cost).bytes) c.loop-ring.invariant ∙ next_rings form workers costs ring)
