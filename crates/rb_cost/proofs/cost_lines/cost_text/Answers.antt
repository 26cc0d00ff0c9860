use Rattle.std.proofs.Common.{◌≡◌, ℕ, List, Option, ◌++◌, ◌+◌, suc, ◌∙◌, ap, subst, append_assoc, arith}
use Rattle.std.specs.Prelude.{string_bytes, slice_index_or}
use Rattle.rb_json.specs.declared.form.LineForm.{LineForm}
use Rattle.rb_cost.specs.declared.cost.RingCost.{RingCost}
use Rattle.rb_cost.specs.declared.ring_size.JobsAtOnce.{JobsAtOnce}
use Rattle.rb_cost.specs.Cost.{no_ring_cost}
use Rattle.rb_cost.specs.CostLines.{front_text, ring_text, chosen_text, rings_text}
use Rattle.rb_cost.proofs.cost_lines.cost_text.Goals as goal

-- two more pieces after what follows the front
two_more : (front rest before between after one other : List ℕ) → before ≡ front ++ rest → between ≡ before ++ one → after ≡ between ++ other → after ≡ front ++ ((rest ++ one) ++ other)
two_more front rest before between after one other was then is =
    is ∙ (ap (λ x. x ++ other) (then ∙ (ap (λ x. x ++ one) was ∙ append_assoc front rest one)) ∙ append_assoc front (rest ++ one) other)

next_rings : (form : LineForm) (jobs : Option JobsAtOnce) (costs : List RingCost) (ring : ℕ)
    → (rings_text form jobs costs ring ++ ring_text form ring (slice_index_or costs ring no_ring_cost)) ++ chosen_text form jobs ring (slice_index_or costs ring no_ring_cost) ≡ rings_text form jobs costs (ring + 1)
next_rings form jobs costs ring = let next : suc ring ≡ ring + 1 = omega arith in ap (rings_text form jobs costs) next

pub loop-ring-preserved : goal.loop-ring-preserved
loop-ring-preserved c =
    let form = c.args.form in
    let jobs = c.args.jobs in
    let ring = c.loop-ring.ring in
    let costs = c.args.cost.now.rings.items in
    let cost = slice_index_or costs ring no_ring_cost in
    let first : string_bytes c.push_ring.new.text ≡ string_bytes c.loop-ring.text ++ ring_text form ring cost =
    subst (λ items. string_bytes c.push_ring.new.text ≡ string_bytes c.loop-ring.text ++ ring_text form ring (slice_index_or items ring no_ring_cost)) c.deref-ring_cost-items.ensures.value c.in_ok-push_ring.ensures.added in
    let second : string_bytes c.push_chosen.new.text ≡ string_bytes c.push_ring.new.text ++ chosen_text form jobs ring cost =
    subst (λ items. string_bytes c.push_chosen.new.text ≡ string_bytes c.push_ring.new.text ++ chosen_text form jobs ring (slice_index_or items ring no_ring_cost)) c.deref-ring_cost-items.ensures.value c.in_ok-push_chosen.ensures.added in
    two_more (front_text form c.args.cost.now) (rings_text form jobs costs ring) (string_bytes c.loop-ring.text) (string_bytes c.push_ring.new.text) (string_bytes c.push_chosen.new.text) (ring_text form ring cost) (chosen_text form jobs ring cost) c.loop-ring.invariant first second
    ∙ ap (λ x. front_text form c.args.cost.now ++ x) (next_rings form jobs costs ring)
