use Rattle.std.proofs.Common.{List, sym, subst, ◌∙◌}
use Rattle.std.specs.Prelude.{All}
use Rattle.std.proofs.lemmas.Bool.{true≢false}
use Rattle.rb_history.specs.RingModel.{IsRingSize}
use Rattle.rb_service.specs.declared.options.NamedRing.{NamedRing}
use Rattle.rb_service.proofs.refusal.check_options.Goals as goal

pub returns-then-not-is_worker_count-clause-refused : goal.returns-then-not-is_worker_count-clause-refused
returns-then-not-is_worker_count-clause-refused c = (
  c.has_contexts.ensures.value.0 c.if-not-has_contexts.false,
  subst (λ (l : List NamedRing). All (λ (r : NamedRing). IsRingSize r.size) l) c.as_slice.ensures.value c.in_default.ensures.right,
  (λ count. true≢false (sym (c.is_worker_count.ensures.test.1 count) ∙ c.if-not-is_worker_count.true)),
)

pub returns-clause-allowed : goal.returns-clause-allowed
returns-clause-allowed c = record {
  contexts = c.has_contexts.ensures.value.0 c.if-not-has_contexts.false;
  sizes = subst (λ (l : List NamedRing). All (λ (r : NamedRing). IsRingSize r.size) l) c.as_slice.ensures.value c.in_default.ensures.right;
  workers = c.is_worker_count.ensures.test.0 c.if-not-is_worker_count.false;
}
