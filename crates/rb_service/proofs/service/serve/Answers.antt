use Rattle.std.proofs.Common.{◌∙◌, List, Err, ap, subst, vec_len}
use Rattle.std.specs.Prelude.{All}
use Rattle.rb_history.specs.RingModel.{IsRingSize, IsWorkerCount}
use Rattle.rb_service.specs.Faults.{IsRightFault, IsTooSmallFor}
use Rattle.rb_service.specs.declared.rings.RingPlan.{RingPlan}
use Rattle.rb_service.specs.declared.service.ServiceFault.TheVariants.{ContextLength, FewerRings, Size, TooSmall, UnknownRing, Workers}
use Rattle.rb_service.proofs.Plans.{no_size}
use Rattle.rb_service.proofs.Served.{of_error, size_handed_on, size_hides_workers, workers_handed_on, workers_hide_size}
use Rattle.rb_service.proofs.service.serve.Goals as goal

pub serve_planned-requires-clause-sizes : goal.serve_planned-requires-clause-sizes
serve_planned-requires-clause-sizes g c = λ lives outlives. subst (λ (l : List (RingPlan _)). All (λ (p : RingPlan _). IsRingSize p.size) l) c.as_slice.ensures.value c.in-Ok.ensures.allowed.0

pub returns-in-Ok-clause-size : goal.returns-in-Ok-clause-size
returns-in-Ok-clause-size g c =
    no_size c.args.plans.items _ Size (λ number e. of_error (IsRightFault (vec_len c.args.plans) c.args.programs.now (g.I.Source.ctx_len_of c.args.source.now) c.args.request.full (IsTooSmallFor g.S.Sink.position_of c.args.request.workers c.args.plans.items c.args.programs.now)) c.serve_planned.result (Size number) c.serve_planned.ensures.fault e) (subst (λ (l : List (RingPlan _)). All (λ (p : RingPlan _). IsRingSize p.size) l) c.as_slice.ensures.value c.in-Ok.ensures.allowed.0)

pub returns-in-Ok-clause-workers : goal.returns-in-Ok-clause-workers
returns-in-Ok-clause-workers g c = (
  λ e. absurd (of_error (IsRightFault (vec_len c.args.plans) c.args.programs.now (g.I.Source.ctx_len_of c.args.source.now) c.args.request.full (IsTooSmallFor g.S.Sink.position_of c.args.request.workers c.args.plans.items c.args.programs.now)) c.serve_planned.result Workers c.serve_planned.ensures.fault e),
  λ h. absurd (h.1 c.in-Ok.ensures.allowed.1),
)

pub returns-in-Ok-clause-unknown_ring : goal.returns-in-Ok-clause-unknown_ring
returns-in-Ok-clause-unknown_ring g c = of_error (IsRightFault (vec_len c.args.plans) c.args.programs.now (g.I.Source.ctx_len_of c.args.source.now) c.args.request.full (IsTooSmallFor g.S.Sink.position_of c.args.request.workers c.args.plans.items c.args.programs.now)) c.serve_planned.result UnknownRing c.serve_planned.ensures.fault

pub returns-in-Ok-clause-context_length : goal.returns-in-Ok-clause-context_length
returns-in-Ok-clause-context_length g c = of_error (IsRightFault (vec_len c.args.plans) c.args.programs.now (g.I.Source.ctx_len_of c.args.source.now) c.args.request.full (IsTooSmallFor g.S.Sink.position_of c.args.request.workers c.args.plans.items c.args.programs.now)) c.serve_planned.result ContextLength c.serve_planned.ensures.fault

pub returns-in-Ok-clause-fewer_rings : goal.returns-in-Ok-clause-fewer_rings
returns-in-Ok-clause-fewer_rings g c = of_error (IsRightFault (vec_len c.args.plans) c.args.programs.now (g.I.Source.ctx_len_of c.args.source.now) c.args.request.full (IsTooSmallFor g.S.Sink.position_of c.args.request.workers c.args.plans.items c.args.programs.now)) c.serve_planned.result FewerRings c.serve_planned.ensures.fault

pub returns-in-Ok-clause-too_small : goal.returns-in-Ok-clause-too_small
returns-in-Ok-clause-too_small g c = λ small. of_error (IsRightFault (vec_len c.args.plans) c.args.programs.now (g.I.Source.ctx_len_of c.args.source.now) c.args.request.full (IsTooSmallFor g.S.Sink.position_of c.args.request.workers c.args.plans.items c.args.programs.now)) c.serve_planned.result (TooSmall small) c.serve_planned.ensures.fault

pub returns-in-Err-Size-clause-size : goal.returns-in-Err-Size-clause-size
returns-in-Err-Size-clause-size g c =
    rw c.in-Err-Size.field-0-is (size_handed_on c.as_slice.result.now c.args.plans.items (IsWorkerCount c.args.request.workers) c.as_slice.ensures.value c.check_plans.result c.check_plans.ensures.size c.check_plans.ensures.workers c.in-Err-Size.number (c.in-Err-Size.is ∙ ap Err c.in-Err-Size.field-0-is))

pub returns-in-Err-Size-clause-workers : goal.returns-in-Err-Size-clause-workers
returns-in-Err-Size-clause-workers g c =
    rw c.in-Err-Size.field-0-is (size_hides_workers c.as_slice.result.now c.args.plans.items (IsWorkerCount c.args.request.workers) c.as_slice.ensures.value c.check_plans.result c.check_plans.ensures.size c.check_plans.ensures.workers c.in-Err-Size.number (c.in-Err-Size.is ∙ ap Err c.in-Err-Size.field-0-is))

pub returns-clause-size : goal.returns-clause-size
returns-clause-size g c = workers_hide_size c.as_slice.result.now c.args.plans.items (IsWorkerCount c.args.request.workers) c.as_slice.ensures.value c.check_plans.result c.check_plans.ensures.size c.check_plans.ensures.workers (c.in-Err-Workers.is ∙ ap Err c.in-Err-Workers.field-0-is)

pub returns-clause-workers : goal.returns-clause-workers
returns-clause-workers g c = workers_handed_on c.as_slice.result.now c.args.plans.items (IsWorkerCount c.args.request.workers) c.as_slice.ensures.value c.check_plans.result c.check_plans.ensures.size c.check_plans.ensures.workers (c.in-Err-Workers.is ∙ ap Err c.in-Err-Workers.field-0-is)
