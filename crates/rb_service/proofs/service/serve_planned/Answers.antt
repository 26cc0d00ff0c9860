use Rattle.std.proofs.Common.{◌≡◌, vec_len, arith}
use Rattle.rb_jobs.proofs.Lists.{zip_length}
use Rattle.rb_workers.specs.Opened.{workers_of}
use Rattle.rb_waiting.specs.Faults.{IsFirstTooSmall}
use Rattle.rb_service.specs.Faults.{IsTooSmallFor}
use Rattle.rb_service.specs.Rings.{IsFreshFor}
use Rattle.rb_service.proofs.Dealt.{counts_add_up}
use Rattle.rb_service.proofs.Opening.{all_opened, all_unasked}
use Rattle.rb_service.proofs.Served.{right_for_plans}
use Rattle.rb_service.proofs.service.serve_planned.Goals as goal

pub run_opened-requires-clause-opened : goal.run_opened-requires-clause-opened
run_opened-requires-clause-opened g c κs within = all_opened g.S.Sink.position_of c.args.request.workers c.in-Ok.opened.items c.in-Ok.ensures.opened

pub returns-in-Ok-run_opened-clause-served : goal.returns-in-Ok-run_opened-clause-served
returns-in-Ok-run_opened-clause-served g c = record {
  opened = c.in-Ok.opened.items;
  fresh = c.in-Ok.ensures.fresh;
  ran = c.in-Ok-run_opened.ensures.ran;
}

pub returns-in-Ok-run_opened-clause-none_refused : goal.returns-in-Ok-run_opened-clause-none_refused
returns-in-Ok-run_opened-clause-none_refused g c = λ waits. c.in-Ok-run_opened.ensures.none_refused waits (all_unasked g.S.Sink.position_of c.args.request.workers c.args.plans.items c.in-Ok.opened.items c.in-Ok.ensures.fresh)

pub returns-in-Ok-run_opened-clause-adds_up : goal.returns-in-Ok-run_opened-clause-adds_up
returns-in-Ok-run_opened-clause-adds_up g c =
    let s = c.in-Ok-run_opened.ensures.ran.streamed in
    let r = c.in-Ok-run_opened.report in
    counts_add_up (workers_of c.in-Ok.opened.items) s.pieces r.contexts r.ran r.dropped s.known s.contexts_are s.ran_are s.dropped_are

pub returns-in-Err-clause-fault : goal.returns-in-Err-clause-fault
returns-in-Err-clause-fault g c =
    let z = zip_length (IsFreshFor g.S.Sink.position_of c.args.request.workers) c.args.plans.items c.in-Ok.opened.items c.in-Ok.ensures.fresh in
    let same : vec_len c.in-Ok.opened ≡ vec_len c.args.plans = omega (arith, z, c.in-Ok.opened.ok.0, c.args.plans.ok.0) in
    right_for_plans (vec_len c.in-Ok.opened) (vec_len c.args.plans) c.args.programs.now (g.I.Source.ctx_len_of c.args.source.now) c.args.request.full (IsFirstTooSmall c.in-Ok.opened.items c.args.programs.now)
    (IsTooSmallFor g.S.Sink.position_of c.args.request.workers c.args.plans.items c.args.programs.now) c.in-Err.fault same (λ small too_small. record { opened = c.in-Ok.opened.items; fresh = c.in-Ok.ensures.fresh; too_small = too_small }) c.in-Err.ensures.fault
