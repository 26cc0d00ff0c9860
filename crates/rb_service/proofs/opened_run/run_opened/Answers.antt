use Rattle.std.proofs.Common.{◌≤◌, List, Err, ap, length, subst, sym, ◌∙◌}
use Rattle.std.specs.Prelude.{All}
use Rattle.rb_verifier.specs.Subject.{Subject}
use Rattle.rb_workers.specs.declared.opened.Opened.{Opened}
use Rattle.rb_waiting.specs.Faults.{IsFirstTooSmall}
use Rattle.rb_waiting.specs.Plans.{IsPlan}
use Rattle.rb_service.proofs.Served.{turn_fault_right}
use Rattle.rb_service.proofs.opened_run.run_opened.Goals as goal

pub run_in_turns-requires-clause-planned : goal.run_in_turns-requires-clause-planned
run_in_turns-requires-clause-planned g c = λ κs within. subst (λ (l : List (Opened _)). IsPlan l c.args.programs.now c.in-Ok.turns) c.as_slice.ensures.value c.in-Ok.ensures.planned

pub returns-in-Err-clause-fault : goal.returns-in-Err-clause-fault
returns-in-Err-clause-fault g c =
    let same = c.as_slice.ensures.value in
    turn_fault_right _ c.args.programs.now (g.I.Source.ctx_len_of c.args.source.now) c.args.request.full (IsFirstTooSmall c.args.opened.items c.args.programs.now) c.in-Err.fault c.turn_fault.result c.turn_fault.ensures.value c.in-Wait.is
    (λ fewer. subst (λ n. ¬ All (λ (p : Subject). n ≤ p.rings) c.args.programs.now) (ap length same ∙ sym c.args.opened.ok.0) (c.in-Err.ensures.fewer_rings.0 (ap Err fewer)))
    (λ small is. subst (λ (l : List (Opened _)). IsFirstTooSmall l c.args.programs.now small) same (c.in-Err.ensures.too_small small (ap Err is)))
