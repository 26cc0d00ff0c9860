use Rattle.std.proofs.Common.{refl}
use Rattle.std.specs.Fn.{FnOnceReturnsAtMut}
use Rattle.crossbeam_queue.specs.Passes.{view}
use Rattle.rb_shared_ring.proofs.HandPassing.{took-tagged}
use Rattle.rb_shared_ring.proofs.LockedSteps.{kept-by-facts}
use Rattle.rb_shared_ring.proofs.locked_calls.with_state.Goals as goal

pub call-answer-requires : goal.call-answer-requires
call-answer-requires g c =
    c.requires.callable (view c.take_out-held.new.pass) c.as_mut-state.result.now (took-tagged _ _ _ _ c.as_mut-state.ensures.value c.take_out-held.ensures.took) _ refl

pub put_back-requires-clause-step : goal.put_back-requires-clause-step
put_back-requires-clause-step g c =
    let took = took-tagged _ _ _ _ c.as_mut-state.ensures.value c.take_out-held.ensures.took in
    let called : FnOnceReturnsAtMut g.F.FnOnce c.args.call c.as_mut-state.result.now c.call-answer.result c.call-answer.new.arg2 = record { shown = _; shows = refl; left = _; met = c.call-answer.ensures; leaves = refl } in
    c.requires.step c.call-answer.result (view c.take_out-held.new.pass) c.as_mut-state.result.now c.call-answer.new.arg2 took called (kept-by-facts c.call-answer.new.arg2.state c.facts.ensures.kept c.facts.ensures.stands c.facts.ensures.bounded c.facts.ensures.hands)

pub returns-clause-lent : goal.returns-clause-lent
returns-clause-lent g c = record {
  out = view c.take_out-held.new.pass;
  old = c.as_mut-state.result.now;
  new = c.call-answer.new.arg2;
  took = took-tagged _ _ _ _ c.as_mut-state.ensures.value c.take_out-held.ensures.took;
  called = record { shown = _; shows = refl; left = _; met = c.call-answer.ensures; leaves = refl };
  kept = kept-by-facts c.call-answer.new.arg2.state c.facts.ensures.kept c.facts.ensures.stands c.facts.ensures.bounded c.facts.ensures.hands;
  put = c.put_back.ensures.put;
}
