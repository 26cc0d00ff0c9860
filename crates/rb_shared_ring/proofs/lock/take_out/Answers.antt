use Rattle.std.proofs.Common.{ap, subst, ◌∙◌}
use Rattle.crossbeam_queue.specs.Passes.{view}
use Rattle.rb_ledger.specs.HandKnowledge.{HandPassView}
use Rattle.rb_ledger.specs.HandLockSteps.{TakesHandState}
use Rattle.rb_ledger.proofs.HandLock.{takes}
use Rattle.rb_shared_ring.proofs.HandPassing.{took-lent}
use Rattle.rb_shared_ring.proofs.lock.take_out.Goals as goal

pub pop_as-requires-clause-rule : goal.pop_as-requires-clause-rule
pop_as-requires-clause-rule g c = (takes _ _ (ap (λ (v : HandPassView). v.out) c.loop.invariant.1 ∙ c.requires.free), λ _ _ _ _. tt)

pub returns-in-Some-pop_as-clause-took : goal.returns-in-Some-pop_as-clause-took
returns-in-Some-pop_as-clause-took g c =
    let took = subst (λ (v : HandPassView). TakesHandState v c.in-Some-pop_as.state (view c.pop_as.new.pass)) c.loop.invariant.1 c.in-Some-pop_as.ensures.rule in
    took-lent _ _ _ _ c.state.view_is took
