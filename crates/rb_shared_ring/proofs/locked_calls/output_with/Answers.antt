use Rattle.std.proofs.Common.{rules}
use Rattle.rb_shared_ring.proofs.AnswersMeet.{meets-output}
use Rattle.rb_shared_ring.proofs.HandPassing.{worker-low, took-tagged}
use Rattle.rb_shared_ring.proofs.SeatPassing.{put-out, output}
use Rattle.rb_shared_ring.proofs.LockedSteps.{kept-by-facts}
use Rattle.rb_shared_ring.proofs.locked_calls.output_with.Goals as goal

pub output-answer-requires : goal.output-answer-requires
output-answer-requires g c =
    let took = took-tagged _ _ _ _ c.as_mut-state.ensures.value c.take_out-held.ensures.took in
    record { worker = worker-low c.args.worker _ _ _ c.requires.idle took }

pub put_back-requires-clause-step : goal.put_back-requires-clause-step
put_back-requires-clause-step g c =
    let took = took-tagged _ _ _ _ c.as_mut-state.ensures.value c.take_out-held.ensures.took in
    let e = c.output-answer.ensures in
    put-out c.args.worker _ _ _ _ c.requires.idle took (kept-by-facts c.output-answer.new.self.state c.facts.ensures.kept c.facts.ensures.stands c.facts.ensures.bounded c.facts.ensures.hands) c.args.sheet c.args.flags c.output-answer.result (meets-output _ _ _ _ _ c.output-answer.result e.granted e.notice e.known_flags e.flags e.refused, e.same_hands)

pub returns : goal.returns
returns g c =
    let took = took-tagged _ _ _ _ c.as_mut-state.ensures.value c.take_out-held.ensures.took in
    let e = c.output-answer.ensures in
    let told = output c.args.worker _ _ _ _ c.requires.idle took (kept-by-facts c.output-answer.new.self.state c.facts.ensures.kept c.facts.ensures.stands c.facts.ensures.bounded c.facts.ensures.hands) _ c.put_back.ensures.put c.args.sheet c.args.flags c.output-answer.result (meets-output _ _ _ _ _ c.output-answer.result e.granted e.notice e.known_flags e.flags e.refused, e.same_hands) in
    record {
      same = search rules;
      idle = told.idle;
      call = told.call;
      room = told.room;
      hands = told.hands_are;
      holds = told.holds;
      cut = told.cut;
      handed_back = e.handed_back;
    }
