use Rattle.std.proofs.Common.{◌∙◌, arith}
use Rattle.rb_stream_worker.specs.inner.RunLaws.{runs_nothing}
use Rattle.rb_stream_worker.proofs.TakenTurns.{turns_more}
use Rattle.rb_stream_worker.proofs.stream_worker.StreamWorker.run_in_turns.Goals as goal

pub loop-init : goal.loop-init
loop-init g c = record { ready = c.requires.ready; ran = runs_nothing c.args.self.now; inside = omega arith; onward = omega arith }

pub take_turn-requires-clause-programs : goal.take_turn-requires-clause-programs
take_turn-requires-clause-programs g c = c.loop.invariant.ran.same.programs_same ∙ c.requires.programs

pub loop-preserved : goal.loop-preserved
loop-preserved g c =
    let i = c.loop.invariant in
    let to = c.turn_end-to.ensures in
    let before = i.onward in
    let more = to.more in
    let within = to.inside in
    let end = c.len-end.ensures in
    record {
      ready = c.take_turn.ensures.ready;
      ran = turns_more c.args.self.now c.loop.self c.take_turn.new.self c.args.piece.now.contexts c.loop.from c.turn_end-to.result (omega (arith, more)) i.ran c.take_turn.ensures.same c.take_turn.ensures.ran;
      inside = omega (arith, within, end);
      onward = omega (arith, before, more);
    }
