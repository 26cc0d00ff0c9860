use Rattle.std.proofs.Common.{inl, inr}
use Rattle.rb_tape_commands.proofs.ChapterPass.{is_event, passes}
use Rattle.rb_tape_commands.proofs.transfer.transfer_payload.Goals as goal

pub unreachable-requires-in-Skipped : goal.unreachable-requires-in-Skipped
unreachable-requires-in-Skipped c =
    let kept = c.facts.ensures.kept in
    let event = is_event kept.0 c.args.ring.now.state.ring c.output.new.self.state.ring c.take.new.self.state.ring c.args.payload kept.1 c.requires.worker c.requires.all_taken (rw c.in-Ok.is at c.output.ensures.granted) c.take.result c.take.ensures.takes in
    elim c.in-Skipped.is [
      | inl s ↦ rw s.2 at event
      | inr s ↦ elim s [
        | inl b ↦ rw b at event
        | inr e ↦ rw e at event
      ]
    ]

pub returns-clause-moves_on : goal.returns-clause-moves_on
returns-clause-moves_on c =
    let kept = c.facts.ensures.kept in
    (passes kept.0 c.args.ring.now.state.ring c.output.new.self.state.ring c.take.new.self.state.ring c.args.payload kept.1 c.requires.worker c.requires.all_taken (rw c.in-Ok.is at c.output.ensures.granted) c.take.result c.take.ensures.takes _ _ _ _ c.in-Event.is).moves

pub returns-clause-position : goal.returns-clause-position
returns-clause-position c =
    let kept = c.facts.ensures.kept in
    (passes kept.0 c.args.ring.now.state.ring c.output.new.self.state.ring c.take.new.self.state.ring c.args.payload kept.1 c.requires.worker c.requires.all_taken (rw c.in-Ok.is at c.output.ensures.granted) c.take.result c.take.ensures.takes _ _ _ _ c.in-Event.is).position_is

pub returns-clause-bytes : goal.returns-clause-bytes
returns-clause-bytes c =
    let kept = c.facts.ensures.kept in
    (passes kept.0 c.args.ring.now.state.ring c.output.new.self.state.ring c.take.new.self.state.ring c.args.payload kept.1 c.requires.worker c.requires.all_taken (rw c.in-Ok.is at c.output.ensures.granted) c.take.result c.take.ensures.takes _ _ _ _ c.in-Event.is).bytes_are
