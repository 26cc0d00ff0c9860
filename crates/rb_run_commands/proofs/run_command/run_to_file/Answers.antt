use Rattle.std.proofs.Common.{◌≡◌, subst}
use Rattle.std.specs.Prelude.{All}
use Rattle.std.specs.Io.KnownBytes.{append_known}
use Rattle.rb_io.specs.Gathered.{Gathered, HandsOn}
use Rattle.rb_run_commands.specs.RunCommand.{RunsWorkers}
use Rattle.rb_run_commands.specs.TapedRun.{TapesRing, first_tape, tape_position, tape_takes}
use Rattle.rb_run_commands.proofs.run_command.run_to_file.Goals as goal

pub returns-clause-printed : goal.returns-clause-printed
returns-clause-printed g c =
    let contents = λ (b : Gathered g.row.F.Denot). append_known (g.F.Write.contents b.writer) b.waiting in
    let writes_out = HandsOn g.F.Write.contents in
    let plan = c.args.planned.now in
    let writer = c.in_ok-writer.writer in
    let report = c.in_ok-report.report in
    let left = c.finish_tape-tape.result.writer in
    let ran : RunsWorkers tape_position (tape_takes contents writes_out) (first_tape writer plan.request) plan.program plan.request report =
    subst (λ sink. RunsWorkers tape_position (tape_takes contents writes_out) sink plan.program plan.request report) c.tape_sink-sink.ensures.value c.in_ok-report.ensures.ran in
    record {
      writer = writer;
      left = left;
      taped = record {
        printed = record { report = report; ran = ran; printed = c.in_ok-report.ensures.printed; told = c.in_ok-report.ensures.told };
        taped =
            subst (λ whole. All (TapesRing contents writes_out plan.request.size whole writer left) report.rings.items) c.if-not-tape.false
            (c.finish_tape-tape.ensures.taped writer plan.program plan.request ran);
      };
      handed_on = c.finish_tape-tape.ensures.handed_on c.if-not-tape.false;
    }
