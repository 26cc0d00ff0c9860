use Rattle.std.proofs.Common.{length, refl}
use Rattle.std.proofs.lemmas.Option.{slice_get_read}
use Rattle.rb_stream_worker.proofs.Runs.{task_ran}
use Rattle.rb_stream_worker.proofs.context_runs.run_program.Goals as goal

pub returns-clause-ran : goal.returns-clause-ran
returns-clause-ran g c =
    let ps = c.args.programs.now in
    let found = slice_get_read ps (length ps) c.args.index c.index-programs-index.result refl c.requires.index c.index-programs-index.is in
    task_ran c.args.worker ps c.args.index c.args.context.now c.index-programs-index.result c.in-Ok.answer c.in-Ok-result.number _ _ _ _ found c.in-Ok.ensures.ran.0 c.in-Ok-result.is c.count_run.ensures.counted c.count_run.ensures.same
