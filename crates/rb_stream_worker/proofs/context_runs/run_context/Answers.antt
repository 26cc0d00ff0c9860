use Rattle.std.proofs.Common.{rules}
use Rattle.rb_stream_worker.proofs.Runs.{context_done, context_left, contexts_left}
use Rattle.rb_stream_worker.proofs.context_runs.run_context.Goals as goal

pub returns-then-counts-clause-ran : goal.returns-then-counts-clause-ran
returns-then-counts-clause-ran g c = search (rules, contexts_left)

pub returns-then-run_programs-clause-ran : goal.returns-then-run_programs-clause-ran
returns-then-run_programs-clause-ran g c = search (rules, context_done)

pub returns-else-run_programs-clause-ran : goal.returns-else-run_programs-clause-ran
returns-else-run_programs-clause-ran g c =
    let tried = c.if-run_programs.ensures.ran in
    context_left c.args.worker c.args.programs.now c.args.context.now tried.0 _ _ _ _ _ c.if-counts.false tried.1 tried.2 c.leave-else-run_programs.ensures
