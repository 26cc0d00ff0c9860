use Rattle.std.proofs.Common.{rules, refl}
use Rattle.rb_stream_worker.proofs.Runs.{contexts_more, part_none}
use Rattle.rb_stream_worker.proofs.context_runs.run_part.Goals as goal

pub loop-at-init : goal.loop-at-init
loop-at-init g c = record { rings = refl; ran = part_none c.args.worker c.args.programs.now c.args.piece.now.contexts c.args.from c.args.runner.now.seats c.args.counts.now }

pub loop-at-preserved : goal.loop-at-preserved
loop-at-preserved g c = search (rules, contexts_more)
