use Rattle.std.proofs.Common.{rules}
use Rattle.rb_stream_worker.proofs.Runs.{worker_left}
use Rattle.rb_stream_worker.proofs.work_impl.StreamWorkerWork.run.Goals as goal

pub returns-then-ctx_len-self-clause-ran : goal.returns-then-ctx_len-self-clause-ran
returns-then-ctx_len-self-clause-ran g c = search (rules, worker_left)
