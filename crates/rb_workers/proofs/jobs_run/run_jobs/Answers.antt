use Rattle.rb_workers.proofs.Same.{unchanged}
use Rattle.rb_workers.proofs.Settling.{all_settled, no_strays}
use Rattle.rb_workers.proofs.jobs_run.run_jobs.Goals as goal

pub returns-then-unknown-clause-handed_back : goal.returns-then-unknown-clause-handed_back
returns-then-unknown-clause-handed_back g c = unchanged g.S.Sink.position_of g.S.Sink.takes c.args.opened.items c.args.jobs.now c.requires.opened

pub returns-then-unknown-2-clause-handed_back : goal.returns-then-unknown-2-clause-handed_back
returns-then-unknown-2-clause-handed_back g c = unchanged g.S.Sink.position_of g.S.Sink.takes c.args.opened.items c.args.jobs.now c.requires.opened

pub returns-in_default-clause-handed_back : goal.returns-in_default-clause-handed_back
returns-in_default-clause-handed_back g c = unchanged g.S.Sink.position_of g.S.Sink.takes c.args.opened.items c.args.jobs.now c.requires.opened

pub returns-in-Ok-run_known-clause-no_strays : goal.returns-in-Ok-run_known-clause-no_strays
returns-in-Ok-run_known-clause-no_strays g c =
    no_strays g.S.Sink.position_of g.S.Sink.takes c.args.opened.items c.args.jobs.now c.in-Ok-run_known.report c.in-Ok-run_known.ensures.report

pub returns-in-Ok-run_known-clause-settled : goal.returns-in-Ok-run_known-clause-settled
returns-in-Ok-run_known-clause-settled g c =
    all_settled g.S.Sink.position_of g.S.Sink.takes c.args.opened.items c.args.jobs.now c.in-Ok-run_known.report c.requires.opened c.in-Ok-run_known.ensures.report
