use Rattle.std.proofs.Common.{subst, get_or, rules}
use Rattle.rb_workers.specs.declared.workers.Worker.{Worker}
use Rattle.rb_workers.specs.inner.WorkerRuns.{GivesBack}
use Rattle.rb_workers.proofs.Lists.{zip_of}
use Rattle.rb_workers.proofs.threads.work_all.Goals as goal

pub returns : goal.returns
returns g c =
    let olds = c.args.workers.now in
    let news = c.for_each_mut.new.s in
    record {
      returned = zip_of (GivesBack c.args.rings.now c.args.jobs.now) olds news (search rules) (λ i d below.
          let at = (c.for_each_mut.ensures i d below).1 in
          subst (λ (x : Worker). GivesBack c.args.rings.now c.args.jobs.now x (get_or news i d)) at.argument_is
          (subst (λ (y : Worker). GivesBack c.args.rings.now c.args.jobs.now at.argument.now y) at.left at.call));
    }
