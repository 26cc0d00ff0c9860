use Rattle.std.proofs.Common.{subst, get_or, rules}
use Rattle.rb_workers.specs.inner.ConsumerTasks.{IsConsumerTaskOf, Consumed}
use Rattle.rb_workers.specs.declared.consumer_task.ConsumerTask.{ConsumerTask}
use Rattle.rb_workers.proofs.Lists.{zip_of, zip_seen}
use Rattle.rb_workers.proofs.threads.consume_all.Goals as goal

pub for_each_mut-requires-clause-accepts : goal.for_each_mut-requires-clause-accepts
for_each_mut-requires-clause-accepts g c κs within = λ i p below is. zip_seen (IsConsumerTaskOf g.S.Sink.position_of) c.args.rings.now c.args.consumers.now i p.now c.requires.ready below is

pub returns : goal.returns
returns g c =
    let olds = c.args.consumers.now in
    let news = c.for_each_mut.new.s in
    record {
      returned = zip_of (Consumed g.S.Sink.position_of g.S.Sink.takes) olds news (search rules) (λ i d below.
          let at = (c.for_each_mut.ensures i d below).1 in
          subst (λ (x : ConsumerTask _). Consumed g.S.Sink.position_of g.S.Sink.takes x (get_or news i d)) at.argument_is
          (subst (λ (y : ConsumerTask _). Consumed g.S.Sink.position_of g.S.Sink.takes at.argument.now y) at.left at.call));
    }
