use Rattle.rb_dealing.specs.inner.Feeds.{DealsGiven}
use Rattle.rb_dealing.proofs.reader.deal.Given as goal

abbrev pub invariant-loop : goal.invariant-loop
invariant-loop g l = DealsGiven g.I.Source.gives l.fn.source l.source l.fn.feeds l.feeds l.fn.dealing l.dealing
