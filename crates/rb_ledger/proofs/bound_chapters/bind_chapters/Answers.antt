use Rattle.std.proofs.Common.{refl}
use Rattle.rb_ledger.proofs.BindingSteps.{chapters-bind, chapters-bound}
use Rattle.rb_ledger.proofs.bound_chapters.bind_chapters.Goals as goal

pub returns-clause-binds : goal.returns-clause-binds
returns-clause-binds c = chapters-bind c.args.chapters.now c.args.last.now (c.if-not-are_numbered.ensures.exact.0 refl) (c.if-not-go_on.ensures.exact.0 refl) c.facts_of_chapters.ensures.legal

pub returns-clause-bound : goal.returns-clause-bound
returns-clause-bound c = chapters-bound c.args.chapters.now c.args.last.now _ (c.if-not-are_numbered.ensures.exact.0 refl) (c.if-not-go_on.ensures.exact.0 refl) c.facts_of_chapters.ensures.legal c.in-Ok.ensures.entries
