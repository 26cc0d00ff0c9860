use Rattle.std.proofs.Common.{subst}
use Rattle.rb_chapter_ring.specs.Chapters.{joined}
use Rattle.rb_chapter_ring.specs.WholeHistory.{IsKept}
use Rattle.rb_world.specs.WorldValue.{KeptRing}
use Rattle.rb_world.proofs.KeptChapters.{kept-of}
use Rattle.rb_world.proofs.consumed_ring.ConsumedRing.facts.Goals as goal

pub returns-clause-kept : goal.returns-clause-kept
returns-clause-kept c = subst (λ (s : KeptRing). IsKept (joined s.chapters) s.ring.state.ring.chapter) c.self.view_is (kept-of _ c.self.invariant)
