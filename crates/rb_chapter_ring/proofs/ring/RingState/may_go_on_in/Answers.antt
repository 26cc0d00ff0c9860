use Rattle.std.proofs.Common.{◌↔◌, IsTrue, subst}
use Rattle.rb_chapter_ring.specs.OpenedRing.{MayGoOnIn}
use Rattle.rb_chapter_ring.specs.TaggedRing.{TaggedRing}
use Rattle.rb_chapter_ring.specs.inner.RingBody.{parts_of, ring_in}
use Rattle.rb_chapter_ring.proofs.Turns.{fit-exact}
use Rattle.rb_chapter_ring.proofs.ring.RingState.may_go_on_in.Goals as goal

pub returns : goal.returns
returns c = record { exact = subst (λ (s : TaggedRing). IsTrue c.is_fit.result ↔ MayGoOnIn s.state.ring c.args.empty.now) c.self.view_is (fit-exact (ring_in (parts_of c.self.inside)) c.args.empty.now c.is_fit.result c.is_fit.ensures.exact) }
