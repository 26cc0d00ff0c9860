use Rattle.std.proofs.Common.{◌≡◌, ◌<◌, length, sym, ap, subst, ◌∙◌}
use Rattle.rb_chapter_ring.specs.WholeHistory.{Binds, IsBound}
use Rattle.rb_world.specs.WorldValue.{KeptRing, WorldValue, no_kept_ring, ring_at, world_of}
use Rattle.rb_world.proofs.KeptChapters.{bound-of}
use Rattle.rb_world.proofs.ShownWorlds.{at-default}
use Rattle.rb_world.proofs.world.World.chapters.Goals as goal

pub returns-clause-bound : goal.returns-clause-bound
returns-clause-bound c =
    let inside : WorldValue = record { rings = c.self.inside.rings.items; machines = c.self.inside.machines.items } in
    let r = c.args.r in
    let low : c.args.r < length inside.rings = subst (λ (b : WorldValue). c.args.r < length b.rings) (sym c.self.view_is) c.requires.ring in
    let shown : record { ring = c.behind-self.inside.ring; chapters = c.behind-self.inside.chapters.items; taken = c.behind-self.inside.taken.items } ≡ ring_at inside r =
    c.behind-self.view_is ∙ at-default inside.rings r c.index-2.result.now no_kept_ring low c.index-2.ensures in
    let told : c.as_slice.result.now ≡ (ring_at inside r).chapters = c.as_slice.ensures.value ∙ ap (λ (s : KeptRing). s.chapters) shown in
    let binds : Binds (ring_at inside r).chapters (ring_at inside r).ring.state.ring.chapter = subst (λ (s : KeptRing). Binds s.chapters s.ring.state.ring.chapter) shown c.behind-self.invariant.binds in
    subst (λ (b : WorldValue). IsBound c.as_slice.result.now (ring_at b r).ring.state.ring.chapter ((world_of b).rings r).ring.history) c.self.view_is
    (subst (λ l. IsBound l (ring_at inside r).ring.state.ring.chapter ((world_of inside).rings r).ring.history) (sym told) (bound-of inside r low binds))
