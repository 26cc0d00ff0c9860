use Rattle.std.proofs.Common.{refl}
use Rattle.rb_chapter_ring.specs.Chapters.{IsChapterRoom}
use Rattle.rb_world.specs.declared.world_setup.RingSetup.{RingSetup}
use Rattle.rb_world.proofs.ListSteps.{all-more, all-done}
use Rattle.rb_world.proofs.world_setup.have_rooms.Goals as goal

pub loop-setup-preserved : goal.loop-setup-preserved
loop-setup-preserved c = all-more (λ (s : RingSetup). IsChapterRoom s.room) c.args.rings.now c.loop-setup.setup-index _ c.loop-setup-test.true (c.is_room.ensures.0 c.if-not-is_room.false) c.loop-setup.invariant

pub returns : goal.returns
returns c = ((λ t. all-done (λ (s : RingSetup). IsChapterRoom s.room) c.args.rings.now c.loop-setup.setup-index c.loop-setup-test.false c.loop-setup.invariant), λ all. refl)
