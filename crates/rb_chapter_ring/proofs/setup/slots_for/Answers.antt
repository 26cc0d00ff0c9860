use Rattle.rb_chapter_ring.proofs.Pieces.{eighth-power}
use Rattle.rb_chapter_ring.proofs.setup.slots_for.Goals as goal

pub returns-then-places-room-clause-power : goal.returns-then-places-room-clause-power
returns-then-places-room-clause-power c = eighth-power c.args.size c.requires.size
