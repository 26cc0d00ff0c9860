use Rattle.rb_chapter_ring.proofs.Stands.{goes-on}
use Rattle.rb_chapter_ring.proofs.chapter_laws.counted_from_the_opening.Goals as goal

pub returns : goal.returns
returns c = record { law = goes-on }
