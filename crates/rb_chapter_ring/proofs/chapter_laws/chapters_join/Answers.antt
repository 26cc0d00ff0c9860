use Rattle.rb_chapter_ring.proofs.Bound.{once-bound}
use Rattle.rb_chapter_ring.proofs.Join.{chapters-join}
use Rattle.rb_chapter_ring.proofs.chapter_laws.chapters_join.Goals as goal

pub returns : goal.returns
returns c = record { joins = chapters-join; binds = once-bound }
