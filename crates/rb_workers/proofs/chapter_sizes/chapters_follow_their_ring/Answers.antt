use Rattle.rb_workers.proofs.ChapterSizes.{chapters-follow-their-ring}
use Rattle.rb_workers.proofs.chapter_sizes.chapters_follow_their_ring.Goals as goal

pub returns : goal.returns
returns c = record { law = chapters-follow-their-ring }
