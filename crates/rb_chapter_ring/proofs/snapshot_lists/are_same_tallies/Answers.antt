use Rattle.std.proofs.Common.{rules}
use Rattle.std.proofs.lemmas.Slice.Eq.{slice_eq-Decides}
use Rattle.rb_chapter_ring.proofs.snapshot_lists.are_same_tallies.Goals as goal

pub returns : goal.returns
returns c = record { exact = slice_eq-Decides (λ a b. search rules) c.args.tallies.now c.args.others.now c.eq.result c.eq.ensures }
