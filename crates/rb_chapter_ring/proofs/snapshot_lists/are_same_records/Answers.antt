use Rattle.std.proofs.Common.{◌≡◌, Decides, map, ap, rules}
use Rattle.std.proofs.lemmas.Slice.Eq.{slice_eq-Decides}
use Rattle.rb_chapter_ring.specs.UntakenRecords.{untaken_shown}
use Rattle.rb_chapter_ring.proofs.SameSnapshot.{same-records}
use Rattle.rb_chapter_ring.proofs.snapshot_lists.are_same_records.Goals as goal

pub returns : goal.returns
returns c =
    let decides : Decides c.eq.result (c.args.records.now ≡ c.args.others.now) = slice_eq-Decides (λ a b. search rules) c.args.records.now c.args.others.now c.eq.result c.eq.ensures in
    record { exact = (λ t. ap (map untaken_shown) (decides.0 t), λ e. decides.1 (same-records c.args.records.now c.args.others.now e)) }
