use Rattle.std.proofs.Common.{sym, ◌∙◌, subst, ◌++◌, ◌∷◌, []}
use Rattle.std.specs.Prelude.{map}
use Rattle.rb_segments.specs.Known.{HavePositions}
use Rattle.rb_segments.specs.declared.stored_segment.StoredSegment.{StoredSegment}
use Rattle.rb_segments.proofs.Restarting.{listed_positions}
use Rattle.rb_segments.proofs.writer.SegmentWriter.open.Goals as goal

pub resume-requires-clause-positions : goal.resume-requires-clause-positions
resume-requires-clause-positions g c =
    let older = c.in-Some.older.now in
    let newest = c.in-Some.newest.now in
    subst (HavePositions (map (λ (s : StoredSegment). s.position) older ++ newest.position ∷ [])) (sym c.in-Ok.ensures.segments)
    (listed_positions c.in-Ok.list.items older newest (g.S.SegmentStore.segments c.args.store) c.in-Ok.ensures.listed (sym c.as_slice.ensures.value ∙ c.in-Some.ensures.cases.0))
