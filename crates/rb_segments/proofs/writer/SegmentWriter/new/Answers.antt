use Rattle.std.proofs.Common.{◌≡◌, [], ap, ◌∙◌, subst, sym, refl, arith}
use Rattle.std.specs.Prelude.{Some, IfSome}
use Rattle.rb_tape.specs.TapeOutput.{TapeOutput}
use Rattle.rb_segments.specs.Known.{HavePositions}
use Rattle.rb_segments.proofs.Directories.{first_created, none_yet}
use Rattle.rb_segments.proofs.RecordsPut.{nothing_written}
use Rattle.rb_segments.proofs.writer.SegmentWriter.new.Goals as goal

pub invariant_of-result : goal.invariant_of-result
invariant_of-result g c =
    let tape = c.new.ensures.value in
    let segments = g.S.SegmentStore.segments in (
      c.requires.size,
      ap (λ (t : TapeOutput g.row.F.Denot). t.size) tape,
      subst (λ l. HavePositions l (segments c.create.new.self)) (sym c.new-2.ensures.items) (subst (HavePositions []) (sym c.in_ok-file.ensures.segments) (none_yet (segments c.args.store) c.requires.fresh)),
      omega arith,
      λ _. (ap (λ (t : TapeOutput g.row.F.Denot). t.position) tape, ap (λ (t : TapeOutput g.row.F.Denot). t.unfinished) tape, first_created c.args.start (g.S.SegmentStore.created c.args.store) c.requires.none_created (g.S.SegmentStore.created c.create.new.self) c.in_ok-file.ensures.created),
    )

pub returns-clause-nothing_written : goal.returns-clause-nothing_written
returns-clause-nothing_written g c none =
    let segments = g.S.SegmentStore.segments in
    let contents = g.F.Write.contents in
    let empty = subst (λ x. IfSome x (λ _. contents c.in_ok-file.file ≡ Some [])) none c.in_ok-file.ensures.empty in
    nothing_written segments contents c.args.start _ refl (c.in_ok-file.ensures.segments ∙ none) (ap (λ (t : TapeOutput g.row.F.Denot). contents t.writer) c.new.ensures.value ∙ empty) refl refl refl
