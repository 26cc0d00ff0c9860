use Rattle.std.proofs.Common.{sym, ap, ◌∙◌, subst}
use Rattle.rb_segments.specs.Known.{AddsSegment}
use Rattle.rb_segments.specs.SegmentTape.{SegmentTape, HasEnded, HasWritten}
use Rattle.rb_segments.proofs.Directories.{no_fault, on_no_error}
use Rattle.rb_segments.proofs.RecordsPut.{ends_whole}
use Rattle.rb_segments.proofs.writer.SegmentWriter.finish.Goals as goal

pub returns-clause-whole : goal.returns-clause-whole
returns-clause-whole g c start deleted items written none =
    let segments = g.S.SegmentStore.segments in
    let contents = g.F.Write.contents in
    let size = λ (t : SegmentTape g.row.S.Denot g.row.F.Denot). t.size in
    let sound = no_fault c.self.inside.fault c.is_some.result c.is_some.ensures c.if-is_some.false in
    let out = subst (HasWritten segments contents start deleted items) (sym c.self.view_is) (c.write_out.ensures.holds start deleted items written) in
    let closed = on_no_error c.end.result _ c.end.ensures.closed (sym c.err-fault.ensures.value ∙ none) in
    let added = subst (λ w. AddsSegment (segments c.self.inside.store) c.self.inside.opened (contents w) (segments c.end.new.store)) c.writer.ensures.value closed in
    subst (λ n. HasEnded segments n start deleted items c.end.new.store) (ap size c.self.view_is ∙ ap size c.write_out.ensures.rest)
    (ends_whole segments contents start _ sound deleted items c.end.new.store added out)
