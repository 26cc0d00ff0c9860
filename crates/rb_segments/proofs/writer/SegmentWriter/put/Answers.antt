use Rattle.std.proofs.Common.{◌+◌, ◌<◌, take, sym, ap, ◌∙◌, subst}
use Rattle.std.specs.Io.KnownBytes.{Appends}
use Rattle.rb_history.specs.TapeBytes.{item_bytes, item_span}
use Rattle.rb_history.specs.RingModel.{IsRingSize}
use Rattle.rb_tape.specs.Items.{item_of}
use Rattle.rb_segments.specs.SegmentTape.{SegmentTape, directory_at, directory_of}
use Rattle.rb_segments.specs.inner.Rolling.{KeepsRecords}
use Rattle.rb_segments.proofs.Directories.{moved_on, no_fault, not_none, on_ok, some_fault}
use Rattle.rb_segments.proofs.RecordsPut.{counts_on, cuts_off, goes_on, item_stands}
use Rattle.rb_segments.proofs.writer.SegmentWriter.put.Goals as goal

pub returns-then-is_some-clause-written : goal.returns-then-is_some-clause-written
returns-then-is_some-clause-written g c start deleted items written =
    let segments = g.S.SegmentStore.segments in
    let contents = g.F.Write.contents in
    let old = c.args.self.now in
    let view = c.self.view_is in
    counts_on segments contents start deleted items (item_of c.args.item.now) old _ (ap (λ (t : SegmentTape g.row.S.Denot g.row.F.Denot). t.size) view)
    (ap (λ (t : SegmentTape g.row.S.Denot g.row.F.Denot). t.position + c.span-span.result) view ∙ ap (λ n. old.position + n) c.span-span.ensures.value)
    (some_fault c.self.inside.fault c.is_some.result c.is_some.ensures c.if-is_some.true) (ap (λ (t : SegmentTape g.row.S.Denot g.row.F.Denot). t.unwritten + 1) view)
    (ap (directory_of segments contents) view) written

pub returns-then-span-self-clause-written : goal.returns-then-span-self-clause-written
returns-then-span-self-clause-written g c start deleted items written =
    let segments = g.S.SegmentStore.segments in
    let contents = g.F.Write.contents in
    let old = c.args.self.now in
    let view = c.self.view_is in
    counts_on segments contents start deleted items (item_of c.args.item.now) old _ (ap (λ (t : SegmentTape g.row.S.Denot g.row.F.Denot). t.size) view)
    (ap (λ (t : SegmentTape g.row.S.Denot g.row.F.Denot). t.position + c.span-span.result) view ∙ ap (λ n. old.position + n) c.span-span.ensures.value)
    (not_none _) (ap (λ (t : SegmentTape g.row.S.Denot g.row.F.Denot). t.unwritten + 1) view)
    (ap (directory_of segments contents) view) written

pub returns-then-is_err-clause-written : goal.returns-then-is_err-clause-written
returns-then-is_err-clause-written g c start deleted items written =
    let segments = g.S.SegmentStore.segments in
    let contents = g.F.Write.contents in
    let old = c.args.self.now in
    let item = item_of c.args.item.now in
    let view = c.self.view_is in
    let new = c.put.new.self in
    let size = λ (t : SegmentTape g.row.S.Denot g.row.F.Denot). t.size in
    let sound = sym (ap (λ (t : SegmentTape g.row.S.Denot g.row.F.Denot). t.fault) view) ∙ no_fault c.self.inside.fault c.is_some.result c.is_some.ensures c.if-is_some.false in
    let wrote =
    subst (λ n. Appends (contents old.writer) (contents new.writer) (take new.sent (item_bytes n item))) (c.self.invariant.1 ∙ ap size view)
    (subst (λ (t : SegmentTape g.row.S.Denot g.row.F.Denot). Appends (contents t.writer) (contents new.writer) (take new.sent (item_bytes c.self.inside.tape.size item))) view c.put.ensures.bytes) in
    cuts_off segments contents start deleted items item old _ (ap size view)
    (ap (λ (t : SegmentTape g.row.S.Denot g.row.F.Denot). t.position + c.span-span.result) view ∙ ap (λ n. old.position + n) c.span-span.ensures.value)
    sound new.sent (not_none _) (ap (λ (t : SegmentTape g.row.S.Denot g.row.F.Denot). t.unwritten + 1) view)
    (ap (λ (t : SegmentTape g.row.S.Denot g.row.F.Denot). t.store) view) (ap (λ (t : SegmentTape g.row.S.Denot g.row.F.Denot). t.opened) view) wrote written

pub returns-clause-written : goal.returns-clause-written
returns-clause-written g c start deleted items written =
    let segments = g.S.SegmentStore.segments in
    let contents = g.F.Write.contents in
    let old = c.args.self.now in
    let item = item_of c.args.item.now in
    let view = c.self.view_is in
    let inside = c.self.inside in
    let new = c.put.new.self in
    let size = λ (t : SegmentTape g.row.S.Denot g.row.F.Denot). t.size in
    let position = λ (t : SegmentTape g.row.S.Denot g.row.F.Denot). t.position in
    let none = no_fault inside.fault c.is_some.result c.is_some.ensures c.if-is_some.false in
    let sound = sym (ap (λ (t : SegmentTape g.row.S.Denot g.row.F.Denot). t.fault) view) ∙ none in
    let wrote =
    subst (λ n. Appends (contents old.writer) (contents new.writer) (take new.sent (item_bytes n item))) (c.self.invariant.1 ∙ ap size view)
    (subst (λ (t : SegmentTape g.row.S.Denot g.row.F.Denot). Appends (contents t.writer) (contents new.writer) (take new.sent (item_bytes inside.tape.size item))) view c.put.ensures.bytes) in
    let all = on_ok c.put.result _ c.is_err.result c.put.ensures.all_sent c.is_err.ensures.value c.if-is_err.false in
    let here = (c.self.invariant.4 none).0 ∙ ap position view in
    let moved = moved_on new.position _ _ _ c.is_err.result c.put.ensures.position c.is_err.ensures.negation c.if-is_err.false ∙ ap (λ n. n + item_span item) here in
    let now = directory_at segments contents c.roll_and_delete.new.store c.roll_and_delete.new.tape.writer c.roll_and_delete.new.opened in
    let keeps =
    subst (λ n. KeepsRecords (directory_at segments contents old.store new.writer old.opened) n now) moved
    (subst (λ (t : SegmentTape g.row.S.Denot g.row.F.Denot). KeepsRecords (directory_at segments contents t.store new.writer t.opened) new.position now) view c.roll_and_delete.ensures.keeps) in
    let ring = subst IsRingSize (ap size view) c.self.invariant.0 in
    let fits = subst (λ n. c.span-span.result < n) (ap size view) c.if-span-self.false in
    goes_on segments contents start deleted items item old _ (ap size view)
    (ap (λ (t : SegmentTape g.row.S.Denot g.row.F.Denot). t.position + c.span-span.result) view ∙ ap (λ n. old.position + n) c.span-span.ensures.value)
    sound new.writer new.sent (ap (λ (t : SegmentTape g.row.S.Denot g.row.F.Denot). t.unwritten) view)
    (item_stands old.size old.position c.span-span.result item ring c.requires.next c.span-span.ensures.value fits c.requires.end) all wrote keeps written
