use Rattle.std.proofs.Common.{◌≡◌, [], sym, ap, ◌∙◌, subst}
use Rattle.std.specs.Prelude.{Some, IfSome}
use Rattle.rb_tape.specs.TapeOutput.{TapeOutput}
use Rattle.rb_segments.specs.Known.{AddsSegment, IsOnlyCreated}
use Rattle.rb_segments.proofs.Directories.{first_of_two, keeps_turned, next_created, on_ok}
use Rattle.rb_segments.proofs.rotation.start_next.Goals as goal

pub returns-clause-keeps : goal.returns-clause-keeps
returns-clause-keeps g c =
    let segments = g.S.SegmentStore.segments in
    let contents = g.F.Write.contents in
    let at = c.args.opened in
    let out = c.write_out.new.self.writer in
    let fresh = c.new.result.writer in
    let added = on_ok c.close.result _ c.is_err-4.result c.close.ensures.closed c.is_err-4.ensures.value c.if-is_err-4.false in
    let written = ap (λ (t : TapeOutput g.row.F.Denot). t.writer) c.new.ensures.value in
    keeps_turned (segments c.args.store.now) (segments c.close.new.self) (contents c.args.tape.now.writer) (contents out) (contents fresh) at c.args.tape.now.position c.write_out.ensures.bytes
    (subst (λ x. IfSome x (λ _. contents fresh ≡ Some [])) c.sync.ensures.segments
    (subst (λ f. IfSome (segments c.sync.new.self) (λ _. contents f ≡ Some [])) (sym written) c.in-Ok.ensures.empty))
    (subst (λ x. AddsSegment x at (contents out) (segments c.close.new.self)) (c.in-Ok.ensures.segments ∙ c.sync.ensures.segments)
    (subst (λ w. AddsSegment (segments c.create.new.self) at (contents w) (segments c.close.new.self)) c.writer-2.ensures.value added))

pub close-requires-clause-first : goal.close-requires-clause-first
close-requires-clause-first g c =
    let created = g.S.SegmentStore.created in
    first_of_two c.args.opened c.position-position.result (created c.sync.new.self) (created c.create.new.self) (subst (IsOnlyCreated c.args.opened) (sym c.sync.ensures.created) c.requires.created) c.in-Ok.ensures.created

pub returns-clause-created : goal.returns-clause-created
returns-clause-created g c =
    let created = g.S.SegmentStore.created in
    let closes = on_ok c.close.result _ c.is_err-4.result c.close.ensures.created c.is_err-4.ensures.value c.if-is_err-4.false in
    subst (λ n. IsOnlyCreated n (created c.close.new.self)) (c.position-position.ensures.value ∙ c.write_out.ensures.position)
    (next_created c.args.opened c.position-position.result (created c.sync.new.self) (created c.create.new.self) (created c.close.new.self) (subst (IsOnlyCreated c.args.opened) (sym c.sync.ensures.created) c.requires.created) c.in-Ok.ensures.created closes)
