use Rattle.std.proofs.Common.{rules, ◌≡◌, ◌+◌, refl, sym, ap, subst, arith}
use Rattle.std.specs.Prelude.{map, None}
use Rattle.rb_history.specs.RingModel.{IsStartPosition}
use Rattle.rb_tape.specs.TapeOutput.{TapeOutput}
use Rattle.rb_segments.specs.Known.{Reopens}
use Rattle.rb_segments.specs.SegmentTape.{SegmentTape}
use Rattle.rb_segments.specs.Restart.{EndsAt}
use Rattle.rb_segments.specs.declared.stored_segment.StoredSegment.{StoredSegment}
use Rattle.rb_segments.proofs.Restarting.{resumes}
use Rattle.rb_segments.proofs.restart.resume.Goals as goal

pub returns-clause-resumed : goal.returns-clause-resumed
returns-clause-resumed g c =
    let segments = g.S.SegmentStore.segments in
    let contents = g.F.Write.contents in
    let opened = c.args.opened in
    let whole = c.in_ok-whole.whole in
    let bytes = c.in-Ok.bytes.items in
    let position = c.saturating_add-position.result in
    let t : SegmentTape g.row.S.Denot g.row.F.Denot = record {
      store = c.reopen.new.self;
      writer = c.new.result.writer;
      size = c.args.size;
      first = c.unwrap_or.result;
      closed = c.in_ok-closed.closed.items;
      opened = opened;
      position = position;
      plan = c.args.plan;
      fault = None;
      unwritten = 0;
    } in
    let start : IsStartPosition position = search rules in
    let here : position ≡ opened + whole = let most = start.1 in let sum = c.saturating_add-position.ensures in omega (arith, most, sum) in
    let ends = subst (λ l. EndsAt c.args.size opened l whole) c.as_slice.ensures.value c.in_ok-whole.ensures.ends in
    let file = ap (λ (w : TapeOutput g.row.F.Denot). contents w.writer) c.new.ensures.value in
    let reopened =
    subst (λ f. Reopens (segments c.args.store) whole f (segments c.reopen.new.self)) (sym file)
    (subst (λ x. Reopens x whole (contents c.in-Ok-reopen.file) (segments c.reopen.new.self)) c.in-Ok.ensures.segments c.in-Ok-reopen.ensures.reopened) in
    resumes segments contents c.args.store opened whole bytes (map (λ (s : StoredSegment). s.position) c.args.older.now) t c.requires.positions c.in-Ok.ensures.bytes ends reopened refl here refl refl
