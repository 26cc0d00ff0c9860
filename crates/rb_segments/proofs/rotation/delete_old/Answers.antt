use Rattle.std.proofs.Common.{◌<◌, ◌∙◌, refl, subst}
use Rattle.rb_segments.specs.Known.{HavePositions}
use Rattle.rb_segments.proofs.Directories.{first_is, kept_on, on_ok, one_deleted, positions_deleted}
use Rattle.rb_segments.proofs.rotation.delete_old.Goals as goal

pub oldest-preserved : goal.oldest-preserved
oldest-preserved g c =
    let segments = g.S.SegmentStore.segments in
    let removed = on_ok c.delete_oldest.result _ c.is_err.result c.delete_oldest.ensures.deleted c.is_err.ensures.value c.if-is_err.false in
    let oldest = c.in-Some.field-0.now in
    let rest = c.pop_front.new.self.items in
    let some = c.pop_front.ensures.variant.1 (c.in-Some.ensures.variant.0 refl) in
    let items = first_is c.oldest.closed.items rest c.pop_front.result oldest c.pop_front.ensures.items some c.in-Some.ensures.lookup in
    let before = c.oldest.invariant in
    let beyond = subst (λ n. c.args.keep < n) c.saturating_sub.ensures c.if-saturating_sub-keep.false in
    record {
      created = c.delete_oldest.ensures.created ∙ before.created;
      positions = positions_deleted oldest rest (segments c.oldest.store) (segments c.delete_oldest.new.self) (subst (λ l. HavePositions l (segments c.oldest.store)) items before.positions) removed;
      deletes = one_deleted (segments c.args.store.now) (segments c.oldest.store) (segments c.delete_oldest.new.self) before.deletes removed;
      same = before.same ∙ kept_on c.args.keep c.args.position oldest c.oldest.closed.items rest items beyond;
    }
