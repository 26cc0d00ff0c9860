use Rattle.std.proofs.Common.{length, sym, ap, ◌∙◌}
use Rattle.std.proofs.lemmas.List.{length-map}
use Rattle.rb_chapter_ring.specs.Snapshot.{Snapshot}
use Rattle.rb_chapter_ring.specs.UntakenRecords.{untaken_shown}
use Rattle.rb_chapter_ring.specs.TaggedRing.{TaggedRing}
use Rattle.rb_chapter_ring.proofs.ring.RingState.many.Goals as goal

pub returns : goal.returns
returns c =
    let shown = c.records.ensures.records ∙ ap (λ (o : Snapshot). o.records) c.closing.ensures.closing ∙ sym c.self.invariant.parts.ring.stands.shown in
    record { many = sym (length-map c.records.result.now untaken_shown) ∙ ap length shown ∙ ap (λ (s : TaggedRing). length s.state.ring.shown) c.self.view_is }
