use Rattle.std.proofs.Common.{◌≡◌, ◌∙◌, ap, sym, true}
use Rattle.rb_ledger.specs.Seats.{Shared, are_tagged}
use Rattle.rb_ledger.proofs.Gathers.{tagged-rings}
use Rattle.rb_shared_ring.proofs.shared.SharedRing.close.Goals as goal

pub collect-state-requires-clause-seats : goal.collect-state-requires-clause-seats
collect-state-requires-clause-seats g c =
    let tag = ap (λ (x : Shared). x.tag) c.self.view_is in
    let tagged : are_tagged c.args.self.tag c.args.seats.items ≡ true =
    sym (λ i. are_tagged (tag i) (c.deref.ensures.value i)) ∙ sym c.are_all_tagged.ensures ∙ c.if-not-are_all_tagged.false in
    let same : c.args.consumer.ring ≡ c.args.self.ring = c.requires.consumer (sym c.tag.ensures.tag ∙ c.if-tag-self.false ∙ tag) in
    tagged-rings c.args.self.tag c.args.self.ring c.args.consumer.ring c.args.seats.items (sym same) tagged c.requires.seats
