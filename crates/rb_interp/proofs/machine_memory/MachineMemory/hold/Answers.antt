use Rattle.std.proofs.Common.{◌≡◌, ◌<◌, None, length, ap, ◌∙◌, refl, arith}
use Rattle.rb_interp.specs.inner.SlotTable.{named}
use Rattle.rb_interp.specs.StoredMemory.{held_record}
use Rattle.rb_interp.proofs.Slots.{none_empty, lowest_empty-empty}
use Rattle.rb_interp.proofs.Tables.{table_pushed, shown_pushed, shown_count}
use Rattle.rb_interp.proofs.machine_memory.MachineMemory.hold.Goals as goal

pub invariant_of-self : goal.invariant_of-self
invariant_of-self g c =
    let es = c.self.inside.entries.items in
    let h = c.self.inside.parts.records in
    let fresh : held_record c.args.id (named es h) ≡ None = ap (λ v. held_record c.args.id v.records) c.self.view_is ∙ c.requires.fresh in
    rw (c.push.ensures.items, c.in-Ok.ensures.held)
    (table_pushed es h c.args.id c.in-Ok.slot c.args.owned c.self.invariant (lowest_empty-empty h c.in-Ok.slot c.in-Ok.ensures.lowest) fresh)

pub known-requires : goal.known-requires
known-requires g c =
    let es = c.self.inside.entries.items in
    let h = c.self.inside.parts.records in
    let few : length (named es h) < 4 = rw (ap (λ v. length v.records) c.self.view_is) c.requires.few in
    let four = none_empty h c.in-Err.ensures.full in
    let count = shown_count es h c.self.invariant in
    absurd (omega arith)

pub returns : goal.returns
returns g c =
    let es = c.self.inside.entries.items in
    let h = c.self.inside.parts.records in
    rw (← c.self.view_is, c.push.ensures.items, c.in-Ok.ensures.held, shown_pushed es h c.args.id c.in-Ok.slot c.args.owned c.self.invariant (lowest_empty-empty h c.in-Ok.slot c.in-Ok.ensures.lowest)) refl
