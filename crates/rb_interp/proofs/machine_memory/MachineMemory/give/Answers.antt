use Rattle.std.proofs.Common.{◌≡◌, Some, None, find, sym, ap, ◌∙◌, refl}
use Rattle.rb_interp.specs.inner.SlotTable.{entry_has_id}
use Rattle.rb_interp.specs.StoredMemory.{held_record}
use Rattle.rb_interp.proofs.Tables.{table_without, shown_without, shown_at, found_in}
use Rattle.rb_interp.proofs.machine_memory.MachineMemory.give.Goals as goal

pub known-requires : goal.known-requires
known-requires g c =
    let es = c.self.inside.entries.items in
    let h = c.self.inside.parts.records in
    let found : find (entry_has_id c.args.id) es ≡ None = ap (find (entry_has_id c.args.id)) (sym c.as_slice.ensures.value) ∙ (sym c.entry_of.ensures ∙ c.in_default.is) in
    absurd (c.requires (ap (λ v. held_record c.args.id v.records) (sym c.self.view_is) ∙ (shown_at es h c.args.id c.self.invariant ∙ ap (found_in h) found)))

pub known-requires-in_default-give : goal.known-requires-in_default-give
known-requires-in_default-give g c =
    let es = c.self.inside.entries.items in
    let h = c.self.inside.parts.records in
    let found : find (entry_has_id c.args.id) es ≡ Some c.in-Some.entry = ap (find (entry_has_id c.args.id)) (sym c.as_slice.ensures.value) ∙ (sym c.entry_of.ensures ∙ c.in-Some.is) in
    absurd (c.requires (ap (λ v. held_record c.args.id v.records) (sym c.self.view_is) ∙ (shown_at es h c.args.id c.self.invariant ∙ (ap (found_in h) found ∙ (sym c.give.ensures.value ∙ c.in_default-give.is)))))

pub invariant_of-self : goal.invariant_of-self
invariant_of-self g c =
    let es = c.self.inside.entries.items in
    let h = c.self.inside.parts.records in
    let found : find (entry_has_id c.args.id) es ≡ Some c.in-Some.entry = ap (find (entry_has_id c.args.id)) (sym c.as_slice.ensures.value) ∙ (sym c.entry_of.ensures ∙ c.in-Some.is) in
    rw (c.remove_entries.ensures, c.give.ensures.rest)
    (table_without es h c.args.id c.in-Some.entry c.in-Some-give.owned c.self.invariant found (sym c.give.ensures.value ∙ c.in-Some-give.is))

pub returns-clause-given : goal.returns-clause-given
returns-clause-given g c =
    let es = c.self.inside.entries.items in
    let h = c.self.inside.parts.records in
    let found : find (entry_has_id c.args.id) es ≡ Some c.in-Some.entry = ap (find (entry_has_id c.args.id)) (sym c.as_slice.ensures.value) ∙ (sym c.entry_of.ensures ∙ c.in-Some.is) in
    ap (λ v. held_record c.args.id v.records) (sym c.self.view_is) ∙ (shown_at es h c.args.id c.self.invariant ∙ (ap (found_in h) found ∙ (sym c.give.ensures.value ∙ c.in-Some-give.is)))

pub returns-clause-rest : goal.returns-clause-rest
returns-clause-rest g c =
    let es = c.self.inside.entries.items in
    let h = c.self.inside.parts.records in
    let found : find (entry_has_id c.args.id) es ≡ Some c.in-Some.entry = ap (find (entry_has_id c.args.id)) (sym c.as_slice.ensures.value) ∙ (sym c.entry_of.ensures ∙ c.in-Some.is) in
    rw (← c.self.view_is, c.remove_entries.ensures, c.give.ensures.rest, shown_without es h c.args.id c.in-Some.entry c.self.invariant found) refl
