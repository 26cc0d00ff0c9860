use Rattle.std.proofs.Common.{◌≡◌, ◌≤◌, ◌<◌, List, None, Bor, true, false, ◌∙◌, ap, sym, subst}
use Rattle.std.specs.Prelude.{IfSome, length, slice_index_or}
use Rattle.std.specs.Option.{option_copied, MatchOption}
use Rattle.std.specs.List.{HoldsAt}
use Rattle.rb_insn.specs.declared.insn.Insn.{Insn}
use Rattle.rb_program.specs.Program.{slot_at}
use Rattle.rb_program.specs.inner.WideUnits.{follows_wide}
use Rattle.rb_program.proofs.Kept.{slot_second, slot_found}
use Rattle.rb_program.proofs.program.Program.at.Goals as goal

pub returns-then-follows_wide : goal.returns-then-follows_wide
returns-then-follows_wide c =
    let units = c.self.inside.units.items in
    let behind : follows_wide units c.args.unit ≡ true = ap (λ (l : List Insn). follows_wide l c.args.unit) (sym c.deref.ensures.value) ∙ sym c.follows_wide.ensures ∙ c.if-follows_wide.true in
    sym (subst (λ (program : List Insn). slot_at program c.args.unit ≡ None) c.self.view_is (slot_second units c.args.unit c.self.invariant.laid_out behind))

pub returns : goal.returns
returns c =
    let units = c.self.inside.units.items in
    let first : follows_wide units c.args.unit ≡ false = ap (λ (l : List Insn). follows_wide l c.args.unit) (sym c.deref.ensures.value) ∙ sym c.follows_wide.ensures ∙ c.if-follows_wide.false in
    let is = subst (λ (l : List Insn). IfSome c.get.result (λ (x : Bor Insn). x.now ≡ slice_index_or l c.args.unit x.now)) c.deref-2.ensures.value c.get.ensures.lookup.1 in
    let inside = subst (λ (l : List Insn). MatchOption c.get.result (length l ≤ c.args.unit) (λ (x : Bor Insn). (c.args.unit < length l) × HoldsAt (λ y. x.now ≡ y) l c.args.unit)) c.deref-2.ensures.value c.get.ensures.lookup.3 in
    let found = slot_found units c.args.unit c.get.result c.self.invariant.laid_out first is inside in
    subst (λ (program : List Insn). option_copied c.get.result ≡ slot_at program c.args.unit) c.self.view_is found
