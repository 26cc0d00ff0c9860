use Rattle.std.proofs.Common.{◌≡◌, ◌<◌, false, true, length, filter, get_or, ap, sym, ◌∙◌, subst, List}
use Rattle.std.specs.Prelude.{not}
use Rattle.rb_verifier.specs.StackPlaces.{touches}
use Rattle.rb_semantics.specs.StackPointers.{is_pointer_among}
use Rattle.rb_interp.specs.declared.kept_pointers.KeptPointer.{KeptPointer}
use Rattle.rb_interp.specs.inner.KeptPointers.{pointers_of, entry_left}
use Rattle.rb_interp.proofs.KeptEntries.{filter_removed, none_touched}
use Rattle.rb_interp.proofs.kept_pointers.remove_each_touched.Goals as goal

pub loop-i-preserved : goal.loop-i-preserved
loop-i-preserved c =
    let es = c.loop-i.entries.items in
    let found = c.in-Some.ensures.found in
    let lt : c.in-Some.i < length es = subst (λ (l : List KeptPointer). c.in-Some.i < length l) c.as_slice.ensures.value found.0 in
    let touched : (d : KeptPointer) → entry_left c.args.at c.args.len (get_or es c.in-Some.i d) ≡ false =
    λ d. ap not (subst (λ (l : List KeptPointer). touches c.args.at c.args.len (get_or l c.in-Some.i d).place ≡ true) c.as_slice.ensures.value (found.1 d)) in
    ap (filter (entry_left c.args.at c.args.len)) c.remove.ensures.items ∙ (filter_removed (entry_left c.args.at c.args.len) es c.in-Some.i lt touched ∙ c.loop-i.invariant)

pub returns : goal.returns
returns c =
    let es = c.loop-i.entries.items in
    let none : is_pointer_among c.args.at c.args.len (pointers_of es) ≡ false =
    ap (λ l. is_pointer_among c.args.at c.args.len (pointers_of l)) (sym c.as_slice.ensures.value) ∙ (rw c.in_default.is at c.first_touched.ensures.none) in
    sym (none_touched c.args.at c.args.len es none) ∙ c.loop-i.invariant
