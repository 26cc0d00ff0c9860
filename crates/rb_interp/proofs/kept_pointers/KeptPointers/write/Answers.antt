use Rattle.std.proofs.Common.{◌≡◌, ap, sym, ◌∙◌, subst}
use Rattle.std.specs.Prelude.{not}
use Rattle.rb_verifier.specs.StackPlaces.{touches}
use Rattle.rb_semantics.specs.StackPointers.{pointers_beside}
use Rattle.rb_interp.specs.inner.KeptPointers.{pointers_of, pointers_written, AreAtPlaces}
use Rattle.rb_interp.proofs.KeptEntries.{entries_beside, places_left}
use Rattle.rb_interp.proofs.kept_pointers.KeptPointers.write.Goals as goal

pub invariant_of-self : goal.invariant_of-self
invariant_of-self c =
    let es = c.self.inside.entries.items in
    let left : pointers_of c.remove_touched.new.entries.items ≡ pointers_beside c.args.at c.args.len (pointers_of es) =
    ap pointers_of c.remove_touched.ensures ∙ entries_beside c.args.at c.args.len es in
    subst (AreAtPlaces 64) (sym left) (places_left (λ p. not (touches c.args.at c.args.len p.0)) 64 (pointers_of es) c.self.invariant)

pub returns-in-Stack : goal.returns-in-Stack
returns-in-Stack c =
    let es = c.self.inside.entries.items in
    ap pointers_of c.remove_touched.ensures
    ∙ (entries_beside c.args.at c.args.len es ∙ (ap (pointers_beside c.args.at c.args.len) c.self.view_is ∙ ap (λ part. pointers_written part c.args.at c.args.len c.args.self.now) (sym c.in-Stack.is)))
