use Rattle.std.proofs.Common.{◌≡◌, ◌<◌, ◌≤◌, ◌∷◌, None, length, ap, ◌∙◌, arith, lit<}
use Rattle.rb_semantics.specs.StackPointers.{StackPointers, pointer_at}
use Rattle.rb_interp.specs.inner.KeptPointers.{pointers_of}
use Rattle.rb_interp.proofs.KeptEntries.{few_pointers, as_many}
use Rattle.rb_interp.proofs.kept_pointers.KeptPointers.keep.Goals as goal

pub insert-requires : goal.insert-requires
insert-requires c =
    let es = c.self.inside.entries.items in
    let none : pointer_at c.args.place (pointers_of es) ≡ None = ap (pointer_at c.args.place) c.self.view_is ∙ c.requires.empty in
    let all : StackPointers = (c.args.place, c.args.value) ∷ pointers_of es in
    let few : length all ≤ 64 = few_pointers 64 all (c.requires.inside, none, c.self.invariant) in
    let same = as_many es in
    let room : length es < 64 = omega arith in
    (lit< tt, (omega arith, room))
