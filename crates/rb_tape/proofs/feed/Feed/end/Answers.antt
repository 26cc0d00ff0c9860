use Rattle.std.proofs.Common.{◌≡◌, [], length, drop, refl, ap, arith}
use Rattle.std.proofs.lemmas.List.{length-drop}
use Rattle.rb_tape.proofs.feed.Feed.end.Goals as goal

pub returns-then-self-len : goal.returns-then-self-len
returns-then-self-len c =
    let left : drop c.self.inside.at c.self.inside.bytes.items ≡ [] → ⊥ = λ z. let e = length-drop c.self.inside.at c.self.inside.bytes.items in let l = ap length z in omega arith in
    rw (← c.self.view_is, c.in-None.is) (record { ends = ((left, refl), tt) })
