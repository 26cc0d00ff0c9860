use Rattle.std.proofs.Common.{refl, inl}
use Rattle.rb_tape.proofs.tape.TapeIterator.next.Goals as goal

pub returns-in-Err-clause-steps : goal.returns-in-Err-clause-steps
returns-in-Err-clause-steps c = rw (← c.self.view_is) (c.in-None.is, refl, inl c.in-Err.ensures.finds, refl)
