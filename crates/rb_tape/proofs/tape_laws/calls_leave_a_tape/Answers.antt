use Rattle.rb_tape.proofs.TapeCalls.{leaves_tape}
use Rattle.rb_tape.proofs.tape_laws.calls_leave_a_tape.Goals as goal

pub returns : goal.returns
returns g c = record { law = leaves_tape g.W.Write.contents }
