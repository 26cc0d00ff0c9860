use Rattle.std.proofs.Common.{◌≡◌, ◌≢◌, ℕ, ◌+◌, ◌-◌, ◌<◌, ◌≤◌, ◌^◌, min, Bool, true, false, eqb, Option, None, Some, List, [], ◌++◌, length, take, drop, refl, sym, ap, ◌∙◌, subst, arith}
use Rattle.rb_source.proofs.Steps.{no_step}
use Rattle.rb_source.proofs.framed_reader.FramedReader.make_room.Goals as goal

pub returns-then-bytes-lt-WINDOW_SIZE-clause-gave : goal.returns-then-bytes-lt-WINDOW_SIZE-clause-gave
returns-then-bytes-lt-WINDOW_SIZE-clause-gave g c = no_step g.R.Read.remaining c.args.self.now
