use Rattle.std.proofs.Common.{Err, refl, ap}
use Rattle.rb_run_commands.proofs.Sizes.{least_size}
use Rattle.rb_run_commands.proofs.fresh_rings.fresh_ring.Goals as goal

pub unreachable-requires-in-Err-Size : goal.unreachable-requires-in-Err-Size
unreachable-requires-in-Err-Size g c = c.in-Err-Size.ensures.size.0 (ap Err c.in-Err-Size.field-0-is) (least_size refl)
