use Rattle.std.proofs.Common.{◌≤◌, length}
use Rattle.rb_tape_commands.proofs.whole_records.whole_length.Given as goal

abbrev pub invariant-records : goal.invariant-records
invariant-records l = length l.rest ≤ length l.bytes

abbrev pub decreases-records : goal.decreases-records
decreases-records l = length l.rest
