use Rattle.std.proofs.Common.{◌≡◌, None, length}
use Rattle.rb_tape_commands.specs.inner.LineGathering.{ReadsLines}
use Rattle.rb_tape_commands.proofs.tape_lines.gather_lines.Given as goal

-- the lines are those of the records that were read, and the reader has reported no fault
abbrev pub invariant-records : goal.invariant-records
invariant-records l = record {
  reads : ReadsLines l.form l.fn.feed l.feed l.lines.text;
  no_fault : l.feed.told ≡ None;
}

abbrev pub decreases-records : goal.decreases-records
decreases-records l = length l.feed.rest
