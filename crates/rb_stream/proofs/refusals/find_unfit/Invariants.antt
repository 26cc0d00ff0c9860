use Rattle.std.proofs.Common.{◌≡◌, ◌||◌, drop}
use Rattle.rb_stream.specs.Refusals.{has_other_length, has_unknown_ring}
use Rattle.rb_stream.proofs.refusals.find_unfit.Given as goal

abbrev pub invariant-loop-program : goal.invariant-loop-program
invariant-loop-program l =
    (has_unknown_ring l.rings l.programs ≡ (l.unfit.rings || has_unknown_ring l.rings (drop l.program-index l.programs)))
    × (has_other_length l.ctx_len l.programs ≡ (l.unfit.length || has_other_length l.ctx_len (drop l.program-index l.programs)))
