use Rattle.std.proofs.Common.{◌≡◌, ◌++◌, List, drop, map}
use Rattle.rb_history.specs.declared.answers.Taken.{Taken}
use Rattle.rb_run_commands.specs.DrainedRings.{DrainsRings}
use Rattle.rb_run_commands.proofs.drained_rings.drain_rings.Given as goal

-- the rings from this one on are unchanged, and those before it were drained
abbrev pub invariant-loop-number : goal.invariant-loop-number
invariant-loop-number g l = record {
  seats_left : drop l.number l.seats ≡ drop l.number l.fn.seats;
  consumers_left : drop l.number l.consumers ≡ drop l.number l.fn.consumers;
  drained : (rest : List (List Taken)) → DrainsRings (drop l.number l.fn.seats) (drop l.number l.fn.consumers) rest
      → DrainsRings l.fn.seats l.fn.consumers (map (λ ring. ring.items) l.records.items ++ rest);
}
