use Rattle.std.specs.Prelude.{◌≡◌, map, take}
use Rattle.rb_service.specs.PrintedStream.{names_of_rings}
use Rattle.rb_service.proofs.report.ring_names.Given as goal

-- these are the names of the first rings
abbrev pub invariant-loop-at : goal.invariant-loop-at
invariant-loop-at l = map (λ n. n.now) l.names.items ≡ take l.at (names_of_rings l.options)
