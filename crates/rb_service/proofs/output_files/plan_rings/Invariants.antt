use Rattle.std.specs.Prelude.{◌≡◌, All, map, take}
use Rattle.rb_history.specs.RingModel.{IsStartPosition}
use Rattle.rb_outputs.specs.Outputs.{output_position}
use Rattle.rb_service.specs.PrintedStream.{sizes_of_rings}
use Rattle.rb_service.proofs.output_files.plan_rings.Given as goal

-- each output so far begins at a position at which a ring may start, and the sizes are those of the first rings
abbrev pub invariant-loop-at : goal.invariant-loop-at
invariant-loop-at g l = record {
  begins : All (λ p. IsStartPosition (output_position p.sink.output)) l.plans.items;
  sizes : map (λ p. p.size) l.plans.items ≡ take l.at (sizes_of_rings l.options);
}
