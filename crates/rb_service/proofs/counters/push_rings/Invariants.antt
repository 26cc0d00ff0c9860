use Rattle.std.proofs.Common.{◌≡◌, ◌++◌, string_bytes, drop, map}
use Rattle.rb_service.specs.Counters.{rings_lines}
use Rattle.rb_service.proofs.counters.push_rings.Given as goal

-- what is written, followed by the remaining lines, is the whole
abbrev pub invariant-loop-ring : goal.invariant-loop-ring
invariant-loop-ring g l =
    string_bytes l.text ++ rings_lines (drop l.ring (map (λ n. n.now) l.names)) (drop l.ring l.rings) ≡ string_bytes l.fn.text ++ rings_lines (map (λ n. n.now) l.names) l.rings
