use Rattle.std.proofs.Common.{◌≡◌, ◌≤◌, length, vec_capacity}
use Rattle.rb_chapter_ring.proofs.setup.empty_sheets.Given as goal

-- there is one for each iteration, and memory for all
abbrev pub invariant-loop : goal.invariant-loop
invariant-loop l = record { many : length l.sheets.items ≡ l.counter; room : l.slots ≤ vec_capacity l.sheets; same : l.slots ≡ l.fn.slots }
