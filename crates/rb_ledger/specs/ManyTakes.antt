-- What many takes in one call add to the consumer's counts and bytes (own).
use Rattle.std.specs.Prelude.{ℕ, ◌+◌, List, [], ◌∷◌}
use Rattle.std.specs.List.{sum_by}
use Rattle.rb_history.specs.declared.answers.Taken.{Taken}
use Rattle.rb_history.specs.RingModel.{Contents}
use Rattle.rb_ledger.specs.LockedCalls.{events_in, skips_in, span_in, got_by, IsTakenAt}

abbrev pub events_among : List Taken → ℕ
events_among taken = sum_by events_in taken

abbrev pub skips_among : List Taken → ℕ
skips_among taken = sum_by skips_in taken

-- how far they advance the consumer position
abbrev pub span_among : List Taken → ℕ
span_among taken = sum_by span_in taken

-- what was taken was at consecutive positions, the first at this one
abbrev pub AreTakenFrom : ℕ → List Taken → Type 0
AreTakenFrom at [] = Unit {0}
AreTakenFrom at (t ∷ ts) = IsTakenAt at t × AreTakenFrom (at + span_in t) ts

-- each event adds its bytes to what was received
abbrev pub got_by_all : Contents → List Taken → Contents
got_by_all got [] = got
got_by_all got (t ∷ ts) = got_by_all (got_by got t) ts
