-- Sequences of calls with the seats.
use Rattle.std.proofs.Common.{refl, subst, List, [], ◌∷◌, ◌++◌}
use Rattle.rb_interp.specs.AnsweredCalls.{AnsweredCall}
use Rattle.rb_chapter_ring.specs.declared.ring_record.RingRecord.{RingRecord}
use Rattle.rb_jobs.specs.SeatHelpers.{AtSeats, Leads}

-- an empty sequence leaves the helpers unchanged
pub none_called : (h : AtSeats) → Leads h [] h
none_called h = refl

-- a sequence of calls followed by another
pub called_on : (a b c : AtSeats) (first more : List (AnsweredCall RingRecord)) → Leads a first b → Leads b more c → Leads a (first ++ more) c
called_on a b c [] more before after = subst (λ h. Leads h more c) before after
called_on a b c (call ∷ later) more before after = (before.0, before.1, called_on before.0 b c later more before.2 after)
