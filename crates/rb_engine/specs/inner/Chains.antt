-- Sequences of calls at the rings, and the law that a record remains kept when it is written to.
use Rattle.std.proofs.Common.{◌≡◌, ℕ, List, [], ◌∷◌, ◌++◌, Some, refl, sym, subst, length, length-append, arith}
use Rattle.std.proofs.lemmas.List.{length-take, length-drop}
use Rattle.rb_lend.specs.Ranges.{in_place_of}
use Rattle.rb_chapter_ring.specs.Hands.{hand_at, out_record}
use Rattle.rb_interp.specs.AnsweredCalls.{AnsweredCall}
use Rattle.rb_chapter_ring.specs.declared.ring_record.RingRecord.{RingRecord}
use Rattle.rb_engine.specs.EngineCalls.{IsStillOut, Leads, RunRings}

-- a sequence of no calls leaves the rings unchanged
pub none_called : (h : RunRings) → Leads h [] h
none_called h = refl

-- a sequence of calls, followed by calls from the state to which it led
pub called_on : (a b c : RunRings) (first more : List (AnsweredCall RingRecord)) → Leads a first b → Leads b more c → Leads a (first ++ more) c
called_on a b c [] more before after = subst (λ h. Leads h more c) before after
called_on a b c (call ∷ later) more before after = (before.0, before.1, called_on before.0 b c later more before.2 after)

same_length : (old new : List ℕ) → length (in_place_of old new) ≡ length old
same_length old new = grind (arith, length-append, length-take, length-drop)

abbrev with_bytes : RingRecord → List ℕ → RingRecord
with_bytes r w = record r { reservation = record r.reservation { granted = record r.reservation.granted { bytes = in_place_of r.reservation.granted.bytes w } } }

pub kept_written : (h : RunRings) (r : RingRecord) (w : List ℕ) → IsStillOut h.rings r → IsStillOut h.rings (with_bytes r w)
kept_written h r w kept = record {
  ring = kept.ring;
  ring_is = kept.ring_is;
  worker_is = kept.worker_is;
  out = subst (λ n. hand_at kept.ring.hands r.reservation.granted.worker r.reservation.hand ≡ Some (out_record r.reservation.granted.pos r.reservation.granted.serial n)) (sym (same_length r.reservation.granted.bytes w)) kept.out;
}
