-- The record that an instruction requests from a ring, given the abstract state before it (bpf-helpers(7):
-- bpf_ringbuf_reserve, bpf_ringbuf_output).
use Rattle.std.specs.Prelude.{ℕ, ◌==◌, Bool, false, List, Option, Some, None, if◌then◌else◌}
use Rattle.rb_insn.specs.declared.insn.Insn.{Insn}
use Rattle.rb_insn.specs.declared.insn.Insn.TheVariants.{Call}
use Rattle.rb_program.specs.Program.{slot_at}
use Rattle.rb_verifier.specs.declared.helper.Helper.{Helper}
use Rattle.rb_verifier.specs.declared.helper.Helper.TheVariants.{Output, Reserve}
use Rattle.rb_verifier.specs.declared.references.Reference.{Reference}
use Rattle.rb_verifier.specs.declared.state.AbsState.{AbsState}
use Rattle.rb_verifier.specs.declared.value.Abs.{Abs}
use Rattle.rb_verifier.specs.declared.value.Abs.TheVariants.{Ring, Known}
use Rattle.rb_verifier.specs.HelperChecks.{helper_of}
use Rattle.rb_verifier.specs.AbstractStates.{value_in}
use Rattle.rb_verifier.specs.Annotation.{Annotation}
use Rattle.rb_history.specs.Span.{span}
use Rattle.rb_cost.specs.declared.requested_record.RequestedRecord.{RequestedRecord}

-- a record of a ring, if the ring and the length in bytes are known
abbrev pub record_of : Abs → Abs → Option RequestedRecord
record_of (Ring ring) (Known len) = Some (record { ring = ring; len = len })
record_of ring len = None

-- reserve(ring, size, flags) and output(ring, data, size, flags) request a record; the other helpers request none
abbrev pub asked_of_helper : Option Helper → AbsState → Option RequestedRecord
asked_of_helper (Some Reserve) s = record_of (value_in s 1) (value_in s 2)
asked_of_helper (Some Output) s = record_of (value_in s 1) (value_in s 3)
asked_of_helper helper s = None

-- a CALL requests what its helper does
abbrev pub asked_by : Insn → AbsState → Option RequestedRecord
asked_by (Call helper) s = asked_of_helper (helper_of helper) s
asked_by insn s = None

abbrev pub asked_in : Option Insn → AbsState → Option RequestedRecord
asked_in None s = None
asked_in (Some insn) s = asked_by insn s

-- the record that the instruction at a unit requests, by an annotation's state there
abbrev pub asked_at : List Insn → Annotation → ℕ → Option RequestedRecord
asked_at program a unit = asked_in (slot_at program unit) (a unit)

-- whether the record is one of this ring
abbrev pub is_on : ℕ → Option RequestedRecord → Bool
is_on ring None = false
is_on ring (Some asked) = asked.ring == ring

-- the number of bytes of this ring that the record occupies: its span
abbrev pub bytes_on : ℕ → Option RequestedRecord → ℕ
bytes_on ring None = 0
bytes_on ring (Some asked) = if asked.ring == ring then span asked.len else 0

-- the reference is to a record of this ring
abbrev pub is_of_ring : ℕ → Reference → Bool
is_of_ring ring reference = reference.ring == ring

-- the number of bytes of this ring that the record of a reference occupies
abbrev pub held_span : ℕ → Reference → ℕ
held_span ring reference = if reference.ring == ring then span reference.size else 0
