-- Why a stream is refused before it starts (own).
use Rattle.std.specs.Prelude.{◌≡◌, ℕ, ◌==◌, nat_lt, not, List, Bool, Result, Ok, Err}
use Rattle.std.specs.List.{list_any}
use Rattle.rb_verifier.specs.Subject.{Subject}
use Rattle.rb_stream.specs.declared.report.StreamFault.{StreamFault}
use Rattle.rb_stream.specs.declared.report.StreamStop.{StreamStop}

-- some program was verified for more rings than there are
abbrev pub has_unknown_ring : ℕ → List Subject → Bool
has_unknown_ring rings programs = list_any (λ p. nat_lt rings p.rings) programs

-- some program was verified for contexts of another length
abbrev pub has_other_length : ℕ → List Subject → Bool
has_other_length ctx_len programs = list_any (λ p. not (p.ctx_len == ctx_len)) programs

-- it stopped with this fault
abbrev pub StopsFor : {T S : Type 0} → StreamFault → Result T (StreamStop S) → Type 0
StopsFor fault (Ok _) = ⊥
StopsFor fault (Err stop) = stop.fault ≡ fault
