-- The call that a worker's turn answered, and why it got no record.
use Rattle.std.proofs.Common.{◌≡◌, ◌≢◌, ℕ, ◌<◌, ◌≤◌, List, length, set, get_or, Some, refl, sym, ap, subst, ◌∙◌, get_or-set_same}
use Rattle.rb_semantics.specs.ProgramStates.{State}
use Rattle.rb_semantics.specs.HelperCalls.{HelperCall, Reserve, Output}
use Rattle.rb_semantics.specs.Instructions.{StepEffect, Goes, Ends, Asks, next_step}
use Rattle.rb_interp.specs.declared.step.Phase.{Phase}
use Rattle.rb_interp.specs.declared.step.Phase.TheVariants as phase
use Rattle.rb_world.specs.Worlds.{Running, WorkerState}
use Rattle.rb_world.specs.WorldValue.{KeptRing, no_kept_ring, status_of_phase}
use Rattle.rb_world.specs.RecordReasons.{HasReasons, ReservesOrHasReason, OutputsOrHasReason, hands_at}
use Rattle.rb_world.proofs.ShownWorlds.{at-default}

pub same-some : {A : Type 0} (a b : A) → Some a ≡ Some b → a ≡ b
same-some a b e = cc

-- the ring with a number, after it was replaced
pub hands-there : (rings : List KeptRing) (r : ℕ) (s : KeptRing) → r < length rings → s ≡ get_or rings r s → hands_at rings r ≡ s.ring.state
hands-there rings r s low there = ap (λ (u : KeptRing). u.ring.state) (sym (at-default rings r s no_kept_ring low there))

pub hands-set : (rings : List KeptRing) (r : ℕ) (s : KeptRing) → r < length rings → hands_at (set rings r s) r ≡ s.ring.state
hands-set rings r s low = ap (λ (u : KeptRing). u.ring.state) (get_or-set_same rings r s no_kept_ring low)

pub goes-asks : (s : State) (call : HelperCall) (t : State) → Goes s ≡ Asks call t → ⊥
goes-asks s call t e = absurd (cc)

pub ends-asks : (n : ℕ) (call : HelperCall) (t : State) → Ends n ≡ Asks call t → ⊥
ends-asks n call t e = absurd (cc)

abbrev IsRecordCall : HelperCall → Type 0
IsRecordCall (Reserve id r n flags) = Unit {0}
IsRecordCall (Output r bytes flags) = Unit {0}
IsRecordCall call = ⊥

same-call : (a b : HelperCall) (s t : State) → Asks a s ≡ Asks b t → a ≡ b
same-call a b s t e = cc

-- only a worker whose machine is ready is running
pub runs-ready : (p : Phase) → status_of_phase p ≡ Running → p ≡ phase.Ready
runs-ready phase.Ready e = refl
runs-ready (phase.Waiting asked) e = absurd (cc)
runs-ready (phase.Exited n) e = absurd (cc)
runs-ready phase.Strayed e = absurd (cc)

module _ (w : ℕ) (x : WorkerState) (old new : List KeptRing) where
  -- a worker that is not running makes no call
  pub idle-reasons : (x.status ≡ Running → ⊥) → HasReasons w x old new
  idle-reasons idle = record { reserve = λ id r n t runs. absurd (idle runs); output = λ r flags bytes t known runs. absurd (idle runs) }

  -- its step was no such call
  pub other-reasons : (effect : StepEffect) → next_step x.subject.program x.state ≡ effect → ((id r n : ℕ) (t : State) → effect ≢ Asks (Reserve id r n 0) t)
      → ((r flags : ℕ) (bytes : List ℕ) (t : State) → effect ≢ Asks (Output r bytes flags) t) → HasReasons w x old new
  other-reasons effect is no_reserve no_output =
      record { reserve = λ id r n t runs asks. absurd (no_reserve id r n t (sym is ∙ asks)); output = λ r flags bytes t known runs asks. absurd (no_output r flags bytes t (sym is ∙ asks)) }

  -- it was this reserve
  pub reserve-reasons : (id r n flags : ℕ) (s : State) → next_step x.subject.program x.state ≡ Asks (Reserve id r n flags) s
      → (flags ≡ 0 → ReservesOrHasReason w n (hands_at old r) (hands_at new r)) → HasReasons w x old new
  reserve-reasons id r n flags s is reason = record {
    reserve = λ id' r' n' t runs asks.
        let same : Asks (Reserve id r n flags) s ≡ Asks (Reserve id' r' n' 0) t = sym is ∙ asks in
        let ring : r ≡ r' = cc in
        let size : n ≡ n' = cc in
        let none : flags ≡ 0 = cc in
        subst (λ i. ReservesOrHasReason w n' (hands_at old i) (hands_at new i)) ring (subst (λ k. ReservesOrHasReason w k (hands_at old r) (hands_at new r)) size (reason none));
    output = λ r' flags' bytes t known runs asks. let same : Asks (Reserve id r n flags) s ≡ Asks (Output r' bytes flags') t = sym is ∙ asks in absurd (cc);
  }

  -- it was this output
  pub output-reasons : (r flags : ℕ) (bytes : List ℕ) (s : State) → next_step x.subject.program x.state ≡ Asks (Output r bytes flags) s
      → (flags ≤ 3 → OutputsOrHasReason w bytes (hands_at old r) (hands_at new r)) → HasReasons w x old new
  output-reasons r flags bytes s is reason = record {
    reserve = λ id r' n t runs asks. let same : Asks (Output r bytes flags) s ≡ Asks (Reserve id r' n 0) t = sym is ∙ asks in absurd (cc);
    output = λ r' flags' bytes' t known runs asks.
        let same : Asks (Output r bytes flags) s ≡ Asks (Output r' bytes' flags') t = sym is ∙ asks in
        let ring : r ≡ r' = cc in
        let given : bytes ≡ bytes' = cc in
        let flag : flags' ≡ flags = cc in
        subst (λ i. OutputsOrHasReason w bytes' (hands_at old i) (hands_at new i)) ring
        (subst (λ b. OutputsOrHasReason w b (hands_at old r) (hands_at new r)) given (reason (subst (λ k. k ≤ 3) flag known)));
  }

  -- it was a call that asks for no record
  pub other-call : (call : HelperCall) → (IsRecordCall call → ⊥) → (s : State) → next_step x.subject.program x.state ≡ Asks call s → HasReasons w x old new
  other-call call apart s is =
      other-reasons (Asks call s) is (λ id r n t e. apart (subst IsRecordCall (sym (same-call call (Reserve id r n 0) s t e)) tt))
      (λ r flags bytes t e. apart (subst IsRecordCall (sym (same-call call (Output r bytes flags) s t e)) tt))
