-- The effect of a ring's answers on a machine, and what fits together after a turn.
use Rattle.std.proofs.Common.{◌≡◌, ℕ, ℤ, ◌<◌, ◌≤◌, List, [], ◌∷◌, ◌++◌, Some, None, length, replicate, get_or, set, refl, sym, ap, subst, ◌∙◌, inl, inr, get_or-set_same, get_or-set_other, arith}
use Rattle.std.specs.Prelude.{option_map}
use Rattle.std.proofs.lemmas.Bool.{cases_eq}
use Rattle.rb_history.specs.ReservationModel.{Granted}
use Rattle.rb_chapter_ring.specs.HandGranted.{HandGranted}
use Rattle.rb_history.specs.RoomRule.{Setup}
use Rattle.rb_history.specs.RingModel.{Ring}
use Rattle.rb_history.specs.declared.answers.Taken.{Taken}
use Rattle.rb_semantics.specs.declared.pending_call.PendingCall.TheVariants as asked
use Rattle.rb_semantics.specs.ProgramStates.{State}
use Rattle.rb_semantics.specs.HelperCalls.{HelperCall, Granted as GrantedAnswer, Null, Code, Resumption, Resumes, Strays, Unfit, resume}
use Rattle.rb_semantics.specs.Instructions.{Asks, next_step}
use Rattle.rb_semantics.specs.Soundness.{IsLawful}
use Rattle.rb_semantics.proofs.Laws.{step_asks}
use Rattle.rb_interp.specs.MachineState.{MachineState, IsSteady, IsResumedTo}
use Rattle.rb_interp.specs.StoredMemory.{held_record, record_bytes_in}
use Rattle.rb_interp.specs.declared.request.Answer.TheVariants as given
use Rattle.rb_interp.specs.declared.step.Phase.TheVariants as phase
use Rattle.rb_interp.proofs.Steady.{steady_ready, steady_waiting, place_for}
use Rattle.rb_world.specs.Worlds.{RecordPlace, HeldRecords, Running, table_with, WorldRing}
use Rattle.rb_world.specs.CallsInWorld.{RecordOutcome, BadFlags, NoRoom, Made, WorkerReserves, WorkerOutputs, answer_to_reserve, held_after_reserve, Unlogged}
use Rattle.rb_world.specs.Turns.{worker_after}
use Rattle.rb_chapter_ring.specs.declared.ring_record.RingRecord.{RingRecord}
use Rattle.rb_world.specs.WorldValue.{WholeWorld, place_of, status_of_phase, held_by, worker_of}
use Rattle.rb_world.specs.inner.WorkerTurn.{GoesOnWith, AnswersReserve, AnswersOutput}
use Rattle.rb_world.specs.inner.FittingWorlds.{AreOwn, setups_of, AreFor, AreOpenTo, IsFitting}
use Rattle.rb_world.specs.inner.RingAnswers.{GivesRecord, IsReserved, IsOutput}
use Rattle.rb_world.proofs.HeldByWorkers.{shown-granted, reserves-within, outputs-within}

abbrev M : Type 0
M = MachineState RingRecord

abbrev Held : Type 0
Held = List (ℕ × RingRecord)

pub held-same : (old new : M) → new.records ≡ old.records → held_by new ≡ held_by old
held-same old new e = ap (λ (rs : Held). λ id. option_map place_of (held_record id rs)) e

-- a machine that got an answer continues as the model's worker does
pub resumed : (old new : M) (held : HeldRecords) (outcome : Resumption) → IsResumedTo outcome new → (outcome ≡ Strays → new.state ≡ old.state) → new.program ≡ old.program → held_by new ≡ held
    → worker_of new ≡ worker_after outcome (record (worker_of old) { held = held; status = Running })
resumed old new held (Resumes t) h stays p q = λ i. record { subject = p i; state = h.0 i; held = q i; status = (ap status_of_phase h.1) i }
resumed old new held Strays h stays p q = λ i. record { subject = p i; state = (stays refl) i; held = q i; status = (ap status_of_phase h) i }
resumed old new held Unfit h stays p q = absurd h

module _ (w : ℕ) (s : WorldRing) (v v' : Ring) (items : List Taken) (is : record { ring = v; taken = items } ≡ s) (m m' : M) (program : m'.program ≡ m.program) where
  abbrev after : WorldRing
  after = record { ring = v'; taken = items }

  pub output-answered : (flags : ℕ) (sent : List ℕ) (code : ℤ) → IsOutput v v' w sent flags code → m.output ≡ Some sent → IsResumedTo (resume asked.Output (Code code) m.state) m' → m'.records ≡ m.records → AnswersOutput w flags m s m' after
  output-answered flags sent code (outcome, tells, h) lent goes records = λ bytes e.
      let both : Some sent ≡ Some bytes = sym lent ∙ e in
      let same : sent ≡ bytes = cc in
      let on : GoesOnWith asked.Output (Code code) (held_by m) m m' = resumed m m' (held_by m) (resume asked.Output (Code code) m.state) goes (λ no. absurd (cc)) program (held-same m m' records) in (
        outcome,
        subst (λ b. WorkerOutputs w b flags outcome s after) same (subst (λ (x : WorldRing). WorkerOutputs w sent flags outcome x after) is (outputs-within items w sent flags outcome v v' h)),
        subst (λ a. GoesOnWith asked.Output a (held_by m) m m') (sym tells) on,
      )

  module _ (r len flags : ℕ) where
    abbrev owned_of : HandGranted → RingRecord
    owned_of x = record { ring = r; reservation = x }

    pub reserve-granted : (x : HandGranted) → IsReserved v v' w len flags (Some x.granted) → held_record m.state.unit m.records ≡ None → IsResumedTo (resume (asked.Reserve len) GrantedAnswer m.state) m' → m'.records ≡ m.records ++ (m.state.unit, owned_of x) ∷ []
        → AnswersReserve w r len flags m s m' after
    reserve-granted x (BadFlags, g, h) none goes records = absurd g
    reserve-granted x (Unlogged, g, h) none goes records = absurd g
    reserve-granted x (NoRoom, g, h) none goes records = absurd g
    reserve-granted x (Made p k, g, h) none goes records =
        let spot : place_of (owned_of x) ≡ record { ring = r; pos = p; serial = k } = ap (λ (y : Granted). record { ring = r; pos = y.pos; serial = y.serial }) g in
        let held : (id : ℕ) → held_by m' id ≡ table_with m.state.unit (Some (record { ring = r; pos = p; serial = k })) (held_by m) id = (λ id.
        ap (λ (rs : Held). option_map place_of (held_record id rs)) records ∙ (shown-granted place_of m.state.unit (owned_of x) m.records id none ∙ ap (λ (y : RecordPlace). table_with m.state.unit (Some y) (held_by m) id) spot)) in (
          Made p k,
          subst (λ (x : WorldRing). WorkerReserves w len flags (Made p k) x after) is (reserves-within items w len flags (Made p k) v v' h),
          resumed m m' (held_after_reserve m.state.unit r (Made p k) (held_by m)) (resume (asked.Reserve len) GrantedAnswer m.state) goes (λ no. absurd (cc)) program (λ i id. held id i),
        )

    refused-by : (outcome : RecordOutcome) → WorkerReserves w len flags outcome s after → IsResumedTo (resume (asked.Reserve len) Null m.state) m' → m'.records ≡ m.records → answer_to_reserve outcome ≡ Null → held_after_reserve m.state.unit r outcome (held_by m) ≡ held_by m
        → AnswersReserve w r len flags m s m' after
    refused-by outcome h goes records null same =
        let on : GoesOnWith (asked.Reserve len) Null (held_by m) m m' = resumed m m' (held_by m) (resume (asked.Reserve len) Null m.state) goes (λ no. absurd (cc)) program (held-same m m' records) in
        (outcome, h, subst (λ a. GoesOnWith (asked.Reserve len) a (held_after_reserve m.state.unit r outcome (held_by m)) m m') (sym null) (subst (λ held. GoesOnWith (asked.Reserve len) Null held m m') (sym same) on))

    pub reserve-refused : IsReserved v v' w len flags None → IsResumedTo (resume (asked.Reserve len) Null m.state) m' → m'.records ≡ m.records → AnswersReserve w r len flags m s m' after
    reserve-refused (outcome, g, h) goes records = by_how outcome g (subst (λ (x : WorldRing). WorkerReserves w len flags outcome x after) is (reserves-within items w len flags outcome v v' h))
      where
        by_how : (outcome : RecordOutcome) → GivesRecord w len outcome None → WorkerReserves w len flags outcome s after → AnswersReserve w r len flags m s m' after
        by_how BadFlags g h = refused-by BadFlags h goes records refl refl
        by_how Unlogged g h = refused-by Unlogged h goes records refl refl
        by_how NoRoom g h = refused-by NoRoom h goes records refl refl
        by_how (Made p k) g h = absurd g

-- the record that a reserve returned belongs to the worker and is filled with zeros
pub given-parts : (v v' : Ring) (w len flags : ℕ) (x : Granted) → IsReserved v v' w len flags (Some x) → (x.worker ≡ w) × (x.bytes ≡ replicate len 0)
given-parts v v' w len flags x (BadFlags, g, h) = absurd g
given-parts v v' w len flags x (Unlogged, g, h) = absurd g
given-parts v v' w len flags x (NoRoom, g, h) = absurd g
given-parts v v' w len flags x (Made p k, g, h) = (ap (λ (y : Granted). y.worker) g, ap (λ (y : Granted). y.bytes) g)

-- the machine has a free place for it
pub no-record : (m : M) (len : ℕ) (x : RingRecord) → m.phase ≡ phase.Waiting (asked.Reserve len) → IsSteady m.phase m → m.state.memory.records ≡ record_bytes_in (λ (r : RingRecord). r.reservation.granted.bytes) m.records → x.reservation.granted.bytes ≡ replicate len 0
    → held_record m.state.unit m.records ≡ None
no-record m len x waits steady shows zeros =
    (place_for (λ (r : RingRecord). r.reservation.granted.bytes) m.program (asked.Reserve len) (given.Granted x) m.records m.state shows (steady_waiting m.phase (asked.Reserve len) m waits steady) zeros).1

-- ---- preserving `IsFitting`

pub lawful-of : (old : M) (call : HelperCall) (t : State) → old.phase ≡ phase.Ready → IsSteady old.phase old → next_step old.program.program old.state ≡ Asks call t → IsLawful old.program call
lawful-of old call t ready steady step = (step_asks old.program old.state t call (steady_ready old.phase old ready steady) step).lawful

pub open-at : (w : ℕ) (rings : List WorldRing) (r : ℕ) (s : WorldRing) → AreOpenTo w (setups_of rings) → r < length rings → s ≡ get_or rings r s → w < s.ring.setup.workers
open-at w [] r s all low there = absurd (omega arith)
open-at w (x ∷ xs) ℕ.zero s all low there = subst (λ (y : WorldRing). w < y.ring.setup.workers) (sym there) all.0
open-at w (x ∷ xs) (ℕ.suc r) s all low there = open-at w xs r s all.1 (omega arith) there

pub setups-set : (rings : List WorldRing) (r : ℕ) (s s' : WorldRing) → s ≡ get_or rings r s → s'.ring.setup ≡ s.ring.setup → setups_of (set rings r s') ≡ setups_of rings
setups-set [] r s s' there same = refl
setups-set (x ∷ xs) ℕ.zero s s' there same = ap (λ u. u ∷ setups_of xs) (same ∙ ap (λ (y : WorldRing). y.ring.setup) there)
setups-set (x ∷ xs) (ℕ.suc r) s s' there same = ap (λ l. x.ring.setup ∷ l) (setups-set xs r s s' there same)

pub set-length : {X : Type 0} (xs : List X) (i : ℕ) (x : X) → length (set xs i x) ≡ length xs
set-length [] i x = refl
set-length (y ∷ ys) ℕ.zero x = refl
set-length (y ∷ ys) (ℕ.suc i) x = ap ℕ.suc (set-length ys i x)

setups-length : (rings : List WorldRing) → length (setups_of rings) ≡ length rings
setups-length [] = refl
setups-length (x ∷ xs) = ap ℕ.suc (setups-length xs)

pub length-by : (one other : List WorldRing) → setups_of one ≡ setups_of other → length one ≡ length other
length-by one other e = sym (setups-length one) ∙ (ap length e ∙ setups-length other)

pub for-open : (n w : ℕ) (setups : List Setup) → w < n → AreFor n setups → AreOpenTo w setups
for-open n w [] low all = tt
for-open n w (u ∷ us) low all = (subst (λ k. w < k) (sym all.0) low, for-open n w us low all.1)

-- the rings changed
pub fits-rings : (body : WholeWorld) (rings : List WorldRing) → IsFitting body → setups_of rings ≡ setups_of body.rings → IsFitting (record body { rings = rings })
fits-rings body rings fits same =
    let long : length rings ≡ length body.rings = length-by rings body.rings same in
    record {
      rings = subst (AreFor (length body.machines)) (sym same) fits.rings;
      programs = λ w m low is. subst (λ n. m.program.rings ≤ n) (sym long) (fits.programs w m low is);
      own = λ w m low is. subst (λ n. AreOwn w n m.records) (sym long) (fits.own w m low is);
    }

-- a worker changed
pub fits-worker : (body : WholeWorld) (w : ℕ) (old new : M) → IsFitting body → w < length body.machines → old ≡ get_or body.machines w old → new.program ≡ old.program → AreOwn w (length body.rings) new.records → IsFitting (record body { machines = set body.machines w new })
fits-worker body w old new fits low is program own =
    let long : length (set body.machines w new) ≡ length body.machines = set-length body.machines w new in
    record {
      rings = subst (λ n. AreFor n (setups_of body.rings)) (sym long) fits.rings;
      programs = λ j m below there. elim (cases_eq j w) [
        | inl same ↦ (let here : m ≡ new = there ∙ (ap (λ i. get_or (set body.machines w new) i m) same ∙ get_or-set_same body.machines w new m low) in
            subst (λ (x : M). x.program.rings ≤ length body.rings) (sym here) (subst (λ p. p.rings ≤ length body.rings) (sym program) (fits.programs w old low is)))
        | inr else ↦ fits.programs j m (subst (λ n. j < n) long below) (there ∙ get_or-set_other body.machines w j new m else)
      ];
      own = λ j m below there. elim (cases_eq j w) [
        | inl same ↦ (let here : m ≡ new = there ∙ (ap (λ i. get_or (set body.machines w new) i m) same ∙ get_or-set_same body.machines w new m low) in
            subst (λ i. AreOwn i (length body.rings) m.records) (sym same) (subst (λ (x : M). AreOwn w (length body.rings) x.records) (sym here) own))
        | inr else ↦ fits.own j m (subst (λ n. j < n) long below) (there ∙ get_or-set_other body.machines w j new m else)
      ];
    }
