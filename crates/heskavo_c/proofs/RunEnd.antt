-- A program may run alone over fresh rings; it ends, and what was taken from each ring forms a tape.
use Rattle.std.proofs.Common.{◌≡◌, ◌≢◌, ℕ, zero, suc, ◌+◌, ◌<◌, ◌≤◌, inl, inr, ◌↔◌, cond, List, [], ◌∷◌, ◌++◌, map, length, get_or, replicate, Result, Err, IsSome, refl, sym, ap, subst, ◌∙◌, append_assoc, append-nil, arith}
use Rattle.std.specs.Prelude.{All}
use Rattle.std.specs.List.{AllZip}
use Rattle.std.proofs.lemmas.Bool.{cases_lt, eq-eqb}
use Rattle.std.proofs.lemmas.List.{length-replicate}
use Rattle.std.proofs.lemmas.List.Elements.{All-nil, All-cons, All-head, All-tail, All-append, All-replicate}
use Rattle.std.proofs.lemmas.List.Sums.{sum_by-append}
use Rattle.rb_interp.specs.MachineState.{MachineState}
use Rattle.rb_program.specs.Program.{unit_count}
use Rattle.rb_verifier.specs.Subject.{Subject}
use Rattle.rb_verifier.proofs.Counting.{count_by-cons}
use Rattle.rb_history.specs.RingModel.{IsRingSize, IsWorkerCount}
use Rattle.rb_history.specs.RoomRule.{Setup}
use Rattle.rb_chapter_ring.specs.Chapters.{IsChapterRoom}
use Rattle.rb_history.specs.TapeBytes.{AreItemsFrom}
use Rattle.rb_world.specs.declared.actor.Actor.{Actor}
use Rattle.rb_world.specs.declared.actor.Actor.TheVariants.{Worker, Consumer}
use Rattle.rb_world.specs.declared.world_setup.RingSetup.{RingSetup}
use Rattle.rb_world.specs.declared.world_setup.WorkerSetup.{WorkerSetup}
use Rattle.rb_world.specs.declared.turn_done.TurnDone.{TurnDone}
use Rattle.rb_world.specs.declared.turn_done.TurnDone.TheVariants as answer
use Rattle.rb_world.specs.declared.world_fault.WorldOpenFault.{WorldOpenFault}
use Rattle.rb_world.specs.declared.world_fault.WorldOpenFault.TheVariants as fault
use Rattle.rb_chapter_ring.specs.declared.ring_record.RingRecord.{RingRecord}
use Rattle.rb_world.specs.EveryInterleaving.{HasFinished, IsReachedWorld, turns_of, is_turn_of}
use Rattle.rb_world.specs.OpenedWorlds.{AreRings, HaveContexts, HaveRings, HaveRooms, IsOpenedWorld, IsRingSetup, IsStarted, MayOpen, opened_rings}
use Rattle.rb_world.specs.OpeningWorld.{IsActor, IsOpeningWorld}
use Rattle.rb_world.specs.TakenTapes.{AllHaveFinished, is_take_of, takes_of}
use Rattle.rb_world.specs.Turns.{TurnEvent, WorldRun}
use Rattle.rb_world.specs.Turns.TurnEvent.{NoMemory}
use Rattle.rb_world.specs.TurnsDone.{TellsEvent}
use Rattle.rb_world.specs.WorldRuns.{IsFirstUnknown, result_by}
use Rattle.rb_world.specs.WorldValue.{IsThere, WorldValue, no_ring, no_worker, worker_of, world_of, world_ring}
use Rattle.rb_world.specs.Worlds.{World, WorldRing}
use Rattle.rb_world.proofs.AllTaken.{enough-takes}
use Rattle.rb_world.proofs.ListSteps.{zip-long}
use Rattle.rb_world.proofs.Openings.{length-opened, opening-world}
use Rattle.rb_world.proofs.RingRuns.{InTwo, run-in-two, subjects-stay}
use Rattle.rb_world.proofs.TakenTapes.{stand-on-tapes}
use Rattle.rb_world.proofs.WholeRuns.{every-interleaving, opening, opening-reached, run}
use Rattle.heskavo_c.specs.Runs.{IsDrained, RunEnds, RunsAlone, fresh_ring, items_left, turns_alone}

-- ---- the turns of a run

-- the turns of the consumers
abbrev takes : ℕ → ℕ → List Actor
takes units zero = []
takes units (suc ring) = takes units ring ++ replicate units (Consumer ring)

in-two : (units rings : ℕ) → turns_alone units rings ≡ replicate units (Worker 0) ++ takes units rings
in-two units zero = sym (append-nil (replicate units (Worker 0)))
in-two units (suc ring) = ap (λ l. l ++ replicate units (Consumer ring)) (in-two units ring) ∙ append_assoc (replicate units (Worker 0)) (takes units ring) (replicate units (Consumer ring))

all-takes : (P : Actor → Type 0) (units rings : ℕ) → ((r : ℕ) → r < rings → P (Consumer r)) → All P (takes units rings)
all-takes P units zero each = All-nil P
all-takes P units (suc ring) each =
    All-append P (takes units ring) (replicate units (Consumer ring)) (all-takes P units ring (λ r low. each r (omega (arith, low)))) (All-replicate P units (Consumer ring) (each ring (omega arith)))

all-turns : (P : Actor → Type 0) (units rings : ℕ) → P (Worker 0) → ((r : ℕ) → r < rings → P (Consumer r)) → All P (turns_alone units rings)
all-turns P units rings work each =
    subst (All P) (sym (in-two units rings)) (All-append P (replicate units (Worker 0)) (takes units rings) (All-replicate P units (Worker 0) work) (all-takes P units rings each))

turns-of-work : (units : ℕ) → turns_of 0 (replicate units (Worker 0)) ≡ units
turns-of-work zero = refl
turns-of-work (suc n) =
    let first = count_by-cons (is_turn_of 0) (Worker 0) (replicate n (Worker 0)) in
    let one : cond {A = ℕ} (is_turn_of 0 (Worker 0)) 1 0 ≡ 1 = refl in
    let rest = turns-of-work n in
    omega (arith, first, one, rest)

own-takes : (r s n : ℕ) → s ≡ r → takes_of r (replicate n (Consumer s)) ≡ n
own-takes r s zero same = refl
own-takes r s (suc n) same =
    let first = count_by-cons (is_take_of r) (Consumer s) (replicate n (Consumer s)) in
    let one : cond {A = ℕ} (is_take_of r (Consumer s)) 1 0 ≡ 1 = ap (λ b. cond {A = ℕ} b 1 0) (eq-eqb s r same) in
    let rest = own-takes r s n same in
    omega (arith, first, one, rest)

-- each ring's consumer has as many turns as there are units
each-takes : (units rings r : ℕ) → r < rings → units ≤ takes_of r (takes units rings)
each-takes units zero r low = absurd (omega (arith, low))
each-takes units (suc ring) r low =
    let sum : takes_of r (takes units (suc ring)) ≡ takes_of r (takes units ring) + takes_of r (replicate units (Consumer ring)) =
    sum_by-append (λ a. cond (is_take_of r a) 1 0) (takes units ring) (replicate units (Consumer ring)) in
    elim (cases_lt r ring) [
      | inl less ↦ let before = each-takes units ring r less in omega (arith, sum, before)
      | inr more ↦ let own = own-takes r ring units (omega (arith, low, more)) in omega (arith, sum, own)
    ]

-- ---- no turn failed for lack of memory

memory-alone : (done : TurnDone) → TellsEvent done NoMemory → done ≡ answer.Memory
memory-alone answer.Went t = absurd t
memory-alone (answer.Finished n) t = absurd t
memory-alone answer.Idle t = absurd t
memory-alone answer.Took t = absurd t
memory-alone answer.Skipped t = absurd t
memory-alone answer.BusyFront t = absurd t
memory-alone answer.Empty t = absurd t
memory-alone (answer.Chapter n) t = absurd t
memory-alone answer.Memory t = refl

none-refused : (dones : List TurnDone) (events : List TurnEvent) → AllZip TellsEvent dones events → All (λ done. done ≢ answer.Memory) dones → All (λ event. event ≢ NoMemory) events
none-refused [] [] told all = All-nil (λ event. event ≢ NoMemory)
none-refused [] (event ∷ events) told all = absurd told
none-refused (done ∷ dones) [] told all = absurd told
none-refused (done ∷ dones) (event ∷ events) told all =
    All-cons (λ e. e ≢ NoMemory) event events (λ is. All-head (λ d. d ≢ answer.Memory) done dones all (memory-alone done (subst (TellsEvent done) is told.0)))
    (none-refused dones events told.1 (All-tail (λ d. d ≢ answer.Memory) done dones all))

all-right : {X : Type 0} (P : X → Type 0) (xs ys : List X) → All P (xs ++ ys) → All P ys
all-right P [] ys all = all
all-right P (x ∷ xs) ys all = all-right P xs ys (All-tail P x (xs ++ ys) all)

-- ---- the first world of a run

first-subject : (x : WorkerSetup) (ms : List (MachineState RingRecord)) → AllZip IsStarted (x ∷ []) ms → (get_or (map worker_of ms) 0 no_worker).subject ≡ x.program.now
first-subject x [] started = absurd started
first-subject x (m ∷ ms) started = started.0.program

setup-at : (n k m : ℕ) (s : RingSetup) (d : WorldRing) (r : ℕ) → r < m → (get_or (map world_ring (opened_rings n k (replicate m s))) r d).ring.setup ≡ record { size = s.size; start = s.start; workers = n }
setup-at n k zero s d r low = absurd (omega (arith, low))
setup-at n k (suc m) s d zero low = refl
setup-at n k (suc m) s d (suc r) low = setup-at n (k + 1) m s d r (omega (arith, low))

-- such a world may be opened
pub may-open : (n size : ℕ) (worker : WorkerSetup) (rings : List RingSetup) → rings ≡ replicate n (fresh_ring size) → IsRingSize size → length worker.context.now ≡ worker.program.now.ctx_len → worker.program.now.rings ≡ n → n ≤ 16
    → MayOpen rings (worker ∷ [])
may-open n size worker rings are bounds context known few =
    let long : length rings ≡ n = ap length are ∙ length-replicate n (fresh_ring size) in
    let room : IsChapterRoom 16384 = (omega arith, omega arith) in
    let one : (P : WorkerSetup → Type 0) → P worker → All P (worker ∷ []) = λ P here. All-cons P worker [] here (All-nil P) in
    record {
      are_rings = subst (All IsRingSetup) (sym are) (All-replicate IsRingSetup n (fresh_ring size) (record { size = bounds; start = (refl, omega arith) }));
      contexts = one (λ x. length x.context.now ≡ x.program.now.ctx_len) context;
      ring_count = (omega (arith, long, few), one (λ x. x.program.now.rings ≤ length rings) (omega (arith, long, known)));
      worker_count = (omega arith, omega arith);
      rooms = subst HaveRooms (sym are) (All-replicate (λ s. IsChapterRoom s.room) n (fresh_ring size) room);
    }

-- the only fault with which it may be refused is `Memory`
pub memory-only : {T : Type 0} (rings : List RingSetup) (setups : List WorkerSetup) (r : Result T WorldOpenFault) (f : WorldOpenFault) → r ≡ Err f → MayOpen rings setups
    → ((r ≡ Err fault.Ring) ↔ (¬ AreRings rings)) → ((r ≡ Err fault.ContextLength) ↔ (AreRings rings × ¬ HaveContexts setups))
    → ((r ≡ Err fault.Rings) ↔ (AreRings rings × HaveContexts setups × ¬ HaveRings (length rings) setups))
    → ((r ≡ Err fault.Workers) ↔ (AreRings rings × HaveContexts setups × HaveRings (length rings) setups × ¬ IsWorkerCount (length setups)))
    → ((r ≡ Err fault.Chapter) ↔ (AreRings rings × HaveContexts setups × HaveRings (length rings) setups × IsWorkerCount (length setups) × ¬ HaveRooms rings)) → f ≡ fault.Memory
memory-only rings setups r fault.Ring is may ring context count worker chapter = absurd (ring.0 is may.are_rings)
memory-only rings setups r fault.ContextLength is may ring context count worker chapter = absurd ((context.0 is).1 may.contexts)
memory-only rings setups r fault.Rings is may ring context count worker chapter = absurd ((count.0 is).2 may.ring_count)
memory-only rings setups r fault.Workers is may ring context count worker chapter = absurd ((worker.0 is).3 may.worker_count)
memory-only rings setups r fault.Chapter is may ring context count worker chapter = absurd ((chapter.0 is).4 may.rooms)
memory-only rings setups r fault.Memory is may ring context count worker chapter = refl

-- each actor of the run exists
pub none-unknown : (v : WorldValue) (actors : List Actor) (place : ℕ) → All (IsThere v) actors → IsFirstUnknown v actors place → ⊥
none-unknown v [] place all unknown = unknown
none-unknown v (actor ∷ actors) zero all unknown = unknown (All-head (IsThere v) actor actors all)
none-unknown v (actor ∷ actors) (suc place) all unknown = none-unknown v actors place (All-tail (IsThere v) actor actors all) unknown.1

pub actors-there : (units n size : ℕ) (worker : WorkerSetup) (rings : List RingSetup) (v : WorldValue) → rings ≡ replicate n (fresh_ring size) → IsOpenedWorld rings (worker ∷ []) v → All (IsThere v) (turns_alone units n)
actors-there units n size worker rings v are opened =
    let long : length v.rings ≡ n = ap length opened.rings_are ∙ length-opened 1 0 rings ∙ ap length are ∙ length-replicate n (fresh_ring size) in
    let one : 1 ≡ length v.machines = zip-long IsStarted (worker ∷ []) v.machines opened.machines_are in
    all-turns (IsThere v) units n (omega (arith, one)) (λ r low. omega (arith, low, long))

-- ---- the last world of a run

module _ (subject : Subject) (context : List ℕ) (size : ℕ) (last : WorldValue) (bounds : IsRingSize size) (x : RunsAlone subject context size last) where
  abbrev units : ℕ
  units = unit_count subject.program

  abbrev work : List Actor
  work = replicate units (Worker 0)

  abbrev taking : List Actor
  taking = takes units subject.rings

  abbrev turns : List Actor
  turns = turns_alone units subject.rings

  abbrev old : World
  old = world_of x.first

  abbrev new : World
  new = world_of last

  opens : IsOpeningWorld old
  opens = opening-world (replicate subject.rings (fresh_ring size)) (x.worker ∷ []) x.first x.opened

  one : 1 ≡ length x.first.machines
  one = zip-long IsStarted (x.worker ∷ []) x.first.machines x.opened.machines_are

  work-there : All (IsActor old.worker_count) work
  work-there = All-replicate (IsActor old.worker_count) units (Worker 0) (omega (arith, one))

  taking-there : All (IsActor old.worker_count) taking
  taking-there = all-takes (IsActor old.worker_count) units subject.rings (λ r low. tt)

  turns-there : All (IsActor old.worker_count) turns
  turns-there = all-turns (IsActor old.worker_count) units subject.rings (omega (arith, one)) (λ r low. tt)

  same-subject : (old.workers 0).subject ≡ subject
  same-subject = first-subject x.worker x.first.machines x.opened.machines_are ∙ x.program_is

  two : InTwo old work taking x.ran.0 new
  two = run-in-two old new work taking x.ran.0 (subst (λ l. WorldRun old l x.ran.0 new) (in-two units subject.rings) x.ran.2)

  mid-count : two.mid.worker_count ≡ old.worker_count
  mid-count = (run (λ r. []) old two.mid work two.first (opening old opens) work-there two.to_mid).count

  new-count : new.worker_count ≡ old.worker_count
  new-count = (run (λ r. []) old new turns x.ran.0 (opening old opens) turns-there x.ran.2).count

  -- after the worker's turns, its program has ended
  mid-finished : AllHaveFinished two.mid
  mid-finished w low =
      let zero-is : w ≡ 0 = omega (arith, low, mid-count, one) in
      let kept : (two.mid.workers 0).subject ≡ subject = subjects-stay old two.mid work two.first (opening-reached old opens) work-there two.to_mid 0 ∙ same-subject in
      let enough : unit_count subject.program ≤ turns_of 0 work = let all = turns-of-work units in omega (arith, all) in
      subst (λ v. HasFinished (two.mid.workers v)) (sym zero-is)
      ((every-interleaving old two.mid work two.first opens work-there two.to_mid).finishes 0 (omega (arith, mid-count, one)) (subst (λ s. unit_count s.program ≤ turns_of 0 work) (sym kept) enough))

  finished : HasFinished (new.workers 0)
  finished =
      let kept : (new.workers 0).subject ≡ subject = subjects-stay old new turns x.ran.0 (opening-reached old opens) turns-there x.ran.2 0 ∙ same-subject in
      let parts : turns_of 0 (work ++ taking) ≡ turns_of 0 work + turns_of 0 taking = sum_by-append (λ a. cond (is_turn_of 0 a) 1 0) work taking in
      let whole : turns_of 0 turns ≡ turns_of 0 (work ++ taking) = ap (turns_of 0) (in-two units subject.rings) in
      let enough : unit_count subject.program ≤ turns_of 0 turns = let all = turns-of-work units in omega (arith, all, parts, whole) in
      (every-interleaving old new turns x.ran.0 opens turns-there x.ran.2).finishes 0 (omega (arith, new-count, one)) (subst (λ s. unit_count s.program ≤ turns_of 0 turns) (sym kept) enough)

  remembered : All (λ event. event ≢ NoMemory) two.second
  remembered =
      all-right (λ event. event ≢ NoMemory) two.first two.second (subst (All (λ event. event ≢ NoMemory)) two.events_are (none-refused x.dones x.ran.0 x.ran.1 x.remembered))

  drained : (r : ℕ) → r < subject.rings → IsDrained last r
  drained r low =
      let long = length-replicate units (Worker 0) in
      let each = each-takes units subject.rings r low in
      enough-takes old two.mid new work taking two.first two.second opens work-there two.to_mid mid-finished taking-there two.from_mid remembered r (omega (arith, long, each))

  abbrev reached : IsReachedWorld new
  reached = record { first = old; actors = turns; events = x.ran.0; opens = opens; there = turns-there; run = x.ran.2; count = new-count }

  abbrev fresh-setup : Setup
  fresh-setup = record { size = size; start = 0; workers = 1 }

  follow : (r : ℕ) → r < subject.rings → AreItemsFrom size 0 (items_left last r)
  follow r low =
      let stands = stand-on-tapes new reached r in
      let begun : (old.rings r).ring.setup ≡ fresh-setup =
      ap (λ l. (get_or (map world_ring l) r (no_ring (length x.first.machines))).ring.setup) x.opened.rings_are ∙ setup-at 1 0 subject.rings (fresh_ring size) (no_ring (length x.first.machines)) r low in
      let setup : (new.rings r).ring.setup ≡ fresh-setup = stands.0 ∙ begun in
      let fits : (new.rings r).ring.setup.size ≤ 67108864 = subst (λ (s : Setup). s.size ≤ 67108864) (sym setup) bounds.2 in
      subst (λ (s : Setup). AreItemsFrom s.size s.start (items_left last r)) setup (stands.1 fits).follow

  pub run-ends : RunEnds subject size last
  run-ends = record {
    there = omega (arith, new-count, one);
    ended = subst (λ s. IsSome (result_by s)) (sym finished.1) refl;
    follow = follow;
    drained = drained;
  }
