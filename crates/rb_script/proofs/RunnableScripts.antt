-- Scripts that were read can be run, and a world opens for them.
use Rattle.std.proofs.Common.{Bool, ◌≡◌, ◌≤◌, ◌+◌, ◌↔◌, ◌⊎◌, ℕ, List, [], ◌∷◌, ◌++◌, length, map, replicate, Result, Ok, Err, OnErr, refl, sym, ap, subst, ◌∙◌, append_assoc, inl, inr, arith}
use Rattle.std.specs.Prelude.{All}
use Rattle.std.specs.List.{AllZip}
use Rattle.std.proofs.lemmas.List.{length-append, length-map, take_all}
use Rattle.std.proofs.lemmas.List.Elements.{All-nil, All-cons, All-append, All-replicate, All-weaker}
use Rattle.rb_chapter_ring.specs.Chapters.{IsChapterRoom}
use Rattle.rb_history.specs.RingModel.{IsWorkerCount}
use Rattle.rb_world.specs.declared.actor.Actor.{Actor}
use Rattle.rb_world.specs.declared.actor.Actor.TheVariants.{Worker, Consumer, Keeper}
use Rattle.rb_verifier.specs.Subject.{Subject}
use Rattle.rb_world.specs.declared.world_setup.RingSetup.{RingSetup}
use Rattle.rb_world.specs.declared.world_setup.WorkerSetup.{WorkerSetup}
use Rattle.rb_world.specs.declared.world_fault.WorldOpenFault.{WorldOpenFault}
use Rattle.rb_world.specs.declared.world_fault.WorldOpenFault.TheVariants as fault
use Rattle.rb_world.specs.OpenedWorlds.{IsRingSetup, AreRings, HaveContexts, HaveRings, HaveRooms, MayOpen, IsOpenedWorld}
use Rattle.rb_world.proofs.Openings.{length-opened}
use Rattle.rb_world.specs.WorldValue.{WorldValue, IsThere}
use Rattle.rb_json.specs.declared.form.LineForm.{LineForm}
use Rattle.rb_script.specs.declared.script.Script.{Script}
use Rattle.rb_script.specs.declared.script.ScriptWorker.{ScriptWorker}
use Rattle.rb_script.specs.Programs.{IsWorkersProgram}
use Rattle.rb_script.specs.ScriptText.{Statement, Says}
use Rattle.rb_script.specs.ScriptText.Statement.{RingOf, WorkerOf, TurnsOf}
use Rattle.rb_script.specs.Scripts.{IsWithinLimits, HasWorker, MayRunScript, IsAmong, AreInOrder, StandFor, worker_text, script_rings, script_workers, actors_of}
use Rattle.rb_script.specs.Simulation.{AreSetups, BeginsRun, BeginsSimulationWith, BreaksOff, SimulatesWith, WritesRun, world_text}
use Rattle.rb_script.proofs.ScriptParts.{rings-append, workers-append}
use Rattle.rb_script.proofs.WorldEnds.{machines-long}

-- ---- the rings

said-rings : (lines : List (List ℕ)) (said : List Statement) → AllZip Says lines said → All IsRingSetup (script_rings said) × All (λ (s : RingSetup). IsChapterRoom s.room) (script_rings said)
said-rings [] [] h = (All-nil IsRingSetup, All-nil (λ (s : RingSetup). IsChapterRoom s.room))
said-rings [] (y ∷ said) h = absurd h
said-rings (x ∷ lines) [] h = absurd h
said-rings (x ∷ lines) (RingOf setup ∷ said) h =
    let rest = said-rings lines said h.1 in
    (All-cons IsRingSetup setup (script_rings said) h.0.bounds.0 rest.0, All-cons (λ (s : RingSetup). IsChapterRoom s.room) setup (script_rings said) h.0.bounds.1 rest.1)
said-rings (x ∷ lines) (WorkerOf program context ∷ said) h = said-rings lines said h.1
said-rings (x ∷ lines) (TurnsOf actor count ∷ said) h = said-rings lines said h.1

-- ---- the turns

among-more : (r w R W : ℕ) (actor : Actor) → r ≤ R → w ≤ W → IsAmong r w actor → IsAmong R W actor
among-more r w R W (Worker n) rings workers h = omega arith
among-more r w R W (Consumer n) rings workers h = omega arith
among-more r w R W (Keeper n) rings workers h = omega arith

module _ (R W : ℕ) where
  abbrev Fits : List Statement → Type 0
  Fits said = (length (script_rings said) ≤ R) × (length (script_workers 1 said) ≤ W)

  fits-next : (front : List Statement) (x : Statement) (said : List Statement) → Fits (front ++ x ∷ said) → Fits ((front ++ x ∷ []) ++ said)
  fits-next front x said h = subst Fits (sym (append_assoc front (x ∷ []) said)) h

  fits-front : (front said : List Statement) → Fits (front ++ said) → Fits front
  fits-front front said h =
      let long : length (script_rings (front ++ said)) ≡ length (script_rings front) + length (script_rings said) = ap length (rings-append front said) ∙ length-append (script_rings front) (script_rings said) in
      let many : length (script_workers 1 (front ++ said)) ≡ length (script_workers 1 front) + length (script_workers (1 + length front) said) = ap length (workers-append 1 front said) ∙ length-append (script_workers 1 front) (script_workers (1 + length front) said) in
      let rings = h.0 in
      let workers = h.1 in
      (omega arith, omega arith)

  said-among : (front said : List Statement) → AreInOrder front said → Fits (front ++ said) → All (IsAmong R W) (actors_of said)
  said-among front [] h fits = All-nil (IsAmong R W)
  said-among front (RingOf setup ∷ said) h fits = said-among (front ++ RingOf setup ∷ []) said h.1 (fits-next front (RingOf setup) said fits)
  said-among front (WorkerOf program context ∷ said) h fits = said-among (front ++ WorkerOf program context ∷ []) said h.1 (fits-next front (WorkerOf program context) said fits)
  said-among front (TurnsOf actor count ∷ said) h fits =
      let few = fits-front front (TurnsOf actor count ∷ said) fits in
      All-append (IsAmong R W) (replicate count actor) (actors_of said)
      (All-replicate (IsAmong R W) count actor (among-more (length (script_rings front)) (length (script_workers 1 front)) R W actor few.0 few.1 h.0.1))
      (said-among (front ++ TurnsOf actor count ∷ []) said h.1 (fits-next front (TurnsOf actor count) said fits))

pub may-run : (lines : List (List ℕ)) (s : Script) → StandFor lines s → IsWithinLimits s → HasWorker s → MayRunScript s
may-run lines s stands limits worker =
    let rings = said-rings lines stands.said stands.begins.says in
    let many : length (script_workers 1 stands.said) ≡ length s.workers.items = sym (ap length stands.made.workers) ∙ length-map s.workers.items worker_text in
    let long : length (script_rings stands.said) ≡ length s.rings.items = sym (ap length stands.made.rings) in
    record {
      limits = limits;
      worker = worker;
      rings = subst AreRings (sym stands.made.rings) rings.0;
      rooms = subst HaveRooms (sym stands.made.rings) rings.1;
      actors = subst (All (IsAmong (length s.rings.items) (length s.workers.items))) (sym stands.made.actors)
          (said-among (length s.rings.items) (length s.workers.items) [] stands.said stands.begins.in_order (omega arith, omega arith));
    }

-- ---- the world

module _ (R : ℕ) where
  setups-fit : (workers : List ScriptWorker) (programs : List Subject) (setups : List WorkerSetup) → map (λ (x : WorkerSetup). x.program.now) setups ≡ programs
      → map (λ (x : WorkerSetup). x.context.now) setups ≡ map (λ (w : ScriptWorker). w.context.items) workers → AllZip (IsWorkersProgram R) (map worker_text workers) programs
      → HaveContexts setups × All (λ (x : WorkerSetup). x.program.now.rings ≤ R) setups
  setups-fit workers programs [] p q h = (All-nil (λ (x : WorkerSetup). length x.context.now ≡ x.program.now.ctx_len), All-nil (λ (x : WorkerSetup). x.program.now.rings ≤ R))
  setups-fit [] programs (x ∷ setups) p q h = absurd (cc)
  setups-fit (w ∷ workers) [] (x ∷ setups) p q h = absurd (cc)
  setups-fit (w ∷ workers) (y ∷ programs) (x ∷ setups) p q h =
      let program : x.program.now ≡ y = cc in
      let programs_are : map (λ (x : WorkerSetup). x.program.now) setups ≡ programs = cc in
      let context : x.context.now ≡ w.context.items = cc in
      let contexts_are : map (λ (x : WorkerSetup). x.context.now) setups ≡ map (λ (w : ScriptWorker). w.context.items) workers = cc in
      let rest = setups-fit workers programs setups programs_are contexts_are h.1 in
      let long : length x.context.now ≡ x.program.now.ctx_len = ap length context ∙ (sym h.0.context_is ∙ ap (λ (s : Subject). s.ctx_len) (sym program)) in
      let known : x.program.now.rings ≡ R = ap (λ (s : Subject). s.rings) program ∙ h.0.rings_are in (
        All-cons (λ (x : WorkerSetup). length x.context.now ≡ x.program.now.ctx_len) x setups long rest.0,
        All-cons (λ (x : WorkerSetup). x.program.now.rings ≤ R) x setups (omega arith) rest.1,
      )

pub setups-long : (workers : List ScriptWorker) (programs : List Subject) (setups : List WorkerSetup) → AreSetups workers programs setups → length setups ≡ length workers
setups-long workers programs setups are = sym (length-map setups (λ (x : WorkerSetup). x.context.now)) ∙ (ap length are.contexts_are ∙ length-map workers (λ (w : ScriptWorker). w.context.items))

-- a world may be opened for a script that can be run
pub may-open : (s : Script) (programs : List Subject) (setups : List WorkerSetup) → MayRunScript s → AllZip (IsWorkersProgram (length s.rings.items)) (map worker_text s.workers.items) programs → AreSetups s.workers.items programs setups → MayOpen s.rings.items setups
may-open s programs setups may accepted are =
    let fit = setups-fit (length s.rings.items) s.workers.items programs setups are.programs_are are.contexts_are accepted in
    let long = setups-long s.workers.items programs setups are in
    let some = may.worker in
    let few = may.limits.workers in
    record {
      are_rings = may.rings;
      contexts = fit.0;
      ring_count = (may.limits.rings, fit.1);
      worker_count = (omega arith, omega arith);
      rooms = may.rooms;
    }

-- opening it fails only for memory
pub memory-only : {T : Type 0} (rings : List RingSetup) (setups : List WorkerSetup) (r : Result T WorldOpenFault) (f : WorldOpenFault) → r ≡ Err f → MayOpen rings setups
    → ((r ≡ Err fault.Ring) ↔ (¬ AreRings rings)) → ((r ≡ Err fault.ContextLength) ↔ (AreRings rings × ¬ HaveContexts setups))
    → ((r ≡ Err fault.Rings) ↔ (AreRings rings × HaveContexts setups × ¬ HaveRings (length rings) setups))
    → ((r ≡ Err fault.Workers) ↔ (AreRings rings × HaveContexts setups × HaveRings (length rings) setups × ¬ IsWorkerCount (length setups)))
    → ((r ≡ Err fault.Chapter) ↔ (AreRings rings × HaveContexts setups × HaveRings (length rings) setups × IsWorkerCount (length setups) × ¬ HaveRooms rings)) → f ≡ fault.Memory
memory-only rings setups r fault.Ring is may ring context count worker chapter = absurd (ring.0 is may.are_rings)
memory-only rings setups r fault.ContextLength is may ring context count worker chapter = absurd ((context.0 is).1 may.contexts)
memory-only rings setups r fault.Rings is may ring context count worker chapter = absurd ((count.0 is).2 may.ring_count)
memory-only rings setups r fault.Workers is may ring context count worker chapter = absurd ((worker.0 is).3 may.worker_count)
memory-only rings setups r fault.Chapter is may ring context count worker chapter = absurd ((chapter.0 is).4 may.rooms)
memory-only rings setups r fault.Memory is may ring context count worker chapter = refl

-- the actors of the script exist
pub actors-there : (s : Script) (programs : List Subject) (setups : List WorkerSetup) (v : WorldValue) → MayRunScript s → AreSetups s.workers.items programs setups → IsOpenedWorld s.rings.items setups v → All (IsThere v) s.actors.items
actors-there s programs setups v may are opened =
    let rings : length v.rings ≡ length s.rings.items = ap length opened.rings_are ∙ length-opened (length setups) 0 s.rings.items in
    let workers : length s.workers.items ≡ length v.machines = sym (setups-long s.workers.items programs setups are) ∙ machines-long setups v.machines opened.machines_are in
    All-weaker (IsAmong (length s.rings.items) (length s.workers.items)) (IsThere v) (λ actor among. there actor among rings workers) s.actors.items may.actors
  where
    there : (actor : Actor) → IsAmong (length s.rings.items) (length s.workers.items) actor → length v.rings ≡ length s.rings.items → length s.workers.items ≡ length v.machines → IsThere v actor
    there (Worker n) h rings workers = omega arith
    there (Consumer n) h rings workers = omega arith
    there (Keeper n) h rings workers = omega arith

-- memory ran out after the programs were verified
pub breaks-off : (form : LineForm) (draw : Bool) (s : Script) (lent programs : List Subject) (before after : List ℕ) → lent ≡ programs → AllZip (IsWorkersProgram (length s.rings.items)) (map worker_text s.workers.items) programs
    → (after ≡ before) ⊎ BeginsSimulationWith form draw s lent before after → BreaksOff form draw s before after
breaks-off form draw s lent programs before after same accepted (inl none) = inl none
breaks-off form draw s lent programs before after same accepted (inr begun) = inr (record { programs = programs; accepted = accepted; begun = subst (λ l. BeginsSimulationWith form draw s l before after) same begun })

-- the same, from the lent script and its workers' setups
module _ (s : Script) (programs : List Subject) (setups : List WorkerSetup) (workers : List ScriptWorker) (rings : List RingSetup) (lent : List WorkerSetup) (workers_are : workers ≡ s.workers.items) (rings_are : rings ≡ s.rings.items)
    (lent_are : lent ≡ setups) (may : MayRunScript s) (accepted : AllZip (IsWorkersProgram (length s.rings.items)) (map worker_text s.workers.items) programs) (are : AreSetups workers programs setups) where
  pub setups-are : AreSetups s.workers.items programs setups
  setups-are = subst (λ ws. AreSetups ws programs setups) workers_are are

  pub may-open-lent : MayOpen rings lent
  may-open-lent = subst (λ l. MayOpen l lent) (sym rings_are) (subst (MayOpen s.rings.items) (sym lent_are) (may-open s programs setups may accepted setups-are))

  module _ (v : WorldValue) (opened : IsOpenedWorld rings lent v) (actors : List Actor) (actors_are : actors ≡ s.actors.items) where
    opened-so : IsOpenedWorld s.rings.items setups v
    opened-so = subst (λ l. IsOpenedWorld l setups v) rings_are (subst (λ l. IsOpenedWorld rings l v) lent_are opened)

    pub there-lent : All (IsThere v) actors
    there-lent = subst (All (IsThere v)) (sym actors_are) (actors-there s programs setups v may setups-are opened-so)

    pub began-with : (form : LineForm) (draw : Bool) (before after : List ℕ) → BeginsRun form draw actors v before after → BeginsSimulationWith form draw s programs before after
    began-with form draw before after begun = record { setups = setups; first = v; are = setups-are; opened = opened-so; begun = subst (λ l. BeginsRun form draw l v before after) actors_are begun }

    pub ran-with : (form : LineForm) (draw : Bool) (last : WorldValue) (before after ends : List ℕ) → WritesRun form draw actors v last before after → ends ≡ world_text form last → SimulatesWith form draw s programs before after ends
    ran-with form draw last before after ends written is = record { setups = setups; first = v; last = last; are = setups-are; opened = opened-so; written = subst (λ l. WritesRun form draw l v last before after) actors_are written; ends_are = is }

-- all turns are the first turns
pub all-begun : (form : LineForm) (draw : Bool) (actors : List Actor) (old new : WorldValue) (before after : List ℕ) → WritesRun form draw actors old new before after → BeginsRun form draw actors old before after
all-begun form draw actors old new before after written = record { turns = length actors; last = new; written = subst (λ l. WritesRun form draw l old new before after) (sym (take_all (length actors) actors (omega arith))) written }

pub on-err : {T E P : Type 0} (r : Result T E) → P → OnErr r P
on-err (Ok x) p = tt
on-err (Err e) p = p
