-- The invariant of a world between turns, and how a change of one worker and one ring preserves it.
use Rattle.std.proofs.Common.{◌≡◌, ◌≢◌, ℕ, ◌<◌, Option, Some, None, refl, sym, ap, subst, ◌∙◌, ◌⊎◌, inl, inr}
use Rattle.rb_semantics.specs.Soundness.{CanStep}
use Rattle.rb_history.specs.Calls.{IsBusy}
use Rattle.rb_world.specs.Worlds.{RecordPlace, WorkerStatus, Running, Finished, Halted, Strayed, WorkerState, WorldRing, World, table_with, with_worker, with_ring}
use Rattle.rb_world.specs.EveryInterleaving.{HoldsRecord}
use Rattle.rb_world.proofs.Tables.{eq_cases, placed-here, placed-else, size_of}
use Rattle.rb_world.proofs.RingSteps.{Handed, ledger, Keeps}

-- a busy record of one of the rings
abbrev pub BusyAt : (ℕ → WorldRing) → (r p w k n : ℕ) → Type 0
BusyAt rings r p w k n = IsBusy (rings r).ring.history p w k n

-- a record of n bytes in a worker's memory is one that the worker holds, and is busy at its ring
abbrev pub Tied : (ℕ → WorldRing) → ℕ → Option ℕ → Option RecordPlace → Type 0
Tied rings w None None = Unit {0}
Tied rings w (Some n) (Some spot) = BusyAt rings spot.ring spot.pos w spot.serial n
Tied rings w _ _ = ⊥

-- a running worker can take its next step; each record in its memory is a busy record of its own, and no two are the
-- same
pub record Runs (rings : ℕ → WorldRing) (w : ℕ) (x : WorkerState) : Type 0 where
  pub can_step : CanStep x.subject x.state
  pub tied : (id : ℕ) → Tied rings w (size_of id x.state.memory.records) (x.held id)
  pub once : (id other r p j k : ℕ) → HoldsRecord x id r p j → HoldsRecord x other r p k → id ≡ other

-- a worker, by its status
abbrev pub IsIn : WorkerStatus → (ℕ → WorldRing) → ℕ → WorkerState → Type 0
IsIn Running rings w x = Runs rings w x
IsIn (Finished n) rings w x = (id : ℕ) → x.held id ≡ None
IsIn Halted rings w x = ⊥
IsIn Strayed rings w x = ⊥

abbrev pub IsSound : (ℕ → WorldRing) → ℕ → WorkerState → Type 0
IsSound rings w x = IsIn x.status rings w x

-- a running worker holds the record of a ring at a position
abbrev pub HasIt : WorkerState → (r p k : ℕ) → Type 0
HasIt x r p k = (x.status ≡ Running) × ((id : ℕ) × HoldsRecord x id r p k)

-- the invariant of a world between turns
pub record IsKept (handed : ℕ → Handed) (world : World) : Type 0 where
  pub workers : (w : ℕ) → w < world.worker_count → IsSound world.rings w (world.workers w)
  pub covered : (r p w k n : ℕ) → BusyAt world.rings r p w k n → (w < world.worker_count) × HasIt (world.workers w) r p k
  pub rings : (r : ℕ) → Keeps world.worker_count (ledger (handed r) (world.rings r))

-- ---- the size and the place of a record

-- what is tied to a place is there
pub tied-there : (rings : ℕ → WorldRing) (w : ℕ) (size : Option ℕ) (held : Option RecordPlace) (spot : RecordPlace) → Tied rings w size held → held ≡ Some spot → (n : ℕ) × ((size ≡ Some n) × BusyAt rings spot.ring spot.pos w spot.serial n)
tied-there rings w None None spot t e = absurd (cc)
tied-there rings w None (Some other) spot t e = absurd t
tied-there rings w (Some n) None spot t e = absurd t
tied-there rings w (Some n) (Some other) spot t e = let same : other ≡ spot = cc in (n, (refl, subst (λ (x : RecordPlace). BusyAt rings x.ring x.pos w x.serial n) same t))

pub tied-size : (rings : ℕ → WorldRing) (w : ℕ) (size : Option ℕ) (held : Option RecordPlace) (n : ℕ) → Tied rings w size held → size ≡ Some n → (spot : RecordPlace) × ((held ≡ Some spot) × BusyAt rings spot.ring spot.pos w spot.serial n)
tied-size rings w None None n t e = absurd (cc)
tied-size rings w None (Some spot) n t e = absurd t
tied-size rings w (Some m) None n t e = absurd t
tied-size rings w (Some m) (Some spot) n t e = let same : m ≡ n = cc in (spot, (refl, subst (λ x. BusyAt rings spot.ring spot.pos w spot.serial x) same t))

pub tied-none : (rings : ℕ → WorldRing) (w : ℕ) (size : Option ℕ) (held : Option RecordPlace) → Tied rings w size held → size ≡ None → held ≡ None
tied-none rings w None None t e = refl
tied-none rings w None (Some spot) t e = absurd t
tied-none rings w (Some n) held t e = absurd (cc)

-- it stays tied if the worker's records at that place stay busy
pub tied-stays : (old new : ℕ → WorldRing) (w : ℕ) (size : Option ℕ) (held : Option RecordPlace) → ((spot : RecordPlace) (n : ℕ) → held ≡ Some spot → BusyAt old spot.ring spot.pos w spot.serial n → BusyAt new spot.ring spot.pos w spot.serial n)
    → Tied old w size held → Tied new w size held
tied-stays old new w None None stays t = tt
tied-stays old new w None (Some spot) stays t = absurd t
tied-stays old new w (Some n) None stays t = absurd t
tied-stays old new w (Some n) (Some spot) stays t = stays spot n refl t

-- ---- one worker and one ring change

-- the effect of a ring's change on a worker's busy records
pub record StayOf (old new : WorldRing) (v : ℕ) : Type 0 where
  pub stay : (p k n : ℕ) → IsBusy old.ring.history p v k n → IsBusy new.ring.history p v k n
  pub back : (p k n : ℕ) → IsBusy new.ring.history p v k n → IsBusy old.ring.history p v k n

module _ (rings : ℕ → WorldRing) (r : ℕ) (b : WorldRing) where
  -- busy records before the change are busy after it
  pub placed-stay : (v : ℕ) → ((p k n : ℕ) → IsBusy (rings r).ring.history p v k n → IsBusy b.ring.history p v k n) → (s p k n : ℕ) → BusyAt rings s p v k n → BusyAt (table_with r b rings) s p v k n
  placed-stay v stay s p k n h = elim (eq_cases s r) [
    | inl same ↦ subst (λ (x : WorldRing). IsBusy x.ring.history p v k n) (sym (placed-here r b rings s same.1)) (stay p k n (subst (λ x. BusyAt rings x p v k n) same.1 h))
    | inr else ↦ subst (λ (x : WorldRing). IsBusy x.ring.history p v k n) (sym (placed-else r b rings s else.1)) h
  ]

  -- a record that is busy after the change, by whether its ring is the one that changed
  pub placed-back : (s p v k n : ℕ) → BusyAt (table_with r b rings) s p v k n → ((s ≡ r) × IsBusy b.ring.history p v k n) ⊎ ((s ≢ r) × BusyAt rings s p v k n)
  placed-back s p v k n h = elim (eq_cases s r) [
    | inl same ↦ inl (same.1, subst (λ (x : WorldRing). IsBusy x.ring.history p v k n) (placed-here r b rings s same.1) h)
    | inr else ↦ inr (else.1, subst (λ (x : WorldRing). IsBusy x.ring.history p v k n) (placed-else r b rings s else.1) h)
  ]

  pub placed-there : (p v k n : ℕ) → IsBusy b.ring.history p v k n → BusyAt (table_with r b rings) r p v k n
  placed-there p v k n h = subst (λ (x : WorldRing). IsBusy x.ring.history p v k n) (sym (placed-here r b rings r refl)) h

  -- a worker whose busy records stay busy keeps its invariant
  pub sound-stays : (v : ℕ) (x : WorkerState) (status : WorkerStatus) → ((p k n : ℕ) → IsBusy (rings r).ring.history p v k n → IsBusy b.ring.history p v k n) → IsIn status rings v x → IsIn status (table_with r b rings) v x
  sound-stays v x Running stay h = record {
    can_step = h.can_step;
    tied = λ id. tied-stays rings (table_with r b rings) v (size_of id x.state.memory.records) (x.held id) (λ spot n e. placed-stay v stay spot.ring spot.pos spot.serial n) (h.tied id);
    once = h.once;
  }
  sound-stays v x (Finished n) stay h = h
  sound-stays v x Halted stay h = h
  sound-stays v x Strayed stay h = h

-- the world keeps its invariant if the changed ring and worker satisfy theirs, and if the other workers' busy records
-- stay busy
pub kept-changed : (handed : ℕ → Handed) (world : World) (w : ℕ) (y : WorkerState) (r : ℕ) (b : WorldRing) (g : Handed) → IsKept handed world → Keeps world.worker_count (ledger g b)
    → ((v : ℕ) → v ≢ w → StayOf (world.rings r) b v) → (w < world.worker_count → IsSound (table_with r b world.rings) w y)
    → ((s p k n : ℕ) → BusyAt (table_with r b world.rings) s p w k n → (w < world.worker_count) × HasIt y s p k)
    → IsKept (table_with r g handed) (with_ring r b (with_worker w y world))
kept-changed handed world w y r b g a book others sound covers = record {
  workers = λ v inside. elim (eq_cases v w) [
    | inl same ↦ subst (λ (x : WorkerState). IsSound (table_with r b world.rings) v x) (sym (placed-here w y world.workers v same.1)) (subst (λ i. IsSound (table_with r b world.rings) i y) (sym same.1) (sound (subst (λ i. i < world.worker_count) same.1 inside)))
    | inr else ↦ subst (λ (x : WorkerState). IsSound (table_with r b world.rings) v x) (sym (placed-else w y world.workers v else.1))
        (sound-stays world.rings r b v (world.workers v) (world.workers v).status (others v else.1).stay (a.workers v inside))
  ];
  covered = λ s p v k n h. elim (eq_cases v w) [
    | inl same ↦
        let c = covers s p k n (subst (λ i. BusyAt (table_with r b world.rings) s p i k n) same.1 h) in
        (subst (λ i. i < world.worker_count) (sym same.1) c.0, subst (λ (x : WorkerState). HasIt x s p k) (sym (placed-here w y world.workers v same.1)) c.1)
    | inr else ↦
        let was : BusyAt world.rings s p v k n = elim (placed-back world.rings r b s p v k n h) [
          | inl here ↦ subst (λ x. BusyAt world.rings x p v k n) (sym here.0) ((others v else.1).back p k n here.1)
          | inr there ↦ there.1
        ] in
        let c = a.covered s p v k n was in
        (c.0, subst (λ (x : WorkerState). HasIt x s p k) (sym (placed-else w y world.workers v else.1)) c.1)
  ];
  rings = λ s. elim (eq_cases s r) [
    | inl same ↦ subst (λ x. Keeps world.worker_count (ledger x (table_with r b world.rings s))) (sym (placed-here r g handed s same.1)) (subst (λ x. Keeps world.worker_count (ledger g x)) (sym (placed-here r b world.rings s same.1)) book)
    | inr else ↦ subst (λ x. Keeps world.worker_count (ledger x (table_with r b world.rings s))) (sym (placed-else r g handed s else.1)) (subst (λ x. Keeps world.worker_count (ledger (handed s) x)) (sym (placed-else r b world.rings s else.1)) (a.rings s))
  ];
}

-- ---- no change

pub placed-same : {X : Type 0} (i : ℕ) (f : ℕ → X) → table_with i (f i) f ≡ f
placed-same i f = λ k j. same j k
  where
    same : (j : ℕ) → table_with i (f i) f j ≡ f j
    same j = elim (eq_cases j i) [ inl h ↦ placed-here i (f i) f j h.1 ∙ ap f (sym h.1) | inr h ↦ placed-else i (f i) f j h.1 ]

pub same-book : (r : ℕ) (world : World) → with_ring r (world.rings r) world ≡ world
same-book r world = ap (λ rings. record world { rings = rings }) (placed-same r world.rings)

pub same-worker : (w : ℕ) (world : World) → with_worker w (world.workers w) world ≡ world
same-worker w world = ap (λ workers. record world { workers = workers }) (placed-same w world.workers)
