-- The state of a world that was just opened.
use Rattle.std.proofs.Common.{◌≡◌, ℕ, ◌+◌, ◌<◌, ◌≤◌, List, [], ◌∷◌, ◌++◌, None, Some, map, length, get_or, refl, sym, ap, subst, ◌∙◌, arith}
use Rattle.std.specs.Prelude.{All}
use Rattle.std.specs.List.{AllZip}
use Rattle.std.proofs.lemmas.List.Elements.{All-head, All-tail}
use Rattle.rb_interp.specs.MachineState.{MachineState}
use Rattle.rb_interp.specs.StoredMemory.{held_record}
use Rattle.rb_world.specs.OpeningWorld.{BeginsVerified, IsFreshRing, IsOpeningWorld}
use Rattle.rb_world.proofs.WholeRuns.{opening-reached}
use Rattle.rb_world.specs.declared.world_setup.RingSetup.{RingSetup}
use Rattle.rb_world.specs.declared.world_setup.WorkerSetup.{WorkerSetup}
use Rattle.rb_chapter_ring.specs.declared.ring_record.RingRecord.{RingRecord}
use Rattle.rb_world.specs.WorldValue.{world_ring, WorldValue, whole_world, worker_of, no_worker, no_ring, no_kept_ring, world_of}
use Rattle.rb_world.specs.OpenedWorlds.{HaveRings, opened_kept_ring, opened_rings, IsStarted, IsOpenedWorld}
use Rattle.rb_world.specs.inner.FittingWorlds.{AreFor, setups_of, IsSoundWorld}
use Rattle.rb_world.specs.inner.HeldInHands.{Mark, AllHeld, IsHeldWorld, IsOutIn, books_of}
use Rattle.rb_world.proofs.ListSteps.{zip-long}
use Rattle.rb_world.proofs.WholeLists.{map-length}

begins-at : (xs : List WorkerSetup) (ms : List (MachineState RingRecord)) (w : ℕ) → AllZip IsStarted xs ms → w < length ms → BeginsVerified (get_or (map worker_of ms) w no_worker)
begins-at [] [] w h low = absurd (omega arith)
begins-at [] (m ∷ ms) w h low = absurd h
begins-at (x ∷ xs) [] w h low = absurd h
begins-at (x ∷ xs) (m ∷ ms) ℕ.zero h low = h.0.begins
begins-at (x ∷ xs) (m ∷ ms) (ℕ.suc w) h low = begins-at xs ms w h.1 (omega arith)

fresh-at : (n k : ℕ) (rings : List RingSetup) (r : ℕ) → IsFreshRing n (get_or (map world_ring (opened_rings n k rings)) r (no_ring n))
fresh-at n k [] r = record { size = 4096; start = 0; ring_is = refl; taken_none = refl }
fresh-at n k (s ∷ rings) ℕ.zero = record { size = s.size; start = s.start; ring_is = refl; taken_none = refl }
fresh-at n k (s ∷ rings) (ℕ.suc r) = fresh-at n (k + 1) rings r

for-all : (n k : ℕ) (rings : List RingSetup) → AreFor n (setups_of (map world_ring (opened_rings n k rings)))
for-all n k [] = tt
for-all n k (s ∷ rings) = (refl, for-all n (k + 1) rings)

pub length-opened : (n k : ℕ) (rings : List RingSetup) → length (opened_rings n k rings) ≡ length rings
length-opened n k [] = refl
length-opened n k (s ∷ rings) = ap ℕ.suc (length-opened n (k + 1) rings)

-- one more ring is opened, with the next number
pub opened-push : (n k : ℕ) (xs : List RingSetup) (s : RingSetup) → opened_rings n k (xs ++ s ∷ []) ≡ opened_rings n k xs ++ opened_kept_ring n (k + length xs) s ∷ []
opened-push n k [] s = let same : k ≡ k + 0 = omega arith in ap (λ m. opened_kept_ring n m s ∷ []) same
opened-push n k (x ∷ xs) s =
    let next : k + 1 + length xs ≡ k + ℕ.suc (length xs) = omega arith in
    ap (λ l. opened_kept_ring n k x ∷ l) (opened-push n (k + 1) xs s ∙ ap (λ m. opened_rings n (k + 1) xs ++ opened_kept_ring n m s ∷ []) next)

tagged-at : (n k : ℕ) (rings : List RingSetup) (r : ℕ) → r < length (opened_rings n k rings) → (get_or (opened_rings n k rings) r no_kept_ring).ring.tag ≡ k + r
tagged-at n k [] r low = absurd (omega arith)
tagged-at n k (s ∷ rings) ℕ.zero low = omega arith
tagged-at n k (s ∷ rings) (ℕ.suc r) low = tagged-at n (k + 1) rings r (omega arith) ∙ omega arith

-- the state of a machine that was just started, at any index
started-at : (xs : List WorkerSetup) (ms : List (MachineState RingRecord)) (n w : ℕ) (m : MachineState RingRecord) → AllZip IsStarted xs ms → All (λ x. x.program.now.rings ≤ n) xs → w < length ms → m ≡ get_or ms w m → (m.program.rings ≤ n) × (m.records ≡ [])
started-at [] [] n w m h all low is = absurd (omega arith)
started-at [] (y ∷ ms) n w m h all low is = absurd h
started-at (x ∷ xs) [] n w m h all low is = absurd h
started-at (x ∷ xs) (y ∷ ms) n ℕ.zero m h all low is =
    subst (λ (z : MachineState RingRecord). (z.program.rings ≤ n) × (z.records ≡ [])) (sym is)
    (subst (λ p. p.rings ≤ n) (sym h.0.program) (All-head (λ (z : WorkerSetup). z.program.now.rings ≤ n) x xs all), h.0.records)
started-at (x ∷ xs) (y ∷ ms) n (ℕ.suc w) m h all low is = started-at xs ms n w m h.1 (All-tail (λ (z : WorkerSetup). z.program.now.rings ≤ n) x xs all) (omega arith) is

none-held : (P : Mark → Type 0) (records : List (ℕ × RingRecord)) → records ≡ [] → AllHeld P records
none-held P records e = λ id x held. absurd (none id x (subst (λ rs. held_record id rs ≡ Some x) e held))
  where
    none : (id : ℕ) (x : RingRecord) → None ≡ Some x → ⊥
    none id x e = cc

module _ (rings : List RingSetup) (workers : List WorkerSetup) (v : WorldValue) (o : IsOpenedWorld rings workers v) where
  long : length workers ≡ length v.machines
  long = zip-long IsStarted workers v.machines o.machines_are

  rings-are : v.rings ≡ opened_rings (length v.machines) 0 rings
  rings-are = o.rings_are ∙ ap (λ n. opened_rings n 0 rings) long

  pub opening-world : IsOpeningWorld (world_of v)
  opening-world = record {
    workers = λ w inside. begins-at workers v.machines w o.machines_are inside;
    rings = λ r. subst (λ l. IsFreshRing (length v.machines) (get_or (map world_ring l) r (no_ring (length v.machines)))) (sym rings-are) (fresh-at (length v.machines) 0 rings r);
  }

  sound-opening : HaveRings (length rings) workers → IsSoundWorld (whole_world v)
  sound-opening have =
      let as_many : length (map world_ring v.rings) ≡ length rings = map-length world_ring v.rings ∙ (ap length rings-are ∙ length-opened (length v.machines) 0 rings) in
      record {
        fitting = record {
          rings = subst (λ l. AreFor (length v.machines) (setups_of (map world_ring l))) (sym rings-are) (for-all (length v.machines) 0 rings);
          programs = λ w m low is. subst (λ n. m.program.rings ≤ n) (sym as_many) (started-at workers v.machines (length rings) w m o.machines_are have.1 low is).0;
          own = λ w m low is. none-held (λ q. (q.ring < length (map world_ring v.rings)) × (q.worker ≡ w)) m.records (started-at workers v.machines (length rings) w m o.machines_are have.1 low is).1;
        };
        reached = opening-reached (world_of v) opening-world;
      }

  pub held-opening : HaveRings (length rings) workers → IsHeldWorld v
  held-opening have = record {
    sound = sound-opening have;
    in_hand = λ w m low is. none-held (IsOutIn (books_of v.rings)) m.records (started-at workers v.machines (length rings) w m o.machines_are have.1 low is).1;
    tagged = λ r low. ap (λ l. (get_or l r no_kept_ring).ring.tag) rings-are ∙ tagged-at (length v.machines) 0 rings r (subst (λ l. r < length l) rings-are low) ∙ omega arith;
  }
