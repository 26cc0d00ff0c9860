-- Every worker's turn preserves the invariant of worlds.
use Rattle.std.proofs.Common.{◌≡◌, ◌≢◌, ℕ, ◌+◌, ◌<◌, ◌≤◌, cond, List, [], ◌∷◌, ◌++◌, Option, Some, None, length, replicate, refl, sym, ap, subst, ◌∙◌, ◌⊎◌, inl, inr, arith}
use Rattle.std.specs.Prelude.{option_map}
use Rattle.std.proofs.lemmas.List.{length-replicate}
use Rattle.rb_verifier.specs.Subject.{Subject}
use Rattle.rb_semantics.specs.ProgramMemory.{record_named, without_record}
use Rattle.rb_semantics.specs.ProgramStates.{State}
use Rattle.rb_semantics.specs.HelperCalls.{Reserve}
use Rattle.rb_semantics.specs.Instructions.{Ends, next_step}
use Rattle.rb_semantics.specs.Soundness.{CanStep, CallsOut}
use Rattle.rb_semantics.proofs.Laws.{step_ends, new_record, named_push_other, named_push_new, named_without}
use Rattle.rb_history.specs.Calls.{IsBusy}
use Rattle.rb_world.specs.Worlds.{RecordPlace, Running, Finished, WorkerState, WorldRing, World, table_with, with_worker, with_ring}
use Rattle.rb_world.specs.declared.actor.Actor.{Actor}
use Rattle.rb_world.specs.declared.actor.Actor.TheVariants.{Worker}
use Rattle.rb_world.specs.EveryInterleaving.{is_turn_of, HoldsRecord}
use Rattle.rb_world.proofs.Tables.{eq_cases, placed-here, placed-else, size_of, none-without}
use Rattle.rb_world.proofs.RecordSizes.{SameSizes}
use Rattle.rb_world.proofs.BusyRecords.{SameBusy, OneMore, OneLess, one-record}
use Rattle.rb_world.proofs.RingSteps.{Handed, ledger, Keeps}
use Rattle.rb_world.proofs.KeptWorlds.{BusyAt, Tied, Runs, IsIn, HasIt, IsKept, tied-there, tied-size, tied-none, tied-stays, StayOf, placed-stay, placed-back, placed-there, kept-changed}

-- a worker that runs after a turn ran before it, and advanced if the turn was its own
abbrev pub Advances : ℕ → WorkerState → WorkerState → Type 0
Advances gain x y = y.status ≡ Running → (x.status ≡ Running) × (x.state.unit + gain ≤ y.state.unit)

pub record AfterTurn (actor : Actor) (old : World) (handed : ℕ → Handed) (new : World) : Type 0 where
  pub kept : IsKept handed new
  pub count : new.worker_count ≡ old.worker_count
  pub advances : (v : ℕ) → Advances (cond {A = ℕ} (is_turn_of v actor) 1 0) (old.workers v) (new.workers v)

pub stays : (x : WorkerState) → Advances 0 x x
stays x h = (h, omega arith)

after-work : (handed : ℕ → Handed) (old : World) (w : ℕ) (y : WorkerState) (r : ℕ) (b : WorldRing) → IsKept handed (with_ring r b (with_worker w y old)) → Advances 1 (old.workers w) y → AfterTurn (Worker w) old handed (with_ring r b (with_worker w y old))
after-work handed old w y r b kept on = record {
  kept = kept;
  count = refl;
  advances = λ v. elim (eq_cases w v) [
    | inl same ↦ subst (λ (z : WorkerState). Advances (cond {A = ℕ} (is_turn_of v (Worker w)) 1 0) (old.workers v) z) (sym (placed-here w y old.workers v (sym same.1)))
        (rw same.0 (subst (λ i. Advances 1 (old.workers i) y) same.1 on))
    | inr else ↦ subst (λ (z : WorkerState). Advances (cond {A = ℕ} (is_turn_of v (Worker w)) 1 0) (old.workers v) z) (sym (placed-else w y old.workers v (λ e. else.1 (sym e))))
        (rw else.0 (stays (old.workers v)))
  ];
}

pub stay-of : (old new : WorldRing) → SameBusy old.ring.history new.ring.history → (v : ℕ) → StayOf old new v
stay-of old new s v = record { stay = λ p k n. s.stay p v k n; back = λ p k n. s.back p v k n }

pub same-keeps : (workers : ℕ) (handed : Handed) (old new : WorldRing) → new ≡ old → Keeps workers (ledger handed old) → Keeps workers (ledger handed new) × SameBusy old.ring.history new.ring.history
same-keeps workers handed old new e a = (subst (λ b. Keeps workers (ledger handed b)) (sym e) a, subst (λ (b : WorldRing). SameBusy old.ring.history b.ring.history) (sym e) (record { stay = λ q w k n b. b; back = λ q w k n b. b }))

tied-as : (rings : ℕ → WorldRing) (w : ℕ) (size other : Option ℕ) (held there : Option RecordPlace) → size ≡ other → held ≡ there → Tied rings w other there → Tied rings w size held
tied-as rings w size other held there e f t = subst (λ h. Tied rings w size h) (sym f) (subst (λ n. Tied rings w n there) (sym e) t)

held-is : (x : WorkerState) (id r p k : ℕ) (spot : RecordPlace) → x.held id ≡ Some spot → HoldsRecord x id r p k → (r ≡ spot.ring) × (p ≡ spot.pos) × (k ≡ spot.serial)
held-is x id r p k spot e h =
    let both : Some (record { ring = r; pos = p; serial = k }) ≡ Some spot = sym h.held ∙ e in
    let same : record { ring = r; pos = p; serial = k } ≡ spot = spot_is _ _ both in
    (ap (λ (s : RecordPlace). s.ring) same, ap (λ (s : RecordPlace). s.pos) same, ap (λ (s : RecordPlace). s.serial) same)
  where
    spot_is : (a c : RecordPlace) → Some a ≡ Some c → a ≡ c
    spot_is a c f = cc

pub unheld : (held : Option RecordPlace) (spot : RecordPlace) → held ≡ None → held ≡ Some spot → ⊥
unheld held spot e f = let clash : None ≡ Some spot = sym e ∙ f in cc

-- ---- one running worker

module _ (handed : ℕ → Handed) (old : World) (kept : IsKept handed old) (w : ℕ) (inside : w < old.worker_count) (runs : (old.workers w).status ≡ Running) where
  abbrev x : WorkerState
  x = old.workers w

  abbrev s : State
  s = (old.workers w).state

  abbrev program : Subject
  program = (old.workers w).subject

  running : Runs old.rings w (old.workers w)
  running = subst (λ status. IsIn status old.rings w (old.workers w)) runs (kept.workers w inside)

  pub can : CanStep (old.workers w).subject (old.workers w).state
  can = running.can_step

  -- it continues and holds the same records, and no record of its ring changes
  pub goes-same : (t : State) (r : ℕ) (b : WorldRing) (g : Handed) → Keeps old.worker_count (ledger g b) → SameBusy (old.rings r).ring.history b.ring.history → CanStep program t → SameSizes s t → s.unit + 1 ≤ t.unit
      → AfterTurn (Worker w) old (table_with r g handed) (with_ring r b (with_worker w (record (old.workers w) { state = t }) old))
  goes-same t r b g book same next sizes on =
      let y : WorkerState = record (old.workers w) { state = t } in
      let stay = stay-of (old.rings r) b same w in
      after-work (table_with r g handed) old w y r b
      (kept-changed handed old w y r b g kept book (λ v ne. stay-of (old.rings r) b same v)
      (λ _. subst (λ status. IsIn status (table_with r b old.rings) w y) (sym runs) (record {
        can_step = next;
        tied = λ id. tied-as (table_with r b old.rings) w _ (size_of id s.memory.records) _ (x.held id) (sizes id) refl
            (tied-stays old.rings (table_with r b old.rings) w (size_of id s.memory.records) (x.held id) (λ spot n e. placed-stay old.rings r b w stay.stay spot.ring spot.pos spot.serial n) (running.tied id));
        once = λ id other q p j k h i. running.once id other q p j k (record { held = h.held }) (record { held = i.held });
      }))
      (λ q p k n h.
      let was : BusyAt old.rings q p w k n = elim (placed-back old.rings r b q p w k n h) [ inl here ↦ subst (λ i. BusyAt old.rings i p w k n) (sym here.0) (stay.back p k n here.1) | inr there ↦ there.1 ] in
      let c = kept.covered q p w k n was in
      (c.0, (c.1.0, (c.1.1.0, record { held = c.1.1.1.held })))))
      (λ _. (runs, on))

  -- ---- the end of the program

  pub ends : (n : ℕ) → next_step program.program s ≡ Ends n → AfterTurn (Worker w) old (table_with 0 (handed 0) handed) (with_ring 0 (old.rings 0) (with_worker w (record (old.workers w) { status = Finished n }) old))
  ends n e =
      let y : WorkerState = record (old.workers w) { status = Finished n } in
      let empty : s.memory.records ≡ [] = step_ends program s n can e in
      let none : (id : ℕ) → x.held id ≡ None = λ id. tied-none old.rings w (size_of id s.memory.records) (x.held id) (running.tied id) (ap (size_of id) empty) in
      let b = old.rings 0 in
      let same = same-keeps old.worker_count (handed 0) b b refl (kept.rings 0) in
      after-work (table_with 0 (handed 0) handed) old w y 0 b
      (kept-changed handed old w y 0 b (handed 0) kept same.0 (λ v ne. stay-of b b same.1 v) (λ _. none)
      (λ q p k m h.
      let was : BusyAt old.rings q p w k m = elim (placed-back old.rings 0 b q p w k m h) [ inl here ↦ subst (λ i. BusyAt old.rings i p w k m) (sym here.0) here.1 | inr there ↦ there.1 ] in
      let c = kept.covered q p w k m was in
      absurd (unheld (x.held c.1.1.0) _ (none c.1.1.0) c.1.1.1.held)))
      (λ running_on. absurd (cc))

  -- ---- a record is granted

  module _ (call_id r len flags : ℕ) (t : State) (out : CallsOut program s (Reserve call_id r len flags) t) (leaves : t.memory.records ≡ s.memory.records) where
    none-named : record_named t.unit t.memory.records ≡ None
    none-named = new_record program len t out.next

    none-held : x.held t.unit ≡ None
    none-held = tied-none old.rings w (size_of t.unit s.memory.records) (x.held t.unit) (running.tied t.unit) (ap (size_of t.unit) (sym leaves) ∙ ap (option_map length) none-named)

    forward : s.unit + 1 ≤ t.unit + 1
    forward = let here : t.unit ≡ s.unit = out.here in omega arith

    pub grants : (p k : ℕ) (b : WorldRing) (g : Handed) (next : State) → CanStep program next → next.memory.records ≡ t.memory.records ++ (t.unit, replicate len 0) ∷ [] → next.unit ≡ t.unit + 1 → Keeps old.worker_count (ledger g b) → OneMore (old.rings r).ring.history b.ring.history p w k len
        → AfterTurn (Worker w) old (table_with r g handed) (with_ring r b (with_worker w (record (old.workers w) { held = table_with t.unit (Some (record { ring = r; pos = p; serial = k })) (old.workers w).held; state = next }) old))
    grants p k b g next step records unit book more =
        let spot : RecordPlace = record { ring = r; pos = p; serial = k } in
        let y : WorkerState = record (old.workers w) { held = table_with t.unit (Some spot) (old.workers w).held; state = next } in
        after-work (table_with r g handed) old w y r b
        (kept-changed handed old w y r b g kept book
        (λ v ne. record {
          stay = λ q j n h. more.stay q v j n h;
          back = λ q j n h. elim (more.back q v j n h) [ inl was ↦ was | inr is ↦ absurd (ne is.1) ];
        })
        (λ _. subst (λ status. IsIn status (table_with r b old.rings) w y) (sym runs) (record { can_step = step; tied = tied y spot refl; once = once y spot refl }))
        (covers y spot refl runs))
        (λ _. (runs, (let f = forward in let u = unit in omega arith)))
      where
        new-size : size_of t.unit next.memory.records ≡ Some len
        new-size = ap (size_of t.unit) records ∙ ap (option_map length) (named_push_new t.unit (replicate len 0) t.memory.records none-named) ∙ ap (λ n. Some n) (length-replicate {A = ℕ} len 0)

        old-size : (id : ℕ) → id ≢ t.unit → size_of id next.memory.records ≡ size_of id s.memory.records
        old-size id ne = ap (size_of id) records ∙ ap (option_map length) (named_push_other id t.unit (replicate len 0) t.memory.records ne) ∙ ap (size_of id) leaves

        tied : (y : WorkerState) (spot : RecordPlace) → y ≡ record (old.workers w) { held = table_with t.unit (Some spot) (old.workers w).held; state = next } → (id : ℕ) → Tied (table_with r b old.rings) w (size_of id next.memory.records) (table_with t.unit (Some (record { ring = r; pos = p; serial = k })) (old.workers w).held id)
        tied y spot e id = elim (eq_cases id t.unit) [
          | inl same ↦ tied-as (table_with r b old.rings) w _ (Some len) _ (Some (record { ring = r; pos = p; serial = k })) (ap (λ i. size_of i next.memory.records) same.1 ∙ new-size) (placed-here t.unit _ (old.workers w).held id same.1)
              (placed-there old.rings r b p w k len more.new)
          | inr else ↦ tied-as (table_with r b old.rings) w _ (size_of id s.memory.records) _ (x.held id) (old-size id else.1) (placed-else t.unit _ (old.workers w).held id else.1)
              (tied-stays old.rings (table_with r b old.rings) w (size_of id s.memory.records) (x.held id) (λ other n f. placed-stay old.rings r b w (λ q j m. more.stay q w j m) other.ring other.pos other.serial n) (running.tied id))
        ]

        -- a record that it now holds is the new one, or was held before
        now : (y : WorkerState) (id q z j : ℕ) → ((i : ℕ) → y.held i ≡ table_with t.unit (Some (record { ring = r; pos = p; serial = k })) (old.workers w).held i) → HoldsRecord y id q z j → ((id ≡ t.unit) × (q ≡ r) × (z ≡ p)) ⊎ ((id ≢ t.unit) × HoldsRecord (old.workers w) id q z j)
        now y id q z j is h = elim (eq_cases id t.unit) [
          | inl same ↦ (let here = held-is y id q z j (record { ring = r; pos = p; serial = k }) (is id ∙ placed-here t.unit _ (old.workers w).held id same.1) h in inl (same.1, here.0, here.1))
          | inr else ↦ inr (else.1, record { held = sym (is id ∙ placed-else t.unit _ (old.workers w).held id else.1) ∙ h.held })
        ]

        -- a record held before is not the new one
        apart : (id q z j : ℕ) → HoldsRecord (old.workers w) id q z j → q ≡ r → z ≡ p → ⊥
        apart id q z j h e f =
            let there = tied-there old.rings w (size_of id s.memory.records) (x.held id) (record { ring = q; pos = z; serial = j }) (running.tied id) h.held in
            more.fresh w j there.0 (subst (λ i. BusyAt old.rings r i w j there.0) f (subst (λ i. BusyAt old.rings i z w j there.0) e there.1.1))

        once : (y : WorkerState) (spot : RecordPlace) → y ≡ record (old.workers w) { held = table_with t.unit (Some (record { ring = r; pos = p; serial = k })) (old.workers w).held; state = next } → (id other q z j i : ℕ) → HoldsRecord y id q z j → HoldsRecord y other q z i → id ≡ other
        once y spot e id other q z j i h g =
            let is : (n : ℕ) → y.held n ≡ table_with t.unit (Some (record { ring = r; pos = p; serial = k })) (old.workers w).held n = λ n. ap (λ (a : WorkerState). a.held n) e in
            elim (now y id q z j is h) [
              | inl new ↦ elim (now y other q z i is g) [
                | inl too ↦ new.0 ∙ sym too.0
                | inr was ↦ absurd (apart other q z i was.1 new.1 new.2)
              ]
              | inr was ↦ elim (now y other q z i is g) [
                | inl new ↦ absurd (apart id q z j was.1 new.1 new.2)
                | inr too ↦ running.once id other q z j i was.1 too.1
              ]
            ]

        covers : (y : WorkerState) (spot : RecordPlace) → y ≡ record (old.workers w) { held = table_with t.unit (Some (record { ring = r; pos = p; serial = k })) (old.workers w).held; state = next } → y.status ≡ Running
            → (q z j n : ℕ) → BusyAt (table_with r b old.rings) q z w j n → (w < old.worker_count) × HasIt y q z j
        covers y spot e status q z j n h = elim (placed-back old.rings r b q z w j n h) [
          | inl here ↦ elim (more.back z w j n here.1) [
            | inl was ↦ before (kept.covered q z w j n (subst (λ i. BusyAt old.rings i z w j n) (sym here.0) was))
            | inr new ↦ (inside, (status, (t.unit, record { held = is t.unit ∙ placed-here t.unit _ (old.workers w).held t.unit refl ∙ rw (here.0, new.0, new.2) refl })))
          ]
          | inr there ↦ before (kept.covered q z w j n there.1)
        ]
          where
            is : (i : ℕ) → y.held i ≡ table_with t.unit (Some (record { ring = r; pos = p; serial = k })) (old.workers w).held i
            is i = ap (λ (a : WorkerState). a.held i) e

            before : (w < old.worker_count) × HasIt (old.workers w) q z j → (w < old.worker_count) × HasIt y q z j
            before c =
                let id = c.1.1.0 in
                let ne : id ≢ t.unit = λ f. unheld (x.held id) (record { ring = q; pos = z; serial = j }) (ap x.held f ∙ none-held) c.1.1.1.held in
                (c.0, (status, (id, record { held = is id ∙ placed-else t.unit _ (old.workers w).held id ne ∙ c.1.1.1.held })))

  -- ---- a record is submitted or discarded

  module _ (id : ℕ) (bytes : List ℕ) (t : State) (here : t.unit ≡ s.unit) (leaves : (record_named id s.memory.records ≡ Some bytes) × (t.memory.records ≡ without_record id s.memory.records)) where
    -- the record is held, and busy
    pub is-held : (spot : RecordPlace) × ((x.held id ≡ Some spot) × BusyAt old.rings spot.ring spot.pos w spot.serial (length bytes))
    is-held = tied-size old.rings w (size_of id s.memory.records) (x.held id) (length bytes) (running.tied id) (ap (option_map length) leaves.0)

    pub gives : (spot : RecordPlace) (b : WorldRing) (g : Handed) (next : State) → x.held id ≡ Some spot → CanStep program next → next.memory.records ≡ t.memory.records → next.unit ≡ t.unit + 1 → Keeps old.worker_count (ledger g b) → OneLess (old.rings spot.ring).ring.history b.ring.history spot.pos
        → AfterTurn (Worker w) old (table_with spot.ring g handed) (with_ring spot.ring b (with_worker w (record (old.workers w) { held = table_with id None (old.workers w).held; state = next }) old))
    gives spot b g next held step records unit book less =
        let y : WorkerState = record (old.workers w) { held = table_with id None (old.workers w).held; state = next } in
        after-work (table_with spot.ring g handed) old w y spot.ring b
        (kept-changed handed old w y spot.ring b g kept book
        (λ v ne. record {
          stay = λ q j n h. less.stay q v j n (λ e. ne (others v j n (subst (λ i. BusyAt old.rings spot.ring i v j n) e h))) h;
          back = λ q j n h. (less.back q v j n h).1;
        })
        (λ _. subst (λ status. IsIn status (table_with spot.ring b old.rings) w y) (sym runs) (record { can_step = step; tied = tied; once = λ i j q z k l h g. running.once i j q z k l (was y (λ n. refl) i q z k h).1 (was y (λ n. refl) j q z l g).1 }))
        (λ q z j n h.
        let before : BusyAt old.rings q z w j n = elim (placed-back old.rings spot.ring b q z w j n h) [ inl at ↦ subst (λ i. BusyAt old.rings i z w j n) (sym at.0) (less.back z w j n at.1).1 | inr there ↦ there.1 ] in
        let c = kept.covered q z w j n before in
        let other = c.1.1.0 in
        let ne : other ≢ id = λ e. (let there = held-is x id q z j spot held (subst (λ i. HoldsRecord x i q z j) e c.1.1.1) in gone q z j n there.0 there.1 h) in
        (c.0, (runs, (other, record { held = placed-else id None (old.workers w).held other ne ∙ c.1.1.1.held })))))
        (λ _. (runs, (let u = unit in let e = here in omega arith)))
      where
        -- no other worker holds the record
        others : (v j n : ℕ) → BusyAt old.rings spot.ring spot.pos v j n → v ≡ w
        others v j n h =
            let own = tied-there old.rings w (size_of id s.memory.records) (x.held id) spot (running.tied id) held in
            (one-record (old.rings spot.ring).ring.setup (old.rings spot.ring).ring.history spot.pos v j n w spot.serial own.0 (kept.rings spot.ring).legal h own.1.1).0

        gone : (q z j n : ℕ) → q ≡ spot.ring → z ≡ spot.pos → BusyAt (table_with spot.ring b old.rings) q z w j n → ⊥
        gone q z j n e f h = elim (placed-back old.rings spot.ring b q z w j n h) [ inl at ↦ (less.back z w j n at.1).0 f | inr there ↦ there.0 e ]

        was : (y : WorkerState) → ((n : ℕ) → y.held n ≡ table_with id None (old.workers w).held n) → (i q z k : ℕ) → HoldsRecord y i q z k → (i ≢ id) × HoldsRecord (old.workers w) i q z k
        was y is i q z k h = elim (eq_cases i id) [
          | inl same ↦ absurd (unheld (y.held i) (record { ring = q; pos = z; serial = k }) (is i ∙ placed-here id None (old.workers w).held i same.1) h.held)
          | inr else ↦ (else.1, record { held = sym (is i ∙ placed-else id None (old.workers w).held i else.1) ∙ h.held })
        ]

        tied : (i : ℕ) → Tied (table_with spot.ring b old.rings) w (size_of i next.memory.records) (table_with id None (old.workers w).held i)
        tied i = elim (eq_cases i id) [
          | inl same ↦ tied-as (table_with spot.ring b old.rings) w _ None _ None
              (ap (size_of i) (records ∙ leaves.1) ∙ ap (λ n. size_of n (without_record id s.memory.records)) same.1 ∙ ap (option_map length) (none-without id s.memory.records)) (placed-here id None (old.workers w).held i same.1) tt
          | inr else ↦ tied-as (table_with spot.ring b old.rings) w _ (size_of i s.memory.records) _ (x.held i)
              (ap (size_of i) (records ∙ leaves.1) ∙ ap (option_map length) (named_without i id s.memory.records else.1)) (placed-else id None (old.workers w).held i else.1)
              (tied-stays old.rings (table_with spot.ring b old.rings) w (size_of i s.memory.records) (x.held i) (λ other n e h. elim (eq_cases other.ring spot.ring) [
                | inl ring ↦ subst (λ (a : WorldRing). IsBusy a.ring.history other.pos w other.serial n) (sym (placed-here spot.ring b old.rings other.ring ring.1))
                    (less.stay other.pos w other.serial n (λ f. else.1 (running.once i id other.ring other.pos other.serial spot.serial (record { held = e }) (record { held = held ∙ rw (sym ring.1, sym f) refl }))) (subst (λ q. BusyAt old.rings q other.pos w other.serial n) ring.1 h))
                | inr away ↦ subst (λ (a : WorldRing). IsBusy a.ring.history other.pos w other.serial n) (sym (placed-else spot.ring b old.rings other.ring away.1)) h
              ]) (running.tied i))
        ]
