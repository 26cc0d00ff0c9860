-- How each call preserves the invariant of a ring's ledger, and its effect on the busy records.
use Rattle.std.proofs.Common.{◌≡◌, ℕ, ◌+◌, ◌<◌, ◌≤◌, Bool, true, false, cond, ◌||◌, List, [], ◌∷◌, ◌++◌, Some, None, length, refl, sym, ap, subst, ◌∙◌, ◌⊎◌, inl, inr, arith, append_assoc, append-nil}
use Rattle.std.specs.List.{Contains, count_by, filter_map}
use Rattle.std.specs.Cmp.{nat_cmp_total}
use Rattle.std.specs.FinMap.{get, insert, remove, get-insert, get-remove}
use Rattle.std.proofs.lemmas.Bool.{cases_Bool, true≢false, eq-eqb, eqb-true, or_left, or_right}
use Rattle.std.proofs.lemmas.List.Sums.{sum_by-append, count_by-le-length}
use Rattle.std.proofs.lemmas.List.Elements.{Contains-append_left, Contains-append_right, Contains-append_cases, filter_map-append}
use Rattle.rb_verifier.proofs.Counting.{count_by-cons}
use Rattle.rb_history.specs.declared.entries.Entry.{Entry}
use Rattle.rb_history.specs.declared.entries.Entry.TheVariants.{Res, Full, Sub, Dis, Take}
use Rattle.rb_history.specs.declared.answers.Taken.{Taken}
use Rattle.rb_history.specs.declared.answers.Taken.TheVariants.{Event, Skipped, BusyFront, Empty}
use Rattle.rb_history.specs.History.{status_by, is_submit, is_submitted_at, is_discarded_at, is_granted_at, is_taken_at, grants}
use Rattle.rb_history.specs.History.Status.{Waiting, Discarded}
use Rattle.rb_history.specs.ReservationModel.{Granted}
use Rattle.rb_history.specs.RoomRule.{Setup}
use Rattle.rb_history.specs.Legal.{IsLegal}
use Rattle.rb_history.specs.RingModel.{Ring, Contents, StandsFor}
use Rattle.rb_history.specs.Calls as ring
use Rattle.rb_history.proofs.Lists.{list_any-snoc}
use Rattle.rb_history.proofs.Contents.{hit-yes, hit-no}
use Rattle.rb_history.proofs.Kept.{legal-push}
use Rattle.rb_history.proofs.Exact.{granted-from}
use Rattle.rb_world.specs.Worlds.{WorldRing}
use Rattle.rb_world.specs.CallsInWorld.{RingSteps}
use Rattle.rb_world.specs.Turns.{taken_by}
use Rattle.rb_world.specs.EveryInterleaving.{taken_position, is_handed_at, IsSubmittedBy}
use Rattle.rb_world.proofs.Tables.{eq_cases}
use Rattle.rb_world.proofs.TakenInOrder.{Row, row-full, row-res, row-sub, row-dis, row-take}
use Rattle.rb_world.proofs.BusyRecords.{busy-open, SameBusy, OneMore, OneLess, one-grant, same-full, same-take, same-output, more-res, less-sub, less-dis, not-settled}

abbrev pub Handed : Type 0
Handed = List (ℕ × ℕ × List ℕ)

-- a ring with what was taken from it, and with what was handed over to it
pub record Ledger : Type 0 where
  pub ring : Ring
  pub handed : Handed
  pub taken : List Taken

abbrev pub ledger : Handed → WorldRing → Ledger
ledger handed b = record { ring = b.ring; handed = handed; taken = b.taken }

-- a ring made a step, and these records were handed over and taken
pub record Moves (step : Ring → Ring → Type 0) (handed : Handed) (taken : List Taken) (old new : Ledger) : Type 0 where
  pub stepped : step old.ring new.ring
  pub stands : StandsFor new.ring
  pub handed_are : new.handed ≡ old.handed ++ handed
  pub taken_are : new.taken ≡ old.taken ++ taken

pub over : (P : Ring → Ring → Type 0) (handed more : Handed) (took : List Taken) (old new : WorldRing) → RingSteps P took old new → Moves P more took (ledger handed old) (ledger (handed ++ more) new)
over P handed more took old new m = record { stepped = m.stepped; stands = m.stands; handed_are = refl; taken_are = m.taken_are }

pub over-none : (P : Ring → Ring → Type 0) (handed : Handed) (took : List Taken) (old new : WorldRing) → RingSteps P took old new → Moves P [] took (ledger handed old) (ledger handed new)
over-none P handed took old new m = record { stepped = m.stepped; stands = m.stands; handed_are = sym (append-nil handed); taken_are = m.taken_are }

-- these bytes were handed over at a position, by one of the workers
abbrev pub IsHanded : Handed → ℕ → List ℕ → Type 0
IsHanded handed p bytes = (w : ℕ) × Contains handed (p, w, bytes)

-- the ledger satisfies `IsTrueRing`, and an invariant on the bytes that were handed over
pub record Keeps (workers : ℕ) (b : Ledger) : Type 0 where
  pub legal : IsLegal b.ring.setup b.ring.history
  pub stands : StandsFor b.ring
  pub workers_are : b.ring.setup.workers ≡ workers
  pub handed_at_most_once : (p : ℕ) → count_by (is_handed_at p) b.handed ≤ 1
  pub handed_once : (p v w : ℕ) (one other : List ℕ) → Contains b.handed (p, v, one) → Contains b.handed (p, w, other) → (v ≡ w) × (one ≡ other)
  pub taken_as_handed : (p w k : ℕ) (bytes : List ℕ) → Contains b.taken (Event p w k bytes) → Contains b.handed (p, w, bytes)
  pub handed_submitted : (p w : ℕ) (bytes : List ℕ) → Contains b.handed (p, w, bytes) → IsSubmittedBy b.ring.history p w (length bytes)
  pub waiting_handed : (p : ℕ) (bytes : List ℕ) → get b.ring.contents p ≡ Some bytes → IsHanded b.handed p bytes
  pub in_row : Row b.ring.history (filter_map taken_position b.taken)

-- one element of a list passes a test, or none does
some_or_none : {X : Type 0} (t : X → Bool) (xs : List X) → ((x : X) × Contains xs x × (t x ≡ true)) ⊎ (count_by t xs ≡ 0)
some_or_none t [] = inr refl
some_or_none t (y ∷ xs) = elim (cases_Bool (t y)) [
  | inl hit ↦ inl (y, (0, omega arith, refl), hit)
  | inr off ↦ elim (some_or_none t xs) [
    | inl later ↦ inl (later.0, (ℕ.suc later.1.0, (let inside = later.1.1 in omega arith), later.1.2), later.2)
    | inr none ↦ inr (let head : cond {A = ℕ} (t y) 1 0 ≡ 0 = ap (λ (b : Bool). cond {A = ℕ} b 1 0) off in omega (arith, count_by-cons t y xs, head, none))
  ]
]

-- the effect of a call on a ledger
record Changes (old new : Ledger) (handed : Handed) (took : List Taken) : Type 0 where
  setup_same : new.ring.setup ≡ old.ring.setup
  legal : IsLegal old.ring.setup new.ring.history
  stands : StandsFor new.ring
  handed_are : new.handed ≡ old.handed ++ handed
  taken_are : new.taken ≡ old.taken ++ took
  longer : (e : Entry) → Contains old.ring.history e → Contains new.ring.history e
  grows : (q : ℕ) → is_submitted_at old.ring.history q ≡ true → is_submitted_at new.ring.history q ≡ true
  new_handed : (p w : ℕ) (bytes : List ℕ) → Contains handed (p, w, bytes) → (is_submitted_at old.ring.history p ≡ false) × IsSubmittedBy new.ring.history p w (length bytes)
  new_count : (p : ℕ) → count_by (is_handed_at p) handed ≤ 1
  new_once : (p v w : ℕ) (one other : List ℕ) → Contains handed (p, v, one) → Contains handed (p, w, other) → (v ≡ w) × (one ≡ other)
  new_waiting : (p : ℕ) (bytes : List ℕ) → get new.ring.contents p ≡ Some bytes → (get old.ring.contents p ≡ Some bytes) ⊎ IsHanded handed p bytes
  new_taken : (p w k : ℕ) (bytes : List ℕ) → Contains took (Event p w k bytes) → (get old.ring.contents p ≡ Some bytes) × Contains old.ring.history (Res w k (length bytes) p)
  row : Row new.ring.history (filter_map taken_position old.taken ++ filter_map taken_position took)

changed : (workers : ℕ) (old new : Ledger) (handed : Handed) (took : List Taken) → Keeps workers old → Changes old new handed took → Keeps workers new
changed workers old new handed took a c = record {
  legal = subst (λ r. IsLegal r new.ring.history) (sym c.setup_same) c.legal;
  stands = c.stands;
  workers_are = ap (λ (r : Setup). r.workers) c.setup_same ∙ a.workers_are;
  handed_at_most_once = λ p. subst (λ l. count_by (is_handed_at p) l ≤ 1) (sym c.handed_are) (at_most_once p);
  handed_once = λ p v w one other h k. elim (found p v one h) [
    | inl before ↦ elim (found p w other k) [
      | inl too ↦ a.handed_once p v w one other before too
      | inr now ↦ absurd (true≢false (sym (a.handed_submitted p v one before).submitted ∙ (c.new_handed p w other now).0))
    ]
    | inr now ↦ elim (found p w other k) [
      | inl too ↦ absurd (true≢false (sym (a.handed_submitted p w other too).submitted ∙ (c.new_handed p v one now).0))
      | inr both ↦ c.new_once p v w one other now both
    ]
  ];
  taken_as_handed = λ p w k bytes h. elim (Contains-append_cases old.taken took (Event p w k bytes) (subst (λ l. Contains l (Event p w k bytes)) c.taken_are h)) [
    | inl before ↦ keeps p w bytes (a.taken_as_handed p w k bytes before)
    | inr now ↦ keeps p w bytes (by_its_worker p w k bytes (c.new_taken p w k bytes now))
  ];
  handed_submitted = λ p w bytes h. elim (found p w bytes h) [ inl before ↦ submitted_still p w (length bytes) (a.handed_submitted p w bytes before) | inr now ↦ (c.new_handed p w bytes now).1 ];
  waiting_handed = λ p bytes h. elim (c.new_waiting p bytes h) [
    | inl before ↦ let by : IsHanded old.handed p bytes = a.waiting_handed p bytes before in (by.0, keeps p by.0 bytes by.1)
    | inr now ↦ (now.0, adds p now.0 bytes now.1)
  ];
  in_row = subst (Row new.ring.history) (sym (ap (filter_map taken_position) c.taken_are ∙ filter_map-append taken_position old.taken took)) c.row;
}
  where
    found : (p w : ℕ) (bytes : List ℕ) → Contains new.handed (p, w, bytes) → Contains old.handed (p, w, bytes) ⊎ Contains handed (p, w, bytes)
    found p w bytes h = Contains-append_cases old.handed handed (p, w, bytes) (subst (λ l. Contains l (p, w, bytes)) c.handed_are h)

    keeps : (p w : ℕ) (bytes : List ℕ) → Contains old.handed (p, w, bytes) → Contains new.handed (p, w, bytes)
    keeps p w bytes h = subst (λ l. Contains l (p, w, bytes)) (sym c.handed_are) (Contains-append_left old.handed handed (p, w, bytes) h)

    adds : (p w : ℕ) (bytes : List ℕ) → Contains handed (p, w, bytes) → Contains new.handed (p, w, bytes)
    adds p w bytes h = subst (λ l. Contains l (p, w, bytes)) (sym c.handed_are) (Contains-append_right old.handed handed (p, w, bytes) h)

    -- what is handed over now was not handed over before, because its record was not submitted then
    at_most_once : (p : ℕ) → count_by (is_handed_at p) (old.handed ++ handed) ≤ 1
    at_most_once p =
        let whole : count_by (is_handed_at p) (old.handed ++ handed) ≡ count_by (is_handed_at p) old.handed + count_by (is_handed_at p) handed = sum_by-append (λ x. cond {A = ℕ} (is_handed_at p x) 1 0) old.handed handed in
        elim (some_or_none (is_handed_at p) handed) [
          | inl now ↦ elim (some_or_none (is_handed_at p) old.handed) [
            | inl was ↦
                let before : is_submitted_at old.ring.history p ≡ true = subst (λ q. is_submitted_at old.ring.history q ≡ true) (eqb-true was.0.0 p was.2) (a.handed_submitted was.0.0 was.0.1 was.0.2 was.1).submitted in
                let fresh : is_submitted_at old.ring.history p ≡ false = subst (λ q. is_submitted_at old.ring.history q ≡ false) (eqb-true now.0.0 p now.2) (c.new_handed now.0.0 now.0.1 now.0.2 now.1).0 in
                absurd (true≢false (sym before ∙ fresh))
            | inr none ↦ omega (arith, whole, none, c.new_count p)
          ]
          | inr none ↦ omega (arith, whole, none, a.handed_at_most_once p)
        ]

    submitted_still : (p w n : ℕ) → IsSubmittedBy old.ring.history p w n → IsSubmittedBy new.ring.history p w n
    submitted_still p w n s = record { serial = s.serial; granted_is = c.longer (Res w s.serial n p) s.granted_is; submitted = c.grows p s.submitted }

    -- what is taken was handed over by the worker that the record was granted to, because each position is granted once
    by_its_worker : (p w k : ℕ) (bytes : List ℕ) → (get old.ring.contents p ≡ Some bytes) × Contains old.ring.history (Res w k (length bytes) p) → Contains old.handed (p, w, bytes)
    by_its_worker p w k bytes t =
        let by : IsHanded old.handed p bytes = a.waiting_handed p bytes t.0 in
        let s : IsSubmittedBy old.ring.history p by.0 (length bytes) = a.handed_submitted p by.0 bytes by.1 in
        let same : by.0 ≡ w = (one-grant old.ring.setup old.ring.history p by.0 s.serial (length bytes) w k (length bytes) a.legal s.granted_is t.1).0 in
        subst (λ v. Contains old.handed (p, v, bytes)) same by.1

-- ---- lists of no element and of one element

none : {X : Type 0} (x : X) → Contains [] x → ⊥
none x (i, lt, is) = omega arith

single : {X : Type 0} (y x : X) → Contains (y ∷ []) x → y ≡ x
single y x (ℕ.zero, lt, is) = is
single y x (ℕ.suc i, lt, is) = absurd (omega arith)

handed_parts : (p q v w : ℕ) (one other : List ℕ) → ◌≡◌ {A = ℕ × ℕ × List ℕ} (p, v, one) (q, w, other) → (p ≡ q) × (v ≡ w) × (one ≡ other)
handed_parts p q v w one other e = (ap (λ x. x.0) e, ap (λ x. x.1) e, ap (λ x. x.2) e)

grows-push : (h : List Entry) (e : Entry) (q : ℕ) → is_submitted_at h q ≡ true → is_submitted_at (h ++ e ∷ []) q ≡ true
grows-push h e q is = list_any-snoc (is_submit q) h e ∙ or_left (is_submitted_at h q) (is_submit q e) is

longer-push : (h : List Entry) (e x : Entry) → Contains h x → Contains (h ++ e ∷ []) x
longer-push h e x = Contains-append_left h (e ∷ []) x

submits-push : (h : List Entry) (q : ℕ) → is_submitted_at (h ++ Sub q ∷ []) q ≡ true
submits-push h q = list_any-snoc (is_submit q) h (Sub q) ∙ or_right (is_submitted_at h q) _ (eq-eqb q q refl)

submitted-push : (h : List Entry) (p w k n : ℕ) → Contains h (Res w k n p) → IsSubmittedBy (h ++ Sub p ∷ []) p w n
submitted-push h p w k n is = record { serial = k; granted_is = longer-push h (Sub p) (Res w k n p) is; submitted = submits-push h p }

-- a call that hands nothing over and takes nothing
quiet : (workers : ℕ) (old new : Ledger) (P : Ring → Ring → Type 0) (h : List Entry) → Keeps workers old → Moves P [] [] old new → new.ring.setup ≡ old.ring.setup → new.ring.history ≡ h → new.ring.contents ≡ old.ring.contents
    → IsLegal old.ring.setup h → ((e : Entry) → Contains old.ring.history e → Contains h e) → ((q : ℕ) → is_submitted_at old.ring.history q ≡ true → is_submitted_at h q ≡ true)
    → (Row old.ring.history (filter_map taken_position old.taken) → Row h (filter_map taken_position old.taken)) → Keeps workers new
quiet workers old new P h a m s is same l longer grows row = changed workers old new [] [] a (record {
  setup_same = s;
  legal = subst (IsLegal old.ring.setup) (sym is) l;
  stands = m.stands;
  handed_are = m.handed_are;
  taken_are = m.taken_are;
  longer = λ e h. subst (λ g. Contains g e) (sym is) (longer e h);
  grows = λ q e. subst (λ g. is_submitted_at g q ≡ true) (sym is) (grows q e);
  new_handed = λ p w bytes h. absurd (none _ h);
  new_count = λ p. omega arith;
  new_once = λ p v w one other h k. absurd (none _ h);
  new_waiting = λ p bytes h. inl (ap (λ (c : Contents). get c p) (sym same) ∙ h);
  new_taken = λ p w k bytes h. absurd (none _ h);
  row = row-none h is (row a.in_row);
})
  where
    row-none : (h : List Entry) → new.ring.history ≡ h → Row h (filter_map taken_position old.taken) → Row new.ring.history (filter_map taken_position old.taken ++ [])
    row-none h is row = subst (λ l. Row new.ring.history l) (sym (append-nil (filter_map taken_position old.taken))) (subst (λ g. Row g (filter_map taken_position old.taken)) (sym is) row)

-- a call that hands bytes over, for a record that its worker was granted
hands : (workers : ℕ) (old new : Ledger) (P : Ring → Ring → Type 0) (h : List Entry) (p w : ℕ) (bytes : List ℕ) → Keeps workers old → Moves P ((p, w, bytes) ∷ []) [] old new → new.ring.setup ≡ old.ring.setup → new.ring.history ≡ h → new.ring.contents ≡ insert old.ring.contents p bytes
    → IsLegal old.ring.setup h → ((e : Entry) → Contains old.ring.history e → Contains h e) → ((q : ℕ) → is_submitted_at old.ring.history q ≡ true → is_submitted_at h q ≡ true) → is_submitted_at old.ring.history p ≡ false → IsSubmittedBy h p w (length bytes)
    → (Row old.ring.history (filter_map taken_position old.taken) → Row h (filter_map taken_position old.taken)) → Keeps workers new
hands workers old new P h p w bytes a m s is inserted l longer grows before after row = changed workers old new ((p, w, bytes) ∷ []) [] a (record {
  setup_same = s;
  legal = subst (IsLegal old.ring.setup) (sym is) l;
  stands = m.stands;
  handed_are = m.handed_are;
  taken_are = m.taken_are;
  longer = λ e k. subst (λ g. Contains g e) (sym is) (longer e k);
  grows = λ q e. subst (λ g. is_submitted_at g q ≡ true) (sym is) (grows q e);
  new_handed = λ q v other k. let e = handed_parts p q w v bytes other (single _ _ k) in
      (subst (λ x. is_submitted_at old.ring.history x ≡ false) e.0 before, subst (λ g. IsSubmittedBy g q v (length other)) (sym is) (submitted_as q v other e));
  new_count = λ q. count_by-le-length (is_handed_at q) ((p, w, bytes) ∷ []);
  new_once = λ q v x one other k i.
      let a = handed_parts p q w v bytes one (single _ _ k) in
      let b = handed_parts p q w x bytes other (single _ _ i) in
      (sym a.1 ∙ b.1, sym a.2 ∙ b.2);
  new_waiting = λ q other k. waits q other (ap (λ (c : Contents). get c q) (sym inserted) ∙ k);
  new_taken = λ q v i other k. absurd (none _ k);
  row = subst (λ l. Row new.ring.history l) (sym (append-nil (filter_map taken_position old.taken))) (subst (λ g. Row g (filter_map taken_position old.taken)) (sym is) (row a.in_row));
})
  where
    submitted_as : (q v : ℕ) (other : List ℕ) → (p ≡ q) × (w ≡ v) × (bytes ≡ other) → IsSubmittedBy h q v (length other)
    submitted_as q v other e = subst (λ b. IsSubmittedBy h q v (length b)) e.2 (subst (λ x. IsSubmittedBy h q x (length bytes)) e.1 (subst (λ x. IsSubmittedBy h x w (length bytes)) e.0 after))

    put : (q : ℕ) (other : List ℕ) → q ≡ p → bytes ≡ other → IsHanded ((p, w, bytes) ∷ []) q other
    put q other e f = (w, subst (λ x. Contains {X = ℕ × ℕ × List ℕ} ((p, w, bytes) ∷ []) (x, w, other)) (sym e) (subst (λ b. Contains {X = ℕ × ℕ × List ℕ} ((p, w, bytes) ∷ []) (p, w, b)) f (0, omega arith, refl)))

    waits : (q : ℕ) (other : List ℕ) → get (insert old.ring.contents p bytes) q ≡ Some other → (get old.ring.contents q ≡ Some other) ⊎ IsHanded ((p, w, bytes) ∷ []) q other
    waits q other k = elim (eq_cases q p) [
      | inl same ↦
          let there : Some bytes ≡ Some other = sym (get-insert nat_cmp_total old.ring.contents p bytes q ∙ rw (hit-yes q p same.1) refl) ∙ k in
          let it : bytes ≡ other = cc in
          inr (put q other same.1 it)
      | inr else ↦ inl (sym (get-insert nat_cmp_total old.ring.contents p bytes q ∙ rw (hit-no q p else.1) refl) ∙ k)
    ]

module _ (workers : ℕ) (old new : Ledger) (a : Keeps workers old) where
  pub full-keeps : (w n : ℕ) → w < workers → Moves (λ v v'. ring.FindsFull v v' w n) [] [] old new → Keeps workers new × SameBusy old.ring.history new.ring.history
  full-keeps w n inside m =
      let f = m.stepped in
      let is = f.logged.history_is in
      let l : IsLegal old.ring.setup (old.ring.history ++ Full w n ∷ []) = legal-push old.ring.setup old.ring.history (Full w n) a.legal (subst (λ x. w < x) (sym a.workers_are) inside, f.no_room) in (
        quiet workers old new _ (old.ring.history ++ Full w n ∷ []) a m f.logged.setup_same is f.contents_same l (longer-push old.ring.history (Full w n)) (grows-push old.ring.history (Full w n)) (row-full old.ring.history w n _),
        subst (SameBusy old.ring.history) (sym is) (same-full old.ring.history w n),
      )

  pub grant-keeps : (w n p k : ℕ) → w < workers → Moves (λ v v'. ring.Grants v v' w n p k) [] [] old new → Keeps workers new × OneMore old.ring.history new.ring.history p w k n
  grant-keeps w n p k inside m =
      let f = m.stepped in
      let is = f.logged.history_is in
      let l : IsLegal old.ring.setup (old.ring.history ++ Res w k n p ∷ []) = legal-push old.ring.setup old.ring.history (Res w k n p) a.legal (subst (λ x. w < x) (sym a.workers_are) inside, f.position, f.serial, f.room) in (
        quiet workers old new _ (old.ring.history ++ Res w k n p ∷ []) a m f.logged.setup_same is f.contents_same l (longer-push old.ring.history (Res w k n p)) (grows-push old.ring.history (Res w k n p)) (row-res old.ring.setup old.ring.history w k n p _ a.legal f.position),
        subst (λ g. OneMore old.ring.history g p w k n) (sym is) (more-res old.ring.setup old.ring.history p w k n a.legal f.position),
      )

  pub submit-keeps : (r : Granted) → Moves (λ v v'. ring.Submits v v' r) ((r.pos, r.worker, r.bytes) ∷ []) [] old new → Keeps workers new × OneLess old.ring.history new.ring.history r.pos
  submit-keeps r m =
      let f = m.stepped in
      let is = f.logged.history_is in
      let b = f.was_busy in
      let o = busy-open old.ring.history r.pos b.busy in
      let g : is_granted_at old.ring.history r.pos ≡ true = granted-from old.ring.history r.worker r.serial (length r.bytes) r.pos b.granted_is in
      let done : IsSubmittedBy (old.ring.history ++ Sub r.pos ∷ []) r.pos r.worker (length r.bytes) = submitted-push old.ring.history r.pos r.worker r.serial (length r.bytes) b.granted_is in
      let l : IsLegal old.ring.setup (old.ring.history ++ Sub r.pos ∷ []) = legal-push old.ring.setup old.ring.history (Sub r.pos) a.legal (g, o.not_submitted, o.not_discarded) in (
        hands workers old new _ (old.ring.history ++ Sub r.pos ∷ []) r.pos r.worker r.bytes a m f.logged.setup_same is f.contents_are l (longer-push old.ring.history (Sub r.pos)) (grows-push old.ring.history (Sub r.pos)) o.not_submitted done (row-sub old.ring.history r.pos _ o.not_discarded),
        subst (λ g. OneLess old.ring.history g r.pos) (sym is) (less-sub old.ring.history r.pos),
      )

  pub discard-keeps : (r : Granted) → Moves (λ v v'. ring.Discards v v' r) [] [] old new → Keeps workers new × OneLess old.ring.history new.ring.history r.pos
  discard-keeps r m =
      let f = m.stepped in
      let is = f.logged.history_is in
      let b = f.was_busy in
      let o = busy-open old.ring.history r.pos b.busy in
      let g : is_granted_at old.ring.history r.pos ≡ true = granted-from old.ring.history r.worker r.serial (length r.bytes) r.pos b.granted_is in
      let l : IsLegal old.ring.setup (old.ring.history ++ Dis r.pos ∷ []) = legal-push old.ring.setup old.ring.history (Dis r.pos) a.legal (g, o.not_submitted, o.not_discarded) in (
        quiet workers old new _ (old.ring.history ++ Dis r.pos ∷ []) a m f.logged.setup_same is f.contents_same l (longer-push old.ring.history (Dis r.pos)) (grows-push old.ring.history (Dis r.pos)) (row-dis old.ring.history r.pos _),
        subst (λ g. OneLess old.ring.history g r.pos) (sym is) (less-dis old.ring.history r.pos),
      )

  pub output-keeps : (w p : ℕ) (bytes : List ℕ) → w < workers → p ≡ ring.producer_now old.ring → Moves (λ v v'. ring.Outputs v v' w bytes) ((p, w, bytes) ∷ []) [] old new → Keeps workers new × SameBusy old.ring.history new.ring.history
  output-keeps w p bytes inside at m =
      let f = m.stepped in
      let h = old.ring.history in
      let k = grants w h in
      let q = ring.producer_now old.ring in
      let res = Res w k (length bytes) q in
      let is : new.ring.history ≡ (h ++ res ∷ []) ++ Sub q ∷ [] = f.logged.history_is ∙ sym (append_assoc h (res ∷ []) (Sub q ∷ [])) in
      let l : IsLegal old.ring.setup (h ++ res ∷ []) = legal-push old.ring.setup h res a.legal (subst (λ x. w < x) (sym a.workers_are) inside, refl, refl, f.room) in
      let more = more-res old.ring.setup h q w k (length bytes) a.legal refl in
      let o = busy-open (h ++ res ∷ []) q more.new.busy in
      let g : is_granted_at (h ++ res ∷ []) q ≡ true = granted-from (h ++ res ∷ []) w k (length bytes) q more.new.granted_is in
      let l2 : IsLegal old.ring.setup ((h ++ res ∷ []) ++ Sub q ∷ []) = legal-push old.ring.setup (h ++ res ∷ []) (Sub q) l (g, o.not_submitted, o.not_discarded) in
      let was = not-settled old.ring.setup h a.legal in (
        hands workers old new _ ((h ++ res ∷ []) ++ Sub q ∷ []) p w bytes a m f.logged.setup_same is (f.contents_are ∙ ap (λ x. insert old.ring.contents x bytes) (sym at)) l2
            (λ e c. longer-push (h ++ res ∷ []) (Sub q) e (longer-push h res e c)) (λ x e. grows-push (h ++ res ∷ []) (Sub q) x (grows-push h res x e)) (subst (λ x. is_submitted_at h x ≡ false) (sym at) was.not_submitted)
            (subst (λ x. IsSubmittedBy ((h ++ res ∷ []) ++ Sub q ∷ []) x w (length bytes)) (sym at) (submitted-push (h ++ res ∷ []) q w k (length bytes) more.new.granted_is))
            (λ row. row-sub (h ++ res ∷ []) q _ o.not_discarded (row-res old.ring.setup h w k (length bytes) q _ a.legal refl row)),
        subst (SameBusy h) (sym is) (same-output old.ring.setup h q w k (length bytes) a.legal refl),
      )

  same-busy : new.ring ≡ old.ring → SameBusy old.ring.history new.ring.history
  same-busy e = subst (λ (v : Ring). SameBusy old.ring.history v.history) (sym e) (record { stay = λ q w k n b. b; back = λ q w k n b. b })

  still : new.ring ≡ old.ring → Moves (λ v v'. Unit {0}) [] [] old new → Keeps workers new
  still e m =
      quiet workers old new _ old.ring.history a m (ap (λ (v : Ring). v.setup) e) (ap (λ (v : Ring). v.history) e) (ap (λ (v : Ring). v.contents) e) a.legal (λ e h. h) (λ q s. s) (λ row. row)

  settled-by : (s d t : Bool) → status_by s d t ≡ Waiting → (s || d) ≡ true
  settled-by true d t e = refl
  settled-by false true t e = refl
  settled-by false false t e = absurd (cc)

  dropped-by : (s d t : Bool) → status_by s d t ≡ Discarded → (s || d) ≡ true
  dropped-by true d t e = refl
  dropped-by false true t e = refl
  dropped-by false false t e = absurd (cc)

  pub take-keeps : (found : Taken) → Moves (λ v v'. ring.Takes v v' found) [] (taken_by found) old new → Keeps workers new × SameBusy old.ring.history new.ring.history
  take-keeps (Event p w k bytes) m =
      let f = m.stepped in
      let h = old.ring.history in
      let is = f.logged.history_is in
      let settled : (is_submitted_at h p || is_discarded_at h p) ≡ true = settled-by (is_submitted_at h p) (is_discarded_at h p) (is_taken_at h p) f.waiting in
      let l : IsLegal old.ring.setup (h ++ Take p ∷ []) = legal-push old.ring.setup h (Take p) a.legal (f.front, settled) in (
        changed workers old new [] (Event p w k bytes ∷ []) a (record {
          setup_same = f.logged.setup_same;
          legal = subst (IsLegal old.ring.setup) (sym is) l;
          stands = m.stands;
          handed_are = m.handed_are;
          taken_are = m.taken_are;
          longer = λ e c. subst (λ g. Contains g e) (sym is) (longer-push h (Take p) e c);
          grows = λ q e. subst (λ g. is_submitted_at g q ≡ true) (sym is) (grows-push h (Take p) q e);
          new_handed = λ q v b c. absurd (none _ c);
          new_count = λ q. omega arith;
          new_once = λ q v x one other c d. absurd (none _ c);
          new_waiting = λ q b c. inl (stays q b (ap (λ (x : Contents). get x q) (sym f.contents_are) ∙ c));
          new_taken = λ q v j b c. event q v j b (single _ _ c) (f.bytes_are, f.granted_is);
          row = subst (λ g. Row g (filter_map taken_position old.taken ++ p ∷ [])) (sym is) (row-take old.ring.setup h w k (length bytes) p (filter_map taken_position old.taken) a.legal f.front f.granted_is a.in_row);
        }),
        subst (SameBusy h) (sym is) (same-take h p),
      )
    where
      stays : (q : ℕ) (b : List ℕ) → get (remove old.ring.contents p) q ≡ Some b → get old.ring.contents q ≡ Some b
      stays q b c = elim (eq_cases q p) [
        | inl same ↦ absurd (let gone : None ≡ Some b = sym (get-remove nat_cmp_total old.ring.contents p q ∙ rw (hit-yes q p same.1) refl) ∙ c in cc)
        | inr else ↦ sym (get-remove nat_cmp_total old.ring.contents p q ∙ rw (hit-no q p else.1) refl) ∙ c
      ]

      event : (q v j : ℕ) (b : List ℕ) → Event p w k bytes ≡ Event q v j b → (get old.ring.contents p ≡ Some bytes) × Contains old.ring.history (Res w k (length bytes) p) → (get old.ring.contents q ≡ Some b) × Contains old.ring.history (Res v j (length b) q)
      event q v j b e there =
          let at : p ≡ q = cc in
          let it : bytes ≡ b = cc in
          let res : Res w k (length bytes) p ≡ Res v j (length b) q = cc in
          (subst (λ x. get old.ring.contents x ≡ Some b) at (there.0 ∙ ap (λ x. Some x) it), subst (Contains old.ring.history) res there.1)
  take-keeps (Skipped p n) m =
      let f = m.stepped in
      let h = old.ring.history in
      let is = f.logged.history_is in
      let settled : (is_submitted_at h p || is_discarded_at h p) ≡ true = dropped-by (is_submitted_at h p) (is_discarded_at h p) (is_taken_at h p) f.discarded in
      let l : IsLegal old.ring.setup (h ++ Take p ∷ []) = legal-push old.ring.setup h (Take p) a.legal (f.front, settled) in (
        changed workers old new [] (Skipped p n ∷ []) a (record {
          setup_same = f.logged.setup_same;
          legal = subst (IsLegal old.ring.setup) (sym is) l;
          stands = m.stands;
          handed_are = m.handed_are;
          taken_are = m.taken_are;
          longer = λ e c. subst (λ g. Contains g e) (sym is) (longer-push h (Take p) e c);
          grows = λ q e. subst (λ g. is_submitted_at g q ≡ true) (sym is) (grows-push h (Take p) q e);
          new_handed = λ q v b c. absurd (none _ c);
          new_count = λ q. omega arith;
          new_once = λ q v x one other c d. absurd (none _ c);
          new_waiting = λ q b c. inl (ap (λ (x : Contents). get x q) (sym f.contents_same) ∙ c);
          new_taken = λ q v j b c. absurd (let e : Skipped p n ≡ Event q v j b = single _ _ c in cc);
          row = subst (λ g. Row g (filter_map taken_position old.taken ++ p ∷ [])) (sym is) (row-take old.ring.setup h f.granted_is.0 f.granted_is.1.0 n p (filter_map taken_position old.taken) a.legal f.front f.granted_is.1.1 a.in_row);
        }),
        subst (SameBusy h) (sym is) (same-take h p),
      )
  take-keeps BusyFront m = (still m.stepped.same (record { stepped = tt; stands = m.stands; handed_are = m.handed_are; taken_are = m.taken_are }), same-busy m.stepped.same)
  take-keeps Empty m = (still m.stepped.same (record { stepped = tt; stands = m.stands; handed_are = m.handed_are; taken_are = m.taken_are }), same-busy m.stepped.same)
