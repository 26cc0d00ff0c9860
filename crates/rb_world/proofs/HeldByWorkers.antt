-- The records that a worker holds after a call was answered, and a ring's answers if more was taken from it.
use Rattle.std.proofs.Common.{◌≡◌, ℕ, List, [], ◌∷◌, ◌++◌, Option, Some, None, refl, sym, ap, subst, ◌∙◌, inl, inr, append-nil}
use Rattle.std.specs.Prelude.{option_map}
use Rattle.std.proofs.lemmas.Bool.{cases_eq, eq-eqb, ne_eqb}
use Rattle.rb_history.specs.declared.answers.Taken.{Taken}
use Rattle.rb_history.specs.RingModel.{Ring}
use Rattle.rb_lend.specs.Ranges.{in_place_of}
use Rattle.rb_chapter_ring.proofs.Written.{long-as}
use Rattle.rb_chapter_ring.specs.Hands.{out_record}
use Rattle.rb_interp.specs.StoredMemory.{held_record, others}
use Rattle.rb_world.specs.Worlds.{WorldRing, table_with}
use Rattle.rb_world.specs.CallsInWorld.{RingSteps, RecordOutcome, BadFlags, NoRoom, Made, WorkerReserves, WorkerOutputs, Unlogged}
use Rattle.rb_world.proofs.Tables.{eq_cases, placed-here, placed-else}
use Rattle.rb_chapter_ring.specs.declared.ring_record.RingRecord.{RingRecord}
use Rattle.rb_world.specs.inner.HeldInHands.{Mark, mark_of, AllHeld, WasHeld}
use Rattle.rb_world.specs.inner.RingAnswers.{untaken_ring}

abbrev Held : Type 0
Held = List (ℕ × RingRecord)

module _ {X : Type 0} (f : RingRecord → X) where
  abbrev pub shown : Held → ℕ → Option X
  shown rs id = option_map f (held_record id rs)

  -- a record that was granted is held under a new id
  pub shown-granted : (u : ℕ) (owned : RingRecord) (rs : Held) (id : ℕ) → held_record u rs ≡ None → shown (rs ++ (u, owned) ∷ []) id ≡ table_with u (Some (f owned)) (shown rs) id
  shown-granted u owned [] id none = elim (cases_eq id u) [ inl e ↦ rw (eq-eqb id u e, eq-eqb u id (sym e)) refl | inr ne ↦ rw (ne_eqb id u ne, ne_eqb u id (λ e. ne (sym e))) refl ]
  shown-granted u owned (r ∷ rs) id none = elim (cases_eq r.0 u) [
    | inl same ↦ absurd (let found : Some r.1 ≡ None = rw (eq-eqb r.0 u same) at none in cc)
    | inr else ↦ elim (cases_eq r.0 id) [
      | inl here ↦ rw (eq-eqb r.0 id here, ne_eqb id u (λ e. else (here ∙ e))) refl
      | inr there ↦ rw (ne_eqb r.0 id there) (shown-granted u owned rs id (rw (ne_eqb r.0 u else) at none))
    ]
  ]

  -- a record that was submitted or discarded is no longer held
  pub shown-given : (id : ℕ) (rs : Held) (i : ℕ) → shown (others id rs) i ≡ table_with id None (shown rs) i
  shown-given id [] i = elim (cases_eq i id) [ inl e ↦ rw (eq-eqb i id e) refl | inr ne ↦ rw (ne_eqb i id ne) refl ]
  shown-given id (r ∷ rs) i = elim (cases_eq r.0 id) [
    | inl same ↦ rw (eq-eqb r.0 id same) (shown-given id rs i ∙ elim (cases_eq i id) [
      | inl e ↦ rw (eq-eqb i id e) refl
      | inr ne ↦ rw (ne_eqb i id ne, ne_eqb r.0 i (λ e. ne (sym e ∙ same))) refl
    ])
    | inr else ↦ rw (ne_eqb r.0 id else) (elim (cases_eq r.0 i) [
      | inl here ↦ rw (eq-eqb r.0 i here, ne_eqb i id (λ e. else (here ∙ e))) refl
      | inr there ↦ rw (ne_eqb r.0 i there) (shown-given id rs i)
    ])
  ]

-- ---- a step of a ring from which nothing was taken, with what was taken from it

module _ (taken : List Taken) where
  abbrev pub book : Ring → WorldRing
  book v = record { ring = v; taken = taken }

  moved-within : (P : Ring → Ring → Type 0) (v v' : Ring) → RingSteps P [] (untaken_ring v) (untaken_ring v') → RingSteps P [] (book v) (book v')
  moved-within P v v' m = record { stepped = m.stepped; stands = m.stands; taken_are = sym (append-nil taken) }

  same-within : (v v' : Ring) → untaken_ring v' ≡ untaken_ring v → book v' ≡ book v
  same-within v v' e = ap (λ (b : WorldRing). book b.ring) e

  pub reserves-within : (w len flags : ℕ) (outcome : RecordOutcome) (v v' : Ring) → WorkerReserves w len flags outcome (untaken_ring v) (untaken_ring v') → WorkerReserves w len flags outcome (book v) (book v')
  reserves-within w len flags BadFlags v v' h = (h.0, same-within v v' h.1)
  reserves-within w len flags Unlogged v v' h = (h.0, same-within v v' h.1)
  reserves-within w len flags NoRoom v v' h = (h.0, moved-within _ v v' h.1)
  reserves-within w len flags (Made p k) v v' h = (h.0, moved-within _ v v' h.1)

  pub outputs-within : (w : ℕ) (bytes : List ℕ) (flags : ℕ) (outcome : RecordOutcome) (v v' : Ring) → WorkerOutputs w bytes flags outcome (untaken_ring v) (untaken_ring v') → WorkerOutputs w bytes flags outcome (book v) (book v')
  outputs-within w bytes flags BadFlags v v' h = (h.0, same-within v v' h.1)
  outputs-within w bytes flags Unlogged v v' h = (h.0, same-within v v' h.1)
  outputs-within w bytes flags NoRoom v v' h = (h.0, moved-within _ v v' h.1)
  outputs-within w bytes flags (Made p k) v v' h = (h.0, h.1, h.2, moved-within _ v v' h.3)

-- ---- properties of every record that a worker holds

module _ (P : Mark → Type 0) where
  abbrev Marked : Held → Type 0
  Marked rs = (id : ℕ) (q : Mark) → shown mark_of rs id ≡ Some q → P q

  marked : (rs : Held) → AllHeld P rs → Marked rs
  marked rs all id q e = by_case (held_record id rs) (all id) q e
    where
      by_case : (o : Option RingRecord) → ((x : RingRecord) → o ≡ Some x → P (mark_of x)) → (q : Mark) → option_map mark_of o ≡ Some q → P q
      by_case None each q e = absurd (cc)
      by_case (Some x) each q e = let same : mark_of x ≡ q = cc in subst P same (each x refl)

  unmarked : (rs : Held) → Marked rs → AllHeld P rs
  unmarked rs all id x e = all id (mark_of x) (ap (option_map mark_of) e)

  pub all-granted : (u : ℕ) (owned : RingRecord) (rs : Held) → held_record u rs ≡ None → P (mark_of owned) → AllHeld P rs → AllHeld P (rs ++ (u, owned) ∷ [])
  all-granted u owned rs none new all = unmarked (rs ++ (u, owned) ∷ []) (λ id q e.
      let there : table_with u (Some (mark_of owned)) (shown mark_of rs) id ≡ Some q = sym (shown-granted mark_of u owned rs id none) ∙ e in
      elim (eq_cases id u) [
        | inl same ↦ let it : Some (mark_of owned) ≡ Some q = sym (placed-here u (Some (mark_of owned)) (shown mark_of rs) id same.1) ∙ there in let is : mark_of owned ≡ q = cc in subst P is new
        | inr else ↦ marked rs all id q (sym (placed-else u (Some (mark_of owned)) (shown mark_of rs) id else.1) ∙ there)
      ])

  pub all-given : (u : ℕ) (rs : Held) → AllHeld P rs → AllHeld P (others u rs)
  all-given u rs all = unmarked (others u rs) (λ id q e.
      let there : table_with u None (shown mark_of rs) id ≡ Some q = sym (shown-given mark_of u rs id) ∙ e in
      elim (eq_cases id u) [
        | inl same ↦ absurd (let it : None ≡ Some q = sym (placed-here u None (shown mark_of rs) id same.1) ∙ there in cc)
        | inr else ↦ marked rs all id q (sym (placed-else u None (shown mark_of rs) id else.1) ∙ there)
      ])

  -- records whose bytes may have changed
  pub all-rewritten : (rs ss : Held) → ((id : ℕ) → shown mark_of ss id ≡ shown mark_of rs id) → AllHeld P rs → AllHeld P ss
  all-rewritten rs ss same all = unmarked ss (λ id q e. marked rs all id q (sym (same id) ∙ e))

-- the records held before were held before
pub held-were : (rs : Held) → AllHeld (WasHeld rs) rs
held-were rs id x e = (id, x, e, refl)

-- writing into a record does not change its mark
pub mark-stays : (x : RingRecord) (w : List ℕ) → mark_of (record x { reservation = record x.reservation { granted = record x.reservation.granted { bytes = in_place_of x.reservation.granted.bytes w } } }) ≡ mark_of x
mark-stays x w = ap (λ n. record { ring = x.ring; worker = x.reservation.granted.worker; hand = x.reservation.hand; out = out_record x.reservation.granted.pos x.reservation.granted.serial n }) (long-as x.reservation.granted.bytes w)
