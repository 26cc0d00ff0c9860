-- Every legal history that extends a ring's history by one entry is the result of one call.
use Rattle.std.proofs.Common.{◌≡◌, ◌≢◌, ℕ, Bool, true, false, ◌||◌, List, [], ◌∷◌, ◌++◌, Option, Some, None, length, replicate, refl, sym, ap, ◌∙◌, inl, inr, arith, subst, eqb, is_some, ◌↔◌}
use Rattle.std.specs.List.{Contains}
use Rattle.std.specs.Cmp.{nat_cmp_total}
use Rattle.std.specs.FinMap.{get, insert, remove, get-insert, get-remove}
use Rattle.std.proofs.lemmas.List.{length-replicate}
use Rattle.std.proofs.lemmas.List.Elements.{Contains-append_left}
use Rattle.std.proofs.lemmas.Bool.{cases_eq, eq-eqb, ne_eqb, cases_Bool, false_from_ne_true}
use Rattle.rb_history.specs.declared.entries.Entry.{Entry}
use Rattle.rb_history.specs.declared.entries.Entry.TheVariants.{Res, Full, Sub, Dis, Take}
use Rattle.rb_history.specs.History.{status_by, status_of, is_submit, is_discard, is_take, is_submitted_at, is_discarded_at, is_taken_at, records, producer_of, consumer_of}
use Rattle.rb_history.specs.History.Status.{Busy, Waiting, Consumed, Discarded}
use Rattle.rb_history.specs.RoomRule.{Setup}
use Rattle.rb_history.specs.Legal.{MayFollow}
use Rattle.rb_history.specs.RingModel.{Ring, Contents, StandsFor, HasLength}
use Rattle.rb_history.specs.OneCall.{IsOneCall, EachEntryIsOneCall}
use Rattle.rb_history.proofs.Lists.{list_any-snoc, or-false}
use Rattle.rb_history.proofs.Contents.{hit-yes, hit-no}
use Rattle.rb_history.proofs.Standing.{grant-stands}
use Rattle.rb_history.proofs.Laws.{KeptAs, legal-front, legal-next, kept-from-legal}

-- the ring with this history and these contents
ring_for : Setup → List Entry → Contents → Ring
ring_for r h m = record { setup = r; history = h; contents = m; shown = records h; producer = producer_of r.start h; consumer = consumer_of r.start h }

-- the new contents match the extended history
record Holds (h k : List Entry) (m m' : Contents) : Type 0 where
  same_or : (q : ℕ) → (is_some (get m' q) ≡ true) ↔ (status_of k q ≡ Waiting)
  sized : (q : ℕ) (bytes : List ℕ) → get m' q ≡ Some bytes → HasLength k q (length bytes)

stands-for : (r : Setup) (h k : List Entry) (m m' : Contents) → Holds h k m m' → StandsFor (ring_for r k m')
unfolding ring_for
stands-for r h k m m' a = record { shown = refl; producer_is = refl; consumer_is = refl; contents = a.same_or; sized = a.sized }

longer : (h : List Entry) (e : Entry) (q n : ℕ) → HasLength h q n → HasLength (h ++ e ∷ []) q n
longer h e q n a = (a.0, (a.1.0, Contains-append_left h (e ∷ []) _ a.1.1))

-- the status of a record after one more entry
after : (h : List Entry) (e : Entry) (q : ℕ) → status_of (h ++ e ∷ []) q ≡ status_by (is_submitted_at h q || is_submit q e) (is_discarded_at h q || is_discard q e) (is_taken_at h q || is_take q e)
after h e q = rw (list_any-snoc (is_submit q) h e, list_any-snoc (is_discard q) h e, list_any-snoc (is_take q) h e)

quiet : (h : List Entry) (e : Entry) (q : ℕ) → is_submit q e ≡ false → is_discard q e ≡ false → is_take q e ≡ false → status_of (h ++ e ∷ []) q ≡ status_of h q
quiet h e q s d t = after h e q ∙ rw (s, d, t, or-false (is_submitted_at h q), or-false (is_discarded_at h q), or-false (is_taken_at h q))

module _ (old : Ring) (a : StandsFor old) where
  -- an entry that changes no record leaves the contents unchanged
  holds-quiet : (e : Entry) → ((q : ℕ) → status_of (old.history ++ e ∷ []) q ≡ status_of old.history q) → Holds old.history (old.history ++ e ∷ []) old.contents old.contents
  holds-quiet e same = record {
    same_or = λ q. (λ is. same q ∙ (a.contents q).0 is, λ w. (a.contents q).1 (sym (same q) ∙ w));
    sized = λ q bytes is. longer old.history e q (length bytes) (a.sized q bytes is);
  }

  -- the record at p neither had bytes nor gets any, and the other records do not change
  holds-still : (e : Entry) (p : ℕ) → (status_of old.history p ≡ Waiting → ⊥) → (status_of (old.history ++ e ∷ []) p ≡ Waiting → ⊥) →
      ((q : ℕ) → q ≢ p → status_of (old.history ++ e ∷ []) q ≡ status_of old.history q) → Holds old.history (old.history ++ e ∷ []) old.contents old.contents
  holds-still e p before now others = record {
    same_or = λ q. elim (cases_eq q p) [
      | inl same ↦ (λ is. absurd (before (subst (λ x. status_of old.history x ≡ Waiting) same ((a.contents q).0 is))), λ w. absurd (now (subst (λ x. status_of (old.history ++ e ∷ []) x ≡ Waiting) same w)))
      | inr other ↦ (λ is. others q other ∙ (a.contents q).0 is, λ w. (a.contents q).1 (sym (others q other) ∙ w))
    ];
    sized = λ q bytes is. longer old.history e q (length bytes) (a.sized q bytes is);
  }

  -- the record at p gets bytes
  holds-insert : (e : Entry) (p : ℕ) (new : List ℕ) → HasLength old.history p (length new) → status_of (old.history ++ e ∷ []) p ≡ Waiting →
      ((q : ℕ) → q ≢ p → status_of (old.history ++ e ∷ []) q ≡ status_of old.history q) → Holds old.history (old.history ++ e ∷ []) old.contents (insert old.contents p new)
  holds-insert e p new long now others = record {
    same_or = λ q. elim (cases_eq q p) [
      | inl same ↦ (λ is. subst (λ x. status_of (old.history ++ e ∷ []) x ≡ Waiting) (sym same) now, λ w. rw (get-insert nat_cmp_total old.contents p new q, hit-yes q p same) refl)
      | inr other ↦
          let there : get (insert old.contents p new) q ≡ get old.contents q = get-insert nat_cmp_total old.contents p new q ∙ rw (hit-no q p other) refl in
          (λ is. others q other ∙ (a.contents q).0 (ap is_some (sym there) ∙ is), λ w. ap is_some there ∙ (a.contents q).1 (sym (others q other) ∙ w))
    ];
    sized = λ q bytes is. elim (cases_eq q p) [
      | inl same ↦
          let found : Some new ≡ Some bytes = sym (get-insert nat_cmp_total old.contents p new q ∙ rw (hit-yes q p same) refl) ∙ is in
          let it : new ≡ bytes = cc in
          longer old.history e q (length bytes) (subst (λ x. HasLength old.history x (length bytes)) (sym same) (subst (λ b. HasLength old.history p (length b)) it long))
      | inr other ↦
          let there : get (insert old.contents p new) q ≡ get old.contents q = get-insert nat_cmp_total old.contents p new q ∙ rw (hit-no q p other) refl in
          longer old.history e q (length bytes) (a.sized q bytes (sym there ∙ is))
    ];
  }

  -- the record at p is taken with its bytes
  holds-remove : (e : Entry) (p : ℕ) → (status_of (old.history ++ e ∷ []) p ≡ Waiting → ⊥) →
      ((q : ℕ) → q ≢ p → status_of (old.history ++ e ∷ []) q ≡ status_of old.history q) → Holds old.history (old.history ++ e ∷ []) old.contents (remove old.contents p)
  holds-remove e p now others = record {
    same_or = λ q. elim (cases_eq q p) [
      | inl same ↦
          let gone : get (remove old.contents p) q ≡ None = get-remove nat_cmp_total old.contents p q ∙ rw (hit-yes q p same) refl in
          (λ is. (let none : false ≡ true = sym (ap is_some gone) ∙ is in cc), λ w. absurd (now (subst (λ x. status_of (old.history ++ e ∷ []) x ≡ Waiting) same w)))
      | inr other ↦
          let there : get (remove old.contents p) q ≡ get old.contents q = get-remove nat_cmp_total old.contents p q ∙ rw (hit-no q p other) refl in
          (λ is. others q other ∙ (a.contents q).0 (ap is_some (sym there) ∙ is), λ w. ap is_some there ∙ (a.contents q).1 (sym (others q other) ∙ w))
    ];
    sized = λ q bytes is. elim (cases_eq q p) [
      | inl same ↦
          let gone : get (remove old.contents p) q ≡ None = get-remove nat_cmp_total old.contents p q ∙ rw (hit-yes q p same) refl in
          let none : None ≡ Some bytes = sym gone ∙ is in
          cc
      | inr other ↦
          let there : get (remove old.contents p) q ≡ get old.contents q = get-remove nat_cmp_total old.contents p q ∙ rw (hit-no q p other) refl in
          longer old.history e q (length bytes) (a.sized q bytes (sym there ∙ is))
    ];
  }

busy-free : (r : Setup) (h : List Entry) (p : ℕ) → KeptAs r h → is_submitted_at h p ≡ false → is_discarded_at h p ≡ false → is_taken_at h p ≡ false
busy-free r h p k s d = false_from_ne_true (is_taken_at h p) (λ t. (let settled : (is_submitted_at h p || is_discarded_at h p) ≡ true = k.closed p t in let none : false ≡ true = sym (rw (s, d)) ∙ settled in cc))

status-of : (h : List Entry) (p : ℕ) (s d t : Bool) → is_submitted_at h p ≡ s → is_discarded_at h p ≡ d → is_taken_at h p ≡ t → status_of h p ≡ status_by s d t
status-of h p s d t e f g = rw (e, f, g)

busy-by : (t : Bool) → status_by false false t ≡ Busy
busy-by t = refl

discarded-by : (s t : Bool) → status_by s true t ≡ Discarded
discarded-by s t = refl

apart : (p q : ℕ) → q ≢ p → eqb p q ≡ false
apart p q other = ne_eqb p q (λ e. other (sym e))

settle-free : (h : List Entry) (p : ℕ) → is_submitted_at h p ≡ false → is_discarded_at h p ≡ false → status_of h p ≡ Waiting → ⊥
settle-free h p s d w = let no_way : Busy ≡ Waiting = sym (status-of h p false false (is_taken_at h p) s d refl) ∙ w in cc

module _ (old : Ring) (a : StandsFor old) where
  setup : Setup
  setup = old.setup

  call-res : (w k n p : ℕ) → MayFollow old.setup old.history (Res w k n p) → (new : Ring) × IsOneCall old (Res w k n p) new
  unfolding ring_for
  call-res w k n p m =
      let e = Res w k n p in
      let c = holds-quiet old a e (λ q. quiet old.history e q refl refl refl) in (
        ring_for old.setup (old.history ++ e ∷ []) old.contents,
        record {
          stands = stands-for old.setup old.history (old.history ++ e ∷ []) old.contents old.contents c;
          history_is = refl;
          step = (m.0, record { room = m.3; position = m.1; serial = m.2; logged = record { setup_same = refl; history_is = refl }; contents_same = refl });
        },
      )

  call-full : (w n : ℕ) → MayFollow old.setup old.history (Full w n) → (new : Ring) × IsOneCall old (Full w n) new
  unfolding ring_for
  call-full w n m =
      let e = Full w n in
      let c = holds-quiet old a e (λ q. quiet old.history e q refl refl refl) in (
        ring_for old.setup (old.history ++ e ∷ []) old.contents,
        record {
          stands = stands-for old.setup old.history (old.history ++ e ∷ []) old.contents old.contents c;
          history_is = refl;
          step = (m.0, record { no_room = m.1; logged = record { setup_same = refl; history_is = refl }; contents_same = refl });
        },
      )

  call-sub : (p : ℕ) → KeptAs old.setup old.history → MayFollow old.setup old.history (Sub p) → (new : Ring) × IsOneCall old (Sub p) new
  unfolding ring_for
  call-sub p k m =
      let h = old.history in
      let e = Sub p in
      let g = grant-stands h p m.0 in
      let bytes : List ℕ = replicate {A = ℕ} g.1.1.0 0 in
      let long : g.1.1.0 ≡ length bytes = sym (length-replicate {A = ℕ} g.1.1.0 0) in
      let there : Contains h (Res g.0 g.1.0 (length bytes) p) = subst (λ n. Contains h (Res g.0 g.1.0 n p)) long g.1.1.1 in
      let free = busy-free old.setup h p k m.1 m.2 in
      let now : status_of (h ++ e ∷ []) p ≡ Waiting = after h e p ∙ rw (m.1, m.2, free, eq-eqb p p refl) refl in
      let c = holds-insert old a e p bytes (g.0, (g.1.0, there)) now (λ q other. quiet h e q (apart p q other) refl refl) in
      let busy : status_of h p ≡ Busy = status-of h p false false (is_taken_at h p) m.1 m.2 refl ∙ busy-by (is_taken_at h p) in (
        ring_for old.setup (h ++ e ∷ []) (insert old.contents p bytes),
        record {
          stands = stands-for old.setup h (h ++ e ∷ []) old.contents (insert old.contents p bytes) c;
          history_is = refl;
          step = (
            record { pos = p; worker = g.0; serial = g.1.0; bytes = bytes },
            (
              refl,
              record {
                was_busy = record { granted_is = there; busy = busy };
                logged = record { setup_same = refl; history_is = refl };
                contents_are = refl;
              },
            ),
          );
        },
      )

  call-dis : (p : ℕ) → MayFollow old.setup old.history (Dis p) → (new : Ring) × IsOneCall old (Dis p) new
  unfolding ring_for
  call-dis p m =
      let h = old.history in
      let e = Dis p in
      let g = grant-stands h p m.0 in
      let bytes : List ℕ = replicate {A = ℕ} g.1.1.0 0 in
      let long : g.1.1.0 ≡ length bytes = sym (length-replicate {A = ℕ} g.1.1.0 0) in
      let there : Contains h (Res g.0 g.1.0 (length bytes) p) = subst (λ n. Contains h (Res g.0 g.1.0 n p)) long g.1.1.1 in
      let now : status_of (h ++ e ∷ []) p ≡ Discarded = after h e p ∙ rw (m.1, m.2, eq-eqb p p refl) refl in
      let c = holds-still old a e p (settle-free h p m.1 m.2) (λ w. (let no_way : Discarded ≡ Waiting = sym now ∙ w in cc)) (λ q other. quiet h e q refl (apart p q other) refl) in
      let busy : status_of h p ≡ Busy = status-of h p false false (is_taken_at h p) m.1 m.2 refl ∙ busy-by (is_taken_at h p) in (
        ring_for old.setup (h ++ e ∷ []) old.contents,
        record {
          stands = stands-for old.setup h (h ++ e ∷ []) old.contents old.contents c;
          history_is = refl;
          step = (
            record { pos = p; worker = g.0; serial = g.1.0; bytes = bytes },
            (
              refl,
              record {
                was_busy = record { granted_is = there; busy = busy };
                logged = record { setup_same = refl; history_is = refl };
                contents_same = refl;
              },
            ),
          );
        },
      )

  skip : (p : ℕ) → KeptAs old.setup old.history → MayFollow old.setup old.history (Take p) → is_discarded_at old.history p ≡ true → (new : Ring) × IsOneCall old (Take p) new
  unfolding ring_for
  skip p k m d =
      let h = old.history in
      let e = Take p in
      let g = grant-stands h p (k.named p m.1) in
      let was : status_of h p ≡ Discarded = status-of h p (is_submitted_at h p) true (is_taken_at h p) refl d refl ∙ discarded-by (is_submitted_at h p) (is_taken_at h p) in
      let now : status_of (h ++ e ∷ []) p ≡ Discarded = after h e p ∙ rw d refl in
      let c = holds-still old a e p (λ w. (let no_way : Discarded ≡ Waiting = sym was ∙ w in cc)) (λ w. (let no_way : Discarded ≡ Waiting = sym now ∙ w in cc)) (λ q other. quiet h e q refl refl (apart p q other)) in (
        ring_for old.setup (h ++ e ∷ []) old.contents,
        record {
          stands = stands-for old.setup h (h ++ e ∷ []) old.contents old.contents c;
          history_is = refl;
          step = inr (
            g.1.1.0,
            record {
              front = m.0;
              granted_is = (g.0, (g.1.0, g.1.1.1));
              discarded = was;
              logged = record { setup_same = refl; history_is = refl };
              contents_same = refl;
            },
          );
        },
      )

  hand-out : (p : ℕ) → KeptAs old.setup old.history → MayFollow old.setup old.history (Take p) → is_discarded_at old.history p ≡ false → is_submitted_at old.history p ≡ true →
      (o : Option (List ℕ)) → get old.contents p ≡ o → (new : Ring) × IsOneCall old (Take p) new
  unfolding ring_for
  hand-out p k m d s None is =
      let h = old.history in
      let free : is_taken_at h p ≡ false = false_from_ne_true (is_taken_at h p) (λ t. omega (arith, k.passed p t, m.0)) in
      let was : status_of h p ≡ Waiting = status-of h p true false false s d free in
      let none : false ≡ true = sym (ap is_some is) ∙ (a.contents p).1 was in
      cc
  hand-out p k m d s (Some bytes) is =
      let h = old.history in
      let e = Take p in
      let free : is_taken_at h p ≡ false = false_from_ne_true (is_taken_at h p) (λ t. omega (arith, k.passed p t, m.0)) in
      let was : status_of h p ≡ Waiting = status-of h p true false false s d free in
      let long = a.sized p bytes is in
      let now : status_of (h ++ e ∷ []) p ≡ Consumed = after h e p ∙ rw (s, d, free, eq-eqb p p refl) refl in
      let c = holds-remove old a e p (λ w. (let no_way : Consumed ≡ Waiting = sym now ∙ w in cc)) (λ q other. quiet h e q refl refl (apart p q other)) in (
        ring_for old.setup (h ++ e ∷ []) (remove old.contents p),
        record {
          stands = stands-for old.setup h (h ++ e ∷ []) old.contents (remove old.contents p) c;
          history_is = refl;
          step = inl (
            long.0,
            (
              long.1.0,
              (
                bytes,
                record {
                  front = m.0;
                  granted_is = long.1.1;
                  waiting = was;
                  bytes_are = is;
                  logged = record { setup_same = refl; history_is = refl };
                  contents_are = refl;
                },
              ),
            ),
          );
        },
      )

  call-take : (p : ℕ) → KeptAs old.setup old.history → MayFollow old.setup old.history (Take p) → (new : Ring) × IsOneCall old (Take p) new
  call-take p k m = elim (cases_Bool (is_discarded_at old.history p)) [
    | inl d ↦ skip p k m d
    | inr d ↦
        let s : is_submitted_at old.history p ≡ true = sym (rw (d, or-false (is_submitted_at old.history p))) ∙ m.1 in
        hand-out p k m d s (get old.contents p) refl
  ]

  call-for : (e : Entry) → KeptAs old.setup old.history → MayFollow old.setup old.history e → (new : Ring) × IsOneCall old e new
  call-for (Res w k n p) kept m = call-res w k n p m
  call-for (Full w n) kept m = call-full w n m
  call-for (Sub p) kept m = call-sub p kept m
  call-for (Dis p) kept m = call-dis p m
  call-for (Take p) kept m = call-take p kept m

pub each-entry : EachEntryIsOneCall
each-entry old e a l = call-for old a e (kept-from-legal old.setup old.history (legal-front old.setup old.history (e ∷ []) l)) (legal-next old.setup old.history e [] l)
