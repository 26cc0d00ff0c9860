-- What each entry changes in the set of busy records, and that the book follows it.
use Rattle.std.proofs.Common.{◌≡◌, ◌≢◌, ℕ, ◌<◌, ◌≤◌, ◌==◌, ◌||◌, Bool, true, false, List, [], ◌∷◌, ◌++◌, Option, Some, None, length, zero, suc, ◌⊎◌, refl, sym, ap, ◌∙◌, subst, inl, inr, arith, append_assoc}
use Rattle.std.specs.List.{list_any, Contains}
use Rattle.std.proofs.lemmas.Bool.{cases_eq, cases_lt, eq-eqb, ne_eqb, or_from, or_left, or_parts, and_from, false_from_ne_true, true≢false}
use Rattle.std.proofs.lemmas.List.{get_or_past}
use Rattle.std.proofs.lemmas.List.Folds.{list_any_at}
use Rattle.std.proofs.lemmas.List.Elements.{Contains-append_left, Contains-push, Contains-push_cases}
use Rattle.rb_history.specs.declared.entries.Entry.{Entry}
use Rattle.rb_history.specs.declared.entries.Entry.TheVariants.{Res, Full, Sub, Dis, Take}
use Rattle.rb_history.specs.History.{status_by, status_of, is_grant_at, is_submit, is_discard, is_granted_at, is_submitted_at, is_discarded_at, is_taken_at}
use Rattle.rb_history.specs.History.Status.{Busy}
use Rattle.rb_history.specs.RoomRule.{Setup}
use Rattle.rb_history.specs.Legal.{IsLegal}
use Rattle.rb_history.specs.Calls.{IsBusy}
use Rattle.rb_history.specs.WorkerCounts.{is_grant_to, is_record_of}
use Rattle.rb_history.proofs.Laws.{kept-from-legal, legal-front}
use Rattle.rb_history.proofs.Lists.{list_any-snoc, or-false, sum_by-snoc}
use Rattle.rb_history.proofs.RecordWorkers.{bit, granted-once}
use Rattle.rb_chapter_ring.specs.declared.out_record.OutRecord.{OutRecord}
use Rattle.rb_chapter_ring.specs.Hands.{out_record, Hands, HandBook, in_hand, hands_of, hand_at, with_hand, IsFree, IsShaped, IsBookOf}
use Rattle.rb_chapter_ring.specs.HandLaws.{BookGoesOn}
use Rattle.rb_chapter_ring.proofs.ChangedHands.{hand-here, hand-there}

-- ---- busy means neither submitted nor discarded

busy-parts : (s d t : Bool) → status_by s d t ≡ Busy → (s ≡ false) × (d ≡ false)
busy-parts s true t e = cc
busy-parts true false true e = cc
busy-parts true false false e = cc
busy-parts false false t e = (refl, refl)

busy-from : (s d t : Bool) → s ≡ false → d ≡ false → status_by s d t ≡ Busy
busy-from s d t e f = ap (λ x. status_by x d t) e ∙ ap (λ x. status_by false x t) f

-- a record that is busy in one history is busy in the other
pub busy-same : (h k : List Entry) (p : ℕ) → is_submitted_at k p ≡ is_submitted_at h p → is_discarded_at k p ≡ is_discarded_at h p → status_of h p ≡ Busy → status_of k p ≡ Busy
busy-same h k p s d b =
    let parts = busy-parts (is_submitted_at h p) (is_discarded_at h p) (is_taken_at h p) b in
    busy-from (is_submitted_at k p) (is_discarded_at k p) (is_taken_at k p) (s ∙ parts.0) (d ∙ parts.1)

-- if a list contains an entry that passes the test, the test holds for the list
pub contains-any : (t : Entry → Bool) (h : List Entry) (e : Entry) → Contains h e → t e ≡ true → list_any t h ≡ true
contains-any t h e is hit = list_any_of t h e is hit
  where
    list_any_of : (t : Entry → Bool) (h : List Entry) (e : Entry) → Contains h e → t e ≡ true → list_any t h ≡ true
    list_any_of t h e (i, l, is) hit = list_any_at t h i e l (ap t is ∙ hit)

pub is-granted : (h : List Entry) (w k n p : ℕ) → Contains h (Res w k n p) → is_granted_at h p ≡ true
is-granted h w k n p is = contains-any (is_grant_at p) h (Res w k n p) is (eq-eqb p p refl)

pub is-record : (h : List Entry) (w k n p : ℕ) → Contains h (Res w k n p) → is_record_of w h p ≡ true
is-record h w k n p is = contains-any (is_grant_to w p) h (Res w k n p) is (and_from (w == w) (p == p) (eq-eqb w w refl) (eq-eqb p p refl))

-- ---- one more entry

-- what one more entry changes in the set of busy records
module _ (h : List Entry) (e : Entry) where
  pub busy-before : (p w k n : ℕ) → (Res w k n p ≡ e → ⊥) → is_submit p e ≡ false → is_discard p e ≡ false → IsBusy (h ++ e ∷ []) p w k n → IsBusy h p w k n
  busy-before p w k n other s d b = record {
    granted_is = elim (Contains-push_cases h e (Res w k n p) b.granted_is) [
      | inl old ↦ old
      | inr new ↦ absurd (other (sym new))
    ];
    busy = busy-same (h ++ e ∷ []) h p (sym (list_any-snoc (is_submit p) h e ∙ ap (λ x. is_submitted_at h p || x) s ∙ or-false (is_submitted_at h p)))
        (sym (list_any-snoc (is_discard p) h e ∙ ap (λ x. is_discarded_at h p || x) d ∙ or-false (is_discarded_at h p))) b.busy;
  }

  pub busy-after : (p w k n : ℕ) → is_submit p e ≡ false → is_discard p e ≡ false → IsBusy h p w k n → IsBusy (h ++ e ∷ []) p w k n
  busy-after p w k n s d b = record {
    granted_is = Contains-append_left h (e ∷ []) (Res w k n p) b.granted_is;
    busy = busy-same h (h ++ e ∷ []) p (list_any-snoc (is_submit p) h e ∙ ap (λ x. is_submitted_at h p || x) s ∙ or-false (is_submitted_at h p))
        (list_any-snoc (is_discard p) h e ∙ ap (λ x. is_discarded_at h p || x) d ∙ or-false (is_discarded_at h p)) b.busy;
  }

-- ---- an entry that grants

-- no record was granted or committed at the position of the next record
module _ (r : Setup) (h : List Entry) (legal : IsLegal r h) (w k n p : ℕ) (longer : IsLegal r (h ++ Res w k n p ∷ [])) where
  not-granted : is_granted_at h p ≡ false
  not-granted = false_from_ne_true (is_granted_at h p) (λ was.
      let before = (kept-from-legal r h legal).single p was in
      let here : bit (is_grant_at p (Res w k n p)) ≡ 1 = ap bit (eq-eqb p p refl) in
      let most = granted-once r (h ++ Res w k n p ∷ []) p longer in
      omega (arith, before, here, most, sum_by-snoc (λ y. bit (is_grant_at p y)) h (Res w k n p)))

  not-settled : (is_submitted_at h p ≡ false) × (is_discarded_at h p ≡ false)
  not-settled = or_parts (is_submitted_at h p) (is_discarded_at h p) (false_from_ne_true (is_submitted_at h p || is_discarded_at h p) (λ was. true≢false (sym ((kept-from-legal r h legal).named p was) ∙ not-granted)))

  -- a busy record is at another position
  pub other-place : (q v j m : ℕ) → IsBusy h q v j m → q ≢ p
  other-place q v j m b same = true≢false (sym (is-granted h v j m q b.granted_is) ∙ ap (is_granted_at h) same ∙ not-granted)

  -- the new record is busy
  pub new-busy : IsBusy (h ++ Res w k n p ∷ []) p w k n
  new-busy = record {
    granted_is = Contains-push h (Res w k n p);
    busy = busy-from (is_submitted_at (h ++ Res w k n p ∷ []) p) (is_discarded_at (h ++ Res w k n p ∷ []) p) (is_taken_at (h ++ Res w k n p ∷ []) p)
        (list_any-snoc (is_submit p) h (Res w k n p) ∙ or-false (is_submitted_at h p) ∙ not-settled.0)
        (list_any-snoc (is_discard p) h (Res w k n p) ∙ or-false (is_discarded_at h p) ∙ not-settled.1);
  }

-- a record that is then busy was busy before, or is the new record
busy-cases : (h : List Entry) (w k n p q v j m : ℕ) → IsBusy (h ++ Res w k n p ∷ []) q v j m → IsBusy h q v j m ⊎ (Res v j m q ≡ Res w k n p)
busy-cases h w k n p q v j m b = elim (Contains-push_cases h (Res w k n p) (Res v j m q) b.granted_is) [
  | inl old ↦ inl (record {
    granted_is = old;
    busy = busy-same (h ++ Res w k n p ∷ []) h q (sym (list_any-snoc (is_submit q) h (Res w k n p) ∙ or-false (is_submitted_at h q)))
        (sym (list_any-snoc (is_discard q) h (Res w k n p) ∙ or-false (is_discarded_at h q))) b.busy;
  })
  | inr new ↦ inr (sym new)
]

-- an entry that neither grants nor commits changes no busy record
quiet : (h : List Entry) (e : Entry) (book : HandBook) → ((p w k n : ℕ) → Res w k n p ≡ e → ⊥) → ((p : ℕ) → is_submit p e ≡ false) → ((p : ℕ) → is_discard p e ≡ false) → IsBookOf book h → IsBookOf book (h ++ e ∷ [])
quiet h e book other s d is = record {
  out_is_busy = λ w g o at. busy-after h e o.pos w o.serial o.len (s o.pos) (d o.pos) (is.out_is_busy w g o at);
  busy_is_out = λ p w k n b. is.busy_is_out p w k n (busy-before h e p w k n (other p w k n) (s p) (d p) b);
  each_once = is.each_once;
}

not-full : (p w k n v m : ℕ) → Res w k n p ≡ Full v m → ⊥
not-full p w k n v m e = cc

not-sub : (p w k n q : ℕ) → Res w k n p ≡ Sub q → ⊥
not-sub p w k n q e = cc

not-dis : (p w k n q : ℕ) → Res w k n p ≡ Dis q → ⊥
not-dis p w k n q e = cc

not-take : (p w k n q : ℕ) → Res w k n p ≡ Take q → ⊥
not-take p w k n q e = cc

-- ---- hands

none-out : (x : OutRecord) → ◌≡◌ {A = Option OutRecord} None (Some x) → ⊥
none-out x e = cc

pub some-out : (x y : OutRecord) → ◌≡◌ {A = Option OutRecord} (Some x) (Some y) → x ≡ y
some-out x y e = cc

past-hands : (hands : Hands) (h : ℕ) → length hands ≤ h → in_hand hands h ≡ None
past-hands hands h far = get_or_past hands h None far

abbrev pub entry-worker : Entry → ℕ
entry-worker (Res w k n p) = w
entry-worker _ = 0

abbrev entry-serial : Entry → ℕ
entry-serial (Res w k n p) = k
entry-serial _ = 0

abbrev entry-length : Entry → ℕ
entry-length (Res w k n p) = n
entry-length _ = 0

abbrev entry-position : Entry → ℕ
entry-position (Res w k n p) = p
entry-position _ = 0

-- a list can be split at an element that it contains
contains_split : (h : List Entry) (e : Entry) → Contains h e → (before : List Entry) × (after : List Entry) × (h ≡ before ++ e ∷ after)
contains_split [] e (i, l, is) = absurd (omega arith)
contains_split (x ∷ h) e (zero, l, is) = ([], h, ap (λ y. y ∷ h) is)
contains_split (x ∷ h) e (suc i, l, is) = let c = contains_split h e (i, omega arith, is) in (x ∷ c.0, c.1, ap (λ t. x ∷ t) c.2)

-- ---- an entry that commits a busy record

-- a busy record that was submitted or discarded is no longer busy
pub no-more : (h : List Entry) (e : Entry) (p w k n : ℕ) → (is_submit p e || is_discard p e) ≡ true → IsBusy (h ++ e ∷ []) p w k n → ⊥
no-more h e p w k n settles b =
    let parts = busy-parts (is_submitted_at (h ++ e ∷ []) p) (is_discarded_at (h ++ e ∷ []) p) (is_taken_at (h ++ e ∷ []) p) b.busy in
    let s = or_parts (is_submitted_at h p) (is_submit p e) (sym (list_any-snoc (is_submit p) h e) ∙ parts.0) in
    let d = or_parts (is_discarded_at h p) (is_discard p e) (sym (list_any-snoc (is_discard p) h e) ∙ parts.1) in
    true≢false (sym settles ∙ or_from (is_submit p e) (is_discard p e) s.1 d.1)

module _ (r : Setup) (h : List Entry) (book : HandBook) (legal : IsLegal r h) (shaped : IsShaped r.workers book) (is : IsBookOf book h) where
  -- a worker that has a record is one of the ring's workers
  pub in-ring : (w k n p : ℕ) → Contains h (Res w k n p) → w < r.workers
  in-ring w k n p there = let c = contains_split h (Res w k n p) there in (legal.each c.0 (Res w k n p) c.1 c.2).0

  pub below-four : (w hand : ℕ) (o : OutRecord) → w < r.workers → hand_at book w hand ≡ Some o → hand < 4
  below-four w hand o low at = elim (cases_lt hand 4) [
    | inl near ↦ near
    | inr far ↦ absurd (none-out o (sym (past-hands (hands_of book w) hand (subst (λ n. n ≤ hand) (sym (shaped.four w low)) far)) ∙ at))
  ]

  -- the busy record of a hand is committed, and the hand is free
  settled : (e : Entry) (w hand : ℕ) (o : OutRecord) → hand_at book w hand ≡ Some o → ((p u k n : ℕ) → Res u k n p ≡ e → ⊥) → (is_submit o.pos e || is_discard o.pos e) ≡ true
      → ((p : ℕ) → p ≢ o.pos → (is_submit p e ≡ false) × (is_discard p e ≡ false)) → IsBookOf (with_hand book w hand None) (h ++ e ∷ [])
  settled e w hand o at other settles off =
      let was = is.out_is_busy w hand o at in
      let low = in-ring w o.serial o.len o.pos was.granted_is in
      let four = below-four w hand o low at in
      let there = hand-there r.workers book shaped w hand low None in
      let here = hand-here r.workers book shaped w hand low four None in
      let still = λ (v g : ℕ) (x : OutRecord) (a : hand_at (with_hand book w hand None) v g ≡ Some x). still-there v g x a in
      record {
        out_is_busy = λ v g x a.
            let s = still v g x a in
            let apart = off x.pos s.1 in
            busy-after h e x.pos v x.serial x.len apart.0 apart.1 (is.out_is_busy v g x s.0);
        busy_is_out = λ p v k n b.
            let distinct : p ≢ o.pos = λ same. no-more h e p v k n (ap (λ q. is_submit q e || is_discard q e) same ∙ settles) b in
            let apart = off p distinct in
            let old = is.busy_is_out p v k n (busy-before h e p v k n (other p v k n) apart.0 apart.1 b) in
            (old.0, there v old.0 (λ same same_hand. distinct (ap (λ (y : OutRecord). y.pos) (some-out (out_record p k n) o (sym old.1 ∙ (λ i. hand_at book (same i) (same_hand i)) ∙ at)))) ∙ old.1);
        each_once = λ v u g f x y a b same. is.each_once v u g f x y (still v g x a).0 (still u f y b).0 same;
      }
    where
      still-there : (v g : ℕ) (x : OutRecord) → hand_at (with_hand book w hand None) v g ≡ Some x → (hand_at book v g ≡ Some x) × (x.pos ≢ o.pos)
      still-there v g x a =
          let was = is.out_is_busy w hand o at in
          let low = in-ring w o.serial o.len o.pos was.granted_is in
          let four = below-four w hand o low at in
          let not_it : v ≡ w → g ≡ hand → ⊥ = λ same same_hand. none-out x (sym (hand-here r.workers book shaped w hand low four None) ∙ (λ i. hand_at (with_hand book w hand None) (sym same i) (sym same_hand i)) ∙ a) in
          let old = sym (hand-there r.workers book shaped w hand low None v g not_it) ∙ a in
          (old, λ same. let once = is.each_once v w g hand x o old at same in not_it once.0 once.1)

  -- ---- an entry that grants

  module _ (w k n p : ℕ) (longer : IsLegal r (h ++ Res w k n p ∷ [])) where
    elsewhere : (x : OutRecord) (v g : ℕ) → hand_at book v g ≡ Some x → x.pos ≢ p
    elsewhere x v g at = other-place r h legal w k n p longer x.pos v x.serial x.len (is.out_is_busy v g x at)

    module _ (low : w < r.workers) (hand : ℕ) (free : IsFree (hands_of book w) hand) where
      there : (v g : ℕ) → (v ≡ w → g ≡ hand → ⊥) → hand_at (with_hand book w hand (Some (out_record p k n))) v g ≡ hand_at book v g
      there = hand-there r.workers book shaped w hand low (Some (out_record p k n))

      here : hand_at (with_hand book w hand (Some (out_record p k n))) w hand ≡ Some (out_record p k n)
      here = hand-here r.workers book shaped w hand low free.below (Some (out_record p k n))

      -- the content of a hand was in it before, or is the new record
      cases-now : (v g : ℕ) (x : OutRecord) → hand_at (with_hand book w hand (Some (out_record p k n))) v g ≡ Some x
          → (hand_at book v g ≡ Some x) ⊎ ((v ≡ w) × (g ≡ hand) × (x ≡ out_record p k n))
      cases-now v g x at = elim (cases_eq v w) [
        | inl same ↦ elim (cases_eq g hand) [
          | inl same_hand ↦ inr (same, same_hand, sym (some-out (out_record p k n) x (sym here ∙ (λ i. hand_at (with_hand book w hand (Some (out_record p k n))) (sym same i) (sym same_hand i)) ∙ at)))
          | inr other ↦ inl (sym (there v g (λ _ e. other e)) ∙ at)
        ]
        | inr other ↦ inl (sym (there v g (λ e _. other e)) ∙ at)
      ]

      pub granted : IsBookOf (with_hand book w hand (Some (out_record p k n))) (h ++ Res w k n p ∷ [])
      granted = record {
        out_is_busy = λ v g x at. elim (cases-now v g x at) [
          | inl old ↦ busy-after h (Res w k n p) x.pos v x.serial x.len refl refl (is.out_is_busy v g x old)
          | inr new ↦ subst (λ y. IsBusy (h ++ Res w k n p ∷ []) y.pos v y.serial y.len) (sym new.2) (subst (λ u. IsBusy (h ++ Res w k n p ∷ []) p u k n) (sym new.0) (new-busy r h legal w k n p longer))
        ];
        busy_is_out = λ q v j m b. elim (busy-cases h w k n p q v j m b) [
          | inl old ↦
              let o = is.busy_is_out q v j m old in
              let not_it : v ≡ w → o.0 ≡ hand → ⊥ = λ same same_hand. none-out (out_record q j m) (sym free.free ∙ (λ i. hand_at book (sym same i) (sym same_hand i)) ∙ o.1) in
              (o.0, there v o.0 not_it ∙ o.1)
          | inr new ↦ (hand, same-entry v j m q new)
        ];
        each_once = λ v u g f x y a b same. elim (cases-now v g x a) [
          | inl old ↦ elim (cases-now u f y b) [
            | inl old' ↦ is.each_once v u g f x y old old' same
            | inr new' ↦ absurd (elsewhere x v g old (same ∙ ap (λ (z : OutRecord). z.pos) new'.2))
          ]
          | inr new ↦ elim (cases-now u f y b) [
            | inl old' ↦ absurd (elsewhere y u f old' (sym same ∙ ap (λ (z : OutRecord). z.pos) new.2))
            | inr new' ↦ (new.0 ∙ sym new'.0, new.1 ∙ sym new'.1)
          ]
        ];
      }
        where
          same-entry : (v j m q : ℕ) → Res v j m q ≡ Res w k n p → hand_at (with_hand book w hand (Some (out_record p k n))) v hand ≡ Some (out_record q j m)
          same-entry v j m q e =
              let a : v ≡ w = ap entry-worker e in
              let b : j ≡ k = ap entry-serial e in
              let c : m ≡ n = ap entry-length e in
              let d : q ≡ p = ap entry-position e in
              (λ i. hand_at (with_hand book w hand (Some (out_record p k n))) (a i) hand) ∙ here ∙ (λ i. Some (out_record (sym d i) (sym b i) (sym c i)))

  -- a record that is granted and submitted in one call is never busy between calls
  output : (w k n p : ℕ) → IsLegal r (h ++ Res w k n p ∷ Sub p ∷ []) → IsBookOf book (h ++ Res w k n p ∷ Sub p ∷ [])
  output w k n p longer =
      let mid = h ++ Res w k n p ∷ [] in
      let same : mid ++ Sub p ∷ [] ≡ h ++ Res w k n p ∷ Sub p ∷ [] = append_assoc h (Res w k n p ∷ []) (Sub p ∷ []) in
      let granted_legal : IsLegal r mid = legal-front r mid (Sub p ∷ []) (subst (IsLegal r) (sym same) longer) in
      subst (IsBookOf book) same (record {
        out_is_busy = λ v g x at.
            let apart = elsewhere w k n p granted_legal x v g at in
            busy-after mid (Sub p) x.pos v x.serial x.len (ne_eqb p x.pos (λ e. apart (sym e))) refl (busy-after h (Res w k n p) x.pos v x.serial x.len refl refl (is.out_is_busy v g x at));
        busy_is_out = λ q v j m b. elim (cases_eq q p) [
          | inl at ↦ absurd (no-more mid (Sub p) q v j m (or_left (p == q) false (eq-eqb p q (sym at))) b)
          | inr apart ↦ elim (busy-cases h w k n p q v j m (busy-before mid (Sub p) q v j m (not-sub q v j m p) (ne_eqb p q (λ e. apart (sym e))) refl b)) [
            | inl old ↦ is.busy_is_out q v j m old
            | inr new ↦ absurd (apart (ap entry-position new))
          ]
        ];
        each_once = is.each_once;
      })

pub book-goes-on : BookGoesOn
book-goes-on r h book legal shaped is = record {
  grants = λ w k n p hand longer low free. granted r h book legal shaped is w k n p longer low hand free;
  refuses = λ w n. quiet h (Full w n) book (λ p v k m. not-full p v k m w n) (λ p. refl) (λ p. refl) is;
  submits = λ w hand o at. settled r h book legal shaped is (Sub o.pos) w hand o at (λ p u k n. not-sub p u k n o.pos) (or_left (o.pos == o.pos) false (eq-eqb o.pos o.pos refl)) (λ p apart. (ne_eqb o.pos p (λ e. apart (sym e)), refl));
  discards = λ w hand o at. settled r h book legal shaped is (Dis o.pos) w hand o at (λ p u k n. not-dis p u k n o.pos) (eq-eqb o.pos o.pos refl) (λ p apart. (refl, ne_eqb o.pos p (λ e. apart (sym e))));
  outputs = λ w k n p longer. output r h book legal shaped is w k n p longer;
  takes = λ p longer. quiet h (Take p) book (λ q v k m. not-take q v k m p) (λ q. refl) (λ q. refl) is;
}
