-- How an entry changes which records are busy.
use Rattle.std.proofs.Common.{◌≡◌, ◌≢◌, ℕ, zero, suc, ◌<◌, ◌≤◌, Bool, true, false, cond, ◌||◌, List, [], ◌∷◌, ◌++◌, refl, sym, ap, subst, ◌∙◌, ◌⊎◌, inl, inr, arith}
use Rattle.std.specs.Prelude.{count_by}
use Rattle.std.specs.List.{Contains}
use Rattle.std.proofs.lemmas.Bool.{eq-eqb, ne_eqb, true≢false, false_from_ne_true}
use Rattle.std.proofs.lemmas.List.Elements.{Contains-append_left, Contains-push, Contains-push_cases}
use Rattle.rb_verifier.proofs.Counting.{count_by-cons}
use Rattle.rb_history.specs.declared.entries.Entry.{Entry}
use Rattle.rb_history.specs.declared.entries.Entry.TheVariants.{Res, Full, Sub, Dis, Take}
use Rattle.rb_history.specs.History.{status_by, status_of, is_submit, is_discard, is_grant_at, is_granted_at, is_submitted_at, is_discarded_at, is_taken_at, producer_of}
use Rattle.rb_history.specs.History.Status.{Busy}
use Rattle.rb_history.specs.RoomRule.{Setup}
use Rattle.rb_history.specs.Legal.{IsLegal}
use Rattle.rb_history.specs.Calls.{IsBusy}
use Rattle.rb_history.proofs.Lists.{list_any-snoc}
use Rattle.rb_history.proofs.Exact.{granted-below, granted-from}
use Rattle.rb_history.proofs.Laws.{KeptAs, kept-from-legal}

-- ---- a record is busy if it was granted and neither submitted nor discarded

pub record IsOpen (h : List Entry) (q : ℕ) : Type 0 where
  pub not_submitted : is_submitted_at h q ≡ false
  pub not_discarded : is_discarded_at h q ≡ false

open-by : (h : List Entry) (q : ℕ) (s d t : Bool) → is_submitted_at h q ≡ s → is_discarded_at h q ≡ d → status_by s d t ≡ Busy → IsOpen h q
open-by h q s true t e f b = absurd (cc)
open-by h q true false true e f b = absurd (cc)
open-by h q true false false e f b = absurd (cc)
open-by h q false false t e f b = record { not_submitted = e; not_discarded = f }

pub busy-open : (h : List Entry) (q : ℕ) → status_of h q ≡ Busy → IsOpen h q
busy-open h q b = open-by h q (is_submitted_at h q) (is_discarded_at h q) (is_taken_at h q) refl refl b

pub open-busy : (h : List Entry) (q : ℕ) → IsOpen h q → status_of h q ≡ Busy
open-busy h q o = rw (o.not_submitted, o.not_discarded) refl

or-none : (a b : Bool) → (a || b) ≡ false → (a ≡ false) × (b ≡ false)
or-none true b e = absurd (cc)
or-none false b e = (refl, e)

-- an entry that does not end the record leaves it busy
pub busy-push : (h : List Entry) (e : Entry) (q w k n : ℕ) → IsBusy h q w k n → is_submit q e ≡ false → is_discard q e ≡ false → IsBusy (h ++ e ∷ []) q w k n
busy-push h e q w k n b s d =
    let o = busy-open h q b.busy in
    record {
      granted_is = Contains-append_left h (e ∷ []) (Res w k n q) b.granted_is;
      busy = open-busy (h ++ e ∷ []) q (record {
        not_submitted = list_any-snoc (is_submit q) h e ∙ rw (o.not_submitted, s) refl;
        not_discarded = list_any-snoc (is_discard q) h e ∙ rw (o.not_discarded, d) refl;
      });
    }

-- a record that is busy after an entry was not ended by it, and was busy before or is granted by it
pub record WasBusy (h : List Entry) (e : Entry) (q w k n : ℕ) : Type 0 where
  pub not_submitted : is_submit q e ≡ false
  pub not_discarded : is_discard q e ≡ false
  pub before : IsBusy h q w k n ⊎ (e ≡ Res w k n q)

pub busy-pop : (h : List Entry) (e : Entry) (q w k n : ℕ) → IsBusy (h ++ e ∷ []) q w k n → WasBusy h e q w k n
busy-pop h e q w k n b =
    let o = busy-open (h ++ e ∷ []) q b.busy in
    let s = or-none (is_submitted_at h q) (is_submit q e) (sym (list_any-snoc (is_submit q) h e) ∙ o.not_submitted) in
    let d = or-none (is_discarded_at h q) (is_discard q e) (sym (list_any-snoc (is_discard q) h e) ∙ o.not_discarded) in
    record {
      not_submitted = s.1;
      not_discarded = d.1;
      before = elim (Contains-push_cases h e (Res w k n q) b.granted_is) [
        | inl there ↦ inl (record { granted_is = there; busy = open-busy h q (record { not_submitted = s.0; not_discarded = d.0 }) })
        | inr here ↦ inr here
      ];
    }

-- ---- the effect of a call on the busy records

pub record SameBusy (h g : List Entry) : Type 0 where
  pub stay : (q w k n : ℕ) → IsBusy h q w k n → IsBusy g q w k n
  pub back : (q w k n : ℕ) → IsBusy g q w k n → IsBusy h q w k n

pub record OneMore (h g : List Entry) (p w k n : ℕ) : Type 0 where
  pub new : IsBusy g p w k n
  pub fresh : (v j m : ℕ) → IsBusy h p v j m → ⊥
  pub stay : (q v j m : ℕ) → IsBusy h q v j m → IsBusy g q v j m
  pub back : (q v j m : ℕ) → IsBusy g q v j m → IsBusy h q v j m ⊎ ((q ≡ p) × (v ≡ w) × (j ≡ k))

pub record OneLess (h g : List Entry) (p : ℕ) : Type 0 where
  pub stay : (q w k n : ℕ) → q ≢ p → IsBusy h q w k n → IsBusy g q w k n
  pub back : (q w k n : ℕ) → IsBusy g q w k n → (q ≢ p) × IsBusy h q w k n

not-res : (e : Entry) (w k n p : ℕ) → is_grant_at p e ≡ false → e ≡ Res w k n p → ⊥
not-res e w k n p other is = true≢false (sym (eq-eqb p p refl) ∙ ap (is_grant_at p) (sym is) ∙ other)

pub same-full : (h : List Entry) (w n : ℕ) → SameBusy h (h ++ Full w n ∷ [])
same-full h w n = record {
  stay = λ q v k m b. busy-push h (Full w n) q v k m b refl refl;
  back = λ q v k m b. elim ((busy-pop h (Full w n) q v k m b).before) [ inl was ↦ was | inr is ↦ absurd (not-res (Full w n) v k m q refl is) ];
}

pub same-take : (h : List Entry) (p : ℕ) → SameBusy h (h ++ Take p ∷ [])
same-take h p = record {
  stay = λ q v k m b. busy-push h (Take p) q v k m b refl refl;
  back = λ q v k m b. elim ((busy-pop h (Take p) q v k m b).before) [ inl was ↦ was | inr is ↦ absurd (not-res (Take p) v k m q refl is) ];
}

res-parts : (w k n p v j m q : ℕ) → Res w k n p ≡ Res v j m q → (q ≡ p) × (v ≡ w) × (j ≡ k)
res-parts w k n p v j m q e = (cc, cc, cc)

pub not-granted : (r : Setup) (h : List Entry) → IsLegal r h → is_granted_at h (producer_of r.start h) ≡ true → ⊥
not-granted r h l g =
    let k : KeptAs r h = kept-from-legal r h l in
    let low : producer_of r.start h < producer_of r.start h = granted-below h (producer_of r.start h) (producer_of r.start h) k.below g in omega arith

pub not-settled : (r : Setup) (h : List Entry) → IsLegal r h → IsOpen h (producer_of r.start h)
not-settled r h l =
    let k : KeptAs r h = kept-from-legal r h l in
    let p = producer_of r.start h in
    let none : (is_submitted_at h p || is_discarded_at h p) ≡ false = false_from_ne_true (is_submitted_at h p || is_discarded_at h p) (λ t. not-granted r h l (k.named p t)) in
    let each = or-none (is_submitted_at h p) (is_discarded_at h p) none in
    record { not_submitted = each.0; not_discarded = each.1 }

pub more-res : (r : Setup) (h : List Entry) (p w k n : ℕ) → IsLegal r h → p ≡ producer_of r.start h → OneMore h (h ++ Res w k n p ∷ []) p w k n
more-res r h p w k n l at =
    let e = Res w k n p in
    let o : IsOpen h p = subst (IsOpen h) (sym at) (not-settled r h l) in
    record {
      new = record {
        granted_is = Contains-push h e;
        busy = open-busy (h ++ e ∷ []) p (record {
          not_submitted = list_any-snoc (is_submit p) h e ∙ rw o.not_submitted refl;
          not_discarded = list_any-snoc (is_discard p) h e ∙ rw o.not_discarded refl;
        });
      };
      fresh = λ v j m b. not-granted r h l (subst (λ q. is_granted_at h q ≡ true) at (granted-from h v j m p b.granted_is));
      stay = λ q v j m b. busy-push h e q v j m b refl refl;
      back = λ q v j m b. elim ((busy-pop h e q v j m b).before) [ inl was ↦ inl was | inr is ↦ inr (res-parts w k n p v j m q is) ];
    }

pub less-sub : (h : List Entry) (p : ℕ) → OneLess h (h ++ Sub p ∷ []) p
less-sub h p = record {
  stay = λ q v k m ne b. busy-push h (Sub p) q v k m b (ne_eqb p q (λ e. ne (sym e))) refl;
  back = λ q v k m b.
      let was = busy-pop h (Sub p) q v k m b in
      let ne : q ≢ p = λ e. true≢false (sym (eq-eqb p q (sym e)) ∙ was.not_submitted) in
      elim (was.before) [ inl there ↦ (ne, there) | inr is ↦ absurd (not-res (Sub p) v k m q refl is) ];
}

pub less-dis : (h : List Entry) (p : ℕ) → OneLess h (h ++ Dis p ∷ []) p
less-dis h p = record {
  stay = λ q v k m ne b. busy-push h (Dis p) q v k m b refl (ne_eqb p q (λ e. ne (sym e)));
  back = λ q v k m b.
      let was = busy-pop h (Dis p) q v k m b in
      let ne : q ≢ p = λ e. true≢false (sym (eq-eqb p q (sym e)) ∙ was.not_discarded) in
      elim (was.before) [ inl there ↦ (ne, there) | inr is ↦ absurd (not-res (Dis p) v k m q refl is) ];
}

-- a record that is made and submitted in one call
pub same-output : (r : Setup) (h : List Entry) (p w k n : ℕ) → IsLegal r h → p ≡ producer_of r.start h → SameBusy h ((h ++ Res w k n p ∷ []) ++ Sub p ∷ [])
same-output r h p w k n l at =
    let m = more-res r h p w k n l at in
    let s = less-sub (h ++ Res w k n p ∷ []) p in
    record {
      stay = λ q v j i b. s.stay q v j i (λ e. m.fresh v j i (subst (λ x. IsBusy h x v j i) e b)) (m.stay q v j i b);
      back = λ q v j i b. let one = s.back q v j i b in elim (m.back q v j i one.1) [ inl was ↦ was | inr is ↦ absurd (one.0 is.0) ];
    }

-- ---- one grant at each position

count_some : {X : Type 0} (t : X → Bool) (xs : List X) (x : X) → Contains xs x → t x ≡ true → 1 ≤ count_by t xs
count_some t [] x (i, lt, is) e = absurd (omega arith)
count_some t (y ∷ xs) x (zero, lt, is) e = let one : cond {A = ℕ} (t y) 1 0 ≡ 1 = ap (λ (b : Bool). cond {A = ℕ} b 1 0) (ap t is ∙ e) in let whole = count_by-cons t y xs in omega arith
count_some t (y ∷ xs) x (suc i, lt, is) e = let rest : 1 ≤ count_by t xs = count_some t xs x (i, omega arith, is) e in let whole = count_by-cons t y xs in omega arith

only : {X : Type 0} (t : X → Bool) (xs : List X) (x y : X) → count_by t xs ≤ 1 → Contains xs x → t x ≡ true → Contains xs y → t y ≡ true → x ≡ y
only t [] x y one (i, lt, is) e c f = absurd (omega arith)
only t (z ∷ xs) x y one (zero, lt, is) e (zero, low, at) f = sym is ∙ at
only t (z ∷ xs) x y one (zero, lt, is) e (suc j, low, at) f =
    let here : cond {A = ℕ} (t z) 1 0 ≡ 1 = ap (λ (b : Bool). cond {A = ℕ} b 1 0) (ap t is ∙ e) in
    let rest : 1 ≤ count_by t xs = count_some t xs y (j, omega arith, at) f in let whole = count_by-cons t z xs in absurd (omega arith)
only t (z ∷ xs) x y one (suc i, lt, is) e (zero, low, at) f =
    let here : cond {A = ℕ} (t z) 1 0 ≡ 1 = ap (λ (b : Bool). cond {A = ℕ} b 1 0) (ap t at ∙ f) in
    let rest : 1 ≤ count_by t xs = count_some t xs x (i, omega arith, is) e in let whole = count_by-cons t z xs in absurd (omega arith)
only t (z ∷ xs) x y one (suc i, lt, is) e (suc j, low, at) f = let whole = count_by-cons t z xs in only t xs x y (omega arith) (i, omega arith, is) e (j, omega arith, at) f

-- a grant at a position has one worker, one serial and one length
pub one-grant : (r : Setup) (h : List Entry) (p w k n v j m : ℕ) → IsLegal r h → Contains h (Res w k n p) → Contains h (Res v j m p) → (w ≡ v) × (k ≡ j) × (n ≡ m)
one-grant r h p w k n v j m l a b =
    let kept : KeptAs r h = kept-from-legal r h l in
    let one : count_by (is_grant_at p) h ≡ 1 = kept.single p (granted-from h w k n p a) in
    let same : Res w k n p ≡ Res v j m p = only (is_grant_at p) h (Res w k n p) (Res v j m p) (omega arith) a (eq-eqb p p refl) b (eq-eqb p p refl) in
    (cc, cc, cc)

-- a busy record has one worker, one serial and one length
pub one-record : (r : Setup) (h : List Entry) (p w k n v j m : ℕ) → IsLegal r h → IsBusy h p w k n → IsBusy h p v j m → (w ≡ v) × (k ≡ j) × (n ≡ m)
one-record r h p w k n v j m l a b = one-grant r h p w k n v j m l a.granted_is b.granted_is
