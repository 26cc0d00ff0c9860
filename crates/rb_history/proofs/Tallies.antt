-- The numbers of granted records that an implementation keeps for its workers.
use Rattle.std.proofs.Common.{◌≡◌, ℕ, zero, suc, ◌+◌, ◌*◌, ◌<◌, ◌≤◌, Bool, true, false, cond, eqb, List, [], ◌∷◌, ◌++◌, get_or, set, replicate, refl, sym, ap, ◌∙◌, inl, inr, arith}
use Rattle.std.specs.List.{sum_by}
use Rattle.std.proofs.lemmas.Bool.{cases_eq, eq-eqb, ne_eqb}
use Rattle.std.proofs.lemmas.List.{length-replicate, length-set, get_or-set_same, get_or-set_other, get_or_read}
use Rattle.rb_history.specs.declared.entries.Entry.{Entry}
use Rattle.rb_history.specs.declared.entries.Entry.TheVariants.{Res, Full, Sub, Dis, Take}
use Rattle.rb_history.specs.History.{grants, is_grant_of, granted_span}
use Rattle.rb_history.specs.inner.GrantCounts.{CountsGrants}
use Rattle.rb_history.proofs.Lists.{sum_by-snoc, sum_by-cons}

abbrev bit : Bool → ℕ
bit b = cond b 1 0

pub grants-snoc : (w : ℕ) (h : List Entry) (e : Entry) → is_grant_of w e ≡ false → grants w (h ++ e ∷ []) ≡ grants w h
grants-snoc w h e off = omega (arith, sum_by-snoc (λ y. bit (is_grant_of w y)) h e, none)
  where
    none : bit (is_grant_of w e) ≡ 0
    none = rw off refl

-- an entry that grants nothing
pub tally-quiet : (ns : List ℕ) (h : List Entry) (k : ℕ) (e : Entry) → ((w : ℕ) → is_grant_of w e ≡ false) → CountsGrants ns h k → CountsGrants ns (h ++ e ∷ []) k
tally-quiet ns h k e off t = record { all = t.all; each = λ w l. t.each w l ∙ sym (grants-snoc w h e (off w)) }

pub tally-grant : (ns : List ℕ) (h : List Entry) (k v s n p : ℕ) → v < k → s ≡ get_or ns v 0 → CountsGrants ns h k → CountsGrants (set ns v (s + 1)) (h ++ Res v s n p ∷ []) k
tally-grant ns h k v s n p l is t = record {
  all = length-set ns v (s + 1) ∙ t.all;
  each = λ w low. elim (cases_eq v w) [
    | inl same ↦
        let one : bit (is_grant_of w (Res v s n p)) ≡ 1 = rw (eq-eqb v w same) refl in
        let old : get_or ns v 0 ≡ grants w h = ap (λ x. get_or ns x 0) same ∙ t.each w low in
        ap (λ x. get_or (set ns v (s + 1)) x 0) (sym same) ∙ get_or-set_same ns v (s + 1) 0 (omega (arith, t.all, l))
        ∙ omega (arith, one, old, is, sum_by-snoc (λ y. bit (is_grant_of w y)) h (Res v s n p))
    | inr other ↦
        get_or-set_other ns v w (s + 1) 0 (λ e. other (sym e)) ∙ t.each w low ∙ sym (grants-snoc w h (Res v s n p) (ne_eqb v w other))
  ];
}

get-zeros : (k w : ℕ) → get_or (replicate {A = ℕ} k 0) w 0 ≡ 0
get-zeros zero w = refl
get-zeros (suc k) zero = refl
get-zeros (suc k) (suc w) = get-zeros k w

-- no worker was granted a record
pub tally-none : (k : ℕ) → CountsGrants (replicate {A = ℕ} k 0) [] k
tally-none k = record { all = length-replicate k 0; each = λ w l. get-zeros k w }

-- each record occupies at least eight bytes
pub grants-low : (w : ℕ) (h : List Entry) → 8 * grants w h ≤ sum_by granted_span h
grants-low w [] = omega arith
grants-low w (e ∷ h) = omega (arith, grants-low w h, one e, sum_by-cons granted_span e h, sum_by-cons (λ y. bit (is_grant_of w y)) e h)
  where
    at-most : (b : Bool) → bit b ≤ 1
    at-most true = omega arith
    at-most false = omega arith

    one : (x : Entry) → 8 * bit (is_grant_of w x) ≤ granted_span x
    one (Res v s n p) = omega (arith, at-most (eqb v w))
    one (Full v n) = omega arith
    one (Sub p) = omega arith
    one (Dis p) = omega arith
    one (Take p) = omega arith

-- the number that is read for a worker
pub serial-is : (ns : List ℕ) (h : List Entry) (k w x : ℕ) → CountsGrants ns h k → w < k → x ≡ get_or ns w x → x ≡ grants w h
serial-is ns h k w x t l is = get_or_read ns w x (omega (arith, t.all, l)) is 0 ∙ t.each w l
