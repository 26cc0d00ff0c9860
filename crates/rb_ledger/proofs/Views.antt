-- Laws of the views of all passes, and of their sums.
use Rattle.std.proofs.Common.{◌≡◌, ◌≢◌, ℕ, zero, suc, ◌+◌, ◌≤◌, true, List, [], ◌∷◌, ◌++◌, length, set, Some, None, sym, refl, ap, ◌∙◌, subst, ⊎_elim, append_assoc, append-nil, length-append, arith}
use mathlib.Core.Option.{some, some-injective, some-ne-none}
use lib.ListN.{get_elem?}
use Rattle.crossbeam_queue.proofs.Lists.{at_set}
use Rattle.rb_history.specs.RingModel.{Ring}
use Rattle.rb_ledger.specs.Roles.{Role}
use Rattle.rb_ledger.specs.Roles.Role.{Consumer, Worker}
use Rattle.rb_ledger.specs.RoleKnowledge.{RoleKnowledge, PassView, total, role_count, states_out, state_list, same_role}
use Rattle.rb_ledger.specs.inner.OpenedLock.{first_role, other_roles}

abbrev pub Everyone : (PassView → Type 0) → List PassView → Type 0
Everyone P views = (pass : ℕ) (v : PassView) → get_elem? views pass ≡ some v → P v

pub everyone_set : (P : PassView → Type 0) (views : List PassView) (pass : ℕ) (w : PassView) → P w → ((j : ℕ) (u : PassView) → j ≢ pass → get_elem? views j ≡ some u → P u) → Everyone P (set views pass w)
everyone_set P views pass w mine theirs j u e = ⊎_elim (λ (x : (j ≡ pass) × (w ≡ u)). subst P x.1 mine) (λ (x : (j ≢ pass) × (get_elem? views j ≡ some u)). theirs j u x.0 x.1) (at_set views pass j w u e)

pub total_set : (f : PassView → ℕ) (views : List PassView) (pass : ℕ) (v w : PassView) → get_elem? views pass ≡ some v → total f (set views pass w) + f v ≡ total f views + f w
total_set f [] pass v w at = absurd (some-ne-none v (sym at))
total_set f (x ∷ xs) zero v w at = let e : f x ≡ f v = ap f (some-injective x v at) in omega arith
total_set f (x ∷ xs) (suc n) v w at = let e = total_set f xs n v w at in omega arith

pub total_one : (f : PassView → ℕ) (views : List PassView) (pass : ℕ) (v : PassView) → get_elem? views pass ≡ some v → f v ≤ total f views
total_one f [] pass v at = absurd (some-ne-none v (sym at))
total_one f (x ∷ xs) zero v at = let e : f x ≡ f v = ap f (some-injective x v at) in omega arith
total_one f (x ∷ xs) (suc n) v at = let e = total_one f xs n v at in omega arith

pub total_two : (f : PassView → ℕ) (views : List PassView) (p q : ℕ) (v u : PassView) → q ≢ p → get_elem? views p ≡ some v → get_elem? views q ≡ some u → f v + f u ≤ total f views
total_two f [] p q v u ne at at' = absurd (some-ne-none v (sym at))
total_two f (x ∷ xs) zero zero v u ne at at' = absurd (ne refl)
total_two f (x ∷ xs) zero (suc q) v u ne at at' = let e : f x ≡ f v = ap f (some-injective x v at) in let t = total_one f xs q u at' in omega arith
total_two f (x ∷ xs) (suc p) zero v u ne at at' = let e : f x ≡ f u = ap f (some-injective x u at') in let t = total_one f xs p v at in omega arith
total_two f (x ∷ xs) (suc p) (suc q) v u ne at at' = let t = total_two f xs p q v u (λ e. ne (ap suc e)) at at' in omega arith

pub total_snoc : (f : PassView → ℕ) (views : List PassView) (w : PassView) → total f (views ++ w ∷ []) ≡ total f views + f w
total_snoc f [] w = omega arith
total_snoc f (x ∷ xs) w = let e = total_snoc f xs w in omega arith

pub total_none : (f : PassView → ℕ) (views : List PassView) → Everyone (λ v. f v ≡ 0) views → total f views ≡ 0
total_none f [] none = refl
total_none f (x ∷ xs) none = let e = total_none f xs (λ j u at. none (suc j) u at) in let h = none 0 x refl in omega arith

-- a state in the middle of a list of one
pub single : (xs ys : List Ring) (x r : Ring) → xs ++ x ∷ ys ≡ r ∷ [] → (xs ≡ []) × (x ≡ r) × (ys ≡ [])
single [] ys x r e = (refl, cc, cc)
single (z ∷ zs) ys x r e =
    let l : length (z ∷ (zs ++ x ∷ ys)) ≡ length (r ∷ []) = ap length e in
    let n = length-append zs (x ∷ ys) in
    absurd (omega arith)

pub both_nil : (xs ys : List Ring) → xs ++ ys ≡ [] → (xs ≡ []) × (ys ≡ [])
both_nil [] ys e = (refl, e)
both_nil (x ∷ xs) ys e = absurd (cc)

pub outs_same : (views : List PassView) (pass : ℕ) (v w : PassView) → get_elem? views pass ≡ some v → w.out ≡ v.out → states_out (set views pass w) ≡ states_out views
outs_same [] pass v w at same = refl
outs_same (x ∷ xs) zero v w at same = let e : v ≡ x = sym (some-injective x v at) in ap (λ o. state_list o ++ states_out xs) (same ∙ ap (λ (y : PassView). y.out) e)
outs_same (x ∷ xs) (suc n) v w at same = ap (λ os. state_list x.out ++ os) (outs_same xs n v w at same)

pub outs_put : (views : List PassView) (pass : ℕ) (v w : PassView) → get_elem? views pass ≡ some v → states_out views ≡ [] → states_out (set views pass w) ≡ state_list w.out
outs_put [] pass v w at none = absurd (some-ne-none v (sym at))
outs_put (x ∷ xs) zero v w at none = ap (λ os. state_list w.out ++ os) (both_nil (state_list x.out) (states_out xs) none).1 ∙ append-nil (state_list w.out)
outs_put (x ∷ xs) (suc n) v w at none = let b = both_nil (state_list x.out) (states_out xs) none in ap (λ os. os ++ states_out (set xs n w)) b.0 ∙ outs_put xs n v w at b.1

-- one pass holds r, and others hold the states before and after it
pub outs_take : (views : List PassView) (pass : ℕ) (v w : PassView) (r : Ring) → get_elem? views pass ≡ some v → v.out ≡ Some r → w.out ≡ None
    → (a : List Ring) × (b : List Ring) × (states_out views ≡ a ++ r ∷ b) × (states_out (set views pass w) ≡ a ++ b)
outs_take [] pass v w r at has none = absurd (some-ne-none v (sym at))
outs_take (x ∷ xs) zero v w r at has none =
    let e : x.out ≡ Some r = ap (λ (y : PassView). y.out) (some-injective x v at) ∙ has in
    ([], states_out xs, ap (λ o. state_list o ++ states_out xs) e, ap (λ o. state_list o ++ states_out xs) none)
outs_take (x ∷ xs) (suc n) v w r at has none =
    let t = outs_take xs n v w r at has none in
    (state_list x.out ++ t.0, t.1, ap (λ os. state_list x.out ++ os) t.2 ∙ sym (append_assoc (state_list x.out) t.0 (r ∷ t.1)), ap (λ os. state_list x.out ++ os) t.3 ∙ sym (append_assoc (state_list x.out) t.0 t.1))

pub outs_snoc : (views : List PassView) (w : PassView) → w.out ≡ None → states_out (views ++ w ∷ []) ≡ states_out views
outs_snoc [] w none = ap (λ o. state_list o ++ []) none
outs_snoc (x ∷ xs) w none = ap (λ os. state_list x.out ++ os) (outs_snoc xs w none)

pub times_append : (role : Role) (xs ys : List RoleKnowledge) → role_count role (xs ++ ys) ≡ role_count role xs + role_count role ys
times_append role [] ys = omega arith
times_append role (x ∷ xs) ys = let e = times_append role xs ys in omega arith

pub times_cut : (role : Role) (ks : List RoleKnowledge) → role_count role (other_roles ks) + role_count role (first_role ks) ≡ role_count role ks
times_cut role [] = refl
times_cut role (k ∷ ks) = omega arith

pub same_role-refl : (role : Role) → same_role role role ≡ true
same_role-refl Consumer = refl
same_role-refl (Worker w) = grind arith
