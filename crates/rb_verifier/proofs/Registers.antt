-- Loops over the registers.
use Rattle.std.proofs.Common.{◌≡◌, ◌≢◌, ◌+◌, ◌<◌, ℕ, List, ◌++◌, length, map, take, drop, get_or, set, sym, ◌∙◌, ap, subst, arith, get_or-set_same, get_or-set_other, below_more, ⊎_elim}
use Rattle.std.proofs.lemmas.Bool.{cases_lt}
use Rattle.std.proofs.lemmas.List.{get_or_past, get_or_default}
use Rattle.std.proofs.lemmas.List.Edits.{map_over_more}
use Rattle.rb_verifier.specs.declared.value.Abs.{Abs}
use Rattle.rb_verifier.specs.declared.value.Abs.TheVariants.{Unreadable}
use Rattle.rb_verifier.specs.declared.state.AbsState.{AbsState}
use Rattle.rb_verifier.specs.KeptPointers.{known_in}
use Rattle.rb_verifier.specs.AbstractStates.{value_in}
use Rattle.rb_verifier.specs.Joins.{IsJoin}
use Rattle.rb_verifier.specs.inner.ValueJoins.{IsJoinValue}

-- one turn of a loop that maps a function over the values
pub changed_more : (f : Abs → Abs) (xs ys : List Abs) (i : ℕ) (x : Abs) → i < length xs → i < length ys → ys ≡ map f (take i xs) ++ drop i xs → x ≡ f (get_or ys i Unreadable) → set ys i x ≡ map f (take (i + 1) xs) ++ drop (i + 1) xs
changed_more f xs ys i x lt lt' h e =
    ap (λ y. set ys i y) e ∙ map_over_more f xs ys i (get_or ys i Unreadable) lt h (get_or_default ys i Unreadable (get_or ys i Unreadable) lt')

-- two states are joined register by register and place by place
pub join_by_values : (s t join : AbsState) → s.held ≡ t.held → join.held ≡ s.held → length s.values ≡ length t.values → length join.values ≡ length s.values → ((r : ℕ) → IsJoinValue (value_in s r) (value_in t r) (value_in join r)) → ((place : ℕ) → IsJoinValue (known_in s.places place) (known_in t.places place) (known_in join.places place)) → IsJoin s t join
join_by_values s t join same held count join_count each kept = record {
  left = record { held = cc; count = cc; values = λ r. (each r).left; places = λ place. (kept place).left };
  right = record { held = cc; count = cc; values = λ r. (each r).right; places = λ place. (kept place).right };
  least = λ u a b. record { held = cc (a.held); count = cc (a.count); values = λ r. (each r).least (value_in u r) (a.values r) (b.values r); places = λ place. (kept place).least (known_in u.places place) (a.places place) (b.places place) };
}

abbrev JoinedAt : List Abs → List Abs → List Abs → ℕ → Type 0
JoinedAt xs ys zs r = IsJoinValue (get_or xs r Unreadable) (get_or ys r Unreadable) (get_or zs r Unreadable)

pub joined_more : (xs ys zs : List Abs) (i : ℕ) (v : Abs) → i < length zs → get_or zs i Unreadable ≡ get_or xs i Unreadable → ((r : ℕ) → r < i → JoinedAt xs ys zs r) → IsJoinValue (get_or zs i Unreadable) (get_or ys i Unreadable) v → (r : ℕ) → r < i + 1 → JoinedAt xs ys (set zs i v) r
joined_more xs ys zs i v lt same below here =
    below_more (JoinedAt xs ys (set zs i v)) i
    (λ r k. let ne : r ≢ i = omega arith in subst (IsJoinValue (get_or xs r Unreadable) (get_or ys r Unreadable)) (sym (get_or-set_other zs i r v Unreadable ne)) (below r k))
    (subst (IsJoinValue (get_or xs i Unreadable) (get_or ys i Unreadable)) (sym (get_or-set_same zs i v Unreadable lt)) (subst (λ x. IsJoinValue x (get_or ys i Unreadable) v) same here))

-- a property holds for every register number if it holds for the eleven registers and for numbers without a register
pub everywhere : (P : Abs → Abs → Abs → Type 0) (xs ys zs : List Abs) → P Unreadable Unreadable Unreadable → length xs ≡ 11 → length ys ≡ 11 → length zs ≡ 11 → ((r : ℕ) → r < 11 → P (get_or xs r Unreadable) (get_or ys r Unreadable) (get_or zs r Unreadable)) → (r : ℕ) → P (get_or xs r Unreadable) (get_or ys r Unreadable) (get_or zs r Unreadable)
everywhere P xs ys zs past a b d below r =
    ⊎_elim (λ lt. below r lt)
    (λ le. rw (get_or_past xs r Unreadable (omega arith), get_or_past ys r Unreadable (omega arith), get_or_past zs r Unreadable (omega arith)) past)
    (cases_lt r 11)

pub unreadable_join : IsJoinValue Unreadable Unreadable Unreadable
unreadable_join = record { left = tt; right = tt; least = λ u a b. a }
