-- Laws about lists that are related elementwise, and about counts that are added.
use Rattle.std.proofs.Common.{◌≡◌, ◌≢◌, ℕ, ◌+◌, ◌<◌, ◌||◌, Bool, true, false, List, [], ◌∷◌, ◌++◌, length, get_or, set, refl, sym, ap, ◌∙◌, subst, ⊎_elim, arith}
use Rattle.std.proofs.lemmas.Bool.{cases_eq}
use Rattle.std.proofs.lemmas.List.{get_or-set_same, get_or-set_other, get_or_default, get_or_append_left, get_or_push}
use Rattle.std.proofs.lemmas.List.Folds.{list_any-append}
use Rattle.std.proofs.lemmas.List.Sums.{sum_by-append}
use Rattle.std.specs.List.{list_any, sum_by}
use Rattle.rb_stream_worker.specs.Results.{raised}
use Rattle.rb_stream_worker.specs.declared.stream_counts.StreamCounts.{StreamCounts}
use Rattle.rb_stream.specs.inner.Counts.{AddsCounts, SameTables, below_of, other_of}

-- ---- lists

-- what holds for each element of two lists before one, and for that one, holds for each up to it
pub both_more : {A B : Type 0} (R : A → A → B → B → Type 0) (olds xs : List A) (starts ys : List B) (at : ℕ) (x new : A) (y later : B) → at < length xs → at < length ys → at < length olds → at < length starts
    → get_or olds at x ≡ x → get_or starts at y ≡ y → R x new y later → ((k : ℕ) (d : A) (e : B) → k < at → R (get_or olds k d) (get_or xs k d) (get_or starts k e) (get_or ys k e))
    → (k : ℕ) (d : A) (e : B) → k < at + 1 → R (get_or olds k d) (get_or (set xs at new) k d) (get_or starts k e) (get_or (set ys at later) k e)
both_more R olds xs starts ys at x new y later ix iy io is ex ey one before k d e below =
    ⊎_elim
    (λ (same : k ≡ at). subst (λ j. R (get_or olds j d) (get_or (set xs at new) j d) (get_or starts j e) (get_or (set ys at later) j e)) (sym same)
    (subst (λ a. R a (get_or (set xs at new) at d) (get_or starts at e) (get_or (set ys at later) at e)) (sym ex ∙ get_or_default olds at x d io)
    (subst (λ a. R x a (get_or starts at e) (get_or (set ys at later) at e)) (sym (get_or-set_same xs at new d ix))
    (subst (λ b. R x new b (get_or (set ys at later) at e)) (sym ey ∙ get_or_default starts at y e is)
    (subst (λ b. R x new y b) (sym (get_or-set_same ys at later e iy)) one)))))
    (λ (other : k ≢ at). subst (λ a. R (get_or olds k d) a (get_or starts k e) (get_or (set ys at later) k e)) (sym (get_or-set_other xs at k new d other))
    (subst (λ b. R (get_or olds k d) (get_or xs k d) (get_or starts k e) b) (sym (get_or-set_other ys at k later e other)) (before k d e (omega (arith, below, other)))))
    (cases_eq k at)

-- what holds for each element by its number, and for one that is appended, holds for each
pub each_appended : {A : Type 0} (P : ℕ → A → Type 0) (xs : List A) (n : ℕ) (x : A) → length xs ≡ n → ((k : ℕ) (d : A) → k < n → P k (get_or xs k d)) → P n x → (k : ℕ) (d : A) → k < n + 1 → P k (get_or (xs ++ x ∷ []) k d)
each_appended P xs n x len each last k d below =
    ⊎_elim
    (λ (same : k ≡ n). subst (λ j. P j (get_or (xs ++ x ∷ []) j d)) (sym same) (subst (P n) (sym (get_or_push xs x d n len)) last))
    (λ (other : k ≢ n). subst (P k) (sym (get_or_append_left xs (x ∷ []) d k (omega (arith, below, other, len)))) (each k d (omega (arith, below, other))))
    (cases_eq k n)

-- ---- counts

raised_none : (count : ℕ) → count ≡ raised count 0
raised_none count = omega arith

raised_both : (count n m : ℕ) → raised (raised count n) m ≡ raised count (n + m)
raised_both count n m = omega arith

or_assoc : (a b c : Bool) → ((a || b) || c) ≡ (a || (b || c))
or_assoc true b c = refl
or_assoc false b c = refl

or_false : (a : Bool) → a ≡ (a || false)
or_false true = refl
or_false false = refl

-- nothing was added
pub adds_none : (counts : StreamCounts) → AddsCounts [] counts counts
adds_none counts =
    record {
      same_tables = record { as_many = refl; bounds_same = λ p d inside. refl };
      below_are = λ p r d inside low. raised_none (below_of p r counts);
      other_are = λ p inside. raised_none (other_of p counts);
      contexts_is = raised_none counts.contexts;
      left_is = raised_none counts.left;
      unlogged_is = raised_none counts.unlogged;
      stopped_is = or_false counts.stopped;
    }

-- a number that was raised twice
raised_on : (f : StreamCounts → ℕ) (all : List StreamCounts) (one : StreamCounts) (old mid new : ℕ) → mid ≡ raised old (sum_by f all) → new ≡ raised mid (sum_by f (one ∷ [])) → new ≡ raised old (sum_by f (all ++ one ∷ []))
raised_on f all one old mid new first second =
    second ∙ (ap (λ n. raised n (sum_by f (one ∷ []))) first ∙ (raised_both old (sum_by f all) (sum_by f (one ∷ [])) ∙ ap (raised old) (sym (sum_by-append f all (one ∷ [])))))

-- these were added, and one more
pub adds_more : (all : List StreamCounts) (one a b c : StreamCounts) → AddsCounts all a b → AddsCounts (one ∷ []) b c → AddsCounts (all ++ one ∷ []) a c
adds_more all one a b c first second =
    let many : length b.results.items ≡ length a.results.items = first.same_tables.as_many in
    let stops = λ (x : StreamCounts). x.stopped in
    record {
      same_tables = record {
        as_many = second.same_tables.as_many ∙ many;
        bounds_same = λ p d inside. second.same_tables.bounds_same p d (omega (arith, inside, many)) ∙ first.same_tables.bounds_same p d inside;
      };
      below_are = λ p r d inside low.
          let width = first.same_tables.bounds_same p d inside in
          raised_on (below_of p r) all one (below_of p r a) (below_of p r b) (below_of p r c) (first.below_are p r d inside low) (second.below_are p r d (omega (arith, inside, many)) (omega (arith, low, width)));
      other_are = λ p inside. raised_on (other_of p) all one (other_of p a) (other_of p b) (other_of p c) (first.other_are p inside) (second.other_are p (omega (arith, inside, many)));
      contexts_is = raised_on (λ x. x.contexts) all one a.contexts b.contexts c.contexts first.contexts_is second.contexts_is;
      left_is = raised_on (λ x. x.left) all one a.left b.left c.left first.left_is second.left_is;
      unlogged_is = raised_on (λ x. x.unlogged) all one a.unlogged b.unlogged c.unlogged first.unlogged_is second.unlogged_is;
      stopped_is =
          second.stopped_is ∙ (ap (λ t. t || list_any stops (one ∷ [])) first.stopped_is
          ∙ (or_assoc a.stopped (list_any stops all) (list_any stops (one ∷ [])) ∙ ap (λ t. a.stopped || t) (sym (list_any-append stops all (one ∷ [])))));
    }

-- tables of the same sizes as those of a third
pub same_tables_on : (x a b : StreamCounts) → SameTables x a → SameTables b a → SameTables x b
same_tables_on x a b first second =
    record {
      as_many = first.as_many ∙ sym second.as_many;
      bounds_same = λ p d inside. first.bounds_same p d (omega (arith, inside, second.as_many)) ∙ sym (second.bounds_same p d (omega (arith, inside, second.as_many)));
    }
