-- What is given of the contexts that arrived, and what is counted.
use Rattle.std.proofs.Common.{◌≡◌, ℕ, ◌+◌, ◌-◌, ◌<◌, ◌≤◌, Bool, true, false, cond, eqb, leb, ltb, not, min, List, [], ◌∷◌, ◌++◌, length, take, replicate, map, refl, sym, ap, ◌∙◌, arith, zero-add}
use Rattle.std.proofs.Math.Seq.{take-take}
use Rattle.std.proofs.lemmas.Bool.Decides.{nat_tests}
use Rattle.std.specs.Int.{w32, to_le_bytes}
use Rattle.std.specs.List.{count_by, filter}
use Rattle.std.proofs.lemmas.List.{map-append}
use Rattle.std.proofs.lemmas.List.Elements.{filter-append}
use Rattle.std.proofs.lemmas.List.Sums.{sum_by-append}
use Rattle.rb_source.specs.declared.form.Fit.{Fit}
use Rattle.rb_source.specs.declared.form.Fit.TheVariants.{Exact, Pad, Cut}
use Rattle.rb_source.specs.declared.form.Form.{Form}
use Rattle.rb_source.specs.declared.counts.ContextCounts.{ContextCounts}
use Rattle.rb_source.specs.Stream.{AreCounts}
use Rattle.rb_source.specs.Form.{fits, is_cut, is_given, formed, context_of, contexts_of, counts_after, form_len, largest_u32, saturated, IsForm}
use Rattle.rb_source.specs.inner.Counted.{counted_by, given_by, IsKnownBy}

same_eq : (len n : ℕ) → len ≤ 65536 → eqb (min n largest_u32) len ≡ eqb n len
same_eq len n b = grind (arith, nat_tests)

same_le : (len n : ℕ) → len ≤ 65536 → leb (min n largest_u32) len ≡ leb n len
same_le len n b = grind (arith, nat_tests)

same_lt : (len n : ℕ) → len ≤ 65536 → ltb len (min n largest_u32) ≡ ltb len n
same_lt len n b = grind (arith, nat_tests)

-- the length of a context determines whether it is given and cut, also as a u32
fits_known : (fit : Fit) (len n : ℕ) → len ≤ 65536 → fits fit len (min n largest_u32) ≡ fits fit len n
fits_known Exact len n b = same_eq len n b
fits_known Pad len n b = same_le len n b
fits_known Cut len n b = refl

cut_known : (fit : Fit) (len n : ℕ) → len ≤ 65536 → is_cut fit len (min n largest_u32) ≡ is_cut fit len n
cut_known Exact len n b = refl
cut_known Pad len n b = refl
cut_known Cut len n b = same_lt len n b

bare_len : (b : Bool) (len : ℕ) → cond b (len + 4) len ≤ 65536 → len ≤ 65536
bare_len true len h = omega arith
bare_len false len h = h

-- the requested length is at most 65,536
pub len_small : (form : Form) → IsForm form → form.len ≤ 65536
len_small form f = bare_len form.with_length form.len f

-- the front determines the context
formed_known : (form : Form) (came front : List ℕ) (total : ℕ) → IsKnownBy form.len came front total → formed form front total ≡ context_of form came
formed_known form came front total k =
    let n = min total form.len in
    let less : n ≤ form.len = omega arith in
    let same : take n front ≡ take n came = sym (take-take n form.len front less) ∙ ap (take n) k.front_is ∙ take-take n form.len came less in
    ap (λ f. cond form.with_length (to_le_bytes w32 total) [] ++ (f ++ replicate (form.len - n) 0)) same
    ∙ ap (formed form came) k.total_is

one_counts : (p : List ℕ → Bool) (came : List ℕ) (b : Bool) → b ≡ p came → cond b 1 0 ≡ count_by p (came ∷ [])
one_counts p came b e = ap (λ v. cond v 1 0) e ∙ sym (zero-add (cond (p came) 1 0))

one_given : (form : Form) (came context : List ℕ) (b : Bool) → b ≡ is_given form came → context ≡ context_of form came → cond b (context ∷ []) [] ≡ contexts_of form (came ∷ [])
one_given form came context true e f = ap (λ c. c ∷ []) f ∙ ap (λ b. map (context_of form) (cond b (came ∷ []) [])) e
one_given form came context false e f = ap (λ b. map (context_of form) (cond b (came ∷ []) [])) e

given_is : (form : Form) (came : List ℕ) (total : ℕ) → IsForm form → total ≡ min (length came) largest_u32 → fits form.fit form.len total ≡ is_given form came
given_is form came total lawful e = ap (fits form.fit form.len) e ∙ fits_known form.fit form.len (length came) (len_small form lawful)

cut_is : (form : Form) (came : List ℕ) (total : ℕ) → IsForm form → total ≡ min (length came) largest_u32 → is_cut form.fit form.len total ≡ is_cut form.fit form.len (length came)
cut_is form came total lawful e = ap (is_cut form.fit form.len) e ∙ cut_known form.fit form.len (length came) (len_small form lawful)

-- what is known about a context determines what is given, and what is counted
pub given_known : (form : Form) (came front : List ℕ) (total : ℕ) → IsForm form → IsKnownBy form.len came front total → given_by form front total ≡ contexts_of form (came ∷ [])
given_known form came front total lawful k =
    one_given form came (formed form front total) (fits form.fit form.len total) (given_is form came total lawful k.total_is) (formed_known form came front total k)

same_counts : (a b : ContextCounts) → a.given ≡ b.given → a.skipped ≡ b.skipped → a.cut ≡ b.cut → a ≡ b
same_counts a b e f g = λ i. record { given = e i; skipped = f i; cut = g i }

pub counted_known : (form : Form) (came front : List ℕ) (before : ContextCounts) (total : ℕ) → IsForm form → IsKnownBy form.len came front total → counted_by form before total ≡ counts_after form before (came ∷ [])
counted_known form came front before total lawful k =
    let g = given_is form came total lawful k.total_is in
    same_counts (counted_by form before total) (counts_after form before (came ∷ []))
    (ap (λ n. saturated (before.given + n)) (one_counts (is_given form) came (fits form.fit form.len total) g))
    (ap (λ n. saturated (before.skipped + n)) (one_counts (λ c. not (is_given form c)) came (not (fits form.fit form.len total)) (ap not g)))
    (ap (λ n. saturated (before.cut + n)) (one_counts (λ c. is_cut form.fit form.len (length c)) came (is_cut form.fit form.len total) (cut_is form came total lawful k.total_is)))

-- ---- counts of more than one

more_saturated : (g x y : ℕ) → saturated (g + (x + y)) ≡ saturated (saturated (g + x) + y)
more_saturated g x y = omega arith

count_more : (p : List ℕ → Bool) (g : ℕ) (xs ys : List (List ℕ)) → saturated (g + count_by p (xs ++ ys)) ≡ saturated (saturated (g + count_by p xs) + count_by p ys)
count_more p g xs ys = ap (λ n. saturated (g + n)) (sum_by-append (λ x. cond (p x) 1 0) xs ys) ∙ more_saturated g (count_by p xs) (count_by p ys)

pub counts_more : (form : Form) (before : ContextCounts) (xs ys : List (List ℕ)) → counts_after form before (xs ++ ys) ≡ counts_after form (counts_after form before xs) ys
counts_more form before xs ys = same_counts (counts_after form before (xs ++ ys)) (counts_after form (counts_after form before xs) ys)
    (count_more (is_given form) before.given xs ys)
    (count_more (λ c. not (is_given form c)) before.skipped xs ys)
    (count_more (λ c. is_cut form.fit form.len (length c)) before.cut xs ys)

pub counts_none : (form : Form) (before : ContextCounts) → AreCounts before → counts_after form before [] ≡ before
counts_none form before a = same_counts (counts_after form before []) before (omega (arith, a.given)) (omega (arith, a.skipped)) (omega (arith, a.cut))

pub counts_small : (form : Form) (before : ContextCounts) (xs : List (List ℕ)) → AreCounts (counts_after form before xs)
counts_small form before xs = record { given = omega arith; skipped = omega arith; cut = omega arith }

pub contexts_more : (form : Form) (xs ys : List (List ℕ)) → contexts_of form (xs ++ ys) ≡ contexts_of form xs ++ contexts_of form ys
contexts_more form xs ys = ap (map (context_of form)) (filter-append (is_given form) xs ys) ∙ map-append (context_of form) (filter (is_given form) xs) (filter (is_given form) ys)
