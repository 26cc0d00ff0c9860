-- The workers' totals in an opening.
use Rattle.std.proofs.Common.{◌≡◌, ℕ, zero, suc, ◌<◌, List, [], ◌∷◌, ◌++◌, length, get_or, map, replicate, refl, sym, ap, ◌∙◌, inl, inr, arith, add-one, length-append}
use Rattle.std.proofs.lemmas.Bool.{cases_lt}
use Rattle.std.proofs.lemmas.List.{map-append, get_or_append_left, get_or_push, get_or-map, replicate_more}
use Rattle.rb_history.specs.declared.entries.Entry.{Entry}
use Rattle.rb_history.specs.RoomRule.{Setup}
use Rattle.rb_history.specs.WorkerCounts.{tally_of, numbers_below}
use Rattle.rb_chapter_ring.specs.Snapshot.{Snapshot, snapshot_of, tally_at, no_tally}
use Rattle.rb_chapter_ring.specs.CountedFrom.{snapshot_after, tally_from}

pub length-below : (n : ℕ) → length (numbers_below n) ≡ n
length-below zero = refl
length-below (suc n) = omega (arith, length-append (numbers_below n) (n ∷ []), length-below n)

get-below : (n w d : ℕ) → w < n → get_or (numbers_below n) w d ≡ w
get-below zero w d l = absurd (omega arith)
get-below (suc n) w d l = elim (cases_lt w n) [
  | inl lt ↦ get_or_append_left (numbers_below n) (n ∷ []) d w (omega (arith, length-below n)) ∙ get-below n w d lt
  | inr le ↦
      let same : w ≡ n = omega arith in
      get_or_push (numbers_below n) n d w (length-below n ∙ sym same) ∙ sym same
]

pub map-below : {X : Type 0} (f g : ℕ → X) (n : ℕ) → ((w : ℕ) → w < n → f w ≡ g w) → map f (numbers_below n) ≡ map g (numbers_below n)
map-below f g zero same = refl
map-below f g (suc n) same =
    let front = map-below f g n (λ w l. same w (omega arith)) in
    let last = same n (omega arith) in
    map-append f (numbers_below n) (n ∷ []) ∙ (λ i. front i ++ last i ∷ []) ∙ sym (map-append g (numbers_below n) (n ∷ []))

-- an opening's totals of a worker of the ring
pub tally-at : (r : Setup) (h : List Entry) (w : ℕ) → w < r.workers → tally_at (snapshot_of r h) w ≡ tally_of w h
tally-at r h w l =
    get_or-map (λ v. tally_of v h) (numbers_below r.workers) w 0 no_tally (omega (arith, length-below r.workers))
    ∙ ap (λ v. tally_of v h) (get-below r.workers w 0 l)

-- a worker's totals in the opening after the entries
pub tally-after : (o : Snapshot) (t : List Entry) (w : ℕ) → w < o.setup.workers → tally_at (snapshot_after o t) w ≡ tally_from o w t
tally-after o t w l =
    get_or-map (λ v. tally_from o v t) (numbers_below o.setup.workers) w 0 no_tally (omega (arith, length-below o.setup.workers))
    ∙ ap (λ v. tally_from o v t) (get-below o.setup.workers w 0 l)

-- no worker has entries yet
pub tallies-none : (n : ℕ) → map (λ w. tally_of w []) (numbers_below n) ≡ replicate n no_tally
tallies-none zero = refl
tallies-none (suc n) =
    map-append (λ w. tally_of w []) (numbers_below n) (n ∷ []) ∙ ap (λ l. l ++ no_tally ∷ []) (tallies-none n) ∙ replicate_more n no_tally ∙ ap (λ x. replicate x no_tally) (add-one n)
