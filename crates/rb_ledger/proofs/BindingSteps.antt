-- What the tests of chapters that are bound determine.
use Rattle.std.proofs.Common.{◌≡◌, ◌↔◌, ℕ, ◌+◌, ◌==◌, ◌&&◌, Bool, IsTrue, true, false, List, [], ◌∷◌, ◌++◌, map, length, replicate, refl, sym, ap, ◌∙◌, subst, arith}
use Rattle.std.proofs.lemmas.Bool.{and_parts, eqb-true, eq-eqb, true≢false}
use Rattle.std.proofs.lemmas.List.{length-map}
use Rattle.rb_history.specs.declared.entries.Entry.{Entry}
use Rattle.rb_history.specs.declared.tally.Tally.{Tally}
use Rattle.rb_history.specs.WorkerCounts.{tally_of, numbers_below}
use Rattle.rb_chapter_ring.specs.Snapshot.{Snapshot, no_tally}
use Rattle.rb_chapter_ring.specs.Chapters.{Chapter, empty_ring, IsLegalChapter, joined}
use Rattle.rb_chapter_ring.specs.WholeHistory.{Binds, IsBound, IsKept}
use Rattle.rb_chapter_ring.proofs.Bound.{once-bound}
use Rattle.rb_chapter_ring.proofs.ChapterNumbers.{length-below}
use Rattle.rb_ledger.specs.ChapterClosing.{AreNumberedFrom, EachGoesOn}
use Rattle.rb_ledger.specs.ChapterHeadline.{AllLegal}
use Rattle.rb_ledger.specs.inner.BindingLoops.{numbered_from, EachMeets, EachFollows, AreOpenedInTurn}
use Rattle.rb_ledger.proofs.BoundChapters.{binds-where-it-may, in-turn-goes, goes-in-turn}

-- ---- numbers

both-true : (a b : Bool) → a ≡ true → b ≡ true → (a && b) ≡ true
both-true a b is more = rw (is, more) refl

numbered-to : (n : ℕ) (cs : List Chapter) (last : Chapter) → numbered_from n cs ≡ true → last.number ≡ n + length cs → AreNumberedFrom n (cs ++ last ∷ [])
numbered-to n [] last is at_last = (omega (arith, at_last), tt)
numbered-to n (c ∷ cs) last is at_last =
    let both = and_parts (c.number == n) (numbered_from (n + 1) cs) is in
    (eqb-true c.number n both.0, numbered-to (n + 1) cs last both.1 (omega (arith, at_last)))

numbered-back : (n : ℕ) (cs : List Chapter) (last : Chapter) → AreNumberedFrom n (cs ++ last ∷ []) → (numbered_from n cs ≡ true) × (last.number ≡ n + length cs)
numbered-back n [] last are = (refl, let e = are.0 in omega (arith, e))
numbered-back n (c ∷ cs) last are =
    let rest = numbered-back (n + 1) cs last are.1 in
    let e = rest.1 in
    (both-true (c.number == n) (numbered_from (n + 1) cs) (eq-eqb c.number n are.0) rest.0, omega (arith, e))

pub numbers-exact : (cs : List Chapter) (last : Chapter) (front : Bool) (m : ℕ) → front ≡ numbered_from 0 cs → front ≡ true → m ≡ last.number → IsTrue (m == length cs) ↔ AreNumberedFrom 0 (cs ++ last ∷ [])
numbers-exact cs last front m is passed at_last = (
  (λ t. let e = eqb-true m (length cs) t in numbered-to 0 cs last (sym is ∙ passed) (omega (arith, at_last, e))),
  (λ are. let back = numbered-back 0 cs last are in let e = back.1 in eq-eqb m (length cs) (omega (arith, at_last, e))),
)

pub numbers-fail : (cs : List Chapter) (last : Chapter) (front : Bool) → front ≡ numbered_from 0 cs → front ≡ false → IsTrue front ↔ AreNumberedFrom 0 (cs ++ last ∷ [])
numbers-fail cs last front is failed = (
  (λ t. absurd (true≢false (sym t ∙ failed))),
  (λ are. is ∙ (numbered-back 0 cs last are).0),
)

-- ---- openings

pub none-mapped : {A B : Type 0} (f : A → B) (xs : List A) → length xs ≡ 0 → map f xs ≡ []
none-mapped f [] none = refl
none-mapped f (x ∷ xs) none = absurd (omega (arith, none))

-- a chapter's opening has totals for each worker
tallies-of-kept : (earlier : List Entry) (c : Chapter) → IsKept earlier c → length c.opening.tallies ≡ c.opening.setup.workers
tallies-of-kept earlier c kept =
    ap (λ (o : Snapshot). length o.tallies) kept.continues.opened ∙ length-map (numbers_below c.opening.setup.workers) (λ w. tally_of w earlier) ∙ length-below c.opening.setup.workers

pub opens-exact : (c : Chapter) (o : Snapshot) (b : Bool) (ts : List Tally) → o ≡ c.opening → (earlier : List Entry) × IsKept earlier c → o.producer ≡ o.setup.start → o.consumer ≡ o.setup.start → o.consumed ≡ 0 → o.skipped ≡ 0 → o.records ≡ []
    → ts ≡ o.tallies → IsTrue b ↔ (ts ≡ replicate (length ts) no_tally) → IsTrue b ↔ (c.opening ≡ empty_ring c.opening.setup)
opens-exact c o b ts same kept producer consumer consumed skipped none are exact =
    let workers : length o.tallies ≡ o.setup.workers = ap (λ (x : Snapshot). length x.tallies) same ∙ tallies-of-kept kept.0 c kept.1 ∙ ap (λ (x : Snapshot). x.setup.workers) (sym same) in
    let here : IsTrue b ↔ (o ≡ empty_ring o.setup) = (
      (λ t.
          let all : o.tallies ≡ replicate o.setup.workers no_tally = sym are ∙ exact.0 t ∙ ap (λ n. replicate n no_tally) (ap length are ∙ workers) in
          λ i. record { setup = o.setup; producer = producer i; consumer = consumer i; records = none i; tallies = all i; consumed = consumed i; skipped = skipped i }),
      (λ e. exact.1 (are ∙ ap (λ (x : Snapshot). x.tallies) e ∙ ap (λ n. replicate n no_tally) (sym (ap length are ∙ workers)))),
    ) in
    subst (λ (x : Snapshot). IsTrue b ↔ (x ≡ empty_ring x.setup)) same here

follows-each : (c : Chapter) (cs : List Chapter) → EachMeets c cs → EachFollows c cs
follows-each c [] m = tt
follows-each c (d ∷ cs) m = (m.0.goes_on, follows-each d cs m.1)

meets-numbered : (n : ℕ) (c : Chapter) (cs : List Chapter) → c.number ≡ n → AreNumberedFrom (n + 1) cs → EachFollows c cs → EachMeets c cs
meets-numbered n c [] is numbered follow = tt
meets-numbered n c (d ∷ cs) is numbered follow = (record { next_number = numbered.0 ∙ ap (λ x. x + 1) (sym is); goes_on = follow.0 }, meets-numbered (n + 1) d cs numbered.0 numbered.1 follow.1)

pub opened-exact : (cs : List Chapter) (first : Chapter) (rest : List Chapter) (last : Chapter) (a b : Bool) → cs ≡ first ∷ rest → AreNumberedFrom 0 (cs ++ last ∷ []) → IsTrue a ↔ (first.opening ≡ empty_ring first.opening.setup) → a ≡ true
    → IsTrue b ↔ EachMeets first (rest ++ last ∷ []) → IsTrue b ↔ AreOpenedInTurn (cs ++ last ∷ [])
opened-exact cs first rest last a b is numbered opens passed meets =
    let here : AreNumberedFrom 0 (first ∷ (rest ++ last ∷ [])) = subst (λ l. AreNumberedFrom 0 (l ++ last ∷ [])) is numbered in
    subst (λ l. IsTrue b ↔ AreOpenedInTurn (l ++ last ∷ [])) (sym is) (
      (λ t. (opens.0 passed, follows-each first (rest ++ last ∷ []) (meets.0 t))),
      (λ o. meets.1 (meets-numbered 0 first (rest ++ last ∷ []) here.0 here.1 o.1)),
    )

-- ---- all together

parts-legal : (cs : List Chapter) (last : Chapter) → AllLegal (cs ++ last ∷ []) → AllLegal cs × IsLegalChapter last
parts-legal [] last all = (tt, all.0)
parts-legal (c ∷ cs) last all = let rest = parts-legal cs last all.1 in ((all.0, rest.0), rest.1)

pub goes-exact : (cs : List Chapter) (last : Chapter) (b : Bool) → AllLegal (cs ++ last ∷ []) → IsTrue b ↔ AreOpenedInTurn (cs ++ last ∷ []) → IsTrue b ↔ EachGoesOn last.opening.setup [] (cs ++ last ∷ [])
goes-exact cs last b all exact =
    let legal = parts-legal cs last all in
    ((λ t. in-turn-goes cs last legal.0 legal.1 (exact.0 t)), (λ goes. exact.1 (goes-in-turn cs last legal.0 legal.1 goes)))

pub chapters-bind : (cs : List Chapter) (last : Chapter) → AreNumberedFrom 0 (cs ++ last ∷ []) → EachGoesOn last.opening.setup [] (cs ++ last ∷ []) → AllLegal (cs ++ last ∷ []) → Binds cs last
chapters-bind cs last numbered opened all = let legal = parts-legal cs last all in (binds-where-it-may cs last legal.0 legal.1).0 (record { numbered = numbered; opened = opened })

pub chapters-bound : (cs : List Chapter) (last : Chapter) (history : List Entry) → AreNumberedFrom 0 (cs ++ last ∷ []) → EachGoesOn last.opening.setup [] (cs ++ last ∷ []) → AllLegal (cs ++ last ∷ []) → history ≡ joined cs ++ last.entries → IsBound cs last history
chapters-bound cs last history numbered opened all is =
    let bound = once-bound cs last (chapters-bind cs last numbered opened all) in
    subst (IsBound cs last) (bound.entries ∙ sym is) bound
