-- Laws about pieces that are dealt one after another.
use Rattle.std.proofs.Common.{◌≡◌, ◌≢◌, ℕ, ◌+◌, ◌<◌, Bool, cond, List, [], ◌∷◌, ◌++◌, Option, None, Some, length, get_or, set, filter, refl, sym, ap, ◌∙◌, subst, append-nil, append_assoc, arith, zero, suc, ⊎_elim}
use Rattle.std.specs.Prelude.{is_none, IfSome}
use Rattle.std.proofs.lemmas.Bool.{cases_eq, eq-eqb, ne_eqb}
use Rattle.std.proofs.lemmas.List.{get_or-set_same, get_or-set_other, get_or_default, length-append}
use Rattle.std.proofs.lemmas.List.Elements.{All-nil, All-cons, All-append, filter-append}
use Rattle.std.proofs.lemmas.List.Concat.{flat_map-append}
use Rattle.rtrb.specs.Ring.{sent, SameProducer}
use Rattle.rb_source.specs.Piece.{PieceContents}
use Rattle.rb_dealing.specs.Dealt.{DealtPiece, AreDealtAmong, contexts_in, dealt_to, dropped_in, is_worker, saturated}
use Rattle.rb_dealing.specs.inner.Feeds.{queued, GetsContexts, Fed, Deals, DealsPiece, DealsGiven}
use Rattle.rb_dealing.specs.declared.lane.LaneFeed.{LaneFeed}
use Rattle.rb_dealing.specs.declared.reader.Dealing.{Dealing}

-- ---- pieces, one after another

pub contexts_in-append : (ps qs : List DealtPiece) → contexts_in (ps ++ qs) ≡ contexts_in ps ++ contexts_in qs
contexts_in-append ps qs = flat_map-append (λ (p : DealtPiece). p.contexts) ps qs

among-append : (test : DealtPiece → Bool) (ps qs : List DealtPiece) → contexts_in (filter test (ps ++ qs)) ≡ contexts_in (filter test ps) ++ contexts_in (filter test qs)
among-append test ps qs = ap contexts_in (filter-append test ps qs) ∙ contexts_in-append (filter test ps) (filter test qs)

-- ---- one queue

pub gets_none : (f : LaneFeed) → GetsContexts f [] f
gets_none f = (((refl, refl, refl, refl), refl), sym (append-nil (queued (sent f.pieces))))

pub gets_on : (a b c : LaneFeed) (xs ys : List (List ℕ)) → GetsContexts a xs b → GetsContexts b ys c → GetsContexts a (xs ++ ys) c
gets_on a b c xs ys one two = (
  ((two.0.0.0 ∙ one.0.0.0, two.0.0.1 ∙ one.0.0.1, two.0.0.2 ∙ one.0.0.2, two.0.0.3 ∙ one.0.0.3), two.0.1 ∙ one.0.1),
  two.1 ∙ (ap (λ l. l ++ ys) one.1 ∙ append_assoc (queued (sent a.pieces)) xs ys),
)

-- ---- all queues

pub fed_none : (fs : List LaneFeed) → Fed fs [] fs
fed_none fs = (refl, λ k d below. gets_none (get_or fs k d))

pub fed_on : (os bs cs : List LaneFeed) (ps qs : List DealtPiece) → Fed os ps bs → Fed bs qs cs → Fed os (ps ++ qs) cs
fed_on os bs cs ps qs one two = (
  two.0 ∙ one.0,
  λ k d below.
      subst (λ xs. GetsContexts (get_or os k d) xs (get_or cs k d)) (sym (among-append (λ p. is_worker k p.worker) ps qs))
      (gets_on (get_or os k d) (get_or bs k d) (get_or cs k d) (dealt_to k ps) (dealt_to k qs) (one.1 k d below) (two.1 k d (let e = one.0 in omega (arith, e, below)))),
)

-- one queue was polled, or got a piece
set_length : (fs : List LaneFeed) (at : ℕ) (f : LaneFeed) → length (set fs at f) ≡ length fs
set_length [] at f = refl
set_length (x ∷ fs) zero f = refl
set_length (x ∷ fs) (suc at) f = let e = set_length fs at f in omega arith

at_other : (fs : List LaneFeed) (at : ℕ) (f : LaneFeed) (k : ℕ) (d : LaneFeed) → k ≢ at → GetsContexts (get_or fs k d) [] (get_or (set fs at f) k d)
at_other fs at f k d other = subst (GetsContexts (get_or fs k d) []) (sym (get_or-set_other fs at k f d other)) (gets_none (get_or fs k d))

at_same : (fs : List LaneFeed) (at : ℕ) (e f : LaneFeed) (xs : List (List ℕ)) (k : ℕ) (d : LaneFeed) → at < length fs → k ≡ at → GetsContexts (get_or fs at e) xs f → GetsContexts (get_or fs k d) xs (get_or (set fs at f) k d)
at_same fs at e f xs k d inside same gets =
    subst (λ j. GetsContexts (get_or fs j d) xs (get_or (set fs at f) j d)) (sym same)
    (subst (λ x. GetsContexts x xs (get_or (set fs at f) at d)) (get_or_default fs at e d inside)
    (subst (GetsContexts (get_or fs at e) xs) (sym (get_or-set_same fs at f d inside)) gets))

pub fed_nothing : (fs : List LaneFeed) (at : ℕ) (e f : LaneFeed) → at < length fs → SameProducer (get_or fs at e).pieces f.pieces → sent f.pieces ≡ sent (get_or fs at e).pieces → Fed fs [] (set fs at f)
fed_nothing fs at e f inside same none = (
  set_length fs at f,
  λ k d below. ⊎_elim
      (λ (is : k ≡ at). at_same fs at e f [] k d inside is (same, ap queued none ∙ sym (append-nil (queued (sent (get_or fs at e).pieces)))))
      (λ (other : k ≢ at). at_other fs at f k d other)
      (cases_eq k at),
)

-- a piece for the lane, and one for another
to_this : (k at : ℕ) (contexts : List (List ℕ)) → k ≡ at → dealt_to k (record { contexts = contexts; worker = Some at } ∷ []) ≡ contexts ++ []
to_this k at contexts is = ap (λ b. contexts_in (cond b (record { contexts = contexts; worker = Some at } ∷ []) [])) (eq-eqb at k (sym is))

to_other : (k at : ℕ) (contexts : List (List ℕ)) → k ≢ at → dealt_to k (record { contexts = contexts; worker = Some at } ∷ []) ≡ []
to_other k at contexts other = ap (λ b. contexts_in (cond b (record { contexts = contexts; worker = Some at } ∷ []) [])) (ne_eqb at k (λ e. other (sym e)))

pub fed_piece : (fs : List LaneFeed) (at : ℕ) (e f : LaneFeed) (piece : PieceContents) → at < length fs → SameProducer (get_or fs at e).pieces f.pieces → sent f.pieces ≡ sent (get_or fs at e).pieces ++ piece ∷ []
    → Fed fs (record { contexts = piece.contexts; worker = Some at } ∷ []) (set fs at f)
fed_piece fs at e f piece inside same more = (
  set_length fs at f,
  λ k d below. ⊎_elim
      (λ (is : k ≡ at).
      subst (λ xs. GetsContexts (get_or fs k d) xs (get_or (set fs at f) k d)) (sym (to_this k at piece.contexts is))
      (at_same fs at e f (piece.contexts ++ []) k d inside is (same, ap queued more ∙ flat_map-append (λ (p : PieceContents). p.contexts) (sent (get_or fs at e).pieces) (piece ∷ []))))
      (λ (other : k ≢ at).
      subst (λ xs. GetsContexts (get_or fs k d) xs (get_or (set fs at f) k d)) (sym (to_other k at piece.contexts other))
      (at_other fs at f k d other))
      (cases_eq k at),
)

-- ---- what was dealt, and counted

pub deals_none : (fs : List LaneFeed) (d : Dealing) → d.contexts ≡ 0 → d.dropped ≡ 0 → Deals [] fs fs d d
deals_none fs d contexts dropped = record { known = All-nil _; fed = fed_none fs; contexts_are = omega (arith, contexts); dropped_are = omega (arith, dropped) }

-- one piece, to a lane or to none
pub deals_piece : (contexts : List (List ℕ)) (worker : Option ℕ) (os fs : List LaneFeed) (a b : Dealing) → IfSome worker (λ k. k < length os) → Fed os (record { contexts = contexts; worker = worker } ∷ []) fs
    → b.contexts ≡ saturated (a.contexts + length contexts) → b.dropped ≡ saturated (a.dropped + cond (is_none worker) (length contexts) 0) → DealsPiece contexts os fs a b
deals_piece contexts None os fs a b known fed all lost =
    let e : length (contexts ++ []) ≡ length contexts = ap length (append-nil contexts) in
    (None, record { known = All-cons (λ (p : DealtPiece). IfSome p.worker (λ k. k < length os)) _ [] known (All-nil _); fed = fed; contexts_are = omega (arith, all, e); dropped_are = omega (arith, lost, e) })
deals_piece contexts (Some k) os fs a b known fed all lost =
    let e : length (contexts ++ []) ≡ length contexts = ap length (append-nil contexts) in
    (Some k, record { known = All-cons (λ (p : DealtPiece). IfSome p.worker (λ k. k < length os)) _ [] known (All-nil _); fed = fed; contexts_are = omega (arith, all, e); dropped_are = omega (arith, lost) })

pub deals_on : (ps qs : List DealtPiece) (os bs cs : List LaneFeed) (a b c : Dealing) → Deals ps os bs a b → Deals qs bs cs b c → Deals (ps ++ qs) os cs a c
deals_on ps qs os bs cs a b c one two =
    let long = ap length (contexts_in-append ps qs) ∙ length-append (contexts_in ps) (contexts_in qs) in
    let lost = ap length (among-append (λ p. is_none p.worker) ps qs) ∙ length-append (dropped_in ps) (dropped_in qs) in
    let e₁ = one.contexts_are in
    let e₂ = two.contexts_are in
    let d₁ = one.dropped_are in
    let d₂ = two.dropped_are in
    record {
      known = All-append (λ (p : DealtPiece). IfSome p.worker (λ k. k < length os)) ps qs one.known (subst (λ n. AreDealtAmong n qs) one.fed.0 two.known);
      fed = fed_on os bs cs ps qs one.fed two.fed;
      contexts_are = omega (arith, long, e₁, e₂);
      dropped_are = omega (arith, lost, d₁, d₂);
    }

-- the feeds were polled
pub deals_looked : (ps : List DealtPiece) (os bs cs : List LaneFeed) (a b : Dealing) → Deals ps os bs a b → Fed bs [] cs → Deals ps os cs a b
deals_looked ps os bs cs a b one two = record { known = one.known; fed = subst (λ l. Fed os l cs) (append-nil ps) (fed_on os bs cs ps [] one.fed two); contexts_are = one.contexts_are; dropped_are = one.dropped_are }

-- ---- what the source gave

module _ {I : Type 0} (gives : I → List (List ℕ) → I → Type 0) (both : (x y z : I) (xs ys : List (List ℕ)) → gives x xs y → gives y ys z → gives x (xs ++ ys) z) where
  -- one more piece
  pub given_piece : (s t u : I) (contexts : List (List ℕ)) (os bs cs es : List LaneFeed) (a b c : Dealing) → DealsGiven gives s t os bs a b → Fed bs [] cs → gives t contexts u → DealsPiece contexts cs es b c → DealsGiven gives s u os es a c
  given_piece s t u contexts os bs cs es a b c one looked gave more =
      let p : DealtPiece = record { contexts = contexts; worker = more.0 } in
      let e : contexts_in (one.0 ++ p ∷ []) ≡ contexts_in one.0 ++ contexts = contexts_in-append one.0 (p ∷ []) ∙ ap (λ l. contexts_in one.0 ++ l) (append-nil contexts) in (
        one.0 ++ p ∷ [],
        subst (λ l. gives s l u) (sym e) (both s t u (contexts_in one.0) contexts one.1 gave),
        deals_on one.0 (p ∷ []) os cs es a b c (deals_looked one.0 os bs cs a b one.2 looked) more.1,
      )

  -- nothing more
  pub given_none : (s t u : I) (contexts : List (List ℕ)) (os bs cs : List LaneFeed) (a b : Dealing) → DealsGiven gives s t os bs a b → Fed bs [] cs → gives t contexts u → contexts ≡ [] → DealsGiven gives s u os cs a b
  given_none s t u contexts os bs cs a b one looked gave none = (
    one.0,
    subst (λ l. gives s l u) (append-nil (contexts_in one.0)) (both s t u (contexts_in one.0) [] one.1 (subst (λ l. gives t l u) none gave)),
    deals_looked one.0 os bs cs a b one.2 looked,
  )
