-- What one more entry changes in the facts about a history.
use Rattle.std.proofs.Common.{◌≡◌, ◌≢◌, ℕ, ◌+◌, ◌==◌, Bool, true, false, cond, not, ◌||◌, List, [], ◌∷◌, ◌++◌, Option, Some, None, map, refl, sym, ap, ◌∙◌, inl, inr, arith, append-nil, eqb, zero, suc}
use Rattle.std.specs.List.{sum_by, filter_map, filter, cons_option, All, Contains}
use Rattle.std.proofs.lemmas.List.Elements.{filter_map-append}
use Rattle.std.proofs.lemmas.Bool.{cases_eq, eq-eqb, ne_eqb, eqb-false, or_right, or_parts}
use Rattle.std.proofs.lemmas.List.Elements.{All-nil, All-cons, All-weaker, Contains-append_right, Contains-append_cases}
use Rattle.rb_history.specs.declared.entries.Entry.{Entry}
use Rattle.rb_history.specs.declared.entries.Entry.TheVariants.{Res, Full, Sub, Dis, Take}
use Rattle.rb_history.specs.Span.{span}
use Rattle.rb_history.specs.History.{Shown, Status, status_by, status_of, is_submit, is_discard, is_take, is_granted_at, is_submitted_at, is_discarded_at, is_taken_at, granted_span, granted_span_at, taken_span, producer_of, consumer_of, untaken, records}
use Rattle.rb_history.specs.History.Status.{Busy, Waiting, Discarded}
use Rattle.rb_history.proofs.Lists.{option_map, option_filter, or-false, list_any-snoc, sum_by-snoc, sum_by-cons, sum_by-agree, opt_sum, sum_by-only, filter_map-agree, filter_map-map, filter_map-filter}

-- sets the status of the record at p
abbrev pub mark : ℕ → Status → Shown → Shown
mark p st s = cond (s.pos == p) (record s { status = st }) s

abbrev pub elsewhere : ℕ → Shown → Bool
elsewhere p s = not (s.pos == p)

-- two histories that agree on every record
pub record Alike (h k : List Entry) : Type 0 where
  pub taken_same : (q : ℕ) → is_taken_at k q ≡ is_taken_at h q
  pub submitted_same : (q : ℕ) → is_submitted_at k q ≡ is_submitted_at h q
  pub discarded_same : (q : ℕ) → is_discarded_at k q ≡ is_discarded_at h q

untaken-alike : (h k : List Entry) → Alike h k → (e : Entry) → untaken k e ≡ untaken h e
untaken-alike h k a (Res w n l q) = simp (a.taken_same, a.submitted_same, a.discarded_same)
untaken-alike h k a (Full w n) = refl
untaken-alike h k a (Sub q) = refl
untaken-alike h k a (Dis q) = refl
untaken-alike h k a (Take q) = refl

-- ---- a refusal

full-alike : (h : List Entry) (w n : ℕ) → Alike h (h ++ Full w n ∷ [])
full-alike h w n = record {
  taken_same = λ q. list_any-snoc (is_take q) h (Full w n) ∙ or-false _;
  submitted_same = λ q. list_any-snoc (is_submit q) h (Full w n) ∙ or-false _;
  discarded_same = λ q. list_any-snoc (is_discard q) h (Full w n) ∙ or-false _;
}

pub records-full : (h : List Entry) (w n : ℕ) → records (h ++ Full w n ∷ []) ≡ records h
records-full h w n =
    let k = h ++ Full w n ∷ [] in
    filter_map-append (untaken k) h (Full w n ∷ []) ∙ append-nil _ ∙ filter_map-agree (untaken h) (untaken k) (untaken-alike h k (full-alike h w n)) h

pub producer-full : (start : ℕ) (h : List Entry) (w n : ℕ) → producer_of start (h ++ Full w n ∷ []) ≡ producer_of start h
producer-full start h w n = omega (arith, sum_by-snoc granted_span h (Full w n))

-- ---- a grant

res-alike : (h : List Entry) (w k n p : ℕ) → Alike h (h ++ Res w k n p ∷ [])
res-alike h w k n p = record {
  taken_same = λ q. list_any-snoc (is_take q) h (Res w k n p) ∙ or-false _;
  submitted_same = λ q. list_any-snoc (is_submit q) h (Res w k n p) ∙ or-false _;
  discarded_same = λ q. list_any-snoc (is_discard q) h (Res w k n p) ∙ or-false _;
}

untaken-new : (h k : List Entry) (w s n p : ℕ) → Alike h k → is_taken_at h p ≡ false → is_submitted_at h p ≡ false → is_discarded_at h p ≡ false →
    untaken k (Res w s n p) ≡ Some (record { pos = p; len = n; worker = w; serial = s; status = Busy })
untaken-new h k w s n p a t u d = simp (a.taken_same p ∙ t, a.submitted_same p ∙ u, a.discarded_same p ∙ d)

pub records-res : (h : List Entry) (w s n p : ℕ) → is_taken_at h p ≡ false → is_submitted_at h p ≡ false → is_discarded_at h p ≡ false →
    records (h ++ Res w s n p ∷ []) ≡ records h ++ record { pos = p; len = n; worker = w; serial = s; status = Busy } ∷ []
records-res h w s n p t u d =
    let k = h ++ Res w s n p ∷ [] in
    let a = res-alike h w s n p in
    filter_map-append (untaken k) h (Res w s n p ∷ []) ∙ rw (untaken-new h k w s n p a t u d, filter_map-agree (untaken h) (untaken k) (untaken-alike h k a) h)

pub producer-res : (start : ℕ) (h : List Entry) (w s n p : ℕ) → producer_of start (h ++ Res w s n p ∷ []) ≡ producer_of start h + span n
producer-res start h w s n p = omega (arith, sum_by-snoc granted_span h (Res w s n p))

-- ---- a commit

marked : (w s n q p : ℕ) (st : Status) (tk th sk sh dk dh : Bool) → tk ≡ th →
    (q ≡ p → status_by sk dk false ≡ st) → (q ≢ p → status_by sk dk false ≡ status_by sh dh false) →
    ◌≡◌ {A = Option Shown} (cond tk None (Some (record { pos = q; len = n; worker = w; serial = s; status = status_by sk dk tk })))
    (option_map (mark p st) (cond th None (Some (record { pos = q; len = n; worker = w; serial = s; status = status_by sh dh th }))))
marked w s n q p st true true sk sh dk dh e y z = refl
marked w s n q p st true false sk sh dk dh e y z = cc
marked w s n q p st false true sk sh dk dh e y z = cc
marked w s n q p st false false sk sh dk dh e y z =
    elim (cases_eq q p) [ inl same ↦ rw (eq-eqb q p same, y same) | inr other ↦ rw (ne_eqb q p other, z other) ]

pub record Settles (h k : List Entry) (p : ℕ) (st : Status) : Type 0 where
  pub taken_same : (q : ℕ) → is_taken_at k q ≡ is_taken_at h q
  pub here : (q : ℕ) → q ≡ p → status_by (is_submitted_at k q) (is_discarded_at k q) false ≡ st
  pub others : (q : ℕ) → q ≢ p → status_by (is_submitted_at k q) (is_discarded_at k q) false ≡ status_by (is_submitted_at h q) (is_discarded_at h q) false

untaken-settled : (h k : List Entry) (p : ℕ) (st : Status) → Settles h k p st → (e : Entry) → untaken k e ≡ option_map (mark p st) (untaken h e)
untaken-settled h k p st a (Res w s n q) = marked w s n q p st _ _ _ _ _ _ (a.taken_same q) (a.here q) (a.others q)
untaken-settled h k p st a (Full w n) = refl
untaken-settled h k p st a (Sub q) = refl
untaken-settled h k p st a (Dis q) = refl
untaken-settled h k p st a (Take q) = refl

sub_here : (a b : Bool) → b ≡ true → status_by (a || b) false false ≡ Waiting
sub_here true b e = refl
sub_here false true e = refl
sub_here false false e = cc

sub_other : (a b d : Bool) → b ≡ false → status_by (a || b) d false ≡ status_by a d false
sub_other a b d e = rw (e, or-false a)

dis_here : (s a b : Bool) → b ≡ true → status_by s (a || b) false ≡ Discarded
dis_here s true b e = refl
dis_here s false true e = refl
dis_here s false false e = cc

dis_other : (s a b : Bool) → b ≡ false → status_by s (a || b) false ≡ status_by s a false
dis_other s a b e = rw (e, or-false a)

sub-settles : (h : List Entry) (p : ℕ) → is_discarded_at h p ≡ false → Settles h (h ++ Sub p ∷ []) p Waiting
sub-settles h p d = record {
  taken_same = λ q. list_any-snoc (is_take q) h (Sub p) ∙ or-false _;
  here = λ q e.
      let same : is_discarded_at (h ++ Sub p ∷ []) q ≡ false = list_any-snoc (is_discard q) h (Sub p) ∙ or-false _ ∙ ap (is_discarded_at h) e ∙ d in
      let more : is_submitted_at (h ++ Sub p ∷ []) q ≡ (is_submitted_at h q || eqb p q) = list_any-snoc (is_submit q) h (Sub p) in
      rw (same, more) (sub_here (is_submitted_at h q) (eqb p q) (eq-eqb p q (sym e)));
  others = λ q e.
      let same : is_discarded_at (h ++ Sub p ∷ []) q ≡ is_discarded_at h q = list_any-snoc (is_discard q) h (Sub p) ∙ or-false _ in
      let more : is_submitted_at (h ++ Sub p ∷ []) q ≡ (is_submitted_at h q || eqb p q) = list_any-snoc (is_submit q) h (Sub p) in
      rw (same, more) (sub_other (is_submitted_at h q) (eqb p q) (is_discarded_at h q) (ne_eqb p q (λ f. e (sym f))));
}

dis-settles : (h : List Entry) (p : ℕ) → Settles h (h ++ Dis p ∷ []) p Discarded
dis-settles h p = record {
  taken_same = λ q. list_any-snoc (is_take q) h (Dis p) ∙ or-false _;
  here = λ q e.
      let same : is_submitted_at (h ++ Dis p ∷ []) q ≡ is_submitted_at h q = list_any-snoc (is_submit q) h (Dis p) ∙ or-false _ in
      let more : is_discarded_at (h ++ Dis p ∷ []) q ≡ (is_discarded_at h q || eqb p q) = list_any-snoc (is_discard q) h (Dis p) in
      rw (same, more) (dis_here (is_submitted_at h q) (is_discarded_at h q) (eqb p q) (eq-eqb p q (sym e)));
  others = λ q e.
      let same : is_submitted_at (h ++ Dis p ∷ []) q ≡ is_submitted_at h q = list_any-snoc (is_submit q) h (Dis p) ∙ or-false _ in
      let more : is_discarded_at (h ++ Dis p ∷ []) q ≡ (is_discarded_at h q || eqb p q) = list_any-snoc (is_discard q) h (Dis p) in
      rw (same, more) (dis_other (is_submitted_at h q) (is_discarded_at h q) (eqb p q) (ne_eqb p q (λ f. e (sym f))));
}

pub records-sub : (h : List Entry) (p : ℕ) → is_discarded_at h p ≡ false → records (h ++ Sub p ∷ []) ≡ map (mark p Waiting) (records h)
records-sub h p d =
    let k = h ++ Sub p ∷ [] in
    filter_map-append (untaken k) h (Sub p ∷ []) ∙ append-nil _ ∙ filter_map-map (untaken h) (untaken k) (mark p Waiting) (untaken-settled h k p Waiting (sub-settles h p d)) h

pub records-dis : (h : List Entry) (p : ℕ) → records (h ++ Dis p ∷ []) ≡ map (mark p Discarded) (records h)
records-dis h p =
    let k = h ++ Dis p ∷ [] in
    filter_map-append (untaken k) h (Dis p ∷ []) ∙ append-nil _ ∙ filter_map-map (untaken h) (untaken k) (mark p Discarded) (untaken-settled h k p Discarded (dis-settles h p)) h

pub producer-sub : (start : ℕ) (h : List Entry) (p : ℕ) → producer_of start (h ++ Sub p ∷ []) ≡ producer_of start h
producer-sub start h p = omega (arith, sum_by-snoc granted_span h (Sub p))

pub producer-dis : (start : ℕ) (h : List Entry) (p : ℕ) → producer_of start (h ++ Dis p ∷ []) ≡ producer_of start h
producer-dis start h p = omega (arith, sum_by-snoc granted_span h (Dis p))

-- ---- a take

dropped : (w s n q p : ℕ) (tk th sk sh dk dh : Bool) → tk ≡ (th || eqb p q) → sk ≡ sh → dk ≡ dh →
    ◌≡◌ {A = Option Shown} (cond tk None (Some (record { pos = q; len = n; worker = w; serial = s; status = status_by sk dk tk })))
    (option_filter (elsewhere p) (cond th None (Some (record { pos = q; len = n; worker = w; serial = s; status = status_by sh dh th }))))
dropped w s n q p tk true sk sh dk dh e f g = rw e
dropped w s n q p tk false sk sh dk dh e f g =
    elim (cases_eq q p) [
      | inl same ↦ rw (e, eq-eqb p q (sym same), eq-eqb q p same)
      | inr other ↦ rw (e, f, g, ne_eqb p q (λ x. other (sym x)), ne_eqb q p other)
    ]

pub record Takes (h k : List Entry) (p : ℕ) : Type 0 where
  pub taken_more : (q : ℕ) → is_taken_at k q ≡ (is_taken_at h q || eqb p q)
  pub submitted_same : (q : ℕ) → is_submitted_at k q ≡ is_submitted_at h q
  pub discarded_same : (q : ℕ) → is_discarded_at k q ≡ is_discarded_at h q

take-takes : (h : List Entry) (p : ℕ) → Takes h (h ++ Take p ∷ []) p
take-takes h p = record {
  taken_more = λ q. list_any-snoc (is_take q) h (Take p);
  submitted_same = λ q. list_any-snoc (is_submit q) h (Take p) ∙ or-false _;
  discarded_same = λ q. list_any-snoc (is_discard q) h (Take p) ∙ or-false _;
}

untaken-dropped : (h k : List Entry) (p : ℕ) → Takes h k p → (e : Entry) → untaken k e ≡ option_filter (elsewhere p) (untaken h e)
untaken-dropped h k p a (Res w s n q) = dropped w s n q p _ _ _ _ _ _ (a.taken_more q) (a.submitted_same q) (a.discarded_same q)
untaken-dropped h k p a (Full w n) = refl
untaken-dropped h k p a (Sub q) = refl
untaken-dropped h k p a (Dis q) = refl
untaken-dropped h k p a (Take q) = refl

pub records-take : (h : List Entry) (p : ℕ) → records (h ++ Take p ∷ []) ≡ filter (elsewhere p) (records h)
records-take h p =
    let k = h ++ Take p ∷ [] in
    filter_map-append (untaken k) h (Take p ∷ []) ∙ append-nil _ ∙ filter_map-filter (untaken h) (untaken k) (elsewhere p) (untaken-dropped h k p (take-takes h p)) h

pub producer-take : (start : ℕ) (h : List Entry) (p : ℕ) → producer_of start (h ++ Take p ∷ []) ≡ producer_of start h
producer-take start h p = omega (arith, sum_by-snoc granted_span h (Take p))

-- ---- the consumer position

-- an entry that grants nothing changes the span of no record
spans-alike : (h : List Entry) (e : Entry) → ((p : ℕ) → granted_span_at p e ≡ 0) → (x : Entry) → taken_span (h ++ e ∷ []) x ≡ taken_span h x
spans-alike h e none (Res w k n q) = refl
spans-alike h e none (Full w n) = refl
spans-alike h e none (Sub q) = refl
spans-alike h e none (Dis q) = refl
spans-alike h e none (Take q) = omega (arith, sum_by-snoc (granted_span_at q) h e, none q)

-- an entry that neither grants nor takes leaves the consumer position unchanged
consumer-alike : (start : ℕ) (h : List Entry) (e : Entry) → ((p : ℕ) → granted_span_at p e ≡ 0) → taken_span (h ++ e ∷ []) e ≡ 0 →
    consumer_of start (h ++ e ∷ []) ≡ consumer_of start h
consumer-alike start h e none still =
    let k = h ++ e ∷ [] in
    omega (arith, sum_by-snoc (taken_span k) h e, sum_by-agree (taken_span h) (taken_span k) (spans-alike h e none) h, still)

pub consumer-full : (start : ℕ) (h : List Entry) (w n : ℕ) → consumer_of start (h ++ Full w n ∷ []) ≡ consumer_of start h
consumer-full start h w n = consumer-alike start h (Full w n) (λ p. refl) refl

pub consumer-sub : (start : ℕ) (h : List Entry) (p : ℕ) → consumer_of start (h ++ Sub p ∷ []) ≡ consumer_of start h
consumer-sub start h p = consumer-alike start h (Sub p) (λ q. refl) refl

pub consumer-dis : (start : ℕ) (h : List Entry) (p : ℕ) → consumer_of start (h ++ Dis p ∷ []) ≡ consumer_of start h
consumer-dis start h p = consumer-alike start h (Dis p) (λ q. refl) refl

untaken-span : (h : List Entry) (w s n p : ℕ) (e : Entry) → is_take p e ≡ false → taken_span (h ++ Res w s n p ∷ []) e ≡ taken_span h e
untaken-span h w s n p (Res v k l q) off = refl
untaken-span h w s n p (Full v l) off = refl
untaken-span h w s n p (Sub q) off = refl
untaken-span h w s n p (Dis q) off = refl
untaken-span h w s n p (Take q) off =
    let other : granted_span_at q (Res w s n p) ≡ 0 = rw (ne_eqb p q (λ x. eqb-false q p off (sym x))) in
    omega (arith, sum_by-snoc (granted_span_at q) h (Res w s n p), other)

untaken-spans : (h es : List Entry) (w s n p : ℕ) → is_taken_at es p ≡ false → sum_by (taken_span (h ++ Res w s n p ∷ [])) es ≡ sum_by (taken_span h) es
untaken-spans h [] w s n p t = refl
untaken-spans h (e ∷ es) w s n p t =
    let k = h ++ Res w s n p ∷ [] in
    let parts = or_parts (is_take p e) (is_taken_at es p) t in
    omega (arith, sum_by-cons (taken_span h) e es, sum_by-cons (taken_span k) e es, untaken-span h w s n p e parts.0, untaken-spans h es w s n p parts.1)

-- a grant at a position that no entry takes leaves it unchanged
pub consumer-res : (start : ℕ) (h : List Entry) (w s n p : ℕ) → is_taken_at h p ≡ false → consumer_of start (h ++ Res w s n p ∷ []) ≡ consumer_of start h
consumer-res start h w s n p t =
    let k = h ++ Res w s n p ∷ [] in
    omega (arith, sum_by-snoc (taken_span k) h (Res w s n p), untaken-spans h h w s n p t)

-- the span of a shown record if it is at p, otherwise 0
abbrev pub shown_span : ℕ → Shown → ℕ
shown_span p s = cond (s.pos == p) (span s.len) 0

span-here : (w s n q p : ℕ) (th : Bool) (st : Status) → (q ≡ p → th ≡ false) →
    cond (eqb q p) (span n) 0 ≡ opt_sum (shown_span p) (cond th None (Some (record { pos = q; len = n; worker = w; serial = s; status = st })))
span-here w s n q p false st free = refl
span-here w s n q p true st free = elim (cases_eq q p) [
  | inl same ↦ let no_way : true ≡ false = free same in cc
  | inr other ↦ rw (ne_eqb q p other)
]

span-shown : (h : List Entry) (p : ℕ) → is_taken_at h p ≡ false → (e : Entry) → granted_span_at p e ≡ opt_sum (shown_span p) (untaken h e)
span-shown h p t (Res w s n q) = span-here w s n q p (is_taken_at h q) (status_of h q) (λ same. ap (is_taken_at h) same ∙ t)
span-shown h p t (Full w n) = refl
span-shown h p t (Sub q) = refl
span-shown h p t (Dis q) = refl
span-shown h p t (Take q) = refl

-- a take of a record that was not taken before advances it by the record's span
pub consumer-take : (start : ℕ) (h : List Entry) (p : ℕ) → is_taken_at h p ≡ false →
    consumer_of start (h ++ Take p ∷ []) ≡ consumer_of start h + sum_by (shown_span p) (records h)
consumer-take start h p t =
    let k = h ++ Take p ∷ [] in
    omega (
      arith,
      sum_by-snoc (taken_span k) h (Take p),
      sum_by-agree (taken_span h) (taken_span k) (spans-alike h (Take p) (λ q. refl)) h,
      sum_by-snoc (granted_span_at p) h (Take p),
      sum_by-only (granted_span_at p) (untaken h) (shown_span p) (span-shown h p t) h,
    )

-- ---- what a shown record says about its history

pub record Named (h es : List Entry) (s : Shown) : Type 0 where
  pub granted_is : is_granted_at es s.pos ≡ true
  pub stands : Contains es (Res s.worker s.serial s.len s.pos)
  pub taken_is : is_taken_at h s.pos ≡ false
  pub status_is : status_by (is_submitted_at h s.pos) (is_discarded_at h s.pos) false ≡ s.status

cons_untaken : (P : Shown → Type 0) (t : Bool) (f : Bool → Shown) (rest : List Shown) → (t ≡ false → P (f false)) → All P rest →
    All P (cons_option (cond t None (Some (f t))) rest)
cons_untaken P true f rest here there = there
cons_untaken P false f rest here there = All-cons P (f false) rest (here refl) there

Named-more : (h es : List Entry) (e : Entry) → All (Named h es) (filter_map (untaken h) es) → All (Named h (e ∷ es)) (filter_map (untaken h) es)
Named-more h es e a = All-weaker (Named h es) (Named h (e ∷ es)) (λ s n. record { granted_is = or_right _ _ n.granted_is; stands = Contains-append_right (e ∷ []) es _ n.stands; taken_is = n.taken_is; status_is = n.status_is }) _ a

pub named : (h es : List Entry) → All (Named h es) (filter_map (untaken h) es)
named h [] = All-nil _
named h (Res w s n q ∷ es) =
    cons_untaken (Named h (Res w s n q ∷ es)) (is_taken_at h q) (λ t. record { pos = q; len = n; worker = w; serial = s; status = status_by (is_submitted_at h q) (is_discarded_at h q) t }) _
    (λ t. record { granted_is = ap (λ b. b || is_granted_at es q) (eq-eqb q q refl); stands = (0, omega arith, refl); taken_is = t; status_is = refl })
    (Named-more h es (Res w s n q) (named h es))
named h (Full w n ∷ es) = Named-more h es (Full w n) (named h es)
named h (Sub q ∷ es) = Named-more h es (Sub q) (named h es)
named h (Dis q ∷ es) = Named-more h es (Dis q) (named h es)
named h (Take q ∷ es) = Named-more h es (Take q) (named h es)

-- a record that was granted and not taken is shown
pub shown-contains : (h es : List Entry) (w s n q : ℕ) → is_taken_at h q ≡ false → Contains es (Res w s n q) →
    Contains (filter_map (untaken h) es) (record { pos = q; len = n; worker = w; serial = s; status = status_by (is_submitted_at h q) (is_discarded_at h q) false })
shown-contains h [] w s n q t is = absurd (omega (arith, is.1))
shown-contains h (e ∷ es) w s n q t is =
    elim (Contains-append_cases (e ∷ []) es (Res w s n q) is) [
      | inl one ↦
          let same : untaken h e ≡ untaken h (Res w s n q) = ap (untaken h) (only e (Res w s n q) one) in
          rw (same, t) (0, omega arith, refl)
      | inr more ↦ later h e es _ (shown-contains h es w s n q t more)
    ]
  where
    only : (x y : Entry) → Contains (x ∷ []) y → x ≡ y
    only x y (zero, l, is) = is
    only x y (suc k, l, is) = absurd (omega arith)

    kept : (o : Option Shown) (xs : List Shown) (x : Shown) → Contains xs x → Contains (cons_option o xs) x
    kept None xs x is = is
    kept (Some y) xs x is = Contains-append_right (y ∷ []) xs x is

    later : (h : List Entry) (e : Entry) (es : List Entry) (x : Shown) → Contains (filter_map (untaken h) es) x → Contains (filter_map (untaken h) (e ∷ es)) x
    later h e es x is = kept (untaken h e) (filter_map (untaken h) es) x is
