-- A sum over the untaken records, weighted by their status, and what each entry changes in it.
use Rattle.std.proofs.Common.{◌≡◌, ℕ, ◌+◌, ◌<◌, Bool, true, false, ◌||◌, List, [], ◌∷◌, ◌++◌, length, get_or, set, refl, sym, ap, ◌∙◌, arith, subst}
use Rattle.std.specs.List.{sum_by}
use Rattle.std.proofs.lemmas.Bool.{false_from_ne_true, or_from, true≢false}
use Rattle.std.proofs.lemmas.List.Sums.{sum_by-set}
use Rattle.rb_history.specs.declared.entries.Entry.{Entry}
use Rattle.rb_history.specs.declared.entries.Entry.TheVariants.{Res, Full, Sub, Dis, Take}
use Rattle.rb_history.specs.History.{Shown, Status, status_by, is_granted_at, is_submitted_at, is_discarded_at, is_taken_at, producer_of, consumer_of, records}
use Rattle.rb_history.specs.History.Status.{Busy, Waiting, Discarded}
use Rattle.rb_history.specs.RoomRule.{Setup}
use Rattle.rb_history.specs.Legal.{MayFollow}
use Rattle.rb_history.specs.inner.RecordRows.{HistoryFacts}
use Rattle.rb_history.proofs.Laws.{KeptAs}
use Rattle.rb_history.proofs.Lists.{sum_by-cons, sum_by-snoc}
use Rattle.rb_history.proofs.Steps.{Named, shown-contains, records-full}
use Rattle.rb_history.proofs.Kept.{kept-res, kept-sub, kept-dis, kept-take, named-at}
use Rattle.rb_history.proofs.Standing.{grant-stands}
use Rattle.rb_chapter_ring.specs.declared.record_end.RecordEnd.{RecordEnd}
use Rattle.rb_chapter_ring.specs.declared.record_end.RecordEnd.TheVariants.{Submit, Discard}
use Rattle.rb_chapter_ring.specs.RecordEnds.{entry_of_end, status_of_end}

-- the sum of the records' weights by status
abbrev pub weight : (Status → ℕ) → List Shown → ℕ
weight f ss = sum_by (λ s. f s.status) ss

not-both : (s d : Bool) → s ≡ false → d ≡ false → (s || d) ≡ true → ⊥
not-both s d e f is = true≢false (sym is ∙ or_from s d e f)

settled-free : (s d : Bool) → (s || d) ≡ true → status_by s d false ≡ Busy → ⊥
settled-free true true o e = cc
settled-free true false o e = cc
settled-free false true o e = cc
settled-free false false o e = cc

-- the busy record at x, in the row
record InRowAt (ss : List Shown) (x : ℕ) : Type 0 where
  index : ℕ
  default : Shown
  within : index < length ss
  at : (get_or ss index default).pos ≡ x
  busy : (get_or ss index default).status ≡ Busy

module _ (f : Status → ℕ) (r : Setup) (h : List Entry) (k : KeptAs r h) where
  busy-at : (x : ℕ) → is_granted_at h x ≡ true → is_submitted_at h x ≡ false → is_discarded_at h x ≡ false → InRowAt (records h) x
  busy-at x g s d =
      let free : is_taken_at h x ≡ false = false_from_ne_true (is_taken_at h x) (λ t. not-both (is_submitted_at h x) (is_discarded_at h x) s d (k.closed x t)) in
      let st = grant-stands h x g in
      let there = shown-contains h h st.0 st.1.0 st.1.1.0 x free st.1.1.1 in
      record {
        index = there.0;
        default = record { pos = x; len = st.1.1.0; worker = st.0; serial = st.1.0; status = status_by (is_submitted_at h x) (is_discarded_at h x) false };
        within = there.1;
        at = ap (λ z. z.pos) there.2;
        busy = ap (λ z. z.status) there.2 ∙ rw (s, d) refl;
      }

  -- a record of the row has another status
  changed : (i : ℕ) (d : Shown) (st : Status) → i < length (records h) → (get_or (records h) i d).status ≡ Busy →
      weight f (set (records h) i (record (get_or (records h) i d) { status = st })) + f Busy ≡ weight f (records h) + f st
  changed i d st l b = ap (λ x. weight f (set (records h) i (record (get_or (records h) i d) { status = st })) + f x) (sym b) ∙ sum_by-set (λ (s : Shown). f s.status) (records h) i (record (get_or (records h) i d) { status = st }) d l

  pub weigh-full : (w n : ℕ) → weight f (records (h ++ Full w n ∷ [])) ≡ weight f (records h)
  weigh-full w n = ap (weight f) (records-full h w n)

  pub weigh-res : (w s n p : ℕ) → MayFollow r h (Res w s n p) → weight f (records (h ++ Res w s n p ∷ [])) ≡ weight f (records h) + f Busy
  weigh-res w s n p m =
      let now = (kept-res r h (records h) (producer_of r.start h) (consumer_of r.start h) w s n k m.0 m.2 m.3).shown in
      let new : Shown = record { pos = producer_of r.start h; len = n; worker = w; serial = s; status = Busy } in
      ap (λ q. weight f (records (h ++ Res w s n q ∷ []))) m.1 ∙ ap (weight f) (sym now) ∙ sum_by-snoc (λ (x : Shown). f x.status) (records h) new

  pub weigh-sub : (x : ℕ) → MayFollow r h (Sub x) → weight f (records (h ++ Sub x ∷ [])) + f Busy ≡ weight f (records h) + f Waiting
  weigh-sub x m =
      let a = busy-at x m.0 m.1 m.2 in
      let now = (kept-sub r h (records h) (producer_of r.start h) (consumer_of r.start h) a.index a.default k a.within a.busy).shown in
      ap (λ q. weight f (records (h ++ Sub q ∷ [])) + f Busy) (sym a.at) ∙ ap (λ ss. weight f ss + f Busy) (sym now) ∙ changed a.index a.default Waiting a.within a.busy

  pub weigh-dis : (x : ℕ) → MayFollow r h (Dis x) → weight f (records (h ++ Dis x ∷ [])) + f Busy ≡ weight f (records h) + f Discarded
  weigh-dis x m =
      let a = busy-at x m.0 m.1 m.2 in
      let now = (kept-dis r h (records h) (producer_of r.start h) (consumer_of r.start h) a.index a.default k a.within a.busy).shown in
      ap (λ q. weight f (records (h ++ Dis q ∷ [])) + f Busy) (sym a.at) ∙ ap (λ ss. weight f ss + f Busy) (sym now) ∙ changed a.index a.default Discarded a.within a.busy

  pub weigh-end : (end : RecordEnd) (x : ℕ) → MayFollow r h (entry_of_end end x) → weight f (records (h ++ entry_of_end end x ∷ [])) + f Busy ≡ weight f (records h) + f (status_of_end end)
  weigh-end Submit x m = weigh-sub x m
  weigh-end Discard x m = weigh-dis x m

  front : (c : ℕ) (ss : List Shown) → ss ≡ records h → c ≡ consumer_of r.start h → HistoryFacts r h ss (producer_of r.start h) c → (is_submitted_at h c || is_discarded_at h c) ≡ true → 0 < length ss →
      weight f (records (h ++ Take c ∷ [])) + f (status_by (is_submitted_at h c) (is_discarded_at h c) false) ≡ weight f ss
  front c [] is at j settled there = absurd (omega arith)
  front c (s ∷ ss) is at j settled there =
      let n : Named h h s = named-at r h (s ∷ ss) (producer_of r.start h) c 0 s j (omega arith) in
      let status : status_by (is_submitted_at h c) (is_discarded_at h c) false ≡ s.status = subst (λ q. status_by (is_submitted_at h q) (is_discarded_at h q) false ≡ s.status) j.in_row.0 n.status_is in
      let now = (kept-take r h s ss (producer_of r.start h) c j (λ b. settled-free (is_submitted_at h c) (is_discarded_at h c) settled (status ∙ b))).shown in
      ap (λ x. weight f x + f (status_by (is_submitted_at h c) (is_discarded_at h c) false)) (sym now)
      ∙ ap (λ x. weight f ss + f x) status
      ∙ omega (arith, sum_by-cons (λ (x : Shown). f x.status) s ss)

  pub weigh-take : (x : ℕ) → MayFollow r h (Take x) → weight f (records (h ++ Take x ∷ [])) + f (status_by (is_submitted_at h x) (is_discarded_at h x) false) ≡ weight f (records h)
  weigh-take x m =
      let c = consumer_of r.start h in
      let settled : (is_submitted_at h c || is_discarded_at h c) ≡ true = subst (λ q. (is_submitted_at h q || is_discarded_at h q) ≡ true) m.0 m.1 in
      let free : is_taken_at h c ≡ false = false_from_ne_true (is_taken_at h c) (λ t. omega (arith, k.passed c t)) in
      let st = grant-stands h c (k.named c settled) in
      let there = shown-contains h h st.0 st.1.0 st.1.1.0 c free st.1.1.1 in
      subst (λ q. weight f (records (h ++ Take q ∷ [])) + f (status_by (is_submitted_at h q) (is_discarded_at h q) false) ≡ weight f (records h)) (sym m.0)
      (front c (records h) refl refl k settled (omega (arith, there.1)))
