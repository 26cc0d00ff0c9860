-- Laws about lanes that run one piece after another.
use Rattle.std.proofs.Common.{◌≡◌, ◌≢◌, ℕ, ◌+◌, ◌<◌, ⊎_elim, get_or, set, length, arith, List, [], ◌∷◌, ◌++◌, refl, sym, ap, ◌∙◌, subst, append-nil, append_assoc}
use Rattle.std.proofs.lemmas.List.Concat.{flat_map-append}
use Rattle.rtrb.specs.Ring.{received, SameConsumer}
use Rattle.rb_source.specs.Piece.{PieceContents}
use Rattle.rb_dealing.specs.inner.Feeds.{queued}
use Rattle.std.proofs.lemmas.Bool.{cases_eq}
use Rattle.std.proofs.lemmas.List.{get_or-set_same, get_or-set_other, get_or_default, get_or_push, get_or_append_left, length_push}
use Rattle.rb_dealing.specs.Queues.{AreEmptyQueues, AreFeedsOf, IsEmptyQueue, IsFeedOf}
use Rattle.rb_dealing.specs.inner.Lanes.{LaneFinished, LaneRan}
use Rattle.rb_dealing.specs.declared.lane.LaneFeed.{LaneFeed}
use Rattle.rb_dealing.specs.declared.lane.Lane.{Lane}

module _ {W : Type 0} (ready : W → Type 0) (runs : W → List (List ℕ) → W → Type 0) where
  -- nothing was taken
  pub lane_none : (old : Lane W) → runs old.worker [] old.worker → ready old.worker → LaneRan ready runs old old
  lane_none old none is = record {
    contexts = [];
    queue_same = ((refl, refl, refl, refl), refl);
    taken_are = sym (append-nil (queued (received old.pieces)));
    ran = none;
    ready_still = is;
  }

  -- the queue was polled
  pub lane_looked : (a b c : Lane W) → LaneRan ready runs a b → SameConsumer b.pieces c.pieces → received c.pieces ≡ received b.pieces → c.worker ≡ b.worker → LaneRan ready runs a c
  lane_looked a b c one same none stays = record {
    contexts = one.contexts;
    queue_same = ((same.0.0 ∙ one.queue_same.0.0, same.0.1 ∙ one.queue_same.0.1, same.0.2 ∙ one.queue_same.0.2, same.0.3 ∙ one.queue_same.0.3), same.1 ∙ one.queue_same.1);
    taken_are = ap queued none ∙ one.taken_are;
    ran = subst (runs a.worker one.contexts) (sym stays) one.ran;
    ready_still = subst ready (sym stays) one.ready_still;
  }

  -- one more piece was taken and run
  pub lane_more : ((x y z : W) (xs ys : List (List ℕ)) → runs x xs y → runs y ys z → runs x (xs ++ ys) z)
      → (a b c : Lane W) (piece : PieceContents) (q : _) → LaneRan ready runs a b → SameConsumer b.pieces q → received q ≡ received b.pieces ++ piece ∷ [] → c.pieces ≡ q → runs b.worker piece.contexts c.worker → ready c.worker → LaneRan ready runs a c
  lane_more both a b c piece q one same more is_q ran is = record {
    contexts = one.contexts ++ piece.contexts;
    queue_same =
        subst (SameConsumer a.pieces) (sym is_q)
        ((same.0.0 ∙ one.queue_same.0.0, same.0.1 ∙ one.queue_same.0.1, same.0.2 ∙ one.queue_same.0.2, same.0.3 ∙ one.queue_same.0.3), same.1 ∙ one.queue_same.1);
    taken_are =
        ap (λ x. queued (received x)) is_q
        ∙ (ap queued more
        ∙ (flat_map-append (λ (p : PieceContents). p.contexts) (received b.pieces) (piece ∷ [])
        ∙ (ap (λ l. queued (received b.pieces) ++ l) (append-nil piece.contexts)
        ∙ (ap (λ l. l ++ piece.contexts) one.taken_are ∙ append_assoc (queued (received a.pieces)) one.contexts piece.contexts))));
    ran = both a.worker b.worker c.worker one.contexts piece.contexts one.ran ran;
    ready_still = is;
  }

  -- one more lane was finished
  pub finished_more : (feeds : List LaneFeed) (olds lanes : List (Lane W)) (at : ℕ) (f : LaneFeed) (l new : Lane W) → at < length lanes → at < length feeds → at < length olds → LaneFinished ready runs (get_or feeds at f) (get_or olds at l) new
      → ((k : ℕ) (d : LaneFeed) (e : Lane W) → k < at → LaneFinished ready runs (get_or feeds k d) (get_or olds k e) (get_or lanes k e))
      → (k : ℕ) (d : LaneFeed) (e : Lane W) → k < at + 1 → LaneFinished ready runs (get_or feeds k d) (get_or olds k e) (get_or (set lanes at new) k e)
  finished_more feeds olds lanes at f l new inside within among one before k d e below =
      ⊎_elim
      (λ (is : k ≡ at).
      subst (λ j. LaneFinished ready runs (get_or feeds j d) (get_or olds j e) (get_or (set lanes at new) j e)) (sym is)
      (subst (LaneFinished ready runs (get_or feeds at d) (get_or olds at e)) (sym (get_or-set_same lanes at new e inside))
      (subst (λ x. LaneFinished ready runs x (get_or olds at e) new) (get_or_default feeds at f d within)
      (subst (λ x. LaneFinished ready runs (get_or feeds at f) x new) (get_or_default olds at l e among) one))))
      (λ (other : k ≢ at). subst (LaneFinished ready runs (get_or feeds k d) (get_or olds k e)) (sym (get_or-set_other lanes at k new e other)) (before k d e (omega arith)))
      (cases_eq k at)

-- ---- one more lane

pub feeds_more : {W : Type 0} (feeds : List LaneFeed) (lanes : List (Lane W)) (f : LaneFeed) (l : Lane W) → AreFeedsOf feeds lanes → IsFeedOf f l → AreFeedsOf (feeds ++ f ∷ []) (lanes ++ l ∷ [])
feeds_more {W} feeds lanes f l pairs one =
    let long = length_push feeds f in
    let many = length_push lanes l in
    let same = pairs.0 in (
      omega (arith, long, many, same),
      λ k d e below. ⊎_elim
          (λ (is : k ≡ length lanes). subst (λ x. IsFeedOf x (get_or (lanes ++ l ∷ []) k e)) (sym (get_or_push feeds f d k (omega (arith, same, is)))) (subst (IsFeedOf f) (sym (get_or_push lanes l e k (sym is))) one))
          (λ (other : k ≢ length lanes).
          subst (λ x. IsFeedOf x (get_or (lanes ++ l ∷ []) k e)) (sym (get_or_append_left feeds (f ∷ []) d k (omega (arith, below, many, same, other))))
          (subst (IsFeedOf (get_or feeds k d)) (sym (get_or_append_left lanes (l ∷ []) e k (omega (arith, below, many, other)))) (pairs.1 k d e (omega (arith, below, many, other)))))
          (cases_eq k (length lanes)),
    )

pub queues_more : {W : Type 0} (feeds : List LaneFeed) (lanes : List (Lane W)) (f : LaneFeed) (l : Lane W) → length feeds ≡ length lanes → AreEmptyQueues feeds lanes → IsEmptyQueue f l → AreEmptyQueues (feeds ++ f ∷ []) (lanes ++ l ∷ [])
queues_more {W} feeds lanes f l same empty one k d e below =
    let many = length_push lanes l in
    ⊎_elim
    (λ (is : k ≡ length lanes). subst (λ x. IsEmptyQueue x (get_or (lanes ++ l ∷ []) k e)) (sym (get_or_push feeds f d k (omega (arith, same, is)))) (subst (IsEmptyQueue f) (sym (get_or_push lanes l e k (sym is))) one))
    (λ (other : k ≢ length lanes).
    subst (λ x. IsEmptyQueue x (get_or (lanes ++ l ∷ []) k e)) (sym (get_or_append_left feeds (f ∷ []) d k (omega (arith, below, many, same, other))))
    (subst (IsEmptyQueue (get_or feeds k d)) (sym (get_or_append_left lanes (l ∷ []) e k (omega (arith, below, many, other)))) (empty k d e (omega (arith, below, many, other)))))
    (cases_eq k (length lanes))
