-- Lanes that ran what was dealt to them, and then what was left.
use Rattle.std.proofs.Common.{◌≡◌, ℕ, ◌<◌, List, [], ◌∷◌, ◌++◌, length, get_or, sym, ap, ◌∙◌, subst, arith}
use Rattle.rtrb.specs.Ring.{sent, received}
use Rattle.rb_dealing.specs.Dealt.{AreDealtAmong, dealt_to}
use Rattle.rb_dealing.specs.Streams.{RunsStream}
use Rattle.rb_dealing.specs.inner.Feeds.{queued, DealsGiven}
use Rattle.rb_dealing.specs.inner.Lanes.{LaneFinished, LaneRan}
use Rattle.rb_dealing.specs.Queues.{AreEmptyQueues}
use Rattle.rb_dealing.specs.declared.reader.Dealing.{Dealing}
use Rattle.rb_dealing.specs.declared.reader.Dealt.{Dealt}
use Rattle.rb_dealing.specs.declared.lane.LaneFeed.{LaneFeed}
use Rattle.rb_dealing.specs.declared.lane.Lane.{Lane}

some_feed : (fs : List LaneFeed) → 0 < length fs → LaneFeed
some_feed [] some = absurd (omega (arith, some))
some_feed (f ∷ fs) some = f

module _ {I W : Type 0} (gives : I → List (List ℕ) → I → Type 0) (ready : W → Type 0) (runs : W → List (List ℕ) → W → Type 0) (both : (x y z : W) (xs ys : List (List ℕ)) → runs x xs y → runs y ys z → runs x (xs ++ ys) z) where
  -- one lane
  lane_ran : (f g : LaneFeed) (a b c : Lane W) (dealt : List (List ℕ)) → sent f.pieces ≡ [] → received a.pieces ≡ [] → queued (sent g.pieces) ≡ queued (sent f.pieces) ++ dealt → LaneRan ready runs a b → LaneFinished ready runs g b c
      → runs a.worker dealt c.worker
  lane_ran f g a b c dealt unsent unread fed one two =
      let start : queued (received a.pieces) ≡ [] = ap queued unread in
      let first : queued (received b.pieces) ≡ one.contexts = one.taken_are ∙ ap (λ l. l ++ one.contexts) start in
      let all : one.contexts ++ two.lane.contexts ≡ dealt =
      ap (λ l. l ++ two.lane.contexts) (sym first) ∙ (sym two.lane.taken_are ∙ (two.all_taken ∙ (fed ∙ ap (λ l. queued l ++ dealt) unsent))) in
      subst (λ l. runs a.worker l c.worker) all (both a.worker b.worker c.worker one.contexts two.lane.contexts one.ran two.lane.ran)

  pub stream_ran : (s t : I) (fs gs : List LaneFeed) (os ms ls : List (Lane W)) (before after : Dealing) (dealt : Dealt)
      → before.contexts ≡ 0 → before.dropped ≡ 0 → dealt.contexts ≡ after.contexts → dealt.dropped ≡ after.dropped → length fs ≡ length os → length ms ≡ length os → length ls ≡ length ms → AreEmptyQueues fs os
      → DealsGiven gives s t fs gs before after
      → ((k : ℕ) (d : Lane W) → k < length os → LaneRan ready runs (get_or os k d) (get_or ms k d))
      → ((k : ℕ) (d : LaneFeed) (e : Lane W) → k < length ms → LaneFinished ready runs (get_or gs k d) (get_or ms k e) (get_or ls k e))
      → RunsStream gives ready runs s t os ls dealt
  stream_ran s t fs gs os ms ls before after dealt zero none all lost same middle last fresh deals ran finished =
      let d = deals.2 in
      let e = d.contexts_are in
      let l = d.dropped_are in
      record {
        pieces = deals.0;
        gave = deals.1;
        known = subst (λ n. AreDealtAmong n deals.0) same d.known;
        as_many = last ∙ middle;
        ran = λ k w below.
            let f = some_feed fs (omega (arith, same, below)) in
            let empty = fresh k f w below in
            lane_ran (get_or fs k f) (get_or gs k f) (get_or os k w) (get_or ms k w) (get_or ls k w) (dealt_to k deals.0) empty.0 empty.1 (d.fed.1 k f (omega (arith, same, below))).1 (ran k w below) (finished k f w (omega (arith, middle, below)));
        ready_still = λ k w below.
            let f = some_feed fs (omega (arith, same, middle, last, below)) in
            (finished k f w (omega (arith, last, below))).lane.ready_still;
        contexts_are = omega (arith, all, zero, e);
        dropped_are = omega (arith, lost, none, l);
      }
