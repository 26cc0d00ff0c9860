-- How the parts of a run fit together.
use Rattle.std.proofs.Common.{◌≡◌, ℕ, ◌<◌, ◌≤◌, List, [], ◌∷◌, ◌++◌, length, take, drop, get_or, map, refl, ap, sym, ◌∙◌, subst, arith}
use Rattle.std.proofs.Math.Seq.{take-append_seam}
use Rattle.std.proofs.lemmas.List.{length-map}
use Rattle.std.specs.Prelude.{Bool, All, vec_capacity}
use Rattle.std.specs.List.{AllZip}
use Rattle.std.proofs.lemmas.Option.{slice_get-get_or}
use Rattle.std.proofs.lemmas.List.Elements.{All-cons}
use Rattle.rb_ledger.specs.Seats.{WorkerSeat}
use Rattle.rb_ledger.specs.ChapterSeats.{ChapterConsumerSeat}
use Rattle.rb_workers.specs.declared.consumer_task.ConsumerTask.{ConsumerTask}
use Rattle.rb_workers.specs.declared.opened.Opened.{Opened}
use Rattle.rb_jobs.specs.declared.job.Job.{Job}
use Rattle.rb_jobs.specs.declared.job.JobAnswer.{JobAnswer}
use Rattle.rb_jobs.specs.SeatHelpers.{IsAt, AtRings}
use Rattle.rb_workers.specs.inner.ConsumerTasks.{IsSameConsumer, HasGiven, TakesRest, IsConsumerTaskOf, IsSplitOff, Consumed, IsConsumed}
use Rattle.rb_workers.specs.JobRuns.{own_jobs}
use Rattle.rb_workers.specs.inner.WorkerRuns.{RunsOwnJobs}
use Rattle.rb_consumer.specs.Keepers.{KeeperValue}
use Rattle.rb_workers.specs.SeatRows.{worker_column, seat_rows}
use Rattle.rb_workers.specs.Opened.{IsOpened, IsKeeperFor}
use Rattle.rb_workers.specs.Rest.{IsDrained}
use Rattle.rb_workers.specs.Sink.{SinkItem}
use Rattle.rb_ledger.proofs.Beginnings.{begins_with_all}
use Rattle.rb_workers.proofs.SinkItems.{given_on, given_same, keeper_on, nothing_given, same_on}
use Rattle.rb_workers.proofs.Numbered.{seats_length}
use Rattle.rb_workers.proofs.Joined.{IsMergedInto}
use Rattle.rb_workers.proofs.Parts.{some_of, column_cons, all_first, all_rest}

pub column_at : {S : Type 0} (position : S → ℕ) (count k : ℕ) (opened : List (Opened S)) → All (IsOpened position count) opened → k < count → AtRings (map (λ o. o.ring) opened) (worker_column k (seat_rows opened))
column_at position count k [] all below = tt
column_at position count k (o ∷ os) all below =
    let first = all_first (IsOpened position count) (o ∷ os) os o refl all in
    let row = o.seats.items in
    let inside : k < length row = omega (arith, seats_length position count o first) in
    let s = some_of row k inside in
    subst (λ (l : List WorkerSeat). AllZip IsAt (o.ring ∷ map (λ x. x.ring) os) l) (sym (column_cons k row (seat_rows os) (get_or row k s) (slice_get-get_or row k s inside)))
    (first.seats_at k s inside, column_at position count k os (all_rest (IsOpened position count) (o ∷ os) os o refl all) below)

-- a keeper that fits a ring, for equal values
keeper_at : (c d : ChapterConsumerSeat) (k l : KeeperValue) → d ≡ c → l ≡ k → IsKeeperFor c k → IsKeeperFor d l
keeper_at c d k l ec ek is = subst (λ s. IsKeeperFor s l) (sym ec) (subst (IsKeeperFor c) (sym ek) is)

pub takers_at : {S : Type 0} (position : S → ℕ) (count : ℕ) (opened : List (Opened S)) (consumers : List (ConsumerTask S)) → AllZip IsSplitOff opened consumers → All (IsOpened position count) opened → AllZip (IsConsumerTaskOf position) (map (λ o. o.ring) opened) consumers
takers_at position count [] [] parts all = tt
takers_at position count [] (t ∷ ts) parts all = absurd parts
takers_at position count (o ∷ os) [] parts all = absurd parts
takers_at position count (o ∷ os) (t ∷ ts) parts all =
    let first = all_first (IsOpened position count) (o ∷ os) os o refl all in
    let p = parts.0 in (
      (ap (λ (c : ChapterConsumerSeat). c.tag) p.0 ∙ first.consumer_tag, ap (λ (c : ChapterConsumerSeat). c.ring) p.0 ∙ first.consumer_at, ap position p.1 ∙ (first.sink_follows ∙ sym (ap (λ (c : ChapterConsumerSeat). c.position) p.0)), keeper_at o.consumer t.consumer o.keeper t.keeper p.0 p.4 first.keeper_fits),
      takers_at position count os ts parts.1 (all_rest (IsOpened position count) (o ∷ os) os o refl all),
    )

pub homes_at : {S : Type 0} (position : S → ℕ) (takes : S → SinkItem → S → Type 0) (count : ℕ) (opened : List (Opened S)) (consumers ended : List (ConsumerTask S)) → AllZip IsSplitOff opened consumers → AllZip (Consumed position takes) consumers ended → All (IsOpened position count) opened
    → All (λ t. (t.returned_seats.items ≡ []) × (count ≤ vec_capacity t.returned_seats)) ended
homes_at {S} position takes count [] [] [] parts ends all = λ k d below. absurd (omega arith)
homes_at {S} position takes count [] [] (u ∷ us) parts ends all = absurd ends
homes_at {S} position takes count [] (t ∷ ts) ended parts ends all = absurd parts
homes_at {S} position takes count (o ∷ os) [] ended parts ends all = absurd parts
homes_at {S} position takes count (o ∷ os) (t ∷ ts) [] parts ends all = absurd ends
homes_at {S} position takes count (o ∷ os) (t ∷ ts) (u ∷ us) parts ends all =
    let first = all_first (IsOpened position count) (o ∷ os) os o refl all in
    let p = parts.0 in
    let room : count ≤ vec_capacity t.returned_seats = omega (arith, seats_length position count o first, p.3) in
    All-cons (λ (t : ConsumerTask S). (t.returned_seats.items ≡ []) × (count ≤ vec_capacity t.returned_seats)) u us (subst (λ h. (h.items ≡ []) × (count ≤ vec_capacity h)) (sym ends.0.2) (p.2, room))
    (homes_at position takes count os ts us parts.1 ends.1 (all_rest (IsOpened position count) (o ∷ os) os o refl all))

pub zip_through : {A B C : Type 0} (R : A → B → Type 0) (Q : B → C → Type 0) (P : A → C → Type 0) → ((x : A) (y : B) (z : C) → R x y → Q y z → P x z)
    → (xs : List A) (ys : List B) (zs : List C) → AllZip R xs ys → AllZip Q ys zs → AllZip P xs zs
zip_through R Q P step [] [] [] r q = tt
zip_through R Q P step [] [] (z ∷ zs) r q = absurd q
zip_through R Q P step [] (y ∷ ys) zs r q = absurd r
zip_through R Q P step (x ∷ xs) [] zs r q = absurd r
zip_through R Q P step (x ∷ xs) (y ∷ ys) [] r q = absurd q
zip_through R Q P step (x ∷ xs) (y ∷ ys) (z ∷ zs) r q = (step x y z r.0 q.0, zip_through R Q P step xs ys zs r.1 q.1)

pub lent_whole : {A : Type 0} (len : ℕ) (new items : List A) → length new ≡ len → take len (new ++ drop (length new) items) ≡ new
lent_whole len new items e = subst (λ n. take n (new ++ drop (length new) items) ≡ new) e (take-append_seam new (drop (length new) items))

pub rings_length : {S : Type 0} (xs : List (Opened S)) → length (map (λ (o : Opened S). o.ring) xs) ≡ length xs
rings_length xs = length-map xs (λ o. o.ring)

abbrev HasEnded : {S : Type 0} → (S → ℕ) → (S → SinkItem → S → Type 0) → Opened S → ConsumerTask S → Type 0
HasEnded position takes o u =
    IsSameConsumer o.consumer u.consumer × (position u.sink ≡ u.consumer.position)
    × HasGiven takes o.consumer u.consumer o.sink u.sink × IsKeeperFor u.consumer u.keeper

-- what one ring's consumer took first, and then more
pub consumed_then : {S : Type 0} (position : S → ℕ) (takes : S → SinkItem → S → Type 0) (a b c : Opened S) → IsConsumed position takes a b → IsConsumed position takes b c → IsConsumed position takes a c
consumed_then position takes a b c one two =
    (same_on a.consumer b.consumer c.consumer one.0 two.0, two.1, given_on takes a.consumer b.consumer c.consumer a.sink b.sink c.sink two.0.begins one.2 two.2, two.3)

pub ends_at : {S : Type 0} (position : S → ℕ) (takes : S → SinkItem → S → Type 0) (opened back : List (Opened S)) (consumers ended : List (ConsumerTask S)) → AllZip IsSplitOff opened consumers → AllZip (Consumed position takes) consumers ended → AllZip IsMergedInto ended back → AllZip (IsConsumed position takes) opened back
ends_at {S} position takes opened back consumers ended parts ends from =
    zip_through (HasEnded position takes) IsMergedInto (IsConsumed position takes)
    (λ o u n h f. (
      subst (λ c. IsSameConsumer o.consumer c) (sym f.0) h.0,
      ap position f.1 ∙ (h.1 ∙ sym (ap (λ (c : ChapterConsumerSeat). c.position) f.0)),
      given_same takes o.consumer o.consumer u.consumer n.consumer o.sink o.sink u.sink n.sink refl f.0 refl f.1 h.2,
      keeper_at u.consumer n.consumer u.keeper n.keeper f.0 f.2 h.3,
    ))
    opened ended back
    (zip_through IsSplitOff (Consumed position takes) (HasEnded position takes)
    (λ o t u p e. (
      subst (λ c. IsSameConsumer c u.consumer) p.0 e.0,
      e.1,
      given_same takes t.consumer o.consumer u.consumer u.consumer t.sink o.sink u.sink u.sink (sym p.0) refl (sym p.1) refl e.3,
      e.4,
    ))
    opened consumers ended parts ends)
    from

-- what was consumed first, and then more
pub consumed_again : {S : Type 0} (position : S → ℕ) (takes : S → SinkItem → S → Type 0) (opened back left : List (Opened S)) → AllZip (IsConsumed position takes) opened back → AllZip (IsConsumed position takes) back left → AllZip (IsConsumed position takes) opened left
consumed_again position takes opened back left first second =
    zip_through (IsConsumed position takes) (IsConsumed position takes) (IsConsumed position takes) (consumed_then position takes) opened back left first second

-- nothing was consumed, and then one more batch
pub consumed_itself : {S : Type 0} (position : S → ℕ) (takes : S → SinkItem → S → Type 0) (o : Opened S) → position o.sink ≡ o.consumer.position → IsKeeperFor o.consumer o.keeper → IsConsumed position takes o o
consumed_itself position takes o follows keeper =
    (record { tag_same = refl; ring_same = refl; room_same = refl; begins = begins_with_all o.consumer.seen }, follows, nothing_given takes o.consumer o.sink, keeper)

pub consumed_batch : {S : Type 0} (position : S → ℕ) (takes : S → SinkItem → S → Type 0) (a b : Opened S) (consumer : ChapterConsumerSeat) (sink : S) → IsConsumed position takes a b → IsSameConsumer b.consumer consumer → position sink ≡ consumer.position → HasGiven takes b.consumer consumer b.sink sink
    → IsConsumed position takes a (record b { consumer = consumer; sink = sink })
consumed_batch position takes a b consumer sink one same follows given =
    (same_on a.consumer b.consumer consumer one.0 same, follows, given_on takes a.consumer b.consumer consumer a.sink b.sink sink same.begins one.2 given, keeper_on b.consumer consumer b.keeper same one.3)

-- ---- what was left

-- one list of rings after another, ring by ring
pub rests_of : {S : Type 0} (position : S → ℕ) (takes : S → SinkItem → S → Type 0) (back left : List (Opened S)) → AllZip (TakesRest position takes) back left
    → AllZip (IsConsumed position takes) back left × (map (λ o. o.ring) left ≡ map (λ o. o.ring) back) × (seat_rows left ≡ seat_rows back) × All IsDrained left
rests_of {S} position takes [] [] rests = (tt, refl, refl, (λ k d below. absurd (omega arith)))
rests_of {S} position takes [] (n ∷ left) rests = absurd rests
rests_of {S} position takes (b ∷ back) [] rests = absurd rests
rests_of {S} position takes (b ∷ back) (n ∷ left) rests =
    let one = rests.0 in
    let more = rests_of position takes back left rests.1 in (
      (one.0, more.0),
      (λ i. one.1 i ∷ more.1 i),
      (λ i. (one.2 i).items ∷ more.2 i),
      All-cons (λ (o : Opened S). IsDrained o) n left one.3 more.3,
    )

pub worked_at : (js : List Job) (w w' : ℕ) (s s' : Bool) (a a' : List JobAnswer) (o o' n n' : List WorkerSeat) → w ≡ w' → s ≡ s' → a ≡ a' → o ≡ o' → n ≡ n' → RunsOwnJobs (own_jobs w js) s a o n → RunsOwnJobs (own_jobs w' js) s' a' o' n'
worked_at js w w' s s' a a' o o' n n' ew es ea eo en h =
    subst (λ x. RunsOwnJobs (own_jobs x js) s' a' o' n') ew (subst (λ x. RunsOwnJobs (own_jobs w js) x a' o' n') es (subst (λ x. RunsOwnJobs (own_jobs w js) s x o' n') ea (subst (λ x. RunsOwnJobs (own_jobs w js) s a x n') eo (subst (λ x. RunsOwnJobs (own_jobs w js) s a o x) en h))))
