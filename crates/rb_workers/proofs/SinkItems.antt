-- What a consumer's thread gives to its sink is what was taken and handed out.
use Rattle.std.proofs.Common.{◌≡◌, ℕ, ◌+◌, ◌<◌, ◌≤◌, ◌||◌, Bool, true, false, cond, List, [], ◌∷◌, ◌++◌, Some, length, refl, ap, sym, ◌∙◌, subst, append-nil, append_assoc, arith}
use Rattle.std.proofs.lemmas.Bool.{true≢false}
use Rattle.std.proofs.lemmas.List.Elements.{All-nil, All-cons, All-append, All-weaker, All-head, All-tail, Contains-append_left, filter_map-append}
use Rattle.std.proofs.lemmas.List.Folds.{list_any-append}
use Rattle.std.specs.Prelude.{All}
use Rattle.std.specs.List.{Contains, list_any}
use Rattle.std.specs.FinMap.{get, insert, get-insert}
use Rattle.std.specs.Cmp.{nat_cmp_total}
use Rattle.rb_history.specs.Span.{span}
use Rattle.rb_history.specs.declared.entries.Entry.{Entry}
use Rattle.rb_history.specs.declared.entries.Entry.TheVariants.{Res, Full, Sub, Dis, Take}
use Rattle.rb_history.specs.declared.answers.Taken.{Taken}
use Rattle.rb_history.specs.declared.answers.Taken.TheVariants.{Event as TakenEvent, Skipped, BusyFront, Empty}
use Rattle.rb_history.specs.History.{status_by, is_submit, is_discard, is_submitted_at, is_discarded_at, is_taken_at}
use Rattle.rb_history.specs.History.Status.{Waiting, Discarded}
use Rattle.rb_history.specs.RingModel.{Ring, Contents}
use Rattle.rb_history.specs.Calls.{Takes}
use Rattle.rb_history.proofs.Contents.{hit-yes, hit-no}
use Rattle.rb_ledger.specs.Roles.{Book, NoneOwn, ExtendsSeen, BeginsWith, book_of}
use Rattle.rb_ledger.specs.Roles.Role.{Consumer}
use Rattle.rb_history.specs.ManyTakes.{HasRecord, TakesEach, TakesMany}
use Rattle.rb_history.proofs.Lists.{sum_by-cons}
use Rattle.rb_ledger.specs.LockedCalls.{LockedCall, got_by, span_in, IsTakenAt}
use Rattle.rb_ledger.specs.ManyTakes.{span_among, AreTakenFrom, got_by_all}
use Rattle.rb_ledger.specs.ChapterSeats.{ChapterConsumerSeat}
use Rattle.rb_shared_ring.specs.SharedSeats.{IsSameChapterConsumer}
use Rattle.rb_ledger.proofs.Beginnings.{begins_through, begins_with_all, call_begins, logged_begins}
use Rattle.rb_ledger.proofs.ManyTakes.{takes_of, logs-each}
use Rattle.rb_workers.specs.declared.consumer_task.ConsumerTask.{ConsumerTask}
use Rattle.rb_consumer.specs.Keepers.{KeeperValue}
use Rattle.rb_history.specs.RoomRule.{Setup}
use Rattle.rb_workers.specs.Opened.{IsKeeperFor}
use Rattle.rb_workers.specs.Sink.{SinkItem, GetsTaken, IsRecordIn, TakesAll, sink_position, sink_chapter, positions_among, chapters_among, takes_in, take_of}
use Rattle.rb_workers.specs.Sink.SinkItem.{Record, Chapter, CaughtUp}
use Rattle.rb_workers.specs.inner.ConsumerTasks.{Consumed, HasGiven, IsBefore, IsSameConsumer, items_among}

-- ---- a longer history

submitted_on : (h more : List Entry) (p : ℕ) → is_submitted_at h p ≡ true → is_submitted_at (h ++ more) p ≡ true
submitted_on h more p is = list_any-append (is_submit p) h more ∙ ap (λ b. b || list_any (is_submit p) more) is

discarded_on : (h more : List Entry) (p : ℕ) → is_discarded_at h p ≡ true → is_discarded_at (h ++ more) p ≡ true
discarded_on h more p is = list_any-append (is_discard p) h more ∙ ap (λ b. b || list_any (is_discard p) more) is

-- a record of a history is one of each longer history, if the bytes there are the same
record_on : (h more : List Entry) (got now : Contents) (at : ℕ) (item : SinkItem) → IsBefore at item → ((p : ℕ) → p < at → get now p ≡ get got p) → IsRecordIn h got item → IsRecordIn (h ++ more) now item
record_on h more got now at (Record (TakenEvent p w k bytes)) before same is = (Contains-append_left h more (Res w k (length bytes) p) is.0, submitted_on h more p is.1, same p before ∙ is.2)
record_on h more got now at (Record BusyFront) before same is = absurd is
record_on h more got now at (Record Empty) before same is = absurd is
record_on h more got now at (Chapter c) before same is = tt
record_on h more got now at CaughtUp before same is = tt
record_on h more got now at (Record (Skipped p n)) before same is = ((is.0.0, (is.0.1.0, Contains-append_left h more (Res is.0.0 is.0.1.0 n p) is.0.1.1)), discarded_on h more p is.1)

-- entries that are not the consumer's take nothing
none_taken : (before behind : List Entry) → NoneOwn Consumer before behind → takes_in behind ≡ []
none_taken before [] none = refl
none_taken before (Res w k n p ∷ es) none = none_taken (before ++ Res w k n p ∷ []) es none.1
none_taken before (Full w n ∷ es) none = none_taken (before ++ Full w n ∷ []) es none.1
none_taken before (Sub p ∷ es) none = none_taken (before ++ Sub p ∷ []) es none.1
none_taken before (Dis p ∷ es) none = none_taken (before ++ Dis p ∷ []) es none.1
none_taken before (Take p ∷ es) none = absurd (true≢false none.0)

pub takes_stay : (seen now : Book) → ExtendsSeen Consumer seen now → takes_in now.history ≡ takes_in seen.history
takes_stay seen now goes =
    ap takes_in goes.history_is
    ∙ (filter_map-append take_of seen.history goes.behind ∙ (ap (λ l. takes_in seen.history ++ l) (none_taken seen.history goes.behind goes.none_own) ∙ append-nil (takes_in seen.history)))

-- ---- all items

taken_all : {S : Type 0} (takes : S → SinkItem → S → Type 0) (a b c : S) (first more : List SinkItem) → TakesAll takes a first b → TakesAll takes b more c → TakesAll takes a (first ++ more) c
taken_all takes a b c [] more one two = subst (λ s. TakesAll takes s more c) one two
taken_all takes a b c (item ∷ first) more one two = (one.0, one.1, taken_all takes one.0 b c first more one.2 two)

-- ---- what was given

pub nothing_given : {S : Type 0} (takes : S → SinkItem → S → Type 0) (seat : ChapterConsumerSeat) (sink : S) → HasGiven takes seat seat sink sink
nothing_given takes seat sink =
    record {
      gets = record { items = []; taken_are = sym (append-nil (takes_in seat.seen.history)); records_are = All-nil (IsRecordIn seat.seen.history seat.got); chapters_are = sym (append-nil seat.handed_out); given = refl };
      moved = omega arith;
      passed = All-nil (IsBefore seat.position);
      keeps = λ p below. refl;
    }

records_on : (h more now : List Entry) (got kept : Contents) (at : ℕ) (items : List SinkItem) → now ≡ h ++ more → All (IsBefore at) items
    → ((p : ℕ) → p < at → get kept p ≡ get got p) → All (IsRecordIn h got) items → All (IsRecordIn now kept) items
records_on h more now got kept at [] is below keeps records = All-nil (IsRecordIn now kept)
records_on h more now got kept at (item ∷ items) is below keeps records =
    All-cons (IsRecordIn now kept) item items
    (subst (λ l. IsRecordIn l kept item) (sym is)
    (record_on h more got kept at item (All-head (IsBefore at) item items below) keeps (All-head (IsRecordIn h got) item items records)))
    (records_on h more now got kept at items is (All-tail (IsBefore at) item items below) keeps (All-tail (IsRecordIn h got) item items records))

-- what is before a position is before each later one
before_later : (at end : ℕ) → at ≤ end → (item : SinkItem) → IsBefore at item → IsBefore end item
before_later at end later (Record (TakenEvent p w k bytes)) before = omega (arith, later, before)
before_later at end later (Record (Skipped p n)) before = omega (arith, later, before)
before_later at end later (Record BusyFront) before = tt
before_later at end later (Record Empty) before = tt
before_later at end later (Chapter c) before = tt
before_later at end later CaughtUp before = tt

-- what was given first, and then more
pub given_on : {S : Type 0} (takes : S → SinkItem → S → Type 0) (a b c : ChapterConsumerSeat) (x y z : S) → BeginsWith c.seen b.seen → HasGiven takes a b x y → HasGiven takes b c y z → HasGiven takes a c x z
given_on takes a b c x y z begins one two =
    let first = one.gets.items in
    let more = two.gets.items in
    let moved = two.moved in
    record {
      gets = record {
        items = first ++ more;
        taken_are =
            two.gets.taken_are
            ∙ (ap (λ l. l ++ positions_among more) one.gets.taken_are ∙ (append_assoc (takes_in a.seen.history) (positions_among first) (positions_among more) ∙ ap (λ l. takes_in a.seen.history ++ l) (sym (filter_map-append sink_position first more))));
        records_are =
            All-append (IsRecordIn c.seen.history c.got) first more
            (records_on b.seen.history begins.behind c.seen.history b.got c.got b.position first begins.history_is one.passed two.keeps one.gets.records_are)
            two.gets.records_are;
        chapters_are =
            two.gets.chapters_are
            ∙ (ap (λ l. l ++ chapters_among more) one.gets.chapters_are ∙ (append_assoc a.handed_out (chapters_among first) (chapters_among more) ∙ ap (λ l. a.handed_out ++ l) (sym (filter_map-append sink_chapter first more))));
        given = taken_all takes x y z first more one.gets.given two.gets.given;
      };
      moved = let m = one.moved in omega (arith, m, moved);
      passed =
          All-append (IsBefore c.position) first more
          (All-weaker (IsBefore b.position) (IsBefore c.position) (before_later b.position c.position moved) first one.passed)
          two.passed;
      keeps = λ p below. two.keeps p (let m = one.moved in omega (arith, below, m)) ∙ one.keeps p below;
    }

pub one_item : (at : ℕ) (item : SinkItem) → IsBefore at item → All (IsBefore at) (item ∷ [])
one_item at item below = All-cons (IsBefore at) item [] below (All-nil (IsBefore at))

-- the sink was notified that there was nothing to take
pub caught_up : {S : Type 0} (takes : S → SinkItem → S → Type 0) (seat : ChapterConsumerSeat) (x y : S) → takes x CaughtUp y → HasGiven takes seat seat x y
caught_up takes seat x y took =
    record {
      gets = record {
        items = CaughtUp ∷ [];
        taken_are = sym (append-nil (takes_in seat.seen.history));
        records_are = All-cons (IsRecordIn seat.seen.history seat.got) CaughtUp [] tt (All-nil (IsRecordIn seat.seen.history seat.got));
        chapters_are = sym (append-nil seat.handed_out);
        given = (y, took, refl);
      };
      moved = omega arith;
      passed = one_item seat.position CaughtUp tt;
      keeps = λ p below. refl;
    }

-- ---- one take

waiting_submitted : (s d t : Bool) → status_by s d t ≡ Waiting → s ≡ true
waiting_submitted true d t e = refl
waiting_submitted false true t e = cc
waiting_submitted false false t e = cc

status_discarded : (s d t : Bool) → status_by s d t ≡ Discarded → d ≡ true
status_discarded s true t e = refl
status_discarded true false true e = cc
status_discarded true false false e = cc
status_discarded false false t e = cc

-- a take of one record
takes_one : (seen now : Book) (point : Ring) (p : ℕ) → ExtendsSeen Consumer seen (book_of point) → now.history ≡ point.history ++ Take p ∷ [] → takes_in now.history ≡ takes_in seen.history ++ p ∷ []
takes_one seen now point p goes is =
    ap takes_in is ∙ (filter_map-append take_of point.history (Take p ∷ []) ∙ ap (λ l. l ++ p ∷ []) (takes_stay seen (book_of point) goes))

get_here : (m : Contents) (p : ℕ) (b : List ℕ) → get (insert m p b) p ≡ Some b
get_here m p b = get-insert nat_cmp_total m p b p ∙ ap (λ t. cond t (Some b) (get m p)) (hit-yes p p refl)

get_before : (m : Contents) (p q : ℕ) (b : List ℕ) → q < p → get (insert m p b) q ≡ get m q
get_before m p q b below = get-insert nat_cmp_total m p b q ∙ ap (λ t. cond t (Some b) (get m q)) (hit-no q p (λ e. absurd (omega (arith, below, e))))

wide : (n : ℕ) → 0 < span n
wide n = omega arith

takes_stay_same : (old new : ChapterConsumerSeat) (point : Ring) → ExtendsSeen Consumer old.seen (book_of point) → new.seen.history ≡ point.history → takes_in new.seen.history ≡ takes_in old.seen.history
takes_stay_same old new point goes same = ap takes_in same ∙ takes_stay old.seen (book_of point) goes

-- nothing was taken
pub still : {S : Type 0} (takes : S → SinkItem → S → Type 0) (old new : ChapterConsumerSeat) (x y : S) → takes_in new.seen.history ≡ takes_in old.seen.history → new.position ≡ old.position + 0 → new.got ≡ old.got → new.handed_out ≡ old.handed_out → y ≡ x → HasGiven takes old new x y
still takes old new x y taken position got chapters given =
    record {
      gets = record { items = []; taken_are = taken ∙ sym (append-nil (takes_in old.seen.history)); records_are = All-nil (IsRecordIn new.seen.history new.got); chapters_are = chapters ∙ sym (append-nil old.handed_out); given = given };
      moved = omega (arith, position);
      passed = All-nil (IsBefore new.position);
      keeps = λ p below. ap (λ m. get m p) got;
    }

given_by : {S : Type 0} (takes : S → SinkItem → S → Type 0) (t : Taken) (old new : ChapterConsumerSeat) (point left : Ring) (x y : S) → ExtendsSeen Consumer old.seen (book_of point) → Takes point left t → HasRecord t
    → new.seen ≡ book_of left → IsTakenAt old.position t → new.position ≡ old.position + span_in t → new.got ≡ got_by old.got t → new.handed_out ≡ old.handed_out → TakesAll takes x (items_among (t ∷ [])) y → HasGiven takes old new x y
given_by takes (TakenEvent p w k bytes) old new point left x y goes taken found seen place position got chapters given =
    let now : new.seen.history ≡ point.history ++ Take p ∷ [] = ap (λ (b : Book). b.history) seen ∙ taken.logged.history_is in
    let moved : old.position < new.position = omega (arith, position, wide (length bytes)) in
    let item = Record (TakenEvent p w k bytes) in
    let submitted = waiting_submitted (is_submitted_at point.history p) (is_discarded_at point.history p) (is_taken_at point.history p) taken.waiting in
    record {
      gets = record {
        items = item ∷ [];
        taken_are = takes_one old.seen new.seen point p goes now;
        records_are = All-cons (IsRecordIn new.seen.history new.got) item [] (
          subst (λ h. Contains h (Res w k (length bytes) p)) (sym now) (Contains-append_left point.history (Take p ∷ []) (Res w k (length bytes) p) taken.granted_is),
          ap (λ h. is_submitted_at h p) now ∙ submitted_on point.history (Take p ∷ []) p submitted,
          ap (λ m. get m p) got ∙ get_here old.got p bytes,
        )
            (All-nil (IsRecordIn new.seen.history new.got));
        chapters_are = chapters ∙ sym (append-nil old.handed_out);
        given = given;
      };
      moved = omega (arith, moved);
      passed = one_item new.position item (omega (arith, moved, place));
      keeps = λ q below. ap (λ m. get m q) got ∙ get_before old.got p q bytes (omega (arith, below, place));
    }
given_by takes (Skipped p n) old new point left x y goes taken found seen place position got chapters given =
    let now : new.seen.history ≡ point.history ++ Take p ∷ [] = ap (λ (b : Book). b.history) seen ∙ taken.logged.history_is in
    let moved : old.position < new.position = omega (arith, position, wide n) in
    let item = Record (Skipped p n) in
    let discarded = status_discarded (is_submitted_at point.history p) (is_discarded_at point.history p) (is_taken_at point.history p) taken.discarded in
    let granted = taken.granted_is in
    record {
      gets = record {
        items = item ∷ [];
        taken_are = takes_one old.seen new.seen point p goes now;
        records_are = All-cons (IsRecordIn new.seen.history new.got) item [] (
          (granted.0, (granted.1.0, subst (λ h. Contains h (Res granted.0 granted.1.0 n p)) (sym now) (Contains-append_left point.history (Take p ∷ []) (Res granted.0 granted.1.0 n p) granted.1.1))),
          ap (λ h. is_discarded_at h p) now ∙ discarded_on point.history (Take p ∷ []) p discarded,
        )
            (All-nil (IsRecordIn new.seen.history new.got));
        chapters_are = chapters ∙ sym (append-nil old.handed_out);
        given = given;
      };
      moved = omega (arith, moved);
      passed = one_item new.position item (omega (arith, moved, place));
      keeps = λ q below. ap (λ m. get m q) got;
    }
given_by takes BusyFront old new point left x y goes taken found seen place position got chapters given = absurd found
given_by takes Empty old new point left x y goes taken found seen place position got chapters given = absurd found

-- ---- many takes

-- the consumer's seat after one take of many
abbrev seat_after : ChapterConsumerSeat → Ring → Taken → ChapterConsumerSeat
seat_after c left t = record c { seen = book_of left; position = c.position + span_in t; got = got_by c.got t }

-- nothing follows what was seen at the last take
nothing_behind : (r : Ring) → ExtendsSeen Consumer (book_of r) (book_of r)
nothing_behind r = record { setup_same = refl; behind = []; history_is = sym (append-nil r.history); none_own = tt }

each_begins : (old new : Ring) (ts : List Taken) → TakesEach old ts new → BeginsWith (book_of new) (book_of old)
each_begins old new ts each = logged_begins old new (takes_of ts) (logs-each old new ts each)

each_given : {S : Type 0} (takes : S → SinkItem → S → Type 0) (ts : List Taken) (old new : ChapterConsumerSeat) (point left : Ring) (x y : S) → ExtendsSeen Consumer old.seen (book_of point) → TakesEach point ts left
    → new.seen ≡ book_of left → AreTakenFrom old.position ts → new.position ≡ old.position + span_among ts → new.got ≡ got_by_all old.got ts → new.handed_out ≡ old.handed_out → TakesAll takes x (items_among ts) y → HasGiven takes old new x y
each_given takes [] old new point left x y goes each seen place position got chapters given =
    still takes old new x y (takes_stay_same old new point goes (ap (λ (b : Book). b.history) seen ∙ ap (λ (r : Ring). r.history) each)) (omega (arith, position)) got chapters given
each_given takes (t ∷ ts) old new point left x y goes each seen place position got chapters given =
    let next = each.0 in
    let mid = seat_after old next t in
    given_on takes old mid new x given.0 y
    (subst (λ b. BeginsWith b (book_of next)) (sym seen) (each_begins next left ts each.3))
    (given_by takes t old mid point next x given.0 goes each.1 each.2 refl place.0 refl refl refl (given.0, given.1, refl))
    (each_given takes ts mid new next left given.0 y (nothing_behind next) each.3 seen place.1 (omega (arith, position, sum_by-cons span_in t ts)) got chapters given.2)

-- ---- consumers' threads

-- takes under one acquisition of the lock, whose items the sink was given
pub many_given : {S : Type 0} (takes : S → SinkItem → S → Type 0) (n : ℕ) (ts : List Taken) (old new : ChapterConsumerSeat) (x y : S) → LockedCall Consumer old.seen new.seen (TakesMany n ts) → AreTakenFrom old.position ts
    → new.position ≡ old.position + span_among ts → new.got ≡ got_by_all old.got ts → new.handed_out ≡ old.handed_out → TakesAll takes x (items_among ts) y → HasGiven takes old new x y
many_given takes n ts old new x y call place moved got chapters given = each_given takes ts old new call.point call.left x y call.goes_on call.called.each call.seen place moved got chapters given

-- and it is the same consumer
pub same_by_many : (n : ℕ) (ts : List Taken) (old new : ChapterConsumerSeat) → IsSameChapterConsumer old new → LockedCall Consumer old.seen new.seen (TakesMany n ts) → IsSameConsumer old new
same_by_many n ts old new same call =
    record { tag_same = same.tag_same; ring_same = same.ring_same; room_same = same.room_same; begins = call_begins Consumer old.seen new.seen (TakesMany n ts) (λ a b called. each_begins a b ts called.each) call }

-- the same consumer, transitively
pub same_on : (a b c : ChapterConsumerSeat) → IsSameConsumer a b → IsSameConsumer b c → IsSameConsumer a c
same_on a b c one two =
    record { tag_same = two.tag_same ∙ one.tag_same; ring_same = two.ring_same ∙ one.ring_same; room_same = two.room_same ∙ one.room_same; begins = begins_through a.seen b.seen c.seen one.begins two.begins }

-- a keeper that fits the consumer's ring still fits it later
pub keeper_on : (old new : ChapterConsumerSeat) (k : KeeperValue) → IsSameConsumer old new → IsKeeperFor old k → IsKeeperFor new k
keeper_on old new k same is = record {
  no_entries = is.no_entries;
  room_same = is.room_same ∙ sym same.room_same;
  workers_same = is.workers_same ∙ sym (ap (λ (r : Setup). r.workers) same.begins.setup_same);
}

-- another task with the same consumer, keeper, sink and seats
pub consumed_same : {S : Type 0} (position : S → ℕ) (takes : S → SinkItem → S → Type 0) (old new now : ConsumerTask S) → now.consumer ≡ new.consumer → now.keeper ≡ new.keeper → now.sink ≡ new.sink → now.returned_seats ≡ new.returned_seats
    → Consumed position takes old new → Consumed position takes old now
consumed_same {S} position takes old new now consumer keeper sink seats is = (
  subst (IsSameConsumer old.consumer) (sym consumer) is.0,
  ap position sink ∙ is.1 ∙ sym (ap (λ (c : ChapterConsumerSeat). c.position) consumer),
  seats ∙ is.2,
  subst (λ (c : ChapterConsumerSeat). HasGiven takes old.consumer c old.sink now.sink) (sym consumer) (subst (λ (s : S). HasGiven takes old.consumer new.consumer old.sink s) (sym sink) is.3),
  subst (λ (c : ChapterConsumerSeat). IsKeeperFor c now.keeper) (sym consumer) (subst (IsKeeperFor new.consumer) (sym keeper) is.4),
)

pub consumed_none : {S : Type 0} (position : S → ℕ) (takes : S → SinkItem → S → Type 0) (task : ConsumerTask S) → position task.sink ≡ task.consumer.position → IsKeeperFor task.consumer task.keeper → Consumed position takes task task
consumed_none position takes task follows keeper =
    (record { tag_same = refl; ring_same = refl; room_same = refl; begins = begins_with_all task.consumer.seen }, follows, refl, nothing_given takes task.consumer task.sink, keeper)

-- what was taken first, and then more
pub consumed_on : {S : Type 0} (position : S → ℕ) (takes : S → SinkItem → S → Type 0) (a b c : ConsumerTask S) → Consumed position takes a b → Consumed position takes b c → Consumed position takes a c
consumed_on position takes a b c one two =
    (same_on a.consumer b.consumer c.consumer one.0 two.0, two.1, two.2 ∙ one.2, given_on takes a.consumer b.consumer c.consumer a.sink b.sink c.sink two.0.begins one.3 two.3, two.4)

-- ---- rings

-- the same for equal values
pub given_same : {S : Type 0} (takes : S → SinkItem → S → Type 0) (c c' d d' : ChapterConsumerSeat) (x x' y y' : S) → c' ≡ c → d' ≡ d → x' ≡ x → y' ≡ y
    → HasGiven takes c d x y → HasGiven takes c' d' x' y'
given_same takes c c' d d' x x' y y' ec ed ex ey given =
    subst (λ s. HasGiven takes c' d' s y') (sym ex)
    (subst (λ s. HasGiven takes c' d' x s) (sym ey)
    (subst (λ (v : ChapterConsumerSeat). HasGiven takes v d' x y) (sym ec)
    (subst (λ (v : ChapterConsumerSeat). HasGiven takes c v x y) (sym ed) given)))

record_in_longer : (h more : List Entry) (got : Contents) (item : SinkItem) → IsRecordIn h got item → IsRecordIn (h ++ more) got item
record_in_longer h more got (Record (TakenEvent p w k bytes)) is = record_on h more got got (p + 1) (Record (TakenEvent p w k bytes)) (omega arith) (λ q below. refl) is
record_in_longer h more got (Record (Skipped p n)) is = record_on h more got got (p + 1) (Record (Skipped p n)) (omega arith) (λ q below. refl) is
record_in_longer h more got (Record BusyFront) is = absurd is
record_in_longer h more got (Record Empty) is = absurd is
record_in_longer h more got (Chapter c) is = tt
record_in_longer h more got CaughtUp is = tt

-- the sink keeps what no take adds to
pub gets_at_close : {S : Type 0} (takes : S → SinkItem → S → Type 0) (before seat : ChapterConsumerSeat) (closed : Book) (x y z : S) → ExtendsSeen Consumer seat.seen closed → z ≡ y
    → GetsTaken takes before seat seat.seen.history x y → GetsTaken takes before seat closed.history x z
gets_at_close takes before seat closed x y z goes same gets =
    record {
      items = gets.items;
      taken_are = takes_stay seat.seen closed goes ∙ gets.taken_are;
      records_are = All-weaker (IsRecordIn seat.seen.history seat.got) (IsRecordIn closed.history seat.got)
          (λ item is. subst (λ h. IsRecordIn h seat.got item) (sym goes.history_is) (record_in_longer seat.seen.history goes.behind seat.got item is)) gets.items gets.records_are;
      chapters_are = gets.chapters_are;
      given = subst (λ s. TakesAll takes x gets.items s) (sym same) gets.given;
    }
