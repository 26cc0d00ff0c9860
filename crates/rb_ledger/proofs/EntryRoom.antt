-- The room for entries by a ring's chapter is the room over its whole history; and a call by the chapter, with that
-- room, is a call over the whole history.
use Rattle.std.proofs.Common.{◌≡◌, ℕ, ◌+◌, ◌<◌, ◌≤◌, ◌^◌, List, ◌++◌, length, sym, ap, ◌∙◌, subst, arith, length-append}
use Rattle.rb_history.specs.declared.entries.Entry.{Entry}
use Rattle.rb_history.specs.declared.tally.Tally.{Tally}
use Rattle.rb_history.specs.WorkerCounts.{tally_of}
use Rattle.rb_history.specs.RingModel.{Ring}
use Rattle.rb_history.specs.Calls.{Grants as WholeGrants, FindsFull as WholeFindsFull, Outputs as WholeOutputs}
use Rattle.rb_chapter_ring.specs.Snapshot.{Snapshot, tally_at}
use Rattle.rb_chapter_ring.specs.CountedFrom.{tally_from}
use Rattle.rb_chapter_ring.specs.Chapters.{Chapter, IsChapterRoom, joined}
use Rattle.rb_chapter_ring.specs.ChapterRoom.{used, owed, owed_for, HasRoomForOwed, MayGrant, MayRefuse}
use Rattle.rb_chapter_ring.specs.ChapterRing.{ChapterRing, whole_ring}
use Rattle.rb_chapter_ring.specs.ChapterCalls.{IsSameChapter, GrantsByChapter, FindsFullByChapter, FindsChapterFull, OutputsByChapter}
use Rattle.rb_chapter_ring.specs.WholeHistory.{ContinuesHistory}
use Rattle.rb_chapter_ring.proofs.Alike.{calls-alike}
use Rattle.rb_chapter_ring.proofs.Chain.{binds-continue}
use Rattle.rb_chapter_ring.proofs.ChapterNumbers.{tally-after, tally-at}
use Rattle.rb_ledger.specs.Roles.{Role, Book}
use Rattle.rb_ledger.specs.Roles.Role.{Consumer}
use Rattle.rb_ledger.specs.LockedCalls.{LockedCall}
use Rattle.rb_ledger.specs.ChapteredRing.{whole_of}
use Rattle.rb_ledger.specs.EntryRoom.{owed_by, HasEntryRoom, MayLogGrant, MayLogRefusal, FindsNoEntryRoom, InRoom, InRoomBehind}
use Rattle.rb_ledger.specs.LockedChapterCalls.{LockedChapterCall}
use Rattle.rb_ledger.specs.inner.ChapterRooms.{InRoomAt, InKnownRoom}
use Rattle.rb_ledger.proofs.WholeCalls.{said}

-- a worker's totals by the chapter are those of the whole history
pub totals-are : (earlier : List Entry) (old new : ChapterRing) (w : ℕ) → ContinuesHistory earlier old.chapter → w < old.chapter.opening.setup.workers → tally_from old.chapter.opening w old.chapter.entries ≡ tally_of w (earlier ++ old.chapter.entries)
totals-are earlier old new w is low =
    sym (tally-after old.chapter.opening old.chapter.entries w low)
    ∙ ap (λ o. tally_at o w) (said earlier old new is).stands
    ∙ tally-at old.chapter.opening.setup (earlier ++ old.chapter.entries) w low

module _ (earlier : List Entry) (old new : ChapterRing) (is : ContinuesHistory earlier old.chapter) where
  owed-same : owed_by (whole_ring earlier old) ≡ owed old.chapter
  owed-same = sym (ap (λ (o : Snapshot). owed_for o.records) (said earlier old new is).stands)

  module _ (room cut : ℕ) (room_is : old.chapter.room ≡ room) (cut_is : length earlier ≡ cut) where
    -- ---- the room

    pub room-whole : (more : ℕ) → used old.chapter + owed old.chapter + more ≤ old.chapter.room → HasEntryRoom room cut more (whole_ring earlier old)
    room-whole more fits = let long = length-append earlier old.chapter.entries in omega (arith, owed-same, long, room_is, cut_is, fits)

    room-back : (more : ℕ) → HasEntryRoom room cut more (whole_ring earlier old) → used old.chapter + owed old.chapter + more ≤ old.chapter.room
    room-back more fits = let long = length-append earlier old.chapter.entries in omega (arith, owed-same, long, room_is, cut_is, fits)

    grant-back : MayLogGrant room cut (whole_ring earlier old) → MayGrant old.chapter
    grant-back = room-back 3

    module _ (w : ℕ) (low : w < old.chapter.opening.setup.workers) where
      refusal-whole : MayRefuse old.chapter w → MayLogRefusal room cut w (whole_ring earlier old)
      refusal-whole may = (room-whole 1 may.0, subst (λ (t : Tally). t.refused < 2 ^ 62) (totals-are earlier old new w is low) may.1)

      refusal-back : MayLogRefusal room cut w (whole_ring earlier old) → MayRefuse old.chapter w
      refusal-back may = (room-back 1 may.0, subst (λ (t : Tally). t.refused < 2 ^ 62) (sym (totals-are earlier old new w is low)) may.1)

      -- ---- the calls that need room

      pub grants-in-room : (n p k : ℕ) → GrantsByChapter old new w n p k → WholeGrants (whole_ring earlier old) (whole_ring earlier new) w n p k × MayLogGrant room cut (whole_ring earlier old)
      grants-in-room n p k a = let whole = ((calls-alike earlier old new is).grants w n p k low).0 a in (whole.2, room-whole 3 whole.0)

      pub full-in-room : (n : ℕ) → FindsFullByChapter old new w n → WholeFindsFull (whole_ring earlier old) (whole_ring earlier new) w n × MayLogRefusal room cut w (whole_ring earlier old)
      full-in-room n a = let whole = ((calls-alike earlier old new is).finds_full w n).0 a in (whole.2, refusal-whole whole.0)

      pub none-in-room : (n : ℕ) → FindsChapterFull old new w n → FindsNoEntryRoom room cut (whole_ring earlier old) (whole_ring earlier new) w n
      none-in-room n a =
          let whole = ((calls-alike earlier old new is).finds_chapter_full w n).0 a in
          record {
            no_grant = λ has fits. whole.0 has (grant-back fits);
            no_refusal = λ has_not may. whole.1 has_not (refusal-back may);
            same = ap (whole_ring earlier) whole.2;
          }

      pub outputs-in-room : (bytes : List ℕ) → OutputsByChapter old new w bytes → WholeOutputs (whole_ring earlier old) (whole_ring earlier new) w bytes × MayLogGrant room cut (whole_ring earlier old)
      outputs-in-room bytes a = let whole = ((calls-alike earlier old new is).outputs w bytes low).0 a in (whole.2, room-whole 3 whole.0)

-- ---- from what a role had seen to what it has seen

module _ (role : Role) (before after : Book) (room cut : ℕ) (call : ChapterRing → ChapterRing → Type 0) (whole : Ring → Ring → Type 0) where
  -- what the call must be over the whole history, in the same chapter
  abbrev pub IsAlike : Type 0
  IsAlike = (earlier : List Entry) (old new : ChapterRing) → ContinuesHistory earlier old.chapter → old.chapter.opening.setup ≡ before.setup → old.chapter.room ≡ room → length earlier ≡ cut → call old new
      → IsSameChapter old new × whole (whole_ring earlier old) (whole_ring earlier new)

  in-room : IsAlike → (t : LockedChapterCall role before after (InRoomAt room cut call)) → InRoom room cut whole (whole_of t.point) (whole_of t.left)
  in-room alike t =
      let handed_out = t.point.handed_out in
      let is = binds-continue handed_out t.point.ring.chapter t.was_ring.has_chapters.binds in
      let there = alike (joined handed_out) t.point.ring t.left.ring is t.goes_on.setup_same t.called.room_is t.called.cut_is t.called.call.1 in
      let left_room = ap (λ (c : Chapter). c.room) there.0 ∙ t.called.room_is in
      let left_cut = ap (λ hs. length (joined hs)) t.called.call.0 ∙ t.called.cut_is in
      let left_is = binds-continue t.left.handed_out t.left.ring.chapter t.is_ring.has_chapters.binds in
      let long = length-append (joined handed_out) t.point.ring.chapter.entries in
      let cut_is = t.called.cut_is in
      let room_before = t.was_ring.has_chapters.room in
      let room_after = t.is_ring.has_chapters.room in
      record {
        within = subst IsChapterRoom t.called.room_is t.was_ring.has_chapters.within;
        handed_out = omega (arith, long, cut_is);
        owed_before = room-whole (joined handed_out) t.point.ring t.left.ring is room cut t.called.room_is t.called.cut_is 0 (omega (arith, room_before));
        owed_after = room-whole (joined t.left.handed_out) t.left.ring t.left.ring left_is room cut left_room left_cut 0 (omega (arith, room_after));
        called = subst (λ hs. whole (whole_of t.point) (whole_ring (joined hs) t.left.ring)) (sym t.called.call.0) there.1;
      }

  pub call-in-room : IsAlike → LockedChapterCall role before after (InRoomAt room cut call) → LockedCall role before after (InRoom room cut whole)
  call-in-room alike t = record { point = whole_of t.point; left = whole_of t.left; goes_on = t.goes_on; was_ring = t.was_ring.is_ring; called = in-room alike t; is_ring = t.is_ring.is_ring; seen = t.seen }

-- the consumer's call, which knows the chapters that were handed out
module _ (before after : Book) (room : ℕ) (handed_out : List Chapter) (call : ChapterRing → ChapterRing → Type 0) (whole : Ring → Ring → Type 0) where
  -- it is a call before whose chapter this number of entries was handed out
  known-cut : LockedChapterCall Consumer before after (InKnownRoom room handed_out call) → LockedChapterCall Consumer before after (InRoomAt room (length (joined handed_out)) (λ old new. HasRoomForOwed old.chapter × call old new))
  known-cut t = record {
    point = t.point;
    left = t.left;
    goes_on = t.goes_on;
    was_ring = t.was_ring;
    called = record { room_is = t.called.room_is; cut_is = ap (λ hs. length (joined hs)) t.called.call.0; call = (t.called.call.1.0, (t.was_ring.has_chapters.room, t.called.call.1.1)) };
    is_ring = t.is_ring;
    seen = t.seen;
  }

  pub call-behind : ((earlier : List Entry) (old new : ChapterRing) → ContinuesHistory earlier old.chapter → HasRoomForOwed old.chapter → call old new → IsSameChapter old new × whole (whole_ring earlier old) (whole_ring earlier new))
      → LockedChapterCall Consumer before after (InKnownRoom room handed_out call) → LockedCall Consumer before after (InRoomBehind room (joined handed_out) whole)
  unfolding known-cut
  call-behind alike t = record {
    point = whole_of t.point;
    left = whole_of t.left;
    goes_on = t.goes_on;
    was_ring = t.was_ring.is_ring;
    called = record {
      behind = t.point.ring.chapter.entries;
      begins = ap (λ hs. joined hs ++ t.point.ring.chapter.entries) t.called.call.0;
      in_room = in-room Consumer before after room (length (joined handed_out)) (λ old new. HasRoomForOwed old.chapter × call old new) whole (λ earlier old new is setup room_is cut_is x. alike earlier old new is x.0 x.1) (known-cut t);
    };
    is_ring = t.is_ring.is_ring;
    seen = t.seen;
  }

-- ---- weaker statements

module _ (role : Role) (before after : Book) (room cut : ℕ) (first second : Ring → Ring → Type 0) where
  pub called-as : ((old new : Ring) → first old new → second old new) → LockedCall role before after (InRoom room cut first) → LockedCall role before after (InRoom room cut second)
  called-as entails t = record {
    point = t.point;
    left = t.left;
    goes_on = t.goes_on;
    was_ring = t.was_ring;
    called = record {
      within = t.called.within;
      handed_out = t.called.handed_out;
      owed_before = t.called.owed_before;
      owed_after = t.called.owed_after;
      called = entails t.point t.left t.called.called;
    };
    is_ring = t.is_ring;
    seen = t.seen;
  }

  -- without the room
  pub without-room : ((old new : Ring) → first old new → second old new) → LockedCall role before after (InRoom room cut first) → LockedCall role before after second
  without-room entails t = record { point = t.point; left = t.left; goes_on = t.goes_on; was_ring = t.was_ring; called = entails t.point t.left t.called.called; is_ring = t.is_ring; seen = t.seen }

pub behind-over-all : (before after : Book) (room : ℕ) (handed_out : List Entry) (call : Ring → Ring → Type 0) → LockedCall Consumer before after (InRoomBehind room handed_out call) → LockedCall Consumer before after call
behind-over-all before after room handed_out call t = record { point = t.point; left = t.left; goes_on = t.goes_on; was_ring = t.was_ring; called = t.called.in_room.called; is_ring = t.is_ring; seen = t.seen }
