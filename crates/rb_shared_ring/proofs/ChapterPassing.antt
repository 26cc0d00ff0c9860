-- A call, from the pass that takes the state out to the pass that has put it back.
use Rattle.std.proofs.Common.{◌≡◌, ℕ, [], ◌∷◌, Option, Some, None, length, refl, sym, ap, ◌∙◌, subst}
use Rattle.rb_chapter_ring.specs.Chapters.{joined}
use Rattle.rb_chapter_ring.specs.ChapterRing.{ChapterRing}
use Rattle.rb_chapter_ring.specs.ChapterCalls.{IsSameChapter}
use Rattle.rb_ledger.specs.Roles.{Role, book_of, ExtendsSeen}
use Rattle.rb_ledger.specs.RoleKnowledge.{role_knowledge}
use Rattle.rb_ledger.specs.Ledger.{IsRoleIn, IsRing}
use Rattle.rb_ledger.specs.LockSteps.{RoleStep, knowledge_after}
use Rattle.rb_ledger.proofs.Passing.{held}
use Rattle.rb_ledger.specs.ChapteredRing.{ChapteredRing, chaptered_ring, whole_of, IsChapteredRing}
use Rattle.rb_ledger.specs.ChapterKnowledge.{ChapterPassView, chapter_view, whole_view, KnowsHandedOut, AllKnowHandedOut}
use Rattle.rb_ledger.specs.ChapterLockSteps.{TakesChapterState, MayPutChapter, PutsChapterState, chapter_view_after_put, handed_out_known_by}
use Rattle.rb_ledger.specs.LockedChapterCalls.{LockedChapterCall}
use Rattle.rb_ledger.specs.inner.ChapterRooms.{InRoomAt, InKnownRoom}
use Rattle.rb_ledger.proofs.ChapterSteps.{has-same, handed-out-same, calls-may-put, facts-make-ring}
use Rattle.rb_shared_ring.specs.inner.SeatPasses.{seen_by, bytes_by, room_by, handed_out_by, known_as, IsIdleIn}
use Rattle.rb_shared_ring.specs.inner.LentState.{IsKeptRing}

-- what a pass with one role knows while it holds the state
pub record HeldChapter (role : Role) (v : ChapterPassView) (r : ChapterRing) (w : ChapterPassView) : Type 0 where
  pub taken : ChapteredRing
  pub ring_is : taken.ring ≡ r
  pub now : w ≡ chapter_view (known_as role v ∷ []) (Some taken)
  pub goes_on : ExtendsSeen role (seen_by v) (book_of (whole_of taken))
  pub was_ring : IsChapteredRing taken
  pub is_role : IsRoleIn (whole_of taken).setup role
  pub knows : KnowsHandedOut taken.ring.chapter.room taken.handed_out (known_as role v)

pub held-in : (role : Role) (v : ChapterPassView) (r : ChapterRing) (w : ChapterPassView) → IsIdleIn role v → TakesChapterState v r w → HeldChapter role v r w
held-in role v r w idle took =
    let whole = held role (whole_view v) (whole_of took.taken) (whole_view w) (ap whole_view idle) took.whole in
    record {
      taken = took.taken;
      ring_is = took.ring_is;
      now = took.out_is ∙ ap (λ (x : ChapterPassView). chapter_view x.knows (Some took.taken)) idle;
      goes_on = whole.goes_on;
      was_ring = record { has_chapters = took.has_chapters; is_ring = whole.is_ring };
      is_role = whole.is_role;
      knows = (subst (λ (x : ChapterPassView). AllKnowHandedOut took.taken.ring.chapter.room took.taken.handed_out x.knows) idle took.known).0;
    }

some-chaptered : (x y : ChapteredRing) → ◌≡◌ {A = Option ChapteredRing} (Some x) (Some y) → x ≡ y
some-chaptered x y e = cc

-- the state that is out with the pass is the one that it holds
pub held-is-out : (role : Role) (v : ChapterPassView) (r : ChapterRing) (w : ChapterPassView) (h : HeldChapter role v r w) (c : ChapteredRing) → w.out ≡ Some c → h.taken ≡ c
held-is-out role v r w h c is = some-chaptered h.taken c (sym (ap (λ (x : ChapterPassView). x.out) h.now) ∙ is)

-- what a call does, from the ring that it was given to the one that it left
pub called-in : (Call : ChapterRing → ChapterRing → Type 0) (shown old left new : ChapterRing) → shown ≡ old → left ≡ new → Call shown left → Call old new
called-in Call shown old left new is_old is_new call = subst (λ r. Call r new) is_old (subst (Call shown) is_new call)

module _ (role : Role) (v : ChapterPassView) (r new : ChapterRing) (w : ChapterPassView) (h : HeldChapter role v r w) (same : IsSameChapter r new) (kept : IsKeptRing new) where
  abbrev pub left_by : ChapteredRing
  left_by = chaptered_ring h.taken.handed_out new

  same-taken : IsSameChapter h.taken.ring new
  same-taken = subst (λ x. IsSameChapter x new) (sym h.ring_is) same

  left-ring : IsChapteredRing left_by
  left-ring =
      let has = has-same h.taken new h.was_ring.has_chapters same-taken kept.legal kept.room in
      let b = kept.bounded in
      facts-make-ring left_by has.binds kept.room b.chapter_room kept.stands (record { size = b.size; start = b.start; workers = b.workers; consumer = b.consumer; producer = b.producer; room = b.room })

  pub may-put-in : (IsRing (whole_of left_by) → RoleStep (role_knowledge role (seen_by v) (bytes_by v)) (whole_of h.taken) (whole_of left_by) (knowledge_after (whole_of h.taken) (whole_of left_by) (role_knowledge role (seen_by v) (bytes_by v)))) → MayPutChapter w new
  may-put-in step = subst (λ x. MayPutChapter x new) (sym h.now) (calls-may-put (known_as role v) h.taken new h.was_ring.has_chapters same-taken kept.legal kept.room (step left-ring.is_ring))

  module _ (after : ChapterPassView) (put : PutsChapterState w new after) where
    -- the pass after the state was put back
    back-in : after ≡ chapter_view (record {
      whole = knowledge_after (whole_of h.taken) (whole_of left_by) (role_knowledge role (seen_by v) (bytes_by v));
      room = room_by v;
      handed_out = handed_out_known_by role h.taken.handed_out (handed_out_by v);
    } ∷ []) None
    back-in =
        put ∙ ap (λ (x : ChapterPassView). chapter_view_after_put x new x.out) h.now
        ∙ ap (λ hs. chapter_view (record {
          whole = knowledge_after (whole_of h.taken) (whole_of (chaptered_ring hs new)) (role_knowledge role (seen_by v) (bytes_by v));
          room = room_by v;
          handed_out = handed_out_known_by role hs (handed_out_by v);
        } ∷ []) None) (handed-out-same h.taken new same-taken)

    pub idle-in : IsIdleIn role after
    idle-in = subst (IsIdleIn role) (sym back-in) refl

    pub seen-in : seen_by after ≡ book_of (whole_of left_by)
    seen-in = ap seen_by back-in

    pub bytes-in : bytes_by after ≡ (knowledge_after (whole_of h.taken) (whole_of left_by) (role_knowledge role (seen_by v) (bytes_by v))).bytes
    bytes-in = ap bytes_by back-in

    pub room-in : room_by after ≡ room_by v
    room-in = ap room_by back-in

    pub handed-out-in : handed_out_by after ≡ handed_out_known_by role h.taken.handed_out (handed_out_by v)
    handed-out-in = ap handed_out_by back-in

    pub is-locked-in : (room cut : ℕ) → h.taken.ring.chapter.room ≡ room → length (joined h.taken.handed_out) ≡ cut → (Call : ChapterRing → ChapterRing → Type 0) → Call h.taken.ring new
        → LockedChapterCall role (seen_by v) (seen_by after) (InRoomAt room cut Call)
    is-locked-in room cut room_is cut_is Call call = record {
      point = h.taken;
      left = left_by;
      goes_on = h.goes_on;
      was_ring = h.was_ring;
      called = record { room_is = room_is; cut_is = cut_is; call = (refl, call) };
      is_ring = left-ring;
      seen = seen-in;
    }

    pub is-known-in : h.taken.ring.chapter.room ≡ room_by v → h.taken.handed_out ≡ handed_out_by v → (Call : ChapterRing → ChapterRing → Type 0) → Call h.taken.ring new
        → LockedChapterCall role (seen_by v) (seen_by after) (InKnownRoom (room_by v) (handed_out_by v) Call)
    is-known-in room_is known Call call = record {
      point = h.taken;
      left = left_by;
      goes_on = h.goes_on;
      was_ring = h.was_ring;
      called = record { room_is = room_is; call = (known, (refl, call)) };
      is_ring = left-ring;
      seen = seen-in;
    }
