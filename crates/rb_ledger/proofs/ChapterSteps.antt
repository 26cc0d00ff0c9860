-- After each call on the state that it holds, a role may put the state back; and after a chapter was handed out, the
-- consumer may.
use Rattle.std.proofs.Common.{◌≡◌, [], ◌∷◌, ◌++◌, inl, inr, refl, sym, ap, ◌∙◌, subst, arith}
use Rattle.std.proofs.lemmas.Bool.{eq-eqb, ne_eqb}
use Rattle.rb_chapter_ring.specs.Chapters.{Chapter, IsChapterRoom, IsLegalChapter, joined}
use Rattle.rb_chapter_ring.specs.ChapterRoom.{HasRoomForOwed}
use Rattle.rb_chapter_ring.specs.ChapterRing.{ChapterRing, whole_ring}
use Rattle.rb_chapter_ring.specs.ChapterCalls.{IsSameChapter, HandsOut}
use Rattle.rb_chapter_ring.specs.WholeHistory.{ContinuesHistory}
use Rattle.rb_chapter_ring.proofs.Room.{next-room}
use Rattle.rb_chapter_ring.proofs.Stands.{goes-on}
use Rattle.rb_chapter_ring.proofs.Alike.{stands-alike, calls-alike}
use Rattle.rb_ledger.specs.Ledger.{IsRing}
use Rattle.rb_ledger.proofs.Calls.{put-same}
use Rattle.rb_ledger.specs.ChapteredRing.{ChapteredRing, chaptered_ring, whole_of, HasChapters}
use Rattle.rb_ledger.specs.ChapterLockLaws.{IsWholeStep, CallsMayPut, HandsOutMayPut, FactsMakeRing}
use Rattle.rb_ledger.specs.ChapterLockSteps.{handed_out_after}
use Rattle.rb_chapter_ring.proofs.Chain.{binds-continue, binds-same, binds-next, joined-next}

-- a ring whose chapter has other entries still has the chapters of a ring
pub has-same : (out : ChapteredRing) (new : ChapterRing) → HasChapters out → IsSameChapter out.ring new → IsLegalChapter new.chapter → HasRoomForOwed new.chapter → HasChapters (chaptered_ring out.handed_out new)
has-same out new has same legal room =
    record { binds = binds-same out.handed_out out.ring.chapter new.chapter has.binds (ap (λ (c : Chapter). c.number) same) (ap (λ (c : Chapter). c.opening) same) legal; room = room; within = subst IsChapterRoom (sym (ap (λ (c : Chapter). c.room) same)) has.within }

-- the chapters that were handed out are the same
pub handed-out-same : (out : ChapteredRing) (new : ChapterRing) → IsSameChapter out.ring new → handed_out_after out new ≡ out.handed_out
handed-out-same out new same = rw (eq-eqb new.chapter.number out.ring.chapter.number (ap (λ (c : Chapter). c.number) same)) refl

pub calls-may-put : CallsMayPut
calls-may-put me out new has same legal room step =
    let is : handed_out_after out new ≡ out.handed_out = handed-out-same out new same in
    record {
      me = me;
      out = out;
      view_is = refl;
      has_chapters = subst (λ hs. HasChapters (chaptered_ring hs new)) (sym is) (has-same out new has same legal room);
      room_same = ap (λ (c : Chapter). c.room) same;
      by_consumer = inr is;
      whole = subst (λ hs. IsWholeStep me out (chaptered_ring hs new)) (sym is) step;
    }

module _ (out : ChapteredRing) (new : ChapterRing) (c : Chapter) (has : HasChapters out) (hands : HandsOut out.ring new c) where
  -- the ring's chapter is appended to those that were handed out
  pub handed-out-more : handed_out_after out new ≡ out.handed_out ++ out.ring.chapter ∷ []
  handed-out-more =
      let next = hands.next.next_is.next_number in
      rw (ne_eqb new.chapter.number out.ring.chapter.number (λ e. omega (arith, next, e))) refl

  continues : ContinuesHistory (joined out.handed_out) out.ring.chapter
  continues = binds-continue out.handed_out out.ring.chapter has.binds

  pub has-next : HasChapters (chaptered_ring (out.handed_out ++ out.ring.chapter ∷ []) new)
  has-next =
      let n = hands.next in
      let next = next-room (joined out.handed_out) out.ring.chapter new.chapter continues has.room n.next_is n.no_entries n.room_same in
      record { binds = binds-next out.handed_out out.ring.chapter new.chapter has.binds n.next_is next.1.legal; room = next.0; within = subst IsChapterRoom (sym n.room_same) has.within }

  -- the whole ring is unchanged
  pub handed-out-whole : whole_of (chaptered_ring (out.handed_out ++ out.ring.chapter ∷ []) new) ≡ whole_of out
  handed-out-whole =
      let entries : joined out.handed_out ++ out.ring.chapter.entries ≡ joined out.handed_out ++ c.entries = ap (λ (x : Chapter). joined out.handed_out ++ x.entries) (sym hands.next.out_is) in
      let is = ((calls-alike (joined out.handed_out) out.ring new continues).hands_out c).0 hands in
      ap (λ h. whole_ring h new) (joined-next out.handed_out out.ring.chapter has.binds ∙ entries) ∙ is.1

pub hands-out-may-put : HandsOutMayPut
hands-out-may-put me out new c consumer has is_ring hands =
    let more : handed_out_after out new ≡ out.handed_out ++ out.ring.chapter ∷ [] = handed-out-more out new c has hands in
    let same : whole_of (chaptered_ring (out.handed_out ++ out.ring.chapter ∷ []) new) ≡ whole_of out = handed-out-whole out new c has hands in
    record {
      me = me;
      out = out;
      view_is = refl;
      has_chapters = subst (λ hs. HasChapters (chaptered_ring hs new)) (sym more) (has-next out new c has hands);
      room_same = hands.next.room_same;
      by_consumer = inl consumer;
      whole = subst (λ hs. IsWholeStep me out (chaptered_ring hs new)) (sym more)
          (put-same me.whole.role me.whole.seen me.whole.bytes (whole_of out) (whole_of (chaptered_ring (out.handed_out ++ out.ring.chapter ∷ []) new)) same (subst IsRing (sym same) is_ring));
    }

pub facts-make-ring : FactsMakeRing
facts-make-ring c binds room within stands bounded =
    let is = binds-continue c.handed_out c.ring.chapter binds in
    let h = joined c.handed_out in
    let o = c.ring.chapter.opening in
    record {
      has_chapters = record { binds = binds; room = room; within = within };
      is_ring = record {
        legal = (goes-on o.setup h o is.earlier_legal is.opened c.ring.chapter.entries).0.0 is.legal;
        stands = (stands-alike h c.ring is).0 stands;
        bounded = bounded;
      };
    }
