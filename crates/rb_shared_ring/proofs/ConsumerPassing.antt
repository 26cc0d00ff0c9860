-- A call of the consumer under the lock: the state may be put back, and what the consumer's pass knows afterwards.
use Rattle.std.proofs.Common.{◌≡◌, ℕ, List, [], ◌∷◌, ◌++◌, None, length, drop, inl, inr, refl, sym, ap, ◌∙◌, subst, arith, ◌<◌, ◌^◌}
use Rattle.rb_history.specs.declared.entries.Entry.{Entry}
use Rattle.rb_history.specs.declared.answers.Taken.{Taken}
use Rattle.rb_history.specs.ManyTakes.{TakesEach, TakesMany}
use Rattle.rb_history.specs.RingModel.{Contents}
use Rattle.rb_chapter_ring.specs.Chapters.{Chapter, joined}
use Rattle.rb_chapter_ring.specs.ChapterRing.{ChapterRing, whole_ring}
use Rattle.rb_chapter_ring.specs.ChapterCalls.{IsSameChapter, HandsOut}
use Rattle.rb_chapter_ring.specs.WholeHistory.{IsKept}
use Rattle.rb_chapter_ring.proofs.Alike.{calls-alike}
use Rattle.rb_chapter_ring.proofs.Keeping.{calls-keep}
use Rattle.rb_chapter_ring.specs.ManyTakes.{TakesEachInChapter, TakesManyInChapter}
use Rattle.rb_ledger.specs.Ledger.{IsRing}
use Rattle.rb_ledger.specs.Roles.Role.{Consumer}
use Rattle.rb_ledger.specs.RoleKnowledge.{role_knowledge}
use Rattle.rb_ledger.specs.AddedBytes.{bytes_after}
use Rattle.rb_ledger.specs.LockSteps.{RoleStep, knowledge_after}
use Rattle.rb_ledger.specs.LockedCalls.{got_by}
use Rattle.rb_ledger.specs.ManyTakes.{got_by_all}
use Rattle.rb_ledger.proofs.Calls.{put-same, put-taken}
use Rattle.rb_ledger.proofs.ManyTakes.{put-many, after-many}
use Rattle.rb_ledger.proofs.Passing.{after-same, after-take}
use Rattle.rb_ledger.specs.ChapteredRing.{ChapteredRing, chaptered_ring, whole_of}
use Rattle.rb_ledger.specs.ChapterKnowledge.{ChapterPassView, chapter_view}
use Rattle.rb_ledger.specs.ChapterLockSteps.{TakesChapterState, MayPutChapter, PutsChapterState, chapter_view_after_put}
use Rattle.rb_ledger.specs.LockedChapterCalls.{LockedChapterCall, InKnownChapter, TellsUsed, HandsOutNext}
use Rattle.rb_ledger.specs.inner.ChapterAnswers.{TakesInChapter}
use Rattle.rb_ledger.specs.inner.ChapterRooms.{InKnownRoom}
use Rattle.rb_chapter_ring.specs.OpenedRing.{MayGoOnIn}
use Rattle.rb_history.specs.RoomRule.{Setup}
use Rattle.rb_chapter_ring.proofs.Chain.{binds-continue, binds-number}
use Rattle.rb_ledger.proofs.ChapterSteps.{handed-out-more, handed-out-whole, has-next, hands-out-may-put}
use Rattle.rb_ledger.proofs.WholeCalls.{takes-whole}
use Rattle.rb_shared_ring.specs.inner.SeatPasses.{seen_by, bytes_by, room_by, handed_out_by, known_as, IsIdleIn}
use Rattle.rb_shared_ring.specs.inner.LentState.{IsKeptRing}
use Rattle.rb_shared_ring.proofs.ChapterPassing.{HeldChapter, held-in, may-put-in, idle-in, bytes-in, room-in, handed-out-in, is-known-in}
use Rattle.rb_shared_ring.proofs.WholeAnswers.{stays, same-taken}

-- ---- many takes

each-whole : (earlier : List Entry) (old new : ChapterRing) (ts : List Taken) → IsKept earlier old.chapter → TakesEachInChapter old ts new → TakesEach (whole_ring earlier old) ts (whole_ring earlier new) × IsKept earlier new.chapter
each-whole earlier old new [] is same = (ap (whole_ring earlier) same, subst (λ (x : ChapterRing). IsKept earlier x.chapter) (sym same) is)
each-whole earlier old new (t ∷ ts) is each =
    let one = ((calls-alike earlier old each.0 is.continues).takes t).0 each.1 in
    let rest = each-whole earlier each.0 new ts ((calls-keep earlier old each.0 is).takes t each.1) each.3 in
    ((whole_ring earlier each.0, one.1, each.2, rest.0), rest.1)

-- they leave the same chapter
pub same-each : (old new : ChapterRing) (ts : List Taken) → TakesEachInChapter old ts new → IsSameChapter old new
same-each old new [] same = stays old new same
same-each old new (t ∷ ts) each =
    let first = same-taken old each.0 t each.1 in
    let rest = same-each each.0 new ts each.3 in
    rest ∙ ap (λ (c : Chapter). record c { entries = new.chapter.entries }) first

pub many-whole : (earlier : List Entry) (old new : ChapterRing) (n : ℕ) (ts : List Taken) → IsKept earlier old.chapter → TakesManyInChapter n ts old new → TakesMany n ts (whole_ring earlier old) (whole_ring earlier new)
many-whole earlier old new n ts is a =
    let whole = each-whole earlier old new ts is a.each in
    let calls = calls-alike earlier new new whole.1.continues in
    record {
      each = whole.0;
      within = a.within;
      stops = λ less. elim (a.stops less) [
        | inl busy ↦ inl (calls.busy_front.0 busy)
        | inr all ↦ inr (calls.all_taken.0 all)
      ];
    }

-- ---- what a call of the consumer leaves

pub record LeavesConsumer (v after : ChapterPassView) (got : Contents) (handed_out : List Chapter) (Call : ChapteredRing → ChapteredRing → Type 0) : Type 0 where
  pub idle : IsIdleIn Consumer after
  pub call : LockedChapterCall Consumer (seen_by v) (seen_by after) Call
  pub bytes : bytes_by after ≡ got
  pub room : room_by after ≡ room_by v
  pub chapters : handed_out_by after ≡ handed_out

module _ (v : ChapterPassView) (r new : ChapterRing) (out : ChapterPassView) (idle : IsIdleIn Consumer v) (took : TakesChapterState v r out) where
  known : (h : HeldChapter Consumer v r out) → h.taken.handed_out ≡ handed_out_by v
  known h = sym (h.knows refl).1

  module _ (kept : IsKeptRing new) where
    abbrev StepsFrom : (h : HeldChapter Consumer v r out) → Type 0
    StepsFrom h = IsRing (whole_of (chaptered_ring h.taken.handed_out new))
        → RoleStep (role_knowledge Consumer (seen_by v) (bytes_by v)) (whole_of h.taken) (whole_of (chaptered_ring h.taken.handed_out new)) (knowledge_after (whole_of h.taken) (whole_of (chaptered_ring h.taken.handed_out new)) (role_knowledge Consumer (seen_by v) (bytes_by v)))

    puts-back : (Call : ChapterRing → ChapterRing → Type 0) → Call r new → IsSameChapter r new
        → ((h : HeldChapter Consumer v r out) → IsKept (joined h.taken.handed_out) h.taken.ring.chapter → Call h.taken.ring new → StepsFrom h)
        → MayPutChapter out new
    puts-back Call call same steps =
        let h = held-in Consumer v r out idle took in
        let is : IsKept (joined h.taken.handed_out) h.taken.ring.chapter = record { continues = binds-continue h.taken.handed_out h.taken.ring.chapter h.was_ring.has_chapters.binds; room = h.was_ring.has_chapters.room } in
        may-put-in Consumer v r new out h same kept (steps h is (subst (λ x. Call x new) (sym h.ring_is) call))

    leaves : (after : ChapterPassView) → PutsChapterState out new after → (Call : ChapterRing → ChapterRing → Type 0) → Call r new → IsSameChapter r new → (got : Contents)
        → ((h : HeldChapter Consumer v r out) → IsKept (joined h.taken.handed_out) h.taken.ring.chapter → Call h.taken.ring new
        → bytes_after Consumer (whole_of h.taken) (whole_of (chaptered_ring h.taken.handed_out new)) (drop (length (whole_of h.taken).history) (whole_of (chaptered_ring h.taken.handed_out new)).history) (bytes_by v) ≡ got)
        → LeavesConsumer v after got (handed_out_by v) (InKnownRoom (room_by v) (handed_out_by v) Call)
    leaves after put Call call same got bytes =
        let h = held-in Consumer v r out idle took in
        let is : IsKept (joined h.taken.handed_out) h.taken.ring.chapter = record { continues = binds-continue h.taken.handed_out h.taken.ring.chapter h.was_ring.has_chapters.binds; room = h.was_ring.has_chapters.room } in
        let here = subst (λ x. Call x new) (sym h.ring_is) call in
        record {
          idle = idle-in Consumer v r new out h same kept after put;
          call = is-known-in Consumer v r new out h same kept after put (sym (h.knows refl).0) (known h) Call here;
          bytes = bytes-in Consumer v r new out h same kept after put ∙ bytes h is here;
          room = room-in Consumer v r new out h same kept after put;
          chapters = handed-out-in Consumer v r new out h same kept after put ∙ known h;
        }

    pub put-take : (t : Taken) → TakesInChapter t r new → MayPutChapter out new
    put-take t call = puts-back (TakesInChapter t) call (same-taken r new t call.0) (λ h is c ring. put-taken _ _ _ _ t (takes-whole _ _ _ is.continues t c).0 ring)

    pub put-takes : (n : ℕ) (ts : List Taken) → IsSameChapter r new → TakesManyInChapter n ts r new → MayPutChapter out new
    put-takes n ts same call = puts-back (TakesManyInChapter n ts) call same (λ h is c ring. put-many _ _ _ _ n ts (many-whole _ _ _ n ts is c) ring)

    pub put-used : (entries more : ℕ) → TellsUsed entries more r new → MayPutChapter out new
    put-used entries more call = puts-back (TellsUsed entries more) call (stays r new call.0) (λ h is c ring. put-same Consumer _ _ _ _ (ap (λ x. whole_of (chaptered_ring h.taken.handed_out x)) c.0) ring)

    module _ (after : ChapterPassView) (put : PutsChapterState out new after) where
      pub took-one : (t : Taken) → TakesInChapter t r new → LeavesConsumer v after (got_by (bytes_by v) t) (handed_out_by v) (InKnownRoom (room_by v) (handed_out_by v) (TakesInChapter t))
      took-one t call = leaves after put (TakesInChapter t) call (same-taken r new t call.0) (got_by (bytes_by v) t)
          (λ h is c. after-take (seen_by v) _ _ _ t h.was_ring.is_ring (takes-whole _ _ _ is.continues t c))

      pub took-many : (n : ℕ) (ts : List Taken) → IsSameChapter r new → TakesManyInChapter n ts r new → LeavesConsumer v after (got_by_all (bytes_by v) ts) (handed_out_by v) (InKnownRoom (room_by v) (handed_out_by v) (TakesManyInChapter n ts))
      took-many n ts same call = leaves after put (TakesManyInChapter n ts) call same (got_by_all (bytes_by v) ts)
          (λ h is c. after-many _ _ _ n ts h.was_ring.is_ring (many-whole _ _ _ n ts is c))

      pub told-used : (entries more : ℕ) → TellsUsed entries more r new → LeavesConsumer v after (bytes_by v) (handed_out_by v) (InKnownChapter (handed_out_by v) (TellsUsed entries more))
      told-used entries more call =
          let e = leaves after put (TellsUsed entries more) call (stays r new call.0) (bytes_by v) (λ h is c. after-same (seen_by v) _ _ _ Consumer (ap (λ x. whole_of (chaptered_ring h.taken.handed_out x)) c.0)) in
          let t = e.call in
          record {
            idle = e.idle;
            call = record { point = t.point; left = t.left; goes_on = t.goes_on; was_ring = t.was_ring; called = t.called.call; is_ring = t.is_ring; seen = t.seen };
            bytes = e.bytes;
            room = e.room;
            chapters = e.chapters;
          }

  -- ---- a chapter is handed out

  -- the ring may continue in a chapter that fits what the pass knows about the ring
  pub goes-on-in : (empty : Chapter) (p : ChapterRing) → p ≡ r → empty.entries ≡ [] → empty.room ≡ room_by v → empty.opening.setup.workers ≡ (seen_by v).setup.workers → length (handed_out_by v) < 2 ^ 62 → MayGoOnIn p empty
  goes-on-in empty p is none room workers number =
      let h = held-in Consumer v r out idle took in
      let numbered = binds-number h.taken.handed_out h.taken.ring.chapter h.was_ring.has_chapters.binds in
      let as_known = ap length (known h) in
      subst (λ x. MayGoOnIn x empty) (h.ring_is ∙ sym is) (record {
        no_entries = none;
        room_same = room ∙ (h.knows refl).0;
        workers_same = workers ∙ sym (ap (λ (x : Setup). x.workers) h.goes_on.setup_same);
        numbered = omega (arith, number, numbered, as_known);
      })

  module _ (c : Chapter) (hands : HandsOut r new c) where
    here-hands : (h : HeldChapter Consumer v r out) → HandsOut h.taken.ring new c
    here-hands h = subst (λ x. HandsOut x new c) (sym h.ring_is) hands

    pub put-next : MayPutChapter out new
    put-next =
        let h = held-in Consumer v r out idle took in
        subst (λ x. MayPutChapter x new) (sym h.now) (hands-out-may-put (known_as Consumer v) h.taken new c refl h.was_ring.has_chapters h.was_ring.is_ring (here-hands h))

    -- it has the room and the workers that the pass knows
    pub handed-fits : (c.room ≡ room_by v) × (c.opening.setup.workers ≡ (seen_by v).setup.workers)
    handed-fits =
        let h = held-in Consumer v r out idle took in
        let is = here-hands h in (
          ap (λ (x : Chapter). x.room) is.next.out_is ∙ sym (h.knows refl).0,
          ap (λ (x : Chapter). x.opening.setup.workers) is.next.out_is ∙ ap (λ (x : Setup). x.workers) h.goes_on.setup_same,
        )

    pub handed-next : (after : ChapterPassView) → PutsChapterState out new after → LeavesConsumer v after (bytes_by v) (handed_out_by v ++ c ∷ []) (HandsOutNext (handed_out_by v) c)
    handed-next after put =
        let h = held-in Consumer v r out idle took in
        let has = h.was_ring.has_chapters in
        let is = here-hands h in
        let same : whole_of (chaptered_ring (h.taken.handed_out ++ h.taken.ring.chapter ∷ []) new) ≡ whole_of h.taken = handed-out-whole h.taken new c has is in
        let chapters : h.taken.handed_out ++ h.taken.ring.chapter ∷ [] ≡ handed_out_by v ++ c ∷ [] = λ i. known h i ++ sym is.next.out_is i ∷ [] in
        let back : after ≡ chapter_view (record {
          whole = knowledge_after (whole_of h.taken) (whole_of (chaptered_ring (h.taken.handed_out ++ h.taken.ring.chapter ∷ []) new)) (role_knowledge Consumer (seen_by v) (bytes_by v));
          room = room_by v;
          handed_out = h.taken.handed_out ++ h.taken.ring.chapter ∷ [];
        } ∷ []) None =
        put ∙ ap (λ (x : ChapterPassView). chapter_view_after_put x new x.out) h.now
        ∙ ap (λ hs. chapter_view (record {
          whole = knowledge_after (whole_of h.taken) (whole_of (chaptered_ring hs new)) (role_knowledge Consumer (seen_by v) (bytes_by v));
          room = room_by v;
          handed_out = hs;
        } ∷ []) None) (handed-out-more h.taken new c has is) in
        record {
          idle = subst (IsIdleIn Consumer) (sym back) refl;
          call = record {
            point = h.taken;
            left = chaptered_ring (h.taken.handed_out ++ h.taken.ring.chapter ∷ []) new;
            goes_on = h.goes_on;
            was_ring = h.was_ring;
            called = record { before = known h; after = chapters; hands_out = is };
            is_ring = record { has_chapters = has-next h.taken new c has is; is_ring = subst IsRing (sym same) h.was_ring.is_ring };
            seen = ap seen_by back;
          };
          bytes = ap bytes_by back ∙ after-same (seen_by v) (bytes_by v) (whole_of h.taken) (whole_of (chaptered_ring (h.taken.handed_out ++ h.taken.ring.chapter ∷ []) new)) Consumer same;
          room = ap room_by back;
          chapters = ap handed_out_by back ∙ chapters;
        }
