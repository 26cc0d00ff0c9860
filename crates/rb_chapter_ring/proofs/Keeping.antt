-- Each call keeps its chapter legal from its opening, with room for what it owes.
use Rattle.std.proofs.Common.{◌≡◌, ℕ, ◌<◌, ◌==◌, Bool, true, false, List, [], ◌∷◌, ◌++◌, length, refl, sym, ap, ◌∙◌, inl, inr, subst, append_assoc, arith}
use Rattle.std.specs.List.{list_any}
use Rattle.std.proofs.lemmas.Bool.{or_left, or_right, eq-eqb, true≢false, false_from_ne_true}
use Rattle.std.proofs.lemmas.List.Folds.{list_any_at}
use Rattle.std.proofs.lemmas.List.Sums.{sum_by-append}
use Rattle.rb_history.specs.declared.entries.Entry.{Entry}
use Rattle.rb_history.specs.declared.entries.Entry.TheVariants.{Res, Full, Sub, Dis, Take}
use Rattle.rb_history.specs.declared.answers.Taken.{Taken}
use Rattle.rb_history.specs.declared.answers.Taken.TheVariants.{Event, Skipped, BusyFront, Empty}
use Rattle.rb_history.specs.History.{status_by, is_grant_at, is_submit, is_discard, is_granted_at, is_submitted_at, is_discarded_at, is_taken_at, granted_span, producer_of}
use Rattle.rb_history.specs.History.Status.{Busy}
use Rattle.rb_history.specs.ReservationModel.{Granted}
use Rattle.rb_history.specs.RoomRule.{Setup}
use Rattle.rb_history.specs.Legal.{IsLegal}
use Rattle.rb_history.proofs.Exact.{granted-below, granted-from}
use Rattle.rb_history.proofs.Laws.{KeptAs, kept-from-legal}
use Rattle.rb_history.proofs.Lists.{list_any-snoc, or-false}
use Rattle.rb_history.proofs.TakenRecords.{NeverBoth, never-both, waiting-submitted, discarded-is}
use Rattle.rb_chapter_ring.specs.Snapshot.{Snapshot, snapshot_of}
use Rattle.rb_chapter_ring.specs.CountedFrom.{shows_at, is_granted_from, producer_from, grants_from, MayFollowFrom, IsLegalFrom}
use Rattle.rb_chapter_ring.specs.Chapters.{Chapter}
use Rattle.rb_chapter_ring.specs.ChapterRoom.{HasRoomForEntry, with_entry}
use Rattle.rb_chapter_ring.specs.ChapterRing.{ChapterRing, IsGranted}
use Rattle.rb_chapter_ring.specs.ChapterCalls.{LogsByChapter, HoldsReservationFrom, OutputsByChapter, TakesByChapter, HandsOut}
use Rattle.rb_chapter_ring.specs.WholeHistory.{IsKept, CallsKeepChapters}
use Rattle.rb_chapter_ring.proofs.From.{taken-low}
use Rattle.rb_chapter_ring.proofs.Same.{submitted-same, discarded-same, producer-same}
use Rattle.rb_chapter_ring.proofs.Legal.{legal-one}
use Rattle.rb_chapter_ring.proofs.Stands.{both-ways}
use Rattle.rb_chapter_ring.proofs.Room.{keep-room, next-room}

busy-open : (s d t : Bool) → status_by s d t ≡ Busy → (s ≡ false) × (d ≡ false)
busy-open s true t e = absurd (cc)
busy-open true false true e = absurd (cc)
busy-open true false false e = absurd (cc)
busy-open false false t e = (refl, refl)

granted-is : (o : Snapshot) (t : List Entry) (w k n p : ℕ) → IsGranted o t w k n p → is_granted_from o t p ≡ true
granted-is o t w k n p g = elim g [
  | inl shown ↦ or_left (list_any (shows_at p) o.records) (is_granted_at t p)
      (list_any_at (shows_at p) o.records shown.1.0 (record { pos = p; len = n; worker = w; serial = k; status = shown.0 }) shown.1.1 (ap (shows_at p) shown.1.2 ∙ eq-eqb p p refl))
  | inr more ↦ or_right (list_any (shows_at p) o.records) (is_granted_at t p) (granted-from t w k n p more)
]

-- ---- what may follow a grant

module _ (r : Setup) (h : List Entry) (l : IsLegal r h) (t : List Entry) (lt : IsLegalFrom (snapshot_of r h) t) where
  facts : KeptAs r h
  facts = kept-from-legal r h l

  never : NeverBoth h
  never = never-both r h l

  at : producer_from (snapshot_of r h) t ≡ producer_of r.start (h ++ t)
  at = producer-same r h facts never t

  free : is_taken_at h (producer_from (snapshot_of r h) t) ≡ false
  free = false_from_ne_true (is_taken_at h (producer_from (snapshot_of r h) t))
      (λ is. omega (arith, taken-low r h facts (producer_from (snapshot_of r h) t) is, at, sum_by-append granted_span h t))

  none : is_granted_at (h ++ t) (producer_from (snapshot_of r h) t) ≡ false
  none = false_from_ne_true (is_granted_at (h ++ t) (producer_from (snapshot_of r h) t)) (λ is.
      omega (arith, at, granted-below (h ++ t) (producer_of r.start (h ++ t)) (producer_from (snapshot_of r h) t) (kept-from-legal r (h ++ t) ((both-ways r h l t).0 lt)).below is))

  not-submitted : is_submitted_at (h ++ t) (producer_from (snapshot_of r h) t) ≡ false
  not-submitted = false_from_ne_true (is_submitted_at (h ++ t) (producer_from (snapshot_of r h) t))
      (λ is. true≢false (sym ((kept-from-legal r (h ++ t) ((both-ways r h l t).0 lt)).named (producer_from (snapshot_of r h) t) (or_left _ _ is)) ∙ none))

  not-discarded : is_discarded_at (h ++ t) (producer_from (snapshot_of r h) t) ≡ false
  not-discarded = false_from_ne_true (is_discarded_at (h ++ t) (producer_from (snapshot_of r h) t))
      (λ is. true≢false (sym ((kept-from-legal r (h ++ t) ((both-ways r h l t).0 lt)).named (producer_from (snapshot_of r h) t) (or_right _ _ is)) ∙ none))

  -- a record that was just granted may be submitted
  submit-follows : (w k n : ℕ) → MayFollowFrom (snapshot_of r h) (t ++ Res w k n (producer_from (snapshot_of r h) t) ∷ []) (Sub (producer_from (snapshot_of r h) t))
  submit-follows w k n =
      let p = producer_from (snapshot_of r h) t in
      let e = Res w k n p in
      let cut : h ++ (t ++ e ∷ []) ≡ (h ++ t) ++ e ∷ [] = sym (append_assoc h t (e ∷ [])) in (
        or_right _ _ (list_any-snoc (is_grant_at p) t e ∙ or_right (is_granted_at t p) (p == p) (eq-eqb p p refl)),
        submitted-same r h facts never (t ++ e ∷ []) p free ∙ ap (λ x. is_submitted_at x p) cut ∙ list_any-snoc (is_submit p) (h ++ t) e ∙ or-false _ ∙ not-submitted,
        discarded-same r h facts never (t ++ e ∷ []) p free ∙ ap (λ x. is_discarded_at x p) cut ∙ list_any-snoc (is_discard p) (h ++ t) e ∙ or-false _ ∙ not-discarded,
      )

abbrev SubmitMayFollow : List Entry → Snapshot → Type 0
SubmitMayFollow t o = (w k n : ℕ) → MayFollowFrom o (t ++ Res w k n (producer_from o t) ∷ []) (Sub (producer_from o t))

output-follows : (r : Setup) (h : List Entry) (o : Snapshot) (t : List Entry) → IsLegal r h → o ≡ snapshot_of r h → IsLegalFrom o t → SubmitMayFollow t o
output-follows r h o t l is lt = subst (SubmitMayFollow t) (sym is) (submit-follows r h l t (subst (λ x. IsLegalFrom x t) is lt))

-- ---- the calls

pub one-kept : (earlier : List Entry) (c : Chapter) (e : Entry) → IsKept earlier c → MayFollowFrom c.opening c.entries e → HasRoomForEntry c e → IsKept earlier (with_entry c e)
one-kept earlier c e is follows room = record {
  continues = record { earlier_legal = is.continues.earlier_legal; opened = is.continues.opened; legal = legal-one c.opening c.entries e is.continues.legal follows };
  room = (keep-room earlier c e is.continues follows).0 room;
}

module _ (earlier : List Entry) (old new : ChapterRing) (is : IsKept earlier old.chapter) where
  logged-kept : (e : Entry) → LogsByChapter old new (e ∷ []) → MayFollowFrom old.chapter.opening old.chapter.entries e → HasRoomForEntry old.chapter e → IsKept earlier new.chapter
  logged-kept e logged follows room = subst (IsKept earlier) (sym logged) (one-kept earlier old.chapter e is follows room)

  same-kept : new ≡ old → IsKept earlier new.chapter
  same-kept same = subst (λ (v : ChapterRing). IsKept earlier v.chapter) (sym same) is

  submits : (r : Granted) → HoldsReservationFrom old r → MayFollowFrom old.chapter.opening old.chapter.entries (Sub r.pos)
  submits r b = (granted-is old.chapter.opening old.chapter.entries r.worker r.serial (length r.bytes) r.pos b.granted_is, (busy-open _ _ _ b.busy).0, (busy-open _ _ _ b.busy).1)

  outputs : (w : ℕ) (bytes : List ℕ) → w < old.chapter.opening.setup.workers → OutputsByChapter old new w bytes → IsKept earlier new.chapter
  outputs w bytes l a =
      let o = old.chapter.opening in
      let t = old.chapter.entries in
      let p = producer_from o t in
      let k = grants_from o w t in
      let first = one-kept earlier old.chapter (Res w k (length bytes) p) is (l, refl, refl, a.room) a.chapter_room in
      let follows = output-follows o.setup earlier o t is.continues.earlier_legal is.continues.opened is.continues.legal w k (length bytes) in
      let both = one-kept earlier (with_entry old.chapter (Res w k (length bytes) p)) (Sub p) first follows first.room in
      subst (IsKept earlier) (ap (λ es. record old.chapter { entries = es }) (append_assoc t (Res w k (length bytes) p ∷ []) (Sub p ∷ [])) ∙ sym a.logged) both

  takes : (t : Taken) → TakesByChapter old new t → IsKept earlier new.chapter
  takes (Event p w k bytes) a = logged-kept (Take p) a.logged (a.front, or_left _ _ (waiting-submitted _ _ _ a.waiting).0) is.room
  takes (Skipped p n) a = logged-kept (Take p) a.logged (a.front, or_right _ _ (discarded-is _ _ _ a.discarded)) is.room
  takes BusyFront a = same-kept a.same
  takes Empty a = same-kept a.same

  hands-out : (out : Chapter) → HandsOut old new out → IsKept (earlier ++ out.entries) new.chapter
  hands-out out a =
      let next = next-room earlier old.chapter new.chapter is.continues is.room a.next.next_is a.next.no_entries a.next.room_same in
      subst (λ (c : Chapter). IsKept (earlier ++ c.entries) new.chapter) (sym a.next.out_is) (record { continues = next.1; room = next.0 })

pub calls-keep : CallsKeepChapters
calls-keep earlier old new is = record {
  grants = λ w n p k l a. logged-kept earlier old new is (Res w k n p) a.logged (l, a.position, a.serial, a.room) a.chapter_room;
  finds_full = λ w n l a. logged-kept earlier old new is (Full w n) a.logged (l, a.no_room) a.chapter_room.0;
  finds_chapter_full = λ w n a. same-kept earlier old new is a.same;
  outputs = outputs earlier old new is;
  submits = λ r a. logged-kept earlier old new is (Sub r.pos) a.logged (submits earlier old new is r a.was_busy) is.room;
  discards = λ r a. logged-kept earlier old new is (Dis r.pos) a.logged (submits earlier old new is r a.was_busy) is.room;
  strays = λ r a. same-kept earlier old new is a.same;
  takes = takes earlier old new is;
  hands_out = hands-out earlier old new is;
}
