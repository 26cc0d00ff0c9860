-- A ring with a chapter, seen as the ring with its whole history.
use Rattle.std.proofs.Common.{◌≡◌, ℕ, ◌<◌, ◌↔◌, true, false, List, [], ◌∷◌, ◌++◌, is_some, length, sym, ap, ◌∙◌, subst, append_assoc, append-nil}
use Rattle.std.specs.FinMap.{insert}
use Rattle.std.proofs.lemmas.List.{append_cancel_left}
use Rattle.rb_history.specs.declared.entries.Entry.{Entry}
use Rattle.rb_history.specs.declared.entries.Entry.TheVariants.{Res, Full, Sub, Dis, Take}
use Rattle.rb_history.specs.declared.answers.Taken.{Taken}
use Rattle.rb_history.specs.declared.answers.Taken.TheVariants.{Event, Skipped, BusyFront, Empty}
use Rattle.rb_history.specs.History.{is_granted_at, is_taken_at, grants, producer_of, consumer_of, records}
use Rattle.rb_history.specs.History.Status.{Busy}
use Rattle.rb_history.specs.ReservationModel.{Granted}
use Rattle.rb_history.specs.RingModel.{Ring, StandsFor}
use Rattle.rb_history.specs.Calls.{RingHasRoom, Logs as WholeLogs, Grants as WholeGrants, FindsFull as WholeFindsFull, Outputs as WholeOutputs, Submits as WholeSubmits, Discards as WholeDiscards, Strays as WholeStrays, Takes as WholeTakes, HasBusyFront as WholeHasBusyFront, AllTaken as WholeAllTaken}
use Rattle.rb_history.proofs.Laws.{kept-from-legal}
use Rattle.rb_history.proofs.TakenRecords.{never-both}
use Rattle.rb_chapter_ring.specs.Snapshot.{snapshot_of}
use Rattle.rb_chapter_ring.specs.CountedFrom.{producer_from, consumer_from, records_from, is_granted_from, status_from, grants_from, IsLegalFrom}
use Rattle.rb_chapter_ring.specs.Chapters.{Chapter}
use Rattle.rb_chapter_ring.specs.ChapterRoom.{MayGrant, MayRefuse}
use Rattle.rb_chapter_ring.specs.ChapterRing.{ChapterRing, StandsForChapter, whole_ring}
use Rattle.rb_chapter_ring.specs.ChapterCalls.{IsSameChapter, IsNextChapter, LogsByChapter, GrantsByChapter, FindsFullByChapter, FindsChapterFull, OutputsByChapter, SubmitsByChapter, DiscardsByChapter, StraysByChapter, TakesByChapter, HasBusyFrontByChapter, AllTakenByChapter, HandsOut, producer_by_chapter}
use Rattle.rb_chapter_ring.specs.WholeHistory.{ContinuesHistory, IsSameFrom, StandsAlike, CallsAlike}
use Rattle.rb_chapter_ring.proofs.Same.{granted-same}
use Rattle.rb_chapter_ring.proofs.Legal.{front-free, grants-is, from-new}
use Rattle.rb_chapter_ring.proofs.Granted.{waiting-free}
use Rattle.rb_chapter_ring.proofs.Stands.{goes-on}

module _ (earlier : List Entry) (v : ChapterRing) (is : ContinuesHistory earlier v.chapter) where
  said-now : IsSameFrom v.chapter.opening.setup earlier v.chapter.opening v.chapter.entries
  said-now = (goes-on v.chapter.opening.setup earlier v.chapter.opening is.earlier_legal is.opened v.chapter.entries).1 is.legal

  producer-now : producer_from v.chapter.opening v.chapter.entries ≡ producer_of v.chapter.opening.setup.start (earlier ++ v.chapter.entries)
  producer-now = ap (λ o. o.producer) said-now.stands

  consumer-now : consumer_from v.chapter.opening v.chapter.entries ≡ consumer_of v.chapter.opening.setup.start (earlier ++ v.chapter.entries)
  consumer-now = ap (λ o. o.consumer) said-now.stands

  records-now : records_from v.chapter.opening v.chapter.entries ≡ records (earlier ++ v.chapter.entries)
  records-now = ap (λ o. o.records) said-now.stands

  legal-at : IsLegalFrom (snapshot_of v.chapter.opening.setup earlier) v.chapter.entries
  legal-at = subst (λ o. IsLegalFrom o v.chapter.entries) is.opened is.legal

  grants-now : (w : ℕ) → w < v.chapter.opening.setup.workers → grants_from v.chapter.opening w v.chapter.entries ≡ grants w (earlier ++ v.chapter.entries)
  grants-now w l =
      let r = v.chapter.opening.setup in
      let k = kept-from-legal r earlier is.earlier_legal in
      let never = never-both r earlier is.earlier_legal in
      ap (λ o. grants_from o w v.chapter.entries) is.opened ∙ grants-is r earlier k never v.chapter.entries (from-new r earlier k never v.chapter.entries legal-at) w l

  free-front : is_taken_at earlier (consumer_of v.chapter.opening.setup.start (earlier ++ v.chapter.entries)) ≡ false
  free-front = front-free v.chapter.opening.setup earlier (kept-from-legal v.chapter.opening.setup earlier is.earlier_legal) (never-both v.chapter.opening.setup earlier is.earlier_legal) v.chapter.entries

  granted-now : (p : ℕ) → is_taken_at earlier p ≡ false → is_granted_from v.chapter.opening v.chapter.entries p ≡ is_granted_at (earlier ++ v.chapter.entries) p
  granted-now p free =
      let r = v.chapter.opening.setup in
      ap (λ o. is_granted_from o v.chapter.entries p) is.opened
      ∙ granted-same r earlier (kept-from-legal r earlier is.earlier_legal) (never-both r earlier is.earlier_legal) v.chapter.entries p free

  to-whole : StandsForChapter v → StandsFor (whole_ring earlier v)
  to-whole s = record {
    shown = s.shown ∙ records-now;
    producer_is = s.producer_is ∙ producer-now;
    consumer_is = s.consumer_is ∙ consumer-now;
    contents = λ p. ((λ e. (said-now.waiting p).0 ((s.contents p).0 e)), (λ w. (s.contents p).1 ((said-now.waiting p).1 w)));
    sized = λ p bytes got.
        let free = waiting-free earlier v.chapter.entries p ((said-now.waiting p).0 ((s.contents p).0 (ap is_some got))) in
        let g = s.sized p bytes got in
        (g.0, (g.1.0, (said-now.granted p free g.0 g.1.0 (length bytes)).0 g.1.1));
  }

  to-chapter : StandsFor (whole_ring earlier v) → StandsForChapter v
  to-chapter s = record {
    shown = s.shown ∙ sym records-now;
    producer_is = s.producer_is ∙ sym producer-now;
    consumer_is = s.consumer_is ∙ sym consumer-now;
    contents = λ p. ((λ e. (said-now.waiting p).1 ((s.contents p).0 e)), (λ w. (s.contents p).1 ((said-now.waiting p).0 w)));
    sized = λ p bytes got.
        let free = waiting-free earlier v.chapter.entries p ((s.contents p).0 (ap is_some got)) in
        let g = s.sized p bytes got in
        (g.0, (g.1.0, (said-now.granted p free g.0 g.1.0 (length bytes)).1 g.1.1));
  }

pub stands-alike : StandsAlike
stands-alike earlier v is = (to-whole earlier v is, to-chapter earlier v is)

-- ---- the calls

module _ (earlier : List Entry) (old new : ChapterRing) (is : ContinuesHistory earlier old.chapter) where
  logs : (es : List Entry) → LogsByChapter old new es → WholeLogs (whole_ring earlier old) (whole_ring earlier new) es
  logs es l = record {
    setup_same = ap (λ c. c.opening.setup) l;
    history_is = ap (λ c. earlier ++ c.entries) l ∙ sym (append_assoc earlier old.chapter.entries es);
  }

  -- the same chapter with these entries appended
  logs-back : (es : List Entry) → IsSameChapter old new → WholeLogs (whole_ring earlier old) (whole_ring earlier new) es → LogsByChapter old new es
  logs-back es same l =
      same ∙ ap (λ x. record old.chapter { entries = x }) (append_cancel_left earlier new.chapter.entries (old.chapter.entries ++ es) (l.history_is ∙ append_assoc earlier old.chapter.entries es))

  logged-same : (es : List Entry) → LogsByChapter old new es → IsSameChapter old new
  logged-same es l = l ∙ ap (λ x. record old.chapter { entries = x }) (sym (ap (λ (c : Chapter). c.entries) l))

  stays : IsSameChapter old new → whole_ring earlier new ≡ whole_ring earlier old → new ≡ old
  stays same w =
      let entries = append_cancel_left earlier new.chapter.entries old.chapter.entries (ap (λ (r : Ring). r.history) w) in
      let chapter : new.chapter ≡ old.chapter = same ∙ ap (λ x. record old.chapter { entries = x }) entries in
      let contents : new.contents ≡ old.contents = ap (λ (r : Ring). r.contents) w in
      let shown : new.shown ≡ old.shown = ap (λ (r : Ring). r.shown) w in
      let producer : new.producer ≡ old.producer = ap (λ (r : Ring). r.producer) w in
      let consumer : new.consumer ≡ old.consumer = ap (λ (r : Ring). r.consumer) w in
      λ i. record { chapter = chapter i; contents = contents i; shown = shown i; producer = producer i; consumer = consumer i }

  stayed : new ≡ old → IsSameChapter old new
  stayed e = ap (λ (v : ChapterRing). v.chapter) e ∙ ap (λ x. record old.chapter { entries = x }) (sym (ap (λ (v : ChapterRing). v.chapter.entries) e))

  busy-front : HasBusyFrontByChapter old ↔ WholeHasBusyFront (whole_ring earlier old)
  busy-front =
      let h = earlier ++ old.chapter.entries in
      let at = consumer-now earlier old is in
      let free = free-front earlier old is in
      let p = consumer_of old.chapter.opening.setup.start h in (
        (λ b. record {
          granted_is = sym (granted-now earlier old is p free) ∙ subst (λ q. is_granted_from old.chapter.opening old.chapter.entries q ≡ true) at b.granted_is;
          busy = sym ((said-now earlier old is).status p free) ∙ subst (λ q. status_from old.chapter.opening old.chapter.entries q ≡ Busy) at b.busy;
        }),
        (λ b. record {
          granted_is = subst (λ q. is_granted_from old.chapter.opening old.chapter.entries q ≡ true) (sym at) (granted-now earlier old is p free ∙ b.granted_is);
          busy = subst (λ q. status_from old.chapter.opening old.chapter.entries q ≡ Busy) (sym at) ((said-now earlier old is).status p free ∙ b.busy);
        }),
      )

  all-taken : AllTakenByChapter old ↔ WholeAllTaken (whole_ring earlier old)
  all-taken = ((λ e. sym (producer-now earlier old is) ∙ e ∙ consumer-now earlier old is), (λ e. producer-now earlier old is ∙ e ∙ sym (consumer-now earlier old is)))

  takes : (t : Taken) → TakesByChapter old new t → WholeTakes (whole_ring earlier old) (whole_ring earlier new) t
  takes (Event p w k bytes) a =
      let s = said-now earlier old is in
      let waits = (s.waiting p).0 a.waiting in
      record {
        front = a.front ∙ consumer-now earlier old is;
        granted_is = (s.granted p (waiting-free earlier old.chapter.entries p waits) w k (length bytes)).0 a.granted_is;
        waiting = waits;
        bytes_are = a.bytes_are;
        logged = logs (Take p ∷ []) a.logged;
        contents_are = a.contents_are;
      }
  takes (Skipped p n) a =
      let s = said-now earlier old is in
      let at = a.front ∙ consumer-now earlier old is in
      let free : is_taken_at earlier p ≡ false = ap (is_taken_at earlier) at ∙ free-front earlier old is in
      record {
        front = at;
        granted_is = (a.granted_is.0, (a.granted_is.1.0, (s.granted p free a.granted_is.0 a.granted_is.1.0 n).0 a.granted_is.1.1));
        discarded = sym (s.status p free) ∙ a.discarded;
        logged = logs (Take p ∷ []) a.logged;
        contents_same = a.contents_same;
      }
  takes BusyFront a = record { front = busy-front.0 a.front; same = ap (whole_ring earlier) a.same }
  takes Empty a = record { all_taken = all-taken.0 a.all_taken; same = ap (whole_ring earlier) a.same }

  takes-same : (t : Taken) → TakesByChapter old new t → IsSameChapter old new
  takes-same (Event p w k bytes) a = logged-same (Take p ∷ []) a.logged
  takes-same (Skipped p n) a = logged-same (Take p ∷ []) a.logged
  takes-same BusyFront a = stayed a.same
  takes-same Empty a = stayed a.same

  takes-back : (t : Taken) → IsSameChapter old new → WholeTakes (whole_ring earlier old) (whole_ring earlier new) t → TakesByChapter old new t
  takes-back (Event p w k bytes) same a =
      let s = said-now earlier old is in
      record {
        front = a.front ∙ sym (consumer-now earlier old is);
        granted_is = (s.granted p (waiting-free earlier old.chapter.entries p a.waiting) w k (length bytes)).1 a.granted_is;
        waiting = (s.waiting p).1 a.waiting;
        bytes_are = a.bytes_are;
        logged = logs-back (Take p ∷ []) same a.logged;
        contents_are = a.contents_are;
      }
  takes-back (Skipped p n) same a =
      let s = said-now earlier old is in
      let free : is_taken_at earlier p ≡ false = ap (is_taken_at earlier) a.front ∙ free-front earlier old is in
      record {
        front = a.front ∙ sym (consumer-now earlier old is);
        granted_is = (a.granted_is.0, (a.granted_is.1.0, (s.granted p free a.granted_is.0 a.granted_is.1.0 n).1 a.granted_is.1.1));
        discarded = s.status p free ∙ a.discarded;
        logged = logs-back (Take p ∷ []) same a.logged;
        contents_same = a.contents_same;
      }
  takes-back BusyFront same a = record { front = busy-front.1 a.front; same = stays same a.same }
  takes-back Empty same a = record { all_taken = all-taken.1 a.all_taken; same = stays same a.same }

  outputs-back : (w : ℕ) (bytes : List ℕ) → w < old.chapter.opening.setup.workers → MayGrant old.chapter → IsSameChapter old new
      → WholeOutputs (whole_ring earlier old) (whole_ring earlier new) w bytes → OutputsByChapter old new w bytes
  outputs-back w bytes l room same a =
      let h = earlier ++ old.chapter.entries in
      let there = producer_of old.chapter.opening.setup.start h in
      let at = producer-now earlier old is in
      let k = grants-now earlier old is w l in
      record {
        room = ((said-now earlier old is).fits (length bytes)).1 a.room;
        chapter_room = room;
        logged = logs-back _ same (subst (λ p. WholeLogs (whole_ring earlier old) (whole_ring earlier new) (Res w (grants_from old.chapter.opening w old.chapter.entries) (length bytes) p ∷ Sub p ∷ [])) (sym at)
            (subst (λ x. WholeLogs (whole_ring earlier old) (whole_ring earlier new) (Res w x (length bytes) there ∷ Sub there ∷ [])) (sym k) a.logged));
        contents_are = a.contents_are ∙ ap (λ p. insert old.contents p bytes) (sym at);
      }

  outputs : (w : ℕ) (bytes : List ℕ) → w < old.chapter.opening.setup.workers → OutputsByChapter old new w bytes → WholeOutputs (whole_ring earlier old) (whole_ring earlier new) w bytes
  outputs w bytes l a =
      let at = producer-now earlier old is in
      let k = grants-now earlier old is w l in
      record {
        room = ((said-now earlier old is).fits (length bytes)).0 a.room;
        logged = subst (λ p. WholeLogs (whole_ring earlier old) (whole_ring earlier new) (Res w (grants w (earlier ++ old.chapter.entries)) (length bytes) p ∷ Sub p ∷ [])) at
            (subst (λ x. WholeLogs (whole_ring earlier old) (whole_ring earlier new) (Res w x (length bytes) (producer_by_chapter old) ∷ Sub (producer_by_chapter old) ∷ [])) k (logs _ a.logged));
        contents_are = a.contents_are ∙ ap (λ p. insert old.contents p bytes) at;
      }

  hands-out : (out : Chapter) → HandsOut old new out → whole_ring (earlier ++ out.entries) new ≡ whole_ring earlier old
  hands-out out a =
      let setup = ap (λ o. o.setup) a.next.next_is.goes_on in
      let history : (earlier ++ out.entries) ++ new.chapter.entries ≡ earlier ++ old.chapter.entries =
      ap (λ t. (earlier ++ out.entries) ++ t) a.next.no_entries ∙ append-nil (earlier ++ out.entries) ∙ ap (λ c. earlier ++ c.entries) a.next.out_is in
      let contents = a.contents_same in
      let shown = a.shown_same in
      let producer = a.producer_same in
      let consumer = a.consumer_same in
      λ i. record { setup = setup i; history = history i; contents = contents i; shown = shown i; producer = producer i; consumer = consumer i }

  hands-out-back : (out : Chapter) → IsNextChapter old new out → whole_ring (earlier ++ out.entries) new ≡ whole_ring earlier old → HandsOut old new out
  hands-out-back out next w = record {
    next = next;
    contents_same = ap (λ (r : Ring). r.contents) w;
    shown_same = ap (λ (r : Ring). r.shown) w;
    producer_same = ap (λ (r : Ring). r.producer) w;
    consumer_same = ap (λ (r : Ring). r.consumer) w;
  }

  grants-alike : (w n p k : ℕ) → w < old.chapter.opening.setup.workers
      → GrantsByChapter old new w n p k ↔ (MayGrant old.chapter × IsSameChapter old new × WholeGrants (whole_ring earlier old) (whole_ring earlier new) w n p k)
  grants-alike w n p k l =
      let s = said-now earlier old is in (
        (λ a. (
          a.chapter_room,
          logged-same (Res w k n p ∷ []) a.logged,
          record {
            room = (s.fits n).0 a.room;
            position = a.position ∙ producer-now earlier old is;
            serial = a.serial ∙ grants-now earlier old is w l;
            logged = logs (Res w k n p ∷ []) a.logged;
            contents_same = a.contents_same;
          },
        )),
        (λ b. record {
          room = (s.fits n).1 b.2.room;
          chapter_room = b.0;
          position = b.2.position ∙ sym (producer-now earlier old is);
          serial = b.2.serial ∙ sym (grants-now earlier old is w l);
          logged = logs-back (Res w k n p ∷ []) b.1 b.2.logged;
          contents_same = b.2.contents_same;
        }),
      )

  finds-full : (w n : ℕ) → FindsFullByChapter old new w n ↔ (MayRefuse old.chapter w × IsSameChapter old new × WholeFindsFull (whole_ring earlier old) (whole_ring earlier new) w n)
  finds-full w n =
      let s = said-now earlier old is in (
        (λ a. (
          a.chapter_room,
          logged-same (Full w n ∷ []) a.logged,
          record {
            no_room = λ f. a.no_room ((s.fits n).1 f);
            logged = logs (Full w n ∷ []) a.logged;
            contents_same = a.contents_same;
          },
        )),
        (λ b. record {
          no_room = λ f. b.2.no_room ((s.fits n).0 f);
          chapter_room = b.0;
          logged = logs-back (Full w n ∷ []) b.1 b.2.logged;
          contents_same = b.2.contents_same;
        }),
      )

  finds-chapter-full : (w n : ℕ) → FindsChapterFull old new w n
      ↔ ((RingHasRoom (whole_ring earlier old) n → ¬ MayGrant old.chapter) × (¬ RingHasRoom (whole_ring earlier old) n → ¬ MayRefuse old.chapter w) × (new ≡ old))
  finds-chapter-full w n =
      let s = said-now earlier old is in (
        (λ a. ((λ room. a.no_grant ((s.fits n).1 room)), (λ none. a.no_refusal (λ f. none ((s.fits n).0 f))), a.same)),
        (λ b. record { no_grant = λ room. b.0 ((s.fits n).0 room); no_refusal = λ none. b.1 (λ f. none ((s.fits n).1 f)); same = b.2 }),
      )

  submits : (r : Granted) → SubmitsByChapter old new r ↔ (IsSameChapter old new × WholeSubmits (whole_ring earlier old) (whole_ring earlier new) r)
  submits r =
      let busy = (said-now earlier old is).busy r.pos r.worker r.serial (length r.bytes) in (
        (λ a. (logged-same (Sub r.pos ∷ []) a.logged, record { was_busy = busy.0 a.was_busy; logged = logs (Sub r.pos ∷ []) a.logged; contents_are = a.contents_are })),
        (λ b. record { was_busy = busy.1 b.1.was_busy; logged = logs-back (Sub r.pos ∷ []) b.0 b.1.logged; contents_are = b.1.contents_are }),
      )

  discards : (r : Granted) → DiscardsByChapter old new r ↔ (IsSameChapter old new × WholeDiscards (whole_ring earlier old) (whole_ring earlier new) r)
  discards r =
      let busy = (said-now earlier old is).busy r.pos r.worker r.serial (length r.bytes) in (
        (λ a. (logged-same (Dis r.pos ∷ []) a.logged, record { was_busy = busy.0 a.was_busy; logged = logs (Dis r.pos ∷ []) a.logged; contents_same = a.contents_same })),
        (λ b. record { was_busy = busy.1 b.1.was_busy; logged = logs-back (Dis r.pos ∷ []) b.0 b.1.logged; contents_same = b.1.contents_same }),
      )

  strays : (r : Granted) → StraysByChapter old new r ↔ (IsSameChapter old new × WholeStrays (whole_ring earlier old) (whole_ring earlier new) r)
  strays r =
      let busy = (said-now earlier old is).busy r.pos r.worker r.serial (length r.bytes) in (
        (λ a. (stayed a.same, record { not_busy = λ b. a.not_busy (busy.1 b); same = ap (whole_ring earlier) a.same })),
        (λ b. record { not_busy = λ x. b.1.not_busy (busy.0 x); same = stays b.0 b.1.same }),
      )

pub calls-alike : CallsAlike
calls-alike earlier old new is = record {
  grants = grants-alike earlier old new is;
  finds_full = finds-full earlier old new is;
  finds_chapter_full = finds-chapter-full earlier old new is;
  outputs = λ w bytes l. (
    (λ a. (a.chapter_room, logged-same earlier old new is _ a.logged, outputs earlier old new is w bytes l a)),
    (λ b. outputs-back earlier old new is w bytes l b.0 b.1 b.2),
  );
  submits = submits earlier old new is;
  discards = discards earlier old new is;
  strays = strays earlier old new is;
  takes = λ t. ((λ a. (takes-same earlier old new is t a, takes earlier old new is t a)), (λ b. takes-back earlier old new is t b.0 b.1));
  busy_front = busy-front earlier old new is;
  all_taken = all-taken earlier old new is;
  hands_out = λ out. ((λ a. (a.next, hands-out earlier old new is out a)), (λ b. hands-out-back earlier old new is out b.0 b.1));
}
