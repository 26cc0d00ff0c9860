-- Chapters that are bound.
use Rattle.std.proofs.Common.{◌≡◌, ℕ, ◌+◌, ◌<◌, List, [], ◌∷◌, ◌++◌, sym, ap, ◌∙◌, subst, append_assoc, append-nil}
use Rattle.std.proofs.lemmas.List.Elements.{All-weaker}
use Rattle.rb_history.specs.declared.entries.Entry.{Entry}
use Rattle.rb_history.specs.declared.tally.Tally.{Tally}
use Rattle.rb_history.specs.declared.answers.Counts.{Counts}
use Rattle.rb_history.specs.Counting.{counts_of}
use Rattle.rb_history.specs.RoomRule.{Setup}
use Rattle.rb_history.specs.Legal.{IsLegal}
use Rattle.rb_history.specs.RingModel.{Ring}
use Rattle.rb_history.specs.WorkerCounts.{tally_of, serials_of, numbers_below}
use Rattle.rb_history.proofs.Laws.{kept-none, legal-front}
use Rattle.rb_history.proofs.Serials.{serials-ordered}
use Rattle.rb_chapter_ring.specs.Snapshot.{Snapshot, snapshot_of, tally_at, counts_at}
use Rattle.rb_chapter_ring.specs.Chapters.{Chapter, empty_ring, closing_of, IsLegalChapter, AreMeeting, joined}
use Rattle.rb_chapter_ring.specs.ChapterRing.{ChapterRing}
use Rattle.rb_chapter_ring.specs.WholeHistory.{Binds, IsBound, ContinuesHistory}
use Rattle.rb_chapter_ring.proofs.ChapterNumbers.{tally-at}
use Rattle.rb_chapter_ring.proofs.Counts.{counts-are}
use Rattle.rb_chapter_ring.proofs.Stands.{goes-on}
use Rattle.rb_chapter_ring.proofs.Join.{empty-is}
use Rattle.rb_chapter_ring.proofs.Chain.{AreHandedOut, handed-out-are, handed-out-bind}
use Rattle.rb_ledger.specs.Roles.{book_of}
use Rattle.rb_ledger.specs.Seats.{WorkerSeat, Ties, ConsumerTies}
use Rattle.rb_ledger.specs.Headline.{Accounts, IsClosed, IsGathered, ReservationsBalance}
use Rattle.rb_ledger.specs.ChapteredRing.{chaptered_ring, whole_of}
use Rattle.rb_ledger.specs.ChapterSeats.{ChapterConsumerSeat, whole_consumer}
use Rattle.rb_ledger.specs.ChapterClosing.{AreNumberedFrom, EachGoesOn, MayBind, AreTied, IsGatheredByChapters, bound_book}
use Rattle.rb_ledger.specs.ChapterHeadline.{AllLegal, BindsWhereItMay, HandedOutBind, TiedOnceBound, bound_ring, GatheredOnceBound}
use Rattle.rb_ledger.specs.inner.BindingLoops.{EachFollows, AreOpenedInTurn}

-- ---- chapters that continue the empty history are those that are opened in turn

follows-setup : (c : Chapter) (cs : List Chapter) (last : Chapter) → EachFollows c (cs ++ last ∷ []) → last.opening.setup ≡ c.opening.setup
follows-setup c [] last follow = ap (λ (o : Snapshot). o.setup) follow.0
follows-setup c (d ∷ cs) last follow = follows-setup d cs last follow.1 ∙ ap (λ (o : Snapshot). o.setup) follow.0

-- the opening of an empty ring is the one of its own setup
own-setup : (o : Snapshot) (r : Setup) → o ≡ empty_ring r → o ≡ empty_ring o.setup
own-setup o r is = is ∙ ap empty_ring (sym (ap (λ (x : Snapshot). x.setup) is))

all-and : (cs : List Chapter) (last : Chapter) → AllLegal cs → IsLegalChapter last → AllLegal (cs ++ last ∷ [])
all-and [] last legal at_last = (at_last, tt)
all-and (c ∷ cs) last legal at_last = (legal.0, all-and cs last legal.1 at_last)

-- a legal chapter whose opening is the summary of a legal history ends with the summary of both
ends-with : (r : Setup) (h : List Entry) (c : Chapter) → IsLegal r h → c.opening ≡ snapshot_of r h → IsLegalChapter c → IsLegal r (h ++ c.entries) × (closing_of c ≡ snapshot_of r (h ++ c.entries))
ends-with r h c l opened legal = let both = goes-on r h c.opening l opened c.entries in (both.0.0 legal, (both.1 legal).stands)

goes-follow : (r : Setup) (h : List Entry) (c : Chapter) (cs : List Chapter) → IsLegal r h → c.opening ≡ snapshot_of r h → IsLegalChapter c → AllLegal cs → EachGoesOn r (h ++ c.entries) cs → EachFollows c cs
goes-follow r h c [] l opened legal all goes = tt
goes-follow r h c (d ∷ ds) l opened legal all goes =
    let ends = ends-with r h c l opened legal in
    (goes.0 ∙ sym ends.1, goes-follow r (h ++ c.entries) d ds ends.0 goes.0 all.0 all.1 goes.1)

follow-goes : (r : Setup) (h : List Entry) (c : Chapter) (cs : List Chapter) → IsLegal r h → c.opening ≡ snapshot_of r h → IsLegalChapter c → AllLegal cs → EachFollows c cs → EachGoesOn r (h ++ c.entries) cs
follow-goes r h c [] l opened legal all follow = tt
follow-goes r h c (d ∷ ds) l opened legal all follow =
    let ends = ends-with r h c l opened legal in
    let at = follow.0 ∙ ends.1 in
    (at, follow-goes r (h ++ c.entries) d ds ends.0 at all.0 all.1 follow.1)

pub in-turn-goes : (cs : List Chapter) (last : Chapter) → AllLegal cs → IsLegalChapter last → AreOpenedInTurn (cs ++ last ∷ []) → EachGoesOn last.opening.setup [] (cs ++ last ∷ [])
in-turn-goes [] last legal at_last o = (o.0 ∙ empty-is last.opening.setup, tt)
in-turn-goes (c ∷ cs) last legal at_last o =
    let r = last.opening.setup in
    let opened : c.opening ≡ snapshot_of r [] = o.0 ∙ ap empty_ring (sym (follows-setup c cs last o.1)) ∙ empty-is r in
    (opened, follow-goes r [] c (cs ++ last ∷ []) (kept-none r).legal opened legal.0 (all-and cs last legal.1 at_last) o.1)

pub goes-in-turn : (cs : List Chapter) (last : Chapter) → AllLegal cs → IsLegalChapter last → EachGoesOn last.opening.setup [] (cs ++ last ∷ []) → AreOpenedInTurn (cs ++ last ∷ [])
goes-in-turn [] last legal at_last goes = (goes.0 ∙ sym (empty-is last.opening.setup), tt)
goes-in-turn (c ∷ cs) last legal at_last goes =
    let r = last.opening.setup in
    (own-setup c.opening r (goes.0 ∙ sym (empty-is r)), goes-follow r [] c (cs ++ last ∷ []) (kept-none r).legal goes.0 legal.0 (all-and cs last legal.1 at_last) goes.1)

-- ---- chapters that may be bound are those of a ring

meets-each : (n : ℕ) (c : Chapter) (cs : List Chapter) (last : Chapter) → c.number ≡ n → AreNumberedFrom (n + 1) (cs ++ last ∷ []) → EachFollows c (cs ++ last ∷ []) → AllLegal cs → IsLegalChapter last → AreMeeting c (cs ++ last ∷ [])
meets-each n c [] last is numbered follow legal at_last = (record { next_number = numbered.0 ∙ ap (λ x. x + 1) (sym is); goes_on = follow.0 }, at_last, tt)
meets-each n c (d ∷ cs) last is numbered follow legal at_last =
    (record { next_number = numbered.0 ∙ ap (λ x. x + 1) (sym is); goes_on = follow.0 }, legal.0, meets-each (n + 1) d cs last numbered.0 numbered.1 follow.1 legal.1 at_last)

numbers-each : (n : ℕ) (c : Chapter) (cs : List Chapter) (last : Chapter) → c.number ≡ n → AreMeeting c (cs ++ last ∷ []) → AreNumberedFrom (n + 1) (cs ++ last ∷ []) × EachFollows c (cs ++ last ∷ [])
numbers-each n c [] last is m = ((m.0.next_number ∙ ap (λ x. x + 1) is, tt), (m.0.goes_on, tt))
numbers-each n c (d ∷ cs) last is m =
    let number : d.number ≡ n + 1 = m.0.next_number ∙ ap (λ x. x + 1) is in
    let rest = numbers-each (n + 1) d cs last number m.2 in
    ((number, rest.0), (m.0.goes_on, rest.1))

pub binds-where-it-may : BindsWhereItMay
binds-where-it-may chapters last legal at_last = (binds chapters last legal at_last, may)
  where
    binds : (chapters : List Chapter) (last : Chapter) → AllLegal chapters → IsLegalChapter last → MayBind chapters last → Binds chapters last
    binds [] last legal at_last m = handed-out-bind [] last (m.numbered.0, (goes-in-turn [] last legal at_last m.opened).0, at_last)
    binds (c ∷ cs) last legal at_last m =
        let turn = goes-in-turn (c ∷ cs) last legal at_last m.opened in
        let opened : c.opening ≡ empty_ring last.opening.setup = turn.0 ∙ ap empty_ring (sym (follows-setup c cs last turn.1)) in
        handed-out-bind (c ∷ cs) last (m.numbered.0, opened, legal.0, meets-each 0 c cs last m.numbered.0 m.numbered.1 turn.1 legal.1 at_last)

    in-turn : (chapters : List Chapter) (last : Chapter) → AreHandedOut last.opening.setup chapters last → AreNumberedFrom 0 (chapters ++ last ∷ []) × AreOpenedInTurn (chapters ++ last ∷ [])
    in-turn [] last a = ((a.0, tt), (a.1, tt))
    in-turn (c ∷ cs) last a =
        let rest = numbers-each 0 c cs last a.0 a.3 in
        ((a.0, rest.0), (own-setup c.opening last.opening.setup a.1, rest.1))

    may : Binds chapters last → MayBind chapters last
    may b =
        let both = in-turn chapters last (handed-out-are chapters last b) in
        record { numbered = both.0; opened = in-turn-goes chapters last legal at_last both.1 }

all-legal : (hs : List Chapter) (c : Chapter) → AreHandedOut c.opening.setup hs c → AllLegal hs × IsLegalChapter c
all-legal [] c a = (tt, a.2)
all-legal (h ∷ hs) c a = let rest = behind h hs c a.3 in ((a.2, rest.0), rest.1)
  where
    behind : (h : Chapter) (hs : List Chapter) (c : Chapter) → AreMeeting h (hs ++ c ∷ []) → AllLegal hs × IsLegalChapter c
    behind h [] c m = (tt, m.1)
    behind h (x ∷ hs) c m = let rest = behind x hs c m.2 in ((m.1, rest.0), rest.1)

-- the chapters that a ring handed out may be bound
pub handed-out-may-bind : (hs : List Chapter) (last : Chapter) → Binds hs last → MayBind hs last
handed-out-may-bind hs last b =
    let legal = all-legal hs last (handed-out-are hs last b) in
    (binds-where-it-may hs last legal.0 legal.1).1 b

-- ---- all seats, gathered at the ring with its whole history

pub closed-ties : (r : Ring) (seats : List WorkerSeat) (consumer : ChapterConsumerSeat) → IsClosed r seats (whole_consumer consumer) → AreTied seats consumer (book_of r)
closed-ties r seats consumer closed = record {
  seats_tie = All-weaker (Accounts (book_of r)) (λ s. Ties s.worker s.tally (book_of r)) (λ s a. a.ties) seats closed.seats_tie;
  in_order = All-weaker (Accounts (book_of r)) (λ s. serials_of s.worker r.history ≡ numbers_below s.tally.made) (λ s a. a.in_order) seats closed.seats_tie;
  consumer_ties = closed.consumer_ties;
  balanced = closed.balanced;
}

opens-behind : (r : Setup) (h : List Entry) (cs : List Chapter) (last : Chapter) → EachGoesOn r h (cs ++ last ∷ []) → last.opening ≡ snapshot_of r (h ++ joined cs)
opens-behind r h [] last goes = goes.0 ∙ ap (snapshot_of r) (sym (append-nil h))
opens-behind r h (c ∷ cs) last goes = opens-behind r (h ++ c.entries) cs last goes.1 ∙ ap (snapshot_of r) (append_assoc h c.entries (joined cs))

-- the last chapter continues those that were handed out
pub gathered-continues : (last : ChapterRing) (seats : List WorkerSeat) (consumer : ChapterConsumerSeat) → IsGatheredByChapters last seats consumer → ContinuesHistory (joined consumer.handed_out) last.chapter
gathered-continues last seats consumer g =
    let r = last.chapter.opening.setup in
    let earlier = joined consumer.handed_out in
    let legal : IsLegal r (earlier ++ last.chapter.entries) = g.gathered.sequential.legal in
    let front = legal-front r earlier last.chapter.entries legal in
    let opened : last.chapter.opening ≡ snapshot_of r earlier = opens-behind r [] consumer.handed_out last.chapter g.may_bind.opened in
    record { earlier_legal = front; opened = opened; legal = (goes-on r earlier last.chapter.opening front opened last.chapter.entries).0.1 legal }

front-legal : (r : Setup) (h : List Entry) (cs : List Chapter) (last : Chapter) → EachGoesOn r h (cs ++ last ∷ []) → IsLegal r (h ++ joined cs) → AllLegal cs
front-legal r h [] last goes legal = tt
front-legal r h (c ∷ cs) last goes legal =
    let longer : IsLegal r ((h ++ c.entries) ++ joined cs) = subst (IsLegal r) (sym (append_assoc h c.entries (joined cs))) legal in
    let here = legal-front r (h ++ c.entries) (joined cs) longer in
    ((goes-on r h c.opening (legal-front r h c.entries here) goes.0 c.entries).0.1 here, front-legal r (h ++ c.entries) cs last goes.1 longer)

pub gathered-bind : HandedOutBind
gathered-bind last seats consumer g =
    let is = gathered-continues last seats consumer g in
    (binds-where-it-may consumer.handed_out last.chapter (front-legal last.chapter.opening.setup [] consumer.handed_out last.chapter g.may_bind.opened is.earlier_legal) is.legal).0 g.may_bind

-- ---- whatever was bound, its summary is the one at the end of the last chapter

module _ (last : ChapterRing) (seats : List WorkerSeat) (consumer : ChapterConsumerSeat) (chapters : List Chapter) (history : List Entry) (g : IsGatheredByChapters last seats consumer) (b : IsBound chapters last.chapter history) where
  whole : List Entry
  whole = joined consumer.handed_out ++ last.chapter.entries

  same : snapshot_of last.chapter.opening.setup (joined consumer.handed_out ++ last.chapter.entries) ≡ snapshot_of last.chapter.opening.setup history
  same =
      let is = gathered-continues last seats consumer g in
      sym ((goes-on last.chapter.opening.setup (joined consumer.handed_out) last.chapter.opening is.earlier_legal is.opened last.chapter.entries).1 is.legal).stands ∙ b.stands

  tally-same : (w : ℕ) → w < last.chapter.opening.setup.workers → tally_of w (joined consumer.handed_out ++ last.chapter.entries) ≡ tally_of w history
  tally-same w low = sym (tally-at last.chapter.opening.setup (joined consumer.handed_out ++ last.chapter.entries) w low) ∙ ap (λ o. tally_at o w) same ∙ tally-at last.chapter.opening.setup history w low

  seat-ties : (s : WorkerSeat) → Ties s.worker s.tally (book_of (whole_of (chaptered_ring consumer.handed_out last))) → Ties s.worker s.tally (bound_book last history)
  seat-ties s ties = record { in_ring = ties.in_ring; counted = ties.counted ∙ tally-same s.worker ties.in_ring }

  seat-ordered : (s : WorkerSeat) → Ties s.worker s.tally (bound_book last history) → serials_of s.worker history ≡ numbers_below s.tally.made
  seat-ordered s ties = serials-ordered last.chapter.opening.setup s.worker history b.legal ∙ ap numbers_below (ap (λ (t : Tally). t.made) (sym ties.counted))

  taker-ties : ConsumerTies consumer.consumed consumer.skipped consumer.position (bound_book last history)
  taker-ties =
      let ties = g.tied.consumer_ties in
      record {
        consumed_is = ties.consumed_is ∙ ap (λ (o : Snapshot). o.consumed) same;
        skipped_is = ties.skipped_is ∙ ap (λ (o : Snapshot). o.skipped) same;
        position_is = ties.position_is ∙ ap (λ (o : Snapshot). o.consumer) same;
      }

  counts-same : counts_of (joined consumer.handed_out ++ last.chapter.entries) ≡ counts_of history
  counts-same = sym (counts-are last.chapter.opening.setup (joined consumer.handed_out ++ last.chapter.entries) g.gathered.sequential.legal) ∙ ap counts_at same ∙ counts-are last.chapter.opening.setup history b.legal

  tied : AreTied seats consumer (bound_book last history)
  tied =
      let book = book_of (whole_of (chaptered_ring consumer.handed_out last)) in
      let ties = All-weaker (λ s. Ties s.worker s.tally book) (λ s. Ties s.worker s.tally (bound_book last history)) seat-ties seats g.tied.seats_tie in
      record {
        seats_tie = ties;
        in_order = All-weaker (λ s. Ties s.worker s.tally (bound_book last history)) (λ s. serials_of s.worker history ≡ numbers_below s.tally.made) seat-ordered seats ties;
        consumer_ties = taker-ties;
        balanced = subst (λ (n : Counts). ReservationsBalance seats n) counts-same g.tied.balanced;
      }

  -- the chapters are those that the ring handed out
  ring-same : joined chapters ≡ joined consumer.handed_out → whole_of (chaptered_ring consumer.handed_out last) ≡ bound_ring last history
  ring-same are = ap (bound_ring last) (ap (λ h. h ++ last.chapter.entries) (sym are) ∙ sym b.entries)

pub tied-once-bound : TiedOnceBound
tied-once-bound last seats consumer chapters history g b = tied last seats consumer chapters history g b

pub gathered-at : (last : ChapterRing) (seats : List WorkerSeat) (consumer : ChapterConsumerSeat) (chapters : List Chapter) (history : List Entry) → IsGatheredByChapters last seats consumer → IsBound chapters last.chapter history
    → joined chapters ≡ joined consumer.handed_out → IsGathered (bound_ring last history) seats (whole_consumer consumer)
gathered-at last seats consumer chapters history g b are = subst (λ r. IsGathered r seats (whole_consumer consumer)) (ring-same last seats consumer chapters history g b are) g.gathered

pub gathered-once-bound : GatheredOnceBound
gathered-once-bound last seats consumer chapters history closed b are = (
  subst (λ r. IsClosed r seats (whole_consumer consumer)) (ring-same last seats consumer chapters history closed.gathered b are) closed.closed,
  gathered-at last seats consumer chapters history closed.gathered b are,
)
