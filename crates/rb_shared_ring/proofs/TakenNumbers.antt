-- The consumer's counts after each call on a shared ring.
use Rattle.std.proofs.Common.{◌≡◌, ℕ, ◌+◌, ◌*◌, ◌≤◌, ◌^◌, List, [], ◌∷◌, length, sym, ap, ◌∙◌, subst, arith}
use Rattle.rb_history.specs.Span.{span}
use Rattle.rb_history.specs.declared.answers.Taken.{Taken}
use Rattle.rb_history.specs.declared.answers.Taken.TheVariants.{Event, Skipped, BusyFront, Empty}
use Rattle.rb_history.specs.History.{consumer_of}
use Rattle.rb_history.specs.RoomRule.{Setup}
use Rattle.rb_history.specs.RingModel.{Ring}
use Rattle.rb_history.specs.ManyTakes.{TakesMany}
use Rattle.rb_history.proofs.Lists.{sum_by-cons}
use Rattle.rb_chapter_ring.specs.Chapters.{Chapter, joined}
use Rattle.rb_chapter_ring.specs.ManyTakes.{TakesManyInChapter}
use Rattle.rb_ledger.specs.Roles.{Book, book_of}
use Rattle.rb_ledger.specs.Roles.Role.{Consumer}
use Rattle.rb_ledger.specs.Seats.{IsBook, ConsumerTies}
use Rattle.rb_ledger.specs.LockedCalls.{LockedCall, TakesAt, events_in, skips_in, span_in, IsTakenAt}
use Rattle.rb_ledger.specs.ManyTakes.{events_among, skips_among, span_among, AreTakenFrom}
use Rattle.rb_ledger.proofs.Seated.{taker-goes-on, take-ties, take-place, take-setup}
use Rattle.rb_ledger.proofs.ManyTakes.{many-ties, many-places, many-setup}
use Rattle.rb_ledger.specs.EntryRoom.{InRoomBehind}
use Rattle.rb_ledger.specs.LockedChapterCalls.{LockedChapterCall, InKnownChapter, TellsUsed, HandsOutNext}
use Rattle.rb_ledger.specs.inner.ChapterAnswers.{TakesInChapter}
use Rattle.rb_ledger.specs.inner.ChapterRooms.{InKnownRoom}
use Rattle.rb_ledger.proofs.WholeCalls.{takes-whole, each-call-is-whole}
use Rattle.rb_ledger.proofs.EntryRoom.{call-behind, behind-over-all}
use Rattle.rb_ledger.specs.HandKnowledge.{HandPassView}
use Rattle.rb_shared_ring.specs.inner.HandPasses.{seen_with, room_with, handed_out_with, IsIdleWith}
use Rattle.rb_shared_ring.specs.inner.SeatsKeep.{KeepsConsumer, CountsTakes}
use Rattle.rb_shared_ring.proofs.WholeAnswers.{same-taken}
use Rattle.rb_shared_ring.proofs.ConsumerPassing.{many-whole, same-each}

-- a record that was taken advanced the position by at least a header
span-least : (n : ℕ) → 8 ≤ span n
span-least n = omega arith

spaced-one : (t : Taken) → 8 * (events_in t + skips_in t) ≤ span_in t
spaced-one (Event p w k b) = span-least (length b)
spaced-one (Skipped p n) = span-least n
spaced-one BusyFront = omega arith
spaced-one Empty = omega arith

spaced-all : (ts : List Taken) → 8 * (events_among ts + skips_among ts) ≤ span_among ts
spaced-all [] = omega arith
spaced-all (t ∷ ts) = omega (arith, spaced-one t, spaced-all ts, sum_by-cons events_in t ts, sum_by-cons skips_in t ts, sum_by-cons span_in t ts)

-- the consumer's counts after these were added, all within 2^62
pub record AreTakerNumbers (c s p e k m : ℕ) (a b : Book) : Type 0 where
  pub ties : ConsumerTies (c + e) (s + k) (p + m) a
  pub spaced : 8 * ((c + e) + (s + k)) ≤ p + m
  pub position_low : p + m ≤ 2 ^ 62
  pub setup_same : a.setup ≡ b.setup

consumer-low : (r : Ring) (a : Book) → a ≡ book_of r → r.consumer ≡ consumer_of r.setup.start r.history → r.consumer ≤ r.producer → r.producer ≤ 2 ^ 62 → consumer_of a.setup.start a.history ≤ 2 ^ 62
consumer-low r a seen is low high = subst (λ (x : Book). consumer_of x.setup.start x.history ≤ 2 ^ 62) (sym seen) (omega (arith, is, low, high))

-- one take, and many, over the whole history
module _ (b a : Book) (room : ℕ) (handed_out : List Chapter) where
  pub take-called : (t : Taken) → LockedChapterCall Consumer b a (InKnownRoom room handed_out (TakesInChapter t)) → LockedCall Consumer b a (InRoomBehind room (joined handed_out) (TakesAt t))
  take-called t = call-behind b a room handed_out (TakesInChapter t) (TakesAt t) (λ earlier old new is kept x. (same-taken old new t x.0, takes-whole earlier old new is t x))

  pub many-called : (n : ℕ) (ts : List Taken) → LockedChapterCall Consumer b a (InKnownRoom room handed_out (TakesManyInChapter n ts)) → LockedCall Consumer b a (InRoomBehind room (joined handed_out) (TakesMany n ts))
  many-called n ts = call-behind b a room handed_out (TakesManyInChapter n ts) (TakesMany n ts) (λ earlier old new is kept x. (same-each old new ts x.each, many-whole earlier old new n ts (record { continues = is; room = kept }) x))

module _ (c s p : ℕ) (b a : Book) (ties : ConsumerTies c s p b) (spaced : 8 * (c + s) ≤ p) where
  numbers : (e k m : ℕ) → ConsumerTies (c + e) (s + k) (p + m) a → 8 * (e + k) ≤ m → consumer_of a.setup.start a.history ≤ 2 ^ 62 → a.setup ≡ b.setup → AreTakerNumbers c s p e k m a b
  numbers e k m now more low setup = record {
    ties = now;
    spaced = omega (arith, spaced, more);
    position_low = let at = now.position_is in omega (arith, at, low);
    setup_same = setup;
  }

  -- one take, as a call counts it
  pub take-counts : (room : ℕ) (handed_out : List Chapter) (t : Taken) → LockedChapterCall Consumer b a (InKnownRoom room handed_out (TakesInChapter t)) → AreTakerNumbers c s p (events_in t) (skips_in t) (span_in t) a b
  take-counts room handed_out t call =
      let turn = behind-over-all b a room (joined handed_out) (TakesAt t) (take-called b a room handed_out t call) in
      let left = turn.is_ring in
      numbers (events_in t) (skips_in t) (span_in t) (take-ties c s p b a t turn ties) (spaced-one t)
      (consumer-low turn.left a turn.seen left.stands.consumer_is left.bounded.consumer left.bounded.producer) (take-setup c s p b a t turn ties)

  pub take-stood : (room : ℕ) (handed_out : List Chapter) (t : Taken) → LockedChapterCall Consumer b a (InKnownRoom room handed_out (TakesInChapter t)) → IsTakenAt p t
  take-stood room handed_out t call = take-place c s p b a t (behind-over-all b a room (joined handed_out) (TakesAt t) (take-called b a room handed_out t call)) ties

  -- many takes
  pub many-counts : (room : ℕ) (handed_out : List Chapter) (n : ℕ) (ts : List Taken) → LockedChapterCall Consumer b a (InKnownRoom room handed_out (TakesManyInChapter n ts)) → AreTakerNumbers c s p (events_among ts) (skips_among ts) (span_among ts) a b
  many-counts room handed_out n ts call =
      let turn = behind-over-all b a room (joined handed_out) (TakesMany n ts) (many-called b a room handed_out n ts call) in
      let left = turn.is_ring in
      numbers (events_among ts) (skips_among ts) (span_among ts) (many-ties c s p b a n ts turn ties) (spaced-all ts)
      (consumer-low turn.left a turn.seen left.stands.consumer_is left.bounded.consumer left.bounded.producer) (many-setup c s p b a n ts turn ties)

  pub many-stood : (room : ℕ) (handed_out : List Chapter) (n : ℕ) (ts : List Taken) → LockedChapterCall Consumer b a (InKnownRoom room handed_out (TakesManyInChapter n ts)) → AreTakenFrom p ts
  many-stood room handed_out n ts call = many-places c s p b a n ts (behind-over-all b a room (joined handed_out) (TakesMany n ts) (many-called b a room handed_out n ts call)) ties

  -- the ring is unchanged
  same-counts : LockedCall Consumer b a (λ old new. new ≡ old) → ConsumerTies c s p a × (a.setup ≡ b.setup)
  same-counts turn =
      let there = taker-goes-on c s p b (book_of turn.point) turn.goes_on turn.was_ring.legal ties in
      let now : book_of turn.point ≡ a = ap book_of (sym turn.called) ∙ sym turn.seen in
      (subst (ConsumerTies c s p) now there, ap (λ (x : Book). x.setup) (sym now) ∙ turn.goes_on.setup_same)

  pub used-counts : (handed_out : List Chapter) (entries more : ℕ) → LockedChapterCall Consumer b a (InKnownChapter handed_out (TellsUsed entries more)) → ConsumerTies c s p a × (a.setup ≡ b.setup)
  used-counts handed_out entries more call = same-counts ((each-call-is-whole b a).tells_used handed_out entries more call)

  pub next-counts : (handed_out : List Chapter) (x : Chapter) → LockedChapterCall Consumer b a (HandsOutNext handed_out x) → ConsumerTies c s p a × (a.setup ≡ b.setup)
  next-counts handed_out x call = same-counts ((each-call-is-whole b a).hands_out handed_out x call).0

  pub next-number : (handed_out : List Chapter) (x : Chapter) → LockedChapterCall Consumer b a (HandsOutNext handed_out x) → x.number ≡ length handed_out
  next-number handed_out x call = ((each-call-is-whole b a).hands_out handed_out x call).1

-- ---- the consumer's seat

pub keeps-after : (v after : HandPassView) (size workers room chapters : ℕ) → KeepsConsumer v size workers room chapters → IsIdleWith Consumer after → IsBook (seen_with after) → (seen_with after).setup ≡ (seen_with v).setup → room_with after ≡ room_with v
    → (now : ℕ) → now ≡ length (handed_out_with after) → KeepsConsumer after size workers room now
keeps-after v after size workers room chapters keeps idle book setup room_same now is = record {
  idle = idle;
  book = book;
  size_is = keeps.size_is ∙ ap (λ (x : Setup). x.size) (sym setup);
  workers_are = keeps.workers_are ∙ ap (λ (x : Setup). x.workers) (sym setup);
  room_is = keeps.room_is ∙ sym room_same;
  chapters_are = is;
}

pub counts-after : (after : HandPassView) (b : Book) (c s p e k m x y z : ℕ) → AreTakerNumbers c s p e k m (seen_with after) b → x ≡ e → y ≡ k → z ≡ m → CountsTakes after (c + x) (s + y) (p + z)
counts-after after b c s p e k m x y z n xe yk zm = subst (λ (q : ℕ × ℕ × ℕ). CountsTakes after (c + q.0) (s + q.1) (p + q.2)) (λ i. (sym xe i, sym yk i, sym zm i)) (record { ties = n.ties; spaced = n.spaced })
