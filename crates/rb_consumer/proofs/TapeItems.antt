-- The records that one call took may follow on a tape.
use Rattle.std.proofs.Common.{◌≡◌, ℕ, ◌+◌, ◌<◌, ◌≤◌, ◌^◌, List, [], ◌∷◌, length, refl, sym, ap, ◌∙◌, subst, arith}
use Rattle.std.specs.Prelude.{Result, Ok, Err, OnOk}
use Rattle.std.specs.List.{sum_by}
use Rattle.std.proofs.lemmas.List.Sums.{sum_by-cons, sum_by-append}
use Rattle.rb_history.specs.Span.{span}
use Rattle.rb_history.specs.TapeBytes.{item_span, AreItemsFrom, end_of}
use Rattle.rb_history.specs.TapeBytes.Item.{Event as EventItem, Skip as SkipItem}
use Rattle.rb_history.specs.declared.answers.Taken.{Taken}
use Rattle.rb_history.specs.declared.answers.Taken.TheVariants.{Event, Skipped, BusyFront, Empty}
use Rattle.rb_history.specs.History.{granted_span, producer_of, consumer_of}
use Rattle.rb_history.specs.ManyTakes.{TakesMany, pushed}
use Rattle.rb_shared_ring.specs.declared.shared.Foreign.{Foreign}
use Rattle.rb_ledger.specs.Roles.{Book, book_of}
use Rattle.rb_ledger.specs.Roles.Role.{Consumer}
use Rattle.rb_ledger.specs.Seats.{ConsumerTies}
use Rattle.rb_ledger.specs.LockedCalls.{LockedCall, span_in}
use Rattle.rb_ledger.specs.ManyTakes.{span_among, AreTakenFrom}
use Rattle.rb_ledger.proofs.ManyTakes.{takes_of, logs-each, many-ties, many-places, many-setup}
use Rattle.rb_ledger.proofs.Seated.{taker-goes-on}
use Rattle.rb_tape.specs.Items.{tape_items, AreRecords}
use Rattle.rb_consumer.proofs.Batches.{records-each}

-- ---- records that end within the ring's size may follow on a tape

items-stand : (size at : ℕ) (ts : List Taken) → AreRecords ts → AreTakenFrom at ts → size ≤ 67108864 → span_among ts < size → at + span_among ts ≤ 2 ^ 62 → AreItemsFrom size at (tape_items ts)
items-stand size at [] all places small fits low = tt
items-stand size at (Event p w k b ∷ ts) all places small fits low =
    let e = sum_by-cons span_in (Event p w k b) ts in (
      record { here = places.0; has_header = omega (arith, e); has_fitted = omega (arith, e); bounded = omega (arith, e) },
      items-stand size (at + span (length b)) ts all.1 places.1 small (omega (arith, e)) (omega (arith, e)),
    )
items-stand size at (Skipped p n ∷ ts) all places small fits low =
    let e = sum_by-cons span_in (Skipped p n) ts in (
      record { here = places.0; has_header = omega (arith, e); has_fitted = omega (arith, e); bounded = omega (arith, e) },
      items-stand size (at + span n) ts all.1 places.1 small (omega (arith, e)) (omega (arith, e)),
    )
items-stand size at (BusyFront ∷ ts) all places small fits low = absurd all.0
items-stand size at (Empty ∷ ts) all places small fits low = absurd all.0

spans-same : (ts : List Taken) → span_among ts ≡ sum_by item_span (tape_items ts)
spans-same [] = refl
spans-same (Event p w k b ∷ ts) = sum_by-cons span_in (Event p w k b) ts ∙ ap (λ n. span (length b) + n) (spans-same ts) ∙ sym (sum_by-cons item_span (EventItem p b) (tape_items ts))
spans-same (Skipped p n ∷ ts) = sum_by-cons span_in (Skipped p n) ts ∙ ap (λ m. span n + m) (spans-same ts) ∙ sym (sum_by-cons item_span (SkipItem p n) (tape_items ts))
spans-same (BusyFront ∷ ts) = spans-same ts
spans-same (Empty ∷ ts) = spans-same ts

-- ---- the records taken by one call end within the ring's size

-- a take grants nothing
no-grants : (ts : List Taken) → sum_by granted_span (takes_of ts) ≡ 0
no-grants [] = refl
no-grants (Event p w k b ∷ ts) = no-grants ts
no-grants (Skipped p n ∷ ts) = no-grants ts
no-grants (BusyFront ∷ ts) = no-grants ts
no-grants (Empty ∷ ts) = no-grants ts

module _ (c s p : ℕ) (b a : Book) (n : ℕ) (ts : List Taken) (turn : LockedCall Consumer b a (TakesMany n ts)) (ties : ConsumerTies c s p b) where
  begins : p ≡ consumer_of turn.point.setup.start turn.point.history
  begins = (taker-goes-on c s p b (book_of turn.point) turn.goes_on turn.was_ring.legal ties).position_is

  ends : p + span_among ts ≡ consumer_of turn.left.setup.start turn.left.history
  ends = subst (λ (x : Book). p + span_among ts ≡ consumer_of x.setup.start x.history) turn.seen (many-ties c s p b a n ts turn ties).position_is

  -- the producer position does not change
  producer-stays : producer_of turn.left.setup.start turn.left.history ≡ producer_of turn.point.setup.start turn.point.history
  producer-stays =
      let logs = logs-each turn.point turn.left ts turn.called.each in
      ap (λ x. producer_of x.start turn.left.history) logs.setup_same ∙ ap (producer_of turn.point.setup.start) logs.history_is
      ∙ omega (arith, sum_by-append granted_span turn.point.history (takes_of ts), no-grants ts)

  ends-low : p + span_among ts ≤ turn.point.producer
  ends-low =
      omega (arith, ends, producer-stays, turn.is_ring.stands.consumer_is, turn.is_ring.bounded.consumer, turn.is_ring.stands.producer_is, turn.was_ring.stands.producer_is)

  taken-stand : AreItemsFrom b.setup.size p (tape_items ts)
  taken-stand =
      let point = turn.point in
      let was = turn.was_ring in
      let same : point.setup.size ≡ b.setup.size = ap (λ x. x.size) turn.goes_on.setup_same in
      let low = ends-low in
      items-stand b.setup.size p ts (records-each point turn.left ts turn.called.each) (many-places c s p b a n ts turn ties)
      (omega (arith, same, was.bounded.size.2)) (omega (arith, same, low, begins, was.stands.consumer_is, was.bounded.room, was.bounded.size.1)) (omega (arith, low, was.bounded.producer))

-- ---- after the call

pub stand-after : (r : Result ℕ Foreign) (c s p : ℕ) (b a : Book) (n : ℕ) (ts : List Taken) → OnOk r (LockedCall Consumer b a (TakesMany n ts)) → ConsumerTies c s p b → OnOk r (AreItemsFrom b.setup.size p (tape_items ts))
stand-after (Ok k) c s p b a n ts call ties = taken-stand c s p b a n ts call ties
stand-after (Err e) c s p b a n ts call ties = tt

pub ends-after : (r : Result ℕ Foreign) (p end : ℕ) (before after : List Taken) → OnOk r (end ≡ p + span_among (pushed before after)) → before ≡ [] → OnOk r (end ≡ end_of p (tape_items after))
ends-after (Ok k) p end before after is none = is ∙ ap (λ x. p + span_among (pushed x after)) none ∙ ap (λ n. p + n) (spans-same after)
ends-after (Err e) p end before after is none = tt

pub setup-after : (r : Result ℕ Foreign) (c s p : ℕ) (b a : Book) (n : ℕ) (ts : List Taken) → OnOk r (LockedCall Consumer b a (TakesMany n ts)) → ConsumerTies c s p b → OnOk r (a.setup ≡ b.setup)
setup-after (Ok k) c s p b a n ts call ties = many-setup c s p b a n ts call ties
setup-after (Err e) c s p b a n ts call ties = tt
