use Rattle.std.proofs.Common.{◌≤◌, ◌<◌, length, get_or, arith, sym, subst}
use Rattle.rb_jobs.specs.SeatHelpers.{IsAt}
use Rattle.rb_jobs.proofs.Lists.{zip_at, zip_length}
use Rattle.rb_run_commands.specs.DrainedRings.{DrainsRing, IsConsumerOf}
use Rattle.rb_run_commands.proofs.Draining.{drained_all, drained_more, left_at, left_behind}
use Rattle.rb_run_commands.proofs.drained_rings.drain_rings.Goals as goal

pub bounds-seats-number : goal.bounds-seats-number
bounds-seats-number g c = omega (arith, zip_length IsAt _ _ c.requires.seats, c.loop-number.auto.seats, c.loop-number-test.true)

pub bounds-consumers-number : goal.bounds-consumers-number
bounds-consumers-number g c = omega (arith, zip_length IsConsumerOf _ _ c.requires.consumers, c.loop-number.auto.consumers, c.loop-number-test.true)

pub drain_ring-requires-clause-seat : goal.drain_ring-requires-clause-seat
drain_ring-requires-clause-seat g c =
    let n = c.loop-number.number in
    let seats = zip_length IsAt _ _ c.requires.seats in
    let now : n < length c.loop-number.seats = omega (arith, seats, c.loop-number.auto.seats, c.loop-number-test.true) in
    let then : n < length c.args.seats.now = omega (arith, seats, c.loop-number-test.true) in
    subst (λ seat. IsAt c.index-rings-number.result seat) (sym (left_at _ _ n c.index-seats-number.result now then c.loop-number.invariant.seats_left))
    (subst (λ ring. IsAt ring (get_or c.args.seats.now n c.index-seats-number.result)) (sym c.index-rings-number.is) (zip_at IsAt _ _ _ _ _ c.requires.seats c.loop-number-test.true))

pub drain_ring-requires-clause-consumer : goal.drain_ring-requires-clause-consumer
drain_ring-requires-clause-consumer g c =
    let n = c.loop-number.number in
    let consumers = zip_length IsConsumerOf _ _ c.requires.consumers in
    let now : n < length c.loop-number.consumers = omega (arith, consumers, c.loop-number.auto.consumers, c.loop-number-test.true) in
    let then : n < length c.args.consumers.now = omega (arith, consumers, c.loop-number-test.true) in
    subst (λ consumer. IsConsumerOf c.index-rings-number.result consumer) (sym (left_at _ _ n c.index-consumers-number.result now then c.loop-number.invariant.consumers_left))
    (subst (λ ring. IsConsumerOf ring (get_or c.args.consumers.now n c.index-consumers-number.result)) (sym c.index-rings-number.is) (zip_at IsConsumerOf _ _ _ _ _ c.requires.consumers c.loop-number-test.true))

pub loop-number-preserved : goal.loop-number-preserved
loop-number-preserved g c =
    let n = c.loop-number.number in
    let before = c.loop-number.invariant in
    let test = c.loop-number-test.true in
    let seats = zip_length IsAt _ _ c.requires.seats in
    let consumers = zip_length IsConsumerOf _ _ c.requires.consumers in
    let seat = c.index-seats-number.result in
    let consumer = c.index-consumers-number.result in
    let seat_now : n < length c.loop-number.seats = omega (arith, seats, c.loop-number.auto.seats, test) in
    let seat_then : n < length c.args.seats.now = omega (arith, seats, test) in
    let consumer_now : n < length c.loop-number.consumers = omega (arith, consumers, c.loop-number.auto.consumers, test) in
    let consumer_then : n < length c.args.consumers.now = omega (arith, consumers, test) in
    record {
      seats_left = left_behind _ _ n seat _ seat_now seat_then before.seats_left;
      consumers_left = left_behind _ _ n consumer _ consumer_now consumer_then before.consumers_left;
      drained = drained_more (λ ring. ring.items) _ _ n _ before.drained seat consumer _ _ seat_then consumer_then c.in-Ok.ensures.items
          (subst (λ s. DrainsRing s (get_or c.args.consumers.now n consumer) c.in_ok-ring.ring.items) (left_at _ _ n seat seat_now seat_then before.seats_left)
          (subst (λ k. DrainsRing (get_or c.loop-number.seats n seat) k c.in_ok-ring.ring.items) (left_at _ _ n consumer consumer_now consumer_then before.consumers_left) c.in_ok-ring.ensures.drained));
    }

pub returns : goal.returns
returns g c =
    let test = c.loop-number-test.false in
    let seats : length c.args.seats.now ≤ c.loop-number.number = omega (arith, zip_length IsAt _ _ c.requires.seats, test) in
    let consumers : length c.args.consumers.now ≤ c.loop-number.number = omega (arith, zip_length IsConsumerOf _ _ c.requires.consumers, test) in
    record { drained = drained_all (λ ring. ring.items) _ _ _ _ c.loop-number.invariant.drained seats consumers }
