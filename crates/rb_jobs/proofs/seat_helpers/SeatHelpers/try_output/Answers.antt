use Rattle.std.proofs.Common.{◌≡◌, ◌<◌, Err, None, ap, arith, rules, length, refl}
use Rattle.rb_jobs.specs.declared.no_record.NoRecord.TheVariants.{NoSheet}
use Rattle.rb_jobs.specs.SeatHelpers.{AtSeats}
use Rattle.rb_jobs.proofs.ChapterTries.{needs-memory, sheet-not-hands}
use Rattle.rb_jobs.proofs.OneSeat.{is_seat, seat_there, stays_at, at_seat, at_same, sends_as}
use Rattle.rb_jobs.proofs.seat_helpers.SeatHelpers.try_output.Goals as goal

pub returns-in_err-sheet-clause-seat : goal.returns-in_err-sheet-clause-seat
returns-in_err-sheet-clause-seat g c =
    let below : c.args.ring < length c.self.inside.rings.now = search rules in
    let why : c.from_residual.result ≡ Err NoSheet = search rules in
    let none : c.copied_sheet.result ≡ None = search rules in
    let long = needs-memory c.copied_sheet.result (length c.args.bytes.now) c.copied_sheet.ensures.short none in
    λ few. sends_as c.args.bytes.now c.args.bytes.now c.args.flags _ _ (Err NoSheet) _ _ refl why
    (at_same _ c.args.self.now _ _ _ (ap (λ (h : AtSeats). h.seats) c.self.view_is) c.self.invariant.0 below (λ s. ((long, refl), sheet-not-hands)))

pub index_mut-requires : goal.index_mut-requires
index_mut-requires g c =
    let below : c.args.ring < length c.self.inside.rings.now = search rules in
    let seat = is_seat _ _ c.args.ring c.self.invariant.0 below in omega (arith, seat, c.self.inside.seats.ok.0)

pub output_at-requires-clause-at_ring : goal.output_at-requires-clause-at_ring
output_at-requires-clause-at_ring g c =
    let below : c.args.ring < length c.self.inside.rings.now = search rules in
    seat_there _ _ _ _ _ c.self.invariant.0 below c.index_mut.ensures.value

pub invariant_of-self : goal.invariant_of-self
invariant_of-self g c = (stays_at _ _ _ _ _ c.self.invariant.0 c.index_mut.ensures.value c.output_at.ensures.seat, c.self.invariant.1, c.self.invariant.2, c.self.invariant.3)

pub returns-clause-seat : goal.returns-clause-seat
returns-clause-seat g c =
    let below : c.args.ring < length c.self.inside.rings.now = search rules in
    let copied : c.in_ok-sheet.sheet ≡ c.args.bytes.now = search rules in
    λ few. sends_as c.args.bytes.now c.in_ok-sheet.sheet c.args.flags _ _ _ _ _ copied refl
    (at_seat _ c.args.self.now _ _ _ _ _ (ap (λ (h : AtSeats). h.seats) c.self.view_is) c.self.invariant.0 below c.index_mut.ensures.value c.output_at.ensures.answer)
