use Rattle.std.proofs.Common.{◌≡◌, ◌<◌, arith, [], ◌∷◌, ◌++◌, sym, ◌∙◌, ap, refl}
use Rattle.std.proofs.lemmas.List.Elements.{All-push}
use Rattle.rb_history.specs.declared.entries.Entry.TheVariants.{Res}
use Rattle.rb_history.specs.declared.stored_records.StoredRecord.{StoredRecord}
use Rattle.rb_history.specs.declared.stored_records.RecordState.TheVariants.{Reserved}
use Rattle.rb_history.specs.History.{grants}
use Rattle.rb_history.specs.RoomRule.{HasRoomFor}
use Rattle.rb_history.specs.StoredRecords.{IsSized}
use Rattle.rb_history.proofs.Settling.{kept-grant, owed-push, on-ok}
use Rattle.rb_history.proofs.Contents.{contents-push}
use Rattle.rb_history.proofs.Tallies.{tally-grant, grants-low, serial-is}
use Rattle.rb_for_tests.specs.inner.ListRingBody.{list_ring_setup}
use Rattle.rb_for_tests.proofs.plain_ring.PlainRing.grant.Goals as goal

pub overflow_add-serial : goal.overflow_add-serial
overflow_add-serial c =
    let a = c.self.inside in
    let i = c.self.invariant in
    let known : c.args.worker < a.workers = rw (← c.self.view_is) at c.requires.worker in
    omega (arith, serial-is a.serials.items a.history.items a.workers c.args.worker c.index-serial.result.now i.tallied known c.index-serial.ensures, grants-low c.args.worker a.history.items, i.kept.producer_is, i.limit)

known : (c : goal.After-self-3-1) → c.args.worker < c.self.inside.workers
known c = rw (← c.self.view_is) at c.requires.worker

serial_is : (c : goal.After-self-3-1) → c.index-serial.result.now ≡ grants c.args.worker c.self.inside.history.items
serial_is c =
    let a = c.self.inside in
    serial-is a.serials.items a.history.items a.workers c.args.worker c.index-serial.result.now c.self.invariant.tallied (known c) c.index-serial.ensures

room_is : (c : goal.After-self-3-1) → HasRoomFor (list_ring_setup c.self.inside) c.self.inside.history.items c.args.n
room_is c = rw (← c.self.view_is) at (c.has_room.ensures.test.0 c.if-not-has_room.false)

newest : goal.After-self-3-1 → StoredRecord
newest c = record { pos = c.self.inside.producer; len = c.args.n; worker = c.args.worker; serial = c.index-serial.result.now; state = Reserved }

pub invariant_of-self-2 : goal.invariant_of-self-2
unfolding newest
invariant_of-self-2 c =
    let a = c.self.inside in
    let i = c.self.invariant in
    let room = room_is c in
    let owed = owed-push a.records.items (newest c) refl in
    record {
      size = i.size;
      start = i.start;
      workers = i.workers;
      limit = omega (arith, room.limit, i.kept.producer_is, c.span.ensures.value);
      space = omega (arith, room.space, i.kept.producer_is, i.kept.consumer_is, c.span.ensures.value);
      kept = rw (c.push_reserved.ensures.items, c.reserve.ensures.items, c.push_last.ensures.items, c.reserve-else-is_err.ensures.items, c.span.ensures.value)
          (kept-grant (list_ring_setup a) a.history.items a.records.items a.producer a.consumer c.args.worker c.index-serial.result.now c.args.n i.kept (known c) (serial_is c) room);
      sized = rw (c.push_last.ensures.items, c.reserve-else-is_err.ensures.items) (All-push IsSized a.records.items (newest c) i.sized tt);
      tallied = rw (c.push_reserved.ensures.items, c.reserve.ensures.items)
          (tally-grant a.serials.items a.history.items a.workers c.args.worker c.index-serial.result.now c.args.n a.producer (known c) (serial_is c ∙ sym (i.tallied.each c.args.worker (known c))) i.tallied);
      owed_is = rw (c.push_last.ensures.items, c.reserve-else-is_err.ensures.items) (omega (arith, i.owed_is, owed));
      room = omega (
        arith,
        c.reserve.ensures.len,
        c.push_reserved.ensures.len,
        c.push_reserved.ensures.capacity,
        on-ok c.reserve.result _ c.is_err.result c.if-is_err.false c.is_err.ensures.value c.reserve.ensures.ok,
      );
    }

pub returns-clause-granted : goal.returns-clause-granted
unfolding newest
returns-clause-granted c =
    let a = c.self.inside in
    let k = c.self.invariant.kept in
    rw (← c.self.view_is) (record {
      room = room_is c;
      position = k.producer_is;
      serial = serial_is c;
      logged = record { setup_same = refl; history_is = c.push_reserved.ensures.items ∙ ap (λ l. l ++ Res c.args.worker c.index-serial.result.now c.args.n a.producer ∷ []) c.reserve.ensures.items };
      contents_same = rw (c.push_last.ensures.items, c.reserve-else-is_err.ensures.items) (contents-push a.records.items (newest c) refl);
    })
