use Rattle.std.proofs.Common.{◌≤◌, List, ℕ, length, refl, sym, subst}
use Rattle.heskavo_c.proofs.EngineTakes.{event-fits, busy-same, empty-same}
use Rattle.heskavo_c.proofs.engine_records.take_fitting.Goals as goal

pub put_front-requires : goal.put_front-requires
put_front-requires c = record {
  fits =
      let low : length c.in-Event.sheet ≤ length c.args.buffer.now = event-fits c.args.ring (length c.args.buffer.now) c.args.engine.now.rings c.in-Event.position c.in-Event.field-1 c.in-Event.field-2 c.in-Event.sheet c.requires.fits c.in-Event.ensures.front in
      subst (λ (bytes : List ℕ). length bytes ≤ length c.args.buffer.now) (sym c.bytes-bytes.ensures) low;
}

pub returns-in-BusyFront-clause-unchanged : goal.returns-in-BusyFront-clause-unchanged
returns-in-BusyFront-clause-unchanged c = λ _. (busy-same c.args.ring c.args.engine.now c.take.new.self c.in-BusyFront.ensures.programs c.in-BusyFront.ensures.ctx_len c.in-BusyFront.ensures.taken, refl, refl)

pub returns-in-Empty-clause-unchanged : goal.returns-in-Empty-clause-unchanged
returns-in-Empty-clause-unchanged c = λ _. (empty-same c.args.ring c.args.engine.now c.take.new.self c.in-Empty.ensures.programs c.in-Empty.ensures.ctx_len c.in-Empty.ensures.taken, refl, refl)
