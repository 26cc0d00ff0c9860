use Rattle.std.proofs.Common.{◌∙◌, ◌≤◌, List, arith, drop, length, subst, sym, take}
use Rattle.rb_ledger.specs.Seats.{WorkerSeat}
use Rattle.rb_jobs.specs.SeatHelpers.{AtRings}
use Rattle.rb_stream_worker.specs.ContextRuns.{RunsContexts}
use Rattle.rb_stream_worker.specs.Turns.{FindsRoomInEach}
use Rattle.rb_stream_worker.specs.declared.when_full.WhenFull.{WhenFull}
use Rattle.rb_stream_worker.specs.declared.when_full.WhenFull.TheVariants.{Refuse}
use Rattle.rb_stream_worker.proofs.TakenTurns.{all_still_at, lent_whole, part_length, stopped_turn, turn_taken}
use Rattle.rb_stream_worker.proofs.stream_worker.StreamWorker.take_turn.Goals as goal

pub returns-then-self-clause-ran : goal.returns-then-self-clause-ran
returns-then-self-clause-ran g c =
    let part = c.requires.part in
    let some = part.0 in
    stopped_turn c.args.self.now.full.now c.args.self.now.number c.args.self.now.programs.now c.args.piece.now.contexts c.args.from c.args.to c.args.self.now.seats.items c.args.self.now.counts c.leave.new.self
    (omega (arith, some)) part.1 c.leave.ensures

pub run_at_once-requires-clause-ready : goal.run_at_once-requires-clause-ready
run_at_once-requires-clause-ready g c =
    let w = c.args.self.now in
    let news = c.wait_for_all.new.seats in
    let found : FindsRoomInEach c.args.turns.now.limits.items w.seats.items news =
    subst (λ (l : List _). FindsRoomInEach l w.seats.items news) c.deref.ensures.value (subst (λ (s : List WorkerSeat). FindsRoomInEach c.deref.result.now s news) c.deref_mut.ensures.value c.wait_for_all.ensures.found)
    in
    let lent = lent_whole w.seats.len news w.seats.items (found.0 ∙ sym w.seats.ok.0) in
    record {
      at_rings = subst (AtRings w.rings.now) (sym lent) (all_still_at c.args.turns.now.limits.items w.rings.now w.seats.items news c.requires.ready.at_rings found);
      programs_fit = c.requires.ready.programs_fit;
      one_each = c.requires.ready.one_each;
      limits_fit = c.requires.ready.limits_fit;
    }

pub returns-clause-ran : goal.returns-clause-ran
returns-clause-ran g c =
    let w = c.args.self.now in
    let t = c.args.turns.now in
    let after = c.run_at_once.new.self in
    let news = c.wait_for_all.new.seats in
    let part = drop c.args.from (take c.args.to c.args.piece.now.contexts) in
    let inside = c.requires.part in
    let some = inside.0 in
    let most = inside.2 in
    let found : FindsRoomInEach t.limits.items w.seats.items news =
    subst (λ (l : List _). FindsRoomInEach l w.seats.items news) c.deref.ensures.value (subst (λ (s : List WorkerSeat). FindsRoomInEach c.deref.result.now s news) c.deref_mut.ensures.value c.wait_for_all.ensures.found)
    in
    let lent = lent_whole w.seats.len news w.seats.items (found.0 ∙ sym w.seats.ok.0) in
    let long = part_length c.args.piece.now.contexts c.args.from c.args.to (omega (arith, some)) inside.1 in
    let few : length part ≤ t.contexts = omega (arith, long, most) in
    let ran = subst (λ (s : List WorkerSeat). RunsContexts Refuse w.number w.programs.now part s after.seats.items w.counts after.counts) lent c.run_at_once.ensures.ran in
    subst (λ (f : WhenFull). RunsContexts f w.number w.programs.now part w.seats.items after.seats.items w.counts after.counts) (sym c.requires.turns)
    (turn_taken t w.number w.programs.now part w.seats.items news after.seats.items w.counts after.counts found few ran)
