use Rattle.heskavo_c.proofs.TapesLeft.{next_record, one_stands}
use Rattle.heskavo_c.proofs.run_tapes.push_tape.Goals as goal

pub push_record-requires-clause-stands : goal.push_record-requires-clause-stands
push_record-requires-clause-stands c = one_stands c.args.size 0 c.args.records.now c.loop-taken.taken-index c.taken-item.result c.taken-item.is c.loop-taken-test.true c.requires.follow

pub loop-taken-preserved : goal.loop-taken-preserved
loop-taken-preserved c =
    next_record c.args.size c.args.records.now c.loop-taken.taken-index c.taken-item.result c.taken-item.is c.loop-taken-test.true _ _ _ c.loop-taken.invariant c.in_ok-push_record.ensures.bytes
