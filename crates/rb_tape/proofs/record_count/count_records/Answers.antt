use Rattle.std.proofs.Common.{inl, inr}
use Rattle.rb_tape.proofs.RecordsCounted.{none_counted, one_more, counted_all, counted_to}
use Rattle.rb_tape.proofs.record_count.count_records.Goals as goal

pub loop-answer-init : goal.loop-answer-init
loop-answer-init c = rw c.in_ok-tape.ensures.opened (none_counted c.args.size c.args.start c.args.bytes.now c.in_ok-tape.ensures.allowed.0)

pub loop-answer-preserved : goal.loop-answer-preserved
loop-answer-preserved c =
    let steps = rw c.in-Ok.is at c.in-Some.ensures.steps in
    one_more c.args.size c.args.start c.args.bytes.now c.loop-answer.count c.loop-answer.tape c.next.new.self _ c.loop-answer.invariant steps.1

pub returns-in-Err-clause-counted : goal.returns-in-Err-clause-counted
returns-in-Err-clause-counted c =
    let steps = rw c.in-Err.is at c.in-Some.ensures.steps in
    counted_to c.args.size c.args.start c.args.bytes.now c.loop-answer.count c.loop-answer.tape c.in-Err.fault c.loop-answer.invariant steps.1 steps.2

pub returns-clause-counted : goal.returns-clause-counted
returns-clause-counted c = elim c.in_default.ensures.steps.0 [
  | inl over ↦ absurd (over c.loop-answer.invariant.told)
  | inr none ↦ counted_all c.args.size c.args.start c.args.bytes.now c.loop-answer.count c.loop-answer.tape c.loop-answer.invariant none
]
