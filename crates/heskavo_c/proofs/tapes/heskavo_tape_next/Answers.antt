use Rattle.heskavo_c.proofs.TapeLooks.{undecided, fault_found}
use Rattle.heskavo_c.proofs.tapes.heskavo_tape_next.Goals as goal

pub returns-then-number-eq0-clause-more : goal.returns-then-number-eq0-clause-more
returns-then-number-eq0-clause-more c =
    λ _. undecided c.args.size c.args.position c.args.bytes.now c.in-Ok.tape c.next.new.self c.in-Some-Err.field-0 c.in-Some-Err.fault c.number_of_fault-number.result
    c.in-Ok.ensures.opened c.in-Some-Err.field-0-is c.number_of_fault-number.ensures c.if-number-eq0.true c.in-Some-Err.ensures.steps

pub returns-else-number-eq0-clause-fault : goal.returns-else-number-eq0-clause-fault
returns-else-number-eq0-clause-fault c =
    λ _. fault_found c.args.size c.args.position c.args.bytes.now c.in-Ok.tape c.next.new.self c.in-Some-Err.field-0 c.in-Some-Err.fault c.number_of_fault-number.result
    c.in-Ok.ensures.opened c.in-Some-Err.field-0-is c.number_of_fault-number.ensures c.if-number-eq0.false c.in-Some-Err.ensures.steps
