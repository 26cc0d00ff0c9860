use Rattle.std.proofs.Common.{rules, Ok}
use Rattle.rb_program.proofs.FirstFaults.{only_program, only_fault}
use Rattle.rb_program.proofs.codec.decode.Goals as goal

pub returns-in_err-units-clause-only_program : goal.returns-in_err-units-clause-only_program
returns-in_err-units-clause-only_program c =
    only_program c.args.bytes.now c.from_residual.result (record { bounds = search rules; spelled = search rules; fault = search rules })

pub returns-in_err-units-clause-only_fault : goal.returns-in_err-units-clause-only_fault
returns-in_err-units-clause-only_fault c =
    only_fault c.args.bytes.now c.from_residual.result (record { bounds = search rules; spelled = search rules; fault = search rules })

pub returns-clause-only_program : goal.returns-clause-only_program
returns-clause-only_program c =
    only_program c.args.bytes.now (Ok c.from_units.result) (record { bounds = search rules; spelled = search rules; fault = tt })

pub returns-clause-only_fault : goal.returns-clause-only_fault
returns-clause-only_fault c =
    only_fault c.args.bytes.now (Ok c.from_units.result) (record { bounds = search rules; spelled = search rules; fault = tt })
