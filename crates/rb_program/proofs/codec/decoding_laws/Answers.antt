use Rattle.rb_program.proofs.FirstFaults.{spelled_no_fault, one_first_fault}
use Rattle.rb_program.proofs.codec.decoding_laws.Goals as goal

pub returns-clause-no_fault : goal.returns-clause-no_fault
returns-clause-no_fault c = spelled_no_fault

pub returns-clause-unique : goal.returns-clause-unique
returns-clause-unique c = one_first_fault
