use Rattle.std.proofs.Common.{arith}
use Rattle.rb_tape.proofs.TapeFronts.{no_item_at_fault, one_fault}
use Rattle.rb_tape.proofs.ItemsRead.{begins, fed, goes_on, is_longest}
use Rattle.rb_tape.proofs.longest_list.reading_gives_the_longest_list.Goals as goal

pub returns-clause-begins : goal.returns-clause-begins
returns-clause-begins c = begins

pub returns-clause-item : goal.returns-clause-item
returns-clause-item c = goes_on

pub returns-clause-longest : goal.returns-clause-longest
returns-clause-longest c size start input items position rest s h stops = is_longest size start input items position rest (let low = s.1 in omega arith) s.2 h stops

pub returns-clause-no_item_at_fault : goal.returns-clause-no_item_at_fault
returns-clause-no_item_at_fault c size position bytes kind item rest s = no_item_at_fault size position bytes kind item rest (let low = s.1 in omega arith) s.2

pub returns-clause-one_fault : goal.returns-clause-one_fault
returns-clause-one_fault c = one_fault

pub returns-clause-piece : goal.returns-clause-piece
returns-clause-piece c = fed
