use Rattle.rb_tape_commands.proofs.PayloadReads.{length_read}
use Rattle.rb_tape_commands.proofs.payloads.read_length.Goals as goal

pub returns-in-4 : goal.returns-in-4
returns-in-4 g c = (c.number_of.type_inv, length_read _ _ c.read_full.new.buf c.in-Ok.count c.number_of.result c.read_full.auto.buf c.in-4.is c.number_of.ensures c.in-Ok.ensures.bytes)
