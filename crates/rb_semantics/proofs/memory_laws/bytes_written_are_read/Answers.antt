use Rattle.rb_semantics.proofs.MemoryLaws.{written_read}
use Rattle.rb_semantics.proofs.memory_laws.bytes_written_are_read.Goals as goal

pub returns : goal.returns
returns c = written_read
