use Rattle.rb_semantics.proofs.MemoryLaws.{stored_zeros}
use Rattle.rb_semantics.proofs.memory_laws.pointers_stored_leave_zeros.Goals as goal

pub returns : goal.returns
returns c = stored_zeros
