use Rattle.rb_semantics.proofs.MemoryLaws.{stored_found}
use Rattle.rb_semantics.proofs.memory_laws.pointers_stored_are_found.Goals as goal

pub returns : goal.returns
returns c = stored_found
