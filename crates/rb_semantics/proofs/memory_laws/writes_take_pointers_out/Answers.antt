use Rattle.rb_semantics.proofs.MemoryLaws.{left_over}
use Rattle.rb_semantics.proofs.memory_laws.writes_take_pointers_out.Goals as goal

pub returns : goal.returns
returns c = left_over
