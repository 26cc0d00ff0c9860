use Rattle.rb_semantics.proofs.MemoryLaws.{unread}
use Rattle.rb_semantics.proofs.memory_laws.pointers_are_not_read.Goals as goal

pub returns : goal.returns
returns c = unread
