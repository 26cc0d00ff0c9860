use Rattle.std.proofs.Common.{append_assoc}
use Rattle.rb_waiting.proofs.waiting_sizes.push_none.Goals as goal

pub returns-in-Words : goal.returns-in-Words
returns-in-Words c = record { added = rw c.in-Words.is (simp append_assoc c.write.ensures.bytes) }

pub returns-in-Json : goal.returns-in-Json
returns-in-Json c = record { added = rw c.in-Json.is (simp append_assoc c.write-in-Json.ensures.bytes) }
