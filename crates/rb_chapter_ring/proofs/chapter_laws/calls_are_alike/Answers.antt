use Rattle.rb_chapter_ring.proofs.Alike.{stands-alike, calls-alike}
use Rattle.rb_chapter_ring.proofs.chapter_laws.calls_are_alike.Goals as goal

pub returns : goal.returns
returns c = record { stands = stands-alike; calls = calls-alike }
