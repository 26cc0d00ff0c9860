use Rattle.rb_for_tests.proofs.plain_ring.PlainRing.notice.Goals as goal

pub returns : goal.returns
returns c = record { due = rw (← c.self.view_is, ← c.self.invariant.kept.consumer_is) c.notice_for.ensures.due }
