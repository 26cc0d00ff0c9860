use Rattle.rb_chapter_ring.proofs.HandCalls.{each-call-keeps-hands, in-hand-is-busy, book-is-whole}
use Rattle.rb_chapter_ring.proofs.hand_laws.each_call_keeps_hands.Goals as goal

pub returns : goal.returns
returns c = record { calls = each-call-keeps-hands; busy = in-hand-is-busy; whole = book-is-whole }
