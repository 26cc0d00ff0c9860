use Rattle.rb_chapter_ring.proofs.BusyEntries.{book-goes-on}
use Rattle.rb_chapter_ring.proofs.FourHands.{book-begins-free, at-most-four-busy}
use Rattle.rb_chapter_ring.proofs.hand_laws.book_goes_on.Goals as goal

pub returns : goal.returns
returns c = record { begins = book-begins-free; entries = book-goes-on; at_most_four = at-most-four-busy }
