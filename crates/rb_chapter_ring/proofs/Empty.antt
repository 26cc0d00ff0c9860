-- The first chapter of a new ring satisfies the invariant.
use Rattle.std.proofs.Common.{ℕ, ◌≡◌, List, [], refl, sym, subst, arith}
use Rattle.rb_history.specs.declared.entries.Entry.{Entry}
use Rattle.rb_history.specs.RoomRule.{Setup}
use Rattle.rb_history.proofs.Laws.{kept-none}
use Rattle.rb_chapter_ring.specs.Snapshot.{Snapshot}
use Rattle.rb_chapter_ring.specs.Chapters.{empty_ring, first_chapter}
use Rattle.rb_chapter_ring.specs.WholeHistory.{IsKept}
use Rattle.rb_chapter_ring.proofs.Join.{empty-is}
use Rattle.rb_chapter_ring.proofs.Room.{none-legal}

pub empty-kept : (room : ℕ) (r : Setup) → IsKept [] (first_chapter room r)
empty-kept room r = record {
  continues = record {
    earlier_legal = (kept-none r).legal;
    opened = empty-is r;
    legal = none-legal (empty_ring r) [] refl;
  };
  room = omega arith;
}

-- by its opening and its entries
pub empty-as : (room : ℕ) (r : Setup) (o : Snapshot) (es : List Entry) → o ≡ empty_ring r → es ≡ [] → IsKept [] (record { number = 0; room = room; opening = o; entries = es })
empty-as room r o es opened none =
    subst (IsKept []) (λ i. record { number = 0; room = room; opening = sym opened i; entries = sym none i }) (empty-kept room r)
