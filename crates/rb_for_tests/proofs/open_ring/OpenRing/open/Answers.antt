use Rattle.std.proofs.Common.{◌≡◌, ℕ, zero, suc, ◌+◌, refl, sym, ap, subst}
use Rattle.std.specs.List.{All}
use Rattle.std.proofs.lemmas.List.Elements.{All-nil, All-cons}
use Rattle.rb_ledger.specs.Roles.{Book}
use Rattle.rb_ledger.specs.Seats.{Shared, WorkerSeat, fresh_seat, fresh_seats}
use Rattle.rb_ledger.specs.ChapterSeats.{ChapterConsumerSeat}
use Rattle.rb_for_tests.proofs.open_ring.OpenRing.open.Goals as goal

module _ (ring : Shared) (tag room : ℕ) (b : Book) where
  abbrev IsOwn : WorkerSeat → Type 0
  IsOwn s = s.ring ≡ ring.ring

  -- fresh seats belong to their ring
  fresh-own : (first n : ℕ) → All IsOwn (fresh_seats tag ring.ring room b first n)
  fresh-own first zero = All-nil IsOwn
  fresh-own first (suc n) = All-cons IsOwn (fresh_seat tag ring.ring room first b) (fresh_seats tag ring.ring room b (first + 1) n) refl (fresh-own (first + 1) n)

pub returns-clause-own : goal.returns-clause-own
returns-clause-own g c = record {
  seats = subst (All (λ (s : WorkerSeat). s.ring ≡ c.in_ok-ring.ring.ring)) (sym c.in_ok-ring.ensures.seats) (fresh-own c.in_ok-ring.ring _ _ _ _ _);
  consumer = ap (λ (s : ChapterConsumerSeat). s.ring) c.in_ok-ring.ensures.consumer;
}
