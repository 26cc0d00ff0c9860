-- A ring's seats at its opening are its own.
use Rattle.std.proofs.Common.{List, ◌≡◌, ℕ, zero, suc, ◌+◌, ◌<◌, [], ◌∷◌, refl, ap, sym, ◌∙◌, subst, arith}
use Rattle.std.specs.Prelude.{All}
use Rattle.std.proofs.lemmas.List.Elements.{All-cons}
use Rattle.rb_ledger.specs.Roles.{Book}
use Rattle.rb_ledger.specs.Seats.{Shared, WorkerSeat, fresh_seat, fresh_seats}
use Rattle.rb_ledger.specs.ChapterSeats.{ChapterConsumerSeat, fresh_chapter_consumer}
use Rattle.rb_ring_rows.specs.SharedPlaces.{IsOwnSeat, AreOwnSeats}

fresh_own : (ring : Shared) (room : ℕ) (seen : Book) (first n : ℕ) → AreOwnSeats ring (fresh_seats ring.tag ring.ring room seen first n)
fresh_own ring room seen first zero = λ k d below. absurd (omega arith)
fresh_own ring room seen first (suc n) = All-cons (IsOwnSeat ring) (fresh_seat ring.tag ring.ring room first seen) (fresh_seats ring.tag ring.ring room seen (first + 1) n) (refl, refl) (fresh_own ring room seen (first + 1) n)

pub opened_own : (ring : Shared) (tag room : ℕ) (seen : Book) (workers : ℕ) (seats : List WorkerSeat) → ring.tag ≡ tag → seats ≡ fresh_seats tag ring.ring room seen 0 workers
    → AreOwnSeats ring seats
opened_own ring tag room seen workers seats same are =
    subst (AreOwnSeats ring) (sym (are ∙ ap (λ t. fresh_seats t ring.ring room seen 0 workers) (sym same))) (fresh_own ring room seen 0 workers)

pub opened_consumer : (ring : Shared) (tag room : ℕ) (seen : Book) (seat : ChapterConsumerSeat) → ring.tag ≡ tag → seat ≡ fresh_chapter_consumer tag ring.ring room seen
    → (seat.tag ≡ ring.tag) × (seat.ring ≡ ring.ring)
opened_consumer ring tag room seen seat same is = (ap (λ s. s.tag) is ∙ sym same, ap (λ s. s.ring) is)
