-- Rings that were opened one after another.
use Rattle.std.proofs.Common.{◌≡◌, ℕ, zero, suc, ◌+◌, false, List, [], ◌∷◌, refl, sym, subst, arith}
use Rattle.std.specs.Prelude.{All}
use Rattle.std.specs.List.{AllZip}
use Rattle.std.proofs.lemmas.List.Elements.{All-cons, All-nil}
use Rattle.atomic_table.specs.Seated.{TableId}
use Rattle.rb_chapter_ring.specs.Chapters.{empty_chapter}
use Rattle.rb_ledger.specs.ChapterSeats.{fresh_chapter_consumer}
use Rattle.rb_ledger.specs.Seats.{fresh_book, fresh_seat, fresh_seats}
use Rattle.rb_workers.specs.ChapterSizes.{margin_of, room_of}
use Rattle.rb_workers.specs.declared.opened.Opened.{Opened}
use Rattle.rb_workers.specs.Opened.{AreOpened, IsOpened}
use Rattle.rb_workers.specs.SeatRows.{seat_rows}
use Rattle.rb_workers.proofs.Numbered.{seats_length}
use Rattle.rb_waiting.specs.NoneRefused.{HasNotAsked}
use Rattle.rb_service.specs.Rings.{IsFreshFor}
use Rattle.rb_service.specs.declared.rings.RingPlan.{RingPlan}

-- a ring that was opened with the plan's size, at its sink's position, and with the room and margin of that size, is fresh for the plan
pub fresh_for : {S : Type 0} (position : S → ℕ) (workers room margin tag start : ℕ) (plan : RingPlan S) (o : Opened S) → start ≡ position plan.sink → room ≡ room_of plan.size → margin ≡ margin_of plan.size → o.ring.tag ≡ tag
    → o.seats.items ≡ fresh_seats tag o.ring.ring room (fresh_book plan.size start workers) 0 workers
    → o.consumer ≡ fresh_chapter_consumer tag o.ring.ring room (fresh_book plan.size start workers)
    → o.keeper ≡ record { chapter = empty_chapter room workers; margin = margin; is_lent = false }
    → o.sink ≡ plan.sink → IsFreshFor position workers plan o
fresh_for position workers room margin tag start plan o start_is room_is margin_is tag_is seats consumer keeper sink =
    let book = fresh_book plan.size start workers in
    let book_is = λ (n : ℕ). fresh_book plan.size n workers in
    record {
      seats_are = subst (λ n. o.seats.items ≡ fresh_seats o.ring.tag o.ring.ring (room_of plan.size) (book_is n) 0 workers) start_is
          (subst (λ m. o.seats.items ≡ fresh_seats o.ring.tag o.ring.ring m book 0 workers) room_is (subst (λ t. o.seats.items ≡ fresh_seats t o.ring.ring room book 0 workers) (sym tag_is) seats));
      consumer_is = subst (λ n. o.consumer ≡ fresh_chapter_consumer o.ring.tag o.ring.ring (room_of plan.size) (book_is n)) start_is
          (subst (λ m. o.consumer ≡ fresh_chapter_consumer o.ring.tag o.ring.ring m book) room_is (subst (λ t. o.consumer ≡ fresh_chapter_consumer t o.ring.ring room book) (sym tag_is) consumer));
      keeper_is = subst (λ m. o.keeper ≡ record { chapter = empty_chapter (room_of plan.size) workers; margin = m; is_lent = false }) margin_is
          (subst (λ m. o.keeper ≡ record { chapter = empty_chapter m workers; margin = margin; is_lent = false }) room_is keeper);
      sink_is = sink;
    }

-- rings that were opened for the same number of workers may be run together
pub all_opened : {S : Type 0} (position : S → ℕ) (workers : ℕ) (opened : List (Opened S)) → All (IsOpened position workers) opened → AreOpened position opened
all_opened position workers [] all = All-nil (IsOpened position 0)
all_opened position workers (o ∷ more) all =
    let first : IsOpened position workers o = all 0 o (omega arith) in
    subst (λ n. All (IsOpened position n) (o ∷ more)) (sym (seats_length position workers o first)) all

-- ---- seats of rings that were just opened

fresh_unasked : (tag : ℕ) (ring : TableId) (room size start workers first n : ℕ) → All HasNotAsked (fresh_seats tag ring room (fresh_book size start workers) first n)
fresh_unasked tag ring room size start workers first zero = All-nil HasNotAsked
fresh_unasked tag ring room size start workers first (suc n) =
    All-cons HasNotAsked (fresh_seat tag ring room first (fresh_book size start workers)) (fresh_seats tag ring room (fresh_book size start workers) (first + 1) n) refl (fresh_unasked tag ring room size start workers (first + 1) n)

pub all_unasked : {S : Type 0} (position : S → ℕ) (workers : ℕ) (plans : List (RingPlan S)) (opened : List (Opened S)) → AllZip (IsFreshFor position workers) plans opened → All (All HasNotAsked) (seat_rows opened)
all_unasked position workers [] [] fresh = All-nil (All HasNotAsked)
all_unasked position workers (p ∷ plans) (o ∷ opened) fresh =
    All-cons (All HasNotAsked) o.seats.items (seat_rows opened)
    (subst (All HasNotAsked) (sym fresh.0.seats_are) (fresh_unasked o.ring.tag o.ring.ring (room_of p.size) p.size (position p.sink) workers 0 workers))
    (all_unasked position workers plans opened fresh.1)
all_unasked position workers [] (o ∷ opened) fresh = absurd fresh
all_unasked position workers (p ∷ plans) [] fresh = absurd fresh
