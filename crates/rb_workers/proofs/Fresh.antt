-- A ring that was just opened may be run.
use Rattle.std.proofs.Common.{List, ◌≡◌, ℕ, zero, suc, ◌+◌, [], ◌∷◌, ◌++◌, false, map, refl, ap, sym, ◌∙◌, subst, arith}
use Rattle.std.specs.Prelude.{All}
use Rattle.std.proofs.lemmas.List.Elements.{All-cons}
use Rattle.atomic_table.specs.Seated.{TableId}
use Rattle.rb_ledger.specs.Roles.{Book}
use Rattle.rb_history.specs.WorkerCounts.{numbers_below}
use Rattle.rb_chapter_ring.specs.Chapters.{empty_chapter}
use Rattle.rb_ledger.specs.Seats.{Shared, HasSettledAll, WorkerSeat, fresh_book, fresh_seat, fresh_seats}
use Rattle.rb_ledger.specs.ChapterSeats.{ChapterConsumerSeat, fresh_chapter_consumer}
use Rattle.rb_consumer.specs.Keepers.{KeeperValue, handed_in}
use Rattle.rb_jobs.specs.SeatHelpers.{IsAt}
use Rattle.rb_workers.specs.declared.opened.Opened.{Opened}
use Rattle.rb_workers.specs.Opened.{AreOpened, IsOpened}
use Rattle.rb_workers.proofs.Numbered.{seats_length}
use Rattle.rb_workers.proofs.Parts.{all_first}

-- one more worker at the end
last_worker : (tag : ℕ) (ring : TableId) (room : ℕ) (seen : Book) (first n : ℕ) → map (λ (s : WorkerSeat). s.worker) (fresh_seats tag ring room seen first (suc n)) ≡ map (λ (s : WorkerSeat). s.worker) (fresh_seats tag ring room seen first n) ++ (first + n) ∷ []
last_worker tag ring room seen first zero = let e : first ≡ first + 0 = omega arith in ap (λ k. k ∷ []) e
last_worker tag ring room seen first (suc n) =
    let rest = last_worker tag ring room seen (first + 1) n in
    let e : first + 1 + n ≡ first + suc n = omega arith in
    ap (λ l. first ∷ l) (rest ∙ ap (λ k. map (λ (s : WorkerSeat). s.worker) (fresh_seats tag ring room seen (first + 1) n) ++ k ∷ []) e)

fresh_numbers : (tag : ℕ) (ring : TableId) (room : ℕ) (seen : Book) (n : ℕ) → map (λ (s : WorkerSeat). s.worker) (fresh_seats tag ring room seen 0 n) ≡ numbers_below n
fresh_numbers tag ring room seen zero = refl
fresh_numbers tag ring room seen (suc n) = last_worker tag ring room seen 0 n ∙ (λ i. fresh_numbers tag ring room seen n i ++ zero_plus n i ∷ [])
  where
    zero_plus : (n : ℕ) → 0 + n ≡ n
    zero_plus n = omega arith

fresh_at : (shared : Shared) (room : ℕ) (seen : Book) (first n : ℕ) → All (IsAt shared) (fresh_seats shared.tag shared.ring room seen first n)
fresh_at shared room seen first zero = λ k d below. absurd (omega arith)
fresh_at shared room seen first (suc n) = All-cons (IsAt shared) (fresh_seat shared.tag shared.ring room first seen) (fresh_seats shared.tag shared.ring room seen (first + 1) n) (refl, refl) (fresh_at shared room seen (first + 1) n)

pub fresh_opened : {S : Type 0} (position : S → ℕ) (tag size start workers room margin : ℕ) (o : Opened S) → o.ring.tag ≡ tag → o.seats.items ≡ fresh_seats tag o.ring.ring room (fresh_book size start workers) 0 workers
    → o.consumer ≡ fresh_chapter_consumer tag o.ring.ring room (fresh_book size start workers) → o.keeper ≡ record { chapter = empty_chapter room workers; margin = margin; is_lent = false }
    → position o.sink ≡ start → IsOpened position workers o
fresh_opened position tag size start workers room margin o tagged seats consumer keeper begins =
    let book = fresh_book size start workers in
    record {
      numbered = ap (map (λ (s : WorkerSeat). s.worker)) seats ∙ fresh_numbers tag o.ring.ring room book workers;
      seats_at = subst (All (IsAt o.ring)) (sym seats) (subst (λ t. All (IsAt o.ring) (fresh_seats t o.ring.ring room book 0 workers)) tagged (fresh_at o.ring room book 0 workers));
      as_many = ap (λ (c : ChapterConsumerSeat). c.seen.setup.workers) consumer;
      consumer_tag = ap (λ (c : ChapterConsumerSeat). c.tag) consumer ∙ sym tagged;
      consumer_at = ap (λ (c : ChapterConsumerSeat). c.ring) consumer;
      keeper_fits = record {
        no_entries = ap (λ (k : KeeperValue). (handed_in k).entries) keeper;
        room_same = ap (λ (k : KeeperValue). (handed_in k).room) keeper ∙ sym (ap (λ (c : ChapterConsumerSeat). c.room) consumer);
        workers_same = ap (λ (k : KeeperValue). (handed_in k).opening.setup.workers) keeper ∙ sym (ap (λ (c : ChapterConsumerSeat). c.seen.setup.workers) consumer);
      };
      sink_follows = begins ∙ sym (ap (λ (c : ChapterConsumerSeat). c.position) consumer);
    }

-- rings for the same workers may be run together
pub all_opened : {S : Type 0} (position : S → ℕ) (count : ℕ) (opened : List (Opened S)) → All (IsOpened position count) opened → AreOpened position opened
all_opened position count [] all = λ k d below. absurd (omega arith)
all_opened position count (o ∷ more) all =
    subst (λ n. All (IsOpened position n) (o ∷ more)) (sym (seats_length position count o (all_first (IsOpened position count) (o ∷ more) more o refl all))) all

-- seats that have made no record
pub fresh_settled : (tag : ℕ) (ring : TableId) (room : ℕ) (seen : Book) (first n : ℕ) → All HasSettledAll (fresh_seats tag ring room seen first n)
fresh_settled tag ring room seen first zero = λ k d below. absurd (omega arith)
fresh_settled tag ring room seen first (suc n) = All-cons HasSettledAll (fresh_seat tag ring room first seen) (fresh_seats tag ring room seen (first + 1) n) refl (fresh_settled tag ring room seen (first + 1) n)
