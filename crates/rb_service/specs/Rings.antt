-- The rings of a service: which plans are wrong, and how rings are opened (own).
use Rattle.std.specs.Prelude.{◌≡◌, ◌<◌, ℕ, false, List, length}
use Rattle.std.specs.List.{AllWithin, HoldsAt}
use Rattle.rb_history.specs.RingModel.{IsRingSize}
use Rattle.rb_chapter_ring.specs.Chapters.{empty_chapter}
use Rattle.rb_ledger.specs.ChapterSeats.{fresh_chapter_consumer}
use Rattle.rb_ledger.specs.Seats.{fresh_book, fresh_seats}
use Rattle.rb_workers.specs.ChapterSizes.{margin_of, room_of}
use Rattle.rb_workers.specs.declared.opened.Opened.{Opened}
use Rattle.rb_service.specs.declared.rings.RingPlan.{RingPlan}

-- the ring with this number is the first whose size no ring may have
pub record IsFirstWrong {S : Type 0} (plans : List (RingPlan S)) (number : ℕ) : Type 0 where
  pub below : number < length plans
  pub wrong : HoldsAt (λ p. ¬ IsRingSize p.size) plans number
  pub right_before : AllWithin (λ p. IsRingSize p.size) plans 0 number

-- the ring was just opened at the position of the plan's sink, with its size and for this number of workers
pub record IsFreshFor {S : Type 0} (position : S → ℕ) (workers : ℕ) (plan : RingPlan S) (o : Opened S) : Type 0 where
  pub seats_are : o.seats.items ≡ fresh_seats o.ring.tag o.ring.ring (room_of plan.size) (fresh_book plan.size (position plan.sink) workers) 0 workers
  pub consumer_is : o.consumer ≡ fresh_chapter_consumer o.ring.tag o.ring.ring (room_of plan.size) (fresh_book plan.size (position plan.sink) workers)
  pub keeper_is : o.keeper ≡ record { chapter = empty_chapter (room_of plan.size) workers; margin = margin_of plan.size; is_lent = false }
  pub sink_is : o.sink ≡ plan.sink
