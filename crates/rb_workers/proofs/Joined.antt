-- The parts of rings, and the opened rings that have these parts.
use Rattle.std.proofs.Common.{◌≡◌, ◌∙◌, ℕ, zero, suc, ◌+◌, ◌<◌, List, [], ◌∷◌, ◌++◌, length, length-append, get_or, map, refl, ap, arith}
use Rattle.std.proofs.lemmas.List.Elements.{All-cons}
use Rattle.std.specs.Prelude.{All}
use Rattle.std.specs.List.{AllZip}
use Rattle.rb_ledger.specs.Seats.{Shared, WorkerSeat}
use Rattle.rb_workers.specs.declared.consumer_task.ConsumerTask.{ConsumerTask}
use Rattle.rb_workers.specs.declared.opened.Opened.{Opened}
use Rattle.rb_workers.specs.inner.ConsumerTasks.{HasSameParts, IsConsumerTaskOf, joined_ring, joined_rings, returned_rows}
use Rattle.rb_workers.specs.Opened.{IsOpened}
use Rattle.rb_workers.specs.SeatRows.{seat_rows}
use Rattle.rb_workers.proofs.Parts.{all_first, all_rest}

pub joined_length : {S : Type 0} (rings : List Shared) (tasks : List (ConsumerTask S)) → length rings ≡ length tasks → length (joined_rings rings tasks) ≡ length tasks
joined_length [] [] len = refl
joined_length [] (t ∷ tasks) len = absurd (omega arith)
joined_length (r ∷ rings) [] len = absurd (omega arith)
joined_length (r ∷ rings) (t ∷ tasks) len = let more = joined_length rings tasks (omega arith) in omega arith

pub rings_joined : {S : Type 0} (rings : List Shared) (tasks : List (ConsumerTask S)) → length rings ≡ length tasks → map (λ o. o.ring) (joined_rings rings tasks) ≡ rings
rings_joined [] [] len = refl
rings_joined [] (t ∷ tasks) len = absurd (omega arith)
rings_joined (r ∷ rings) [] len = absurd (omega arith)
rings_joined (r ∷ rings) (t ∷ tasks) len = ap (λ l. r ∷ l) (rings_joined rings tasks (omega arith))

pub rows_joined : {S : Type 0} (rings : List Shared) (tasks : List (ConsumerTask S)) → length rings ≡ length tasks → seat_rows (joined_rings rings tasks) ≡ returned_rows tasks
rows_joined [] [] len = refl
rows_joined [] (t ∷ tasks) len = absurd (omega arith)
rows_joined (r ∷ rings) [] len = absurd (omega arith)
rows_joined (r ∷ rings) (t ∷ tasks) len = ap (λ l. t.returned_seats.items ∷ l) (rows_joined rings tasks (omega arith))

pub long_joined : {S : Type 0} (count : ℕ) (rings : List Shared) (tasks : List (ConsumerTask S)) → length rings ≡ length tasks → All (λ t. length t.returned_seats.items ≡ count) tasks
    → All (λ o. length o.seats.items ≡ count) (joined_rings rings tasks)
long_joined count [] [] len all = λ k d below. absurd (omega arith)
long_joined count [] (t ∷ tasks) len all = absurd (omega arith)
long_joined count (r ∷ rings) [] len all = absurd (omega arith)
long_joined {S} count (r ∷ rings) (t ∷ tasks) len all =
    let Long = λ (u : ConsumerTask S). length u.returned_seats.items ≡ count in
    All-cons (λ (o : Opened S). length o.seats.items ≡ count) (joined_ring r t) (joined_rings rings tasks)
    (all_first Long (t ∷ tasks) tasks t refl all)
    (long_joined count rings tasks (omega arith) (all_rest Long (t ∷ tasks) tasks t refl all))

-- one more ring at the end
pub joined_push : {S : Type 0} (rings : List Shared) (tasks : List (ConsumerTask S)) (ring : Shared) (t : ConsumerTask S) → length rings ≡ length tasks
    → joined_rings (rings ++ ring ∷ []) (tasks ++ t ∷ []) ≡ joined_rings rings tasks ++ joined_ring ring t ∷ []
joined_push [] [] ring t len = refl
joined_push [] (u ∷ tasks) ring t len = absurd (omega arith)
joined_push (r ∷ rings) [] ring t len = absurd (omega arith)
joined_push (r ∷ rings) (u ∷ tasks) ring t len = ap (λ l. joined_ring r u ∷ l) (joined_push rings tasks ring t (omega arith))

-- the last of each
pub joined_pop : {S : Type 0} (rings front : List Shared) (tasks others : List (ConsumerTask S)) (ring : Shared) (t : ConsumerTask S) → rings ≡ front ++ ring ∷ [] → tasks ≡ others ++ t ∷ [] → length rings ≡ length tasks
    → joined_rings rings tasks ≡ joined_rings front others ++ joined_ring ring t ∷ []
joined_pop {S} rings front tasks others ring t rings_are tasks_are len =
    let r : length rings ≡ length front + 1 = ap length rings_are ∙ length-append front (ring ∷ []) in
    let n : length tasks ≡ length others + 1 = ap length tasks_are ∙ length-append others (t ∷ []) in
    ap (λ l. joined_rings l tasks) rings_are ∙ (ap (λ (l : List (ConsumerTask S)). joined_rings (front ++ ring ∷ []) l) tasks_are ∙ joined_push front others ring t (omega (arith, r, n, len)))

-- a relation that holds ring by ring
pub joined_each : {S : Type 0} (R : Opened S → Opened S → Type 0) (rings : List Shared) (olds news : List (ConsumerTask S)) → length rings ≡ length olds → length news ≡ length olds
    → ((k : ℕ) (r : Shared) (d : ConsumerTask S) → k < length olds → R (joined_ring (get_or rings k r) (get_or olds k d)) (joined_ring (get_or rings k r) (get_or news k d)))
    → AllZip R (joined_rings rings olds) (joined_rings rings news)
joined_each R [] [] [] len more each = tt
joined_each R [] [] (n ∷ news) len more each = absurd (omega arith)
joined_each R [] (o ∷ olds) news len more each = absurd (omega arith)
joined_each R (r ∷ rings) [] news len more each = absurd (omega arith)
joined_each R (r ∷ rings) (o ∷ olds) [] len more each = absurd (omega arith)
joined_each R (r ∷ rings) (o ∷ olds) (n ∷ news) len more each =
    (each 0 r o (omega arith), joined_each R rings olds news (omega arith) (omega arith) (λ k s d below. each (suc k) s d (omega arith)))

-- the parts of an opened ring become part of it again
abbrev pub IsMergedInto : {S : Type 0} → ConsumerTask S → Opened S → Type 0
IsMergedInto t o = (o.consumer ≡ t.consumer) × (o.sink ≡ t.sink) × (o.keeper ≡ t.keeper)

pub merged_into : {S : Type 0} (rings : List Shared) (ended back : List (ConsumerTask S)) → length rings ≡ length back → AllZip HasSameParts ended back → AllZip IsMergedInto ended (joined_rings rings back)
merged_into [] [] [] len same = tt
merged_into [] [] (b ∷ back) len same = absurd same
merged_into [] (e ∷ ended) [] len same = absurd same
merged_into [] (e ∷ ended) (b ∷ back) len same = absurd (omega arith)
merged_into (r ∷ rings) [] [] len same = absurd (omega arith)
merged_into (r ∷ rings) [] (b ∷ back) len same = absurd same
merged_into (r ∷ rings) (e ∷ ended) [] len same = absurd same
merged_into (r ∷ rings) (e ∷ ended) (b ∷ back) len same = (same.0, merged_into rings ended back (omega arith) same.1)

-- the tasks of rings that may be run again may consume
pub joined_ready : {S : Type 0} (position : S → ℕ) (count : ℕ) (rings : List Shared) (tasks : List (ConsumerTask S)) → length rings ≡ length tasks → All (IsOpened position count) (joined_rings rings tasks)
    → AllZip (IsConsumerTaskOf position) rings tasks
joined_ready position count [] [] len all = tt
joined_ready position count [] (t ∷ tasks) len all = absurd (omega arith)
joined_ready position count (r ∷ rings) [] len all = absurd (omega arith)
joined_ready position count (r ∷ rings) (t ∷ tasks) len all =
    let first = all_first (IsOpened position count) (joined_ring r t ∷ joined_rings rings tasks) (joined_rings rings tasks) (joined_ring r t) refl all in (
      (first.consumer_tag, first.consumer_at, first.sink_follows, first.keeper_fits),
      joined_ready position count rings tasks (omega arith) (all_rest (IsOpened position count) (joined_ring r t ∷ joined_rings rings tasks) (joined_rings rings tasks) (joined_ring r t) refl all),
    )
