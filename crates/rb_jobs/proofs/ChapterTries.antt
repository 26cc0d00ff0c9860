-- A ring that was called repeatedly because its chapter was full: all calls together are like the last one.
use Rattle.std.proofs.Common.{◌≡◌, ◌≢◌, ℕ, ◌+◌, ◌<◌, ◌≤◌, Bool, List, [], ◌∷◌, ◌++◌, length, Option, Some, None, refl, ap, sym, ◌∙◌, subst, arith, length-append}
use Rattle.std.specs.Prelude.{IsSome}
use Rattle.rb_history.specs.RingModel.{Ring}
use Rattle.rb_chapter_ring.specs.declared.faults.ReserveFault.{ReserveFault}
use Rattle.rb_chapter_ring.specs.declared.faults.ReserveFault.TheVariants.{Full, Flags, ChapterFull, Foreign, HandsFull}
use Rattle.rb_chapter_ring.specs.Hands.{AreAllOut}
use Rattle.rb_chapter_ring.specs.HandGranted.{HandGranted}
use Rattle.rb_ledger.specs.Roles.{Book, book_of, ExtendsSeen}
use Rattle.rb_ledger.specs.Roles.Role.{Worker}
use Rattle.rb_ledger.specs.Seats.{Shared, WorkerSeat, IsSameSeat}
use Rattle.rb_ledger.specs.LockedCalls.{LockedCall}
use Rattle.rb_ledger.proofs.Histories.{goes-further}
use Rattle.rb_jobs.specs.declared.no_record.NoRecord.{NoRecord}
use Rattle.rb_jobs.specs.declared.no_record.NoRecord.TheVariants.{NoSheet, Refused}
use Rattle.rb_jobs.specs.SeatCalls.{FindsChapterFullEach, SeatFindsChapterFull, SeatFindsFull, SeatGivesUp, SeatIsGranted, SeatOutputs, chapter_tries}
use Rattle.rb_jobs.specs.SeatHelpers.{IsAt}
use Rattle.rb_jobs.specs.inner.CallAnswers.{SeatFails, SeatFailsOnce}

-- the seat, with what it has seen now
abbrev seen_now : WorkerSeat → Book → ℕ → WorkerSeat
seen_now b seen cut = record b { seen = seen; cut = cut }

module _ (n : ℕ) (b : WorkerSeat) (seen : Book) (cut : ℕ) (full : SeatFindsChapterFull n b (seen_now b seen cut)) where
  -- a call after one that found the chapter full, seen from before both
  call-after : (after : Book) (call : Ring → Ring → Type 0) → LockedCall (Worker b.worker) seen after call → LockedCall (Worker b.worker) b.seen after call
  call-after after call t =
      let first = full.0 in
      let there : seen ≡ book_of first.point = first.seen ∙ ap book_of first.called.called.same in
      let further : ExtendsSeen (Worker b.worker) (book_of first.point) (book_of t.point) = subst (λ x. ExtendsSeen (Worker b.worker) x (book_of t.point)) there t.goes_on in
      record {
        point = t.point;
        left = t.left;
        goes_on = goes-further (Worker b.worker) b.seen (book_of first.point) (book_of t.point) further.behind first.goes_on further.setup_same further.history_is further.none_own;
        was_ring = t.was_ring;
        called = t.called;
        is_ring = t.is_ring;
        seen = t.seen;
      }

  granted-after : (r : HandGranted) (a : WorkerSeat) → SeatIsGranted n r (seen_now b seen cut) a → SeatIsGranted n r b a
  granted-after r a granted = (call-after a.seen _ granted.0, granted.1, granted.2, granted.3, granted.4)

  full-after : (a : WorkerSeat) → SeatFindsFull n (seen_now b seen cut) a → SeatFindsFull n b a
  full-after a found = (call-after a.seen _ found.0, found.1)

  chapter-after : (a : WorkerSeat) → SeatFindsChapterFull n (seen_now b seen cut) a → SeatFindsChapterFull n b a
  chapter-after a found = (call-after a.seen _ found.0, found.1)

  output-after : (bytes : List ℕ) (flags : ℕ) (due : Bool) (a : WorkerSeat) → SeatOutputs bytes flags due (seen_now b seen cut) a → SeatOutputs bytes flags due b a
  output-after bytes flags due a sent = call-after a.seen _ sent

-- the same for the seat itself
module _ (n : ℕ) (b m : WorkerSeat) (full : SeatFindsChapterFull n b m) where
  known : SeatFindsChapterFull n b (seen_now b m.seen m.cut)
  known = subst (λ s. SeatFindsChapterFull n b s) full.1 full

  granted-later : (r : HandGranted) (a : WorkerSeat) → SeatIsGranted n r m a → SeatIsGranted n r b a
  granted-later r a granted = granted-after n b m.seen m.cut known r a (subst (λ s. SeatIsGranted n r s a) full.1 granted)

  full-later : (a : WorkerSeat) → SeatFindsFull n m a → SeatFindsFull n b a
  full-later a found = full-after n b m.seen m.cut known a (subst (λ s. SeatFindsFull n s a) full.1 found)

  chapter-later : (a : WorkerSeat) → SeatFindsChapterFull n m a → SeatFindsChapterFull n b a
  chapter-later a found = chapter-after n b m.seen m.cut known a (subst (λ s. SeatFindsChapterFull n s a) full.1 found)

  output-later : (bytes : List ℕ) (flags : ℕ) (due : Bool) (a : WorkerSeat) → SeatOutputs bytes flags due m a → SeatOutputs bytes flags due b a
  output-later bytes flags due a sent = output-after n b m.seen m.cut known bytes flags due a (subst (λ s. SeatOutputs bytes flags due s a) full.1 sent)

  hands-same : m.hands ≡ b.hands
  hands-same = ap (λ (s : WorkerSeat). s.hands) full.1

-- ---- call after call

-- all calls that found the chapter full, together
all-full : (n : ℕ) (b m : WorkerSeat) (ms : List WorkerSeat) (a : WorkerSeat) → SeatFindsChapterFull n b m → FindsChapterFullEach n m ms a → SeatFindsChapterFull n b a
all-full n b m [] a full each = subst (λ s. SeatFindsChapterFull n b s) (sym each) full
all-full n b m (s ∷ ss) a full each = all-full n b s ss a (chapter-later n b m full s each.0) each.1

each-more : (n : ℕ) (b : WorkerSeat) (ms : List WorkerSeat) (m a : WorkerSeat) → FindsChapterFullEach n b ms m → SeatFindsChapterFull n m a → FindsChapterFullEach n b (ms ++ a ∷ []) a
each-more n b [] m a each found = (subst (λ s. SeatFindsChapterFull n s a) each found, refl)
each-more n b (s ∷ ss) m a each found = (each.0, each-more n s ss m a each.1 found)

-- the chapter was full at each of the calls so far; the seat's hands are as before, and it is at its ring
pub record FullSoFar (n calls : ℕ) (entry now : WorkerSeat) : Type 0 where
  pub behind : List WorkerSeat
  pub as_often : length behind ≡ calls
  pub each : FindsChapterFullEach n entry behind now
  pub same : IsSameSeat entry now
  pub hands : now.hands ≡ entry.hands

pub none-so-far : (n : ℕ) (entry : WorkerSeat) → FullSoFar n 0 entry entry
none-so-far n entry = record { behind = []; as_often = refl; each = refl; same = record { tag_same = refl; ring_same = refl; room_same = refl; worker_same = refl }; hands = refl }

pub same-on : (b m a : WorkerSeat) → IsSameSeat b m → IsSameSeat m a → IsSameSeat b a
same-on b m a first second = record {
  tag_same = second.tag_same ∙ first.tag_same;
  ring_same = second.ring_same ∙ first.ring_same;
  room_same = second.room_same ∙ first.room_same;
  worker_same = second.worker_same ∙ first.worker_same;
}

pub one-more-full : (n calls : ℕ) (entry m a : WorkerSeat) → FullSoFar n calls entry m → IsSameSeat m a → SeatFindsChapterFull n m a → FullSoFar n (calls + 1) entry a
one-more-full n calls entry m a so_far same found =
    let often = so_far.as_often in
    record {
      behind = so_far.behind ++ a ∷ [];
      as_often = omega (arith, length-append so_far.behind (a ∷ []), often);
      each = each-more n entry so_far.behind m a so_far.each found;
      same = same-on entry m a so_far.same same;
      hands = hands-same n m a found ∙ so_far.hands;
    }

pub still-at : (ring : Shared) (entry m : WorkerSeat) → IsAt ring entry → IsSameSeat entry m → IsAt ring m
still-at ring entry m at same = (same.tag_same ∙ at.0, same.ring_same ∙ at.1)

-- ---- the result of the last call

-- the result was this fault
pub found-full : (n : ℕ) (fault : ReserveFault) (m a : WorkerSeat) → fault ≡ ChapterFull → SeatFailsOnce n fault m a → SeatFindsChapterFull n m a
found-full n fault m a is fails = subst (λ f. SeatFailsOnce n f m a) is fails

-- the worker gave up
pub gave-up : (n calls : ℕ) (entry now : WorkerSeat) → calls ≡ chapter_tries → FullSoFar n calls entry now → SeatGivesUp n entry now
gave-up n calls entry now last so_far = all-together so_far.behind so_far.as_often so_far.each where
  all-together : (behind : List WorkerSeat) → length behind ≡ calls → FindsChapterFullEach n entry behind now → SeatGivesUp n entry now
  all-together [] often each = absurd (omega (arith, often, last))
  all-together (m ∷ ms) often each = record { behind_each = m ∷ ms; as_often = often ∙ last; each = each; at_last = all-full n entry m ms now each.0 each.1 }

module _ (n calls : ℕ) (entry m : WorkerSeat) (so_far : FullSoFar n calls entry m) where
  -- what holds from the start of the last call holds from the start of the first
  from-first : (a : WorkerSeat) (P : WorkerSeat → Type 0) → ((s : WorkerSeat) → SeatFindsChapterFull n s m → P m → P s) → P m → P entry
  from-first a P later holds = of so_far.behind so_far.each where
    of : (behind : List WorkerSeat) → FindsChapterFullEach n entry behind m → P entry
    of [] each = subst P each holds
    of (s ∷ ss) each = later entry (all-full n entry s ss m each.0 each.1) holds

  pub granted-at-last : (r : HandGranted) (a : WorkerSeat) → SeatIsGranted n r m a → SeatIsGranted n r entry a
  granted-at-last r a granted = from-first a (λ s. SeatIsGranted n r s a) (λ s full. granted-later n s m full r a) granted

  pub fails-at-last : (fault : ReserveFault) (a : WorkerSeat) → (0 < calls → ¬ AreAllOut entry.hands) → fault ≢ ChapterFull → SeatFailsOnce n fault m a → SeatFails n (Refused fault) entry a
  fails-at-last Full a free other fails = from-first a (λ s. SeatFindsFull n s a) (λ s full. full-later n s m full a) fails
  fails-at-last ChapterFull a free other fails = absurd (other refl)
  fails-at-last Flags a free other fails = fails
  fails-at-last Foreign a free other fails = fails
  fails-at-last HandsFull a free other fails = of so_far.behind so_far.as_often so_far.each where
    of : (behind : List WorkerSeat) → length behind ≡ calls → FindsChapterFullEach n entry behind m → AreAllOut entry.hands × (a ≡ entry)
    of [] often each = subst (λ s. AreAllOut s.hands × (a ≡ s)) each fails
    of (s ∷ ss) often each = absurd (free (omega (arith, often)) (subst AreAllOut so_far.hands fails.0))

pub not-hands : (fault : ReserveFault) → fault ≢ HandsFull → ◌≢◌ {A = NoRecord} (Refused fault) (Refused HandsFull)
not-hands fault other is = other (cc)

module _ (bytes : List ℕ) (flags calls : ℕ) (entry m : WorkerSeat) (so_far : FullSoFar (length bytes) calls entry m) where
  pub sent-at-last : (due : Bool) (a : WorkerSeat) → SeatOutputs bytes flags due m a → SeatOutputs bytes flags due entry a
  sent-at-last due a sent = from-first (length bytes) calls entry m so_far a (λ s. SeatOutputs bytes flags due s a) (λ s full. output-later (length bytes) s m full bytes flags due a) sent

  not-sent : (fault : ReserveFault) (a : WorkerSeat) → fault ≢ ChapterFull → SeatFailsOnce (length bytes) fault m a × (fault ≢ HandsFull) → SeatFails (length bytes) (Refused fault) entry a
  not-sent Full a other fails = from-first (length bytes) calls entry m so_far a (λ s. SeatFindsFull (length bytes) s a) (λ s full. full-later (length bytes) s m full a) fails.0
  not-sent ChapterFull a other fails = absurd (other refl)
  not-sent Flags a other fails = fails.0
  not-sent Foreign a other fails = fails.0
  not-sent HandsFull a other fails = absurd (fails.1 refl)

  pub not-sent-at-last : (fault : ReserveFault) (a : WorkerSeat) → fault ≢ ChapterFull → SeatFailsOnce (length bytes) fault m a × (fault ≢ HandsFull)
      → SeatFails (length bytes) (Refused fault) entry a × ◌≢◌ {A = NoRecord} (Refused fault) (Refused HandsFull)
  not-sent-at-last fault a other fails = (not-sent fault a other fails, not-hands fault fails.1)

pub gave-up-sending : (n calls : ℕ) (entry now : WorkerSeat) → calls ≡ chapter_tries → FullSoFar n calls entry now → SeatGivesUp n entry now × ◌≢◌ {A = NoRecord} (Refused ChapterFull) (Refused HandsFull)
gave-up-sending n calls entry now last so_far = (gave-up n calls entry now last so_far, λ is. cc)

-- ---- a sheet that can't be allocated

above : (n : ℕ) → ¬ (n ≤ 16) → 16 < n
above n many = omega (arith, many)

-- one of up to 16 bytes always can
pub needs-memory : {X : Type 0} (sheet : Option X) (n : ℕ) → (n ≤ 16 → IsSome sheet) → sheet ≡ None → 16 < n
needs-memory None n short none = above n (λ few. let some = short few in cc)
needs-memory (Some x) n short none = absurd (cc)

pub sheet-not-hands : ◌≢◌ {A = NoRecord} NoSheet (Refused HandsFull)
sheet-not-hands is = cc
