-- Lanes whose workers got their seats, and returned them.
use Rattle.std.proofs.Common.{◌≡◌, ℕ, suc, ◌<◌, List, [], ◌∷◌, length, get_or, map, refl, ap, sym, ◌∙◌, subst, arith}
use Rattle.std.specs.List.{All}
use Rattle.rb_verifier.specs.Subject.{Subject}
use Rattle.rb_ledger.specs.Seats.{Shared}
use Rattle.rb_jobs.specs.SeatHelpers.{AtRings}
use Rattle.rtrb.specs.Ring.{IsPair, received}
use Rattle.rb_dealing.specs.Queues.{AreEmptyQueues, AreFeedsOf}
use Rattle.rb_dealing.specs.Streams.{RunsStream}
use Rattle.rb_dealing.specs.declared.reader.Dealt.{Dealt}
use Rattle.rb_dealing.specs.declared.lane.Lane.{Lane}
use Rattle.rb_workers.specs.declared.workers.Worker.{Worker}
use Rattle.rb_stream_worker.specs.ContextRuns.{IsNewCounts, IsProgramFor, IsReadyWorker, WorkerRuns}
use Rattle.rb_stream_worker.specs.declared.stream_counts.StreamCounts.{StreamCounts}
use Rattle.rb_stream_worker.specs.Turns.{FitsRings}
use Rattle.rb_stream_worker.specs.declared.stream_worker.StreamWorker.{StreamWorker}
use Rattle.rb_stream_worker.specs.declared.when_full.WhenFull.{WhenFull}
use Rattle.rb_stream.specs.declared.lanes.Lanes.{Lanes}
use Rattle.rb_stream.specs.inner.Lanes.{AreNewLanes, SwapsSeats}
use Rattle.rb_stream.specs.inner.Counts.{AddsCounts, SameTables}
use Rattle.rb_stream.specs.inner.Runs.{StreamRan, seats_of}
use Rattle.rb_stream.proofs.Counted.{IsStarted, counts_in, element_of, same_tables_at, stream_ran}
use Rattle.rb_stream.proofs.Streams.{seats_of_at}

-- ---- seats that were moved in

module _ {R K : Type 0} (rings : List Shared) (programs : List Subject) (full : WhenFull) (ctx_len bound : ℕ) (fresh : Lanes R K) (olds news : List Worker) (later : List (Lane (StreamWorker R K)))
    (made : AreNewLanes (length olds) rings programs full ctx_len bound fresh) (many : length later ≡ length fresh.lanes.items) (swapped : SwapsSeats olds news fresh.lanes.items later) where
  -- the lane as it was made, except for the seats
  lane_at : (k : ℕ) (d : Lane (StreamWorker R K)) → k < length later → (w : Worker) × (get_or later k d ≡ record (get_or fresh.lanes.items k d) { worker = record (get_or fresh.lanes.items k d).worker { seats = (get_or olds k w).seats } })
  lane_at k d below =
      let w = element_of olds k (omega (arith, below, many, made.as_many)) in
      (w, (swapped k w d (omega (arith, below, many))).1)

  pub started_at : (k : ℕ) (d : Lane (StreamWorker R K)) → k < length later → IsStarted k programs full bound (seats_of olds k) (get_or later k d).worker
  started_at k d below =
      let one = lane_at k d below in
      let e = one.1 in
      let inside : k < length olds = omega (arith, below, many, made.as_many) in
      let new = made.new k d inside in
      record {
        number_is = ap (λ (l : Lane (StreamWorker R K)). l.worker.number) e ∙ new.number_is;
        programs_are = ap (λ (l : Lane (StreamWorker R K)). l.worker.programs.now) e ∙ new.programs_are;
        full_is = ap (λ (l : Lane (StreamWorker R K)). l.worker.full.now) e ∙ new.full_is;
        seats_are = ap (λ (l : Lane (StreamWorker R K)). l.worker.seats.items) e ∙ sym (seats_of_at olds k one.0 inside);
        none_counted = subst (IsNewCounts (length programs) bound) (sym (ap (λ (l : Lane (StreamWorker R K)). l.worker.counts) e)) new.nothing_counted;
      }

  pub rings_at : (k : ℕ) (d : Lane (StreamWorker R K)) → k < length later → (get_or later k d).worker.rings.now ≡ rings
  rings_at k d below = ap (λ (l : Lane (StreamWorker R K)). l.worker.rings.now) (lane_at k d below).1 ∙ (made.new k d (omega (arith, below, many, made.as_many))).rings_are

  pub ready_at : All (λ w. AtRings rings w.seats.items) olds → All (IsProgramFor (length rings) ctx_len) programs → FitsRings full (length rings) → All (λ lane. IsReadyWorker lane.worker) later
  ready_at seats fit limits k d below =
      let one = lane_at k d below in
      let e = one.1 in
      let inside : k < length olds = omega (arith, below, many, made.as_many) in
      let new = made.new k d inside in
      let rs = rings_at k d below in
      let ps : (get_or later k d).worker.programs.now ≡ programs = ap (λ (l : Lane (StreamWorker R K)). l.worker.programs.now) e ∙ new.programs_are in
      let len : (get_or later k d).worker.ctx_len ≡ ctx_len = ap (λ (l : Lane (StreamWorker R K)). l.worker.ctx_len) e ∙ new.length_is in
      let own : (get_or later k d).worker.seats.items ≡ (get_or olds k one.0).seats.items = ap (λ (l : Lane (StreamWorker R K)). l.worker.seats.items) e in
      let counts : length (get_or later k d).worker.counts.results.items ≡ length programs = ap (λ (l : Lane (StreamWorker R K)). length l.worker.counts.results.items) e ∙ new.nothing_counted.as_many in
      record {
        at_rings = subst (λ (r : List Shared). AtRings r (get_or later k d).worker.seats.items) (sym rs) (subst (AtRings rings) (sym own) (seats k one.0 inside));
        programs_fit =
            subst (λ (r : List Shared). All (IsProgramFor (length r) (get_or later k d).worker.ctx_len) (get_or later k d).worker.programs.now) (sym rs)
            (subst (λ (n : ℕ). All (IsProgramFor (length rings) n) (get_or later k d).worker.programs.now) (sym len)
            (subst (All (IsProgramFor (length rings) ctx_len)) (sym ps) fit));
        one_each = counts ∙ sym (ap length ps);
        limits_fit =
            let own_full : (get_or later k d).worker.full.now ≡ full = ap (λ (l : Lane (StreamWorker R K)). l.worker.full.now) e ∙ new.full_is in
            subst (λ (r : List Shared). FitsRings (get_or later k d).worker.full.now (length r)) (sym rs) (subst (λ (f : WhenFull). FitsRings f (length rings)) (sym own_full) limits);
      }

  pub pairs_at : AreFeedsOf fresh.feeds.items later
  pairs_at = (
    made.pairs.0 ∙ sym many,
    λ k d e below.
        subst (λ q. IsPair (get_or fresh.feeds.items k d).pieces q) (sym (ap (λ (l : Lane (StreamWorker R K)). l.pieces) (lane_at k e below).1)) (made.pairs.1 k d e (omega (arith, below, many))),
  )

  pub empty_at : AreEmptyQueues fresh.feeds.items later
  empty_at k d e below =
      let none = made.empty k d e (omega (arith, below, many)) in
      (none.0, ap (λ (l : Lane (StreamWorker R K)). received l.pieces) (lane_at k e below).1 ∙ none.1)

-- ---- seats that were moved out

module _ {R K : Type 0} (olds news : List Worker) (lanes later : List (Lane (StreamWorker R K))) (as_many : length olds ≡ length lanes) (now_many : length news ≡ length olds) (swapped : SwapsSeats olds news lanes later) where
  pub ended_at : (k : ℕ) (d : Lane (StreamWorker R K)) → k < length lanes → (get_or lanes k d).worker.seats.items ≡ seats_of news k
  ended_at k d below =
      let w = element_of olds k (omega (arith, below, as_many)) in
      sym (seats_of_at news k w (omega (arith, below, as_many, now_many)) ∙ ap (λ (x : Worker). x.seats.items) (swapped k w d below).0)

  -- the workers in the lanes have the same counts
  pub counts_at : (k : ℕ) (d : Lane (StreamWorker R K)) → k < length lanes → (get_or later k d).worker.counts ≡ (get_or lanes k d).worker.counts
  counts_at k d below =
      let w = element_of olds k (omega (arith, below, as_many)) in
      ap (λ (l : Lane (StreamWorker R K)). l.worker.counts) (swapped k w d below).1

-- lists with equal elements
same_maps : {A B : Type 0} (f : A → B) (xs ys : List A) → length xs ≡ length ys → ((k : ℕ) (d : A) → k < length ys → f (get_or xs k d) ≡ f (get_or ys k d)) → map f xs ≡ map f ys
same_maps f [] [] len each = refl
same_maps f [] (y ∷ ys) len each = absurd (omega (arith, len))
same_maps f (x ∷ xs) [] len each = absurd (omega (arith, len))
same_maps f (x ∷ xs) (y ∷ ys) len each = λ i. each 0 x (omega arith) i ∷ same_maps f xs ys (omega (arith, len)) (λ k d below. each (suc k) d (omega (arith, below))) i

pub counts_same : {R K : Type 0} (lanes later : List (Lane (StreamWorker R K))) → length later ≡ length lanes → ((k : ℕ) (d : Lane (StreamWorker R K)) → k < length lanes → (get_or later k d).worker.counts ≡ (get_or lanes k d).worker.counts) → counts_in later ≡ counts_in lanes
counts_same {R} {K} lanes later len each = same_maps (λ (lane : Lane (StreamWorker R K)). lane.worker.counts) later lanes len each

-- ---- a stream over lanes whose workers got their seats and returned them

module _ {I R K : Type 0} (gives : I → List (List ℕ) → I → Type 0) (rings : List Shared) (programs : List Subject) (full : WhenFull) (ctx_len bound : ℕ) (source later : I) (fresh : Lanes R K) (workers held back : List Worker) (os ls ends : List (Lane (StreamWorker R K))) (dealt : Dealt)
    (made : AreNewLanes (length workers) rings programs full ctx_len bound fresh) (as_many : length os ≡ length fresh.lanes.items) (first : SwapsSeats workers held fresh.lanes.items os) (stream : RunsStream gives IsReadyWorker WorkerRuns source later os ls dealt)
    (held_many : length held ≡ length workers) (back_many : length back ≡ length held) (ends_many : length ends ≡ length ls) (second : SwapsSeats held back ls ends) where
  lanes_many : length ls ≡ length workers
  lanes_many = stream.as_many ∙ (as_many ∙ made.as_many)

  start_at : (k : ℕ) (d : Lane (StreamWorker R K)) → k < length os → IsStarted k programs full bound (seats_of workers k) (get_or os k d).worker
  start_at = started_at rings programs full ctx_len bound fresh workers held os made as_many first

  end_at : (k : ℕ) (d : Lane (StreamWorker R K)) → k < length ls → (get_or ls k d).worker.seats.items ≡ seats_of back k
  end_at = ended_at held back ls ends (held_many ∙ sym lanes_many) back_many second

  pub split_tables : (total : StreamCounts) → IsNewCounts (length programs) bound total → All (λ lane. SameTables lane.worker.counts total) ends
  split_tables total zeros k d below =
      let here : k < length ls = omega (arith, below, ends_many) in
      subst (λ (c : StreamCounts). SameTables c total) (sym (counts_at held back ls ends (held_many ∙ sym lanes_many) back_many second k d here))
      (same_tables_at gives programs full bound source later os ls (seats_of workers) (seats_of back) dealt stream start_at end_at total zeros k d (omega (arith, here, stream.as_many)))

  pub split_ran : (before total : StreamCounts) → IsNewCounts (length programs) bound before → AddsCounts (counts_in ends) before total → StreamRan gives (length workers) programs full bound source later (seats_of workers) (seats_of back) dealt total
  split_ran before total none added =
      let counts : counts_in ends ≡ counts_in ls = counts_same ls ends ends_many (counts_at held back ls ends (held_many ∙ sym lanes_many) back_many second) in
      subst (λ (n : ℕ). StreamRan gives n programs full bound source later (seats_of workers) (seats_of back) dealt total) (as_many ∙ made.as_many)
      (stream_ran gives programs full bound source later os ls (seats_of workers) (seats_of back) dealt stream start_at end_at before total none (subst (λ (l : List StreamCounts). AddsCounts l before total) counts added))

  pub split_seats : All (λ w. AtRings rings w.seats.items) back
  split_seats k w below =
      let here : k < length ls = omega (arith, below, back_many, held_many, lanes_many) in
      let there : k < length os = omega (arith, here, stream.as_many) in
      let d = element_of ls k here in
      let same : (get_or ls k d).worker.rings.now ≡ rings = (stream.ran k d there).same.rings_same ∙ rings_at rings programs full ctx_len bound fresh workers held os made as_many first k d there in
      subst (AtRings rings) (sym (ap (λ (x : Worker). x.seats.items) (second k w d here).0))
      (subst (λ (r : List Shared). AtRings r (get_or ls k d).worker.seats.items) same (stream.ready_still k d here).at_rings)
