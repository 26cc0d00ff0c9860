-- A run over one newly opened ring.
use Rattle.std.proofs.Common.{◌≡◌, ℕ, false, List, [], ◌∷◌, length, map, refl, sym, ap, subst}
use Rattle.std.specs.Prelude.{All}
use Rattle.std.proofs.lemmas.List.Elements.{All-nil, All-cons}
use Rattle.rb_jobs.specs.Jobs.{task_of}
use Rattle.rb_jobs.specs.declared.job.Job.{Job}
use Rattle.rb_chapter_ring.specs.Chapters.{empty_chapter}
use Rattle.rb_ledger.specs.ChapterSeats.{fresh_chapter_consumer}
use Rattle.rb_ledger.specs.Seats.{HasSettledAll, WorkerSeat, fresh_book, fresh_seats}
use Rattle.rb_verifier.specs.Subject.{Subject}
use Rattle.rb_workers.specs.declared.opened.Ended.{Ended}
use Rattle.rb_workers.specs.declared.opened.Opened.{Opened}
use Rattle.rb_workers.specs.ChapterSizes.{margin_of, room_of}
use Rattle.rb_workers.specs.Opened.{IsOpened, AreOpened, workers_of}
use Rattle.rb_workers.specs.Reports.{IsReport, RingEnds, RingsEnd}
use Rattle.rb_workers.specs.SeatRows.{seat_rows}
use Rattle.rb_workers.specs.Sink.{SinkItem}
use Rattle.rb_workers.specs.Settled.{EachSettled, EndsSettled}
use Rattle.rb_workers.specs.declared.opened.JobsReport.{JobsReport}
use Rattle.rb_workers.proofs.Numbered.{seats_length}
use Rattle.rb_workers.proofs.Settling.{settled_together}
use Rattle.rb_run_commands.specs.RunCommand.{RunsWorkers, first_book}
use Rattle.rb_run_commands.specs.WorkerJobs.{tasks_of_workers}
use Rattle.rb_run_commands.specs.declared.jobs_request.JobsRequest.{JobsRequest}

module _ {S : Type 0} (position : S → ℕ) (workers : ℕ) (one : Opened S) (opened : List (Opened S)) (is : opened ≡ one ∷ []) (is_opened : IsOpened position workers one) where
  -- the ring may be run
  pub one_opened : AreOpened position opened
  one_opened =
      let count = seats_length position workers one is_opened in
      subst (AreOpened position) (sym is)
      (All-cons (IsOpened position (length one.seats.items)) one [] (subst (λ n. IsOpened position n one) (sym count) is_opened) (All-nil (IsOpened position (length one.seats.items))))

  pub one_count : workers_of opened ≡ workers
  one_count = subst (λ o. workers_of o ≡ workers) (sym is) (seats_length position workers one is_opened)

-- its seats have made nothing
pub one_settled : {S : Type 0} (one : Opened S) (opened : List (Opened S)) → opened ≡ one ∷ [] → All HasSettledAll one.seats.items → EachSettled (workers_of opened) (seat_rows opened)
one_settled one opened is settled =
    subst (λ o. EachSettled (workers_of o) (seat_rows o)) (sym is)
    (settled_together (length one.seats.items) (one.seats.items ∷ []) (All-cons (All HasSettledAll) one.seats.items [] settled (All-nil (All HasSettledAll))))

-- such a run, combined from the contracts of its calls
module _ {S : Type 0} (position : S → ℕ) (takes : S → SinkItem → S → Type 0) (sink : S) (subject : Subject) (request : JobsRequest) (workers room margin : ℕ) (one : Opened S) (opened : List (Opened S)) (jobs : List Job) (report : JobsReport S) where
  pub ran_workers :
      workers ≡ request.workers → room ≡ room_of request.size → margin ≡ margin_of request.size → opened ≡ one ∷ []
      → one.seats.items ≡ fresh_seats 0 one.ring.ring room (fresh_book request.size request.start workers) 0 workers
      → one.consumer ≡ fresh_chapter_consumer 0 one.ring.ring room (fresh_book request.size request.start workers)
      → one.keeper ≡ record { chapter = empty_chapter room workers; margin = margin; is_lent = false }
      → one.sink ≡ sink → All HasSettledAll one.seats.items
      → map task_of jobs ≡ tasks_of_workers subject workers request.jobs
      → IsReport position takes opened jobs report
      → report.strays ≡ 0 → (EachSettled (workers_of opened) (seat_rows opened) → All EndsSettled report.rings.items)
      → RunsWorkers position takes sink subject request report
  ran_workers as_many room_is margin_is is seats consumer keeper same_sink nothing_made tasks reported none settled = record {
    opened = one;
    jobs = jobs;
    just_opened = record {
      seats_are = subst (λ m. one.seats.items ≡ fresh_seats 0 one.ring.ring m (first_book request) 0 request.workers) room_is (subst (λ n. one.seats.items ≡ fresh_seats 0 one.ring.ring room (fresh_book request.size request.start n) 0 n) as_many seats);
      consumer_is = subst (λ m. one.consumer ≡ fresh_chapter_consumer 0 one.ring.ring m (first_book request)) room_is (subst (λ n. one.consumer ≡ fresh_chapter_consumer 0 one.ring.ring room (fresh_book request.size request.start n)) as_many consumer);
      keeper_is = subst (λ m. one.keeper ≡ record { chapter = empty_chapter (room_of request.size) request.workers; margin = m; is_lent = false }) margin_is
          (subst (λ m. one.keeper ≡ record { chapter = empty_chapter m request.workers; margin = margin; is_lent = false }) room_is
          (subst (λ n. one.keeper ≡ record { chapter = empty_chapter room n; margin = margin; is_lent = false }) as_many keeper));
      sink_is = same_sink;
    };
    tasks_are = subst (λ n. map task_of jobs ≡ tasks_of_workers subject n request.jobs) as_many tasks;
    reported = subst (λ o. IsReport position takes o jobs report) is reported;
    no_strays = none;
    settled = settled (one_settled one opened is nothing_made);
  }

-- one ring was opened, so one was closed
pub one_ended : {S : Type 0} (position : S → ℕ) (takes : S → SinkItem → S → Type 0) (o : Opened S) (es : List (Ended S)) (seats : List (List WorkerSeat)) → RingsEnd position takes (o ∷ []) es seats
    → (e : Ended S) × (row : List WorkerSeat) × (es ≡ e ∷ []) × RingEnds position takes o e row
one_ended position takes o [] seats ends = absurd ends
one_ended position takes o (e ∷ es) [] ends = absurd ends
one_ended position takes o (e ∷ []) (row ∷ []) ends = (e, row, refl, ends.0)
one_ended position takes o (e ∷ []) (row ∷ other ∷ more) ends = absurd ends.1
one_ended position takes o (e ∷ other ∷ es) (row ∷ []) ends = absurd ends.1
one_ended position takes o (e ∷ other ∷ es) (row ∷ next ∷ more) ends = absurd ends.1

pub one_ring : {S : Type 0} (position : S → ℕ) (takes : S → SinkItem → S → Type 0) (sink : S) (subject : Subject) (request : JobsRequest) (report : JobsReport S) → RunsWorkers position takes sink subject request report
    → length report.rings.items ≡ 1
one_ring position takes sink subject request report ran = ap length (one_ended position takes ran.opened report.rings.items ran.reported.seats ran.reported.rings_end).2
