-- The report of a stream that was run with options, and its counters.
use Rattle.std.proofs.Common.{◌≡◌, ℕ, ◌+◌, ◌-◌, ◌<◌, ◌^◌, Bor, List, [], ◌∷◌, ◌++◌, Option, Some, None, Result, Ok, Err, true, length, map, refl, sym, ap, subst, ◌∙◌, arith}
use Rattle.std.proofs.lemmas.List.{length-map}
use Rattle.std.proofs.lemmas.List.Elements.{All-map}
use Rattle.std.specs.Prelude.{All, OnOk, codes}
use Rattle.std.specs.Fmt.{decimal}
use Rattle.rb_history.specs.RingModel.{IsStartPosition}
use Rattle.rb_io.specs.Lines.{line}
use Rattle.rb_jobs.proofs.Lists.{zip_length}
use Rattle.rb_source.specs.Stream.{FramedInput, Gives, IsFresh, IsOver}
use Rattle.rb_source.specs.declared.counts.ContextCounts.{ContextCounts}
use Rattle.rb_source.specs.declared.source.SourceFault.{SourceFault}
use Rattle.rb_stream.specs.Streamed.{EndsSource}
use Rattle.rb_stream.specs.declared.report.StreamEnd.{StreamEnd}
use Rattle.rb_stream.specs.declared.report.StreamEnd.TheVariants.{Over}
use Rattle.rb_stream.specs.declared.report.StreamReport.{StreamReport}
use Rattle.rb_verifier.specs.Subject.{Subject}
use Rattle.rb_waiting.specs.NoneRefused.{RefusesNoRecord, StaysLow}
use Rattle.rb_workers.specs.Rest.{LeavesNothing}
use Rattle.rb_workers.specs.Sink.{SinkItem}
use Rattle.rb_service.specs.Counters.{contexts_line, contexts_read, counters, programs_lines_from}
use Rattle.rb_service.specs.PrintedStream.{AreAcceptedFor, PrintsReport, PrintsStream, PrintsStreamOver, ReportsStream, names_of_rings, request_of, sizes_of_rings}
use Rattle.rb_service.specs.Rings.{IsFreshFor}
use Rattle.rb_service.specs.Service.{Serves}
use Rattle.rb_service.specs.declared.options.StreamOptions.{StreamOptions}
use Rattle.rb_service.specs.declared.rings.RingPlan.{RingPlan}
use Rattle.rb_service.specs.declared.service.Full.TheVariants.{Wait}
use Rattle.rb_service.specs.declared.service.ServiceRequest.{ServiceRequest}
use Rattle.rb_service.proofs.KnownInput.{fresh_known, gives_known, over_bytes, over_known}
use Rattle.rb_service.proofs.Positions.{all_at, all_from, ended_at, ends_length, plan_at, report_at, rings_lines_at, serves_at}

-- ---- as many rings and programs as the options name

module _ {S I : Type 0} (position : S → ℕ) (takes : S → SinkItem → S → Type 0) (gives : I → List (List ℕ) → I → Type 0) (options : StreamOptions) (plans : List (RingPlan S)) (programs : List Subject) (request : ServiceRequest)
    (source later : I) (report : StreamReport S) (serves : Serves position takes gives plans programs request source later report) where
  pub as_many_rings : map (λ p. p.size) plans ≡ sizes_of_rings options → length report.rings.items ≡ length options.rings.items
  as_many_rings sizes =
      let s = serves.ran.streamed in
      ends_length position takes serves.opened report.rings.items s.seats s.rings_end
      ∙ (sym (zip_length (IsFreshFor position request.workers) plans serves.opened serves.fresh)
      ∙ (sym (length-map plans (λ p. p.size)) ∙ (ap length sizes ∙ length-map options.rings.items (λ r. r.size))))

  pub as_many_programs : AreAcceptedFor options programs → length report.results.items ≡ length options.programs.items
  as_many_programs accepted = serves.ran.streamed.results_are.as_many ∙ (sym (zip_length _ accepted.texts programs accepted.accepted) ∙ accepted.as_many)

-- ---- what is printed

-- contexts that were given were run or dropped, and those that were skipped were read too
read_add_up : (given ran dropped : ℕ) (counts : ContextCounts) → (given < 2 ^ 64 - 1 → given ≡ ran + dropped) → contexts_read given counts < 2 ^ 64 - 1 → contexts_read given counts ≡ ran + dropped + counts.skipped
read_add_up given ran dropped counts add_up small = let sum = add_up (omega arith) in omega (arith, sum)

module _ {S : Type 0} (position : S → ℕ) (options : StreamOptions) (report : StreamReport S) (counts : ContextCounts) (old new : List ℕ) where
  counters_at : (names : List (List ℕ)) → counters report counts names ≡ counters (report_at position report) counts names
  counters_at names =
      ap (λ rings. contexts_line (contexts_read report.contexts counts) report.ran report.dropped counts ++ programs_lines_from 0 report.results.items ++ rings ++ line (codes "unlogged " ++ decimal report.unlogged))
      (sym (rings_lines_at position names report.rings.items))

  pub report_printed : new ≡ old ++ counters report counts (names_of_rings options) → length report.results.items ≡ length options.programs.items → length report.rings.items ≡ length options.rings.items
      → (report.contexts < 2 ^ 64 - 1 → report.contexts ≡ report.ran + report.dropped) → report.strays ≡ 0 → All LeavesNothing report.rings.items
      → (options.full ≡ Wait → All StaysLow report.rings.items → All RefusesNoRecord report.rings.items) → report.end ≡ Over → PrintsReport options (report_at position report) counts old new
  report_printed printed programs rings add_up strays nothing none over = record {
    printed = printed ∙ ap (λ l. old ++ l) (counters_at (names_of_rings options));
    programs_are = programs;
    rings_are = length-map report.rings.items (ended_at position) ∙ rings;
    adds_up = read_add_up report.contexts report.ran report.dropped counts add_up;
    no_strays = strays;
    nothing_left = all_at position LeavesNothing LeavesNothing (λ e left. left) report.rings.items nothing;
    none_refused = λ waits low. all_at position RefusesNoRecord RefusesNoRecord (λ e r. record { tallies = r.tallies; histories = r.histories }) report.rings.items
        (none waits (all_from position StaysLow StaysLow (λ e l. l) report.rings.items low));
    over = over;
  }

-- ---- the whole

ends_over : {I : Type 0} (is_over : I → Type 0) (fails : I → SourceFault → Type 0) (source : I) (end : StreamEnd) → EndsSource is_over fails source end → end ≡ Over → is_over source
ends_over is_over fails source end ends over = subst (EndsSource is_over fails source) over ends

begins_at : {S : Type 0} (position : S → ℕ) (plans : List (RingPlan S)) → All (λ p. IsStartPosition (position p.sink)) plans → All (λ (p : RingPlan ℕ). IsStartPosition p.sink) (map (plan_at position) plans)
begins_at position plans all = All-map (λ (p : RingPlan ℕ). IsStartPosition p.sink) (plan_at position) plans all

sizes_at : {S : Type 0} (position : S → ℕ) (plans : List (RingPlan S)) → map (λ (p : RingPlan ℕ). p.size) (map (plan_at position) plans) ≡ map (λ p. p.size) plans
sizes_at position [] = refl
sizes_at position (p ∷ plans) = ap (λ sizes. p.size ∷ sizes) (sizes_at position plans)

module _ {S I R : Type 0} (position : S → ℕ) (takes : S → SinkItem → S → Type 0) (remaining : R → Option (List ℕ)) (inner : I → FramedInput R) (options : StreamOptions) (plans : List (RingPlan S)) (programs : List Subject)
    (reader : R) (source later : I) (report : StreamReport S) (counts : ContextCounts) (accepted : AreAcceptedFor options programs) (sizes : map (λ p. p.size) plans ≡ sizes_of_rings options)
    (begins : All (λ p. IsStartPosition (position p.sink)) plans) (fresh : IsFresh reader options.framing options.form (inner source))
    (serves : Serves position takes (λ a contexts b. Gives remaining (inner a) contexts (inner b)) plans programs (request_of options) source later report) (counts_are : counts ≡ (inner later).counts) where
  stream_reported : (inner later).over ≡ true → ReportsStream options (remaining reader) (report_at position report) counts
  stream_reported over = record {
    programs = programs;
    plans = map (plan_at position) plans;
    source = over_bytes remaining (inner source);
    later = over_bytes remaining (inner later);
    accepted = accepted;
    sizes_are = sizes_at position plans ∙ sizes;
    begins = begins_at position plans begins;
    fresh = fresh_known remaining reader options.framing options.form (inner source) fresh;
    served = serves_at position takes (λ a contexts b. Gives remaining (inner a) contexts (inner b)) (Gives (λ bytes. bytes)) (λ s. over_bytes remaining (inner s)) (λ a b contexts. gives_known remaining (inner a) (inner b) contexts)
        plans programs (request_of options) source later report serves;
    over = over_known remaining (inner later) (serves.ran.streamed.gave.ends fresh.open_yet over);
    counts_are = counts_are;
  }

  -- if the whole input was given and the counters of the report were appended, a stream was run and printed
  pub stream_printed : {A E : Type 0} (answer : Result A E) (fails : I → SourceFault → Type 0) (old new : List ℕ) → EndsSource (λ s. (inner s).over ≡ true) fails later report.end
      → (report.contexts < 2 ^ 64 - 1 → report.contexts ≡ report.ran + report.dropped) → report.strays ≡ 0 → All LeavesNothing report.rings.items
      → (options.full ≡ Wait → All StaysLow report.rings.items → All RefusesNoRecord report.rings.items)
      → OnOk answer (new ≡ old ++ counters report counts (names_of_rings options)) → OnOk answer (report.end ≡ Over) → OnOk answer (PrintsStreamOver options (remaining reader) old new)
  stream_printed (Ok a) fails old new ends add_up strays nothing none printed over = record {
    report = report_at position report;
    counts = counts;
    ran = stream_reported (ends_over (λ s. (inner s).over ≡ true) fails later report.end ends over);
    printed = report_printed position options report counts old new printed (as_many_programs position takes _ options plans programs (request_of options) source later report serves accepted)
        (as_many_rings position takes _ options plans programs (request_of options) source later report serves sizes) add_up strays nothing none over;
  }
  stream_printed (Err e) fails old new ends add_up strays nothing none printed over = tt

-- ---- the input, or a file in its place

pub printed_over_input : {A E : Type 0} (answer : Result A E) (options : StreamOptions) (input : Option (List ℕ)) (old new : List ℕ) → OnOk answer (PrintsStreamOver options input old new) → OnOk answer (PrintsStream options input old new)
printed_over_input (Ok a) options input old new printed = record { read = input; reads_input = λ none. refl; streamed = printed }
printed_over_input (Err e) options input old new printed = tt

some_is_none : {A : Type 0} (x : A) → ◌≡◌ {A = Option A} (Some x) None → ⊥
some_is_none x e = cc

pub printed_over_file : {A E : Type 0} (answer : Result A E) (options : StreamOptions) (path : Bor (List ℕ)) (read input : Option (List ℕ)) (old new : List ℕ) → options.from ≡ Some path → OnOk answer (PrintsStreamOver options read old new)
    → OnOk answer (PrintsStream options input old new)
printed_over_file (Ok a) options path read input old new is printed = record { read = read; reads_input = λ none. absurd (some_is_none path (sym is ∙ none)); streamed = printed }
printed_over_file (Err e) options path read input old new is printed = tt
