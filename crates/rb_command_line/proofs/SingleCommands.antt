-- What each command did, from the contract of its own call.
use Rattle.std.proofs.Common.{◌≡◌, ◌≢◌, ℕ, Bool, List, [], ◌++◌, Option, Some, None, Result, Ok, Err, refl, sym, ap, subst, append-nil, ◌∙◌}
use Rattle.std.specs.Prelude.{IfOk, IfSome, OnOk}
use Rattle.std.specs.Io.KnownBytes.{Appends, Keeps}
use Rattle.std.proofs.KnownBytes.{Consumes-whole}
use Rattle.rb_history.specs.RingModel.{IsRingSize, IsStartPosition, IsWorkerCount}
use Rattle.rb_history.specs.TapeBytes.{AreItemsFrom, Item, tape}
use Rattle.rb_json.specs.declared.form.LineForm.{LineForm}
use Rattle.rb_run_commands.specs.TapedRun.{PrintsRun}
use Rattle.rb_run_commands.specs.declared.jobs_request.JobsRequest.{JobsRequest}
use Rattle.rb_script.specs.Simulated.{PrintsSim}
use Rattle.rb_tape_commands.specs.Feed.{FeedResult, FeedsWhole}
use Rattle.rb_tape_commands.specs.Input.{framed_all}
use Rattle.rb_tape_commands.specs.TapeText.{tape_lines}
use Rattle.rb_tape_commands.specs.declared.feed_fault.FeedFault.{FeedFault}
use Rattle.rb_tape_commands.specs.declared.feed_fault.FeedFault.TheVariants.{Device}
use Rattle.rb_loader.specs.declared.program.Bounds.{Bounds}
use Rattle.rb_command_line.specs.Commands.{PrintsCostWith, RunsJobs, Streams}
use Rattle.rb_command_line.specs.declared.cost_sizes.SizesFor.{SizesFor}
use Rattle.rb_command_line.specs.inner.Endings.{EndsWith, FeedsTo}
use Rattle.rb_command_line.specs.declared.request.Subcommand.{Subcommand}
use Rattle.rb_command_line.specs.declared.request.Subcommand.TheVariants.{Feed, Tape}

-- ---- the arms of the commands

module _ (F : Type 0) (contents : F → Option (List ℕ)) (asked : Subcommand) (s : Streams) where
  pub feed_ends : (size start retries : ℕ) (form : LineForm) (ends : ℕ × ℕ) → asked ≡ Feed size start retries form → IsRingSize size × IsStartPosition start
      → (left : Option (List ℕ)) × FeedsWhole (record { size = size; start = start; input_before = s.input; input_after = left; output_before = s.out_before; output_after = s.out_after }) ends
      → Keeps s.err_before s.err_after → EndsWith F contents asked s (Some ends)
  feed_ends size start retries form ends is bounds fed quiet =
      let run = fed.1 in
      let ends_so : FeedsTo size start ends s = record {
        size_is = bounds.0;
        start_is = bounds.1;
        payloads = run.payloads;
        stand = run.fed.passes.stand;
        whole = Consumes-whole s.input fed.0 _ (λ input. input ≡ framed_all run.payloads) run.fed.passes.read run.fed.read_to (ap (λ more. framed_all run.payloads ++ more) run.fed.goes_on ∙ append-nil (framed_all run.payloads));
        written = run.fed.passes.wrote;
        ends_are = run.ends_are;
        quiet = quiet;
      } in
      subst (λ a. EndsWith F contents a s (Some ends)) (sym is) ends_so

  pub tape_ends : (size start : ℕ) (form : LineForm) → asked ≡ Tape size start form → IsRingSize size × IsStartPosition start
      → (items : List Item) × AreItemsFrom size start items × IfSome s.input (λ bytes. bytes ≡ tape size items) × Appends s.out_before s.out_after (tape_lines form items) → EndsWith F contents asked s None
  tape_ends size start form is bounds p =
      subst (λ a. EndsWith F contents a s None) (sym is) (refl, record { size_is = bounds.0; start_is = bounds.1; records = p.0; stand = p.1; whole = p.2; printed = p.3 })

  -- any other command
  pub command_ends : (command : Subcommand) → asked ≡ command → EndsWith F contents command s None → EndsWith F contents asked s None
  command_ends command is e = subst (λ a. EndsWith F contents a s None) (sym is) e

-- ---- feed

pub fed_whole : (size start : ℕ) (input known before after : Option (List ℕ)) (answer : Result (ℕ × ℕ) FeedFault) → known ≡ input
    → (answer ≢ Err Device → (left : Option (List ℕ)) × FeedResult (record { size = size; start = start; input_before = known; input_after = left; output_before = before; output_after = after }) answer)
    → IfOk answer (λ ends. (left : Option (List ℕ)) × FeedsWhole (record { size = size; start = start; input_before = input; input_after = left; output_before = before; output_after = after }) ends)
fed_whole size start input known before after (Ok ends) same fed =
    subst (λ read. (left : Option (List ℕ)) × FeedsWhole (record { size = size; start = start; input_before = read; input_after = left; output_before = before; output_after = after }) ends) same (fed (λ e. let is = e in cc))
fed_whole size start input known before after (Err _) same fed = tt

-- ---- cost

pub cost_as : {A E : Type 0} (bounds : Bounds) (form : LineForm) (sizes known : Option SizesFor) (input before after : Option (List ℕ)) (answer : Result A E) → sizes ≡ known
    → OnOk answer (IfSome input (λ text. PrintsCostWith bounds form known text before after)) → OnOk answer (IfSome input (λ text. PrintsCostWith bounds form sizes text before after))
cost_as bounds form sizes known input before after answer is printed = subst (λ s. OnOk answer (IfSome input (λ text. PrintsCostWith bounds form s text before after))) (sym is) printed

-- ---- run

pub runs_jobs : {A E : Type 0} (F : Type 0) (contents : F → Option (List ℕ)) (jobs : JobsRequest) (is_taped : Bool) (s : Streams) (answer : Result A E)
    → OnOk answer (PrintsRun F contents is_taped s.input jobs s.out_before s.out_after s.err_before s.err_after)
    → OnOk answer (IsRingSize jobs.size × IsStartPosition jobs.start × IsWorkerCount jobs.workers)
    → OnOk answer (RunsJobs F contents jobs is_taped s)
runs_jobs F contents jobs is_taped s (Ok _) printed bounds = record { size_is = bounds.0; start_is = bounds.1; workers_are = bounds.2; printed = printed }
runs_jobs F contents jobs is_taped s (Err _) printed bounds = tt

-- ---- sim

-- the whole input was read before
pub sim_of_read : {A E : Type 0} (draw : Bool) (form : LineForm) (input before after : Option (List ℕ)) (script lent : List ℕ) (answer : Result A E) → IfSome input (λ unread. script ≡ unread) → lent ≡ script
    → OnOk answer (PrintsSim form draw lent before after) → OnOk answer (IfSome input (λ text. PrintsSim form draw text before after))
sim_of_read draw form None before after script lent (Ok _) read same printed = tt
sim_of_read draw form (Some text) before after script lent (Ok _) read same printed = subst (λ t. PrintsSim form draw t before after) (same ∙ read) printed
sim_of_read draw form input before after script lent (Err _) read same printed = tt
