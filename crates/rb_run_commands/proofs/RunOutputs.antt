-- What a run printed, without a tape and with one.
use Rattle.std.proofs.Common.{◌≡◌, ℕ, List, Option, Some, None, is_some, sym, subst}
use Rattle.std.specs.Prelude.{IfSome}
use Rattle.std.specs.Io.KnownBytes.{Appends}
use Rattle.rb_loader.specs.Acceptance.{IsAccepted}
use Rattle.rb_workers.specs.declared.null_sink.NullSink.{NullSink}
use Rattle.rb_workers.specs.declared.opened.JobsReport.{JobsReport}
use Rattle.rb_run_commands.specs.ReportLines.{report_lines, unlogged_text}
use Rattle.rb_run_commands.specs.RunCommand.{RunPlan, RunsWorkers, first_null, null_position, null_takes}
use Rattle.rb_run_commands.specs.TapedRun.{PrintsRun, RunsProgram, TapesWhole}
use Rattle.rb_run_commands.specs.declared.jobs_request.JobsRequest.{JobsRequest}

module _ (F : Type 0) (contents : F → Option (List ℕ)) {P : Type 0} (path : Option P) (input : Option (List ℕ)) (plan : RunPlan) (request : JobsRequest) (before after told_before told_after : Option (List ℕ))
    (requested : plan.request ≡ request) (accepted : IfSome input (λ text. IsAccepted text 16 1 plan.program)) where
  pub without_tape : (report : JobsReport NullSink) → path ≡ None → RunsWorkers null_position null_takes (first_null request) plan.program plan.request report
      → Appends before after (report_lines plan.request.form report) → Appends told_before told_after (unlogged_text report.unlogged)
      → PrintsRun F contents (is_some path) input request before after told_before told_after
  without_tape report none ran printed told = record {
    subject = plan.program;
    accepted = accepted;
    ran =
        subst (λ (p : Option P). RunsProgram F contents (is_some p) plan.program request before after told_before told_after) (sym none)
        (record {
          report = report;
          ran = subst (λ (r : JobsRequest). RunsWorkers null_position null_takes (first_null request) plan.program r report) requested ran;
          printed = subst (λ (r : JobsRequest). Appends before after (report_lines r.form report)) requested printed;
          told = told;
        });
  }

  pub with_tape : (name : P) → path ≡ Some name → TapesWhole F contents plan.program plan.request before after told_before told_after
      → PrintsRun F contents (is_some path) input request before after told_before told_after
  with_tape name some taped = record {
    subject = plan.program;
    accepted = accepted;
    ran =
        subst (λ (p : Option P). RunsProgram F contents (is_some p) plan.program request before after told_before told_after) (sym some)
        (subst (λ (r : JobsRequest). TapesWhole F contents plan.program r before after told_before told_after) requested taped);
  }
