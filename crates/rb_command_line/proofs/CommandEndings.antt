-- What a command left for the error output, once it is printed there.
use Rattle.std.proofs.Common.{◌≡◌, ℕ, Bool, true, false, List, [], ◌∷◌, ◌++◌, Option, Some, None, Result, Ok, Err, sym, ap, subst, refl, ◌∙◌, append-nil, append_assoc}
use Rattle.std.specs.Prelude.{IfOk, codes}
use Rattle.rb_io.specs.Lines.{line}
use Rattle.std.specs.Io.KnownBytes.{Appends, Keeps}
use Rattle.rb_json.specs.declared.form.LineForm.{LineForm}
use Rattle.rb_run_commands.specs.RunCommand.{PrintsReport}
use Rattle.rb_run_commands.specs.TapedRun.{PrintsRun, RunsProgram}
use Rattle.rb_run_commands.specs.declared.jobs_request.JobsRequest.{JobsRequest}
use Rattle.rb_verifier.specs.Subject.{Subject}
use Rattle.rb_workers.specs.Sink.{SinkItem}
use Rattle.rb_command_line.specs.Commands.{CarriesOut, Streams, end_line}
use Rattle.rb_command_line.specs.inner.Endings.{EndsWith, PrintsEnding, form_of}
use Rattle.rb_command_line.specs.declared.request.Subcommand.{Subcommand}
use Rattle.rb_command_line.specs.declared.request.Subcommand.TheVariants.{Feed, Tape, Check, Explain, Cost, Run, Sim}

none_is_some : (ends : ℕ × ℕ) → ◌≡◌ {A = Option (ℕ × ℕ)} (Some ends) None → ⊥
none_is_some ends e = cc

keeps : (a b : Option (List ℕ)) → Appends a b [] → Keeps a b
keeps None b wrote = tt
keeps (Some x) None wrote = absurd wrote
keeps (Some x) (Some y) wrote = wrote ∙ append-nil x

kept_then : (a b c : Option (List ℕ)) (bytes : List ℕ) → Keeps a b → Appends b c bytes → Appends a c bytes
kept_then None b c bytes kept wrote = tt
kept_then (Some x) None c bytes kept wrote = absurd kept
kept_then (Some x) (Some y) None bytes kept wrote = absurd wrote
kept_then (Some x) (Some y) (Some z) bytes kept wrote = wrote ∙ ap (λ front. front ++ bytes) kept

-- ---- the line with the end of a tape, from its pieces

pub words_pieces : (producer consumer : List ℕ) → codes "producer " ++ (producer ++ (codes " consumer " ++ (consumer ++ 10 ∷ []))) ≡ line (codes "producer " ++ producer ++ codes " consumer " ++ consumer)
words_pieces producer consumer = simp append_assoc refl

pub object_pieces : (producer consumer : List ℕ) → codes "{\"producer\":" ++ (producer ++ (codes ",\"consumer\":" ++ (consumer ++ (codes "}" ++ 10 ∷ []))))
    ≡ line (codes "{\"producer\":" ++ producer ++ codes ",\"consumer\":" ++ consumer ++ codes "}")
object_pieces producer consumer = simp append_assoc refl

pub end_as : (form known : LineForm) (ends : ℕ × ℕ) (before after : Option (List ℕ)) → form ≡ known → Appends before after (end_line known ends) → Appends before after (end_line form ends)
end_as form known ends before after is told = subst (λ f. Appends before after (end_line f ends)) (sym is) told

pub ending_as : (form : LineForm) (ending known : Option (ℕ × ℕ)) (before after : Option (List ℕ)) → ending ≡ known → PrintsEnding form known before after → PrintsEnding form ending before after
ending_as form ending known before after is told = subst (λ e. PrintsEnding form e before after) (sym is) told

-- ---- what a command did

module _ (input out_before out_after : Option (List ℕ)) where
  abbrev streams : Option (List ℕ) → Option (List ℕ) → Streams
  streams before after = record { input = input; out_before = out_before; out_after = out_after; err_before = before; err_after = after }

  module _ (F : Type 0) (contents : F → Option (List ℕ)) where
    -- ---- what was left is printed

    module _ (told : List ℕ) (before after : Option (List ℕ)) (wrote : Appends before after told) where
      moved : (text : List ℕ) → Appends (Some []) (Some told) text → Appends before after text
      moved text is = subst (Appends before after) is wrote

      moved_report : {S : Type 0} (position : S → ℕ) (takes : S → SinkItem → S → Type 0) (sink : S) (subject : Subject) (jobs : JobsRequest)
          → PrintsReport position takes sink subject jobs out_before out_after (Some []) (Some told) → PrintsReport position takes sink subject jobs out_before out_after before after
      moved_report position takes sink subject jobs p = record { report = p.report; ran = p.ran; printed = p.printed; told = moved _ p.told }

      moved_program : (is_taped : Bool) (subject : Subject) (jobs : JobsRequest) → RunsProgram F contents is_taped subject jobs out_before out_after (Some []) (Some told)
          → RunsProgram F contents is_taped subject jobs out_before out_after before after
      unfolding moved_report
      moved_program false subject jobs p = moved_report _ _ _ subject jobs p
      moved_program true subject jobs p = record {
        writer = p.writer;
        left = p.left;
        taped = record { printed = moved_report _ _ _ subject jobs p.taped.printed; taped = p.taped.taped };
        handed_on = p.handed_on;
      }

      printed_told : (asked : Subcommand) (ends : Option (ℕ × ℕ)) → EndsWith F contents asked (streams (Some []) (Some told)) ends → EndsWith F contents asked (streams before after) ends
      printed_told (Feed size start retries form) None e = absurd e
      printed_told (Feed size start retries form) (Some ends) e = record {
        size_is = e.size_is;
        start_is = e.start_is;
        payloads = e.payloads;
        stand = e.stand;
        whole = e.whole;
        written = e.written;
        ends_are = e.ends_are;
        quiet = keeps before after (moved [] e.quiet);
      }
      printed_told (Tape size start form) ends e = (e.0, record { size_is = e.1.size_is; start_is = e.1.start_is; records = e.1.records; stand = e.1.stand; whole = e.1.whole; printed = e.1.printed })
      printed_told (Check bounds form portable) ends e = e
      printed_told (Explain bounds form portable) ends e = e
      printed_told (Cost bounds form sizes) ends e = e
      printed_told (Run jobs tape) ends e = (
        e.0,
        record {
          size_is = e.1.size_is;
          start_is = e.1.start_is;
          workers_are = e.1.workers_are;
          printed = record { subject = e.1.printed.subject; accepted = e.1.printed.accepted; ran = moved_program _ e.1.printed.subject jobs e.1.printed.ran };
        },
      )
      printed_told (Sim draw form) ends e = e

      -- the list was empty at first, and the result is returned once its text is written
      told_after : {E : Type 0} (asked : Subcommand) (first : List ℕ) (answer : Result (Option (ℕ × ℕ)) E) (ends : Option (ℕ × ℕ)) → first ≡ [] → answer ≡ Ok ends
          → IfOk answer (EndsWith F contents asked (streams (Some first) (Some told))) → EndsWith F contents asked (streams before after) ends
      told_after asked first answer ends empty is e =
          printed_told asked ends (subst (λ l. EndsWith F contents asked (streams (Some l) (Some told)) ends) empty (subst (λ a. IfOk a (EndsWith F contents asked (streams (Some first) (Some told)))) is e))

    pub and_told : {E : Type 0} (asked : Subcommand) (first told text : List ℕ) (before after : Option (List ℕ)) (answer result : Result (Option (ℕ × ℕ)) E) → first ≡ [] → text ≡ told
        → IfOk answer (EndsWith F contents asked (streams (Some first) (Some told))) → IfOk result (λ ends. (answer ≡ Ok ends) × Appends before after text)
        → IfOk result (EndsWith F contents asked (streams before after))
    and_told asked first told text before after answer (Ok ends) empty is e done = told_after told before after (subst (Appends before after) is done.1) asked first answer ends empty done.0 e
    and_told asked first told text before after answer (Err _) empty is e done = tt

    -- ---- the command has ended

    ended : (asked : Subcommand) (before after : Option (List ℕ)) → EndsWith F contents asked (streams before after) None → CarriesOut F contents asked (streams before after)
    ended (Feed size start retries form) before after e = absurd e
    ended (Tape size start form) before after e = e.1
    ended (Check bounds form portable) before after e = e.1
    ended (Explain bounds form portable) before after e = e.1
    ended (Cost bounds form sizes) before after e = e.1
    ended (Run jobs tape) before after e = e.1
    ended (Sim draw form) before after e = e.1

    -- the end of the tape of `feed` is printed
    ended_at : (asked : Subcommand) (ends : ℕ × ℕ) (before between after : Option (List ℕ)) → EndsWith F contents asked (streams before between) (Some ends)
        → Appends between after (end_line (form_of asked) ends) → CarriesOut F contents asked (streams before after)
    ended_at (Feed size start retries form) ends before between after e wrote = record {
      size_is = e.size_is;
      start_is = e.start_is;
      payloads = e.payloads;
      stand = e.stand;
      whole = e.whole;
      written = e.written;
      told = subst (λ ends. Appends before after (end_line form ends)) e.ends_are (kept_then before between after _ e.quiet wrote);
    }
    ended_at (Tape size start form) ends before between after e wrote = absurd (none_is_some ends e.0)
    ended_at (Check bounds form portable) ends before between after e wrote = absurd (none_is_some ends e.0)
    ended_at (Explain bounds form portable) ends before between after e wrote = absurd (none_is_some ends e.0)
    ended_at (Cost bounds form sizes) ends before between after e wrote = absurd (none_is_some ends e.0)
    ended_at (Run jobs tape) ends before between after e wrote = absurd (none_is_some ends e.0)
    ended_at (Sim draw form) ends before between after e wrote = absurd (none_is_some ends e.0)

    pub carried_out : (asked : Subcommand) (ends : Option (ℕ × ℕ)) (form : LineForm) (before between after : Option (List ℕ)) → form ≡ form_of asked → EndsWith F contents asked (streams before between) ends
        → PrintsEnding form ends between after → CarriesOut F contents asked (streams before after)
    carried_out asked None form before between after is e same = subst (λ b. CarriesOut F contents asked (streams before b)) (sym same) (ended asked before between e)
    carried_out asked (Some ends) form before between after is e wrote = ended_at asked ends before between after e (subst (λ f. Appends between after (end_line f ends)) is wrote)
