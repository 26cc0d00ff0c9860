-- What a command did before the end of the tape of `feed` is reported.
use Rattle.std.specs.Prelude.{◌≡◌, ℕ, List, Option, None, Some, IfSome}
use Rattle.std.specs.Io.KnownBytes.{Appends, Keeps}
use Rattle.rb_history.specs.RingModel.{IsRingSize, IsStartPosition}
use Rattle.rb_history.specs.TapeBytes.{AreItemsFrom, tape}
use Rattle.rb_json.specs.declared.form.LineForm.{LineForm}
use Rattle.rb_tape_commands.specs.Feed.{ends_of}
use Rattle.rb_tape_commands.specs.Input.{framed_all, payload_events}
use Rattle.rb_command_line.specs.Commands.{CarriesOut, Streams, end_line}
use Rattle.rb_command_line.specs.declared.request.Subcommand.{Subcommand}
use Rattle.rb_command_line.specs.declared.request.Subcommand.TheVariants.{Feed, Tape, Check, Explain, Cost, Run, Sim}

-- the form of a command's output
abbrev pub form_of : Subcommand → LineForm
form_of (Feed size start retries form) = form
form_of (Tape size start form) = form
form_of (Check bounds form portable) = form
form_of (Explain bounds form portable) = form
form_of (Cost bounds form sizes) = form
form_of (Run jobs file) = jobs.form
form_of (Sim draw form) = form

-- the input consists of whole payloads, exactly their tape went to the output, it ends at these positions, and nothing
-- was printed on the error output
pub record FeedsTo (size start : ℕ) (ends : ℕ × ℕ) (s : Streams) : Type 0 where
  pub size_is : IsRingSize size
  pub start_is : IsStartPosition start
  pub payloads : List (List ℕ)
  pub stand : AreItemsFrom size start (payload_events start payloads)
  pub whole : IfSome s.input (λ input. input ≡ framed_all payloads)
  pub written : Appends s.out_before s.out_after (tape size (payload_events start payloads))
  pub ends_are : ends ≡ ends_of start payloads
  pub quiet : Keeps s.err_before s.err_after

-- `feed` returns where its tape ends, and every other command nothing
abbrev pub EndsWith : (F : Type 0) → (F → Option (List ℕ)) → Subcommand → Streams → Option (ℕ × ℕ) → Type 0
EndsWith F contents (Feed size start retries form) s (Some ends) = FeedsTo size start ends s
EndsWith F contents (Feed size start retries form) s None = ⊥
EndsWith F contents (Tape size start form) s end = (end ≡ None) × CarriesOut F contents (Tape size start form) s
EndsWith F contents (Check bounds form portable) s end = (end ≡ None) × CarriesOut F contents (Check bounds form portable) s
EndsWith F contents (Explain bounds form portable) s end = (end ≡ None) × CarriesOut F contents (Explain bounds form portable) s
EndsWith F contents (Cost bounds form sizes) s end = (end ≡ None) × CarriesOut F contents (Cost bounds form sizes) s
EndsWith F contents (Run jobs file) s end = (end ≡ None) × CarriesOut F contents (Run jobs file) s
EndsWith F contents (Sim draw form) s end = (end ≡ None) × CarriesOut F contents (Sim draw form) s

-- the end of the tape of `feed` was printed; of another command, nothing was
abbrev pub PrintsEnding : LineForm → Option (ℕ × ℕ) → Option (List ℕ) → Option (List ℕ) → Type 0
PrintsEnding form None before after = after ≡ before
PrintsEnding form (Some ends) before after = Appends before after (end_line form ends)
