-- What a parsed command did, from what was done for its kind.
use Rattle.std.proofs.Common.{◌≡◌, ◌∙◌, ℕ, true, List, [], Option, Some, None, Result, Ok, Err, refl, sym, subst}
use Rattle.std.specs.Prelude.{OnOk, is_ok}
use Rattle.std.specs.Io.KnownBytes.{Appends}
use Rattle.std.proofs.lemmas.Bool.{false≢true}
use Rattle.rb_service.specs.Command.{IsAllowed}
use Rattle.rb_service.specs.PrintedStream.{PrintsStream}
use Rattle.rb_service.specs.declared.options.StreamOptions.{StreamOptions}
use Rattle.rb_tape_commands.specs.Follow.{FollowsRing}
use Rattle.rb_command_line.specs.Commands.{CarriesOut, CarriesOutOver, Executes, Streamed, Streams}
use Rattle.rb_command_line.specs.declared.follow_request.FollowRequest.{FollowRequest}
use Rattle.rb_command_line.specs.declared.request.CommandLine.{CommandLine}
use Rattle.rb_command_line.specs.declared.request.ParsedCommand.{ParsedCommand}
use Rattle.rb_command_line.specs.declared.request.ParsedCommand.TheVariants as parsed

some_is_none : {A : Type 0} (x : A) → ◌≡◌ {A = Option A} (Some x) None → ⊥
some_is_none x e = cc

module _ (F : Type 0) (contents : F → Option (List ℕ)) where
  module _ (asked : CommandLine) (input out_before out_after err_before err_after : Option (List ℕ)) where
    abbrev streams : Option (List ℕ) → Streams
    streams read = record { input = read; out_before = out_before; out_after = out_after; err_before = err_before; err_after = err_after }

    pub over_input : CarriesOut F contents asked.request (streams input) → CarriesOutOver F contents asked (streams input)
    over_input done = record { read = input; reads_input = λ _. refl; carried_out = done }

    pub over_file : {P : Type 0} (file : Option P) (path : P) → (asked.file ≡ None → file ≡ None) → file ≡ Some path → (read : Option (List ℕ)) × CarriesOut F contents asked.request (streams read)
        → CarriesOutOver F contents asked (streams input)
    over_file file path same is done = record { read = done.0; reads_input = λ none. absurd (some_is_none path (sym is ∙ same none)); carried_out = done.1 }

  module _ (command : ParsedCommand) (s : Streams) where
    pub executes_command : (asked : CommandLine) → command ≡ parsed.Command asked → CarriesOutOver F contents asked s → Executes F contents command s
    executes_command asked is done = subst (λ p. Executes F contents p s) (sym is) done

    pub executes_stream : (options : StreamOptions) → command ≡ parsed.Stream options → Streamed options s → Executes F contents command s
    executes_stream options is done = subst (λ p. Executes F contents p s) (sym is) done

    pub executes_follow : (asked : FollowRequest) → command ≡ parsed.Follow asked → FollowsRing asked.form asked.from s.out_before s.out_after → Executes F contents command s
    executes_follow asked is done = subst (λ p. Executes F contents p s) (sym is) done

-- ---- stream

pub streamed : {A B C D : Type 0} (options : StreamOptions) (s : Streams) (answer : Result A B) (printed : Result C D) (value : A) (first counters text : List ℕ) → answer ≡ Ok value
    → OnOk answer (IsAllowed options) → OnOk answer (PrintsStream options s.input first counters) → first ≡ [] → is_ok printed ≡ true → OnOk printed (Appends s.err_before s.err_after text) → text ≡ counters
    → Streamed options s
streamed options s (Ok _) (Ok _) value first counters text is allowed ran empty ok told same = record {
  allowed = allowed;
  counters = counters;
  printed = subst (λ l. PrintsStream options s.input l counters) empty ran;
  told = subst (Appends s.err_before s.err_after) same told;
}
streamed options s (Ok _) (Err _) value first counters text is allowed ran empty ok told same = absurd (false≢true ok)
streamed options s (Err _) printed value first counters text is allowed ran empty ok told same = absurd (let e = is in cc)
