-- What a command has done if it ends with status 0 (own). Each case is what the contract of the command's own call
-- promises.
use Rattle.std.specs.Prelude.{◌≡◌, ℕ, ◌++◌, Bool, List, [], codes, Option, None, Some, IfSome, is_some}
use Rattle.std.specs.Fmt.{decimal}
use Rattle.std.specs.Io.KnownBytes.{Appends}
use Rattle.rb_history.specs.RingModel.{IsRingSize, IsStartPosition, IsWorkerCount}
use Rattle.rb_history.specs.TapeBytes.{AreItemsFrom, Item, tape}
use Rattle.rb_io.specs.Lines.{line}
use Rattle.rb_json.specs.declared.form.LineForm.{LineForm}
use Rattle.rb_json.specs.declared.form.LineForm.TheVariants.{Words, Json}
use Rattle.rb_loader.specs.CostCommand.{PrintsCost}
use Rattle.rb_loader.specs.Explained.{PrintsExplanation}
use Rattle.rb_loader.specs.declared.program.Bounds.{Bounds}
use Rattle.rb_run_commands.specs.Check.{PrintsCheck}
use Rattle.rb_run_commands.specs.TapedRun.{PrintsRun}
use Rattle.rb_run_commands.specs.declared.jobs_request.JobsRequest.{JobsRequest}
use Rattle.rb_script.specs.Simulated.{PrintsSim}
use Rattle.rb_service.specs.Command.{IsAllowed}
use Rattle.rb_service.specs.PrintedStream.{PrintsStream}
use Rattle.rb_service.specs.declared.options.StreamOptions.{StreamOptions}
use Rattle.rb_tape_commands.specs.Feed.{ends_of}
use Rattle.rb_tape_commands.specs.Follow.{FollowsRing}
use Rattle.rb_tape_commands.specs.Input.{framed_all, payload_events}
use Rattle.rb_tape_commands.specs.TapeText.{tape_lines}
use Rattle.rb_command_line.specs.CostSizes.{PrintsTurnSizes}
use Rattle.rb_command_line.specs.declared.cost_sizes.SizesFor.{SizesFor}
use Rattle.rb_command_line.specs.declared.cost_sizes.SizesFor.TheVariants.{Jobs, Turns}
use Rattle.rb_command_line.specs.declared.request.CommandLine.{CommandLine}
use Rattle.rb_command_line.specs.declared.request.ParsedCommand.{ParsedCommand}
use Rattle.rb_command_line.specs.declared.request.ParsedCommand.TheVariants as parsed
use Rattle.rb_command_line.specs.declared.request.Subcommand.{Subcommand}
use Rattle.rb_command_line.specs.declared.request.Subcommand.TheVariants.{Feed, Tape, Check, Explain, Cost, Run, Sim}

-- the bytes that a command's input has left, and those of its output and of its error output before and after the
-- command, each if it is known
pub record Streams : Type 0 where
  pub input : Option (List ℕ)
  pub out_before : Option (List ℕ)
  pub out_after : Option (List ℕ)
  pub err_before : Option (List ℕ)
  pub err_after : Option (List ℕ)

-- ---- the commands

-- the line with the end of the tape that `feed` wrote: its producer position and its consumer position
abbrev pub end_line : LineForm → ℕ × ℕ → List ℕ
end_line Words ends = line (codes "producer " ++ decimal ends.0 ++ codes " consumer " ++ decimal ends.1)
end_line Json ends = line (codes "{\"producer\":" ++ decimal ends.0 ++ codes ",\"consumer\":" ++ decimal ends.1 ++ codes "}")

-- the input consists of whole payloads that a ring of this size and start takes; exactly their tape went to the output,
-- and where it ends to the error output
pub record Feeds (size start : ℕ) (form : LineForm) (s : Streams) : Type 0 where
  pub size_is : IsRingSize size
  pub start_is : IsStartPosition start
  pub payloads : List (List ℕ)
  pub stand : AreItemsFrom size start (payload_events start payloads)
  pub whole : IfSome s.input (λ input. input ≡ framed_all payloads)
  pub written : Appends s.out_before s.out_after (tape size (payload_events start payloads))
  pub told : Appends s.err_before s.err_after (end_line form (ends_of start payloads))

-- the input is the tape of some records of a ring of this size and start, and exactly their lines were printed
pub record PrintsRecords (size start : ℕ) (form : LineForm) (s : Streams) : Type 0 where
  pub size_is : IsRingSize size
  pub start_is : IsStartPosition start
  pub records : List Item
  pub stand : AreItemsFrom size start records
  pub whole : IfSome s.input (λ input. input ≡ tape size records)
  pub printed : Appends s.out_before s.out_after (tape_lines form records)

-- the cost of the text's program was printed, followed by the sizes of rings if they were requested
abbrev pub PrintsCostWith : Bounds → LineForm → Option SizesFor → List ℕ → Option (List ℕ) → Option (List ℕ) → Type 0
PrintsCostWith bounds form None text before after = PrintsCost form None text bounds.ctx_len bounds.rings before after
PrintsCostWith bounds form (Some (Jobs jobs)) text before after = PrintsCost form (Some jobs) text bounds.ctx_len bounds.rings before after
PrintsCostWith bounds form (Some (Turns workers)) text before after = PrintsTurnSizes form workers text bounds.ctx_len bounds.rings before after

-- the input's program was run as these jobs, and their report was printed; the tape, if there is one, went to a writer
-- of this type
pub record RunsJobs (F : Type 0) (contents : F → Option (List ℕ)) (jobs : JobsRequest) (is_taped : Bool) (s : Streams) : Type 0 where
  pub size_is : IsRingSize jobs.size
  pub start_is : IsStartPosition jobs.start
  pub workers_are : IsWorkerCount jobs.workers
  pub printed : PrintsRun F contents is_taped s.input jobs s.out_before s.out_after s.err_before s.err_after

-- what a command did with its input; `contents` are the bytes of a tape's file, if they are known
abbrev pub CarriesOut : (F : Type 0) → (F → Option (List ℕ)) → Subcommand → Streams → Type 0
CarriesOut F contents (Feed size start retries form) s = Feeds size start form s
CarriesOut F contents (Tape size start form) s = PrintsRecords size start form s
CarriesOut F contents (Check bounds form portable) s = IfSome s.input (λ text. PrintsCheck portable text bounds.ctx_len bounds.rings form s.out_before s.out_after)
CarriesOut F contents (Explain bounds form portable) s = IfSome s.input (λ text. PrintsExplanation portable form text bounds.ctx_len bounds.rings s.out_before s.out_after)
CarriesOut F contents (Cost bounds form sizes) s = IfSome s.input (λ text. PrintsCostWith bounds form sizes text s.out_before s.out_after)
CarriesOut F contents (Run jobs file) s = RunsJobs F contents jobs (is_some file) s
CarriesOut F contents (Sim draw form) s = IfSome s.input (λ text. PrintsSim form draw text s.out_before s.out_after)

-- ---- any command

-- the command was carried out over the input; or, if it names a file, over that file, whose bytes no contract knows
pub record CarriesOutOver (F : Type 0) (contents : F → Option (List ℕ)) (asked : CommandLine) (s : Streams) : Type 0 where
  pub read : Option (List ℕ)
  pub reads_input : asked.file ≡ None → read ≡ s.input
  pub carried_out : CarriesOut F contents asked.request (record s { input = read })

-- The options are allowed, a stream was run with them over the input, or over the file that they name, and the counters
-- of its report were printed on the error output, and nothing else.
pub record Streamed (options : StreamOptions) (s : Streams) : Type 0 where
  pub allowed : IsAllowed options
  pub counters : List ℕ
  pub printed : PrintsStream options s.input [] counters
  pub told : Appends s.err_before s.err_after counters

-- what a command did that ended with status 0
abbrev pub Executes : (F : Type 0) → (F → Option (List ℕ)) → ParsedCommand → Streams → Type 0
Executes F contents (parsed.Command asked) s = CarriesOutOver F contents asked s
Executes F contents (parsed.Stream options) s = Streamed options s
Executes F contents (parsed.Follow asked) s = FollowsRing asked.form asked.from s.out_before s.out_after
