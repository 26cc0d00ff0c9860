-- What is printed for a stream's report, as bytes (own).
use Rattle.std.specs.Prelude.{ℕ, ◌+◌, ◌==◌, if◌then◌else◌, List, [], ◌∷◌, ◌++◌, codes}
use Rattle.std.specs.Fmt.{decimal}
use Rattle.rb_history.specs.declared.answers.Counts.{Counts}
use Rattle.rb_chapter_ring.specs.OpenedRing.{told_counts}
use Rattle.rb_dealing.specs.Dealt.{saturated}
use Rattle.rb_io.specs.Lines.{line}
use Rattle.rb_run_commands.specs.ReportLines.{records_line}
use Rattle.rb_source.specs.declared.counts.ContextCounts.{ContextCounts}
use Rattle.rb_workers.specs.declared.opened.Ended.{Ended}
use Rattle.rb_stream.specs.declared.report.StreamReport.{StreamReport}
use Rattle.rb_stream_worker.specs.declared.result_counts.ResultCounts.{ResultCounts}

-- the number of contexts that were read: those that the source gave, and those that it skipped for their length
abbrev pub contexts_read : ℕ → ContextCounts → ℕ
contexts_read given counts = saturated (given + counts.skipped)

-- the contexts that were read, run by every program, dropped, skipped for their length, and cut
abbrev pub contexts_line : (read run dropped : ℕ) → ContextCounts → List ℕ
contexts_line read run dropped counts =
    line (codes "contexts read " ++ decimal read ++ codes " run " ++ decimal run ++ codes " dropped " ++ decimal dropped
    ++ codes " skipped " ++ decimal counts.skipped ++ codes " cut " ++ decimal counts.cut)

-- how many runs of this program returned this result, if any did
abbrev pub result_line : (program value runs : ℕ) → List ℕ
result_line program value runs =
    if runs == 0 then [] else line (codes "program " ++ decimal program ++ codes " result " ++ decimal value ++ codes " runs " ++ decimal runs)

-- the lines of results, numbered from this one on
abbrev pub result_lines_from : (program value : ℕ) → List ℕ → List ℕ
result_lines_from program value [] = []
result_lines_from program value (runs ∷ more) = result_line program value runs ++ result_lines_from program (value + 1) more

-- how many runs of this program returned a result that is not counted individually, if any did
abbrev pub other_line : (program runs : ℕ) → List ℕ
other_line program runs = if runs == 0 then [] else line (codes "program " ++ decimal program ++ codes " other runs " ++ decimal runs)

-- the results of a program: those that are counted individually, and all others together
abbrev pub program_lines : ℕ → ResultCounts → List ℕ
program_lines program counts = result_lines_from program 0 counts.below.items ++ other_line program counts.other

-- the results of programs, numbered from this one on
abbrev pub programs_lines_from : ℕ → List ResultCounts → List ℕ
programs_lines_from program [] = []
programs_lines_from program (counts ∷ more) = program_lines program counts ++ programs_lines_from (program + 1) more

-- how many reservations and outputs got a record, and how many were refused
abbrev pub requests_part : Counts → List ℕ
requests_part counts = codes " made " ++ decimal counts.made ++ codes " refused " ++ decimal counts.refused ++ codes " "

-- the line of a ring, by its name
abbrev pub ring_line : List ℕ → Counts → List ℕ
ring_line name counts = codes "ring " ++ name ++ requests_part counts ++ records_line counts

-- the lines of rings, each by its name
abbrev pub rings_lines : {S : Type 0} → List (List ℕ) → List (Ended S) → List ℕ
rings_lines (name ∷ names) (ended ∷ more) = ring_line name (told_counts ended.closing.at_end) ++ rings_lines names more
rings_lines _ _ = []

-- the counters: those of the contexts, of each program's results and of each ring, and the failures that no ring
-- explains
abbrev pub counters : {S : Type 0} → StreamReport S → ContextCounts → List (List ℕ) → List ℕ
counters report contexts names =
    contexts_line (contexts_read report.contexts contexts) report.ran report.dropped contexts ++ programs_lines_from 0 report.results.items
    ++ rings_lines names report.rings.items ++ line (codes "unlogged " ++ decimal report.unlogged)
