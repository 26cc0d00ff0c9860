-- The output of `run` for its report, as bytes (own).
use Rattle.std.specs.Prelude.{ℕ, ◌+◌, ◌==◌, if◌then◌else◌, List, [], ◌∷◌, ◌++◌, codes}
use Rattle.std.specs.Fmt.{decimal}
use Rattle.std.specs.List.{flat_map}
use Rattle.rb_history.specs.declared.answers.Counts.{Counts}
use Rattle.rb_history.specs.declared.tally.Tally.{Tally}
use Rattle.rb_chapter_ring.specs.OpenedRing.{told_counts}
use Rattle.rb_workers.specs.declared.opened.Ended.{Ended}
use Rattle.rb_workers.specs.declared.opened.JobsReport.{JobsReport}
use Rattle.rb_io.specs.Lines.{line}
use Rattle.rb_json.specs.Json.{json_number}
use Rattle.rb_json.specs.declared.form.LineForm.{LineForm}
use Rattle.rb_json.specs.declared.form.LineForm.TheVariants.{Words, Json}

-- the line with the counts of this worker's seat
abbrev pub tally_line : ℕ → Tally → List ℕ
tally_line worker tally =
    line (codes "worker " ++ decimal worker ++ codes " made " ++ decimal tally.made ++ codes " refused " ++ decimal tally.refused ++ codes " submitted " ++ decimal tally.submitted
    ++ codes " discarded " ++ decimal tally.discarded)

-- the lines of the workers' seats; the first worker has this number
abbrev pub tally_lines_from : ℕ → List Tally → List ℕ
tally_lines_from worker [] = []
tally_lines_from worker (tally ∷ more) = tally_line worker tally ++ tally_lines_from (worker + 1) more

-- what happened to a ring's records, to the end of the line
abbrev pub records_line : Counts → List ℕ
records_line counts =
    line (codes "consumed " ++ decimal counts.consumed ++ codes " discarded " ++ decimal counts.discarded ++ codes " waiting " ++ decimal counts.waiting ++ codes " busy " ++ decimal counts.busy)

-- the line of a ring's counts
abbrev pub counts_line : Counts → List ℕ
counts_line counts = codes "ring made " ++ decimal counts.made ++ codes " " ++ records_line counts

-- the lines of a closed ring: the counts of each worker's seat, and those of the ring across all its chapters
abbrev pub closing_lines : {S : Type 0} → Ended S → List ℕ
closing_lines ended = tally_lines_from 0 ended.tallies.items ++ counts_line (told_counts ended.closing.at_end)

-- the lines of each ring, and the number of jobs that ended with a record handed back
abbrev pub report_text : {S : Type 0} → JobsReport S → List ℕ
report_text report = flat_map closing_lines report.rings.items ++ line (codes "strays " ++ decimal report.strays)

-- ---- the same as JSON objects, one per line

-- this worker's seat at this ring, and the number of records it was granted
unfoldable pub grant_fields : (ring worker : ℕ) → Tally → List ℕ
grant_fields ring worker tally = codes "{\"ring\":" ++ json_number ring ++ codes ",\"worker\":" ++ json_number worker ++ codes ",\"made\":" ++ json_number tally.made

-- how often it was refused a record, and the numbers of its records that were submitted and discarded
unfoldable pub outcome_fields : Tally → List ℕ
outcome_fields tally =
    codes ",\"refused\":" ++ json_number tally.refused ++ codes ",\"submitted\":" ++ json_number tally.submitted ++ codes ",\"discarded\":" ++ json_number tally.discarded

abbrev pub tally_object : (ring worker : ℕ) → Tally → List ℕ
tally_object ring worker tally = line (grant_fields ring worker tally ++ outcome_fields tally ++ codes "}")

-- the objects of a ring's seats; the first worker has this number
abbrev pub tally_objects_from : (ring worker : ℕ) → List Tally → List ℕ
tally_objects_from ring worker [] = []
tally_objects_from ring worker (tally ∷ more) = tally_object ring worker tally ++ tally_objects_from ring (worker + 1) more

-- this ring, and the numbers of its records that were made and consumed
unfoldable pub consumed_fields : ℕ → Counts → List ℕ
consumed_fields ring counts = codes "{\"ring\":" ++ json_number ring ++ codes ",\"made\":" ++ json_number counts.made ++ codes ",\"consumed\":" ++ json_number counts.consumed

-- the numbers of its other records
unfoldable pub other_fields : Counts → List ℕ
other_fields counts =
    codes ",\"discarded\":" ++ json_number counts.discarded ++ codes ",\"waiting\":" ++ json_number counts.waiting ++ codes ",\"busy\":" ++ json_number counts.busy

abbrev pub counts_object : ℕ → Counts → List ℕ
counts_object ring counts = line (consumed_fields ring counts ++ other_fields counts ++ codes "}")

-- the objects of a closed ring
abbrev pub closing_objects : {S : Type 0} → ℕ → Ended S → List ℕ
closing_objects ring ended = tally_objects_from ring 0 ended.tallies.items ++ counts_object ring (told_counts ended.closing.at_end)

-- the objects of rings; the first one has this number
abbrev pub closing_objects_from : {S : Type 0} → ℕ → List (Ended S) → List ℕ
closing_objects_from ring [] = []
closing_objects_from ring (ended ∷ more) = closing_objects ring ended ++ closing_objects_from (ring + 1) more

abbrev pub report_objects : {S : Type 0} → JobsReport S → List ℕ
report_objects report =
    closing_objects_from 0 report.rings.items ++ line (codes "{\"strays\":" ++ json_number report.strays ++ codes ",\"unlogged\":" ++ json_number report.unlogged ++ codes "}")

-- ---- what is reported besides, in either form

-- nothing if every reservation and output was granted, or is refused in the ring's history; otherwise the number of
-- those that were neither, with an explanation
abbrev pub unlogged_text : ℕ → List ℕ
unlogged_text unlogged =
    if unlogged == 0 then [] else line (codes "unlogged " ++ decimal unlogged ++ codes " (reservations and outputs that found no room in the ring's chapter, no free hand or no memory)")

-- ---- the report in the requested form

abbrev pub report_lines : {S : Type 0} → LineForm → JobsReport S → List ℕ
report_lines Words report = report_text report
report_lines Json report = report_objects report
