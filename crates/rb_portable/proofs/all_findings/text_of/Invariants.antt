use Rattle.std.proofs.Common.{◌≡◌, take}
use Rattle.std.specs.Prelude.{string_bytes}
use Rattle.std.specs.List.{flat_map}
use Rattle.rb_portable.specs.Findings.{finding_text}
use Rattle.rb_portable.proofs.all_findings.text_of.Given as goal

abbrev pub invariant-loop-finding : goal.invariant-loop-finding
invariant-loop-finding l = string_bytes l.text ≡ flat_map (finding_text l.form) (take l.finding-index l.found)
