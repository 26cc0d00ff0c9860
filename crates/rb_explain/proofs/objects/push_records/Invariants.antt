use Rattle.std.proofs.Common.{◌≡◌, ◌++◌, take}
use Rattle.std.specs.Prelude.{string_bytes}
use Rattle.std.specs.List.{flat_map}
use Rattle.rb_explain.specs.Objects.{record_field}
use Rattle.rb_explain.proofs.objects.push_records.Given as goal

abbrev pub invariant-loop-reference : goal.invariant-loop-reference
invariant-loop-reference l = string_bytes l.text ≡ string_bytes l.fn.text ++ flat_map record_field (take l.reference-index l.held)
