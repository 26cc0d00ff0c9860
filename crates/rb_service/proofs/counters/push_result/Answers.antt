use Rattle.std.proofs.Common.{◌≡◌, rules}
use Rattle.rb_service.proofs.Printing.{result_written}
use Rattle.rb_service.proofs.counters.push_result.Goals as goal

pub returns : goal.returns
returns c =
    let some : ¬ (c.args.runs ≡ 0) = search rules in
    record { line = result_written _ _ _ c.args.program c.args.value c.args.runs some c.writeln.ensures.bytes }
