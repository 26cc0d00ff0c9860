use Rattle.std.proofs.Common.{◌≢◌, rules, arith}
use Rattle.rb_run_commands.proofs.Printing.{unlogged_written}
use Rattle.rb_run_commands.proofs.report_lines.text_of_unlogged.Goals as goal

pub returns : goal.returns
returns c =
    let some : c.args.unlogged ≢ 0 = search rules in
    record { text = unlogged_written _ _ c.args.unlogged some c.new-text.ensures.bytes c.in_ok-writeln.ensures.bytes }
