use Rattle.std.proofs.Common.{◌≡◌, ◌<◌, get_or, length, subst}
use Rattle.rb_run_commands.proofs.Printing.{closing_written}
use Rattle.rb_run_commands.proofs.report_lines.text_of_report.Goals as goal

pub loop-ended-preserved : goal.loop-ended-preserved
loop-ended-preserved g c =
    let i = c.loop-ended.ended-index in
    let ended = c.ended-item.result in
    let same = c.deref-ended-items.ensures.value in
    closing_written _ _ c.args.report.now.rings.items i ended (subst (λ rings. i < length rings) same c.loop-ended-test.true) (subst (λ rings. ended ≡ get_or rings i ended) same c.ended-item.is) c.loop-ended.invariant c.in_ok-push_ended.ensures.lines
