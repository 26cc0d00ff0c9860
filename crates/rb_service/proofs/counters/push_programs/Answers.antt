use Rattle.std.proofs.Common.{arith}
use Rattle.rb_service.proofs.Printing.{programs_more}
use Rattle.rb_service.proofs.counters.push_programs.Goals as goal

pub loop-program-preserved : goal.loop-program-preserved
loop-program-preserved c =
    programs_more c.args.results.now c.loop-program.program c.index-results-program.result _ _ _ (omega (arith, c.loop-program-test.true)) c.index-results-program.is c.loop-program.invariant c.in_ok-push_results.ensures.lines
