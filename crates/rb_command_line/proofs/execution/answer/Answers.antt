use Rattle.std.proofs.Common.{refl}
use Rattle.rb_command_line.specs.declared.request.Subcommand.TheVariants.{Check, Cost, Explain, Run, Sim}
use Rattle.rb_command_line.proofs.SingleCommands.{command_ends, feed_ends, tape_ends}
use Rattle.rb_command_line.proofs.execution.answer.Goals as goal

pub returns-in_ok-ends-in-Feed : goal.returns-in_ok-ends-in-Feed
returns-in_ok-ends-in-Feed g c = record {
  ended = feed_ends g.row.F.Denot g.F.Write.contents c.args.asked.now.request _ c.in-Feed.size c.in-Feed.start c.in-Feed.retries _ c.in_ok-ends-in-Feed.ends c.in-Feed.is c.in_ok-ends-in-Feed.ensures.bounds
      c.in_ok-ends-in-Feed.ensures.fed refl;
}

pub returns-in_ok-tape_metered-in-Tape : goal.returns-in_ok-tape_metered-in-Tape
returns-in_ok-tape_metered-in-Tape g c = record {
  ended = tape_ends g.row.F.Denot g.F.Write.contents c.args.asked.now.request _ c.in-Tape.size c.in-Tape.start c.in-Tape.form c.in-Tape.is c.in_ok-tape_metered-in-Tape.ensures.bounds
      c.in_ok-tape_metered-in-Tape.ensures.printed;
}

pub returns-in_ok-check-in-Check : goal.returns-in_ok-check-in-Check
returns-in_ok-check-in-Check g c = record {
  ended = command_ends g.row.F.Denot g.F.Write.contents c.args.asked.now.request _ (Check c.in-Check.bounds c.in-Check.form c.in-Check.portable) c.in-Check.is (refl, c.in_ok-check-in-Check.ensures.printed);
}

pub returns-in_ok-explain-in-Explain : goal.returns-in_ok-explain-in-Explain
returns-in_ok-explain-in-Explain g c = record {
  ended = command_ends g.row.F.Denot g.F.Write.contents c.args.asked.now.request _ (Explain c.in-Explain.bounds c.in-Explain.form c.in-Explain.portable) c.in-Explain.is (refl, c.in_ok-explain-in-Explain.ensures.explained);
}

pub returns-in_ok-cost_with_sizes-in-Cost : goal.returns-in_ok-cost_with_sizes-in-Cost
returns-in_ok-cost_with_sizes-in-Cost g c = record {
  ended = command_ends g.row.F.Denot g.F.Write.contents c.args.asked.now.request _ (Cost c.in-Cost.bounds c.in-Cost.form c.in-Cost.sizes) c.in-Cost.is (refl, c.in_ok-cost_with_sizes-in-Cost.ensures.printed);
}

pub returns-in_ok-run_reported-in-Run : goal.returns-in_ok-run_reported-in-Run
returns-in_ok-run_reported-in-Run g c = record {
  ended = command_ends g.row.F.Denot g.F.Write.contents c.args.asked.now.request _ (Run c.in-Run.jobs c.in-Run.tape) c.in-Run.is (refl, c.in_ok-run_reported-in-Run.ensures.ran);
}

pub returns-in_ok-sim_reported-in-Sim : goal.returns-in_ok-sim_reported-in-Sim
returns-in_ok-sim_reported-in-Sim g c = record {
  ended = command_ends g.row.F.Denot g.F.Write.contents c.args.asked.now.request _ (Sim c.in-Sim.draw c.in-Sim.form) c.in-Sim.is (refl, c.in_ok-sim_reported-in-Sim.ensures.printed);
}
