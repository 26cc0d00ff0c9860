use Rattle.rb_dealing.proofs.work.runs_compose.Goals as goal

pub returns : goal.returns
returns g c = record { law = g.met.W.Work.runs_both }
