use Rattle.rb_stream.proofs.refusals.gives_nothing.Goals as goal

pub returns : goal.returns
returns g c = record { law = g.met.I.Source.gives_nothing }
