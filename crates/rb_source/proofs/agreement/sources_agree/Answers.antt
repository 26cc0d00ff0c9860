use Rattle.rb_source.proofs.Unique.{agree}
use Rattle.rb_source.proofs.agreement.sources_agree.Goals as goal

pub returns : goal.returns
returns g c = record { law = agree g.A.Read.remaining g.B.Read.remaining }
