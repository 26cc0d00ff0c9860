use Rattle.rb_shared_ring.proofs.WholeLaws.{each-answer-is-whole}
use Rattle.rb_shared_ring.proofs.answer_laws.each_answer_is_whole.Goals as goal

pub returns : goal.returns
returns c = record { law = each-answer-is-whole }
