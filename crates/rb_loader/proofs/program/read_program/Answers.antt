use Rattle.rb_loader.proofs.StandIns.{program_for_input, refusal_for_input}
use Rattle.rb_loader.proofs.program.read_program.Goals as goal

pub returns-clause-accepted : goal.returns-clause-accepted
returns-clause-accepted g c =
    program_for_input (g.R.Read.remaining c.args.input.now) _ c.as_str.result.now c.as_str.ensures.value c.in_ok-text.ensures.stands c.args.bounds.ctx_len c.args.bounds.rings c.accept.result c.accept.ensures.accepted

pub returns-clause-refused : goal.returns-clause-refused
returns-clause-refused g c =
    refusal_for_input (g.R.Read.remaining c.args.input.now) _ c.as_str.result.now c.as_str.ensures.value c.in_ok-text.ensures.stands c.args.bounds.ctx_len c.args.bounds.rings c.accept.result c.accept.ensures.refused
