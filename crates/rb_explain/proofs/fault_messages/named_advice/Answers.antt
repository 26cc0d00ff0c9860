use Rattle.std.proofs.Common.{rules}
use Rattle.rb_explain.proofs.PlainTexts.{named_plain}
use Rattle.rb_explain.proofs.fault_messages.named_advice.Goals as goal

pub returns-clause-plain : goal.returns-clause-plain
returns-clause-plain c = search (rules, named_plain)
