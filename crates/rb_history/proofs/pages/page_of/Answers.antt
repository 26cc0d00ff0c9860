use Rattle.std.proofs.Common.{◌/◌, ap}
use Rattle.rb_history.proofs.Masks.{mask-is}
use Rattle.rb_history.proofs.pages.page_of.Goals as goal

pub returns : goal.returns
returns c = record { value = ap (λ x. x / 4096) (mask-is c.args.size c.args.position c.requires.size) }
