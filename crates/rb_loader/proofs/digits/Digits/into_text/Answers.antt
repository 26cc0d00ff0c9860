use Rattle.std.proofs.Common.{sym}
use Rattle.std.proofs.lemmas.Bool.{true≢false}
use Rattle.rb_loader.proofs.DigitLists.{digits_utf8}
use Rattle.rb_loader.proofs.digits.Digits.into_text.Goals as goal

pub unreachable-requires : goal.unreachable-requires
unreachable-requires c = true≢false (sym (c.in-Err.ensures.succeeds (digits_utf8 c.self.inside.kept.items c.self.invariant.0)))
