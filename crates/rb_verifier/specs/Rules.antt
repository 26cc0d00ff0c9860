-- The rules' numbers (own profile).
use Rattle.std.specs.Prelude.{ℕ}
use Rattle.rb_verifier.specs.declared.rule.Rule.{Rule}
use Rattle.rb_verifier.specs.declared.rule.Rule.TheVariants.{Unreadable, FramePointerWritten, PointerArithmetic, OutsidePart, ContextWritten, PointerStored, HelperArgument, SizeNotKnown, TooManyReferences, ReferenceLeft, ReferencesDiffer, ResultNotNumber, PointerCompared, NullNotTested, UnknownHelper}

-- the rule's number, from 1 to 15
abbrev pub rule_number : Rule → ℕ
rule_number Unreadable = 1
rule_number FramePointerWritten = 2
rule_number PointerArithmetic = 3
rule_number OutsidePart = 4
rule_number ContextWritten = 5
rule_number PointerStored = 6
rule_number HelperArgument = 7
rule_number SizeNotKnown = 8
rule_number TooManyReferences = 9
rule_number ReferenceLeft = 10
rule_number ReferencesDiffer = 11
rule_number ResultNotNumber = 12
rule_number PointerCompared = 13
rule_number NullNotTested = 14
rule_number UnknownHelper = 15
