-- How each change affects one abstract value.
use Rattle.rb_verifier.specs.declared.value.Abs.{Abs}
use Rattle.rb_verifier.specs.declared.reference_changes.Change.{Change}
use Rattle.rb_verifier.specs.declared.reference_changes.Change.TheVariants.{IsNull, IsThere, GivenBack}
use Rattle.rb_verifier.specs.ReferenceChanges.{if_null, place_if_null, if_there, if_given_back}

abbrev pub after_change : Change → Abs → Abs
after_change (IsNull id) = if_null id
after_change (IsThere id) = if_there id
after_change (GivenBack id) = if_given_back id

-- how each change affects one place
abbrev pub place_after : Change → Abs → Abs
place_after (IsNull id) = place_if_null id
place_after (IsThere id) = if_there id
place_after (GivenBack id) = if_given_back id
