-- The helpers (bpf-helpers(7); the numbers are the kernel's): the checks on their arguments in order, and the state
-- after the call (own profile).
use Rattle.std.specs.Prelude.{ℕ, pos, false, ◌==◌, ◌++◌, ◌∷◌, [], Option, Some, None, Result, Ok, Err, if◌then◌else◌}
use Rattle.rb_verifier.specs.declared.limits.Limits.{Limits}
use Rattle.rb_verifier.specs.declared.helper.Helper.{Helper}
use Rattle.rb_verifier.specs.declared.helper.Helper.TheVariants.{Output, Reserve, Submit, Discard, Query}
use Rattle.rb_verifier.specs.declared.rule.Rule.{Rule}
use Rattle.rb_verifier.specs.declared.rule.Rule.TheVariants as rule
use Rattle.rb_verifier.specs.declared.state.AbsState.{AbsState}
use Rattle.rb_verifier.specs.declared.state.Effect.{Effect}
use Rattle.rb_verifier.specs.declared.value.Abs.{Abs}
use Rattle.rb_verifier.specs.declared.value.Abs.TheVariants.{Unreadable, Number, Perhaps}
use Rattle.rb_verifier.specs.ReferenceChanges.{given_back_state}
use Rattle.rb_verifier.specs.ValueChecks.{◌>>=◌, refused_if, check_tested, check_number, check_inside, check_ring, check_part_pointer, check_known_size, check_record_size, check_record_start}
use Rattle.rb_verifier.specs.KeptPointers.{known_in, byte_behind, check_data}
use Rattle.rb_verifier.specs.References.{is_full}
use Rattle.rb_verifier.specs.AbstractStates.{value_in, put, effect_on_both}

abbrev pub helper_number : Helper → ℕ
helper_number Output = 130
helper_number Reserve = 131
helper_number Submit = 132
helper_number Discard = 133
helper_number Query = 134

-- the helper with this number
abbrev pub helper_of : ℕ → Option Helper
helper_of n =
    if n == 130 then Some Output else (if n == 131 then Some Reserve else (if n == 132 then Some Submit else (if n == 133 then Some Discard else (if n == 134 then Some Query else None))))

-- after a call, r0 holds the result, and r1 to r5 are unreadable
abbrev pub after_answer : Abs → AbsState → AbsState
after_answer v s = put (put (put (put (put (put s 0 v) 1 Unreadable) 2 Unreadable) 3 Unreadable) 4 Unreadable) 5 Unreadable

-- after a reservation, a reference is held to a new record of a ring, or to null
abbrev pub after_reserve : ℕ → ℕ → ℕ → AbsState → AbsState
after_reserve unit ring size s =
    after_answer (Perhaps unit) (record s { held = s.held ++ (record { id = unit; ring = ring; size = size; sure = false }) ∷ [] })

-- output(ring, data, size, flags)
abbrev pub check_output : Limits → AbsState → Result Effect Rule
check_output limits s = do
  _ ← check_ring (value_in s 1)
  _ ← check_tested (value_in s 2)
  _ ← check_part_pointer (value_in s 2)
  size ← check_known_size (value_in s 3)
  _ ← check_inside limits s.held (value_in s 2) (pos 0) size
  _ ← check_data (byte_behind (value_in s 2) (pos 0)) size (known_in s.places)
  _ ← check_number rule.HelperArgument (value_in s 4)
  Ok (effect_on_both (after_answer Number s))

-- reserve(ring, size, flags)
abbrev pub check_reserve : ℕ → AbsState → Result Effect Rule
check_reserve unit s = do
  ring ← check_ring (value_in s 1)
  size ← check_record_size (value_in s 2)
  _ ← check_number rule.HelperArgument (value_in s 3)
  _ ← refused_if (is_full s.held) rule.TooManyReferences
  Ok (effect_on_both (after_reserve unit ring size s))

-- submit(record, flags) and discard(record, flags)
abbrev pub check_give_back : AbsState → Result Effect Rule
check_give_back s = do
  id ← check_record_start (value_in s 1)
  _ ← check_number rule.HelperArgument (value_in s 2)
  Ok (effect_on_both (after_answer Unreadable (given_back_state id s)))

-- query(ring, what)
abbrev pub check_query : AbsState → Result Effect Rule
check_query s = do
  _ ← check_ring (value_in s 1)
  _ ← check_number rule.HelperArgument (value_in s 2)
  Ok (effect_on_both (after_answer Number s))

-- the call of a helper
abbrev pub check_call : Limits → ℕ → Option Helper → AbsState → Result Effect Rule
check_call limits unit None s = Err rule.UnknownHelper
check_call limits unit (Some Output) s = check_output limits s
check_call limits unit (Some Reserve) s = check_reserve unit s
check_call limits unit (Some Submit) s = check_give_back s
check_call limits unit (Some Discard) s = check_give_back s
check_call limits unit (Some Query) s = check_query s
