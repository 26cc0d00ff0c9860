-- The abstract state before an instruction, and the order of abstract states (own profile).
use Rattle.std.specs.Prelude.{◌≡◌, ◌⊎◌, ℕ, pos, [], length, slice_set, slice_index_or, replicate, Option, Some, None, Result, Ok, Err}
use Rattle.rb_verifier.specs.declared.rule.Rule.{Rule}
use Rattle.rb_verifier.specs.declared.rule.StepFault.{StepFault}
use Rattle.rb_verifier.specs.declared.rule.StepFault.TheVariants as fault
use Rattle.rb_verifier.specs.declared.value.Abs.{Abs}
use Rattle.rb_verifier.specs.declared.value.Abs.TheVariants.{Unreadable, Ctx, Stack}
use Rattle.rb_verifier.specs.KeptPointers.{known_in, all_data, MayKeepPointer}
use Rattle.rb_verifier.specs.declared.state.AbsState.{AbsState}
use Rattle.rb_verifier.specs.declared.state.Effect.{Effect}
use Rattle.rb_verifier.specs.AbstractValues.{BelowValue}

-- the abstract value of a register
abbrev pub value_in : AbsState → ℕ → Abs
value_in s r = slice_index_or s.values r Unreadable

-- the state after a register is set
abbrev pub put : AbsState → ℕ → Abs → AbsState
put s r v = record s { values = slice_set s.values r v }

-- at entry, r1 points to the context, r10 to the stack, the other registers are unreadable, no reference is held, and
-- the stack holds data
abbrev pub entry_state : AbsState
entry_state = record {
  values = slice_set (slice_set (replicate 11 Unreadable) 1 (Ctx (pos 0))) 10 (Stack (pos 0));
  held = [];
  places = all_data;
}

-- the effect that has the same state along both edges
abbrev pub effect_on_both : AbsState → Effect
effect_on_both s = record { next = s; jump = s }

-- the state along a jump's edge: the returned one if present, otherwise the state along the other edge
abbrev pub along_jump : Option AbsState → AbsState → AbsState
along_jump None next = next
along_jump (Some jump) next = jump

-- the effect of a step in place that can't fail to allocate, from its result and the state that it leaves: a broken
-- rule, or the states along both edges
abbrev pub effect_left : Result (Option AbsState) Rule → AbsState → Result Effect Rule
effect_left (Ok jump) next = Ok (record { next = next; jump = along_jump jump next })
effect_left (Err broken) next = Err broken

-- the step may need memory: the stack may hold a pointer, before the step or after it
abbrev pub MayWantMemory : AbsState → Result Effect Rule → Type 0
MayWantMemory s answer = MayKeepPointer s.places ⊎ ((effect : Effect) × (answer ≡ Ok effect) × MayKeepPointer effect.next.places)

-- the result of a step in place and the state that it leaves correspond to this answer, a broken rule or an effect; or
-- an allocation failed, which is possible only if the step may need memory
abbrev pub IsLeft : Result (Option AbsState) StepFault → AbsState → Result Effect Rule → Type 0
IsLeft (Ok jump) next answer = answer ≡ Ok (record { next = next; jump = along_jump jump next })
IsLeft (Err (fault.Rule broken)) next answer = answer ≡ Err broken
IsLeft (Err fault.Memory) next answer = MayWantMemory next answer

-- the result of a step from a state corresponds to this answer, a broken rule or an effect; or an allocation failed,
-- which is possible only if the step may need memory
abbrev pub IsStep : AbsState → Result Effect StepFault → Result Effect Rule → Type 0
IsStep s (Ok effect) answer = answer ≡ Ok effect
IsStep s (Err (fault.Rule broken)) answer = answer ≡ Err broken
IsStep s (Err fault.Memory) answer = MayWantMemory s answer

-- the order of states: the references are the same, and the abstract value of each register and of each place is below
pub record Below (s t : AbsState) : Type 0 where
  pub held : s.held ≡ t.held
  pub count : length s.values ≡ length t.values
  pub values : (r : ℕ) → BelowValue (value_in s r) (value_in t r)
  pub places : (place : ℕ) → BelowValue (known_in s.places place) (known_in t.places place)

-- the order of effects
pub record EffectBelow (e f : Effect) : Type 0 where
  pub next : Below e.next f.next
  pub jump : Below e.jump f.jump
