-- A property of references that a null test preserves, and that each new reference has, is preserved by each step for
-- all references that are held.
use Rattle.std.proofs.Common.{◌≡◌, ℕ, ◌<◌, refl, subst, Bool, true, false, cond, List, [], ◌∷◌, ◌++◌, map, Result, Ok, Err, Option, Some, None}
use Rattle.std.specs.Prelude.{◌==◌, ℤ, pos, filter, not, nat_le, if◌then◌else◌}
use Rattle.std.specs.List.{AllByRecursion}
use Rattle.rb_insn.specs.declared.insn.Insn.{Insn}
use Rattle.rb_insn.specs.declared.insn.Insn.TheVariants.{Binary, Division, Negate, Move, MoveExtended32, MoveExtended64, Reorder, Jump, JumpFar, Branch, Call, Exit, LoadNumber, LoadRing, Load, LoadSigned, StoreImmediate, StoreRegister}
use Rattle.rb_insn.specs.declared.insn.Operand.{Operand}
use Rattle.rb_insn.specs.declared.insn.Operand.TheVariants.{Immediate, Register}
use Rattle.rb_insn.specs.declared.insn.Width.{Width}
use Rattle.rb_insn.specs.declared.insn.Width.TheVariants.{W32, W64}
use Rattle.rb_insn.specs.declared.insn.Condition.{Condition}
use Rattle.rb_insn.specs.declared.insn.Condition.TheVariants.{Equal, NotEqual}
use Rattle.rb_insn.specs.declared.reg.Reg.{Reg}
use Rattle.rb_insn.specs.Sizes.{byte_count, signed_byte_count}
use Rattle.rb_program.specs.Program.{unit_count}
use Rattle.rb_program.specs.Edges.{HasEdge, Edge, Next, Target}
use Rattle.rb_verifier.specs.declared.helper.Helper.{Helper}
use Rattle.rb_verifier.specs.declared.helper.Helper.TheVariants.{Output, Reserve, Submit, Discard, Query}
use Rattle.rb_verifier.specs.declared.limits.Limits.{Limits}
use Rattle.rb_verifier.specs.declared.references.Reference.{Reference}
use Rattle.rb_verifier.specs.declared.rule.Rule.{Rule}
use Rattle.rb_verifier.specs.declared.rule.Rule.TheVariants as rule
use Rattle.rb_verifier.specs.declared.state.AbsState.{AbsState}
use Rattle.rb_verifier.specs.declared.state.Effect.{Effect}
use Rattle.rb_verifier.specs.declared.value.Abs.{Abs}
use Rattle.rb_verifier.specs.declared.value.Abs.TheVariants.{Number, Known, Perhaps}
use Rattle.rb_verifier.specs.AbstractArithmetic.{operand_value, direction_of, check_arithmetic}
use Rattle.rb_verifier.specs.Branches.{null_test_of, check_branch}
use Rattle.rb_verifier.specs.ValueChecks.{◌>>=◌, refused_if, check_writable, check_readable, check_number, check_tested, check_not_context, check_inside, check_ring, check_part_pointer, check_known_size, check_record_size, check_record_start}
use Rattle.rb_verifier.specs.KeptPointers.{known_in, byte_behind, check_data, check_loaded, check_stored}
use Rattle.rb_verifier.specs.HelperChecks.{helper_of, check_call}
use Rattle.rb_verifier.specs.References.{is_empty, is_full, other_than, tested_in}
use Rattle.rb_verifier.specs.AbstractStates.{Below, value_in}
use Rattle.rb_verifier.specs.Annotation.{Annotation, along_edge, HoldsAt, IsValid}
use Rattle.rb_verifier.specs.VerifierChecks.{abstract_step, check_assign, check_copy, check_convert, check_unary, check_binary, check_ring_load, check_load, check_store, check_exit}

module _ (P : Reference → Type 0) (tested : (r : Reference) → P r → P (record r { sure = true })) where
  -- each reference that is held has the property
  abbrev pub AllHeld : List Reference → Type 0
  AllHeld held = AllByRecursion P held

  kept_filtered : (p : Reference → Bool) (held : List Reference) → AllHeld held → AllHeld (filter p held)
  kept_filtered p [] h = tt
  kept_filtered p (r ∷ held) h =
      let rest : AllHeld (filter p held) = kept_filtered p held h.1 in
      elim (p r) as (λ b. AllHeld (cond b (r ∷ filter p held) (filter p held))) [ true ↦ (h.0, rest) | false ↦ rest ]

  kept_one : (id : ℕ) (r : Reference) → P r → P (tested_in id r)
  kept_one id r h = elim (r.id == id) as (λ b. P (if b then record r { sure = true } else r)) [ true ↦ tested r h | false ↦ h ]

  kept_tested : (id : ℕ) (held : List Reference) → AllHeld held → AllHeld (map (tested_in id) held)
  kept_tested id [] h = tt
  kept_tested id (r ∷ held) h = (kept_one id r h.0, kept_tested id held h.1)

  kept_added : (held : List Reference) (new : Reference) → AllHeld held → P new → AllHeld (held ++ new ∷ [])
  kept_added [] new h k = (k, tt)
  kept_added (r ∷ held) new h k = (h.0, kept_added held new h.1 k)

  -- ---- the instruction table preserves it

  abbrev BothKept : Effect → Type 0
  BothKept e = AllHeld e.next.held × AllHeld e.jump.held

  abbrev GivesKept : Result Effect Rule → Type 0
  GivesKept (Ok e) = BothKept e
  GivesKept (Err broken) = Unit {0}

  -- after a check
  go : {A : Type 0} (m : Result A Rule) (f : A → Result Effect Rule) → ((x : A) → m ≡ Ok x → GivesKept (f x)) → GivesKept (m >>= f)
  go (Ok x) f k = k x refl
  go (Err broken) f k = tt

  -- a reservation adds a reference that has the property
  abbrev pub NewHolds : ℕ → AbsState → Option Helper → Type 0
  NewHolds unit s (Some Reserve) = (ring size : ℕ) → check_ring (value_in s 1) ≡ Ok ring → check_record_size (value_in s 2) ≡ Ok size → P (record { id = unit; ring = ring; size = size; sure = false })
  NewHolds unit s helper = Unit {0}

  -- so does the reservation of an instruction
  abbrev pub NewOf : ℕ → AbsState → Insn → Type 0
  NewOf unit s (Call helper) = NewHolds unit s (helper_of helper)
  NewOf unit s insn = Unit {0}

  module _ (limits : Limits) (unit : ℕ) (s : AbsState) (h : AllHeld s.held) where
    both : BothKept (record { next = s; jump = s })
    both = (h, h)

    without : (id : ℕ) → AllHeld (filter (other_than id) s.held)
    without id = kept_filtered (other_than id) s.held h

    abbrev arg : ℕ → Abs
    arg r = value_in s r

    call_keeps : (helper : Option Helper) → NewHolds unit s helper → GivesKept (check_call limits unit helper s)
    call_keeps None new = tt
    call_keeps (Some Output) new =
        go (check_ring (arg 1)) _ (λ _ _. go (check_tested (arg 2)) _ (λ _ _. go (check_part_pointer (arg 2)) _ (λ _ _. go (check_known_size (arg 3)) _ (λ size _.
        go (check_inside limits s.held (arg 2) (pos 0) size) _ (λ _ _. go (check_data (byte_behind (arg 2) (pos 0)) size (known_in s.places)) _ (λ _ _.
        go (check_number rule.HelperArgument (arg 4)) _ (λ _ _. both)))))))
    call_keeps (Some Reserve) new =
        go (check_ring (arg 1)) _ (λ ring first. go (check_record_size (arg 2)) _ (λ size second. go (check_number rule.HelperArgument (arg 3)) _ (λ _ _.
        go (refused_if (is_full s.held) rule.TooManyReferences) _ (λ _ _.
        let more = kept_added s.held (record { id = unit; ring = ring; size = size; sure = false }) h (new ring size first second) in (more, more)))))
    call_keeps (Some Submit) new = go (check_record_start (arg 1)) _ (λ id _. go (check_number rule.HelperArgument (arg 2)) _ (λ _ _. (without id, without id)))
    call_keeps (Some Discard) new = go (check_record_start (arg 1)) _ (λ id _. go (check_number rule.HelperArgument (arg 2)) _ (λ _ _. (without id, without id)))
    call_keeps (Some Query) new = go (check_ring (arg 1)) _ (λ _ _. go (check_number rule.HelperArgument (arg 2)) _ (λ _ _. both))

    compared_keeps : (v w : Abs) → GivesKept (check_branch None v w s)
    compared_keeps v w =
        go (check_readable v) _ (λ _ _. go (check_readable w) _ (λ _ _. go (check_number rule.PointerCompared v) _ (λ _ _. go (check_number rule.PointerCompared w) _ (λ _ _. both))))

    branch_keeps : (width : Width) (condition : Condition) (operand : Operand) (v w : Abs) → GivesKept (check_branch (null_test_of width condition operand) v w s)
    branch_keeps W64 Equal (Immediate (pos ℕ.zero)) v w = equal_keeps v w
      where
        equal_keeps : (v w : Abs) → GivesKept (check_branch (null_test_of W64 Equal (Immediate (pos ℕ.zero))) v w s)
        equal_keeps (Perhaps id) w = (kept_tested id s.held h, without id)
        equal_keeps v w = compared_keeps v w
    branch_keeps W64 NotEqual (Immediate (pos ℕ.zero)) v w = not_equal_keeps v w
      where
        not_equal_keeps : (v w : Abs) → GivesKept (check_branch (null_test_of W64 NotEqual (Immediate (pos ℕ.zero))) v w s)
        not_equal_keeps (Perhaps id) w = (without id, kept_tested id s.held h)
        not_equal_keeps v w = compared_keeps v w
    branch_keeps width condition operand v w = compared_keeps v w

    given_keeps : (dst : Reg) (v : Abs) → GivesKept (check_assign dst v s)
    given_keeps dst v = go (check_writable dst) _ (λ _ _. both)

    copied_keeps : (dst src : Reg) → GivesKept (check_copy dst src s)
    copied_keeps dst src = go (check_writable dst) _ (λ _ _. go (check_readable (arg src.number)) _ (λ _ _. both))

    converted_keeps : (insn : Insn) (dst src : Reg) → GivesKept (check_convert insn dst src s)
    converted_keeps insn dst src = go (check_writable dst) _ (λ _ _. go (check_number rule.PointerArithmetic (arg src.number)) _ (λ _ _. both))

    altered_keeps : (insn : Insn) (dst : Reg) → GivesKept (check_unary insn dst s)
    altered_keeps insn dst = go (check_writable dst) _ (λ _ _. go (check_number rule.PointerArithmetic (arg dst.number)) _ (λ _ _. both))

    operated_keeps : (direction : _) (insn : Insn) (dst : Reg) (operand : Operand) → GivesKept (check_binary direction insn dst operand s)
    operated_keeps direction insn dst operand =
        go (check_writable dst) _ (λ _ _. go (check_readable (arg dst.number)) _ (λ _ _. go (check_readable (operand_value operand s)) _ (λ _ _.
        go (check_arithmetic direction insn (arg dst.number) (operand_value operand s)) _ (λ v _. both))))

    ring_keeps : (dst : Reg) (ring : ℕ) → GivesKept (check_ring_load limits dst ring s)
    ring_keeps dst ring = go (check_writable dst) _ (λ _ _. go (refused_if (nat_le limits.rings ring) rule.HelperArgument) _ (λ _ _. both))

    loaded_keeps : (dst base : Reg) (by : ℤ) (len : ℕ) → GivesKept (check_load limits dst base by len s)
    loaded_keeps dst base by len =
        go (check_writable dst) _ (λ _ _. go (check_tested (arg base.number)) _ (λ _ _. go (check_inside limits s.held (arg base.number) by len) _ (λ _ _.
        go (check_loaded (byte_behind (arg base.number) by) len (known_in s.places)) _ (λ v _. both))))

    stored_keeps : (base : Reg) (by : ℤ) (len : ℕ) (v : Abs) → GivesKept (check_store limits base by len v s)
    stored_keeps base by len v =
        go (check_tested (arg base.number)) _ (λ _ _. go (check_not_context (arg base.number)) _ (λ _ _. go (check_inside limits s.held (arg base.number) by len) _ (λ _ _.
        go (check_stored (byte_behind (arg base.number) by) len v s.places) _ (λ places _. both))))

    ended_keeps : GivesKept (check_exit s)
    ended_keeps = go (refused_if (not (is_empty s.held)) rule.ReferenceLeft) _ (λ _ _. go (check_number rule.ResultNotNumber (arg 0)) _ (λ _ _. both))

    step_keeps : (insn : Insn) → NewOf unit s insn → GivesKept (abstract_step limits unit insn s)
    unfolding abstract_step
    step_keeps (Move width dst (Immediate k)) new = given_keeps dst _
    step_keeps (Move W64 dst (Register src)) new = copied_keeps dst src
    step_keeps (Move W32 dst (Register src)) new = converted_keeps _ dst src
    step_keeps (MoveExtended32 low dst src) new = converted_keeps _ dst src
    step_keeps (MoveExtended64 low dst src) new = converted_keeps _ dst src
    step_keeps (Negate width dst) new = altered_keeps _ dst
    step_keeps (Reorder order width dst) new = altered_keeps _ dst
    step_keeps (Division width op sign dst operand) new = operated_keeps None _ dst operand
    step_keeps (Binary width op dst operand) new = operated_keeps (direction_of width op) _ dst operand
    step_keeps (LoadNumber dst n) new = given_keeps dst (Known n)
    step_keeps (LoadRing dst ring) new = ring_keeps dst ring
    step_keeps (Load size dst base by) new = loaded_keeps dst base by (byte_count size)
    step_keeps (LoadSigned size dst base by) new = loaded_keeps dst base by (signed_byte_count size)
    step_keeps (StoreImmediate size base by k) new = stored_keeps base by (byte_count size) Number
    step_keeps (StoreRegister size base by src) new = stored_keeps base by (byte_count size) (arg src.number)
    step_keeps (Branch width condition dst operand distance) new = branch_keeps width condition operand _ _
    step_keeps (Jump distance) new = both
    step_keeps (JumpFar distance) new = both
    step_keeps (Call helper) new = call_keeps (helper_of helper) new
    step_keeps Exit new = ended_keeps

  along_kept : (along : Edge) (e : Effect) → BothKept e → AllHeld (along_edge along e).held
  along_kept Next e h = h.0
  along_kept Target e h = h.1

  -- so it is preserved along an edge of a program, for a valid annotation
  pub edge_keeps : (limits : Limits) (program : List Insn) (a : Annotation) → IsValid limits program a → (from to : ℕ) (along : Edge) (edge : HasEdge program from along to) → from < unit_count program → to < unit_count program → NewOf from (a from) edge.insn → AllHeld (a from).held → AllHeld (a to).held
  edge_keeps limits program a valid from to along edge inside_from inside new h =
      let held : HoldsAt limits a (unit_count program) from edge.insn = valid.each from edge.insn inside_from edge.begins in
      let below : Below (along_edge along held.effect) (a to) = held.edges along to edge.leads_to inside in
      let both : BothKept held.effect = subst GivesKept held.checks (step_keeps limits from (a from) h edge.insn new) in
      subst AllHeld below.held (along_kept along held.effect both)
