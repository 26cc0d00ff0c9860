-- Properties of well-shaped programs, for the crates above.
use Rattle.std.proofs.Common.{◌≡◌, ◌⊎◌, inl, inr, ⊎_elim, ℕ, ◌+◌, ◌<◌, ℤ, pos, negsuc, ◌+ℤ◌, ◌<ℤ◌, refl, sym, ◌∙◌, ap, subst, true, List, Option, Some, None, arith}
use Rattle.std.specs.Option.{option_and_then}
use Rattle.std.proofs.lemmas.Bool.{cases_lt, cases_order}
use Rattle.std.proofs.lemmas.List.{get_or_past}
use Rattle.std.proofs.lemmas.Option.{cond_some}
use Rattle.rb_insn.specs.declared.insn.Insn.{Insn}
use Rattle.rb_insn.specs.Units.{units_taken}
use Rattle.rb_program.specs.Program.{units_of, unit_count, slot_at, IsProgram, IsLaidOut}
use Rattle.rb_program.proofs.Laws.{units_taken-bounds}
use Rattle.rb_program.specs.declared.shape_fault.ShapeFault.{ShapeFault}
use Rattle.rb_program.specs.declared.shape_fault.ShapeFaultKind.{ShapeFaultKind}
use Rattle.rb_program.specs.declared.shape_fault.ShapeFaultKind.TheVariants.{Backward, OutOfProgram, IntoWide, FallsOff, Unreachable, Memory}
use Rattle.rb_program.specs.Edges.{Edge, Next, Target, falls_through, distance_of, unit_from, edge_target, HasEdge, IsReached, start, by_edge}
use Rattle.rb_program.specs.ShapeFaults.{HasShapeFault, HasNoFault, fault_order, IsFirstShapeFault}
use Rattle.rb_program.specs.Shape.{IsInstructionStart, AllIsReached, IsWellShaped, EdgesLeadForward, NothingFallsOff, JumpsLand, EachIsEntered}

-- a unit at which an instruction begins is in the program
pub begins-lt : (program : List Insn) (unit : ℕ) (insn : Insn) → slot_at program unit ≡ Some insn → unit < unit_count program
begins-lt program unit insn begins =
    ⊎_elim (λ inside. inside) (λ past. let none : None ≡ Some insn = sym (get_or_past (units_of program) unit None past) ∙ begins in cc) (cases_lt unit (unit_count program))

slot_cases : (slot : Option Insn) → (slot ≡ None) ⊎ ((insn : Insn) × (slot ≡ Some insn))
slot_cases None = inl refl
slot_cases (Some insn) = inr (insn, refl)

-- ---- where edges lead

pub leads-next : (unit : ℕ) (insn : Insn) (to : ℕ) → edge_target unit insn Next ≡ Some to → (falls_through insn ≡ true) × (unit + units_taken insn ≡ to)
unfolding edge_target
leads-next unit insn to leads_to = cond_some (falls_through insn) (unit + units_taken insn) to leads_to

pub leads-goes_on : (unit : ℕ) (insn : Insn) → falls_through insn ≡ true → edge_target unit insn Next ≡ Some (unit + units_taken insn)
unfolding edge_target
leads-goes_on unit insn on = rw on

-- the target of a jump, from its distance
pub leads-target : (unit : ℕ) (insn : Insn) (to : ℕ) → edge_target unit insn Target ≡ Some to → (distance : ℤ) × (distance_of insn ≡ Some distance) × (unit_from (pos (unit + 1) +ℤ distance) ≡ Some to)
unfolding edge_target
leads-target unit insn to leads_to = by_distance (distance_of insn) refl leads_to
  where
    by_distance : (found : Option ℤ) → distance_of insn ≡ found → option_and_then (λ distance. unit_from (pos (unit + 1) +ℤ distance)) found ≡ Some to → (distance : ℤ) × (distance_of insn ≡ Some distance) × (unit_from (pos (unit + 1) +ℤ distance) ≡ Some to)
    by_distance None none leads_to = cc
    by_distance (Some distance) some leads_to = (distance, some, leads_to)

pub leads-distance : (unit : ℕ) (insn : Insn) (distance : ℤ) → distance_of insn ≡ Some distance → edge_target unit insn Target ≡ unit_from (pos (unit + 1) +ℤ distance)
unfolding edge_target
leads-distance unit insn distance jumps = rw jumps

-- ---- programs without a fault

-- a distance that is not negative leads forward
forward_distance : (unit : ℕ) (distance : ℤ) → ((distance <ℤ pos 0) → ⊥) → (to : ℕ) × (unit_from (pos (unit + 1) +ℤ distance) ≡ Some to) × (unit < to)
forward_distance unit (pos n) not_back = (unit + 1 + n, refl, omega arith)
forward_distance unit (negsuc n) not_back = absurd (not_back (record { lt = tt }))

pub no_fault-distance : (program : List Insn) (unit : ℕ) (insn : Insn) (distance : ℤ) → HasNoFault program unit → slot_at program unit ≡ Some insn → distance_of insn ≡ Some distance → (to : ℕ) × (edge_target unit insn Target ≡ Some to) × (unit < to)
no_fault-distance program unit insn distance none begins jumps =
    let found : (to : ℕ) × (unit_from (pos (unit + 1) +ℤ distance) ≡ Some to) × (unit < to) = forward_distance unit distance (λ back. none Backward (insn, begins, (distance, jumps, back))) in
    (found.0, leads-distance unit insn distance jumps ∙ found.1, found.2)

pub edges_forward : (program : List Insn) → IsLaidOut program → IsWellShaped program → EdgesLeadForward program
edges_forward program laid_out shaped from Next to edge =
    let inside : to < unit_count program = ⊎_elim (λ lt. lt) (λ past. absurd (shaped.no_fault from FallsOff (to, edge, past))) (cases_lt to (unit_count program)) in
    let next : (falls_through edge.insn ≡ true) × (from + units_taken edge.insn ≡ to) = leads-next from edge.insn to edge.leads_to in
    let following : IsInstructionStart program (from + units_taken edge.insn) = laid_out.next from edge.insn edge.begins (omega arith) in
    (omega (arith, (units_taken-bounds edge.insn).0), subst (IsInstructionStart program) next.1 following)
edges_forward program laid_out shaped from Target to edge =
    let inside : to < unit_count program = ⊎_elim (λ lt. lt) (λ past. absurd (shaped.no_fault from OutOfProgram (to, edge, past))) (cases_lt to (unit_count program)) in
    let jump : (distance : ℤ) × (distance_of edge.insn ≡ Some distance) × (unit_from (pos (from + 1) +ℤ distance) ≡ Some to) = leads-target from edge.insn to edge.leads_to in
    let forward : (unit : ℕ) × (edge_target from edge.insn Target ≡ Some unit) × (from < unit) = no_fault-distance program from edge.insn jump.0 (shaped.no_fault from) edge.begins jump.1 in
    let both : Some forward.0 ≡ Some to = sym forward.1 ∙ edge.leads_to in
    let same : forward.0 ≡ to = cc in
    (subst (λ unit. from < unit) same forward.2, ⊎_elim (λ none. absurd (shaped.no_fault from IntoWide (to, edge, inside, none))) (λ begins. begins) (slot_cases (slot_at program to)))

pub nothing_falls_off : (program : List Insn) → EdgesLeadForward program → NothingFallsOff program
nothing_falls_off program forward unit insn begins on =
    (forward unit Next (unit + units_taken insn) (record { insn = insn; begins = begins; leads_to = leads-goes_on unit insn on })).1

pub jumps_land : (program : List Insn) → IsWellShaped program → JumpsLand program
jumps_land program shaped unit insn distance begins jumps =
    let found : (to : ℕ) × (edge_target unit insn Target ≡ Some to) × (unit < to) = no_fault-distance program unit insn distance (shaped.no_fault unit) begins jumps in
    (found.0, found.1)

pub each_entered : (program : List Insn) → EdgesLeadForward program → AllIsReached program → EachIsEntered program
each_entered program forward reached unit begins positive = last_edge unit (reached unit begins) positive
  where
    last_edge : (unit : ℕ) → IsReached program unit → 0 < unit → (from : ℕ) × (along : Edge) × HasEdge program from along unit × (from < unit)
    last_edge unit start positive = absurd (omega arith)
    last_edge unit (by_edge {from} {to} along path edge) positive = (from, along, edge, (forward from along to edge).0)

pub begins_first : (program : List Insn) → IsProgram program → IsLaidOut program → IsInstructionStart program 0
begins_first program bounds laid_out = laid_out.first (omega (arith, bounds.not_empty))

-- ---- the first fault is unique

rank-injective : (kind other : ShapeFaultKind) → fault_order kind ≡ fault_order other → kind ≡ other
rank-injective Backward Backward same = refl
rank-injective OutOfProgram OutOfProgram same = refl
rank-injective IntoWide IntoWide same = refl
rank-injective FallsOff FallsOff same = refl
rank-injective Unreachable Unreachable same = refl
rank-injective Memory Memory same = refl
rank-injective kind other same = absurd (omega arith)

-- a program has at most one first fault
pub first_fault-unique : (program : List Insn) (fault other : ShapeFault) → IsFirstShapeFault program fault → IsFirstShapeFault program other → fault ≡ other
first_fault-unique program fault other first second = by_unit (cases_order fault.unit other.unit)
  where
    same_kind : fault.unit ≡ other.unit → (fault_order fault.kind ≡ fault_order other.kind) ⊎ ((fault_order fault.kind < fault_order other.kind) ⊎ (fault_order other.kind < fault_order fault.kind)) → fault.kind ≡ other.kind
    same_kind same (inl equal) = rank-injective fault.kind other.kind equal
    same_kind same (inr (inl lower)) = absurd (second.here.lowest fault.kind lower (subst (λ unit. HasShapeFault program unit fault.kind) same first.here.stands))
    same_kind same (inr (inr higher)) = absurd (first.here.lowest other.kind higher (subst (λ unit. HasShapeFault program unit other.kind) (sym same) second.here.stands))

    joined : fault.unit ≡ other.unit → fault.kind ≡ other.kind → fault ≡ other
    joined unit kind =
        let by_unit : fault ≡ record { unit = other.unit; kind = fault.kind } = ap (λ n. record { unit = n; kind = fault.kind }) unit in
        by_unit ∙ ap (λ k. record { unit = other.unit; kind = k }) kind

    by_unit : (fault.unit ≡ other.unit) ⊎ ((fault.unit < other.unit) ⊎ (other.unit < fault.unit)) → fault ≡ other
    by_unit (inl same) = joined same (same_kind same (cases_order (fault_order fault.kind) (fault_order other.kind)))
    by_unit (inr (inl lower)) = absurd (second.none_before fault.unit lower fault.kind first.here.stands)
    by_unit (inr (inr higher)) = absurd (first.none_before other.unit higher other.kind second.here.stands)

-- a program without a fault has no first fault
pub well_shaped-first_fault : (program : List Insn) (fault : ShapeFault) → IsWellShaped program → IsFirstShapeFault program fault → ⊥
well_shaped-first_fault program fault shaped first = shaped.no_fault fault.unit fault.kind first.here.stands
