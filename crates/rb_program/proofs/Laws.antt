-- Lemmas about the units of a program, for the crates above.
use Rattle.std.proofs.Common.{◌≡◌, ℕ, zero, suc, ◌+◌, ◌-◌, ◌<◌, ◌≤◌, ◌⊎◌, inl, inr, List, [], ◌∷◌, ◌++◌, length, replicate, get_or, Option, Some, None, refl, sym, ap, subst, ◌∙◌, append_assoc, arith}
use Rattle.std.proofs.lemmas.Bool.{cases_lt}
use Rattle.std.proofs.lemmas.List.{length-append, get_or-append-add, get_or_past}
use Rattle.std.proofs.Math.Seq.{get_or-append_seam}
use Rattle.rb_insn.specs.declared.insn.Insn.{Insn}
use Rattle.rb_insn.specs.declared.insn.Insn.TheVariants.{LoadNumber, LoadRing}
use Rattle.rb_insn.specs.Units.{units_taken}
use Rattle.rb_program.specs.Program.{units_of, unit_count, slot_at, IsLaidOut}

pub units_taken-one_or_two : (insn : Insn) → (units_taken insn ≡ 1) ⊎ (units_taken insn ≡ 2)
units_taken-one_or_two (LoadNumber dst value) = inr refl
units_taken-one_or_two (LoadRing dst ring) = inr refl
units_taken-one_or_two insn = inl refl

pub units_taken-bounds : (insn : Insn) → (1 ≤ units_taken insn) × (units_taken insn ≤ 2)
units_taken-bounds insn =
    elim (units_taken-one_or_two insn) [
      | inl one ↦ (omega arith, omega arith)
      | inr two ↦ (omega arith, omega arith)
    ]

-- the units of a narrow instruction, followed by those of the rest of the program
pub units_of-narrow : (insn : Insn) (insns : List Insn) → units_taken insn ≡ 1 → units_of (insn ∷ insns) ≡ Some insn ∷ units_of insns
units_of-narrow insn insns h = ap (λ (n : ℕ). Some insn ∷ (replicate (n - 1) None ++ units_of insns)) h

-- the units of a wide instruction, followed by those of the rest of the program
pub units_of-wide : (insn : Insn) (insns : List Insn) → units_taken insn ≡ 2 → units_of (insn ∷ insns) ≡ Some insn ∷ None ∷ units_of insns
units_of-wide insn insns h = ap (λ (n : ℕ). Some insn ∷ (replicate (n - 1) None ++ units_of insns)) h

pub units_of-append : (front back : List Insn) → units_of (front ++ back) ≡ units_of front ++ units_of back
units_of-append [] back = refl
units_of-append (insn ∷ insns) back =
    ap (λ (units : List (Option Insn)). (Some insn ∷ replicate (units_taken insn - 1) None) ++ units) (units_of-append insns back)
    ∙ sym (append_assoc (Some insn ∷ replicate (units_taken insn - 1) None) (units_of insns) (units_of back))

pub unit_count-cons : (insn : Insn) (insns : List Insn) → unit_count (insn ∷ insns) ≡ units_taken insn + unit_count insns
unit_count-cons insn insns =
    elim (units_taken-one_or_two insn) [
      | inl one ↦ omega (arith, ap length (units_of-narrow insn insns one))
      | inr two ↦ omega (arith, ap length (units_of-wide insn insns two))
    ]

pub unit_count-append : (front back : List Insn) → unit_count (front ++ back) ≡ unit_count front + unit_count back
unit_count-append front back = ap length (units_of-append front back) ∙ length-append (units_of front) (units_of back)

-- an instruction begins after the instructions before it
pub slot_at-behind : (before : List Insn) (insn : Insn) (after : List Insn) → slot_at (before ++ insn ∷ after) (unit_count before) ≡ Some insn
slot_at-behind before insn after =
    ap (λ (units : List (Option Insn)). get_or units (unit_count before) None) (units_of-append before (insn ∷ after))
    ∙ get_or-append_seam (units_of before) (Some insn) (replicate (units_taken insn - 1) None ++ units_of after) None

-- none begins at its second unit
pub slot_at-second : (before : List Insn) (insn : Insn) (after : List Insn) → units_taken insn ≡ 2 → slot_at (before ++ insn ∷ after) (unit_count before + 1) ≡ None
slot_at-second before insn after two =
    let units : units_of (before ++ insn ∷ after) ≡ units_of before ++ Some insn ∷ None ∷ units_of after = units_of-append before (insn ∷ after) ∙ ap (λ (units : List (Option Insn)). units_of before ++ units) (units_of-wide insn after two) in
    ap (λ (units : List (Option Insn)). get_or units (unit_count before + 1) None) units
    ∙ get_or-append-add (units_of before) (Some insn ∷ None ∷ units_of after) 1 None

-- A unit of a program is the first or the second unit of one of its instructions.
pub record IsUnitOf (program : List Insn) (unit : ℕ) : Type 0 where
  pub before : List Insn
  pub insn : Insn
  pub after : List Insn
  pub whole : program ≡ before ++ insn ∷ after
  pub at : (unit ≡ unit_count before) ⊎ ((unit ≡ unit_count before + 1) × (units_taken insn ≡ 2))

inside : (unit : ℕ) (insn : Insn) → unit < units_taken insn → (unit ≡ 0) ⊎ ((unit ≡ 1) × (units_taken insn ≡ 2))
inside zero insn h = inl refl
inside (suc zero) insn h =
    elim (units_taken-one_or_two insn) [
      | inl one ↦ absurd (omega arith)
      | inr two ↦ inr (refl, two)
    ]
inside (suc (suc unit)) insn h = absurd (omega (arith, (units_taken-bounds insn).1))

behind : (insn : Insn) (before : List Insn) (unit rest : ℕ) (found : Insn) → unit ≡ units_taken insn + rest
    → (rest ≡ unit_count before) ⊎ ((rest ≡ unit_count before + 1) × (units_taken found ≡ 2))
    → (unit ≡ unit_count (insn ∷ before)) ⊎ ((unit ≡ unit_count (insn ∷ before) + 1) × (units_taken found ≡ 2))
behind insn before unit rest found e (inl at) = inl (e ∙ ap (λ (n : ℕ). units_taken insn + n) at ∙ sym (unit_count-cons insn before))
behind insn before unit rest found e (inr at) = inr (omega (arith, unit_count-cons insn before, at.0), at.1)

grow : (insn : Insn) (insns : List Insn) (unit : ℕ) → units_taken insn ≤ unit → IsUnitOf insns (unit - units_taken insn) → IsUnitOf (insn ∷ insns) unit
grow insn insns unit above found =
    record {
      before = insn ∷ found.before;
      insn = found.insn;
      after = found.after;
      whole = ap (λ (xs : List Insn). insn ∷ xs) found.whole;
      at = behind insn found.before unit (unit - units_taken insn) found.insn (omega arith) found.at;
    }

pub unit_of : (program : List Insn) (unit : ℕ) → unit < unit_count program → IsUnitOf program unit
unit_of [] unit h = absurd (omega arith)
unit_of (insn ∷ insns) unit h =
    elim (cases_lt unit (units_taken insn)) [
      | inl below ↦ record { before = []; insn = insn; after = insns; whole = refl; at = inside unit insn below }
      | inr above ↦ grow insn insns unit above (unit_of insns (unit - units_taken insn) (omega (arith, unit_count-cons insn insns)))
    ]

-- a program split at the instruction that begins at a unit
pub record IsSplit (program : List Insn) (unit : ℕ) (insn : Insn) : Type 0 where
  pub before : List Insn
  pub after : List Insn
  pub whole : program ≡ before ++ insn ∷ after
  pub at : unit ≡ unit_count before

pub slot_at-some_below : (program : List Insn) (unit : ℕ) (insn : Insn) → slot_at program unit ≡ Some insn → unit < unit_count program
slot_at-some_below program unit insn e =
    elim (cases_lt unit (unit_count program)) [
      | inl below ↦ below
      | inr past ↦ let none = get_or_past (units_of program) unit None past in absurd cc
    ]

split_at : (program : List Insn) (unit : ℕ) (insn : Insn) (found : IsUnitOf program unit) → slot_at program unit ≡ Some insn
    → (unit ≡ unit_count found.before) ⊎ ((unit ≡ unit_count found.before + 1) × (units_taken found.insn ≡ 2)) → IsSplit program unit insn
split_at program unit insn found e (inl at) =
    let here : slot_at program unit ≡ Some found.insn = ap (λ (p : List Insn). slot_at p unit) found.whole ∙ ap (slot_at (found.before ++ found.insn ∷ found.after)) at ∙ slot_at-behind found.before found.insn found.after in
    let same : found.insn ≡ insn = cc in
    record { before = found.before; after = found.after; whole = subst (λ (i : Insn). program ≡ found.before ++ i ∷ found.after) same found.whole; at = at }
split_at program unit insn found e (inr at) =
    let here : slot_at program unit ≡ None = ap (λ (p : List Insn). slot_at p unit) found.whole ∙ ap (slot_at (found.before ++ found.insn ∷ found.after)) at.0 ∙ slot_at-second found.before found.insn found.after at.1 in
    absurd cc

pub slot_at-splits : (program : List Insn) (unit : ℕ) (insn : Insn) → slot_at program unit ≡ Some insn → IsSplit program unit insn
slot_at-splits program unit insn e =
    let found = unit_of program unit (slot_at-some_below program unit insn e) in
    split_at program unit insn found e found.at

-- ---- where instructions begin

first_slot : (program : List Insn) → 0 < unit_count program → (insn : Insn) × (slot_at program 0 ≡ Some insn)
first_slot [] h = absurd (omega arith)
first_slot (insn ∷ insns) h = (insn, refl)

within : (program : List Insn) (unit : ℕ) (insn : Insn) → slot_at program unit ≡ Some insn → unit + units_taken insn ≤ unit_count program
within program unit insn e =
    let split = slot_at-splits program unit insn e in
    let count : unit_count program ≡ unit_count split.before + (units_taken insn + unit_count split.after) =
    ap unit_count split.whole ∙ unit_count-append split.before (insn ∷ split.after) ∙ ap (λ (n : ℕ). unit_count split.before + n) (unit_count-cons insn split.after) in
    let at = split.at in
    omega arith

next_from : (before : List Insn) (insn : Insn) (after : List Insn) → 0 < unit_count after
    → (following : Insn) × (slot_at (before ++ insn ∷ after) (unit_count before + units_taken insn) ≡ Some following)
next_from before insn [] h = absurd (omega arith)
next_from before insn (following ∷ after) h =
    let regrouped : before ++ insn ∷ following ∷ after ≡ (before ++ insn ∷ []) ++ following ∷ after = sym (append_assoc before (insn ∷ []) (following ∷ after)) in
    let count : unit_count (before ++ insn ∷ []) ≡ unit_count before + units_taken insn = omega (arith, unit_count-append before (insn ∷ []), unit_count-cons insn []) in
    (following, ap (λ (p : List Insn). slot_at p (unit_count before + units_taken insn)) regrouped ∙ ap (slot_at ((before ++ insn ∷ []) ++ following ∷ after)) (sym count) ∙ slot_at-behind (before ++ insn ∷ []) following after)

next_slot : (program : List Insn) (unit : ℕ) (insn : Insn) → slot_at program unit ≡ Some insn → unit + units_taken insn < unit_count program
    → (following : Insn) × (slot_at program (unit + units_taken insn) ≡ Some following)
next_slot program unit insn e below =
    let split = slot_at-splits program unit insn e in
    let count : unit_count program ≡ unit_count split.before + (units_taken insn + unit_count split.after) =
    ap unit_count split.whole ∙ unit_count-append split.before (insn ∷ split.after) ∙ ap (λ (n : ℕ). unit_count split.before + n) (unit_count-cons insn split.after) in
    let at = split.at in
    let found = next_from split.before insn split.after (omega arith) in
    (found.0, ap (λ (p : List Insn). slot_at p (unit + units_taken insn)) split.whole ∙ ap (λ (n : ℕ). slot_at (split.before ++ insn ∷ split.after) (n + units_taken insn)) at ∙ found.1)

second_slot : (program : List Insn) (unit : ℕ) (insn : Insn) → slot_at program unit ≡ Some insn → units_taken insn ≡ 2 → slot_at program (unit + 1) ≡ None
second_slot program unit insn e two =
    let split = slot_at-splits program unit insn e in
    ap (λ (p : List Insn). slot_at p (unit + 1)) split.whole ∙ ap (λ (n : ℕ). slot_at (split.before ++ insn ∷ split.after) (n + 1)) split.at ∙ slot_at-second split.before insn split.after two

only_second : (program : List Insn) (unit : ℕ) (found : IsUnitOf program unit) → slot_at program unit ≡ None
    → (unit ≡ unit_count found.before) ⊎ ((unit ≡ unit_count found.before + 1) × (units_taken found.insn ≡ 2))
    → (wide : ℕ) × (insn : Insn) × (unit ≡ wide + 1) × (slot_at program wide ≡ Some insn) × (units_taken insn ≡ 2)
only_second program unit found e (inl at) =
    let here : slot_at program unit ≡ Some found.insn = ap (λ (p : List Insn). slot_at p unit) found.whole ∙ ap (slot_at (found.before ++ found.insn ∷ found.after)) at ∙ slot_at-behind found.before found.insn found.after in
    absurd cc
only_second program unit found e (inr at) =
    (unit_count found.before, found.insn, at.0, ap (λ (p : List Insn). slot_at p (unit_count found.before)) found.whole ∙ slot_at-behind found.before found.insn found.after, at.1)

pub is_laid_out : (program : List Insn) → IsLaidOut program
is_laid_out program = record {
  first = first_slot program;
  within = within program;
  next = next_slot program;
  second = second_slot program;
  only_second = λ unit below e. let found = unit_of program unit below in only_second program unit found e found.at;
}
