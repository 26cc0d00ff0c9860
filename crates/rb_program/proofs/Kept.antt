-- The stored units of a program, against the slots that its contracts see.
use Rattle.std.proofs.Common.{◌≡◌, ◌≢◌, ℕ, zero, suc, ◌-◌, ◌<◌, ◌≤◌, inl, inr, List, [], ◌∷◌, ◌++◌, length, replicate, get_or, Option, Some, None, Bool, true, false, cond, ◌==◌, refl, sym, ap, ◌∙◌, append_assoc, arith}
use Rattle.std.proofs.lemmas.Bool.{cases_lt}
use Rattle.std.proofs.lemmas.List.{get_or_past, get_or_default}
use Rattle.std.specs.Borrow.{Bor}
use Rattle.std.specs.Prelude.{IfSome}
use Rattle.std.specs.Option.{option_copied, MatchOption}
use Rattle.std.specs.List.{HoldsAt}
use Rattle.rb_insn.specs.declared.insn.Insn.{Insn}
use Rattle.rb_insn.specs.declared.insn.Insn.TheVariants.{Exit}
use Rattle.rb_insn.specs.Units.{units_taken}
use Rattle.rb_program.specs.Program.{units_of, unit_count, slot_at}
use Rattle.rb_program.specs.DecodedUnits.{kept_units, slots_after, insns_in, insns_kept}
use Rattle.rb_program.specs.inner.WideUnits.{follows_wide}
use Rattle.rb_program.proofs.Laws.{units_taken-one_or_two, units_of-narrow, units_of-wide}

pub insns_in-append : (front back : List (Option Insn)) → insns_in (front ++ back) ≡ insns_in front ++ insns_in back
insns_in-append [] back = refl
insns_in-append (Some insn ∷ front) back = ap (λ (l : List Insn). insn ∷ l) (insns_in-append front back)
insns_in-append (None ∷ front) back = insns_in-append front back

pub insns_in-units_of : (insns : List Insn) → insns_in (units_of insns) ≡ insns
insns_in-units_of [] = refl
insns_in-units_of (insn ∷ insns) =
    elim (units_taken-one_or_two insn) [
      | inl one ↦ ap insns_in (units_of-narrow insn insns one) ∙ ap (λ (l : List Insn). insn ∷ l) (insns_in-units_of insns)
      | inr two ↦ ap insns_in (units_of-wide insn insns two) ∙ ap (λ (l : List Insn). insn ∷ l) (insns_in-units_of insns)
    ]

-- ---- what is stored

kept_units-narrow : (insn : Insn) (insns : List Insn) → units_taken insn ≡ 1 → kept_units (insn ∷ insns) ≡ insn ∷ kept_units insns
kept_units-narrow insn insns h = ap (λ (n : ℕ). insn ∷ (replicate (n - 1) Exit ++ kept_units insns)) h

kept_units-wide : (insn : Insn) (insns : List Insn) → units_taken insn ≡ 2 → kept_units (insn ∷ insns) ≡ insn ∷ Exit ∷ kept_units insns
kept_units-wide insn insns h = ap (λ (n : ℕ). insn ∷ (replicate (n - 1) Exit ++ kept_units insns)) h

pub kept_units-append : (front back : List Insn) → kept_units (front ++ back) ≡ kept_units front ++ kept_units back
kept_units-append [] back = refl
kept_units-append (insn ∷ insns) back =
    ap (λ (units : List Insn). (insn ∷ replicate (units_taken insn - 1) Exit) ++ units) (kept_units-append insns back)
    ∙ sym (append_assoc (insn ∷ replicate (units_taken insn - 1) Exit) (kept_units insns) (kept_units back))

-- ---- the stored units

slots_after-kept : (before : Insn) (insns : List Insn) → units_taken before ≡ 1 → slots_after before (kept_units insns) ≡ units_of insns
slots_after-kept before [] one = refl
slots_after-kept before (insn ∷ insns) one =
    elim (units_taken-one_or_two insn) [
      | inl narrow ↦
          ap (slots_after before) (kept_units-narrow insn insns narrow)
          ∙ ap (λ (n : ℕ). cond (n == 2) None (Some insn) ∷ slots_after insn (kept_units insns)) one
          ∙ ap (λ (l : List (Option Insn)). Some insn ∷ l) (slots_after-kept insn insns narrow)
          ∙ sym (units_of-narrow insn insns narrow)
      | inr wide ↦
          ap (slots_after before) (kept_units-wide insn insns wide)
          ∙ ap (λ (n : ℕ). cond (n == 2) None (Some insn) ∷ slots_after insn (Exit ∷ kept_units insns)) one
          ∙ ap (λ (n : ℕ). Some insn ∷ cond (n == 2) None (Some Exit) ∷ slots_after Exit (kept_units insns)) wide
          ∙ ap (λ (l : List (Option Insn)). Some insn ∷ None ∷ l) (slots_after-kept Exit insns refl)
          ∙ sym (units_of-wide insn insns wide)
    ]

pub insns_kept-kept : (insns : List Insn) → insns_kept (kept_units insns) ≡ insns
insns_kept-kept insns = ap insns_in (slots_after-kept Exit insns refl) ∙ insns_in-units_of insns

length-slots : (before : Insn) (units : List Insn) → length (slots_after before units) ≡ length units
length-slots before [] = refl
length-slots before (insn ∷ units) = omega (arith, length-slots insn units)

pub length-kept_units : (insns : List Insn) → length (kept_units insns) ≡ unit_count insns
length-kept_units insns = sym (length-slots Exit (kept_units insns)) ∙ ap length (slots_after-kept Exit insns refl)

-- ---- the units of a program

slots_are : (units : List Insn) → kept_units (insns_kept units) ≡ units → slots_after Exit units ≡ units_of (insns_kept units)
slots_are units laid_out = ap (slots_after Exit) (sym laid_out) ∙ slots_after-kept Exit (insns_kept units) refl

pub counted : (units : List Insn) → kept_units (insns_kept units) ≡ units → unit_count (insns_kept units) ≡ length units
counted units laid_out = sym (ap length (slots_are units laid_out)) ∙ length-slots Exit units

slots-at : (before : Insn) (units : List Insn) (unit : ℕ) → unit < length units
    → get_or (slots_after before units) unit None ≡ cond (units_taken (get_or (before ∷ units) unit Exit) == 2) None (Some (get_or units unit Exit))
slots-at before [] unit h = absurd (omega arith)
slots-at before (insn ∷ units) zero h = refl
slots-at before (insn ∷ units) (suc unit) h = slots-at insn units unit (omega arith)

slot_within : (units : List Insn) (unit : ℕ) → kept_units (insns_kept units) ≡ units → unit < length units
    → slot_at (insns_kept units) unit ≡ cond (follows_wide units unit) None (Some (get_or units unit Exit))
slot_within units unit laid_out h = ap (λ (slots : List (Option Insn)). get_or slots unit None) (sym (slots_are units laid_out)) ∙ slots-at Exit units unit h

slot_past : (units : List Insn) (unit : ℕ) → kept_units (insns_kept units) ≡ units → length units ≤ unit → slot_at (insns_kept units) unit ≡ None
slot_past units unit laid_out h = get_or_past (units_of (insns_kept units)) unit None (omega (arith, counted units laid_out))

-- no instruction begins after the first unit of a wide one
pub slot_second : (units : List Insn) (unit : ℕ) → kept_units (insns_kept units) ≡ units → follows_wide units unit ≡ true → slot_at (insns_kept units) unit ≡ None
slot_second units unit laid_out behind =
    elim (cases_lt unit (length units)) [
      | inl below ↦ slot_within units unit laid_out below ∙ ap (λ (b : Bool). cond b None (Some (get_or units unit Exit))) behind
      | inr past ↦ slot_past units unit laid_out past
    ]

-- at any other unit, the stored instruction begins
pub slot_found : (units : List Insn) (unit : ℕ) (found : Option (Bor Insn)) → kept_units (insns_kept units) ≡ units → follows_wide units unit ≡ false
    → IfSome found (λ insn. insn.now ≡ get_or units unit insn.now) → MatchOption found (length units ≤ unit) (λ insn. (unit < length units) × HoldsAt (λ y. insn.now ≡ y) units unit)
    → option_copied found ≡ slot_at (insns_kept units) unit
slot_found units unit None laid_out first is past = sym (slot_past units unit laid_out past)
slot_found units unit (Some insn) laid_out first is inside =
    sym (slot_within units unit laid_out inside.0 ∙ ap (λ (b : Bool). cond b None (Some (get_or units unit Exit))) first ∙ ap Some (get_or_default units unit Exit insn.now inside.0 ∙ sym is))

-- if an instruction is known to begin at a unit, it is the stored one
chosen : (b : Bool) (insn : Insn) → cond b None (Some insn) ≢ None → cond b None (Some insn) ≡ Some insn
chosen true insn h = absurd (h refl)
chosen false insn h = refl

pub known_within : (units : List Insn) (unit : ℕ) → kept_units (insns_kept units) ≡ units → slot_at (insns_kept units) unit ≢ None → unit < length units
known_within units unit laid_out known =
    elim (cases_lt unit (length units)) [
      | inl below ↦ below
      | inr past ↦ absurd (known (slot_past units unit laid_out past))
    ]

pub known_slot : (units : List Insn) (unit : ℕ) (found : Insn) → kept_units (insns_kept units) ≡ units → slot_at (insns_kept units) unit ≢ None
    → found ≡ get_or units unit found → slot_at (insns_kept units) unit ≡ Some found
known_slot units unit found laid_out known is =
    let below = known_within units unit laid_out known in
    let at = slot_within units unit laid_out below in
    at
    ∙ chosen (follows_wide units unit) (get_or units unit Exit) (λ none. known (at ∙ none))
    ∙ ap Some (get_or_default units unit Exit found below ∙ sym is)
