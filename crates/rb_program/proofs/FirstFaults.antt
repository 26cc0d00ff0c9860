-- The laws of decoding: a decoded prefix continues with an instruction or ends at the first fault; bytes that encode a
-- program have no fault; there is at most one first fault.
use Rattle.std.proofs.lemmas.Bool.{cases_lt}
use Rattle.std.proofs.Common.{◌≡◌, ℕ, ◌+◌, ◌*◌, ◌<◌, ◌≤◌, ◌⊎◌, inl, inr, List, [], ◌∷◌, ◌++◌, length, take, drop, Option, Some, None, get_or, Result, Ok, Err, ◌-◌, cond, eqb, refl, sym, ap, subst, ◌∙◌, append_assoc, arith}
use Rattle.std.specs.Prelude.{IfOk, IfErr}
use Rattle.std.specs.List.{flat_map, AllByRecursion}
use Rattle.std.proofs.Math.Seq.{take-add}
use Rattle.std.proofs.lemmas.List.{append-nil, append_cancel_left, length-append, length-take, length-drop, take-append-drop, take_all, take_more}
use Rattle.std.proofs.lemmas.List.Concat.{flat_map-cons}
use Rattle.std.proofs.lemmas.Grind.{flat_map-append}
use Rattle.rb_insn.specs.declared.insn.Insn.{Insn}
use Rattle.rb_insn.specs.Units.{units_taken}
use Rattle.rb_insn.specs.Spelling.{spelling, FieldsFit, Spells, SpellsAll}
use Rattle.rb_insn.proofs.Laws.{length-spelling, fronts, one_list_spells}
use Rattle.rb_program.specs.declared.fault.DecodeKind.{DecodeKind}
use Rattle.rb_program.specs.declared.fault.DecodeKind.TheVariants.{Length, TooLong, LeftOut, BadOpcode, BadRegister, UnusedField, HalfWide, Memory}
use Rattle.rb_program.specs.declared.fault.DecodeFault.{DecodeFault}
use Rattle.rb_program.specs.DecodeFaults.{HasDecodeFault, kind_order, IsFirstKind}
use Rattle.rb_program.specs.FirstDecodeFault.{decode_no_memory, HasBadLength, HasTooManyUnits, IsFaultAt, IsFirstFaultAt, IsFirstDecodeFault}
use Rattle.rb_program.specs.Program.{unit_count, IsProgram}
use Rattle.rb_program.specs.DecodedUnits.{insns_in, insns_kept, kept_units}
use Rattle.rb_program.specs.inner.Decoded.{IsDecoded}
use Rattle.rb_program.proofs.Laws.{unit_count-append, unit_count-cons}
use Rattle.rb_program.proofs.Kept.{insns_in-append, kept_units-append, insns_kept-kept, length-kept_units}
use Rattle.rb_program.proofs.Spelled.{no_fault-spelling}

-- ---- units and instructions

-- a program's encoding fills its units
pub length-spelled : (insns : List Insn) → length (flat_map spelling insns) ≡ 8 * unit_count insns
length-spelled [] = refl
length-spelled (insn ∷ insns) =
    ap length (flat_map-cons spelling insn insns)
    ∙ omega (arith, length-append (spelling insn) (flat_map spelling insns), length-spelling insn, length-spelled insns, unit_count-cons insn insns)

fit-append : (front back : List Insn) → AllByRecursion FieldsFit front → AllByRecursion FieldsFit back → AllByRecursion FieldsFit (front ++ back)
fit-append [] back f b = b
fit-append (insn ∷ front) back f b = (f.0, fit-append front back f.1 b)

-- ---- appending an instruction

pub spelled_more : (insns : List Insn) (insn : Insn) (bytes : List ℕ) (n m : ℕ) → SpellsAll insns (take n bytes) → Spells insn (take m (drop n bytes))
    → SpellsAll (insns ++ insn ∷ []) (take (n + m) bytes)
spelled_more insns insn bytes n m all one = record {
  fit = fit-append insns (insn ∷ []) all.fit (one.fits, tt);
  bytes_are =
      take-add n m bytes
      ∙ ap (λ (l : List ℕ). l ++ take m (drop n bytes)) all.bytes_are
      ∙ ap (λ (l : List ℕ). flat_map spelling insns ++ l) (one.bytes_are ∙ sym (append-nil (spelling insn)))
      ∙ sym (flat_map-append spelling insns (insn ∷ []));
}

pub decoded_more : (bytes : List ℕ) (units : List Insn) (insn : Insn) → IsDecoded bytes units
    → 8 * units_taken insn ≤ length (drop (8 * length units) bytes) → Spells insn (take (8 * units_taken insn) (drop (8 * length units) bytes))
    → IsDecoded bytes (units ++ kept_units (insn ∷ []))
decoded_more bytes units insn decoded room spells =
    let longer : kept_units (insns_kept units ++ insn ∷ []) ≡ units ++ kept_units (insn ∷ []) =
    kept_units-append (insns_kept units) (insn ∷ []) ∙ ap (λ (l : List Insn). l ++ kept_units (insn ∷ [])) decoded.laid_out in
    let more : insns_kept (units ++ kept_units (insn ∷ [])) ≡ insns_kept units ++ insn ∷ [] = ap insns_kept (sym longer) ∙ insns_kept-kept (insns_kept units ++ insn ∷ []) in
    let count : length (units ++ kept_units (insn ∷ [])) ≡ length units + units_taken insn =
    omega (arith, length-append units (kept_units (insn ∷ [])), length-kept_units (insn ∷ []), unit_count-cons insn []) in
    let bytes_count : 8 * length units + 8 * units_taken insn ≡ 8 * length (units ++ kept_units (insn ∷ [])) = omega arith in
    record {
      laid_out = ap kept_units more ∙ longer;
      within = let inside = decoded.within in omega (arith, length-drop (8 * length units) bytes);
      spelled = subst (λ (n : ℕ). SpellsAll (insns_kept (units ++ kept_units (insn ∷ []))) (take n bytes)) bytes_count
          (subst (λ (l : List Insn). SpellsAll l (take (8 * length units + 8 * units_taken insn) bytes)) (sym more)
          (spelled_more (insns_kept units) insn bytes (8 * length units) (8 * units_taken insn) decoded.spelled spells));
    }

-- ---- the first fault

no_spelling : (kind : DecodeKind) (rest : List ℕ) → HasDecodeFault kind rest → (insn : Insn) (s p : List ℕ) → Spells insn s → rest ≡ s ++ p → ⊥
no_spelling kind rest stands insn s p spells e =
    let at : rest ≡ spelling insn ++ p = e ∙ ap (λ (l : List ℕ). l ++ p) spells.bytes_are in
    no_fault-spelling insn p spells.fits kind (subst (λ (l : List ℕ). HasDecodeFault kind l) at stands)

-- a fault at a unit has a kind that applies to units
at_unit : (bytes : List ℕ) (unit : ℕ) (kind : DecodeKind) → IsFaultAt bytes unit kind → (HasBadLength bytes → ⊥) → (HasTooManyUnits bytes → ⊥) → IsFirstFaultAt bytes unit kind
at_unit bytes unit Length fault length_fits not_long = absurd fault.first.stands
at_unit bytes unit TooLong fault length_fits not_long = absurd fault.first.stands
at_unit bytes unit Memory fault length_fits not_long = absurd fault.first.stands
at_unit bytes unit kind fault length_fits not_long = (fault, length_fits, not_long)

pub fault_here : (bytes : List ℕ) (units : List Insn) (kind : DecodeKind) → IsDecoded bytes units → 8 * length units < length bytes
    → (HasBadLength bytes → ⊥) → (HasTooManyUnits bytes → ⊥) → IsFirstKind kind (drop (8 * length units) bytes) → IsFirstFaultAt bytes (length units) kind
fault_here bytes units kind decoded more length_fits not_long first =
    at_unit bytes (length units) kind (record {
      within = more;
      front = insns_kept units;
      spelled = decoded.spelled;
      longest = no_spelling kind (drop (8 * length units) bytes) first.stands;
      first = first;
    }) length_fits not_long

-- ---- a program and a fault exclude each other

bytes_of_program : (program : List Insn) (bytes : List ℕ) → IsProgram program → SpellsAll program bytes → (HasBadLength bytes → ⊥) × (HasTooManyUnits bytes → ⊥)
bytes_of_program program bytes bounds spells =
    let count : length bytes ≡ 8 * unit_count program = ap length spells.bytes_are ∙ length-spelled program in
    let low = bounds.not_empty in
    let high = bounds.not_too_long in (
      λ bad. elim bad [
        | inl empty ↦ let none : length bytes ≡ 0 = ap length empty in absurd (omega arith)
        | inr uneven ↦ uneven (omega arith)
      ],
      λ long. absurd (omega arith),
    )

fits_behind : (front back : List Insn) → AllByRecursion FieldsFit (front ++ back) → AllByRecursion FieldsFit back
fits_behind [] back f = f
fits_behind (insn ∷ front) back f = fits_behind front back f.1

-- the bytes, split after the prefix
cut : (bytes : List ℕ) (unit : ℕ) (kind : DecodeKind) (fault : IsFaultAt bytes unit kind) → bytes ≡ flat_map spelling fault.front ++ drop (8 * unit) bytes
cut bytes unit kind fault = sym (take-append-drop (8 * unit) bytes) ∙ ap (λ (l : List ℕ). l ++ drop (8 * unit) bytes) fault.spelled.bytes_are

unit_is : (bytes : List ℕ) (unit : ℕ) (kind : DecodeKind) (fault : IsFaultAt bytes unit kind) → unit ≡ unit_count fault.front
unit_is bytes unit kind fault =
    let inside : 8 * unit < length bytes = fault.within in
    omega (arith, length-take (8 * unit) bytes, ap length fault.spelled.bytes_are, length-spelled fault.front)

-- no instruction is encoded after the prefix
nothing_behind : (bytes : List ℕ) (unit : ℕ) (kind : DecodeKind) (fault : IsFaultAt bytes unit kind) (more : List Insn) (rest : List ℕ)
    → AllByRecursion FieldsFit more → bytes ≡ flat_map spelling (fault.front ++ more) ++ rest → more ≡ []
nothing_behind bytes unit kind fault [] rest fits e = refl
nothing_behind bytes unit kind fault (insn ∷ more) rest fits e =
    let regrouped : flat_map spelling (fault.front ++ insn ∷ more) ++ rest ≡ flat_map spelling fault.front ++ (spelling insn ++ (flat_map spelling more ++ rest)) =
    ap (λ (l : List ℕ). l ++ rest) (flat_map-append spelling fault.front (insn ∷ more))
    ∙ append_assoc (flat_map spelling fault.front) (flat_map spelling (insn ∷ more)) rest
    ∙ ap (λ (l : List ℕ). flat_map spelling fault.front ++ (l ++ rest)) (flat_map-cons spelling insn more)
    ∙ ap (λ (l : List ℕ). flat_map spelling fault.front ++ l) (append_assoc (spelling insn) (flat_map spelling more) rest) in
    let begins : drop (8 * unit) bytes ≡ spelling insn ++ (flat_map spelling more ++ rest) =
    append_cancel_left (flat_map spelling fault.front) _ _ (sym (cut bytes unit kind fault) ∙ e ∙ regrouped) in
    absurd (fault.longest insn (spelling insn) (flat_map spelling more ++ rest) (record { fits = fits.0; bytes_are = refl }) begins)

-- a list of instructions that the bytes start with is a prefix of the longest such list
front_begins : (bytes : List ℕ) (unit : ℕ) (kind : DecodeKind) (fault : IsFaultAt bytes unit kind) (insns : List Insn) (rest : List ℕ)
    → AllByRecursion FieldsFit insns → bytes ≡ flat_map spelling insns ++ rest → (more : List Insn) × (fault.front ≡ insns ++ more)
front_begins bytes unit kind fault insns rest fits e =
    elim (fronts fault.front insns (drop (8 * unit) bytes) rest fault.spelled.fit fits (sym (cut bytes unit kind fault) ∙ e)) [
      | inl f ↦
          let longer : insns ≡ fault.front ++ f.0 = f.1 in
          let fit : AllByRecursion FieldsFit (fault.front ++ f.0) = subst (AllByRecursion FieldsFit) longer fits in
          let none : f.0 ≡ [] = nothing_behind bytes unit kind fault f.0 rest (fits_behind fault.front f.0 fit) (e ∙ ap (λ (l : List Insn). flat_map spelling l ++ rest) longer) in
          ([], sym (ap (λ (l : List Insn). l ++ []) (longer ∙ ap (λ (l : List Insn). fault.front ++ l) none ∙ append-nil fault.front) ∙ append-nil fault.front))
      | inr f ↦ (f.0, f.1)
    ]

not_at_unit : (program : List Insn) (bytes : List ℕ) (unit : ℕ) (kind : DecodeKind) → SpellsAll program bytes → IsFaultAt bytes unit kind → ⊥
not_at_unit program bytes unit kind spells fault =
    let whole : bytes ≡ flat_map spelling program ++ [] = spells.bytes_are ∙ sym (append-nil (flat_map spelling program)) in
    let begins = front_begins bytes unit kind fault program [] spells.fit whole in
    let inside : 8 * unit < length bytes = fault.within in
    let counts : unit_count fault.front ≡ unit_count program + unit_count begins.0 = ap unit_count begins.1 ∙ unit_count-append program begins.0 in
    absurd (omega (arith, unit_is bytes unit kind fault, ap length spells.bytes_are, length-spelled program))

-- a first fault of the third sort: the fault after the longest prefix of whole instructions
pub record IsBehindFront (bytes : List ℕ) (unit : ℕ) (kind : DecodeKind) : Type 0 where
  pub fault : IsFaultAt bytes unit kind
  pub length_fits : HasBadLength bytes → ⊥
  pub not_long : HasTooManyUnits bytes → ⊥

abbrev IsLength : List ℕ → ℕ → DecodeKind → Type 0
IsLength bytes unit kind = (kind ≡ Length) × (unit ≡ 0) × HasBadLength bytes

abbrev IsLong : List ℕ → ℕ → DecodeKind → Type 0
IsLong bytes unit kind = (kind ≡ TooLong) × (unit ≡ 4096) × HasTooManyUnits bytes × (HasBadLength bytes → ⊥)

one_of_three : (bytes : List ℕ) (unit : ℕ) (kind : DecodeKind) → IsFirstFaultAt bytes unit kind → IsLength bytes unit kind ⊎ (IsLong bytes unit kind ⊎ IsBehindFront bytes unit kind)
one_of_three bytes unit Length first = inl (refl, first.0, first.1)
one_of_three bytes unit TooLong first = inr (inl (refl, first.0, first.1, first.2))
one_of_three bytes unit Memory first = absurd first
one_of_three bytes unit kind first = inr (inr (record { fault = first.0; length_fits = first.1; not_long = first.2 }))

-- bytes that encode a program have no fault
pub spelled_no_fault : (program : List Insn) (bytes : List ℕ) (fault : DecodeFault) → IsProgram program → SpellsAll program bytes → IsFirstDecodeFault bytes fault → ⊥
spelled_no_fault program bytes fault bounds spells first =
    let fine = bytes_of_program program bytes bounds spells in
    elim (one_of_three bytes fault.unit fault.kind first) [
      | inl at ↦ fine.0 at.2
      | inr other ↦ elim other [
        | inl at ↦ fine.1 at.2
        | inr at ↦ not_at_unit program bytes fault.unit fault.kind spells at.fault
      ]
    ]

-- ---- one first fault

abbrev kind_of : ℕ → DecodeKind
kind_of n =
    cond (eqb n 1) Length (cond (eqb n 2) TooLong (cond (eqb n 3) LeftOut (cond (eqb n 4) BadOpcode (cond (eqb n 5) BadRegister (cond (eqb n 6) UnusedField (cond (eqb n 7) HalfWide Memory))))))

kind_of-number : (kind : DecodeKind) → kind_of (kind_order kind) ≡ kind
kind_of-number Length = refl
kind_of-number kind = refl

one_first_kind : (bytes : List ℕ) (k l : DecodeKind) → IsFirstKind k bytes → IsFirstKind l bytes → k ≡ l
one_first_kind bytes k l first second =
    elim (cases_lt (kind_order k) (kind_order l)) [
      | inl below ↦ absurd (second.first k below first.stands)
      | inr above ↦ elim (cases_lt (kind_order l) (kind_order k)) [
        | inl below ↦ absurd (first.first l below second.stands)
        | inr same ↦
            let e : kind_order k ≡ kind_order l = omega arith in
            sym (kind_of-number k) ∙ ap kind_of e ∙ kind_of-number l
      ]
    ]

one_fault_at : (bytes : List ℕ) (u v : ℕ) (k l : DecodeKind) → IsFaultAt bytes u k → IsFaultAt bytes v l → (u ≡ v) × (k ≡ l)
one_fault_at bytes u v k l a b =
    let ab = front_begins bytes v l b a.front (drop (8 * u) bytes) a.spelled.fit (cut bytes u k a) in
    let ba = front_begins bytes u k a b.front (drop (8 * v) bytes) b.spelled.fit (cut bytes v l b) in
    let left : unit_count b.front ≡ unit_count a.front + unit_count ab.0 = ap unit_count ab.1 ∙ unit_count-append a.front ab.0 in
    let right : unit_count a.front ≡ unit_count b.front + unit_count ba.0 = ap unit_count ba.1 ∙ unit_count-append b.front ba.0 in
    let units : u ≡ v = omega (arith, unit_is bytes u k a, unit_is bytes v l b) in
    (units, one_first_kind (drop (8 * v) bytes) k l (subst (λ (n : ℕ). IsFirstKind k (drop (8 * n) bytes)) units a.first) b.first)

same_fault : (f g : DecodeFault) → f.unit ≡ g.unit → f.kind ≡ g.kind → f ≡ g
same_fault f g u k =
    ap (λ (n : ℕ). (let fault : DecodeFault = record { unit = n; kind = f.kind } in fault)) u
    ∙ ap (λ (l : DecodeKind). (let fault : DecodeFault = record { unit = g.unit; kind = l } in fault)) k

-- bytes have at most one first fault
pub one_first_fault : (bytes : List ℕ) (f g : DecodeFault) → IsFirstDecodeFault bytes f → IsFirstDecodeFault bytes g → f ≡ g
one_first_fault bytes f g first second =
    elim (one_of_three bytes f.unit f.kind first) [
      | inl a ↦ elim (one_of_three bytes g.unit g.kind second) [
        | inl b ↦ same_fault f g (a.1 ∙ sym b.1) (a.0 ∙ sym b.0)
        | inr b ↦ elim b [
          | inl c ↦ absurd (c.3 a.2)
          | inr c ↦ absurd (c.length_fits a.2)
        ]
      ]
      | inr a ↦ elim a [
        | inl a ↦ elim (one_of_three bytes g.unit g.kind second) [
          | inl b ↦ absurd (a.3 b.2)
          | inr b ↦ elim b [
            | inl c ↦ same_fault f g (a.1 ∙ sym c.1) (a.0 ∙ sym c.0)
            | inr c ↦ absurd (c.not_long a.2)
          ]
        ]
        | inr a ↦ elim (one_of_three bytes g.unit g.kind second) [
          | inl b ↦ absurd (a.length_fits b.2)
          | inr b ↦ elim b [
            | inl c ↦ absurd (a.not_long c.2)
            | inr c ↦ let same = one_fault_at bytes f.unit g.unit f.kind g.kind a.fault c.fault in same_fault f g same.0 same.1
          ]
        ]
      ]
    ]

-- ---- at the end of the bytes

-- the rest of the bytes, as a slice
pub rest_of : (n : ℕ) (bytes : List ℕ) → take (length bytes - n) (drop n bytes) ≡ drop n bytes
rest_of n bytes = take_all (length bytes - n) (drop n bytes) (omega (arith, length-drop n bytes))

-- the decoder returns the only program, or the only first fault
pub record IsAnswer (bytes : List ℕ) (answer : Result (List Insn) DecodeFault) : Type 0 where
  pub bounds : IfOk answer IsProgram
  pub spelled : IfOk answer (λ program. SpellsAll program bytes)
  pub fault : IfErr answer (λ fault. (fault ≡ decode_no_memory) ⊎ IsFirstDecodeFault bytes fault)

pub only_program : (bytes : List ℕ) (answer : Result (List Insn) DecodeFault) → IsAnswer bytes answer → (program : List Insn) → IsProgram program → SpellsAll program bytes
    → (answer ≡ Ok program) ⊎ (answer ≡ Err decode_no_memory)
only_program bytes (Ok found) is program bounds spells = inl (ap Ok (one_list_spells found program bytes is.spelled spells))
only_program bytes (Err fault) is program bounds spells =
    elim is.fault [
      | inl memory ↦ inr (ap Err memory)
      | inr first ↦ absurd (spelled_no_fault program bytes fault bounds spells first)
    ]

pub only_fault : (bytes : List ℕ) (answer : Result (List Insn) DecodeFault) → IsAnswer bytes answer → (fault : DecodeFault) → IsFirstDecodeFault bytes fault
    → (answer ≡ Err fault) ⊎ (answer ≡ Err decode_no_memory)
only_fault bytes (Ok found) is fault first = absurd (spelled_no_fault found bytes fault is.bounds is.spelled first)
only_fault bytes (Err found) is fault first =
    elim is.fault [
      | inl memory ↦ inr (ap Err memory)
      | inr other ↦ inl (ap Err (one_first_fault bytes found fault other first))
    ]

-- ---- encoding

-- the bytes after encoding one more instruction
pub encoded_more : (units : List (Option Insn)) (i : ℕ) (insn : Insn) (bytes new : List ℕ) → i < length units → Some insn ≡ get_or units i (Some insn)
    → SpellsAll (insns_in (take i units)) bytes → Spells insn new → SpellsAll (insns_in (take (i + 1) units)) (bytes ++ new)
encoded_more units i insn bytes new h at all one =
    let longer : take (i + 1) units ≡ take i units ++ Some insn ∷ [] = take_more units i (Some insn) h ∙ ap (λ (o : Option Insn). take i units ++ o ∷ []) (sym at) in
    let more : insns_in (take (i + 1) units) ≡ insns_in (take i units) ++ insn ∷ [] = ap insns_in longer ∙ insns_in-append (take i units) (Some insn ∷ []) in
    let spells : SpellsAll (insns_in (take i units) ++ insn ∷ []) (bytes ++ new) = record {
      fit = fit-append (insns_in (take i units)) (insn ∷ []) all.fit (one.fits, tt);
      bytes_are =
          ap (λ (l : List ℕ). l ++ new) all.bytes_are
          ∙ ap (λ (l : List ℕ). flat_map spelling (insns_in (take i units)) ++ l) (one.bytes_are ∙ sym (append-nil (spelling insn)))
          ∙ sym (flat_map-append spelling (insns_in (take i units)) (insn ∷ []));
    } in
    subst (λ (l : List Insn). SpellsAll l (bytes ++ new)) (sym more) spells

-- a second unit adds no bytes
pub encoded_second : (units : List (Option Insn)) (i : ℕ) (bytes : List ℕ) → i < length units → None ≡ get_or units i None
    → SpellsAll (insns_in (take i units)) bytes → SpellsAll (insns_in (take (i + 1) units)) bytes
encoded_second units i bytes h at all =
    let longer : take (i + 1) units ≡ take i units ++ None ∷ [] = take_more units i None h ∙ ap (λ (o : Option Insn). take i units ++ o ∷ []) (sym at) in
    let more : insns_in (take (i + 1) units) ≡ insns_in (take i units) = ap insns_in longer ∙ insns_in-append (take i units) (None ∷ []) ∙ append-nil (insns_in (take i units)) in
    subst (λ (l : List Insn). SpellsAll l bytes) (sym more) all
