-- Reads of memory and loads are sound.
use Rattle.std.proofs.Common.{◌≡◌, ℕ, zero, suc, ◌+◌, ◌*◌, ◌<◌, ◌≤◌, ℤ, ◌+ℤ◌, Bool, true, false, List, [], ◌∷◌, Option, Some, None, option_and_then, length, take, drop, find, sym, ap, subst, ◌∙◌, refl, arith, eq-eqb, eqb-true, ⊎_elim, inl, inr, Result, Ok, Err}
use Rattle.std.specs.Prelude.{not, nat_le, ◌/◌, ◌%◌, ◌==◌, ◌&&◌, ◌||◌, if◌then◌else◌}
use Rattle.std.proofs.lemmas.Bool.{cases_lt}
use Rattle.std.proofs.lemmas.Bool.Decides.{nat_tests}
use Rattle.std.proofs.lemmas.Grind.{common_steps}
use Rattle.byteorder.specs.Endian.{little_number, little_bytes}
use Rattle.rb_insn.specs.declared.insn.Insn.{Insn}
use Rattle.rb_insn.specs.declared.insn.Size.{Size}
use Rattle.rb_insn.specs.declared.insn.Size.TheVariants.{Byte, Half, Word, Double}
use Rattle.rb_insn.specs.declared.reg.Reg.{Reg}
use Rattle.rb_program.specs.Program.{slot_at}
use Rattle.rb_program.specs.Edges.{falls_through}
use Rattle.rb_verifier.specs.declared.references.Reference.{Reference}
use Rattle.rb_verifier.specs.declared.rule.Rule.{Rule}
use Rattle.rb_verifier.specs.declared.rule.Rule.TheVariants as rule
use Rattle.rb_verifier.specs.declared.state.AbsState.{AbsState}
use Rattle.rb_verifier.specs.declared.state.Effect as refs
use Rattle.rb_verifier.specs.declared.value.Abs.{Abs}
use Rattle.rb_verifier.specs.declared.value.Abs.TheVariants as abs
use Rattle.rb_verifier.specs.ValueChecks.{◌>>=◌, check_writable, check_tested, check_inside}
use Rattle.rb_verifier.specs.Extents.{reaches, record_contains, contains_range, stack_extent, extent_from_zero}
use Rattle.rb_insn.specs.Sizes.{byte_count}
use Rattle.rb_verifier.specs.References.{has_id}
use Rattle.rb_verifier.specs.AbstractValues.{IsNumber}
use Rattle.rb_verifier.specs.StackPlaces.{stack_byte, place_from, touches, any_place, whole_place}
use Rattle.rb_verifier.specs.KeptPointers.{KnownPlaces, known_in, is_data, may_keep, byte_behind, check_data, check_filled, check_loaded}
use Rattle.rb_verifier.specs.AbstractStates.{value_in}
use Rattle.rb_verifier.specs.VerifierChecks as table
use Rattle.rb_verifier.specs.Subject.{Subject, limits_of}
use Rattle.rb_semantics.specs.declared.value.MemoryRegion.{MemoryRegion}
use Rattle.rb_semantics.specs.declared.value.MemoryRegion.TheVariants.{Stack, Context, Record}
use Rattle.rb_semantics.specs.declared.value.Value.{Value}
use Rattle.rb_semantics.specs.declared.value.Value.TheVariants.{Nothing, Number, Pointer, Ring}
use Rattle.rb_semantics.specs.StackPointers.{StackPointers, pointer_at, is_pointer_among}
use Rattle.rb_semantics.specs.ProgramMemory.{Memory, record_named, byte_of, part_bytes, part_pointers, place_at}
use Rattle.rb_semantics.specs.ProgramStates.{State, register, pointed, fill_of}
use Rattle.rb_semantics.specs.Instructions.{StepEffect}
use Rattle.rb_semantics.specs.Instructions as meaning
use Rattle.rb_semantics.specs.Agreement.{AgreesValue, AreHeld, IsTested, HasReference, IsBoundedValue, IsKeptPointer, Agrees, loaded_value, value_at}
use Rattle.rb_semantics.specs.Soundness.{CanStep}
use Rattle.rb_semantics.proofs.Held.{held_found}
use Rattle.rb_semantics.proofs.Values.{number_value}
use Rattle.rb_semantics.proofs.Ids.{eq_cases}
use Rattle.rb_semantics.proofs.Places.{over, other_touched}
use Rattle.rb_semantics.proofs.Checks.{passed, IsRange, from_zero, in_stack}
use Rattle.rb_semantics.proofs.Rows.{past, known, Follows, Sound, gives_sound}

-- the bytes of a part, in which a range lies
pub record IsInside (m : Memory) (place : MemoryRegion) (z : ℤ) (len : ℕ) : Type 0 where
  pub bytes : List ℕ
  pub there : part_bytes m place ≡ Some bytes
  pub range : IsRange (byte_of place z) len (length bytes)

pub fits : (at len : ℕ) (bytes : List ℕ) → at + len ≤ length bytes → nat_le (at + len) (length bytes) ≡ true
fits at len bytes h = grind (arith, nat_tests)

-- a range that lies inside a part is read, if none of its bytes belongs to a pointer
read_there : (m : Memory) (place : MemoryRegion) (offset by : ℤ) (len : ℕ) (v : Value) → v ≡ Pointer place offset → (i : IsInside m place (offset +ℤ by) len) → is_pointer_among i.range.at len (part_pointers m place) ≡ false
    → pointed m v by len ≡ Some (take len (drop i.range.at i.bytes))
read_there m place offset by len v points i plain = rw (points, i.there, i.range.byte_at, plain, fits i.range.at len i.bytes i.range.fits) refl

pub length-over : (at : ℕ) (new old : List ℕ) → at + length new ≤ length old → length (over at new old) ≡ length old
length-over at new old h = grind (arith, common_steps)

-- the number of bytes that a store writes
pub length-stored : (size : Size) (n : ℕ) → length (little_bytes (byte_count size) n) ≡ byte_count size
length-stored Byte n = refl
length-stored Half n = refl
length-stored Word n = refl
length-stored Double n = refl

pub size_some : (size : Size) → 0 < byte_count size
size_some Byte = omega arith
size_some Half = omega arith
size_some Word = omega arith
size_some Double = omega arith

record_reached : (held : List Reference) (rs : List (ℕ × List ℕ)) (id : ℕ) (z : ℤ) (len : ℕ) (found : Option Reference) → find (has_id id) held ≡ found → record_contains found z len ≡ true → IsTested true found → AreHeld held rs
    → (b : List ℕ) × (record_named id rs ≡ Some b) × (contains_range (extent_from_zero (length b)) z len ≡ true)
record_reached held rs id z len None f h t k = absurd t
record_reached held rs id z len (Some q) f h t k =
    let b = held_found id held rs q f t k in (b.0, b.1, subst (λ n. contains_range (extent_from_zero n) z len ≡ true) (sym b.2) h)

-- ---- which bytes are data

any_false : (test : ℕ → Bool) (n place : ℕ) → any_place test n ≡ false → place < n → test place ≡ false
any_false test zero place e lt = absurd (omega arith)
any_false test (suc n) place e lt = by_test (test n) refl (λ e below. any_false test n place e below) e
  where
    by_test : (b : Bool) → test n ≡ b → (any_place test n ≡ false → place < n → test place ≡ false) → (b || any_place test n) ≡ false → test place ≡ false
    by_test true h rest e = absurd (cc)
    by_test false h rest e = ⊎_elim (λ below. rest e below) (λ ge. let same : place ≡ n = omega arith in ap test same ∙ h) (cases_lt place n)

not_false : (b : Bool) → not b ≡ false → b ≡ true
not_false true e = refl
not_false false e = absurd (cc)

pub data_number : (x : Abs) → is_data x ≡ true → IsNumber x
data_number abs.Number e = tt
data_number (abs.Known n) e = tt
data_number abs.Unreadable e = absurd (cc)
data_number (abs.Ctx o) e = absurd (cc)
data_number (abs.Stack o) e = absurd (cc)
data_number (abs.Ring n) e = absurd (cc)
data_number (abs.Perhaps n) e = absurd (cc)
data_number (abs.Record n o) e = absurd (cc)

-- a pointer that a place holds is not a number
pub kept_apart : (rings : ℕ) (v : Value) → IsKeptPointer rings v → (n : ℕ) × (v ≡ Number n) → ⊥
kept_apart rings Nothing k n = k
kept_apart rings (Number m) k n = k
kept_apart rings (Pointer part o) k n = let e : Pointer part o ≡ Number n.0 = n.1 in cc
kept_apart rings (Ring ring) k n = let e : Ring ring ≡ Number n.0 = n.1 in cc

-- a place that has data holds no pointer
kept_none : (rings : ℕ) (rs : List (ℕ × List ℕ)) (x : Abs) (o : Option Value) (bytes : List ℕ) → is_data x ≡ true → AgreesValue rs x (loaded_value o bytes) → ((v : Value) → o ≡ Some v → IsKeptPointer rings v) → o ≡ None
kept_none rings rs x None bytes d h k = refl
kept_none rings rs x (Some v) bytes d h k = absurd (kept_apart rings v (k v refl) (number_value rs x v (data_number x d) h))

among_none : (at len : ℕ) (pointers : StackPointers) → ((place : ℕ) → touches at len place ≡ true → pointer_at place pointers ≡ None) → is_pointer_among at len pointers ≡ false
among_none at len [] h = refl
among_none at len (p ∷ pointers) h = by_test (touches at len p.0) refl (λ k. among_none at len pointers k)
  where
    none_here : pointer_at p.0 (p ∷ pointers) ≡ None → ⊥
    none_here e = let f = rw (eq-eqb p.0 p.0 refl) at e in cc

    rest : (place : ℕ) → touches at len place ≡ true → pointer_at place pointers ≡ None
    rest place t = elim (eq_cases p.0 place) [ inl k ↦ absurd (let f = rw k.0 at (h place t) in cc) | inr k ↦ rw k.0 at (h place t) ]

    by_test : (b : Bool) → touches at len p.0 ≡ b → (((place : ℕ) → touches at len place ≡ true → pointer_at place pointers ≡ None) → is_pointer_among at len pointers ≡ false) → (b || is_pointer_among at len pointers) ≡ false
    by_test true e later = absurd (none_here (h p.0 e))
    by_test false e later = later rest

near_place : (at len place : ℕ) → touches at len place ≡ true → at + len ≤ 512 → place < 64
near_place at len place t le = grind (arith, nat_tests)

inside_bytes : (at len place : ℕ) → touches at len place ≡ true → place < at + len
inside_bytes at len place t = grind (arith, nat_tests)

-- the place that begins at a byte
pub begins_at : (at place : ℕ) → place_from at ≡ Some place → at ≡ 8 * place
begins_at at place e = by_rest (at % 8 == 0) refl e
  where
    by_rest : (b : Bool) → (at % 8 == 0) ≡ b → (if b then Some (at / 8) else None) ≡ Some place → at ≡ 8 * place
    by_rest true h e = let rest : at % 8 ≡ 0 = eqb-true _ _ h in let same : at / 8 ≡ place = cc in omega arith
    by_rest false h e = absurd (cc)

pub whole_begins : (at len place : ℕ) → whole_place at len ≡ Some place → (len ≡ 8) × (place_from at ≡ Some place)
whole_begins at len place e = by_length (len == 8) refl e
  where
    by_length : (b : Bool) → (len == 8) ≡ b → (if b then place_from at else None) ≡ Some place → (len ≡ 8) × (place_from at ≡ Some place)
    by_length true h e = (eqb-true _ _ h, e)
    by_length false h e = absurd (cc)

kept_bounded : (rings : ℕ) (v : Value) → IsKeptPointer rings v → IsBoundedValue rings v
kept_bounded rings Nothing k = tt
kept_bounded rings (Number n) k = tt
kept_bounded rings (Pointer part o) k = k
kept_bounded rings (Ring ring) k = k

module _ (subject : Subject) (a : AbsState) (s : State) (g : Agrees subject a s) where
  pub record_inside : (id : ℕ) (z : ℤ) (len : ℕ) → record_contains (find (has_id id) a.held) z len ≡ true → HasReference a.held (abs.Record id z) → IsInside s.memory (Record id) z len
  record_inside id z len h t =
      let b = record_reached a.held s.memory.records id z len (find (has_id id) a.held) refl h t g.records in
      record { bytes = b.0; there = b.1; range = from_zero z len (length b.0) b.2 }

  context_inside : (z : ℤ) (len : ℕ) → contains_range (extent_from_zero subject.ctx_len) z len ≡ true → IsInside s.memory Context z len
  context_inside z len h = record { bytes = s.memory.context; there = refl; range = from_zero z len (length s.memory.context) (subst (λ n. contains_range (extent_from_zero n) z len ≡ true) (sym g.context) h) }

  -- a range of the stack that passes a check
  pub stack_range : (z : ℤ) (len : ℕ) → contains_range stack_extent z len ≡ true → IsRange (stack_byte z) len (length s.memory.stack)
  stack_range z len h = subst (IsRange (stack_byte z) len) (sym g.stack) (in_stack z len h)

  abbrev pub stack_inside : (z : ℤ) (len : ℕ) → IsRange (stack_byte z) len (length s.memory.stack) → IsInside s.memory Stack z len
  stack_inside z len r = record { bytes = s.memory.stack; there = refl; range = r }

  ends_inside : (at len : ℕ) → at + len ≤ length s.memory.stack → at + len ≤ 512
  ends_inside at len h = let long : length s.memory.stack ≡ 512 = g.stack in omega arith

  -- bytes that are known to be data belong to no pointer
  pub data_plain : (at len : ℕ) → at + len ≤ length s.memory.stack → may_keep at len (known_in a.places) ≡ false → is_pointer_among at len s.memory.pointers ≡ false
  data_plain at len le e =
      among_none at len s.memory.pointers (λ place t.
      let lt : place < 64 = near_place at len place t (ends_inside at len le) in
      let no : (touches at len place && not (is_data (known_in a.places place))) ≡ false = any_false (λ place. touches at len place && not (is_data (known_in a.places place))) (at + len) place e (inside_bytes at len place t) in
      let number : is_data (known_in a.places place) ≡ true = not_false _ (rw t at no) in
      kept_none subject.rings s.memory.records (known_in a.places place) (pointer_at place s.memory.pointers) (take 8 (drop (8 * place) s.memory.stack)) number (g.places.values place lt) (g.places.pointers place))

  -- no byte of a place without a pointer belongs to a pointer
  place_plain : (place : ℕ) → pointer_at place s.memory.pointers ≡ None → is_pointer_among (8 * place) 8 s.memory.pointers ≡ false
  place_plain place e =
      among_none (8 * place) 8 s.memory.pointers (λ other t. elim (eq_cases other place) [
        | inl k ↦ ap (λ p. pointer_at p s.memory.pointers) k.1 ∙ e
        | inr k ↦ absurd (let f = other_touched place other k.1 in cc)
      ])

  -- data that a pointer reaches is read
  pub value_read : (x : Abs) (v : Value) (by : ℤ) (len : ℕ) (unit : Unit {0}) → reaches (limits_of subject) a.held x by len ≡ true → AgreesValue s.memory.records x v → HasReference a.held x → check_data (byte_behind x by) len (known_in a.places) ≡ Ok unit → (b : List ℕ) × (pointed s.memory v by len ≡ Some b)
  value_read (abs.Ctx o) v by len unit h k t d = (_, read_there s.memory Context o by len v k (context_inside (o +ℤ by) len h) refl)
  value_read (abs.Record id o) v by len unit h k t d = (_, read_there s.memory (Record id) o by len v k (record_inside id (o +ℤ by) len h t) refl)
  value_read (abs.Stack o) v by len unit h k t d =
      let r = stack_range (o +ℤ by) len h in
      let none : may_keep r.at len (known_in a.places) ≡ false = passed _ rule.Unreadable unit (rw r.byte_at at d) in
      (_, read_there s.memory Stack o by len v k (stack_inside (o +ℤ by) len r) (data_plain r.at len r.fits none))
  value_read abs.Unreadable v by len unit h k t d = absurd (cc)
  value_read abs.Number v by len unit h k t d = absurd (cc)
  value_read (abs.Known n) v by len unit h k t d = absurd (cc)
  value_read (abs.Ring n) v by len unit h k t d = absurd (cc)
  value_read (abs.Perhaps n) v by len unit h k t d = absurd (cc)

  -- ---- a load of a whole place

  abbrev Filled : Value → ℤ → Insn → Reg → StepEffect
  Filled v by insn dst = meaning.execute_fill insn dst (little_number 8) (fill_of Double s.memory v by) (pointed s.memory v by 8) s

  pub record IsFilled (v : Value) (by : ℤ) (y : Abs) : Type 0 where
    pub value : Value
    pub agrees : AgreesValue s.memory.records y value
    pub tied : HasReference a.held y
    pub bounded : IsBoundedValue subject.rings value
    pub gives : (insn : Insn) (dst : Reg) → Filled v by insn dst ≡ meaning.gives insn dst value s

  -- a load finds no pointer, and reads data
  data_filled : (x : Abs) (v : Value) (by : ℤ) (y : Abs) → fill_of Double s.memory v by ≡ None → reaches (limits_of subject) a.held x by 8 ≡ true → AgreesValue s.memory.records x v → HasReference a.held x
      → (m : Result (Unit {0}) Rule) → check_data (byte_behind x by) 8 (known_in a.places) ≡ m → m >>= (λ _. Ok abs.Number) ≡ Ok y → IsFilled v by y
  data_filled x v by y none h k t (Ok unit) d e =
      let b = value_read x v by 8 unit h k t d in
      let same : abs.Number ≡ y = cc in
      subst (IsFilled v by) same (record { value = Number (little_number 8 b.0); agrees = (_, refl); tied = tt; bounded = tt; gives = λ insn dst. rw (none, b.1) refl })
  data_filled x v by y none h k t (Err broken) d e = absurd (cc)

  place_filled : (o by : ℤ) (v : Value) (place : ℕ) (y : Abs) → v ≡ Pointer Stack o → (r : IsRange (stack_byte (o +ℤ by)) 8 (length s.memory.stack)) → place_from r.at ≡ Some place → known_in a.places place ≡ y → IsFilled v by y
  place_filled o by v place y k r f e =
      subst (IsFilled v by) e (record {
        value = value_at place s.memory;
        agrees = g.places.values place inside;
        tied = g.places.tied place inside;
        bounded = bound (pointer_at place s.memory.pointers) refl;
        gives = λ insn dst. given insn dst (pointer_at place s.memory.pointers) refl;
      })
    where
      at_place : r.at ≡ 8 * place
      at_place = begins_at r.at place f

      inside : place < 64
      inside = let le : r.at + 8 ≤ 512 = ends_inside r.at 8 r.fits in let e : r.at ≡ 8 * place = at_place in omega arith

      bytes : List ℕ
      bytes = take 8 (drop (8 * place) s.memory.stack)

      bound : (p : Option Value) → pointer_at place s.memory.pointers ≡ p → IsBoundedValue subject.rings (loaded_value p bytes)
      bound None q = tt
      bound (Some w) q = kept_bounded subject.rings w (g.places.pointers place w q)

      found : fill_of Double s.memory v by ≡ pointer_at place s.memory.pointers
      found = rw (k, r.byte_at, f) refl

      given : (insn : Insn) (dst : Reg) (p : Option Value) → pointer_at place s.memory.pointers ≡ p → Filled v by insn dst ≡ meaning.gives insn dst (loaded_value p bytes) s
      given insn dst (Some w) q = rw (found ∙ q) refl
      given insn dst None q =
          let plain : is_pointer_among r.at 8 s.memory.pointers ≡ false = subst (λ n. is_pointer_among n 8 s.memory.pointers ≡ false) (sym at_place) (place_plain place q) in
          let b : pointed s.memory v by 8 ≡ Some (take 8 (drop r.at s.memory.stack)) = read_there s.memory Stack o by 8 v k (stack_inside (o +ℤ by) 8 r) plain in
          rw (found ∙ q, b) (ap (λ n. meaning.gives insn dst (Number (little_number 8 (take 8 (drop n s.memory.stack)))) s) at_place)

  pub value_filled : (x : Abs) (v : Value) (by : ℤ) (y : Abs) → reaches (limits_of subject) a.held x by 8 ≡ true → AgreesValue s.memory.records x v → HasReference a.held x → check_loaded (byte_behind x by) 8 (known_in a.places) ≡ Ok y → IsFilled v by y
  value_filled (abs.Ctx o) v by y h k t e = data_filled (abs.Ctx o) v by y (rw k refl) h k t (Ok tt) refl e
  value_filled (abs.Record id o) v by y h k t e = data_filled (abs.Record id o) v by y (rw k refl) h k t (Ok tt) refl e
  value_filled (abs.Stack o) v by y h k t e = of_place (place_from r.at) refl (rw r.byte_at at e)
    where
      r : IsRange (stack_byte (o +ℤ by)) 8 (length s.memory.stack)
      r = stack_range (o +ℤ by) 8 h

      of_place : (p : Option ℕ) → place_from r.at ≡ p → check_filled p r.at 8 (known_in a.places) ≡ Ok y → IsFilled v by y
      of_place (Some place) f e = let same : known_in a.places place ≡ y = cc in place_filled o by v place y k r f same
      of_place None f e =
          let none : fill_of Double s.memory v by ≡ None = rw (k, r.byte_at, f) refl in
          data_filled (abs.Stack o) v by y none h k t (check_data (Some r.at) 8 (known_in a.places)) (ap (λ byte. check_data byte 8 (known_in a.places)) r.byte_at) e
  value_filled abs.Unreadable v by y h k t e = absurd (cc)
  value_filled abs.Number v by y h k t e = absurd (cc)
  value_filled (abs.Known n) v by y h k t e = absurd (cc)
  value_filled (abs.Ring n) v by y h k t e = absurd (cc)
  value_filled (abs.Perhaps n) v by y h k t e = absurd (cc)

-- if the stack holds no pointer, none is found
pub no_fill : (size : Size) (m : Memory) (v : Value) (by : ℤ) → m.pointers ≡ [] → fill_of size m v by ≡ None
no_fill Double m (Pointer part offset) by e = at_place (place_at part (offset +ℤ by))
  where
    at_place : (o : Option ℕ) → option_and_then (λ place. pointer_at place m.pointers) o ≡ None
    at_place None = refl
    at_place (Some place) = ap (pointer_at place) e
no_fill size m v by e = refl

-- a range that passes a check lies inside its part
pub inside_passed : (subject : Subject) (held : List Reference) (x : Abs) (by : ℤ) (len : ℕ) (unit : Unit {0}) → check_inside (limits_of subject) held x by len ≡ Ok unit → reaches (limits_of subject) held x by len ≡ true
inside_passed subject held x by len unit e = not_false _ (passed (not (reaches (limits_of subject) held x by len)) rule.OutsidePart unit e)

-- the result of a load of data
loaded_data : (byte : Option ℕ) (len : ℕ) (places : KnownPlaces) (y : Abs) → ((at : ℕ) → whole_place at len ≡ None) → check_loaded byte len places ≡ Ok y → (unit : Unit {0}) × (check_data byte len places ≡ Ok unit) × (abs.Number ≡ y)
loaded_data None len places y none e = (tt, refl, cc)
loaded_data (Some at) len places y none e = of_check (check_data (Some at) len places) refl (rw (none at) at e)
  where
    of_check : (m : Result (Unit {0}) Rule) → check_data (Some at) len places ≡ m → m >>= (λ _. Ok abs.Number) ≡ Ok y → (unit : Unit {0}) × (check_data (Some at) len places ≡ Ok unit) × (abs.Number ≡ y)
    of_check (Ok u) h e = (u, h, cc)
    of_check (Err broken) h e = absurd (cc)

module _ (subject : Subject) (s : State) (c : CanStep subject s) (insn : Insn) (begins : slot_at subject.program s.unit ≡ Some insn) (on : falls_through insn ≡ true) where
  abbrev a : AbsState
  a = known subject s c

  abbrev Given : StepEffect → Result refs.Effect Rule → Type 0
  Given = Sound subject s c insn begins

  -- a load of bytes that are not a whole place
  pub loaded_sound : (dst base : Reg) (by : ℤ) (len : ℕ) (number_of : List ℕ → ℕ) → ((at : ℕ) → whole_place at len ≡ None) → Given (meaning.execute_load insn dst number_of (pointed s.memory (register s base.number) by len) s) (table.check_load (limits_of subject) dst base by len a)
  loaded_sound dst base by len number_of none =
      let x = value_in a base.number in
      let v = register s base.number in
      let P = Follows subject s c insn begins (meaning.execute_load insn dst number_of (pointed s.memory v by len) s) in
      past P (check_writable dst) _ (λ _ _. past P (check_tested x) _ (λ _ _. past P (check_inside (limits_of subject) a.held x by len) _ (λ unit e. past P (check_loaded (byte_behind x by) len (known_in a.places)) _ (λ y loaded.
      let d = loaded_data (byte_behind x by) len (known_in a.places) y none loaded in
      let b = value_read subject a s c.agrees x v by len d.0 (inside_passed subject a.held x by len unit e) (c.agrees.values base.number) (c.agrees.tied base.number) d.1 in
      subst (λ y. P (table.assignment_effect dst y a)) d.2
      (subst (λ found. Follows subject s c insn begins (meaning.execute_load insn dst number_of found s) (table.assignment_effect dst abs.Number a)) (sym b.1)
      (gives_sound subject s c insn begins dst abs.Number (Number (number_of b.0)) on (_, refl) tt tt))))))

  -- a load of eight bytes, which may be a whole place
  double_sound : (dst base : Reg) (by : ℤ) → Given (meaning.execute_fill insn dst (little_number 8) (fill_of Double s.memory (register s base.number) by) (pointed s.memory (register s base.number) by 8) s) (table.check_load (limits_of subject) dst base by 8 a)
  double_sound dst base by =
      let x = value_in a base.number in
      let v = register s base.number in
      let P = Follows subject s c insn begins (meaning.execute_fill insn dst (little_number 8) (fill_of Double s.memory v by) (pointed s.memory v by 8) s) in
      past P (check_writable dst) _ (λ _ _. past P (check_tested x) _ (λ _ _. past P (check_inside (limits_of subject) a.held x by 8) _ (λ unit e. past P (check_loaded (byte_behind x by) 8 (known_in a.places)) _ (λ y loaded.
      let f = value_filled subject a s c.agrees x v by y (inside_passed subject a.held x by 8 unit e) (c.agrees.values base.number) (c.agrees.tied base.number) loaded in
      subst (λ effect. Follows subject s c insn begins effect (table.assignment_effect dst y a)) (sym (f.gives insn dst))
      (gives_sound subject s c insn begins dst y f.value on f.agrees f.tied f.bounded)))))

  pub filled_sound : (dst base : Reg) (by : ℤ) (size : Size) → Given (meaning.execute_fill insn dst (little_number (byte_count size)) (fill_of size s.memory (register s base.number) by) (pointed s.memory (register s base.number) by (byte_count size)) s) (table.check_load (limits_of subject) dst base by (byte_count size) a)
  filled_sound dst base by Byte = loaded_sound dst base by 1 (little_number 1) (λ at. refl)
  filled_sound dst base by Half = loaded_sound dst base by 2 (little_number 2) (λ at. refl)
  filled_sound dst base by Word = loaded_sound dst base by 4 (little_number 4) (λ at. refl)
  filled_sound dst base by Double = double_sound dst base by
