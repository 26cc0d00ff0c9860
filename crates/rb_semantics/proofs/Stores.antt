-- Stores are sound.
use Rattle.std.proofs.Common.{◌≡◌, ℕ, ◌+◌, ◌*◌, ◌<◌, ◌≤◌, ℤ, ◌+ℤ◌, Bool, true, false, List, ◌∷◌, Option, Some, None, option_and_then, option_map, length, replicate, find, sym, ap, subst, ◌∙◌, refl, arith, ◌⊎◌, inl, inr, Result, Ok, Err}
use Rattle.std.specs.Prelude.{if◌then◌else◌}
use Rattle.byteorder.specs.Endian.{little_number, little_bytes}
use Rattle.rb_insn.specs.declared.insn.Insn.{Insn}
use Rattle.rb_insn.specs.declared.insn.Size.{Size}
use Rattle.rb_insn.specs.declared.insn.Size.TheVariants.{Byte, Half, Word, Double}
use Rattle.rb_insn.specs.declared.reg.Reg.{Reg}
use Rattle.rb_program.specs.Program.{slot_at}
use Rattle.rb_program.specs.Edges.{falls_through}
use Rattle.rb_verifier.specs.declared.rule.Rule.{Rule}
use Rattle.rb_verifier.specs.declared.rule.Rule.TheVariants as rule
use Rattle.rb_verifier.specs.declared.state.AbsState.{AbsState}
use Rattle.rb_verifier.specs.declared.state.Effect as refs
use Rattle.rb_verifier.specs.declared.value.Abs.{Abs}
use Rattle.rb_verifier.specs.declared.value.Abs.TheVariants as abs
use Rattle.rb_verifier.specs.ValueChecks.{◌>>=◌, check_readable, check_tested, check_not_context, check_inside, check_number}
use Rattle.rb_verifier.specs.Extents.{reaches, record_contains}
use Rattle.rb_insn.specs.Sizes.{byte_count}
use Rattle.rb_verifier.specs.References.{has_id}
use Rattle.rb_verifier.specs.AbstractValues.{IsNumber}
use Rattle.rb_verifier.specs.StackPlaces.{stack_byte, place_from, whole_place}
use Rattle.rb_verifier.specs.KeptPointers.{listed_places, known_in, is_data, byte_behind, with_place, with_data, check_kept, check_stored}
use Rattle.rb_verifier.specs.AbstractStates.{value_in, effect_on_both}
use Rattle.rb_verifier.specs.VerifierChecks as table
use Rattle.rb_verifier.specs.Subject.{Subject, limits_of}
use Rattle.rb_semantics.specs.declared.value.MemoryRegion.{MemoryRegion}
use Rattle.rb_semantics.specs.declared.value.MemoryRegion.TheVariants.{Stack, Record}
use Rattle.rb_semantics.specs.declared.value.Value.{Value}
use Rattle.rb_semantics.specs.declared.value.Value.TheVariants.{Nothing, Number, Pointer, Ring}
use Rattle.rb_semantics.specs.StackPointers.{pointers_beside, spill_of}
use Rattle.rb_semantics.specs.ProgramMemory.{Memory, record_named, with_bytes, with_part, with_pointer, write}
use Rattle.rb_semantics.specs.ProgramStates.{State, register, memory_written, memory_with_spill}
use Rattle.rb_semantics.specs.Instructions.{StepEffect}
use Rattle.rb_semantics.specs.Instructions as meaning
use Rattle.rb_semantics.specs.Agreement.{reserved_value, AgreesValue, HasReference, IsBoundedValue, IsKeptPointer, AgreesPlaces, Agrees}
use Rattle.rb_semantics.specs.Soundness.{CanStep}
use Rattle.rb_semantics.proofs.Records.{length-with_bytes}
use Rattle.rb_semantics.proofs.Values.{number_value}
use Rattle.rb_semantics.proofs.Places.{over, stack_written, stack_spilled, places_data, places_spilled, places_number}
use Rattle.rb_semantics.proofs.Changes.{agrees_stack, agrees_written}
use Rattle.rb_semantics.proofs.Checks.{number_passed, readable_passed, IsRange}
use Rattle.rb_semantics.proofs.Rows.{past, known, Follows, Sound, goes_next}
use Rattle.rb_semantics.proofs.Accesses.{IsInside, fits, length-over, length-stored, size_some, data_number, kept_apart, begins_at, whole_begins, record_inside, stack_range, stack_inside, inside_passed}

module _ (subject : Subject) (a : AbsState) (s : State) (g : Agrees subject a s) where
  -- the memory after an allowed store, and the abstract places
  pub record IsStored (o : Option Memory) (places : List Abs) : Type 0 where
    pub memory : Memory
    pub is : o ≡ Some memory
    pub held : length memory.records ≡ length s.memory.records
    pub agrees : Agrees subject (record a { places = places }) (record s { memory = memory })

  write_is : (place : MemoryRegion) (z : ℤ) (new : List ℕ) (i : IsInside s.memory place z (length new)) → write s.memory place z new ≡ with_part s.memory place i.range.at (length new) (over i.range.at new i.bytes)
  write_is place z new i = rw (i.there, i.range.byte_at, fits i.range.at (length new) i.bytes i.range.fits) refl

  record_stored : (id : ℕ) (o by : ℤ) (v : Value) (new : List ℕ) → v ≡ Pointer (Record id) o → IsInside s.memory (Record id) (o +ℤ by) (length new) → IsStored (memory_written s.memory v by new) a.places
  record_stored id o by v new points i =
      let b = over i.range.at new i.bytes in
      record {
        memory = record s.memory { records = with_bytes id b s.memory.records };
        is = ap (λ v. memory_written s.memory v by new) points ∙ write_is (Record id) (o +ℤ by) new i;
        held = length-with_bytes id b s.memory.records;
        agrees = agrees_written subject a s id b i.bytes i.there (length-over i.range.at new i.bytes i.range.fits) g;
      }

  stack_stored : (o by : ℤ) (v : Value) (new : List ℕ) (places : List Abs) → v ≡ Pointer Stack o → (r : IsRange (stack_byte (o +ℤ by)) (length new) (length s.memory.stack)) → AgreesPlaces subject.rings a.held places (stack_written r.at new s.memory)
      → IsStored (memory_written s.memory v by new) places
  stack_stored o by v new places points r h = record {
    memory = stack_written r.at new s.memory;
    is = ap (λ v. memory_written s.memory v by new) points ∙ write_is Stack (o +ℤ by) new (stack_inside subject a s g (o +ℤ by) (length new) r);
    held = refl;
    agrees = agrees_stack subject a s (over r.at new s.memory.stack) (pointers_beside r.at (length new) s.memory.pointers) places (length-over r.at new s.memory.stack r.fits) h g;
  }

  stack_kept : (o by : ℤ) (v w : Value) (place : ℕ) (places : List Abs) → v ≡ Pointer Stack o → (r : IsRange (stack_byte (o +ℤ by)) 8 (length s.memory.stack)) → place_from r.at ≡ Some place → AgreesPlaces subject.rings a.held places (stack_spilled place w s.memory)
      → IsStored (memory_with_spill s.memory v by w) places
  stack_kept o by v w place places points r f h = record {
    memory = after r.at;
    is = ap (λ v. memory_with_spill s.memory v by w) points
        ∙ ap (option_and_then (λ place. option_map (with_pointer place w) (write s.memory Stack (o +ℤ by) (replicate 8 0)))) (ap (option_and_then place_from) r.byte_at ∙ f)
        ∙ ap (option_map (with_pointer place w)) (write_is Stack (o +ℤ by) (replicate 8 0) (stack_inside subject a s g (o +ℤ by) 8 r));
    held = refl;
    agrees = agrees_stack subject a s (over r.at (replicate 8 0) s.memory.stack) ((place, w) ∷ pointers_beside r.at 8 s.memory.pointers) places (length-over r.at (replicate 8 0) s.memory.stack r.fits)
        (subst (λ n. AgreesPlaces subject.rings a.held places (after n)) (sym (begins_at r.at place f)) h) g;
  }
    where
      after : ℕ → Memory
      after at = record s.memory { stack = over at (replicate 8 0) s.memory.stack; pointers = (place, w) ∷ pointers_beside at 8 s.memory.pointers }

-- ---- the places after the check of a store

-- a store to a part other than the stack: stores a number and keeps the places
pub other_passed : (len : ℕ) (y : Abs) (places left : List Abs) → check_stored None len y places ≡ Ok left → IsNumber y × (places ≡ left)
other_passed len y places left e = of_check (check_number rule.PointerStored y) refl e
  where
    of_check : (m : Result (Unit {0}) Rule) → check_number rule.PointerStored y ≡ m → m >>= (λ _. Ok places) ≡ Ok left → IsNumber y × (places ≡ left)
    of_check (Ok u) h e = (number_passed rule.PointerStored y u h, cc)
    of_check (Err broken) h e = absurd (cc)

-- a place that holds a readable value other than a number
pub record IsKept (at len : ℕ) (y : Abs) (places left : List Abs) : Type 0 where
  pub place : ℕ
  pub whole : whole_place at len ≡ Some place
  pub pointer : is_data y ≡ false
  pub unit : Unit {0}
  pub readable : check_readable y ≡ Ok unit
  pub leaves : listed_places (with_place place y (known_in places)) ≡ left

kept_passed : (at len : ℕ) (y : Abs) (places left : List Abs) → is_data y ≡ false → (p : Option ℕ) → whole_place at len ≡ p → (m : Result (Unit {0}) Rule) → check_readable y ≡ m → check_kept p y (known_in places) ≡ Ok left → IsKept at len y places left
kept_passed at len y places left d (Some place) w (Ok u) h e =
    let same : listed_places (with_place place y (known_in places)) ≡ left = (let f = rw h at e in cc) in
    record { place = place; whole = w; pointer = d; unit = u; readable = h; leaves = same }
kept_passed at len y places left d None w (Ok u) h e = absurd (let f = rw h at e in cc)
kept_passed at len y places left d (Some place) w (Err broken) h e = absurd (let f = rw h at e in cc)
kept_passed at len y places left d None w (Err broken) h e = absurd (let f = rw h at e in cc)

-- a store to the stack: a number leaves data, and a pointer is held at a place
pub stack_passed : (at len : ℕ) (y : Abs) (places left : List Abs) → check_stored (Some at) len y places ≡ Ok left → (IsNumber y × (listed_places (with_data at len (known_in places)) ≡ left)) ⊎ IsKept at len y places left
stack_passed at len y places left e = by_data (is_data y) refl e
  where
    by_data : (b : Bool) → is_data y ≡ b → (if b then Ok (listed_places (with_data at len (known_in places))) else check_kept (whole_place at len) y (known_in places)) ≡ Ok left
        → (IsNumber y × (listed_places (with_data at len (known_in places)) ≡ left)) ⊎ IsKept at len y places left
    by_data true d e = inl (data_number y d, cc)
    by_data false d e = inr (kept_passed at len y places left d (whole_place at len) refl (check_readable y) refl e)

-- a number that agrees with an abstract pointer is null
null_number : (rs : List (ℕ × List ℕ)) (y : Abs) (n : ℕ) (unit : Unit {0}) → is_data y ≡ false → check_readable y ≡ Ok unit → AgreesValue rs y (Number n) → n ≡ 0
null_number rs (abs.Perhaps id) n unit d r h = of_record (record_named id rs) h
  where
    of_record : (o : Option (List ℕ)) → Number n ≡ reserved_value id o → n ≡ 0
    of_record None e = cc
    of_record (Some b) e = absurd (cc)
null_number rs abs.Unreadable n unit d r h = absurd (cc)
null_number rs abs.Number n unit d r h = absurd (cc)
null_number rs (abs.Known m) n unit d r h = absurd (cc)
null_number rs (abs.Ctx o) n unit d r h = absurd (cc)
null_number rs (abs.Stack o) n unit d r h = absurd (cc)
null_number rs (abs.Ring m) n unit d r h = absurd (cc)
null_number rs (abs.Record id o) n unit d r h = absurd (cc)

null_bytes : (len n : ℕ) → len ≡ 8 → n ≡ 0 → little_number 8 (little_bytes len n) ≡ n
null_bytes len n e f = rw (e, f) refl

module _ (subject : Subject) (a : AbsState) (s : State) (g : Agrees subject a s) where
  -- a number is stored
  number_stored_on_stack : (o by : ℤ) (v : Value) (size : Size) (n : ℕ) (y : Abs) (left : List Abs) → v ≡ Pointer Stack o → (r : IsRange (stack_byte (o +ℤ by)) (byte_count size) (length s.memory.stack)) → AgreesValue s.memory.records y (Number n) → HasReference a.held y
      → check_stored (Some r.at) (byte_count size) y a.places ≡ Ok left → IsStored subject a s g (memory_written s.memory v by (little_bytes (byte_count size) n)) left
  number_stored_on_stack o by v size n y left k r h t e =
      elim (stack_passed r.at (byte_count size) y a.places left e) [
        | inl number ↦ stack_stored subject a s g o by v new left k range (subst (λ l. AgreesPlaces subject.rings a.held l (stack_written r.at new s.memory)) number.1
            (subst (λ len. AgreesPlaces subject.rings a.held (listed_places (with_data r.at len (known_in a.places))) (stack_written r.at new s.memory)) long (places_data subject.rings a.held a.places s.memory g.places r.at new some fit)))
        | inr kept ↦ stack_stored subject a s g o by v new left k range (subst (λ l. AgreesPlaces subject.rings a.held l (stack_written r.at new s.memory)) kept.leaves (null_kept kept))
      ]
    where
      new : List ℕ
      new = little_bytes (byte_count size) n

      long : length new ≡ byte_count size
      long = length-stored size n

      some : 0 < length new
      some = rw long (size_some size)

      fit : r.at + length new ≤ length s.memory.stack
      fit = rw long r.fits

      range : IsRange (stack_byte (o +ℤ by)) (length new) (length s.memory.stack)
      range = record { at = r.at; byte_at = r.byte_at; fits = fit }

      null_kept : (kept : IsKept r.at (byte_count size) y a.places left) → AgreesPlaces subject.rings a.held (listed_places (with_place kept.place y (known_in a.places))) (stack_written r.at new s.memory)
      null_kept kept =
          let whole = whole_begins r.at (byte_count size) kept.place kept.whole in
          let at_place : r.at ≡ 8 * kept.place = begins_at r.at kept.place whole.1 in
          let eight : length new ≡ 8 = long ∙ whole.0 in
          let zero_is : n ≡ 0 = null_number s.memory.records y n kept.unit kept.pointer kept.readable h in
          let same : little_number 8 new ≡ n = null_bytes (byte_count size) n whole.0 zero_is in
          subst (λ at. AgreesPlaces subject.rings a.held (listed_places (with_place kept.place y (known_in a.places))) (stack_written at new s.memory)) (sym at_place)
          (places_number subject.rings a.held a.places s.memory g.places kept.place (omega arith) y t new eight (subst (λ m. AgreesValue s.memory.records y (Number m)) (sym same) h))

  pub number_stored : (x : Abs) (v : Value) (by : ℤ) (size : Size) (n : ℕ) (y : Abs) (left : List Abs) (unit : Unit {0}) → check_not_context x ≡ Ok unit → reaches (limits_of subject) a.held x by (byte_count size) ≡ true → AgreesValue s.memory.records x v → HasReference a.held x
      → AgreesValue s.memory.records y (Number n) → HasReference a.held y → check_stored (byte_behind x by) (byte_count size) y a.places ≡ Ok left → IsStored subject a s g (memory_written s.memory v by (little_bytes (byte_count size) n)) left
  number_stored (abs.Record id o) v by size n y left unit c h k t yn yt e =
      let reach : record_contains (find (has_id id) a.held) (o +ℤ by) (length (little_bytes (byte_count size) n)) ≡ true = rw (length-stored size n) h in
      subst (IsStored subject a s g (memory_written s.memory v by (little_bytes (byte_count size) n))) (other_passed (byte_count size) y a.places left e).1
      (record_stored subject a s g id o by v (little_bytes (byte_count size) n) k (record_inside subject a s g id (o +ℤ by) (length (little_bytes (byte_count size) n)) reach t))
  number_stored (abs.Stack o) v by size n y left unit c h k t yn yt e =
      let r = stack_range subject a s g (o +ℤ by) (byte_count size) h in
      number_stored_on_stack o by v size n y left k r yn yt (rw r.byte_at at e)
  number_stored (abs.Ctx o) v by size n y left unit c h k t yn yt e = absurd (cc)
  number_stored abs.Unreadable v by size n y left unit c h k t yn yt e = absurd (cc)
  number_stored abs.Number v by size n y left unit c h k t yn yt e = absurd (cc)
  number_stored (abs.Known m) v by size n y left unit c h k t yn yt e = absurd (cc)
  number_stored (abs.Ring m) v by size n y left unit c h k t yn yt e = absurd (cc)
  number_stored (abs.Perhaps m) v by size n y left unit c h k t yn yt e = absurd (cc)

  -- a store of a pointer to a whole place of the stack
  pub record IsSpilled (v : Value) (by : ℤ) (len : ℕ) (w : Value) (left : List Abs) : Type 0 where
    pub eight : len ≡ 8
    pub stored : IsStored subject a s g (memory_with_spill s.memory v by w) left

  pointer_number : (y : Abs) (w : Value) → IsKeptPointer subject.rings w → AgreesValue s.memory.records y w → IsNumber y → ⊥
  pointer_number y w b h n = kept_apart subject.rings w b (number_value s.memory.records y w n h)

  pub pointer_stored : (x : Abs) (v : Value) (by : ℤ) (len : ℕ) (w : Value) (y : Abs) (left : List Abs) → reaches (limits_of subject) a.held x by len ≡ true → AgreesValue s.memory.records x v
      → AgreesValue s.memory.records y w → HasReference a.held y → IsKeptPointer subject.rings w → check_stored (byte_behind x by) len y a.places ≡ Ok left → IsSpilled v by len w left
  pointer_stored (abs.Stack o) v by len w y left h k yn yt b e =
      elim (stack_passed r.at len y a.places left (rw r.byte_at at e)) [
        | inl number ↦ absurd (pointer_number y w b yn number.0)
        | inr kept ↦ spilled kept (whole_begins r.at len kept.place kept.whole)
      ]
    where
      r : IsRange (stack_byte (o +ℤ by)) len (length s.memory.stack)
      r = stack_range subject a s g (o +ℤ by) len h

      spilled : (kept : IsKept r.at len y a.places left) → (len ≡ 8) × (place_from r.at ≡ Some kept.place) → IsSpilled v by len w left
      spilled kept whole =
          let at_place : r.at ≡ 8 * kept.place = begins_at r.at kept.place whole.1 in
          let fit : r.at + len ≤ length s.memory.stack = r.fits in
          let eight : len ≡ 8 = whole.0 in
          let range : IsRange (stack_byte (o +ℤ by)) 8 (length s.memory.stack) = record { at = r.at; byte_at = r.byte_at; fits = omega arith } in
          record {
            eight = eight;
            stored = stack_kept subject a s g o by v w kept.place left k range whole.1 (subst (λ l. AgreesPlaces subject.rings a.held l (stack_spilled kept.place w s.memory)) kept.leaves
                (places_spilled subject.rings a.held a.places s.memory g.places kept.place (omega arith) y yt w yn b));
          }
  pointer_stored (abs.Record id o) v by len w y left h k yn yt b e = absurd (pointer_number y w b yn (other_passed len y a.places left e).0)
  pointer_stored (abs.Ctx o) v by len w y left h k yn yt b e = absurd (pointer_number y w b yn (other_passed len y a.places left e).0)
  pointer_stored abs.Unreadable v by len w y left h k yn yt b e = absurd (cc)
  pointer_stored abs.Number v by len w y left h k yn yt b e = absurd (cc)
  pointer_stored (abs.Known m) v by len w y left h k yn yt b e = absurd (cc)
  pointer_stored (abs.Ring m) v by len w y left h k yn yt b e = absurd (cc)
  pointer_stored (abs.Perhaps m) v by len w y left h k yn yt b e = absurd (cc)

  -- a register without a value can't be stored
  pub nothing_stored : (byte : Option ℕ) (len : ℕ) (y : Abs) (left : List Abs) → AgreesValue s.memory.records y Nothing → check_stored byte len y a.places ≡ Ok left → ⊥
  nothing_stored None len y left h e = let n = number_value s.memory.records y Nothing (other_passed len y a.places left e).0 h in let f : Nothing ≡ Number n.0 = n.1 in cc
  nothing_stored (Some at) len y left h e =
      elim (stack_passed at len y a.places left e) [
        | inl number ↦ (let n = number_value s.memory.records y Nothing number.0 h in let f : Nothing ≡ Number n.0 = n.1 in cc)
        | inr kept ↦ readable_passed s.memory.records y kept.unit kept.readable h
      ]

-- a number is not a pointer
no_spill : (size : Size) (n : ℕ) → spill_of size (Number n) ≡ None
no_spill Byte n = refl
no_spill Half n = refl
no_spill Word n = refl
no_spill Double n = refl

module _ (subject : Subject) (s : State) (c : CanStep subject s) (insn : Insn) (begins : slot_at subject.program s.unit ≡ Some insn) (on : falls_through insn ≡ true) where
  abbrev a : AbsState
  a = known subject s c

  abbrev Given : StepEffect → Result refs.Effect Rule → Type 0
  Given = Sound subject s c insn begins

  -- continues after a store
  store_goes : (o : Option Memory) (places : List Abs) → IsStored subject a s c.agrees o places → Follows subject s c insn begins (meaning.after_store insn o s) (effect_on_both (record a { places = places }))
  store_goes o places r =
      subst (λ m. Follows subject s c insn begins (meaning.after_store insn m s) (effect_on_both (record a { places = places }))) (sym r.is)
      (goes_next subject s c insn begins (effect_on_both (record a { places = places })) s.registers r.memory on r.held r.agrees)

  -- continues after the checks of a store
  store_past : (effect : StepEffect) (base : Reg) (by : ℤ) (len : ℕ) (y : Abs)
      → ((u : Unit {0}) (places : List Abs) → check_not_context (value_in a base.number) ≡ Ok u → reaches (limits_of subject) a.held (value_in a base.number) by len ≡ true → check_stored (byte_behind (value_in a base.number) by) len y a.places ≡ Ok places
      → Follows subject s c insn begins effect (effect_on_both (record a { places = places })))
      → Given effect (table.check_store (limits_of subject) base by len y a)
  store_past effect base by len y go =
      let x = value_in a base.number in
      let P = Follows subject s c insn begins effect in
      past P (check_tested x) _ (λ _ _. past P (check_not_context x) _ (λ u allowed. past P (check_inside (limits_of subject) a.held x by len) _ (λ unit e. past P (check_stored (byte_behind x by) len y a.places) _ (λ places stored.
      go u places allowed (inside_passed subject a.held x by len unit e) stored))))

  pub stored_sound : (base : Reg) (by : ℤ) (size : Size) (y : Abs) (n : ℕ) → AgreesValue s.memory.records y (Number n) → HasReference a.held y → Given (meaning.execute_store insn (register s base.number) by (byte_count size) (Number n) s) (table.check_store (limits_of subject) base by (byte_count size) y a)
  stored_sound base by size y n k t =
      store_past _ base by (byte_count size) y (λ u places allowed reach stored. store_goes _ places
      (number_stored subject a s c.agrees (value_in a base.number) (register s base.number) by size n y places u allowed reach (c.agrees.values base.number) (c.agrees.tied base.number) k t stored))

  -- a pointer is stored
  kept_sound : (base : Reg) (by : ℤ) (size : Size) (y : Abs) (w : Value) → spill_of Double w ≡ Some w → AgreesValue s.memory.records y w → HasReference a.held y → IsKeptPointer subject.rings w
      → Given (meaning.execute_spill insn (register s base.number) by (byte_count size) (spill_of size w) w s) (table.check_store (limits_of subject) base by (byte_count size) y a)
  kept_sound base by size y w is k t b =
      store_past _ base by (byte_count size) y (λ u places allowed reach stored.
      let p = pointer_stored subject a s c.agrees (value_in a base.number) (register s base.number) by (byte_count size) w y places reach (c.agrees.values base.number) k t b stored in
      of_size size p.eight (store_goes _ places p.stored))
    where
      of_size : {places : List Abs} (size : Size) → byte_count size ≡ 8 → Follows subject s c insn begins (meaning.after_store insn (memory_with_spill s.memory (register s base.number) by w) s) (effect_on_both (record a { places = places }))
          → Follows subject s c insn begins (meaning.execute_spill insn (register s base.number) by (byte_count size) (spill_of size w) w s) (effect_on_both (record a { places = places }))
      of_size Double e h = rw is h
      of_size Byte e h = absurd (omega arith)
      of_size Half e h = absurd (omega arith)
      of_size Word e h = absurd (omega arith)

  pub spilled_sound : (base : Reg) (by : ℤ) (size : Size) (y : Abs) (w : Value) → AgreesValue s.memory.records y w → HasReference a.held y → IsBoundedValue subject.rings w
      → Given (meaning.execute_spill insn (register s base.number) by (byte_count size) (spill_of size w) w s) (table.check_store (limits_of subject) base by (byte_count size) y a)
  spilled_sound base by size y Nothing k t b =
      store_past _ base by (byte_count size) y (λ u places allowed reach stored. absurd (nothing_stored subject a s c.agrees (byte_behind (value_in a base.number) by) (byte_count size) y places k stored))
  spilled_sound base by size y (Number n) k t b = rw (no_spill size n) (stored_sound base by size y n k t)
  spilled_sound base by size y (Pointer part o) k t b = kept_sound base by size y (Pointer part o) refl k t b
  spilled_sound base by size y (Ring ring) k t b = kept_sound base by size y (Ring ring) refl k t b
