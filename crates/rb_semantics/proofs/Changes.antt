-- A state still agrees with its abstract state after each change.
use Rattle.std.proofs.Common.{◌≡◌, ℕ, zero, suc, true, false, List, [], ◌∷◌, ◌++◌, Some, None, length, map, find, get_or, set, sym, ap, subst, ◌∙◌, refl, arith}
use Rattle.std.proofs.lemmas.List.{length-set, length-map}
use Rattle.rb_verifier.specs.declared.state.AbsState.{AbsState}
use Rattle.rb_verifier.specs.declared.value.Abs.{Abs}
use Rattle.rb_verifier.specs.declared.value.Abs.TheVariants as abs
use Rattle.rb_verifier.specs.ReferenceChanges.{if_null, if_there, if_given_back, null_state, there_state, given_back_state}
use Rattle.rb_verifier.specs.References.{IsAscending, AreEarlier, has_id}
use Rattle.rb_verifier.specs.AbstractStates.{Below, value_in, put}
use Rattle.rb_verifier.specs.HelperChecks as helpers
use Rattle.rb_verifier.specs.Subject.{Subject}
use Rattle.rb_semantics.specs.declared.value.Value.{Value}
use Rattle.rb_semantics.specs.declared.value.Value.TheVariants.{Nothing}
use Rattle.rb_semantics.specs.StackPointers.{StackPointers}
use Rattle.rb_semantics.specs.ProgramMemory.{record_named, with_bytes, without, holding}
use Rattle.rb_semantics.specs.ProgramStates.{State, register}
use Rattle.rb_semantics.specs.HelperCalls.{waiting, with_answer}
use Rattle.rb_semantics.specs.Agreement.{AgreesValue, AreHeld, IsTested, HasReference, IsBoundedValue, AgreesPlaces, Agrees}
use Rattle.rb_semantics.proofs.Held.{held_null, held_there, held_without, held_pushed, held_refused, held_written}
use Rattle.rb_semantics.proofs.Places.{places_below, places_null, places_there, places_given_back, places_granted, places_refused, places_written}
use Rattle.rb_semantics.proofs.Values.{value_below, tied_below, value_pushed, tied_pushed, value_written, value_null, tied_null, value_there, tied_there, value_given_back, tied_given_back}

-- related lists stay related if both are set at the same index to related values
set_related : (P : Abs → Value → Type 0) (xs : List Abs) (vs : List Value) (d : ℕ) (x : Abs) (v : Value) → length xs ≡ length vs → ((r : ℕ) → P (get_or xs r abs.Unreadable) (get_or vs r Nothing)) → P x v
    → (r : ℕ) → P (get_or (set xs d x) r abs.Unreadable) (get_or (set vs d v) r Nothing)
set_related P [] [] d x v e all a r = all r
set_related P [] (w ∷ vs) d x v e all a r = absurd (omega arith)
set_related P (y ∷ xs) [] d x v e all a r = absurd (omega arith)
set_related P (y ∷ xs) (w ∷ vs) zero x v e all a zero = a
set_related P (y ∷ xs) (w ∷ vs) zero x v e all a (suc r) = all (suc r)
set_related P (y ∷ xs) (w ∷ vs) (suc d) x v e all a zero = all 0
set_related P (y ∷ xs) (w ∷ vs) (suc d) x v e all a (suc r) = set_related P xs vs d x v (omega arith) (λ k. all (suc k)) a r

-- a property of all elements is kept if an element is set to a value that has it
set_all : {A : Type 0} (P : A → Type 0) (xs : List A) (d : ℕ) (x default : A) → ((r : ℕ) → P (get_or xs r default)) → P x → (r : ℕ) → P (get_or (set xs d x) r default)
set_all P [] d x default all a r = all r
set_all P (y ∷ xs) zero x default all a zero = a
set_all P (y ∷ xs) zero x default all a (suc r) = all (suc r)
set_all P (y ∷ xs) (suc d) x default all a zero = all 0
set_all P (y ∷ xs) (suc d) x default all a (suc r) = set_all P xs d x default (λ k. all (suc k)) a r

-- a function on abstract values that keeps Unreadable
map_at : (f : Abs → Abs) (xs : List Abs) (r : ℕ) → f abs.Unreadable ≡ abs.Unreadable → get_or (map f xs) r abs.Unreadable ≡ f (get_or xs r abs.Unreadable)
map_at f [] r e = sym e
map_at f (x ∷ xs) zero e = refl
map_at f (x ∷ xs) (suc r) e = map_at f xs r e

module _ (subject : Subject) where
  pub agrees_below : (a b : AbsState) (s : State) → Below a b → Agrees subject a s → Agrees subject b s
  agrees_below a b s h g = record {
    count = sym h.count ∙ g.count;
    values = λ r. value_below s.memory.records (value_in a r) (value_in b r) (register s r) (h.values r) (g.values r);
    records = subst (λ held. AreHeld held s.memory.records) h.held g.records;
    tied = λ r. subst (λ held. HasReference held (value_in b r)) h.held (tied_below a.held (value_in a r) (value_in b r) (h.values r) (g.tied r));
    bounded = g.bounded;
    stack = g.stack;
    places = places_below subject.rings a b s.memory h g.places;
    context = g.context;
  }

  -- other places of the stack
  pub agrees_placed : (a : AbsState) (s : State) (places : List Abs) → AgreesPlaces subject.rings a.held places s.memory → Agrees subject a s → Agrees subject (record a { places = places }) s
  agrees_placed a s places h g = record { count = g.count; values = g.values; records = g.records; tied = g.tied; bounded = g.bounded; stack = g.stack; places = h; context = g.context }

  -- agreement does not depend on the unit
  pub agrees_at : (a : AbsState) (s : State) (unit : ℕ) → Agrees subject a s → Agrees subject a (record s { unit = unit })
  agrees_at a s unit g = record { count = g.count; values = g.values; records = g.records; tied = g.tied; bounded = g.bounded; stack = g.stack; places = g.places; context = g.context }

  pub agrees_put : (a : AbsState) (s : State) (d : ℕ) (x : Abs) (v : Value) → AgreesValue s.memory.records x v → HasReference a.held x → IsBoundedValue subject.rings v → Agrees subject a s → Agrees subject (put a d x) (record s { registers = set s.registers d v })
  agrees_put a s d x v h t b g = record {
    count = length-set a.values d x ∙ g.count ∙ sym (length-set s.registers d v);
    values = set_related (AgreesValue s.memory.records) a.values s.registers d x v g.count g.values h;
    records = g.records;
    tied = set_all (HasReference a.held) a.values d x abs.Unreadable g.tied t;
    bounded = set_all (IsBoundedValue subject.rings) s.registers d v Nothing g.bounded b;
    stack = g.stack;
    places = g.places;
    context = g.context;
  }

  -- after a call: r1 to r5 are unreadable, and r0 has the result
  pub agrees_answered : (a : AbsState) (s : State) (x : Abs) (v : Value) → AgreesValue s.memory.records x v → HasReference a.held x → IsBoundedValue subject.rings v → Agrees subject a s → Agrees subject (helpers.after_answer x a) (with_answer v (waiting s))
  agrees_answered a s x v h t b g =
      let p0 = agrees_put a s 0 x v h t b g in
      let p1 = agrees_put _ _ 1 abs.Unreadable Nothing tt tt tt p0 in
      let p2 = agrees_put _ _ 2 abs.Unreadable Nothing tt tt tt p1 in
      let p3 = agrees_put _ _ 3 abs.Unreadable Nothing tt tt tt p2 in
      let p4 = agrees_put _ _ 4 abs.Unreadable Nothing tt tt tt p3 in
      let p5 = agrees_put _ _ 5 abs.Unreadable Nothing tt tt tt p4 in
      record {
        count = p5.count ∙ ap length (in_order s.registers v);
        values = λ r. subst (λ (vs : List Value). AgreesValue s.memory.records (value_in (helpers.after_answer x a) r) (get_or vs r Nothing)) (in_order s.registers v) (p5.values r);
        records = p5.records;
        tied = p5.tied;
        bounded = λ r. subst (λ (vs : List Value). IsBoundedValue subject.rings (get_or vs r Nothing)) (in_order s.registers v) (p5.bounded r);
        stack = g.stack;
        places = g.places;
        context = g.context;
      }
    where
      in_order : (vs : List Value) (v : Value) → set (set (set (set (set (set vs 0 v) 1 Nothing) 2 Nothing) 3 Nothing) 4 Nothing) 5 Nothing ≡ set (set (set (set (set (set vs 1 Nothing) 2 Nothing) 3 Nothing) 4 Nothing) 5 Nothing) 0 v
      in_order [] v = refl
      in_order (w ∷ vs) v = refl

  -- a reservation was null
  pub agrees_null : (a : AbsState) (s : State) (id : ℕ) → record_named id s.memory.records ≡ None → IsTested false (find (has_id id) a.held) → Agrees subject a s → Agrees subject (null_state id a) s
  agrees_null a s id none h g = record {
    count = length-map a.values (if_null id) ∙ g.count;
    values = λ r. rw (map_at (if_null id) a.values r refl) (value_null id s.memory.records (value_in a r) (register s r) none (g.values r));
    records = held_null id a.held s.memory.records none g.records;
    tied = λ r. rw (map_at (if_null id) a.values r refl) (tied_null id a.held (value_in a r) h (g.tied r));
    bounded = g.bounded;
    stack = g.stack;
    places = places_null subject.rings id a s.memory none h g.places;
    context = g.context;
  }

  -- a reservation was a record
  pub agrees_there : (a : AbsState) (s : State) (id : ℕ) (b : List ℕ) → record_named id s.memory.records ≡ Some b → IsAscending a.held → Agrees subject a s → Agrees subject (there_state id a) s
  agrees_there a s id b there asc g = record {
    count = length-map a.values (if_there id) ∙ g.count;
    values = λ r. rw (map_at (if_there id) a.values r refl) (value_there id b s.memory.records (value_in a r) (register s r) there (g.values r));
    records = held_there id b a.held s.memory.records there asc g.records;
    tied = λ r. rw (map_at (if_there id) a.values r refl) (tied_there id a.held (value_in a r) (g.tied r));
    bounded = g.bounded;
    stack = g.stack;
    places = places_there subject.rings id b a s.memory there g.places;
    context = g.context;
  }

  -- a record was submitted or discarded
  pub agrees_given_back : (a : AbsState) (s : State) (id : ℕ) → IsTested true (find (has_id id) a.held) → Agrees subject a s → Agrees subject (given_back_state id a) (record s { memory = without id s.memory })
  agrees_given_back a s id h g = record {
    count = length-map a.values (if_given_back id) ∙ g.count;
    values = λ r. rw (map_at (if_given_back id) a.values r refl) (value_given_back id a.held s.memory.records (value_in a r) (register s r) h (g.tied r) (g.values r));
    records = held_without id a.held s.memory.records g.records;
    tied = λ r. rw (map_at (if_given_back id) a.values r refl) (tied_given_back id a.held (value_in a r) h (g.tied r));
    bounded = g.bounded;
    stack = g.stack;
    places = places_given_back subject.rings id a s.memory h g.places;
    context = g.context;
  }

  -- a new reference
  abbrev pub with_new : ℕ → ℕ → ℕ → AbsState → AbsState
  with_new unit ring size a = record a { held = a.held ++ (record { id = unit; ring = ring; size = size; sure = false }) ∷ [] }

  -- a new reference whose record was granted
  pub agrees_granted : (a : AbsState) (s : State) (unit ring size : ℕ) (b : List ℕ) → length b ≡ size → AreEarlier unit a.held → Agrees subject a s → Agrees subject (with_new unit ring size a) (record s { memory = holding unit b s.memory })
  agrees_granted a s unit ring size b long e g = record {
    count = g.count;
    values = λ r. value_pushed unit b a.held s.memory.records (value_in a r) (register s r) e (g.tied r) (g.values r);
    records = held_pushed (record { id = unit; ring = ring; size = size; sure = false }) b a.held s.memory.records long g.records;
    tied = λ r. tied_pushed _ a.held (value_in a r) (g.tied r);
    bounded = g.bounded;
    stack = g.stack;
    places = places_granted subject.rings unit ring size b a s.memory e g.places;
    context = g.context;
  }

  -- a new reference without a record
  pub agrees_refused : (a : AbsState) (s : State) (unit ring size : ℕ) → Agrees subject a s → Agrees subject (with_new unit ring size a) s
  agrees_refused a s unit ring size g = record {
    count = g.count;
    values = g.values;
    records = held_refused (record { id = unit; ring = ring; size = size; sure = false }) a.held s.memory.records refl g.records;
    tied = λ r. tied_pushed _ a.held (value_in a r) (g.tied r);
    bounded = g.bounded;
    stack = g.stack;
    places = places_refused subject.rings unit ring size a s.memory g.places;
    context = g.context;
  }

  -- the stack has other bytes, and holds other pointers
  pub agrees_stack : (a : AbsState) (s : State) (b : List ℕ) (pointers : StackPointers) (places : List Abs) → length b ≡ length s.memory.stack → AgreesPlaces subject.rings a.held places (record s.memory { stack = b; pointers = pointers }) → Agrees subject a s
      → Agrees subject (record a { places = places }) (record s { memory = record s.memory { stack = b; pointers = pointers } })
  agrees_stack a s b pointers places l h g = record {
    count = g.count;
    values = g.values;
    records = g.records;
    tied = g.tied;
    bounded = g.bounded;
    stack = l ∙ g.stack;
    places = h;
    context = g.context;
  }

  -- a record has other bytes
  pub agrees_written : (a : AbsState) (s : State) (id : ℕ) (b old : List ℕ) → record_named id s.memory.records ≡ Some old → length b ≡ length old → Agrees subject a s
      → Agrees subject a (record s { memory = record s.memory { records = with_bytes id b s.memory.records } })
  agrees_written a s id b old there l g = record {
    count = g.count;
    values = λ r. value_written id b s.memory.records (value_in a r) (register s r) (g.values r);
    records = held_written id b old a.held s.memory.records there l g.records;
    tied = g.tied;
    bounded = g.bounded;
    stack = g.stack;
    places = places_written subject.rings id b a s.memory g.places;
    context = g.context;
  }
