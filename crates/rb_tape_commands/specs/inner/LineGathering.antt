-- The lines of the records that a reader has, collected (own).
use Rattle.std.specs.Prelude.{ℕ, ◌≡◌, ◌-◌, Bool, true, false, List, [], ◌∷◌, ◌++◌, Result, Ok, Err}
use Rattle.rb_history.specs.TapeBytes.{Item}
use Rattle.rb_tape.specs.declared.fault.TapeKind.{TapeKind}
use Rattle.rb_tape.specs.TapeFront.{ShowsFault, IsUndecided}
use Rattle.rb_tape.specs.TapeReading.{Reading, PassesItem}
use Rattle.rb_json.specs.declared.form.LineForm.{LineForm}
use Rattle.rb_tape_commands.specs.TapeText.{tape_line_as, tape_lines}
use Rattle.rb_tape_commands.specs.declared.tape_refusal.TapeRefusal.{TapeRefusal}
use Rattle.rb_tape_commands.specs.declared.tape_refusal.TapeRefusal.TheVariants.{Size, Start, Record, Memory, Device}

-- the reader passes these items, in sequence
abbrev pub PassesItems : Reading → List Item → Reading → Type 0
PassesItems old [] new = new ≡ old
PassesItems old (item ∷ items) new = (next : Reading) × PassesItem old item next × PassesItems next items new

-- the reader passed some items, and these are their lines
pub record ReadsLines (form : LineForm) (old new : Reading) (lines : List ℕ) : Type 0 where
  pub items : List Item
  pub passes : PassesItems old items new
  pub text : lines ≡ tape_lines form items

-- the next record has this fault, which is reported with its place
abbrev pub ShowsNext : Reading → TapeKind → ℕ → Type 0
ShowsNext r kind offset = ShowsFault r.size r.position r.rest kind × (offset ≡ r.position - r.start)

-- the next record's line was appended to the lines, if there is a record and no fault
abbrev pub GathersNext : LineForm → Reading → Reading → List ℕ → List ℕ → Result Bool TapeRefusal → Type 0
GathersNext form old new before after (Ok true) = (item : Item) × PassesItem old item new × (after ≡ before ++ tape_line_as form item)
GathersNext form old new before after (Ok false) = IsUndecided old.size old.position old.rest × (new ≡ old) × (after ≡ before)
GathersNext form old new before after (Err (Record kind offset)) = ShowsNext old kind offset × (after ≡ before)
GathersNext form old new before after (Err Memory) = after ≡ before
GathersNext form old new before after (Err Device) = ⊥
GathersNext form old new before after (Err Size) = ⊥
GathersNext form old new before after (Err Start) = ⊥

-- these are the lines of the records that the reader has, up to one that has a fault or whose line could not be
-- allocated
abbrev pub GathersLines : LineForm → Reading → Reading → List ℕ → Result (Unit {0}) TapeRefusal → Type 0
GathersLines form old new lines (Ok _) = ReadsLines form old new lines × IsUndecided new.size new.position new.rest
GathersLines form old new lines (Err (Record kind offset)) = (last : Reading) × ReadsLines form old last lines × ShowsNext last kind offset
GathersLines form old new lines (Err Memory) = (last : Reading) × ReadsLines form old last lines
GathersLines form old new lines (Err Device) = ⊥
GathersLines form old new lines (Err Size) = ⊥
GathersLines form old new lines (Err Start) = ⊥
