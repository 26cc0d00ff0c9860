-- Printing a tape, piece by piece of the input.
use Rattle.std.specs.Prelude.{ℕ, ◌≡◌, ◌≢◌, ◌-◌, List, [], Option, None, IfSome, Result, Ok, Err}
use Rattle.std.specs.Io.KnownBytes.{Appends, Consumes}
use Rattle.rb_history.specs.TapeBytes.{AreItemsFrom, Item, tape}
use Rattle.rb_tape.specs.TapeReading.{Reading}
use Rattle.rb_tape.specs.LongestTape.{HasReadItems}
use Rattle.rb_json.specs.declared.form.LineForm.{LineForm}
use Rattle.rb_tape_commands.specs.TapeText.{tape_lines}
use Rattle.rb_tape.specs.declared.fault.TapeKind.TheVariants.{Truncated}
use Rattle.rb_tape_commands.specs.declared.tape_refusal.TapeRefusal.{TapeRefusal}
use Rattle.rb_tape_commands.specs.declared.tape_refusal.TapeRefusal.TheVariants.{Record}

-- at the end of the input, no bytes are left, or the rest is a record that was cut off
abbrev pub EndsTape : Reading → Result (Unit {0}) TapeRefusal → Type 0
EndsTape r (Ok _) = r.rest ≡ []
EndsTape r (Err (Record kind offset)) = (r.rest ≢ []) × (kind ≡ Truncated) × (offset ≡ r.position - r.start)
EndsTape r (Err _) = ⊥

-- So far: these bytes of the input were read; the reader has read these items from them, whose lines were printed, and
-- has reported no fault.
pub record PrintsSoFar (form : LineForm) (size start : ℕ) (unread left before after : Option (List ℕ)) (r : Reading) : Type 0 where
  pub bytes : List ℕ
  pub items : List Item
  pub read : Consumes unread left bytes
  pub size_is : r.size ≡ size
  pub start_is : r.start ≡ start
  pub no_fault : r.told ≡ None
  pub items_read : HasReadItems size start bytes items r.position r.rest
  pub printed : Appends before after (tape_lines form items)

-- exactly the lines of the items of a whole tape were printed: of the input, if it is known
abbrev pub PrintsWhole : LineForm → ℕ → ℕ → Option (List ℕ) → Option (List ℕ) → Option (List ℕ) → Type 0
PrintsWhole form size start input before after = (items : List Item) × AreItemsFrom size start items × IfSome input (λ bytes. bytes ≡ tape size items) × Appends before after (tape_lines form items)
