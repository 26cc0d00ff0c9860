-- What `follow` prints (own).
use Rattle.std.specs.Prelude.{ℕ, ◌≡◌, List, Option, IfSome}
use Rattle.std.specs.Io.KnownBytes.{Appends}
use Rattle.rb_history.specs.RingModel.{IsRingSize, IsStartPosition}
use Rattle.rb_history.specs.TapeBytes.{AreItemsFrom, Item}
use Rattle.rb_json.specs.declared.form.LineForm.{LineForm}
use Rattle.rb_tape_commands.specs.TapeText.{tape_lines}

-- Exactly the lines of some records were printed. They may have been taken from a ring one after the other, beginning at
-- the requested position if there is one.
pub record FollowsRing (form : LineForm) (from : Option ℕ) (before after : Option (List ℕ)) : Type 0 where
  pub size : ℕ
  pub start : ℕ
  pub items : List Item
  pub size_is : IsRingSize size
  pub start_is : IsStartPosition start
  pub begins : IfSome from (λ position. start ≡ position)
  pub stand : AreItemsFrom size start items
  pub printed : Appends before after (tape_lines form items)
