-- One step of a source over a reader.
use Rattle.std.specs.Prelude.{ℕ, ◌≡◌, ◌<◌, Bool, true, false, List, [], ◌++◌, length, Option, None, MatchOption}
use Rattle.rb_source.specs.declared.framing.Framing.{Framing}
use Rattle.rb_source.specs.declared.framing.Framing.TheVariants.{Fixed}
use Rattle.rb_source.specs.declared.form.Form.{Form}
use Rattle.rb_source.specs.Form.{IsForm}
use Rattle.rb_source.specs.Framing.{BeginsWithEnd, IsPartial}
use Rattle.rb_source.specs.Piece.{PieceContents, room_for}
use Rattle.rb_source.specs.Stream.{FramedInput, GivesFrom, IsPart}

-- the invariant of a source over a reader
pub record IsSource (framing : Framing) (form : Form) (kept : List ℕ) : Type 0 where
  pub lawful : IsForm form
  pub some : framing ≡ Fixed → 0 < form.len
  pub kept_len : length kept ≡ form.len

-- the step appends these contexts to those of the piece
pub record Appends {R : Type 0} (remaining : R → Option (List ℕ)) (old new : FramedInput R) (before after : PieceContents) : Type 0 where
  pub given : List (List ℕ)
  pub piece_is : after ≡ record before { contexts = before.contexts ++ given }
  pub same : new.form ≡ old.form
  pub from : (part : List ℕ) → IsPart old part → GivesFrom remaining old.framing old.form old part given new

-- the step gives nothing
pub record GivesNone {R : Type 0} (remaining : R → Option (List ℕ)) (old new : FramedInput R) : Type 0 where
  pub same : new.form ≡ old.form
  pub from : (part : List ℕ) → IsPart old part → GivesFrom remaining old.framing old.form old part [] new

-- there is no whole context, and no long one ends here
abbrev pub IsPartialSource : {R : Type 0} → FramedInput R → Type 0
IsPartialSource s = MatchOption s.long (IsPartial s.framing s.form.len s.rest) (λ long. s.rest ≡ [])

-- the state after a step over a long context: it is complete, or not
abbrev pub OnPass : {R : Type 0} → Bool → FramedInput R → FramedInput R → PieceContents → PieceContents → Type 0
OnPass true old new before after = (new.over ≡ false) × (new.long ≡ None)
OnPass false old new before after = (new.over ≡ false) × (after ≡ before) × IsPartialSource new

-- the state after a step at the front: the steps continue while there is room and the read bytes get fewer; they stop
-- at the end of the stream, at a flush, at a full piece, and if there is no whole portion
abbrev pub OnFront : {R : Type 0} → Bool → FramedInput R → FramedInput R → PieceContents → Type 0
OnFront true old new after = (new.over ≡ false) × (length new.rest < length old.rest) × (length after.contexts < room_for after.ctx_len)
OnFront false old new after =
    (new.over ≡ true → BeginsWithEnd new.framing new.rest) × (after.contexts ≡ [] → new.over ≡ false → IsPartial new.framing new.form.len new.rest)
