-- What a source over a reader gives: the contexts in the bytes that it read, however the reads cut them (own).
use Rattle.std.specs.Prelude.{ℕ, ◌≡◌, ◌≢◌, ◌+◌, ◌<◌, ◌⊎◌, ◌^◌, min, Bool, true, false, List, [], ◌∷◌, ◌++◌, length, take, Option, None, Some, MatchOption}
use Rattle.std.specs.Io.KnownBytes.{Consumes, IsAtEnd}
use Rattle.std.specs.Int.{w32, to_le_bytes}
use Rattle.rb_source.specs.declared.framing.Framing.{Framing}
use Rattle.rb_source.specs.declared.framing.Framing.TheVariants.{Frames, Fixed, Lines}
use Rattle.rb_source.specs.declared.form.Form.{Form}
use Rattle.rb_source.specs.declared.counts.ContextCounts.{ContextCounts}
use Rattle.rb_source.specs.declared.long.Long.{Long}
use Rattle.rb_source.specs.declared.long.Long.TheVariants.{Frame, Line}
use Rattle.rb_source.specs.declared.source.SourceFault.{SourceFault}
use Rattle.rb_source.specs.declared.source.SourceFault.TheVariants.{Read, EndsInside}
use Rattle.rb_source.specs.Form.{largest_u32, saturated, contexts_of, counts_after}
use Rattle.rb_source.specs.Framing.{Portion, ArePortions, HasNoLineFeed, IsPartial, BeginsWithEnd, contents, flush_length, text_of}

-- a source over a reader: the reader; how contexts are framed in its bytes, and how they are given; the bytes that were
-- read and not given yet; the context that does not fit into memory, if there is one, with its first bytes; the counts
-- so far; and whether the stream is over
pub record FramedInput (R : Type 0) : Type 0 where
  pub reader : R
  pub framing : Framing
  pub form : Form
  pub rest : List ℕ
  pub long : Option Long
  pub kept : List ℕ
  pub counts : ContextCounts
  pub over : Bool

-- nothing was read yet
pub record IsFresh {R : Type 0} (reader : R) (framing : Framing) (form : Form) (s : FramedInput R) : Type 0 where
  pub reader_is : s.reader ≡ reader
  pub framing_is : s.framing ≡ framing
  pub form_is : s.form ≡ form
  pub rest_is : s.rest ≡ []
  pub short : s.long ≡ None
  pub counts_are : s.counts ≡ record { given = 0; skipped = 0; cut = 0 }
  pub open_yet : s.over ≡ false

-- ---- the unfinished context

-- `begun` is the part that arrived of a context that does not fit into memory, and `body` are its bytes so far
abbrev pub IsBegun : Framing → Long → List ℕ → List ℕ → Type 0
IsBegun framing (Frame total missing) body begun =
    (framing ≡ Frames) × (begun ≡ to_le_bytes w32 total ++ body) × (length body + missing ≡ total) × (0 < missing) × (total < flush_length)
IsBegun framing (Line total) body begun =
    (framing ≡ Lines) × (begun ≡ body) × HasNoLineFeed body × (total ≡ min (length body) largest_u32)

-- `part` is the part of such a context that arrived, followed by the rest; it is longer than those that fit, and its
-- first bytes are kept
pub record IsLongPart (framing : Framing) (len : ℕ) (kept rest : List ℕ) (long : Long) (part : List ℕ) : Type 0 where
  pub body : List ℕ
  pub begun : List ℕ
  pub begun_is : IsBegun framing long body begun
  pub longer : len < length body
  pub kept_is : kept ≡ take len body
  pub text : part ≡ begun ++ rest

-- `part` is what was read after the last context that was given or skipped
abbrev pub IsPart : {R : Type 0} → FramedInput R → List ℕ → Type 0
IsPart s part = MatchOption s.long (part ≡ s.rest) (λ long. IsLongPart s.framing s.form.len s.kept s.rest long part)

-- ---- what is given

-- the last line, if there is one
abbrev pub line_of : List ℕ → List (List ℕ)
line_of [] = []
line_of (b ∷ bs) = (b ∷ bs) ∷ []

-- the counts fit in 64 bits
pub record AreCounts (counts : ContextCounts) : Type 0 where
  pub given : counts.given < 2 ^ 64
  pub skipped : counts.skipped < 2 ^ 64
  pub cut : counts.cut < 2 ^ 64

-- From `part` on, more bytes were read. `part` and these bytes are whole portions, followed by what is left; at the end
-- of lines there may be a last one without its line feed. The contexts are what the form makes of them, in order, and
-- the counts count all of them.
pub record GivesFrom {R : Type 0} (remaining : R → Option (List ℕ)) (framing : Framing) (form : Form) (old : FramedInput R) (part : List ℕ) (contexts : List (List ℕ)) (new : FramedInput R) : Type 0 where
  pub read : List ℕ
  pub portions : List Portion
  pub last : List ℕ
  pub left : List ℕ
  pub consumed : Consumes (remaining old.reader) (remaining new.reader) read
  pub portions_are : ArePortions framing form.len portions
  pub last_is : last ≢ [] → (framing ≡ Lines) × (new.over ≡ true) × HasNoLineFeed last
  pub left_is : IsPart new left
  pub text : part ++ read ≡ text_of framing portions ++ (last ++ left)
  pub contexts_are : contexts ≡ contexts_of form (contents portions ++ line_of last)
  pub counts_are : AreCounts old.counts → new.counts ≡ counts_after form old.counts (contents portions ++ line_of last)
  pub framing_same : new.framing ≡ framing
  pub form_same : new.form ≡ form

-- ---- the end

-- the stream is over: nothing is left, or a stream of frames ends with its end mark
pub record IsOver {R : Type 0} (remaining : R → Option (List ℕ)) (s : FramedInput R) : Type 0 where
  pub over : s.over ≡ true
  pub short : s.long ≡ None
  pub ended : ((s.rest ≡ []) × IsAtEnd (remaining s.reader)) ⊎ BeginsWithEnd s.framing s.rest

-- The source gives these contexts. After the stream is over it gives none, and does not change; if the stream became
-- over, it ended there.
pub record Gives {R : Type 0} (remaining : R → Option (List ℕ)) (old : FramedInput R) (contexts : List (List ℕ)) (new : FramedInput R) : Type 0 where
  pub after_end : old.over ≡ true → (contexts ≡ []) × (new ≡ old)
  pub from : (part : List ℕ) → IsPart old part → GivesFrom remaining old.framing old.form old part contexts new
  pub ends : old.over ≡ false → new.over ≡ true → IsOver remaining new

-- the meaning of a fault: a read failed; or the input has ended, and its last bytes are not a whole portion. The number
-- is that of the contexts before
abbrev pub FailsAs : {R : Type 0} → (R → Option (List ℕ)) → FramedInput R → SourceFault → Type 0
FailsAs remaining s Read = Unit {0}
FailsAs remaining s (EndsInside k) =
    IsAtEnd (remaining s.reader) × (k ≡ saturated (s.counts.given + s.counts.skipped))
    × ((part : List ℕ) → IsPart s part → (part ≢ []) × IsPartial s.framing s.form.len part)
