-- The text of a script: its lines, their words, and the meaning of a line (own).
use Rattle.std.specs.Prelude.{ℕ, ◌≡◌, ◌≢◌, ◌≤◌, ◌==◌, ◌&&◌, ◌||◌, not, Bool, List, [], ◌∷◌, Ok, codes, length, if◌then◌else◌}
use Rattle.std.specs.Char.{is_ascii, is_ascii_whitespace}
use Rattle.std.specs.List.{AllPass, onto_first, slice_split}
use Rattle.std.specs.Str.Parse.{IsNumeral, digits_value}
use Rattle.hex.specs.Hex.{decode_of}
use Rattle.rb_chapter_ring.specs.Chapters.{IsChapterRoom}
use Rattle.rb_world.specs.declared.actor.Actor.{Actor}
use Rattle.rb_world.specs.declared.actor.Actor.TheVariants.{Worker, Consumer, Keeper}
use Rattle.rb_world.specs.declared.world_setup.RingSetup.{RingSetup}
use Rattle.rb_world.specs.OpenedWorlds.{IsRingSetup}

-- the statement of a line: a ring; a worker, by the hex of its program and the bytes of its context; or a number of
-- turns of an actor
pub data Statement : Type 0 where
  RingOf : RingSetup → Statement
  WorkerOf : (program context : List ℕ) → Statement
  TurnsOf : (actor : Actor) (count : ℕ) → Statement

-- the lines of a text: each ends with a line feed, which is optional for the last one
abbrev pub lines_of : List ℕ → List (List ℕ)
lines_of [] = []
lines_of (byte ∷ text) = if byte == 10 then [] ∷ lines_of text else onto_first byte (lines_of text)

-- the words of a line, separated by single spaces
abbrev pub words_of : List ℕ → List (List ℕ)
words_of line = slice_split (λ byte. byte == 32) line

-- the byte is ASCII, and not white space other than a space
abbrev pub is_plain : ℕ → Bool
is_plain byte = is_ascii byte && (byte == 32 || not (is_ascii_whitespace byte))

-- a word is a number in decimal digits
pub record SpellsNumber (word : List ℕ) (number : ℕ) : Type 0 where
  pub digits : IsNumeral 10 word
  pub value : digits_value 10 word ≡ number

-- SIZE START or SIZE START ROOM; the default room is 65,536
abbrev pub SaysRing : List (List ℕ) → RingSetup → Type 0
SaysRing (size ∷ start ∷ []) setup = SpellsNumber size setup.size × SpellsNumber start setup.start × (setup.room ≡ 65536)
SaysRing (size ∷ start ∷ room ∷ []) setup = SpellsNumber size setup.size × SpellsNumber start setup.start × SpellsNumber room setup.room
SaysRing words setup = ⊥

-- HEX or HEX CTXHEX; the program's hex is decoded later, with the program; the default context is empty
abbrev pub SaysWorker : List (List ℕ) → (program context : List ℕ) → Type 0
SaysWorker (hex ∷ []) program context = (hex ≢ []) × (program ≡ hex) × (context ≡ [])
SaysWorker (hex ∷ bytes ∷ []) program context = (hex ≢ []) × (program ≡ hex) × (bytes ≢ []) × (decode_of bytes ≡ Ok context)
SaysWorker words program context = ⊥

-- NUMBER or NUMBER COUNT; the default is one turn
abbrev pub SaysTurns : List (List ℕ) → (number count : ℕ) → Type 0
SaysTurns (number ∷ []) n count = SpellsNumber number n × (count ≡ 1)
SaysTurns (number ∷ times ∷ []) n count = SpellsNumber number n × SpellsNumber times count
SaysTurns words n count = ⊥

-- a keeper's turn has no count
abbrev pub SaysOneTurn : List (List ℕ) → (number count : ℕ) → Type 0
SaysOneTurn (number ∷ []) n count = SpellsNumber number n × (count ≡ 1)
SaysOneTurn words n count = ⊥

-- the keyword and the words after it
abbrev pub SaysWords : List (List ℕ) → Statement → Type 0
SaysWords [] statement = ⊥
SaysWords (word ∷ words) (RingOf setup) = (word ≡ codes "ring") × SaysRing words setup
SaysWords (word ∷ words) (WorkerOf program context) = (word ≡ codes "worker") × SaysWorker words program context
SaysWords (word ∷ words) (TurnsOf (Worker w) count) = (word ≡ codes "w") × SaysTurns words w count
SaysWords (word ∷ words) (TurnsOf (Consumer r) count) = (word ≡ codes "c") × SaysTurns words r count
SaysWords (word ∷ words) (TurnsOf (Keeper r) count) = (word ≡ codes "k") × SaysOneTurn words r count

-- sizes, starts and rooms are valid for a world's rings, a context has at most 65,536 bytes, and a line has 1 to
-- 1,000,000 turns
abbrev pub IsStatementWithinBounds : Statement → Type 0
IsStatementWithinBounds (RingOf setup) = IsRingSetup setup × IsChapterRoom setup.room
IsStatementWithinBounds (WorkerOf program context) = length context ≤ 65536
IsStatementWithinBounds (TurnsOf actor count) = (1 ≤ count) × (count ≤ 1000000)

-- a line makes a statement
pub record Says (line : List ℕ) (statement : Statement) : Type 0 where
  pub plain : AllPass is_plain line
  pub words : SaysWords (words_of line) statement
  pub bounds : IsStatementWithinBounds statement
