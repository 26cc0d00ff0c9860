-- A line of a script, from its bytes to its words.
use Rattle.std.proofs.Common.{◌≡◌, ◌<◌, ℕ, true, List, [], ◌∷◌, Option, Some, None, MatchOption, sym, subst, arith}
use Rattle.std.specs.List.{AllPass}
use Rattle.std.specs.Str.{IsUtf8}
use Rattle.std.proofs.lemmas.Bool.Decides.{nat_tests}
use Rattle.std.proofs.lemmas.Str.{IsUtf8-from_ascii}
use Rattle.std.proofs.lemmas.Str.Ascii.{IsAscii-from_all}
use Rattle.rb_world.specs.declared.actor.Actor.TheVariants.{Worker, Consumer, Keeper}
use Rattle.rb_script.specs.declared.script_line.ScriptLine.{ScriptLine}
use Rattle.rb_script.specs.ScriptText.{Statement, SaysWords, words_of, is_plain}
use Rattle.rb_script.specs.ScriptText.Statement.{RingOf, WorkerOf, TurnsOf}
use Rattle.rb_script.specs.inner.ScriptRead.{IsSaid, SaysNone, IsLine, IsNoLine}

plain-ascii : (byte : ℕ) → is_plain byte ≡ true → byte < 128
plain-ascii byte h = grind (arith, nat_tests)

pub plain-utf8 : (bytes : List ℕ) → AllPass is_plain bytes → IsUtf8 bytes
plain-utf8 bytes h = IsUtf8-from_ascii bytes (IsAscii-from_all bytes (λ k d low. plain-ascii _ (h k d low)))

one-word-says : (word : List ℕ) (statement : Statement) → SaysWords (word ∷ []) statement → ⊥
one-word-says word (RingOf setup) says = says.1
one-word-says word (WorkerOf program context) says = says.1
one-word-says word (TurnsOf (Worker w) count) says = says.1
one-word-says word (TurnsOf (Consumer r) count) says = says.1
one-word-says word (TurnsOf (Keeper r) count) says = says.1

pub one-word-none : (bytes word : List ℕ) → words_of bytes ≡ word ∷ [] → IsNoLine bytes
one-word-none bytes word e statement says numbered = one-word-says word statement (subst (λ (l : List (List ℕ)). SaysWords l statement) e says.words)

pub line-is : (bytes : List ℕ) (words : List (List ℕ)) → words_of bytes ≡ words → AllPass is_plain bytes → (r : Option ScriptLine) → MatchOption r (SaysNone words) (λ line. IsSaid words line)
    → MatchOption r (IsNoLine bytes) (λ line. IsLine bytes line)
line-is bytes words e plain None h = λ statement says numbered. h statement (subst (λ (l : List (List ℕ)). SaysWords l statement) e says.words) says.bounds numbered
line-is bytes words e plain (Some line) h = (plain, subst (λ (l : List (List ℕ)). IsSaid l line) (sym e) h)
