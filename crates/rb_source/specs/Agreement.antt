-- Sources over the same input give the same contexts, however the reads cut it (own).
use Rattle.std.specs.Prelude.{ℕ, ◌≡◌, ◌<◌, true, List, Option, Some}
use Rattle.rb_source.specs.declared.framing.Framing.{Framing}
use Rattle.rb_source.specs.declared.framing.Framing.TheVariants.{Fixed}
use Rattle.rb_source.specs.declared.form.Form.{Form}
use Rattle.rb_source.specs.Stream.{FramedInput, Gives, IsFresh}

-- a new source over a reader with this input reached the end of the stream, and gave these contexts on the way
pub record GivesAll {R : Type 0} (remaining : R → Option (List ℕ)) (framing : Framing) (form : Form) (input : List ℕ) (contexts : List (List ℕ)) (ended : FramedInput R) : Type 0 where
  pub reader : R
  pub source : FramedInput R
  pub has_input : remaining reader ≡ Some input
  pub fresh : IsFresh reader framing form source
  pub gave : Gives remaining source contexts ended
  pub over : ended.over ≡ true

-- two such sources, over readers of any two kinds, gave the same contexts in the same order, and have equal counts
abbrev pub AgreeOnContexts : {A B : Type 0} → (A → Option (List ℕ)) → (B → Option (List ℕ)) → Type 0
AgreeOnContexts {A} {B} remaining other_remaining =
    (framing : Framing) (form : Form) (input : List ℕ) (contexts other_contexts : List (List ℕ)) (ended : FramedInput A) (other_ended : FramedInput B)
    → (framing ≡ Fixed → 0 < form.len) → GivesAll remaining framing form input contexts ended → GivesAll other_remaining framing form input other_contexts other_ended
    → (contexts ≡ other_contexts) × (ended.counts ≡ other_ended.counts)
