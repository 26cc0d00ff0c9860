-- What is found at the front of bytes.
use Rattle.std.specs.Prelude.{ℕ, ◌≡◌, ◌+◌, ◌<◌, ◌≤◌, ◌^◌, List, ◌∷◌, ◌++◌, length, take, drop, Option, Some, None}
use Rattle.rb_source.specs.declared.framing.Framing.{Framing}
use Rattle.rb_source.specs.declared.portion_parser.Opening.{Opening}
use Rattle.rb_source.specs.declared.portion_parser.Opening.TheVariants as fronts
use Rattle.rb_source.specs.declared.portion_parser.ContextPlace.{ContextPlace}
use Rattle.rb_source.specs.Framing.{Portion, IsPortion, IsPartial, BeginsWithEnd, HasNoLineFeed, line_feed, portion_bytes}
use Rattle.rb_source.specs.Framing.Portion.{Content, Flush}

-- a portion, followed by the bytes from `span` on
pub record BeginsWith (framing : Framing) (len : ℕ) (bytes : List ℕ) (portion : Portion) (span : ℕ) : Type 0 where
  pub portion_is : IsPortion framing len portion
  pub text : bytes ≡ portion_bytes framing portion ++ drop span bytes
  pub inside : span ≤ length bytes
  pub some : 0 < span

abbrev pub at_place : ContextPlace → List ℕ → List ℕ
at_place p bytes = take p.len (drop p.start bytes)

abbrev pub FindsFront : Framing → ℕ → List ℕ → Opening → Type 0
FindsFront framing len bytes fronts.Partial = IsPartial framing len bytes
FindsFront framing len bytes fronts.Flush = BeginsWith framing len bytes Flush 4
FindsFront framing len bytes fronts.End = BeginsWithEnd framing bytes
FindsFront framing len bytes (fronts.Whole p) =
    BeginsWith framing len bytes (Content (at_place p bytes)) p.span × (p.start + p.len ≤ length bytes)

-- the index of the first line feed
abbrev pub FindsLineFeed : List ℕ → Option ℕ → Type 0
FindsLineFeed bytes None = HasNoLineFeed bytes
FindsLineFeed bytes (Some k) = (k < length bytes) × HasNoLineFeed (take k bytes) × (drop k bytes ≡ line_feed ∷ drop (k + 1) bytes)
