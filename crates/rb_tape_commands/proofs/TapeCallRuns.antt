-- Sequences of calls of a tape's writer.
use Rattle.std.proofs.Common.{◌≡◌, ◌≢◌, true≢false, ℕ, ◌+◌, List, [], ◌∷◌, ◌++◌, refl, subst, ap, ◌∙◌, zero, zero-add, ◌⊎◌, inl, inr}
use Rattle.std.specs.Prelude.{Bool, true, false, Option, None, IfSome, Result, Ok, Err, is_ok}
use Rattle.std.specs.Io.KnownBytes.{Keeps}
use Rattle.std.proofs.KnownBytes.{Keeps-trans}
use Rattle.rb_tape.specs.TapeCalls.{TapeCall, MakesTapeCall, MakesCalls, fresh_tape}
use Rattle.rb_tape.specs.TapeCalls.TapeCall.{WriteOut}
use Rattle.rb_tape.specs.TapeOutput.{TapeOutput}
use Rattle.rb_tape_commands.specs.inner.WaitingTape.{IsSameTape}
use Rattle.rb_tape_commands.specs.Retries.{CountsRetries, LeadsByCalls, TriesToWriteOut, WritesOutAtEnd}
use Rattle.rb_tape_commands.specs.declared.feed_fault.FeedFault.{FeedFault}
use Rattle.rb_tape_commands.specs.declared.feed_fault.FeedFault.TheVariants.{Device}

module _ {W : Type 0} (contents : W → Option (List ℕ)) where
  pub one_call : (old new : TapeOutput W) (call : TapeCall) (ok : Bool) → MakesTapeCall contents old call ok new → LeadsByCalls contents old new
  one_call old new call ok made = ((call, ok) ∷ [], (new, made, refl))

  joined : (calls more : List (TapeCall × Bool)) (a b c : TapeOutput W) → MakesCalls contents a calls b → MakesCalls contents b more c → MakesCalls contents a (calls ++ more) c
  joined [] more a b c first second = subst (λ t. MakesCalls contents t more c) first second
  joined ((call, ok) ∷ calls) more a b c (mid, made, rest) second = (mid, made, joined calls more mid b c rest second)

  pub calls_on : (a b c : TapeOutput W) → LeadsByCalls contents a b → LeadsByCalls contents b c → LeadsByCalls contents a c
  calls_on a b c first second = (first.0 ++ second.0, joined first.0 second.0 a b c first.1 second.1)

  -- a tape is unchanged, and then its writer flushed
  pub waited : (a b c : TapeOutput W) (ok : Bool) → IsSameTape contents a b → c.size ≡ b.size → c.position ≡ b.position → c.unfinished ≡ None → Keeps (contents b.writer) (contents c.writer) → MakesTapeCall contents b WriteOut ok c
      → IsSameTape contents a c
  waited a b c ok same size position finished kept call = record {
    size_same = size ∙ same.size_same;
    position_same = position ∙ same.position_same;
    finished = finished;
    kept = Keeps-trans (contents a.writer) (contents b.writer) (contents c.writer) same.kept kept;
    calls = calls_on a b c same.calls (one_call b c WriteOut ok call);
  }

-- from a tape with nothing written, by calls of its writer, and then by a flush
module _ {W : Type 0} (contents : W → Option (List ℕ)) (writes_out : W → Bool → W → Type 0) (writer : W) (size start retries : ℕ) (first last : TapeOutput W) (fresh : first ≡ fresh_tape writer size start) where
  pub ends_so : (answer : Result (ℕ × ℕ) FeedFault) (below new : W) (left : ℕ) (ok : Bool) → LeadsByCalls contents first last → CountsRetries (first.failures + retries) left last
      → IfSome last.unfinished (λ item. last.failures ≡ first.failures + retries + 1) → (last.failures ≡ first.failures + retries + 1 → answer ≡ Err Device) → below ≡ last.writer
      → TriesToWriteOut writes_out left below ok new → (ok ≡ false → answer ≡ Err Device) → WritesOutAtEnd contents writes_out writer size start retries answer new
  ends_so answer below new left ok calls counts unfinished gave_up same tried failed =
      let all : first.failures + retries ≡ retries = ap (λ (t : TapeOutput W). t.failures + retries) fresh ∙ zero-add retries in
      record {
        tape = last;
        written = subst (λ t. LeadsByCalls contents t last) fresh calls;
        left = left;
        counted = subst (λ n. CountsRetries n left last) all counts;
        unfinished = subst (λ n. IfSome last.unfinished (λ item. last.failures ≡ n + 1)) all unfinished;
        gave_up = subst (λ n. last.failures ≡ n + 1 → answer ≡ Err Device) all gave_up;
        ok = ok;
        tried = subst (λ w. TriesToWriteOut writes_out left w ok new) same tried;
        failed = failed;
      }

-- if the result is not Device, each failed call used one retry
pub none_gave_up : {A : Type 0} (retries left failures : ℕ) (answer : Result A FeedFault) → (failures + left ≡ retries) ⊎ ((failures ≡ retries + 1) × (left ≡ zero)) → (failures ≡ retries + 1 → answer ≡ Err Device)
    → answer ≢ Err Device → failures + left ≡ retries
none_gave_up retries left failures answer (inl each) gave_up other = each
none_gave_up retries left failures answer (inr all) gave_up other = absurd (other (gave_up all.0))

pub ok_not_device : {A : Type 0} (a : A) → Ok a ≢ Err Device
ok_not_device a e = let no : true ≡ false = ap is_ok e in absurd (true≢false no)
