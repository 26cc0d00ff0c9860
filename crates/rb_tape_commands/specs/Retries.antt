-- What is repeated after each failed write or flush, and how often (own).
use Rattle.std.specs.Prelude.{ℕ, zero, suc, ◌≡◌, ◌+◌, ◌≤◌, Bool, true, false, ◌⊎◌, List, Option, IfSome, Result, Err}
use Rattle.rb_tape.specs.TapeCalls.{TapeCall, MakesCalls, fresh_tape}
use Rattle.rb_tape.specs.TapeOutput.{TapeOutput}
use Rattle.rb_tape_commands.specs.declared.feed_fault.FeedFault.{FeedFault}
use Rattle.rb_tape_commands.specs.declared.feed_fault.FeedFault.TheVariants.{Device}

-- n calls were made in sequence, and each failed; `writes_out` is the effect of a call on a writer, by whether it
-- succeeded
abbrev pub FailsTimes : {W : Type 0} → (W → Bool → W → Type 0) → ℕ → W → W → Type 0
FailsTimes writes_out zero old new = new ≡ old
FailsTimes {W} writes_out (suc n) old new = (mid : W) × FailsTimes writes_out n old mid × writes_out mid false new

-- either one call succeeded, after at most `retries` failures, or `retries + 1` calls were made and each failed
abbrev pub TriesToWriteOut : {W : Type 0} → (W → Bool → W → Type 0) → ℕ → W → Bool → W → Type 0
TriesToWriteOut {W} writes_out retries old true new = (n : ℕ) × (mid : W) × (n ≤ retries) × FailsTimes writes_out n old mid × writes_out mid true new
TriesToWriteOut writes_out retries old false new = FailsTimes writes_out (suc retries) old new

-- valid calls of a tape's writer lead from one state of it to the other
abbrev pub LeadsByCalls : {W : Type 0} → (W → Option (List ℕ)) → TapeOutput W → TapeOutput W → Type 0
LeadsByCalls contents old new = (calls : List (TapeCall × Bool)) × MakesCalls contents old calls new

-- either each failed call used one retry, or none is left and the number of failed calls exceeds that of the retries by
-- one
abbrev pub CountsRetries : {W : Type 0} → (retries left : ℕ) → TapeOutput W → Type 0
CountsRetries retries left tape = (tape.failures + left ≡ retries) ⊎ ((tape.failures ≡ retries + 1) × (left ≡ zero))

-- `feed` wrote its tape by calls of the tape's writer, including flushes, and finally flushed the writer below. Each
-- failed call was repeated, with `retries` retries in total; the final flush has those that the writing left. If one
-- more call failed than there are retries, as when a record is left unfinished, or if the final flush failed, the
-- result is Device.
pub record WritesOutAtEnd {W : Type 0} (contents : W → Option (List ℕ)) (writes_out : W → Bool → W → Type 0) (writer : W) (size start retries : ℕ) (answer : Result (ℕ × ℕ) FeedFault) (new : W) : Type 0 where
  pub tape : TapeOutput W
  pub written : LeadsByCalls contents (fresh_tape writer size start) tape
  pub left : ℕ
  pub counted : CountsRetries retries left tape
  pub unfinished : IfSome tape.unfinished (λ item. tape.failures ≡ retries + 1)
  pub gave_up : tape.failures ≡ retries + 1 → answer ≡ Err Device
  pub ok : Bool
  pub tried : TriesToWriteOut writes_out left tape.writer ok new
  pub failed : ok ≡ false → answer ≡ Err Device
