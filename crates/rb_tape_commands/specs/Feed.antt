-- What `feed` did with its input and its output, by its result (own).
use Rattle.std.specs.Prelude.{ℕ, ◌≡◌, ◌⊎◌, List, ◌++◌, length, Option, Result, Ok, Err, IfSome, ⊤}
use Rattle.std.specs.Io.KnownBytes.{Appends, Consumes, Keeps, IsAtEnd}
use Rattle.rb_history.specs.TapeBytes.{AreItemsFrom, end_of, tape}
use Rattle.rb_history.specs.RingModel.{IsRingSize, IsStartPosition}
use Rattle.rb_tape_commands.specs.Input.{framed_all, payload_events, Ending, Follows, InputIs}
use Rattle.rb_tape_commands.specs.Input.Ending.{Whole, Unfit, Cut}
use Rattle.rb_tape_commands.specs.declared.feed_fault.FeedFault.{FeedFault}
use Rattle.rb_tape_commands.specs.declared.feed_fault.FeedFault.TheVariants.{Size, Start, Fit, Ends, Memory, Device}

-- one call of `feed`: the ring's size and start; the reader's remaining input and the writer's output, before and
-- after, if they are known
pub record FeedRun : Type 0 where
  pub size : ℕ
  pub start : ℕ
  pub input_before : Option (List ℕ)
  pub input_after : Option (List ℕ)
  pub output_before : Option (List ℕ)
  pub output_after : Option (List ℕ)

-- these payloads were read, followed by some more bytes; and exactly the whole tape of the payloads was written
pub record FeedsAll (run : FeedRun) (payloads : List (List ℕ)) (more : List ℕ) : Type 0 where
  pub stand : AreItemsFrom run.size run.start (payload_events run.start payloads)
  pub read : Consumes run.input_before run.input_after (framed_all payloads ++ more)
  pub wrote : Appends run.output_before run.output_after (tape run.size (payload_events run.start payloads))

-- if nothing follows the payloads, or less than a payload, the input was read to its end
abbrev pub IsReadTo : Ending → Option (List ℕ) → Type 0
IsReadTo Whole input_after = IsAtEnd input_after
IsReadTo Unfit input_after = ⊤
IsReadTo Cut input_after = IsAtEnd input_after

-- the payloads were fed, and what was read after them is such an ending
pub record FeedsThenEnds (run : FeedRun) (payloads : List (List ℕ)) (ending : Ending) : Type 0 where
  pub more : List ℕ
  pub passes : FeedsAll run payloads more
  pub goes_on : Follows run.size (end_of run.start (payload_events run.start payloads)) ending more
  pub read_to : IsReadTo ending run.input_after

-- the producer and consumer positions at the end of the payloads' tape
abbrev pub ends_of : ℕ → List (List ℕ) → ℕ × ℕ
ends_of start payloads = (end_of start (payload_events start payloads), end_of start (payload_events start payloads))

-- ---- the results

-- Ok: the input consists of whole payloads, and both positions are the end of their tape
pub record FeedsWhole (run : FeedRun) (ends : ℕ × ℕ) : Type 0 where
  pub payloads : List (List ℕ)
  pub fed : FeedsThenEnds run payloads Whole
  pub ends_are : ends ≡ ends_of run.start payloads

-- Fit and Ends: after some payloads the input continued in this way; the refusal has the payload's number, counted from
-- 0
pub record FeedsUpTo (run : FeedRun) (ending : Ending) (number : ℕ) : Type 0 where
  pub payloads : List (List ℕ)
  pub fed : FeedsThenEnds run payloads ending
  pub number_is : number ≡ length payloads

-- Size and Start: nothing was read or written
pub record FeedsNothing (run : FeedRun) : Type 0 where
  pub unread : Keeps run.input_before run.input_after
  pub unwritten : Keeps run.output_before run.output_after

-- Memory: some payloads were read, followed by some bytes; and exactly the whole tape of the payloads was written
pub record FeedsSome (run : FeedRun) : Type 0 where
  pub payloads : List (List ℕ)
  pub more : List ℕ
  pub fed : FeedsAll run payloads more

-- Device: some payloads were read, followed by some bytes; and exactly a prefix of the payloads' tape was written
pub record FeedBreaksOff (run : FeedRun) : Type 0 where
  pub payloads : List (List ℕ)
  pub more : List ℕ
  pub out : List ℕ
  pub missing : List ℕ
  pub stand : AreItemsFrom run.size run.start (payload_events run.start payloads)
  pub read : Consumes run.input_before run.input_after (framed_all payloads ++ more)
  pub wrote : Appends run.output_before run.output_after out
  pub beginning : out ++ missing ≡ tape run.size (payload_events run.start payloads)

-- what was read and written, by the result
abbrev pub FeedResult : FeedRun → Result (ℕ × ℕ) FeedFault → Type 0
FeedResult run (Ok ends) = FeedsWhole run ends
FeedResult run (Err Size) = FeedsNothing run
FeedResult run (Err Start) = FeedsNothing run
FeedResult run (Err (Fit k)) = FeedsUpTo run Unfit k
FeedResult run (Err (Ends k)) = FeedsUpTo run Cut k
FeedResult run (Err Memory) = FeedsSome run
FeedResult run (Err Device) = FeedBreaksOff run

-- what a result implies for the input, if that is known
abbrev pub FeedAnswerMatches : ℕ → ℕ → Option (List ℕ) → Result (ℕ × ℕ) FeedFault → Type 0
FeedAnswerMatches size start unread (Ok ends) = IfSome unread (λ input. (payloads : List (List ℕ)) × InputIs size start input payloads Whole × (ends ≡ ends_of start payloads))
FeedAnswerMatches size start unread (Err Size) = ¬ IsRingSize size
FeedAnswerMatches size start unread (Err Start) = IsRingSize size × ¬ IsStartPosition start
FeedAnswerMatches size start unread (Err (Fit k)) = IfSome unread (λ input. (payloads : List (List ℕ)) × InputIs size start input payloads Unfit × (k ≡ length payloads))
FeedAnswerMatches size start unread (Err (Ends k)) = IfSome unread (λ input. (payloads : List (List ℕ)) × InputIs size start input payloads Cut × (k ≡ length payloads))
FeedAnswerMatches size start unread (Err Memory) = Unit {0}
FeedAnswerMatches size start unread (Err Device) = Unit {0}

-- the result for an input with these payloads and this ending
abbrev pub feed_answer : ℕ → List (List ℕ) → Ending → Result (ℕ × ℕ) FeedFault
feed_answer start payloads Whole = Ok (ends_of start payloads)
feed_answer start payloads Unfit = Err (Fit (length payloads))
feed_answer start payloads Cut = Err (Ends (length payloads))

-- the result is this one, unless memory ran out or the device failed
abbrev pub IsAnswerOr : Result (ℕ × ℕ) FeedFault → Result (ℕ × ℕ) FeedFault → Type 0
IsAnswerOr answer result = (result ≡ answer) ⊎ ((result ≡ Err Memory) ⊎ (result ≡ Err Device))

-- a known input determines the result, unless memory runs out or the device fails
abbrev pub AnswersAlone : ℕ → ℕ → Option (List ℕ) → Result (ℕ × ℕ) FeedFault → Type 0
AnswersAlone size start unread result = IfSome unread (λ input. (payloads : List (List ℕ)) (ending : Ending) →
    IsRingSize size → IsStartPosition start → InputIs size start input payloads ending → IsAnswerOr (feed_answer start payloads ending) result)
