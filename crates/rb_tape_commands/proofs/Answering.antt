-- What was done determines what the input is, so the result is the one for that input.
use Rattle.std.proofs.Common.{◌≡◌, ◌≢◌, ℕ, ◌++◌, List, [], Option, Some, None, Result, Ok, Err, refl, sym, ap, ◌∙◌, subst, append_assoc, append-nil, inl, inr}
use Rattle.std.specs.Int.{w32, to_le_bytes}
use Rattle.std.specs.Io.KnownBytes.{Keeps}
use Rattle.std.proofs.KnownBytes.{Appends-kept, Keeps-refl, Keeps-trans}
use Rattle.rb_history.specs.TapeBytes.{end_of}
use Rattle.rb_tape_commands.specs.Input.{framed, framed_all, payload_events, Ending, Follows, InputIs}
use Rattle.rb_tape_commands.specs.Input.Ending.{Whole, Unfit, Cut}
use Rattle.rb_tape_commands.specs.inner.FeedRuns.{feed_run}
use Rattle.rb_tape_commands.specs.inner.PayloadSteps.{IsOpeningFault}
use Rattle.rb_tape_commands.specs.Feed.{FeedsAll, IsReadTo, FeedsThenEnds, FeedBreaksOff, FeedResult, FeedAnswerMatches, feed_answer, IsAnswerOr, AnswersAlone}
use Rattle.rb_tape_commands.proofs.Feeding.{passes_none}
use Rattle.rb_tape_commands.proofs.Inputs.{says_one_thing}
use Rattle.rb_tape_commands.specs.declared.feed_fault.FeedFault.{FeedFault}
use Rattle.rb_tape_commands.specs.declared.feed_fault.FeedFault.TheVariants.{Size, Start, Fit, Ends, Memory, Device}

-- ---- before the first payload, and after the last

-- nothing was read or written
pub opening_fed : (size start : ℕ) (u h : Option (List ℕ)) (e : FeedFault) → IsOpeningFault e → FeedResult (feed_run size start u u h h) (Err e)
opening_fed size start u h Size f = record { unread = Keeps-refl u; unwritten = Keeps-refl h }
opening_fed size start u h Start f = record { unread = Keeps-refl u; unwritten = Keeps-refl h }
opening_fed size start u h Memory f = record { payloads = []; more = []; fed = passes_none size start u h }
opening_fed size start u h (Fit k) f = absurd f
opening_fed size start u h (Ends k) f = absurd f
opening_fed size start u h Device f = absurd f

module _ (size start : ℕ) (u v h g f : Option (List ℕ)) (kept : Keeps g f) where
  passes_handed_on : (ps : List (List ℕ)) (more : List ℕ) → FeedsAll (feed_run size start u v h g) ps more → FeedsAll (feed_run size start u v h f) ps more
  passes_handed_on ps more p = record { stand = p.stand; read = p.read; wrote = Appends-kept h g f _ p.wrote kept }

  stops_handed_on : (ps : List (List ℕ)) (e : Ending) → FeedsThenEnds (feed_run size start u v h g) ps e → FeedsThenEnds (feed_run size start u v h f) ps e
  stops_handed_on ps e s = record { more = s.more; passes = passes_handed_on ps s.more s.passes; goes_on = s.goes_on; read_to = s.read_to }

  breaks_handed_on : FeedBreaksOff (feed_run size start u v h g) → FeedBreaksOff (feed_run size start u v h f)
  breaks_handed_on b = record { payloads = b.payloads; more = b.more; out = b.out; missing = b.missing; stand = b.stand; read = b.read; wrote = Appends-kept h g f _ b.wrote kept; beginning = b.beginning }

  -- a flush does not change it
  pub handed_on : (r : Result (ℕ × ℕ) FeedFault) → FeedResult (feed_run size start u v h g) r → FeedResult (feed_run size start u v h f) r
  handed_on (Ok ends) d = record { payloads = d.payloads; fed = stops_handed_on d.payloads Whole d.fed; ends_are = d.ends_are }
  handed_on (Err Size) d = record { unread = d.unread; unwritten = Keeps-trans h g f d.unwritten kept }
  handed_on (Err Start) d = record { unread = d.unread; unwritten = Keeps-trans h g f d.unwritten kept }
  handed_on (Err (Fit k)) d = record { payloads = d.payloads; fed = stops_handed_on d.payloads Unfit d.fed; number_is = d.number_is }
  handed_on (Err (Ends k)) d = record { payloads = d.payloads; fed = stops_handed_on d.payloads Cut d.fed; number_is = d.number_is }
  handed_on (Err Memory) d = record { payloads = d.payloads; more = d.more; fed = passes_handed_on d.payloads d.more d.fed }
  handed_on (Err Device) d = breaks_handed_on d

  passes_break : (ps : List (List ℕ)) (more : List ℕ) → FeedsAll (feed_run size start u v h g) ps more → FeedBreaksOff (feed_run size start u v h f)
  passes_break ps more p = record {
    payloads = ps;
    more = more;
    out = _;
    missing = [];
    stand = p.stand;
    read = p.read;
    wrote = Appends-kept h g f _ p.wrote kept;
    beginning = append-nil _;
  }

  -- a flush failed
  pub breaks : (r : Result (ℕ × ℕ) FeedFault) → (r ≢ Err Size) × (r ≢ Err Start) → FeedResult (feed_run size start u v h g) r → FeedBreaksOff (feed_run size start u v h f)
  breaks (Ok ends) n d = passes_break d.payloads d.fed.more d.fed.passes
  breaks (Err Size) n d = absurd (n.0 refl)
  breaks (Err Start) n d = absurd (n.1 refl)
  breaks (Err (Fit k)) n d = passes_break d.payloads d.fed.more d.fed.passes
  breaks (Err (Ends k)) n d = passes_break d.payloads d.fed.more d.fed.passes
  breaks (Err Memory) n d = passes_break d.payloads d.more d.fed
  breaks (Err Device) n d = breaks_handed_on d

-- ---- what the whole input is

follows_on : (size position : ℕ) (e : Ending) (more rest : List ℕ) → Follows size position e more → IsReadTo e (Some rest) → Follows size position e (more ++ rest)
follows_on size position Whole more rest g r = ap (λ xs. xs ++ rest) g ∙ r
follows_on size position Unfit more rest (inl t) r = inl (record { len = t.len; rest = t.rest ++ rest; text_is = ap (λ xs. xs ++ rest) t.text_is ∙ append_assoc (to_le_bytes w32 t.len) t.rest rest; has_field = t.has_field; no_room = t.no_room })
follows_on size position Unfit more rest (inr t) r = inr (record { payload = t.payload; rest = t.rest ++ rest; text_is = ap (λ xs. xs ++ rest) t.text_is ∙ append_assoc (framed t.payload) t.rest rest; has_field = t.has_field; room = t.room; past = t.past })
follows_on size position Cut more rest g r = subst (Follows size position Cut) (sym (ap (λ xs. more ++ xs) r ∙ append-nil more)) g

stops_says : (size start : ℕ) (input : List ℕ) (v h g : Option (List ℕ)) (ps : List (List ℕ)) (e : Ending) → FeedsThenEnds (feed_run size start (Some input) v h g) ps e → InputIs size start input ps e
stops_says size start input None h g ps e s = absurd s.passes.read
stops_says size start input (Some rest) h g ps e s = record {
  rest = s.more ++ rest;
  input_is = s.passes.read ∙ append_assoc (framed_all ps) s.more rest;
  stand = s.passes.stand;
  goes_on = follows_on size (end_of start (payload_events start ps)) e s.more rest s.goes_on s.read_to;
}

answers : (size start : ℕ) (input : List ℕ) (v h g : Option (List ℕ)) (ps qs : List (List ℕ)) (e f : Ending) → FeedsThenEnds (feed_run size start (Some input) v h g) ps e → InputIs size start input qs f → feed_answer start ps e ≡ feed_answer start qs f
answers size start input v h g ps qs e f s t =
    let same = says_one_thing size start input ps qs e f (stops_says size start input v h g ps e s) t in
    let payloads = same.0 in
    let endings = same.1 in
    cc

pub only_answer : (size start : ℕ) (input : List ℕ) (v h g : Option (List ℕ)) (r : Result (ℕ × ℕ) FeedFault) → (r ≢ Err Size) × (r ≢ Err Start) → FeedResult (feed_run size start (Some input) v h g) r → (qs : List (List ℕ)) (f : Ending) → InputIs size start input qs f → IsAnswerOr (feed_answer start qs f) r
only_answer size start input v h g (Ok ends) n d qs f t = inl (ap Ok d.ends_are ∙ answers size start input v h g d.payloads qs Whole f d.fed t)
only_answer size start input v h g (Err Size) n d qs f t = absurd (n.0 refl)
only_answer size start input v h g (Err Start) n d qs f t = absurd (n.1 refl)
only_answer size start input v h g (Err (Fit k)) n d qs f t = inl (ap (λ m. Err (Fit m)) d.number_is ∙ answers size start input v h g d.payloads qs Unfit f d.fed t)
only_answer size start input v h g (Err (Ends k)) n d qs f t = inl (ap (λ m. Err (Ends m)) d.number_is ∙ answers size start input v h g d.payloads qs Cut f d.fed t)
only_answer size start input v h g (Err Memory) n d qs f t = inr (inl refl)
only_answer size start input v h g (Err Device) n d qs f t = inr (inr refl)

-- ---- the same, if the input may not be known

pub only_known : (size start : ℕ) (u v h g : Option (List ℕ)) (r : Result (ℕ × ℕ) FeedFault) → (r ≢ Err Size) × (r ≢ Err Start) → FeedResult (feed_run size start u v h g) r → AnswersAlone size start u r
only_known size start None v h g r n d = tt
only_known size start (Some input) v h g r n d = λ qs f p q t. only_answer size start input v h g r n d qs f t

-- a result implies what the input is
pub tells : (size start : ℕ) (u v h g : Option (List ℕ)) (r : Result (ℕ × ℕ) FeedFault) → (r ≢ Err Size) × (r ≢ Err Start) → FeedResult (feed_run size start u v h g) r → FeedAnswerMatches size start u r
tells size start None v h g (Ok ends) n d = tt
tells size start (Some input) v h g (Ok ends) n d = (d.payloads, stops_says size start input v h g d.payloads Whole d.fed, d.ends_are)
tells size start u v h g (Err Size) n d = absurd (n.0 refl)
tells size start u v h g (Err Start) n d = absurd (n.1 refl)
tells size start None v h g (Err (Fit k)) n d = tt
tells size start (Some input) v h g (Err (Fit k)) n d = (d.payloads, stops_says size start input v h g d.payloads Unfit d.fed, d.number_is)
tells size start None v h g (Err (Ends k)) n d = tt
tells size start (Some input) v h g (Err (Ends k)) n d = (d.payloads, stops_says size start input v h g d.payloads Cut d.fed, d.number_is)
tells size start u v h g (Err Memory) n d = tt
tells size start u v h g (Err Device) n d = tt
