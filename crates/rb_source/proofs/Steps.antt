-- The steps of a source over a reader.
use Rattle.std.proofs.Common.{◌≡◌, ◌≢◌, ℕ, suc, ◌+◌, ◌-◌, ◌^◌, ◌<◌, ◌≤◌, min, Bool, true, false, Option, None, Some, List, [], ◌∷◌, ◌++◌, length, take, drop, refl, sym, ap, ◌∙◌, subst, append_assoc, append-nil, take-append-drop, inl, inr, arith}
use Rattle.std.proofs.lemmas.List.{length-append, length-drop, length-take-le, take-append-le}
use Rattle.std.proofs.lemmas.Nat.{from_le_bytes-to_le_bytes_4}
use Rattle.std.proofs.Math.Seq.{take-take}
use Rattle.std.specs.Prelude.{MatchOption}
use Rattle.std.specs.Int.{w32, to_le_bytes, from_le_bytes}
use Rattle.std.specs.Io.KnownBytes.{Consumes, IsAtEnd}
use Rattle.std.proofs.KnownBytes.{Consumes-nil}
use Rattle.rb_source.specs.declared.framing.Framing.{Framing}
use Rattle.rb_source.specs.declared.framing.Framing.TheVariants.{Frames, Fixed, Lines}
use Rattle.rb_source.specs.declared.form.Form.{Form}
use Rattle.rb_source.specs.declared.long.Long.{Long}
use Rattle.rb_source.specs.declared.long.Long.TheVariants.{Frame, Line}
use Rattle.rb_source.specs.Form.{contexts_of, counts_after, form_len, largest_u32, IsForm}
use Rattle.rb_source.specs.CountLaws.{counted_known, counts_none, given_known, len_small}
use Rattle.rb_source.specs.Piece.{PieceContents, room_for}
use Rattle.rb_source.proofs.Side.{room_some}
use Rattle.rb_source.specs.inner.Counted.{counted_by, given_by, IsKnownBy}
use Rattle.rb_source.specs.inner.Look.{at_place, BeginsWith, FindsLineFeed}
use Rattle.rb_source.specs.declared.counts.ContextCounts.{ContextCounts}
use Rattle.rb_source.specs.declared.portion_parser.ContextPlace.{ContextPlace}
use Rattle.std.proofs.lemmas.Bool.{true≢false}
use Rattle.rb_source.specs.inner.Steps.{Appends, GivesNone, IsPartialSource}
use Rattle.rb_source.specs.Framing.{Portion, HasNoLineFeed, IsPartial, IsPortion, contents, flush_length, line_feed, portion_bytes, text_of}
use Rattle.rb_source.specs.Framing.Portion.{Content, Flush}
use Rattle.rb_source.specs.Stream.{AreCounts, FramedInput, Gives, GivesFrom, IsOver, IsBegun, IsLongPart, IsPart, line_of}
use Rattle.rb_source.specs.StreamLaws.{both_from, next_from, nothing_from}

-- the part of the unfinished context that arrived
abbrev pub PartOf : Option Long → Framing → ℕ → List ℕ → List ℕ → List ℕ → Type 0
PartOf long framing len kept rest part = MatchOption long (part ≡ rest) (λ l. IsLongPart framing len kept rest l part)

pub part_short : (long : Option Long) (framing : Framing) (len : ℕ) (kept rest part : List ℕ) → long ≡ None → PartOf long framing len kept rest part → part ≡ rest
part_short long framing len kept rest part e h = let P : Option Long → Type 0 = λ l. PartOf l framing len kept rest part in subst P e h

pub short_part : (long : Option Long) (framing : Framing) (len : ℕ) (kept rest : List ℕ) → long ≡ None → PartOf long framing len kept rest rest
short_part long framing len kept rest e = let P : Option Long → Type 0 = λ l. PartOf l framing len kept rest rest in subst P (sym e) refl

pub part_long : (long : Option Long) (l : Long) (framing : Framing) (len : ℕ) (kept rest part : List ℕ) → long ≡ Some l → PartOf long framing len kept rest part → IsLongPart framing len kept rest l part
part_long long l framing len kept rest part e h = let P : Option Long → Type 0 = λ o. PartOf o framing len kept rest part in subst P e h

-- more bytes arrived
pub part_grows : (long : Option Long) (framing : Framing) (len : ℕ) (kept rest part bytes : List ℕ) → PartOf long framing len kept rest part → PartOf long framing len kept (rest ++ bytes) (part ++ bytes)
part_grows None framing len kept rest part bytes h = ap (λ p. p ++ bytes) h
part_grows (Some l) framing len kept rest part bytes h = record {
  body = h.body;
  begun = h.begun;
  begun_is = h.begun_is;
  longer = h.longer;
  kept_is = h.kept_is;
  text = ap (λ p. p ++ bytes) h.text ∙ append_assoc h.begun rest bytes;
}

-- ---- steps

-- nothing was read, and one portion was taken
pub took : {R : Type 0} (remaining : R → Option (List ℕ)) (old new : FramedInput R) (p : Portion) (given : List (List ℕ)) (part : List ℕ)
    → new.long ≡ None → IsPortion old.framing old.form.len p → part ≡ portion_bytes old.framing p ++ new.rest
    → new.reader ≡ old.reader → new.framing ≡ old.framing → new.form ≡ old.form
    → given ≡ contexts_of old.form (contents (p ∷ [])) → (AreCounts old.counts → new.counts ≡ counts_after old.form old.counts (contents (p ∷ [])))
    → GivesFrom remaining old.framing old.form old part given new
took remaining old new p given part short is text reader framing form contexts counts = record {
  read = [];
  portions = p ∷ [];
  last = [];
  left = new.rest;
  consumed = subst (λ r. Consumes (remaining old.reader) (remaining r) []) (sym reader) (Consumes-nil (remaining old.reader));
  portions_are = (is, tt);
  last_is = λ n. absurd (n refl);
  left_is = short_part new.long new.framing new.form.len new.kept new.rest short;
  text = append-nil part ∙ text ∙ ap (λ t. t ++ new.rest) (sym (append-nil (portion_bytes old.framing p)));
  contexts_are = contexts ∙ ap (contexts_of old.form) (sym (append-nil (contents (p ∷ []))));
  counts_are = λ n. counts n ∙ ap (counts_after old.form old.counts) (sym (append-nil (contents (p ∷ []))));
  framing_same = framing;
  form_same = form;
}

-- bytes were read, and nothing was taken
pub kept_on : {R : Type 0} (remaining : R → Option (List ℕ)) (old new : FramedInput R) (part bytes : List ℕ)
    → IsPart new (part ++ bytes) → Consumes (remaining old.reader) (remaining new.reader) bytes → new.framing ≡ old.framing → new.form ≡ old.form
    → (AreCounts old.counts → new.counts ≡ counts_after old.form old.counts [])
    → GivesFrom remaining old.framing old.form old part [] new
kept_on remaining old new part bytes is consumed framing form counts = record {
  read = bytes;
  portions = [];
  last = [];
  left = part ++ bytes;
  consumed = consumed;
  portions_are = tt;
  last_is = λ n. absurd (n refl);
  left_is = is;
  text = refl;
  contexts_are = refl;
  counts_are = counts;
  framing_same = framing;
  form_same = form;
}

one_line : (line : List ℕ) → line ≢ [] → line ∷ [] ≡ line_of line
one_line [] n = absurd (n refl)
one_line (b ∷ bs) n = refl

-- the last line was taken
pub took_last : {R : Type 0} (remaining : R → Option (List ℕ)) (old new : FramedInput R) (line : List ℕ) (given : List (List ℕ)) (part : List ℕ)
    → new.long ≡ None → new.rest ≡ [] → old.framing ≡ Lines → new.over ≡ true → HasNoLineFeed line → line ≢ [] → part ≡ line
    → new.reader ≡ old.reader → new.framing ≡ old.framing → new.form ≡ old.form
    → given ≡ contexts_of old.form (line ∷ []) → (AreCounts old.counts → new.counts ≡ counts_after old.form old.counts (line ∷ []))
    → GivesFrom remaining old.framing old.form old part given new
took_last remaining old new line given part short empty lines over no_feed some text reader framing form contexts counts = record {
  read = [];
  portions = [];
  last = line;
  left = [];
  consumed = subst (λ r. Consumes (remaining old.reader) (remaining r) []) (sym reader) (Consumes-nil (remaining old.reader));
  portions_are = tt;
  last_is = λ _. (lines, over, no_feed);
  left_is = subst (IsPart new) empty (short_part new.long new.framing new.form.len new.kept new.rest short);
  text = append-nil part ∙ text ∙ sym (append-nil line);
  contexts_are = contexts ∙ ap (contexts_of old.form) (one_line line some);
  counts_are = λ n. counts n ∙ ap (counts_after old.form old.counts) (one_line line some);
  framing_same = framing;
  form_same = form;
}

-- nothing was read, and nothing was taken
pub stays_on : {R : Type 0} (remaining : R → Option (List ℕ)) (old new : FramedInput R) (part : List ℕ)
    → IsPart new part → new.reader ≡ old.reader → new.framing ≡ old.framing → new.form ≡ old.form → new.counts ≡ old.counts
    → GivesFrom remaining old.framing old.form old part [] new
stays_on remaining old new part is reader framing form counts = record {
  read = [];
  portions = [];
  last = [];
  left = part;
  consumed = subst (λ r. Consumes (remaining old.reader) (remaining r) []) (sym reader) (Consumes-nil (remaining old.reader));
  portions_are = tt;
  last_is = λ n. absurd (n refl);
  left_is = is;
  text = append-nil part;
  contexts_are = refl;
  counts_are = λ n. counts ∙ sym (counts_none old.form old.counts n);
  framing_same = framing;
  form_same = form;
}

pub same_piece : (p : PieceContents) → p ≡ record p { contexts = p.contexts ++ [] }
same_piece p = ap (λ c. record p { contexts = c }) (sym (append-nil p.contexts))

-- a step that gives nothing
pub gives_none : {R : Type 0} (remaining : R → Option (List ℕ)) (old new : FramedInput R) (before : PieceContents) → GivesNone remaining old new → Appends remaining old new before before
gives_none remaining old new before f = record { given = []; piece_is = same_piece before; same = f.same; from = f.from }

-- no step
pub no_step : {R : Type 0} (remaining : R → Option (List ℕ)) (s : FramedInput R) → GivesNone remaining s s
no_step remaining s = record { same = refl; from = λ part h. nothing_from remaining s part h }

-- one step after another
pub appends_both : {R : Type 0} (remaining : R → Option (List ℕ)) (a b c : FramedInput R) (p q r : PieceContents) → b.over ≡ false → Appends remaining a b p q → Appends remaining b c q r → Appends remaining a c p r
appends_both remaining a b c p q r open_yet one two = record {
  given = one.given ++ two.given;
  piece_is = two.piece_is ∙ ap {A = PieceContents} (λ x. record x { contexts = x.contexts ++ two.given }) one.piece_is ∙ ap (λ l. record p { contexts = l }) (append_assoc p.contexts one.given two.given);
  same = two.same ∙ one.same;
  from = λ part h.
      let f = one.from part h in
      both_from remaining a.framing a.form a b c part one.given two.given open_yet f (next_from remaining a.framing a.form b c f.left two.given f.framing_same f.form_same (two.from f.left f.left_is));
}

-- a step that appends does not change the length of the contexts
pub same_len : {R : Type 0} (remaining : R → Option (List ℕ)) (a b : FramedInput R) (p q : PieceContents) → Appends remaining a b p q → p.ctx_len ≡ form_len a.form → q.ctx_len ≡ form_len b.form
same_len remaining a b p q one e = ap {A = PieceContents} (λ x. x.ctx_len) one.piece_is ∙ e ∙ ap form_len (sym one.same)

-- a source over a reader gives what the steps append to an empty piece
pub gives_all : {R : Type 0} (remaining : R → Option (List ℕ)) (a b : FramedInput R) (p q : PieceContents) → a.over ≡ false → p.contexts ≡ [] → Appends remaining a b p q → (b.over ≡ true → IsOver remaining b) → Gives remaining a q.contexts b
gives_all remaining a b p q open_yet empty one over =
    let given : one.given ≡ q.contexts = sym (ap {A = PieceContents} (λ x. x.contexts) one.piece_is ∙ ap (λ l. l ++ one.given) empty) in
    record {
      after_end = λ o. absurd (true≢false (sym o ∙ open_yet));
      from = λ part h. subst (λ g. GivesFrom remaining a.framing a.form a part g b) given (one.from part h);
      ends = λ _ o. over o;
    }

-- the stream is over
pub over_gives : {R : Type 0} (remaining : R → Option (List ℕ)) (s : FramedInput R) (over : Bool) (before : PieceContents) → Appends remaining s (record s { over = over }) before before
over_gives remaining s over before =
    let new : FramedInput _ = record s { over = over } in
    gives_none remaining s new before (record { same = refl; from = λ part h. stays_on remaining s new part h refl refl refl refl })

-- the portion at the front of the read bytes is a context
pub took_content : {R : Type 0} (remaining : R → Option (List ℕ)) (old new : FramedInput R) (came front : List ℕ) (total span : ℕ)
    → old.long ≡ None → new.long ≡ None → BeginsWith old.framing old.form.len old.rest (Content came) span → new.rest ≡ drop span old.rest
    → new.reader ≡ old.reader → new.framing ≡ old.framing → new.form ≡ old.form
    → IsForm old.form → IsKnownBy old.form.len came front total → new.counts ≡ counted_by old.form old.counts total
    → (part : List ℕ) → IsPart old part → GivesFrom remaining old.framing old.form old part (given_by old.form front total) new
took_content remaining old new came front total span short still begins rest reader framing form lawful known counts part h =
    took remaining old new (Content came) (given_by old.form front total) part still begins.portion_is
    (part_short old.long old.framing old.form.len old.kept old.rest part short h ∙ begins.text ∙ ap (λ r. portion_bytes old.framing (Content came) ++ r) (sym rest))
    reader framing form (given_known old.form came front total lawful known) (λ _. counts ∙ counted_known old.form came front old.counts total lawful known)

-- the portion is a flush
pub took_flush : {R : Type 0} (remaining : R → Option (List ℕ)) (old new : FramedInput R) (span : ℕ)
    → old.long ≡ None → new.long ≡ None → BeginsWith old.framing old.form.len old.rest Flush span → new.rest ≡ drop span old.rest
    → new.reader ≡ old.reader → new.framing ≡ old.framing → new.form ≡ old.form → new.counts ≡ old.counts → (part : List ℕ) → IsPart old part → GivesFrom remaining old.framing old.form old part [] new
took_flush remaining old new span short still begins rest reader framing form counts part h =
    took remaining old new Flush [] part still begins.portion_is
    (part_short old.long old.framing old.form.len old.kept old.rest part short h ∙ begins.text ∙ ap (λ r. portion_bytes old.framing Flush ++ r) (sym rest))
    reader framing form refl (λ n. counts ∙ sym (counts_none old.form old.counts n))

-- ---- a long context

pub known_content : (len start size : ℕ) (rest : List ℕ) → start + size ≤ length rest → length rest ≤ 131072 → IsKnownBy len (take size (drop start rest)) (take size (drop start rest)) size
known_content len start size rest inside small =
    let e : length (take size (drop start rest)) ≡ size = length-take-le size (drop start rest) (omega (arith, length-drop start rest)) in
    record { front_is = refl; total_is = omega arith }

kept_known : (len : ℕ) (kept body more : List ℕ) → len < length body → kept ≡ take len body → take len kept ≡ take len (body ++ more)
kept_known len kept body more longer e =
    let less : len ≤ length body = omega arith in
    let same : len ≤ len = omega arith in
    ap (take len) e ∙ take-take len len body same ∙ sym (take-append-le len body more less)

-- a part of a frame arrived
pub frame_passes : (framing : Framing) (len : ℕ) (kept rest part : List ℕ) (total missing count : ℕ) → count ≤ length rest → count < missing
    → IsLongPart framing len kept rest (Frame total missing) part → IsLongPart framing len kept (drop count rest) (Frame total (missing - count)) part
frame_passes framing len kept rest part total missing count inside less h =
    let taken : length (take count rest) ≡ count = length-take-le count rest inside in
    let all = length-append h.body (take count rest) in
    let longer : len ≤ length h.body = let l = h.longer in omega arith in
    record {
      body = h.body ++ take count rest;
      begun = h.begun ++ take count rest;
      begun_is = (
        h.begun_is.0,
        ap (λ b. b ++ take count rest) h.begun_is.1 ∙ append_assoc (to_le_bytes w32 total) h.body (take count rest),
        (let e = h.begun_is.2 in omega arith),
        omega arith,
        h.begun_is.4,
      );
      longer = (let l = h.longer in omega arith);
      kept_is = h.kept_is ∙ sym (take-append-le len h.body (take count rest) longer);
      text = h.text ∙ ap (λ r. h.begun ++ r) (sym (take-append-drop count rest)) ∙ sym (append_assoc h.begun (take count rest) (drop count rest));
    }

four : (a b c d : List ℕ) → (a ++ b) ++ (c ++ d) ≡ (a ++ (b ++ c)) ++ d
four a b c d = simp append_assoc

-- the rest of the frame arrived
pub frame_ends : {R : Type 0} (remaining : R → Option (List ℕ)) (old new : FramedInput R) (total missing : ℕ)
    → old.long ≡ Some (Frame total missing) → new.long ≡ None → missing ≤ length old.rest → new.rest ≡ drop missing old.rest
    → new.reader ≡ old.reader → new.framing ≡ old.framing → new.form ≡ old.form
    → IsForm old.form → new.counts ≡ counted_by old.form old.counts total
    → (part : List ℕ) → IsPart old part → GivesFrom remaining old.framing old.form old part (given_by old.form old.kept total) new
frame_ends remaining old new total missing long still inside rest reader framing form lawful counts part p =
    let h = part_long old.long (Frame total missing) old.framing old.form.len old.kept old.rest part long p in
    let end = take missing old.rest in
    let came = h.body ++ end in
    let taken : length end ≡ missing = length-take-le missing old.rest inside in
    let size : length came ≡ total = let e = h.begun_is.2 in let a = length-append h.body end in omega arith in
    let known : IsKnownBy old.form.len came old.kept total = record {
      front_is = kept_known old.form.len old.kept h.body end h.longer h.kept_is;
      total_is = (let b = h.begun_is.4 in omega arith);
    } in
    let P : Framing → Type 0 = λ f. IsPortion f old.form.len (Content came) in
    let T : Framing → Type 0 = λ f. part ≡ portion_bytes f (Content came) ++ new.rest in
    let is : IsPortion Frames old.form.len (Content came) = (let b = h.begun_is.4 in omega arith) in
    let text : part ≡ portion_bytes Frames (Content came) ++ new.rest =
    h.text ∙ ap (λ b. b ++ old.rest) h.begun_is.1 ∙ ap (λ r. (to_le_bytes w32 total ++ h.body) ++ r) (sym (take-append-drop missing old.rest) ∙ ap (λ r. end ++ r) (sym rest))
    ∙ four (to_le_bytes w32 total) h.body end new.rest ∙ ap (λ n. (to_le_bytes w32 n ++ came) ++ new.rest) (sym size) in
    took remaining old new (Content came) (given_by old.form old.kept total) part still (subst P (sym h.begun_is.0) is) (subst T (sym h.begun_is.0) text)
    reader framing form (given_known old.form came old.kept total lawful known) (λ _. counts ∙ counted_known old.form came old.kept old.counts total lawful known)

HasNoLineFeed-append : (xs ys : List ℕ) → HasNoLineFeed xs → HasNoLineFeed ys → HasNoLineFeed (xs ++ ys)
HasNoLineFeed-append [] ys a b = b
HasNoLineFeed-append (x ∷ xs) ys a b = (a.0, HasNoLineFeed-append xs ys a.1 b)

-- a part of a line arrived
pub line_passes : (framing : Framing) (len : ℕ) (kept rest part : List ℕ) (total now : ℕ) → HasNoLineFeed rest → now ≡ min (total + length rest) largest_u32
    → IsLongPart framing len kept rest (Line total) part → IsLongPart framing len kept [] (Line now) part
line_passes framing len kept rest part total now none e h =
    let all = length-append h.body rest in
    let longer : len ≤ length h.body = let l = h.longer in omega arith in
    record {
      body = h.body ++ rest;
      begun = h.begun ++ rest;
      begun_is = (
        h.begun_is.0,
        ap (λ b. b ++ rest) h.begun_is.1,
        HasNoLineFeed-append h.body rest h.begun_is.2 none,
        (let t = h.begun_is.3 in omega arith),
      );
      longer = (let l = h.longer in omega arith);
      kept_is = h.kept_is ∙ sym (take-append-le len h.body rest longer);
      text = h.text ∙ sym (append-nil (h.begun ++ rest));
    }

-- the rest of the line arrived
pub line_ends : {R : Type 0} (remaining : R → Option (List ℕ)) (old new : FramedInput R) (total now place : ℕ)
    → old.long ≡ Some (Line total) → new.long ≡ None → FindsLineFeed old.rest (Some place) → now ≡ min (total + place) largest_u32 → new.rest ≡ drop (place + 1) old.rest
    → new.reader ≡ old.reader → new.framing ≡ old.framing → new.form ≡ old.form
    → IsForm old.form → new.counts ≡ counted_by old.form old.counts now
    → (part : List ℕ) → IsPart old part → GivesFrom remaining old.framing old.form old part (given_by old.form old.kept now) new
line_ends remaining old new total now place long still found e rest reader framing form lawful counts part p =
    let h = part_long old.long (Line total) old.framing old.form.len old.kept old.rest part long p in
    let end = take place old.rest in
    let came = h.body ++ end in
    let less : place ≤ length old.rest = let f = found.0 in omega arith in
    let taken : length end ≡ place = length-take-le place old.rest less in
    let known : IsKnownBy old.form.len came old.kept now = record {
      front_is = kept_known old.form.len old.kept h.body end h.longer h.kept_is;
      total_is = (let t = h.begun_is.3 in let a = length-append h.body end in omega arith);
    } in
    let P : Framing → Type 0 = λ f. IsPortion f old.form.len (Content came) in
    let T : Framing → Type 0 = λ f. part ≡ portion_bytes f (Content came) ++ new.rest in
    let split : old.rest ≡ end ++ (line_feed ∷ new.rest) = sym (take-append-drop place old.rest) ∙ ap (λ r. end ++ r) (found.2 ∙ ap (λ r. line_feed ∷ r) (sym rest)) in
    let text : part ≡ portion_bytes Lines (Content came) ++ new.rest =
    h.text ∙ ap (λ b. b ++ old.rest) h.begun_is.1 ∙ ap (λ r. h.body ++ r) split ∙ sym (append_assoc h.body end (line_feed ∷ new.rest)) ∙ sym (append_assoc came (line_feed ∷ []) new.rest) in
    took remaining old new (Content came) (given_by old.form old.kept now) part still (subst P (sym h.begun_is.0) (HasNoLineFeed-append h.body end h.begun_is.2 found.1)) (subst T (sym h.begun_is.0) text)
    reader framing form (given_known old.form came old.kept now lawful known) (λ _. counts ∙ counted_known old.form came old.kept old.counts now lawful known)

-- the input ends, and the line with it
pub line_is_last : {R : Type 0} (remaining : R → Option (List ℕ)) (old new : FramedInput R) (total : ℕ)
    → old.long ≡ Some (Line total) → old.rest ≡ [] → new.long ≡ None → new.rest ≡ [] → new.over ≡ true
    → new.reader ≡ old.reader → new.framing ≡ old.framing → new.form ≡ old.form
    → IsForm old.form → new.counts ≡ counted_by old.form old.counts total
    → (part : List ℕ) → IsPart old part → GivesFrom remaining old.framing old.form old part (given_by old.form old.kept total) new
line_is_last remaining old new total long none still empty over reader framing form lawful counts part p =
    let h = part_long old.long (Line total) old.framing old.form.len old.kept old.rest part long p in
    let known : IsKnownBy old.form.len h.body old.kept total = record {
      front_is = kept_known old.form.len old.kept h.body [] h.longer h.kept_is ∙ ap (take old.form.len) (append-nil h.body);
      total_is = h.begun_is.3;
    } in
    let some : h.body ≢ [] = λ e. (let l = h.longer in let z = ap length e in omega arith) in
    took_last remaining old new h.body (given_by old.form old.kept total) part still empty h.begun_is.0 over h.begun_is.2 some
    (h.text ∙ ap (λ r. h.begun ++ r) none ∙ append-nil h.begun ∙ h.begun_is.1) reader framing form
    (given_known old.form h.body old.kept total lawful known) (λ _. counts ∙ counted_known old.form h.body old.kept old.counts total lawful known)

-- the input ends inside a long frame
pub frame_is_cut : (framing : Framing) (len : ℕ) (kept rest part : List ℕ) (total missing : ℕ) → rest ≡ [] → IsLongPart framing len kept rest (Frame total missing) part → (part ≢ []) × IsPartial framing len part
frame_is_cut framing len kept rest part total missing none h =
    let le = to_le_bytes w32 total in
    let is : part ≡ le ++ h.body = h.text ∙ ap (λ r. h.begun ++ r) none ∙ append-nil h.begun ∙ h.begun_is.1 in
    let size = ap length is ∙ length-append le h.body in
    let P : Framing → Type 0 = λ f. IsPartial f len part in
    let partial : IsPartial Frames len part = inr (total, h.begun_is.4, ap (take 4) is ∙ take-append-le 4 le h.body (omega arith), (let e = h.begun_is.2 in let m = h.begun_is.3 in omega arith)) in
    ((λ e. (let z = ap length e in omega arith)), subst P (sym h.begun_is.0) partial)

-- ---- the start of a long context

same_total : (m n : ℕ) → m < 2 ^ 32 → n < 2 ^ 32 → to_le_bytes w32 m ≡ to_le_bytes w32 n → m ≡ n
same_total m n hm hn e = sym (from_le_bytes-to_le_bytes_4 m hm) ∙ ap (from_le_bytes w32) e ∙ from_le_bytes-to_le_bytes_4 n hn

-- the length of a frame of which a part arrived
pub partial_total : (len : ℕ) (bytes : List ℕ) (total : ℕ) → IsPartial Frames len bytes → 4 ≤ length bytes → take 4 bytes ≡ to_le_bytes w32 total → total < 2 ^ 32 → (total < flush_length) × (length bytes < 4 + total)
partial_total len bytes total (inl short) more e small = absurd (omega arith)
partial_total len bytes total (inr (n, less, is, cut)) more e small =
    let same : n ≡ total = same_total n total (omega arith) small (sym is ∙ e) in
    (omega arith, omega arith)

pub frame_begins : (len : ℕ) (kept bytes : List ℕ) (total : ℕ) → IsPartial Frames len bytes → length bytes ≡ 131072 → take 4 bytes ≡ to_le_bytes w32 total → total < 2 ^ 32 → len ≤ 65536 → kept ≡ take len (drop 4 bytes)
    → IsLongPart Frames len kept [] (Frame total (total - (length bytes - 4))) bytes
frame_begins len kept bytes total partial full e small fits k =
    let t = partial_total len bytes total partial (omega arith) e small in
    let size = length-drop 4 bytes in
    record {
      body = drop 4 bytes;
      begun = bytes;
      begun_is = (refl, sym (take-append-drop 4 bytes) ∙ ap (λ f. f ++ drop 4 bytes) e, (let b = t.1 in omega arith), (let b = t.1 in omega arith), t.0);
      longer = omega arith;
      kept_is = k;
      text = sym (append-nil bytes);
    }

pub line_begins : (len : ℕ) (kept bytes : List ℕ) → HasNoLineFeed bytes → length bytes ≡ 131072 → len ≤ 65536 → kept ≡ take len bytes → IsLongPart Lines len kept [] (Line (length bytes)) bytes
line_begins len kept bytes none full fits k = record {
  body = bytes;
  begun = bytes;
  begun_is = (refl, refl, none, omega arith);
  longer = omega arith;
  kept_is = k;
  text = sym (append-nil bytes);
}

-- ---- each step, as its function's contract states it

pub flush_front : {R : Type 0} (remaining : R → Option (List ℕ)) (old : FramedInput R) (rest : List ℕ) (before : PieceContents)
    → old.long ≡ None → BeginsWith old.framing old.form.len old.rest Flush 4 → rest ≡ drop 4 old.rest → Appends remaining old (record old { rest = rest }) before before
flush_front remaining old rest before short begins e =
    let new : FramedInput _ = record old { rest = rest } in
    gives_none remaining old new before (record { same = refl; from = λ part h. took_flush remaining old new 4 short short begins e refl refl refl refl part h })

pub whole_front : {R : Type 0} (remaining : R → Option (List ℕ)) (old : FramedInput R) (place : ContextPlace) (rest front : List ℕ) (counts : ContextCounts) (before after : PieceContents)
    → old.long ≡ None → BeginsWith old.framing old.form.len old.rest (Content (at_place place old.rest)) place.span → place.start + place.len ≤ length old.rest → length old.rest ≤ 131072
    → front ≡ at_place place old.rest → rest ≡ drop place.span old.rest → IsForm old.form
    → counts ≡ counted_by old.form old.counts place.len → after ≡ record before { contexts = before.contexts ++ given_by old.form front place.len }
    → Appends remaining old (record old { rest = rest; counts = counts }) before after
whole_front remaining old place rest front counts before after short begins inside small is e lawful counted given =
    let new : FramedInput _ = record old { rest = rest; counts = counts } in
    let came = at_place place old.rest in
    record {
      given = given_by old.form came place.len;
      piece_is = given ∙ ap (λ f. record before { contexts = before.contexts ++ given_by old.form f place.len }) is;
      same = refl;
      from = λ part h. took_content remaining old new came came place.len place.span short short begins e refl refl refl lawful (known_content old.form.len place.start place.len old.rest inside small) counted part h;
    }

pub frame_more : {R : Type 0} (remaining : R → Option (List ℕ)) (old : FramedInput R) (total missing count : ℕ) (rest : List ℕ) (before : PieceContents)
    → old.long ≡ Some (Frame total missing) → count ≡ min (length old.rest) missing → 0 < missing - count → rest ≡ drop count old.rest
    → Appends remaining old (record old { rest = rest; long = Some (Frame total (missing - count)) }) before before
frame_more remaining old total missing count rest before long c less e =
    let new : FramedInput _ = record old { rest = rest; long = Some (Frame total (missing - count)) } in
    let is : (part : List ℕ) → IsPart old part → IsPart new part = λ part h.
    subst (λ r. IsLongPart old.framing old.form.len old.kept r (Frame total (missing - count)) part) (sym e)
    (frame_passes old.framing old.form.len old.kept old.rest part total missing count (omega arith) (omega arith) (part_long old.long (Frame total missing) old.framing old.form.len old.kept old.rest part long h)) in
    gives_none remaining old new before (record { same = refl; from = λ part h. stays_on remaining old new part (is part h) refl refl refl refl })

pub frame_done : {R : Type 0} (remaining : R → Option (List ℕ)) (old new : FramedInput R) (total missing count : ℕ) (rest : List ℕ) (before after : PieceContents)
    → old.long ≡ Some (Frame total missing) → count ≡ min (length old.rest) missing → missing - count ≤ 0 → rest ≡ drop count old.rest → IsForm old.form
    → new ≡ record old { rest = rest; long = None; counts = counted_by old.form old.counts total } → after ≡ record before { contexts = before.contexts ++ given_by old.form old.kept total }
    → Appends remaining old new before after
frame_done remaining old new total missing count rest before after long c done e lawful is given =
    let made : FramedInput _ = record old { rest = rest; long = None; counts = counted_by old.form old.counts total } in
    let all : count ≡ missing = omega arith in
    let step : Appends remaining old made before after = record {
      given = given_by old.form old.kept total;
      piece_is = given;
      same = refl;
      from = λ part h. frame_ends remaining old made total missing long refl (omega arith) (e ∙ ap (λ n. drop n old.rest) all) refl refl refl lawful refl part h;
    } in
    subst (λ s. Appends remaining old s before after) (sym is) step

pub line_more : {R : Type 0} (remaining : R → Option (List ℕ)) (old : FramedInput R) (total now : ℕ) (rest : List ℕ) (before : PieceContents)
    → old.long ≡ Some (Line total) → HasNoLineFeed old.rest → now ≡ min (total + length old.rest) largest_u32 → rest ≡ []
    → Appends remaining old (record old { rest = rest; long = Some (Line now) }) before before
line_more remaining old total now rest before long none c e =
    let new : FramedInput _ = record old { rest = rest; long = Some (Line now) } in
    let is : (part : List ℕ) → IsPart old part → IsPart new part = λ part h.
    subst (λ r. IsLongPart old.framing old.form.len old.kept r (Line now) part) (sym e)
    (line_passes old.framing old.form.len old.kept old.rest part total now none c (part_long old.long (Line total) old.framing old.form.len old.kept old.rest part long h)) in
    gives_none remaining old new before (record { same = refl; from = λ part h. stays_on remaining old new part (is part h) refl refl refl refl })

pub line_done : {R : Type 0} (remaining : R → Option (List ℕ)) (old new : FramedInput R) (total now place : ℕ) (rest : List ℕ) (before after : PieceContents)
    → old.long ≡ Some (Line total) → FindsLineFeed old.rest (Some place) → now ≡ min (total + place) largest_u32 → rest ≡ drop (place + 1) old.rest → IsForm old.form
    → new ≡ record old { rest = rest; long = None; counts = counted_by old.form old.counts now } → after ≡ record before { contexts = before.contexts ++ given_by old.form old.kept now }
    → Appends remaining old new before after
line_done remaining old new total now place rest before after long found c e lawful is given =
    let made : FramedInput _ = record old { rest = rest; long = None; counts = counted_by old.form old.counts now } in
    let step : Appends remaining old made before after = record {
      given = given_by old.form old.kept now;
      piece_is = given;
      same = refl;
      from = λ part h. line_ends remaining old made total now place long refl found c e refl refl refl lawful refl part h;
    } in
    subst (λ s. Appends remaining old s before after) (sym is) step

pub frame_begun : {R : Type 0} (remaining : R → Option (List ℕ)) (old : FramedInput R) (total missing : ℕ) (rest kept : List ℕ)
    → old.framing ≡ Frames → old.long ≡ None → IsPartial old.framing old.form.len old.rest → length old.rest ≡ 131072 → take 4 old.rest ≡ to_le_bytes w32 total → total < 2 ^ 32 → IsForm old.form
    → kept ≡ take old.form.len (drop 4 old.rest) → missing ≡ total - (length old.rest - 4) → rest ≡ []
    → GivesNone remaining old (record old { rest = rest; long = Some (Frame total missing); kept = kept })
frame_begun remaining old total missing rest kept frames short partial full e small lawful k m r =
    let new : FramedInput _ = record old { rest = rest; long = Some (Frame total missing); kept = kept } in
    let P : Framing → Type 0 = λ f. IsPartial f old.form.len old.rest in
    let L : Framing → Type 0 = λ f. IsLongPart f old.form.len kept [] (Frame total (total - (length old.rest - 4))) old.rest in
    let long : IsLongPart old.framing old.form.len kept rest (Frame total missing) old.rest =
    subst (λ x. IsLongPart old.framing old.form.len kept x (Frame total missing) old.rest) (sym r)
    (subst (λ n. IsLongPart old.framing old.form.len kept [] (Frame total n) old.rest) (sym m)
    (subst L (sym frames) (frame_begins old.form.len kept old.rest total (subst P frames partial) full e small (len_small old.form lawful) k))) in
    let is : (part : List ℕ) → IsPart old part → IsPart new part = λ part h.
    subst (IsLongPart old.framing old.form.len kept rest (Frame total missing)) (sym (part_short old.long old.framing old.form.len old.kept old.rest part short h)) long in
    record { same = refl; from = λ part h. stays_on remaining old new part (is part h) refl refl refl refl }

pub line_begun : {R : Type 0} (remaining : R → Option (List ℕ)) (old : FramedInput R) (total : ℕ) (rest kept : List ℕ)
    → old.framing ≡ Lines → old.long ≡ None → IsPartial old.framing old.form.len old.rest → length old.rest ≡ 131072 → IsForm old.form
    → kept ≡ take old.form.len old.rest → total ≡ length old.rest → rest ≡ []
    → GivesNone remaining old (record old { rest = rest; long = Some (Line total); kept = kept })
line_begun remaining old total rest kept lines short partial full lawful k t r =
    let new : FramedInput _ = record old { rest = rest; long = Some (Line total); kept = kept } in
    let P : Framing → Type 0 = λ f. IsPartial f old.form.len old.rest in
    let L : Framing → Type 0 = λ f. IsLongPart f old.form.len kept [] (Line (length old.rest)) old.rest in
    let long : IsLongPart old.framing old.form.len kept rest (Line total) old.rest =
    subst (λ x. IsLongPart old.framing old.form.len kept x (Line total) old.rest) (sym r)
    (subst (λ n. IsLongPart old.framing old.form.len kept [] (Line n) old.rest) (sym t)
    (subst L (sym lines) (line_begins old.form.len kept old.rest (subst P lines partial) full (len_small old.form lawful) k))) in
    let is : (part : List ℕ) → IsPart old part → IsPart new part = λ part h.
    subst (IsLongPart old.framing old.form.len kept rest (Line total)) (sym (part_short old.long old.framing old.form.len old.kept old.rest part short h)) long in
    record { same = refl; from = λ part h. stays_on remaining old new part (is part h) refl refl refl refl }

-- a full window always holds a whole context of a fixed length
pub fixed_fits : (framing : Framing) (form : Form) (bytes : List ℕ) → framing ≡ Fixed → IsForm form → IsPartial framing form.len bytes → length bytes ≡ 131072 → ⊥
fixed_fits framing form bytes fixed lawful partial full =
    let P : Framing → Type 0 = λ f. IsPartial f form.len bytes in
    let less : length bytes < form.len = subst P fixed partial in
    let small = len_small form lawful in
    omega arith

pub reads_on : {R : Type 0} (remaining : R → Option (List ℕ)) (old : FramedInput R) (reader : R) (rest bytes : List ℕ)
    → Consumes (remaining old.reader) (remaining reader) bytes → rest ≡ old.rest ++ bytes → GivesNone remaining old (record old { reader = reader; rest = rest })
reads_on remaining old reader rest bytes consumed e =
    let new : FramedInput _ = record old { reader = reader; rest = rest } in
    let is : (part : List ℕ) → IsPart old part → IsPart new (part ++ bytes) = λ part h.
    subst (λ r. PartOf old.long old.framing old.form.len old.kept r (part ++ bytes)) (sym e) (part_grows old.long old.framing old.form.len old.kept old.rest part bytes h) in
    record { same = refl; from = λ part h. kept_on remaining old new part bytes (is part h) consumed refl refl (λ n. sym (counts_none old.form old.counts n)) }

-- ---- the end

pub last_line : {R : Type 0} (remaining : R → Option (List ℕ)) (old : FramedInput R) (rest front : List ℕ) (total : ℕ) (counts : ContextCounts) (before after : PieceContents)
    → old.long ≡ None → old.framing ≡ Lines → IsPartial old.framing old.form.len old.rest → old.rest ≢ [] → length old.rest ≤ 131072 → IsForm old.form
    → front ≡ old.rest → total ≡ length old.rest → rest ≡ [] → counts ≡ counted_by old.form old.counts total → after ≡ record before { contexts = before.contexts ++ given_by old.form front total }
    → Appends remaining old (record old { rest = rest; counts = counts; over = true }) before after
last_line remaining old rest front total counts before after short lines partial some small lawful f t r counted given =
    let new : FramedInput _ = record old { rest = rest; counts = counts; over = true } in
    let P : Framing → Type 0 = λ f. IsPartial f old.form.len old.rest in
    let known : IsKnownBy old.form.len old.rest front total = record { front_is = ap (take old.form.len) f; total_is = omega arith } in
    record {
      given = given_by old.form front total;
      piece_is = given;
      same = refl;
      from = λ part h. took_last remaining old new old.rest (given_by old.form front total) part short r lines refl (subst P lines partial) some
          (part_short old.long old.framing old.form.len old.kept old.rest part short h) refl refl refl (given_known old.form old.rest front total lawful known) (λ _. counted ∙ counted_known old.form old.rest front old.counts total lawful known);
    }

pub line_last : {R : Type 0} (remaining : R → Option (List ℕ)) (old new : FramedInput R) (total : ℕ) (before after : PieceContents)
    → old.long ≡ Some (Line total) → old.rest ≡ [] → IsForm old.form
    → new ≡ record old { long = None; counts = counted_by old.form old.counts total; over = true } → after ≡ record before { contexts = before.contexts ++ given_by old.form old.kept total }
    → Appends remaining old new before after
line_last remaining old new total before after long none lawful is given =
    let made : FramedInput _ = record old { long = None; counts = counted_by old.form old.counts total; over = true } in
    let step : Appends remaining old made before after = record {
      given = given_by old.form old.kept total;
      piece_is = given;
      same = refl;
      from = λ part h. line_is_last remaining old made total long none refl none refl refl refl refl lawful refl part h;
    } in
    subst (λ s. Appends remaining old s before after) (sym is) step

pub partial_long : {R : Type 0} (s : FramedInput R) (l : Long) → s.long ≡ Some l → IsPartialSource s → s.rest ≡ []
partial_long s l e h = let P : Option Long → Type 0 = λ o. MatchOption o (IsPartial s.framing s.form.len s.rest) (λ _. s.rest ≡ []) in subst P e h

pub partial_short : {R : Type 0} (s : FramedInput R) → s.long ≡ None → IsPartialSource s → IsPartial s.framing s.form.len s.rest
partial_short s e h = let P : Option Long → Type 0 = λ o. MatchOption o (IsPartial s.framing s.form.len s.rest) (λ _. s.rest ≡ []) in subst P e h

pub full_short : (long : Option Long) (framing : Framing) (len : ℕ) (rest : List ℕ) → MatchOption long (IsPartial framing len rest) (λ _. rest ≡ []) → length rest ≡ 131072 → (long ≡ None) × IsPartial framing len rest
full_short None framing len rest h full = (refl, h)
full_short (Some l) framing len rest h full = let z = ap length h in absurd (omega arith)

pub short_is_cut : {R : Type 0} (s : FramedInput R) → s.long ≡ None → s.rest ≢ [] → IsPartial s.framing s.form.len s.rest → (part : List ℕ) → IsPart s part → (part ≢ []) × IsPartial s.framing s.form.len part
short_is_cut s short some partial part h =
    let e = part_short s.long s.framing s.form.len s.kept s.rest part short h in
    ((λ z. some (sym e ∙ z)), subst (IsPartial s.framing s.form.len) (sym e) partial)

pub long_is_cut : {R : Type 0} (s : FramedInput R) (total missing : ℕ) → s.long ≡ Some (Frame total missing) → s.rest ≡ [] → (part : List ℕ) → IsPart s part → (part ≢ []) × IsPartial s.framing s.form.len part
long_is_cut s total missing long none part h = frame_is_cut s.framing s.form.len s.kept s.rest part total missing none (part_long s.long (Frame total missing) s.framing s.form.len s.kept s.rest part long h)

-- ---- room, and the empty piece

pub empty_room : (p : PieceContents) (form : Form) → IsForm form → p.ctx_len ≡ form_len form → p.contexts ≡ [] → length p.contexts < room_for p.ctx_len
empty_room p form lawful size empty =
    let some : 0 < room_for p.ctx_len = room_some p.ctx_len (omega arith) in
    rw empty some
