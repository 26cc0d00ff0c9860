-- The bytes of a stream have a unique list of portions, and a unique rest.
use Rattle.std.proofs.Common.{◌≡◌, ◌≢◌, ℕ, suc, ◌+◌, ◌<◌, ◌≤◌, ◌^◌, true, false, Option, None, Some, List, [], ◌∷◌, ◌++◌, length, take, drop, refl, sym, ap, ◌∙◌, subst, append_assoc, append-nil, take-append-drop, inl, inr, arith}
use Rattle.std.proofs.lemmas.List.{length-append, take-append-le}
use Rattle.std.proofs.lemmas.Nat.{from_le_bytes-to_le_bytes_4}
use Rattle.std.proofs.Math.Seq.{take-append_seam, drop-append_seam}
use Rattle.std.specs.Prelude.{◌⊎◌}
use Rattle.std.specs.Int.{w32, to_le_bytes, from_le_bytes}
use Rattle.std.specs.Io.KnownBytes.{Consumes, IsAtEnd}
use Rattle.rb_source.specs.declared.framing.Framing.{Framing}
use Rattle.rb_source.specs.declared.framing.Framing.TheVariants.{Frames, Fixed, Lines}
use Rattle.rb_source.specs.declared.form.Form.{Form}
use Rattle.rb_source.specs.declared.counts.ContextCounts.{ContextCounts}
use Rattle.rb_source.specs.Agreement.{AgreeOnContexts, GivesAll}
use Rattle.rb_source.specs.Form.{contexts_of, counts_after}
use Rattle.rb_source.specs.Framing.{Portion, ArePortions, HasNoLineFeed, IsPortion, contents, end_length, flush_length, line_feed, portion_bytes, text_of}
use Rattle.rb_source.specs.Framing.Portion.{Content, Flush}
use Rattle.rb_source.specs.Stream.{AreCounts, FramedInput, GivesFrom, IsOver, IsPart, line_of}
use Rattle.rb_source.proofs.Steps.{part_short, short_part}

-- ---- one portion

-- two lists that begin with lists of the same length
split : (a b x y : List ℕ) → length a ≡ length b → a ++ x ≡ b ++ y → (a ≡ b) × (x ≡ y)
split a b x y same e = (
  sym (take-append_seam a x) ∙ ap (λ n. take n (a ++ x)) same ∙ ap (take (length b)) e ∙ take-append_seam b y,
  sym (drop-append_seam a x) ∙ ap (λ n. drop n (a ++ x)) same ∙ ap (drop (length b)) e ∙ drop-append_seam b y,
)

same_number : (m n : ℕ) → m < 2 ^ 32 → n < 2 ^ 32 → to_le_bytes w32 m ≡ to_le_bytes w32 n → m ≡ n
same_number m n hm hn e = sym (from_le_bytes-to_le_bytes_4 m hm) ∙ ap (from_le_bytes w32) e ∙ from_le_bytes-to_le_bytes_4 n hn

-- numbers of four bytes at the front
same_head : (m n : ℕ) (x y : List ℕ) → m < 2 ^ 32 → n < 2 ^ 32 → to_le_bytes w32 m ++ x ≡ to_le_bytes w32 n ++ y → (m ≡ n) × (x ≡ y)
same_head m n x y hm hn e =
    let parts = split (to_le_bytes w32 m) (to_le_bytes w32 n) x y refl e in
    (same_number m n hm hn parts.0, parts.1)

same_frame : (b c x y : List ℕ) → length b < flush_length → length c < flush_length → (to_le_bytes w32 (length b) ++ b) ++ x ≡ (to_le_bytes w32 (length c) ++ c) ++ y → (b ≡ c) × (x ≡ y)
same_frame b c x y hb hc e =
    let heads = same_head (length b) (length c) (b ++ x) (c ++ y) (omega arith) (omega arith) (sym (append_assoc (to_le_bytes w32 (length b)) b x) ∙ e ∙ append_assoc (to_le_bytes w32 (length c)) c y) in
    split b c x y heads.0 heads.1

no_flush : (b x y : List ℕ) → length b < flush_length → (to_le_bytes w32 (length b) ++ b) ++ x ≡ to_le_bytes w32 flush_length ++ y → ⊥
no_flush b x y hb e =
    let heads = same_head (length b) flush_length (b ++ x) y (omega arith) (omega arith) (sym (append_assoc (to_le_bytes w32 (length b)) b x) ∙ e) in
    let same : length b ≡ flush_length = heads.0 in
    omega arith

-- lines end at the first line feed
same_line : (b c x y : List ℕ) → HasNoLineFeed b → HasNoLineFeed c → b ++ line_feed ∷ x ≡ c ++ line_feed ∷ y → (b ≡ c) × (x ≡ y)
same_line [] [] x y hb hc e = (refl, ap (drop 1) e)
same_line [] (z ∷ c) x y hb hc e = absurd (hc.0 (let h : z ≡ line_feed = cc in h))
same_line (z ∷ b) [] x y hb hc e = absurd (hb.0 (let h : z ≡ line_feed = cc in h))
same_line (z ∷ b) (w ∷ c) x y hb hc e =
    let tails : b ++ line_feed ∷ x ≡ c ++ line_feed ∷ y = ap (drop 1) e in
    let first : z ≡ w = cc in
    let rest = same_line b c x y hb.1 hc.1 tails in
    (let front : b ≡ c = rest.0 in cc, rest.1)

line_parts : (b x : List ℕ) → (b ++ line_feed ∷ []) ++ x ≡ b ++ line_feed ∷ x
line_parts b x = append_assoc b (line_feed ∷ []) x

-- bytes begin with at most one portion
same_first : (framing : Framing) (len : ℕ) (p q : Portion) (x y : List ℕ) → IsPortion framing len p → IsPortion framing len q
    → portion_bytes framing p ++ x ≡ portion_bytes framing q ++ y → (p ≡ q) × (x ≡ y)
same_first Frames len (Content b) (Content c) x y hp hq e = let s = same_frame b c x y hp hq e in (ap Content s.0, s.1)
same_first Frames len (Content b) Flush x y hp hq e = absurd (no_flush b x y hp e)
same_first Frames len Flush (Content c) x y hp hq e = absurd (no_flush c y x hq (sym e))
same_first Frames len Flush Flush x y hp hq e = (refl, (split (to_le_bytes w32 flush_length) (to_le_bytes w32 flush_length) x y refl e).1)
same_first Fixed len (Content b) (Content c) x y hp hq e = let s = split b c x y (hp ∙ sym hq) e in (ap Content s.0, s.1)
same_first Fixed len (Content b) Flush x y hp hq e = absurd hq
same_first Fixed len Flush q x y hp hq e = absurd hp
same_first Lines len (Content b) (Content c) x y hp hq e =
    let s = same_line b c x y hp hq (sym (line_parts b x) ∙ e ∙ line_parts c y) in (ap Content s.0, s.1)
same_first Lines len (Content b) Flush x y hp hq e = absurd hq
same_first Lines len Flush q x y hp hq e = absurd hp

-- ---- all portions

-- the bytes begin with no portion
abbrev pub HasNone : Framing → ℕ → List ℕ → Type 0
HasNone framing len r = (p : Portion) (x : List ℕ) → IsPortion framing len p → r ≡ portion_bytes framing p ++ x → ⊥

same_portions : (framing : Framing) (len : ℕ) (ps qs : List Portion) (r s : List ℕ) → ArePortions framing len ps → ArePortions framing len qs → HasNone framing len r → HasNone framing len s
    → text_of framing ps ++ r ≡ text_of framing qs ++ s → (ps ≡ qs) × (r ≡ s)
same_portions framing len [] [] r s hp hq nr ns e = (refl, e)
same_portions framing len [] (q ∷ qs) r s hp hq nr ns e = absurd (nr q (text_of framing qs ++ s) hq.0 (e ∙ append_assoc (portion_bytes framing q) (text_of framing qs) s))
same_portions framing len (p ∷ ps) [] r s hp hq nr ns e = absurd (ns p (text_of framing ps ++ r) hp.0 (sym e ∙ append_assoc (portion_bytes framing p) (text_of framing ps) r))
same_portions framing len (p ∷ ps) (q ∷ qs) r s hp hq nr ns e =
    let parts = same_first framing len p q (text_of framing ps ++ r) (text_of framing qs ++ s) hp.0 hq.0
    (sym (append_assoc (portion_bytes framing p) (text_of framing ps) r) ∙ e ∙ append_assoc (portion_bytes framing q) (text_of framing qs) s) in
    let rest = same_portions framing len ps qs r s hp.1 hq.1 nr ns parts.1 in
    let first : p ≡ q = parts.0 in
    let others : ps ≡ qs = rest.0 in
    (cc, rest.1)

-- ---- the end of a stream

-- a portion has bytes
some_bytes : (framing : Framing) (len : ℕ) (p : Portion) → (framing ≡ Fixed → 0 < len) → IsPortion framing len p → 0 < length (portion_bytes framing p)
some_bytes Frames len (Content b) some h = let n = length-append (to_le_bytes w32 (length b)) b in let four : length (to_le_bytes w32 (length b)) ≡ 4 = refl in omega arith
some_bytes Frames len Flush some h = let four : length (to_le_bytes w32 flush_length) ≡ 4 = refl in omega arith
some_bytes Fixed len (Content b) some h = let m = some refl in let n : length b ≡ len = h in omega arith
some_bytes Fixed len Flush some h = absurd h
some_bytes Lines len (Content b) some h = let n = length-append b (line_feed ∷ []) in omega arith
some_bytes Lines len Flush some h = absurd h

none_in_nothing : (framing : Framing) (len : ℕ) → (framing ≡ Fixed → 0 < len) → HasNone framing len []
none_in_nothing framing len some p x h e =
    let n = ap length e in
    let m = length-append (portion_bytes framing p) x in
    let k = some_bytes framing len p some h in
    omega arith

feed_inside : (b x : List ℕ) → HasNoLineFeed (b ++ line_feed ∷ x) → ⊥
feed_inside [] x h = h.0 refl
feed_inside (z ∷ b) x h = feed_inside b x h.1

none_in_line : (len : ℕ) (line : List ℕ) → HasNoLineFeed line → HasNone Lines len line
none_in_line len line clean p x h e = go p x h e
  where
    go : (p : Portion) (x : List ℕ) → IsPortion Lines len p → line ≡ portion_bytes Lines p ++ x → ⊥
    go (Content b) x h e = feed_inside b x (subst HasNoLineFeed (e ∙ line_parts b x) clean)
    go Flush x h e = absurd h

none_at_mark : (len : ℕ) (r y : List ℕ) → r ≡ to_le_bytes w32 end_length ++ y → HasNone Frames len r
none_at_mark len r y mark (Content b) x h e =
    let heads = same_head (length b) end_length (b ++ x) y (let s : length b < flush_length = h in omega arith) (omega arith) (sym (append_assoc (to_le_bytes w32 (length b)) b x) ∙ sym e ∙ mark) in
    let same : length b ≡ end_length = heads.0 in
    let s : length b < flush_length = h in
    omega arith
none_at_mark len r y mark Flush x h e =
    let heads = same_head flush_length end_length x y (omega arith) (omega arith) (sym e ∙ mark) in
    let same : flush_length ≡ end_length = heads.0 in
    omega arith

-- ---- from a source that gave all

-- the counts of a new source
abbrev pub zeros : ContextCounts
zeros = record { given = 0; skipped = 0; cut = 0 }

-- the portions of an input up to the end of the stream, the last line, and the bytes after them
pub record Whole (framing : Framing) (form : Form) (input : List ℕ) (contexts : List (List ℕ)) (counts : ContextCounts) : Type 0 where
  pub portions : List Portion
  pub last : List ℕ
  pub rest : List ℕ
  pub portions_are : ArePortions framing form.len portions
  pub text : input ≡ text_of framing portions ++ rest
  pub none : HasNone framing form.len rest
  pub lines : framing ≡ Lines → rest ≡ last
  pub others : last ≢ [] → framing ≡ Lines
  pub contexts_are : contexts ≡ contexts_of form (contents portions ++ line_of last)
  pub counts_are : counts ≡ counts_after form zeros (contents portions ++ line_of last)

no_lines : (framing : Framing) (last : List ℕ) → framing ≢ Lines → (last ≢ [] → framing ≡ Lines) → last ≡ []
no_lines framing [] n h = refl
no_lines framing (b ∷ last) n h = absurd (n (h (λ e. let f : b ∷ last ≡ [] = e in cc)))

frames≢lines : Frames ≢ Lines
frames≢lines e = cc

fixed≢lines : Fixed ≢ Lines
fixed≢lines e = cc

-- two such divisions are equal
same_whole : (framing : Framing) (form : Form) (input : List ℕ) (contexts others : List (List ℕ)) (counts other_counts : ContextCounts)
    → Whole framing form input contexts counts → Whole framing form input others other_counts → (contexts ≡ others) × (counts ≡ other_counts)
same_whole framing form input contexts others counts other_counts one other =
    let parts = same_portions framing form.len one.portions other.portions one.rest other.rest one.portions_are other.portions_are one.none other.none (sym one.text ∙ other.text) in
    let last : one.last ≡ other.last = same_last framing one.last other.last one.rest other.rest one.lines other.lines one.others other.others parts.1 in
    let all : contents one.portions ++ line_of one.last ≡ contents other.portions ++ line_of other.last = ap (λ ps. contents ps ++ line_of one.last) parts.0 ∙ ap (λ l. contents other.portions ++ line_of l) last in
    (one.contexts_are ∙ ap (contexts_of form) all ∙ sym other.contexts_are, one.counts_are ∙ ap (counts_after form zeros) all ∙ sym other.counts_are)
  where
    same_last : (framing : Framing) (last other rest other_rest : List ℕ) → (framing ≡ Lines → rest ≡ last) → (framing ≡ Lines → other_rest ≡ other) → (last ≢ [] → framing ≡ Lines) → (other ≢ [] → framing ≡ Lines)
        → rest ≡ other_rest → last ≡ other
    same_last Frames last other rest other_rest a b c d e = no_lines Frames last frames≢lines c ∙ sym (no_lines Frames other frames≢lines d)
    same_last Fixed last other rest other_rest a b c d e = no_lines Fixed last fixed≢lines c ∙ sym (no_lines Fixed other fixed≢lines d)
    same_last Lines last other rest other_rest a b c d e = sym (a refl) ∙ e ∙ b refl

-- the reader's input is what was read followed by what it still has
read_of : (a b : Option (List ℕ)) (input read : List ℕ) → a ≡ Some input → Consumes a b read → (left : List ℕ) × (b ≡ Some left) × (input ≡ read ++ left)
read_of a None input read e h = let P : Option (List ℕ) → Type 0 = λ o. Consumes o None read in absurd (subst P e h)
read_of a (Some left) input read e h = let P : Option (List ℕ) → Type 0 = λ o. Consumes o (Some left) read in (left, refl, subst P e h)

at_end : (b : Option (List ℕ)) (left : List ℕ) → b ≡ Some left → IsAtEnd b → left ≡ []
at_end b left e h = let P : Option (List ℕ) → Type 0 = λ o. IsAtEnd o in subst P e h

-- the bytes from the end on begin with no portion
none_left : (framing : Framing) (len : ℕ) (last left : List ℕ) → (framing ≡ Fixed → 0 < len) → (last ≢ [] → (framing ≡ Lines) × HasNoLineFeed last) → left ≡ [] → HasNone framing len (last ++ left)
none_left framing len [] left some h e = subst (HasNone framing len) (sym e) (none_in_nothing framing len some)
none_left framing len (b ∷ last) left some h e =
    let is = h (λ n. let f : b ∷ last ≡ [] = n in cc) in
    let whole : (b ∷ last) ++ left ≡ b ∷ last = ap (λ l. (b ∷ last) ++ l) e ∙ append-nil (b ∷ last) in
    subst (λ f. HasNone f len ((b ∷ last) ++ left)) (sym is.0) (subst (HasNone Lines len) (sym whole) (none_in_line len (b ∷ last) is.1))

-- four bytes at the front
front_of : (bytes head : List ℕ) → length head ≡ 4 → take 4 bytes ≡ head → bytes ≡ head ++ drop 4 bytes
front_of bytes head four e = sym (take-append-drop 4 bytes) ∙ ap (λ h. h ++ drop 4 bytes) e

module _ {R : Type 0} (remaining : R → Option (List ℕ)) (framing : Framing) (form : Form) (input : List ℕ) (contexts : List (List ℕ)) (ended : FramedInput R)
    (some : framing ≡ Fixed → 0 < form.len) where
  -- what a new source gave, from the start of the input
  gave_from : (reader : R) (source : FramedInput R) → remaining reader ≡ Some input → source.reader ≡ reader → source.counts ≡ zeros → ended.over ≡ true
      → GivesFrom remaining framing form source [] contexts ended → IsOver remaining ended → Whole framing form input contexts ended.counts
  gave_from reader source has same fresh over gives is_over =
      let begun = read_of (remaining source.reader) (remaining ended.reader) input gives.read (ap remaining same ∙ has) gives.consumed in
      let left : List ℕ = begun.0 in
      let tail : List ℕ = gives.left ++ left in
      let whole : input ≡ text_of framing gives.portions ++ (gives.last ++ tail) =
      begun.2 ∙ ap (λ t. t ++ left) gives.text ∙ append_assoc (text_of framing gives.portions) (gives.last ++ gives.left) left ∙ ap (λ t. text_of framing gives.portions ++ t) (append_assoc gives.last gives.left left) in
      let rest_is : gives.left ≡ ended.rest = part_short ended.long ended.framing ended.form.len ended.kept ended.rest gives.left is_over.short gives.left_is in
      let lines : gives.last ≢ [] → (framing ≡ Lines) × HasNoLineFeed gives.last = λ n. let l = gives.last_is n in (l.0, l.2) in
      let small : AreCounts source.counts = subst AreCounts (sym fresh) (record { given = omega arith; skipped = omega arith; cut = omega arith }) in
      let counted : ended.counts ≡ counts_after form zeros (contents gives.portions ++ line_of gives.last) = gives.counts_are small ∙ ap (λ c. counts_after form c (contents gives.portions ++ line_of gives.last)) fresh in
      elim is_over.ended [
        | inl all ↦
            let none : tail ≡ [] = ap (λ l. l ++ left) (rest_is ∙ all.0) ∙ at_end (remaining ended.reader) left begun.1 all.1 in
            record {
              portions = gives.portions;
              last = gives.last;
              rest = gives.last ++ tail;
              portions_are = gives.portions_are;
              text = whole;
              none = none_left framing form.len gives.last tail some lines none;
              lines = λ _. ap (λ l. gives.last ++ l) none ∙ append-nil gives.last;
              others = λ n. (lines n).0;
              contexts_are = gives.contexts_are;
              counts_are = counted;
            }
        | inr mark ↦
            let frames : framing ≡ Frames = sym gives.framing_same ∙ mark.0 in
            let short : gives.last ≡ [] = no_lines framing gives.last (λ e. frames≢lines (sym frames ∙ e)) (λ n. (lines n).0) in
            let begins : gives.last ++ tail ≡ to_le_bytes w32 end_length ++ (drop 4 ended.rest ++ left) =
            ap (λ l. l ++ tail) short ∙ ap (λ l. l ++ left) (rest_is ∙ front_of ended.rest (to_le_bytes w32 end_length) refl mark.1) ∙ append_assoc (to_le_bytes w32 end_length) (drop 4 ended.rest) left in
            record {
              portions = gives.portions;
              last = gives.last;
              rest = gives.last ++ tail;
              portions_are = gives.portions_are;
              text = whole;
              none = subst (λ f. HasNone f form.len (gives.last ++ tail)) (sym frames) (none_at_mark form.len (gives.last ++ tail) (drop 4 ended.rest ++ left) begins);
              lines = λ e. absurd (frames≢lines (sym frames ∙ e));
              others = λ n. (lines n).0;
              contexts_are = gives.contexts_are;
              counts_are = counted;
            }
      ]

  pub whole_of : GivesAll remaining framing form input contexts ended → Whole framing form input contexts ended.counts
  whole_of all =
      let fresh = all.fresh in
      let nothing = short_part all.source.long all.source.framing all.source.form.len all.source.kept all.source.rest fresh.short in
      let begin : IsPart all.source [] = subst (IsPart all.source) fresh.rest_is nothing in
      let first = all.gave.from [] begin in
      let framed = subst (λ f. GivesFrom remaining f all.source.form all.source [] contexts ended) fresh.framing_is first in
      let formed = subst (λ f. GivesFrom remaining framing f all.source [] contexts ended) fresh.form_is framed in
      gave_from all.reader all.source all.has_input fresh.reader_is fresh.counts_are all.over formed (all.gave.ends fresh.open_yet all.over)

pub agree : {A B : Type 0} (remaining : A → Option (List ℕ)) (other_remaining : B → Option (List ℕ)) → AgreeOnContexts remaining other_remaining
agree remaining other_remaining framing form input contexts other_contexts ended other_ended some one other =
    same_whole framing form input contexts other_contexts ended.counts other_ended.counts (whole_of remaining framing form input contexts ended some one) (whole_of other_remaining framing form input other_contexts other_ended some other)
