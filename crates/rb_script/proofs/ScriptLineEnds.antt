-- Where the lines of a text end.
use Rattle.std.proofs.Common.{◌≡◌, ◌<◌, ◌≤◌, ◌+◌, ◌-◌, ◌==◌, ℕ, Bool, false, List, [], ◌∷◌, ◌++◌, length, get_or, take, drop, Some, None, position, refl, sym, ap, subst, ◌∙◌, arith}
use Rattle.std.specs.Prelude.{if◌then◌else◌}
use Rattle.std.specs.List.{onto_first, position_or_len}
use Rattle.std.proofs.lemmas.Bool.{eqb-true}
use Rattle.std.proofs.lemmas.Bool.Decides.{nat_tests}
use Rattle.std.proofs.lemmas.List.{take-append-drop, drop_more, take_rest, drop_all, length-take-le, get_or-take}
use Rattle.std.proofs.lemmas.List.Quantifiers.{position-Some}
use Rattle.std.proofs.lemmas.List.Sums.{fails_before_first}
use Rattle.rb_script.specs.ScriptText.{lines_of}

abbrev is_feed : ℕ → Bool
is_feed byte = byte == 10

abbrev NoFeed : List ℕ → Type 0
NoFeed [] = Unit {0}
NoFeed (byte ∷ text) = (is_feed byte ≡ false) × NoFeed text

no-feed : (text : List ℕ) → ((i : ℕ) → i < length text → is_feed (get_or text i 0) ≡ false) → NoFeed text
no-feed [] h = tt
no-feed (byte ∷ text) h = (h 0 (omega arith), no-feed text (λ i low. h (ℕ.suc i) (omega arith)))

one-byte : (byte : ℕ) (text : List ℕ) (lines : List (List ℕ)) → is_feed byte ≡ false → onto_first byte (lines_of text) ≡ lines → lines_of (byte ∷ text) ≡ lines
one-byte byte text lines other h = subst (λ b. (if b then [] ∷ lines_of text else onto_first byte (lines_of text)) ≡ lines) (sym other) h

lines-first : (line text : List ℕ) → NoFeed line → lines_of (line ++ 10 ∷ text) ≡ line ∷ lines_of text
lines-first [] text none = refl
lines-first (byte ∷ line) text none = one-byte byte (line ++ 10 ∷ text) ((byte ∷ line) ∷ lines_of text) none.0 (ap (onto_first byte) (lines-first line text none.1))

lines-last : (byte : ℕ) (line : List ℕ) → NoFeed (byte ∷ line) → lines_of (byte ∷ line) ≡ (byte ∷ line) ∷ []
lines-last byte [] none = one-byte byte [] ((byte ∷ []) ∷ []) none.0 refl
lines-last byte (next ∷ line) none = one-byte byte (next ∷ line) ((byte ∷ next ∷ line) ∷ []) none.0 (ap (onto_first byte) (lines-last next line none.1))

before-feed : (text : List ℕ) (end : ℕ) → end ≤ length text → ((k : ℕ) → k < end → is_feed (get_or text k 0) ≡ false) → (i : ℕ) → i < length (take end text) → is_feed (get_or (take end text) i 0) ≡ false
before-feed text end within before i inside =
    let long : length (take end text) ≡ end = length-take-le end text within in
    let low : i < end = omega arith in
    ap is_feed (get_or-take end text i 0 low) ∙ before i low

-- the first line ends at the first line feed
pub first-cut : (text : List ℕ) (end : ℕ) → position is_feed text ≡ Some end → lines_of text ≡ take end text ∷ lines_of (take (length text - (end + 1)) (drop (end + 1) text))
first-cut text end found =
    let (low, feed, before) = position-Some is_feed text end 0 found in
    let front : NoFeed (take end text) = no-feed (take end text) (before-feed text end (omega arith) before) in
    let byte : get_or text end 0 ≡ 10 = eqb-true (get_or text end 0) 10 feed in
    let whole : text ≡ take end text ++ 10 ∷ drop (end + 1) text =
    sym (take-append-drop end text) ∙ ap (λ l. take end text ++ l) (drop_more text end 0 low ∙ ap (λ b. b ∷ drop (end + 1) text) byte) in
    ap lines_of whole ∙ (lines-first (take end text) (drop (end + 1) text) front ∙ ap (λ l. take end text ∷ lines_of l) (sym (take_rest text (end + 1))))

none-inside : (text : List ℕ) → position is_feed text ≡ None → (i : ℕ) → i < length text → i < position_or_len is_feed text
none-inside text none i low = grind (arith, nat_tests)

-- a text without a line feed is one line
pub first-all : (text : List ℕ) → 1 ≤ length text → position is_feed text ≡ None → lines_of text ≡ text ∷ lines_of (take (length text - length text) (drop (length text) text))
first-all [] some none = absurd (omega arith)
first-all (byte ∷ line) some none =
    let last = lines-last byte line (no-feed (byte ∷ line) (λ i low. fails_before_first is_feed (byte ∷ line) i 0 (none-inside (byte ∷ line) none i low))) in
    let rest : take (length (byte ∷ line) - length (byte ∷ line)) (drop (length (byte ∷ line)) (byte ∷ line)) ≡ [] = take_rest (byte ∷ line) (length (byte ∷ line)) ∙ drop_all (length (byte ∷ line)) (byte ∷ line) (omega arith) in
    last ∙ ap (λ l. (byte ∷ line) ∷ lines_of l) (sym rest)
