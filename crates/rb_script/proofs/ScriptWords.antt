-- The meaning of a line's words.
use Rattle.std.proofs.Common.{◌≡◌, ◌≢◌, ◌==◌, ◌<◌, ◌^◌, ℕ, Bool, true, false, List, [], ◌∷◌, length, get_or, Option, Some, None, MatchOption, Bor, Ok, codes, refl, sym, ap, subst, ◌∙◌, inl, inr, lit<, arith}
use Rattle.std.specs.List.{All, join_with_byte}
use Rattle.std.specs.Int.{IsInRange}
use Rattle.std.proofs.lemmas.Bool.{eqb-true}
use Rattle.std.proofs.lemmas.Bool.Decides.{eqb_tells}
use Rattle.std.proofs.lemmas.List.Elements.{All-get_or, All-from_get_or}
use Rattle.std.proofs.lemmas.List.Splits.{join_with_byte-slice_split, length-slice_split, slice_split_none, slice_split_at}
use Rattle.std.proofs.lemmas.Str.Parse.{digit_at}
use Rattle.std.proofs.lemmas.Str.Pattern.{IsSplitOnceResult, split_parts}
use Rattle.hex.specs.Hex.{decode_of, decode_pairs, is_hex_digit}
use Rattle.hex.proofs.HexLemmas.{decode_of-ok}
use Rattle.rb_chapter_ring.specs.Chapters.{IsChapterRoom}
use Rattle.rb_world.specs.declared.world_setup.RingSetup.{RingSetup}
use Rattle.rb_world.specs.OpenedWorlds.{IsRingSetup}
use Rattle.rb_script.specs.ScriptText.{SpellsNumber, SaysRing, SaysWorker, SaysTurns, SaysOneTurn, words_of}
use Rattle.rb_script.specs.ScriptText.Statement.{RingOf, WorkerOf, TurnsOf}
use Rattle.rb_world.specs.declared.actor.Actor.TheVariants.{Worker, Consumer, Keeper}
use Rattle.rb_script.specs.inner.ScriptRead.{AreNumbersOf, IsWorkerText, SaysNone}
use Rattle.rb_script.proofs.Keywords.{clash}

-- ---- words

abbrev is_space : ℕ → Bool
is_space byte = byte == 32

abbrev NoSpace : List ℕ → Type 0
NoSpace text = All (λ byte. is_space byte ≡ false) text

no-space : (text : List ℕ) → ((i : ℕ) → i < length text → get_or text i 0 ≡ 32 → ⊥) → NoSpace text
no-space text none = All-from_get_or (λ byte. is_space byte ≡ false) text 0 (λ i low. elim (eqb_tells (get_or text i 0) 32) [ inl h ↦ absurd (none i low h.1) | inr h ↦ h.0 ])

one-word : (text : List ℕ) → NoSpace text → words_of text ≡ text ∷ []
one-word text none = slice_split_none is_space text none

word-alone : (text word : List ℕ) → words_of text ≡ word ∷ [] → word ≡ text
word-alone text word e = let joined : join_with_byte 32 (words_of text) ≡ word = ap (join_with_byte 32) e in sym joined ∙ join_with_byte-slice_split 32 text

some-word : (text : List ℕ) → words_of text ≡ [] → ⊥
some-word text e = let none : length (words_of text) ≡ 0 = ap length e in absurd (omega (arith, length-slice_split is_space text))

-- where `split_once` cuts
pub cut : (text : List ℕ) (r : Option (Bor (List ℕ) × Bor (List ℕ))) → IsSplitOnceResult 32 text r
    → MatchOption r (words_of text ≡ text ∷ []) (λ x. words_of text ≡ x.0.now ∷ words_of x.1.now)
cut text None h = one-word text (no-space text (split_parts 32 text None h (lit< tt)))
cut text (Some x) h =
    let parts = split_parts 32 text (Some x) h (lit< tt) in
    ap words_of parts.0 ∙ slice_split_at is_space x.0.now 32 x.1.now (no-space x.0.now parts.1) refl

digits-word : (text : List ℕ) (n : ℕ) → SpellsNumber text n → words_of text ≡ text ∷ []
digits-word text n h = one-word text (no-space text (λ i low e. let digit : IsInRange 48 57 (get_or text i 0) = digit_at text i h.digits.1 low in absurd (omega arith)))

hex-word : (text bytes : List ℕ) → decode_of text ≡ Ok bytes → words_of text ≡ text ∷ []
hex-word text bytes h =
    let digits = decode_of-ok text bytes h in
    one-word text (no-space text (λ i low e.
    let digit : is_hex_digit (get_or text i 0) ≡ true = All-get_or (λ c. is_hex_digit c ≡ true) text i 0 low digits.1 in
    let space : is_hex_digit 32 ≡ true = subst (λ c. is_hex_digit c ≡ true) e digit in
    absurd (let different : false ≡ true = space in cc)))

-- ---- numbers

-- the number that the text spells, if it is below the bound
abbrev pub IsReadAs : ℕ → List ℕ → Option ℕ → Type 0
IsReadAs most text r = MatchOption r ((number : ℕ) → SpellsNumber text number → number < most → ⊥) (λ number. SpellsNumber text number)

read-is : (most : ℕ) (text : List ℕ) (r : Option ℕ) → IsReadAs most text r → (n : ℕ) → SpellsNumber text n → n < most → r ≡ Some n
read-is most text None h n spells low = absurd (h n spells low)
read-is most text (Some m) h n spells low = ap Some (sym h.value ∙ spells.value)

read-spells : (most : ℕ) (text : List ℕ) (r : Option ℕ) → IsReadAs most text r → (n : ℕ) → r ≡ Some n → SpellsNumber text n
read-spells most text None h n e = absurd (cc)
read-spells most text (Some m) h n e = let same : m ≡ n = cc in subst (λ k. SpellsNumber text k) same h

-- ---- rings

abbrev pub IsRingResult : List (List ℕ) → Option RingSetup → Type 0
IsRingResult words r =
    MatchOption r ((setup : RingSetup) → SaysRing words setup → IsRingSetup setup → IsChapterRoom setup.room → ⊥) (λ setup. SaysRing words setup × IsRingSetup setup × IsChapterRoom setup.room)

abbrev pub IsSetupResult : (a b d : Option ℕ) → Option RingSetup → Type 0
IsSetupResult a b d r = MatchOption r ((setup : RingSetup) → AreNumbersOf a b d setup → ⊥) (λ setup. AreNumbersOf a b d setup)

pub no-ring : (words : List (List ℕ)) (word : List ℕ) → words ≡ word ∷ [] → (setup : RingSetup) → SaysRing words setup → IsRingSetup setup → IsChapterRoom setup.room → ⊥
no-ring words word e setup says fits room = subst (λ (l : List (List ℕ)). SaysRing l setup) e says

three-words : (size start : List ℕ) (s : RingSetup) (room : List ℕ) (words : List (List ℕ)) → words_of room ≡ words → SaysRing (size ∷ start ∷ words) s
    → SpellsNumber size s.size × SpellsNumber start s.start × SpellsNumber room s.room
three-words size start s room [] e h = absurd (some-word room e)
three-words size start s room (word ∷ []) e h = (h.0, h.1, subst (λ t. SpellsNumber t s.room) (word-alone room word e) h.2)
three-words size start s room (word ∷ next ∷ words) e h = absurd h

module _ (words : List (List ℕ)) (size start : List ℕ) (a b : Option ℕ) (size_read : IsReadAs (2 ^ 64) size a) (start_read : IsReadAs (2 ^ 64) start b) where
  pub ring-of-three : (room : List ℕ) (d : Option ℕ) (r : Option RingSetup) → words ≡ size ∷ start ∷ words_of room → IsReadAs (2 ^ 64) room d → IsSetupResult a b d r → IsRingResult words r
  ring-of-three room d None e room_read h = λ setup says fits room_fits.
      let words_say = three-words size start setup room (words_of room) refl (subst (λ (l : List (List ℕ)). SaysRing l setup) e says) in
      h setup (record {
        size_is = read-is (2 ^ 64) size a size_read setup.size words_say.0 (let most = fits.size.2 in omega arith);
        start_is = read-is (2 ^ 64) start b start_read setup.start words_say.1 (let most = fits.start.1 in omega arith);
        room_is = read-is (2 ^ 64) room d room_read setup.room words_say.2 (let most = room_fits.1 in omega arith);
        setup_fits = fits;
        room_fits = room_fits;
      })
  ring-of-three room d (Some s) e room_read h =
      let last : SpellsNumber room s.room = read-spells (2 ^ 64) room d room_read s.room h.room_is in
      let all : words ≡ size ∷ start ∷ room ∷ [] = e ∙ ap (λ (l : List (List ℕ)). size ∷ start ∷ l) (digits-word room s.room last) in
      (subst (λ (l : List (List ℕ)). SaysRing l s) (sym all) (read-spells (2 ^ 64) size a size_read s.size h.size_is, read-spells (2 ^ 64) start b start_read s.start h.start_is, last), h.setup_fits, h.room_fits)

  pub ring-of-two : (r : Option RingSetup) → words ≡ size ∷ start ∷ [] → IsSetupResult a b (Some 65536) r → IsRingResult words r
  ring-of-two None e h = λ setup says fits room_fits.
      let words_say = subst (λ (l : List (List ℕ)). SaysRing l setup) e says in
      h setup (record {
        size_is = read-is (2 ^ 64) size a size_read setup.size words_say.0 (let most = fits.size.2 in omega arith);
        start_is = read-is (2 ^ 64) start b start_read setup.start words_say.1 (let most = fits.start.1 in omega arith);
        room_is = ap Some (sym words_say.2);
        setup_fits = fits;
        room_fits = room_fits;
      })
  ring-of-two (Some s) e h =
      let room : s.room ≡ 65536 = let same = h.room_is in cc in
      (subst (λ (l : List (List ℕ)). SaysRing l s) (sym e) (read-spells (2 ^ 64) size a size_read s.size h.size_is, read-spells (2 ^ 64) start b start_read s.start h.start_is, room), h.setup_fits, h.room_fits)

-- ---- workers

not-empty : (text : List ℕ) → (length text == 0) ≡ false → text ≡ [] → ⊥
not-empty text h e = let none : false ≡ true = sym h ∙ ap (λ (t : List ℕ). length t == 0) e in absurd (cc)

pub is-empty : (text : List ℕ) → (length text == 0) ≡ true → text ≡ []
is-empty [] h = refl
is-empty (byte ∷ text) h = let none : length (byte ∷ text) ≡ 0 = eqb-true (length (byte ∷ text)) 0 h in absurd (omega arith)

no-context : decode_of [] ≡ Ok []
unfolding decode_pairs
no-context = refl

pub worker-of-one : (words : List (List ℕ)) (program : List ℕ) → words ≡ program ∷ [] → (length program == 0) ≡ false → IsWorkerText words program []
worker-of-one words program e some = record {
  says = λ context decoded.
      let none : context ≡ [] = let both : Ok [] ≡ Ok context = sym no-context ∙ decoded in cc in
      subst (λ (l : List (List ℕ)). SaysWorker l program context) (sym e) (not-empty program some, refl, none);
  only = λ other context says.
      let said = subst (λ (l : List (List ℕ)). SaysWorker l other context) e says in
      (said.1, no-context ∙ ap Ok (sym said.2));
}

two-words : (program other context : List ℕ) (hex : List ℕ) (words : List (List ℕ)) → words_of hex ≡ words → SaysWorker (program ∷ words) other context
    → (program ≢ []) × (other ≡ program) × (hex ≢ []) × (decode_of hex ≡ Ok context)
two-words program other context hex [] e h = absurd (some-word hex e)
two-words program other context hex (word ∷ []) e h =
    subst (λ t. (program ≢ []) × (other ≡ program) × (t ≢ []) × (decode_of t ≡ Ok context)) (word-alone hex word e) h
two-words program other context hex (word ∷ next ∷ words) e h = absurd h

module _ (words : List (List ℕ)) (program hex : List ℕ) (e : words ≡ program ∷ words_of hex) where
  pub worker-of-two : (length program == 0) ≡ false → (length hex == 0) ≡ false → IsWorkerText words program hex
  worker-of-two some some_hex = record {
    says = λ context decoded.
        let all : words ≡ program ∷ hex ∷ [] = e ∙ ap (λ (l : List (List ℕ)). program ∷ l) (hex-word hex context decoded) in
        subst (λ (l : List (List ℕ)). SaysWorker l program context) (sym all) (not-empty program some, refl, not-empty hex some_hex, decoded);
    only = λ other context says.
        let said = two-words program other context hex (words_of hex) refl (subst (λ (l : List (List ℕ)). SaysWorker l other context) e says) in
        (said.1, said.3);
  }

  pub no-hex : (length hex == 0) ≡ true → (other context : List ℕ) → SaysWorker words other context → ⊥
  no-hex none other context says =
      let said = two-words program other context hex (words_of hex) refl (subst (λ (l : List (List ℕ)). SaysWorker l other context) e says) in
      said.2 (is-empty hex none)

-- ---- turns

times-words : (number : List ℕ) (n count : ℕ) (times : List ℕ) (words : List (List ℕ)) → words_of times ≡ words → SaysTurns (number ∷ words) n count → SpellsNumber number n × SpellsNumber times count
times-words number n count times [] e h = absurd (some-word times e)
times-words number n count times (word ∷ []) e h = (h.0, subst (λ t. SpellsNumber t count) (word-alone times word e) h.1)
times-words number n count times (word ∷ next ∷ words) e h = absurd h

abbrev pub SaysNoTurns : List (List ℕ) → Type 0
SaysNoTurns words = (number count : ℕ) → SaysTurns words number count → number < 2 ^ 32 → count < 2 ^ 64 → ⊥

module _ (words : List (List ℕ)) (number : List ℕ) where
  pub turns-of-one : (n : ℕ) → words ≡ number ∷ [] → SpellsNumber number n → SaysTurns words n 1
  turns-of-one n e spells = subst (λ (l : List (List ℕ)). SaysTurns l n 1) (sym e) (spells, refl)

  pub no-turns-of-one : words ≡ number ∷ [] → IsReadAs (2 ^ 32) number None → SaysNoTurns words
  no-turns-of-one e none = λ n count says low few. let said = subst (λ (l : List (List ℕ)). SaysTurns l n count) e says in none n said.0 low

  pub turns-of-two : (times : List ℕ) (n count : ℕ) → words ≡ number ∷ words_of times → SpellsNumber number n → SpellsNumber times count → SaysTurns words n count
  turns-of-two times n count e spells many =
      let all : words ≡ number ∷ times ∷ [] = e ∙ ap (λ (l : List (List ℕ)). number ∷ l) (digits-word times count many) in
      subst (λ (l : List (List ℕ)). SaysTurns l n count) (sym all) (spells, many)

  pub no-turns-of-two : (times : List ℕ) (a b : Option ℕ) → words ≡ number ∷ words_of times → IsReadAs (2 ^ 32) number a → IsReadAs (2 ^ 64) times b → ((n count : ℕ) → a ≡ Some n → b ≡ Some count → ⊥) → SaysNoTurns words
  no-turns-of-two times a b e number_read times_read no_pair = λ n count says low few.
      let said = times-words number n count times (words_of times) refl (subst (λ (l : List (List ℕ)). SaysTurns l n count) e says) in
      no_pair n count (read-is (2 ^ 32) number a number_read n said.0 low) (read-is (2 ^ 64) times b times_read count said.1 few)

-- ---- keepers

one-turn : (n count : ℕ) (number : List ℕ) (words : List (List ℕ)) → words_of number ≡ words → SaysOneTurn words n count → SpellsNumber number n
one-turn n count number [] e h = absurd (some-word number e)
one-turn n count number (word ∷ []) e h = subst (λ t. SpellsNumber t n) (word-alone number word e) h.0
one-turn n count number (word ∷ next ∷ words) e h = absurd h

pub keeper-says : (number : List ℕ) (n : ℕ) → SpellsNumber number n → SaysOneTurn (words_of number) n 1
keeper-says number n spells = subst (λ (l : List (List ℕ)). SaysOneTurn l n 1) (sym (digits-word number n spells)) (spells, refl)

no-keeper-line : (number : List ℕ) → IsReadAs (2 ^ 32) number None → SaysNone (codes "k" ∷ words_of number)
no-keeper-line number none (RingOf setup) says bounds numbered = clash (codes "k") (codes "ring") refl says.0
no-keeper-line number none (WorkerOf program context) says bounds numbered = clash (codes "k") (codes "worker") refl says.0
no-keeper-line number none (TurnsOf (Worker w) count) says bounds numbered = clash (codes "k") (codes "w") refl says.0
no-keeper-line number none (TurnsOf (Consumer r) count) says bounds numbered = clash (codes "k") (codes "c") refl says.0
no-keeper-line number none (TurnsOf (Keeper r) count) says bounds numbered = none r (one-turn r count number (words_of number) refl says.1) numbered

pub no-keeper : (word number : List ℕ) → word ≡ codes "k" → IsReadAs (2 ^ 32) number None → SaysNone (word ∷ words_of number)
no-keeper word number e none = subst (λ w. SaysNone (w ∷ words_of number)) (sym e) (no-keeper-line number none)
