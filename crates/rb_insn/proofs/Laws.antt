-- The laws of the encoding.
use Rattle.std.proofs.Common.{◌≡◌, ℕ, ◌*◌, ◌≤◌, ◌⊎◌, inl, inr, List, [], ◌∷◌, ◌++◌, length, refl, sym, ap, ◌∙◌, append_assoc, arith}
use Rattle.std.specs.List.{flat_map, AllByRecursion}
use Rattle.std.proofs.lemmas.List.{append-nil, append_cancel_left, length-append}
use Rattle.std.proofs.lemmas.List.Concat.{flat_map-cons}
use Rattle.std.proofs.lemmas.Grind.{flat_map-append}
use Rattle.rb_insn.specs.declared.insn.Insn.{Insn}
use Rattle.rb_insn.specs.declared.insn.Insn.TheVariants.{Binary, Division, Move, Branch, LoadNumber, LoadRing}
use Rattle.rb_insn.specs.declared.insn.Operand.TheVariants.{Immediate, Register}
use Rattle.rb_insn.specs.Units.{units_taken}
use Rattle.rb_insn.specs.Spelling.{spelling, FieldsFit, SpellingsFillUnits, NoSpellingBeginsAnother, OneListSpells}
use Rattle.rb_insn.proofs.Rows.{read, read-spelling}

-- ---- lengths

pub length-spelling : (insn : Insn) → length (spelling insn) ≡ 8 * units_taken insn
length-spelling (Binary w op dst (Immediate v)) = refl
length-spelling (Binary w op dst (Register src)) = refl
length-spelling (Division w op sign dst (Immediate v)) = refl
length-spelling (Division w op sign dst (Register src)) = refl
length-spelling (Move w dst (Immediate v)) = refl
length-spelling (Move w dst (Register src)) = refl
length-spelling (Branch w c dst (Immediate v) distance) = refl
length-spelling (Branch w c dst (Register src) distance) = refl
length-spelling insn = refl

pub spellings_fill_units : SpellingsFillUnits
spellings_fill_units insn bytes s = ap length s.bytes_are ∙ length-spelling insn

pub length-spelling-bound : (insn : Insn) → 8 ≤ length (spelling insn)
length-spelling-bound (LoadNumber dst value) = omega arith
length-spelling-bound (LoadRing dst ring) = omega arith
length-spelling-bound insn = omega (arith, length-spelling insn)

-- ---- one encoding

-- instructions whose encodings start the same bytes are equal
pub spelling-first : (a b : Insn) (p q : List ℕ) → FieldsFit a → FieldsFit b → spelling a ++ p ≡ spelling b ++ q → a ≡ b
spelling-first a b p q fa fb e = sym (read-spelling a p fa) ∙ ap read e ∙ read-spelling b q fb

pub no_spelling_begins_another : NoSpellingBeginsAnother
no_spelling_begins_another a b s t p q sa tb e =
    let whole : spelling a ++ p ≡ spelling b ++ q = ap (λ (x : List ℕ). x ++ p) (sym sa.bytes_are) ∙ e ∙ ap (λ (x : List ℕ). x ++ q) tb.bytes_are in
    let same : a ≡ b = spelling-first a b p q sa.fits tb.fits whole in
    (same, sa.bytes_are ∙ ap spelling same ∙ sym tb.bytes_are)

-- ---- lists of instructions

-- If the encodings of two lists start the same bytes, one list is a prefix of the other.
pub fronts : (a b : List Insn) (p q : List ℕ) → AllByRecursion FieldsFit a → AllByRecursion FieldsFit b → flat_map spelling a ++ p ≡ flat_map spelling b ++ q
    → ((c : List Insn) × (b ≡ a ++ c)) ⊎ ((c : List Insn) × (a ≡ b ++ c))
fronts [] b p q fa fb e = inl (b, refl)
fronts (x ∷ xs) [] p q fa fb e = inr (x ∷ xs, refl)
fronts (x ∷ xs) (y ∷ ys) p q fa fb e =
    let left : flat_map spelling (x ∷ xs) ++ p ≡ spelling x ++ (flat_map spelling xs ++ p) = ap (λ (l : List ℕ). l ++ p) (flat_map-cons spelling x xs) ∙ append_assoc (spelling x) (flat_map spelling xs) p in
    let right : flat_map spelling (y ∷ ys) ++ q ≡ spelling y ++ (flat_map spelling ys ++ q) = ap (λ (l : List ℕ). l ++ q) (flat_map-cons spelling y ys) ∙ append_assoc (spelling y) (flat_map spelling ys) q in
    let both : spelling x ++ (flat_map spelling xs ++ p) ≡ spelling y ++ (flat_map spelling ys ++ q) = sym left ∙ e ∙ right in
    let same : x ≡ y = spelling-first x y (flat_map spelling xs ++ p) (flat_map spelling ys ++ q) fa.0 fb.0 both in
    let rest : flat_map spelling xs ++ p ≡ flat_map spelling ys ++ q = append_cancel_left (spelling y) _ _ (ap (λ (i : Insn). spelling i ++ (flat_map spelling xs ++ p)) (sym same) ∙ both) in
    elim (fronts xs ys p q fa.1 fb.1 rest) [
      | inl f ↦ inl (f.0, ap (λ (l : List Insn). y ∷ l) f.1 ∙ ap (λ (i : Insn). i ∷ (xs ++ f.0)) (sym same))
      | inr f ↦ inr (f.0, ap (λ (l : List Insn). x ∷ l) f.1 ∙ ap (λ (i : Insn). i ∷ (ys ++ f.0)) same)
    ]

-- an instruction list with an empty encoding is empty
pub no_bytes : (a : List Insn) → flat_map spelling a ≡ [] → a ≡ []
no_bytes [] e = refl
no_bytes (x ∷ xs) e =
    absurd (omega (arith, length-spelling-bound x, length-append (spelling x) (flat_map spelling xs), ap length (sym (flat_map-cons spelling x xs) ∙ e)))

-- an extension of a list that adds no byte adds no instruction
no_more : (a c : List Insn) → flat_map spelling a ≡ flat_map spelling (a ++ c) → c ≡ []
no_more a c e = no_bytes c (sym (append_cancel_left (flat_map spelling a) [] (flat_map spelling c) (append-nil (flat_map spelling a) ∙ e ∙ flat_map-append spelling a c)))

extended : (a b c : List Insn) → b ≡ a ++ c → flat_map spelling a ≡ flat_map spelling b → a ≡ b
extended a b c e same = sym (e ∙ ap (λ (l : List Insn). a ++ l) (no_more a c (same ∙ ap (flat_map spelling) e)) ∙ append-nil a)

pub one_list_spells : OneListSpells
one_list_spells a b bytes sa sb =
    let same : flat_map spelling a ≡ flat_map spelling b = sym sa.bytes_are ∙ sb.bytes_are in
    let ended : flat_map spelling a ++ [] ≡ flat_map spelling b ++ [] = ap (λ (l : List ℕ). l ++ []) same in
    elim (fronts a b [] [] sa.fit sb.fit ended) [
      | inl f ↦ extended a b f.0 f.1 same
      | inr f ↦ sym (extended b a f.0 f.1 (sym same))
    ]
