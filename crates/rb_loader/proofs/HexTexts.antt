-- The digits that are kept of a text stand for it, and a text that is not hex stands for one with a byte that is
-- neither a digit nor white space.
use Rattle.std.proofs.Common.{◌≡◌, ℕ, inl, inr, true, List, [], ◌++◌, codes, Option, Some, None, append-nil, append_assoc, sym, ap, subst, ◌∙◌, arith}
use Rattle.std.specs.Prelude.{IfSome}
use Rattle.std.specs.Io.KnownBytes.{Consumes, IsAtEnd}
use Rattle.std.proofs.KnownBytes.{Consumes-whole}
use Rattle.std.specs.List.{list_all}
use Rattle.std.specs.Char.{is_ascii_hexdigit}
use Rattle.rb_program.specs.Text.{IsHexOf, without_white_space}
use Rattle.rb_explain.specs.Explanations.{IsNoHex}
use Rattle.rb_loader.specs.StandIn.{SpellsLike, StandsFor}
use Rattle.rb_loader.specs.inner.Digits.{AreManyDigits, KeepsOf, has_odd}
use Rattle.rb_loader.proofs.DigitLists.{digits_stay, digits_hex, hex_digits, hex_length, odd_text}

module _ (text kept : List ℕ) (keeps : KeepsOf text kept) (digits : list_all is_ascii_hexdigit kept ≡ true) where
  stays : without_white_space kept ≡ kept
  stays = digits_stay kept digits

  -- if there are too many digits, both lists encode bytes or neither does
  many_hex : AreManyDigits (without_white_space text) kept → (bytes : List ℕ) → IsHexOf kept bytes → SpellsLike text bytes
  many_hex many bytes h =
      let n = hex_length kept bytes h in
      let e = many.alike in
      let own = digits_hex (without_white_space text) keeps.are_digits (omega (arith, n, e)) in
      let m = hex_length (without_white_space text) own.0 own.1 in
      let a = many.all_many in
      let k = many.kept_many in
      inr (own.0, own.1, record { first = omega (arith, m, a); second = omega (arith, n, k); alike = omega (arith, m, n, e) })

  many_no_hex : AreManyDigits (without_white_space text) kept → IsNoHex kept → IsNoHex text
  many_no_hex many none bytes h =
      let m = hex_length (without_white_space text) bytes h in
      let e = many.alike in
      let own = digits_hex kept digits (omega (arith, m, e)) in
      none own.0 (subst (λ l. IsHexOf l own.0) (sym stays) own.1)

  -- the digits stand for everything that was read
  pub kept_stands : StandsFor text kept
  kept_stands = record {
    no_hex = λ none. elim keeps.kept_are [
      | inl same ↦ λ bytes h. none bytes (subst (λ l. IsHexOf l bytes) (sym (stays ∙ same)) h)
      | inr many ↦ many_no_hex many none
    ];
    hex = λ bytes h.
        let digits_of = subst (λ l. IsHexOf l bytes) stays h in
        elim keeps.kept_are [ inl same ↦ inl (subst (λ l. IsHexOf l bytes) same digits_of) | inr many ↦ many_hex many bytes digits_of ];
  }

-- ---- a byte that is neither a digit nor white space

no_digits : list_all is_ascii_hexdigit (without_white_space (codes "no hex")) ≡ true → ⊥
no_digits all = absurd cc

odd_stands : (before piece rest : List ℕ) → has_odd piece ≡ true → StandsFor (before ++ (piece ++ rest)) (codes "no hex")
odd_stands before piece rest odd = record {
  no_hex = λ _ bytes h. odd_text before piece rest odd (hex_digits (without_white_space (before ++ (piece ++ rest))) bytes h);
  hex = λ bytes h. absurd (no_digits (hex_digits (without_white_space (codes "no hex")) bytes h));
}

-- ---- reading an input

module _ (a b : Option (List ℕ)) (read piece : List ℕ) (text : List ℕ) where
  -- the whole input
  pub whole_input : (digits : List ℕ) → Consumes a b (read ++ piece) → piece ≡ [] → IsAtEnd b → KeepsOf read digits → list_all is_ascii_hexdigit digits ≡ true → text ≡ digits
      → IfSome a (λ unread. StandsFor unread text)
  whole_input digits consumed none end keeps all same =
      let given : Consumes a b read = subst (Consumes a b) (ap (λ l. read ++ l) none ∙ append-nil read) consumed in
      Consumes-whole a b read (λ unread. StandsFor unread text) given end (subst (StandsFor read) (sym same) (kept_stands read digits keeps all))

-- up to a piece with a byte that is neither a digit nor white space
pub odd_input : (a b : Option (List ℕ)) (read piece text : List ℕ) → Consumes a b (read ++ piece) → has_odd piece ≡ true → text ≡ codes "no hex" → IfSome a (λ unread. StandsFor unread text)
odd_input None b read piece text consumed odd same = tt
odd_input (Some unread) None read piece text consumed odd same = absurd consumed
odd_input (Some unread) (Some rest) read piece text consumed odd same =
    subst (λ u. StandsFor u text) (sym (consumed ∙ append_assoc read piece rest)) (subst (StandsFor (read ++ (piece ++ rest))) (sym same) (odd_stands read piece rest odd))
