-- Bytes begin with at most one header.
use Rattle.std.proofs.Common.{◌≡◌, ℕ, ◌+◌, ◌/◌, ◌%◌, ◌^◌, ◌<◌, Bool, true, false, cond, List, ◌++◌, sym, ap, ◌∙◌, append_assoc, refl, arith}
use Rattle.std.specs.Int.{w32, to_le_bytes}
use Rattle.rb_history.specs.declared.headers.Header.{Header}
use Rattle.rb_history.specs.Header.{length_word}
use Rattle.rb_history.proofs.HeaderLaws.{same_first_word}
use Rattle.rb_tape.specs.TapeFront.{StartsWithHeader}

-- a bit as a number
abbrev bit : Bool → ℕ
bit b = cond b 1 0

-- the contents of a length word: the length, and both bits as numbers
record WordSays (word len : ℕ) (discard busy : Bool) : Type 0 where
  below : word < 2 ^ 32
  len_is : len ≡ word % 2 ^ 30
  discard_is : bit discard ≡ word / 2 ^ 30 % 2
  busy_is : bit busy ≡ word / 2 ^ 31

word_says : (len : ℕ) (discard busy : Bool) → len < 2 ^ 30 → WordSays (len + cond discard (2 ^ 30) 0 + cond busy (2 ^ 31) 0) len discard busy
word_says len true true l = record { below = omega arith; len_is = omega arith; discard_is = omega arith; busy_is = omega arith }
word_says len true false l = record { below = omega arith; len_is = omega arith; discard_is = omega arith; busy_is = omega arith }
word_says len false true l = record { below = omega arith; len_is = omega arith; discard_is = omega arith; busy_is = omega arith }
word_says len false false l = record { below = omega arith; len_is = omega arith; discard_is = omega arith; busy_is = omega arith }

same_bit : (b c : Bool) → bit b ≡ bit c → b ≡ c
same_bit true true e = refl
same_bit true false e = absurd (omega arith)
same_bit false true e = absurd (omega arith)
same_bit false false e = refl

same_parts : (l m p q : ℕ) (b c d e : Bool) → l ≡ m → b ≡ c → d ≡ e → p ≡ q → ◌≡◌ {A = Header} (record { len = l; busy = b; discard = d; page = p }) (record { len = m; busy = c; discard = e; page = q })
same_parts l m p q b c d e hl hb hd hp = cc

-- bytes begin with at most one header
pub same_begin : (bytes : List ℕ) (h k : Header) (b c : List ℕ) → StartsWithHeader bytes h b → StartsWithHeader bytes k c → (h ≡ k) × (b ≡ c)
same_begin bytes h k b c x y =
    let of_h = word_says h.len h.discard h.busy x.fields.len in
    let of_k = word_says k.len k.discard k.busy y.fields.len in
    let page = λ (j : Header). to_le_bytes w32 j.page in
    let text : to_le_bytes w32 (length_word h) ++ (page h ++ b) ≡ to_le_bytes w32 (length_word k) ++ (page k ++ c) =
    sym (append_assoc (to_le_bytes w32 (length_word h)) (page h) b) ∙ (sym x.text ∙ y.text) ∙ append_assoc (to_le_bytes w32 (length_word k)) (page k) c in
    let words = same_first_word (length_word h) (length_word k) (page h ++ b) (page k ++ c) of_h.below of_k.below text in
    let pages = same_first_word h.page k.page b c x.fields.page y.fields.page words.1 in (
      same_parts h.len k.len h.page k.page h.busy k.busy h.discard k.discard
          (of_h.len_is ∙ ap (λ (n : ℕ). n % 2 ^ 30) words.0 ∙ sym of_k.len_is)
          (same_bit h.busy k.busy (of_h.busy_is ∙ ap (λ (n : ℕ). n / 2 ^ 31) words.0 ∙ sym of_k.busy_is))
          (same_bit h.discard k.discard (of_h.discard_is ∙ ap (λ (n : ℕ). n / 2 ^ 30 % 2) words.0 ∙ sym of_k.discard_is))
          pages.0,
      pages.1,
    )
