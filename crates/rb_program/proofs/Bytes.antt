-- The bytes of a unit, from its fields.
use Rattle.std.proofs.Common.{◌≡◌, ℕ, ◌+◌, ◌*◌, ◌/◌, ◌%◌, ◌<◌, ◌≤◌, List, [], ◌∷◌, ◌++◌, length, take, drop, get_or, sym, ap, ◌∙◌, arith}
use Rattle.byteorder.specs.Endian.{little_bytes}
use Rattle.rb_insn.specs.Spelling.{second_unit}
use Rattle.rb_program.specs.UnitFields.{fields_at, next_imm_at}
use Rattle.rb_program.proofs.Building.{unit_of}

abbrev pub IsBytes : List ℕ → Type 0
IsBytes bytes = (i : ℕ) → get_or bytes i 0 < 256

two : (a b : ℕ) → a < 256 → b < 256 → little_bytes 2 (a + 256 * (b + 256 * 0)) ≡ a ∷ b ∷ []
two a b ha hb =
    let first : (a + 256 * (b + 256 * 0)) % 256 ≡ a = omega arith in
    let second : (a + 256 * (b + 256 * 0)) / 256 % 256 ≡ b = omega arith in
    ap (λ (n : ℕ). n ∷ (a + 256 * (b + 256 * 0)) / 256 % 256 ∷ []) first ∙ ap (λ (n : ℕ). a ∷ n ∷ []) second

four : (a b c d : ℕ) → a < 256 → b < 256 → c < 256 → d < 256 → little_bytes 4 (a + 256 * (b + 256 * (c + 256 * (d + 256 * 0)))) ≡ a ∷ b ∷ c ∷ d ∷ []
four a b c d ha hb hc hd =
    let n : ℕ = a + 256 * (b + 256 * (c + 256 * (d + 256 * 0))) in
    let first : n % 256 ≡ a = omega arith in
    let second : n / 256 % 256 ≡ b = omega arith in
    let third : n / 65536 % 256 ≡ c = omega arith in
    let fourth : n / 16777216 % 256 ≡ d = omega arith in
    ap (λ (m : ℕ). m ∷ n / 256 % 256 ∷ n / 65536 % 256 ∷ n / 16777216 % 256 ∷ []) first
    ∙ ap (λ (m : ℕ). a ∷ m ∷ n / 65536 % 256 ∷ n / 16777216 % 256 ∷ []) second
    ∙ ap (λ (m : ℕ). a ∷ b ∷ m ∷ n / 16777216 % 256 ∷ []) third
    ∙ ap (λ (m : ℕ). a ∷ b ∷ c ∷ m ∷ []) fourth

-- the fields read from the front of the bytes encode its first 8 bytes
pub unit_of-fields_at : (bytes : List ℕ) → 8 ≤ length bytes → IsBytes bytes → unit_of (fields_at bytes) ≡ take 8 bytes
unit_of-fields_at (a ∷ b ∷ c ∷ d ∷ e ∷ f ∷ g ∷ h ∷ rest) len fits =
    let registers : b % 16 + 16 * (b / 16) ≡ b = omega arith in
    ap (λ (n : ℕ). a ∷ n ∷ (little_bytes 2 (c + 256 * (d + 256 * 0)) ++ little_bytes 4 (e + 256 * (f + 256 * (g + 256 * (h + 256 * 0)))))) registers
    ∙ ap (λ (l : List ℕ). a ∷ b ∷ (l ++ little_bytes 4 (e + 256 * (f + 256 * (g + 256 * (h + 256 * 0)))))) (two c d (fits 2) (fits 3))
    ∙ ap (λ (l : List ℕ). a ∷ b ∷ c ∷ d ∷ l) (four e f g h (fits 4) (fits 5) (fits 6) (fits 7))
unit_of-fields_at bytes len fits = absurd (omega arith)

-- the next immediate encodes the second unit, if four zero bytes precede it
pub second_unit-next_imm_at : (bytes : List ℕ) → 8 ≤ length bytes → IsBytes (drop 8 bytes)
    → get_or (drop 8 bytes) 0 0 ≡ 0 → get_or (drop 8 bytes) 1 0 ≡ 0 → get_or (drop 8 bytes) 2 0 ≡ 0 → get_or (drop 8 bytes) 3 0 ≡ 0
    → 16 ≤ length bytes → second_unit (next_imm_at bytes) ≡ take 8 (drop 8 bytes)
second_unit-next_imm_at (x0 ∷ x1 ∷ x2 ∷ x3 ∷ x4 ∷ x5 ∷ x6 ∷ x7 ∷ a ∷ b ∷ c ∷ d ∷ e ∷ f ∷ g ∷ h ∷ rest) len fits za zb zc zd long =
    ap (λ (l : List ℕ). 0 ∷ 0 ∷ 0 ∷ 0 ∷ l) (four e f g h (fits 4) (fits 5) (fits 6) (fits 7))
    ∙ ap (λ (n : ℕ). n ∷ 0 ∷ 0 ∷ 0 ∷ e ∷ f ∷ g ∷ h ∷ []) (sym za)
    ∙ ap (λ (n : ℕ). a ∷ n ∷ 0 ∷ 0 ∷ e ∷ f ∷ g ∷ h ∷ []) (sym zb)
    ∙ ap (λ (n : ℕ). a ∷ b ∷ n ∷ 0 ∷ e ∷ f ∷ g ∷ h ∷ []) (sym zc)
    ∙ ap (λ (n : ℕ). a ∷ b ∷ c ∷ n ∷ e ∷ f ∷ g ∷ h ∷ []) (sym zd)
second_unit-next_imm_at bytes len fits za zb zc zd long = absurd (omega arith)
