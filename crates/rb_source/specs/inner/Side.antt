-- Consecutive contexts in memory.
use Rattle.std.specs.Prelude.{ℕ, suc, ◌≡◌, ◌≤◌, ◌*◌, List, [], ◌∷◌, length, take, drop}
use Rattle.rb_source.specs.Piece.{room_for}

-- the first n contexts of the bytes, each of this length
abbrev pub side_by_side : ℕ → ℕ → List ℕ → List (List ℕ)
side_by_side ctx_len ℕ.zero bytes = []
side_by_side ctx_len (suc n) bytes = take ctx_len bytes ∷ side_by_side ctx_len n (drop ctx_len bytes)

-- the memory of a piece
pub record IsPieceMemory (ctx_len room count : ℕ) (bytes : List ℕ) : Type 0 where
  pub fits : ctx_len ≤ 65536
  pub room_is : room ≡ room_for ctx_len
  pub counted : count ≤ room
  pub memory : length bytes ≡ room * ctx_len

-- the memory of a window
pub record IsWindow (at end : ℕ) (room : List ℕ) : Type 0 where
  pub order : at ≤ end
  pub inside : end ≤ length room
  pub memory : length room ≡ 131072
