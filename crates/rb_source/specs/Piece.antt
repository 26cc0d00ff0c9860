-- A piece: whole contexts of one length, in the order of their arrival (own).
use Rattle.std.specs.Prelude.{ℕ, ◌/◌, max, List, []}

-- the contents of a piece: its contexts, and the length of each
pub record PieceContents : Type 0 where
  pub contexts : List (List ℕ)
  pub ctx_len : ℕ

-- the maximal number of contexts of this length in a piece: as many as fit into 64 KiB, and as many empty ones as there
-- are bytes
abbrev pub room_for : ℕ → ℕ
room_for ctx_len = 65536 / max 1 ctx_len

-- a piece without contexts
abbrev pub empty_piece : ℕ → PieceContents
empty_piece ctx_len = record { contexts = []; ctx_len = ctx_len }
