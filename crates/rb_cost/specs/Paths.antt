-- The paths of a program along its edges, and the maximum of a function.
use Rattle.std.specs.Prelude.{◌≡◌, ℕ, ◌≤◌, List, [], ◌∷◌}
use Rattle.rb_insn.specs.declared.insn.Insn.{Insn}
use Rattle.rb_program.specs.Edges.{Edge, HasEdge}

-- A path: the units of the instructions that are executed one after the other, from the first unit of the program on.
-- Each next unit is the target of an edge of the previous one. The list has the last unit first, so a path grows at its
-- front.
abbrev pub IsPath : List Insn → List ℕ → Type 0
IsPath program [] = ⊥
IsPath program (unit ∷ []) = unit ≡ 0
IsPath program (to ∷ from ∷ before) = ((along : Edge) × HasEdge program from along to) × IsPath program (from ∷ before)

-- the number is the maximum: one element reaches it, and none exceeds it
pub record IsMost {X : Type 0} (A : X → Type 0) (f : X → ℕ) (n : ℕ) : Type 0 where
  pub reached : (x : X) × A x × (f x ≡ n)
  pub most : (x : X) → A x → f x ≤ n
