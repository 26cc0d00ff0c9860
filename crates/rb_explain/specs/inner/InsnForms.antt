-- The forms of instructions by the way their assembly is written: an operation, a move, a load, a store, a jump.
use Rattle.rb_insn.specs.declared.insn.Insn.{Insn}
use Rattle.rb_insn.specs.declared.insn.Insn.TheVariants.{Binary, Division, Negate, Move, MoveExtended32, MoveExtended64, Reorder, Jump, JumpFar, Branch, LoadNumber, LoadRing, Load, LoadSigned, StoreImmediate, StoreRegister}

abbrev pub IsOperation : Insn → Type 0
IsOperation (Binary width op dst operand) = Unit {0}
IsOperation (Division width op sign dst operand) = Unit {0}
IsOperation (Negate width dst) = Unit {0}
IsOperation _ = ⊥

abbrev pub IsMove : Insn → Type 0
IsMove (Move width dst operand) = Unit {0}
IsMove (MoveExtended32 _ _ _) = Unit {0}
IsMove (MoveExtended64 _ _ _) = Unit {0}
IsMove (Reorder order width dst) = Unit {0}
IsMove _ = ⊥

abbrev pub IsLoad : Insn → Type 0
IsLoad (LoadNumber dst value) = Unit {0}
IsLoad (LoadRing dst number) = Unit {0}
IsLoad (Load size dst base offset) = Unit {0}
IsLoad (LoadSigned size dst base offset) = Unit {0}
IsLoad _ = ⊥

abbrev pub IsStore : Insn → Type 0
IsStore (StoreImmediate size base offset value) = Unit {0}
IsStore (StoreRegister size base offset src) = Unit {0}
IsStore _ = ⊥

abbrev pub IsJumpForm : Insn → Type 0
IsJumpForm (Jump distance) = Unit {0}
IsJumpForm (JumpFar distance) = Unit {0}
IsJumpForm (Branch width condition dst operand distance) = Unit {0}
IsJumpForm _ = ⊥
