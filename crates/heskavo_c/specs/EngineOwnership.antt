-- The memory that a handle to an engine owns (own).
use Rattle.std.specs.Prelude.{◌≡◌, Some, None}
use base.Fml.{Fml, ftrue, fsep, fex}
use denote.RawPtr.{Ptr, block_ptr, null_ptr}
use Rattle.std.specs.Box.Ownership.{box_owns}
use Rattle.std.specs.declared.alloc.Global.{Global}
use Rattle.std.specs.contracts.impls.GlobalAllocator.TheImpl.{ghosts}
use Rattle.rb_engine.specs.EngineValue.{EngineValue}
use Rattle.rb_engine.specs.contracts.engine.Engine.{the_row}
use Rattle.heskavo_c.specs.EngineHandles.{MaybeEngine}

-- a closed handle is null and owns nothing; any other handle owns the engine in its box, and may free it
abbrev pub held_at : Ptr → MaybeEngine → Fml
held_at null_ptr held = fex (held ≡ None) (λ _. ftrue)
held_at (block_ptr b o) held = fex EngineValue (λ e. fsep (fex (held ≡ Some e) (λ _. ftrue)) (fex Global (λ a. box_owns (ghosts.dealloc_token a) the_row (block_ptr b o) e)))
