-- What a handle to an engine holds (own).
use Rattle.std.specs.Prelude.{◌≡◌, Option, Some, None}
use Rattle.rb_engine.specs.EngineValue.{EngineValue}

-- an engine, or nothing if the handle is closed
abbrev pub MaybeEngine : Type 0
MaybeEngine = Option EngineValue

-- the handle holds an engine, which has this property
abbrev pub OfEngine : (EngineValue → Type 0) → MaybeEngine → Type 0
OfEngine Holds (Some e) = Holds e
OfEngine Holds None = ⊥

-- the handle held an engine and still holds it, and the call had this effect on it
pub record CallsEngine (Did : EngineValue → EngineValue → Type 0) (old new : MaybeEngine) : Type 0 where
  pub before : EngineValue
  pub after : EngineValue
  pub old_is : old ≡ Some before
  pub new_is : new ≡ Some after
  pub did : Did before after
