-- The options that `stream` allows, and which refusals follow from the options alone (own).
use Rattle.std.specs.Prelude.{◌≡◌, ◌<◌, ℕ, All, List, length}
use Rattle.std.specs.List.{AllWithin, HoldsAt}
use Rattle.rb_history.specs.RingModel.{IsRingSize, IsWorkerCount}
use Rattle.rb_source.specs.Form.{IsForm}
use Rattle.rb_source.specs.declared.framing.Framing.TheVariants.{Fixed}
use Rattle.rb_service.specs.declared.refusal.StreamRefusal.{StreamRefusal}
use Rattle.rb_service.specs.declared.refusal.StreamRefusal.TheVariants.{Context, Size, Workers}
use Rattle.rb_service.specs.declared.options.NamedRing.{NamedRing}
use Rattle.rb_service.specs.declared.options.StreamOptions.{StreamOptions}

-- contexts have an allowed length, and at least one byte if only their length separates them
pub record HasContexts (options : StreamOptions) : Type 0 where
  pub form : IsForm options.form
  pub some : options.framing ≡ Fixed → 0 < options.form.len

-- no refusal follows from the options alone
pub record IsAllowed (options : StreamOptions) : Type 0 where
  pub contexts : HasContexts options
  pub sizes : All (λ r. IsRingSize r.size) options.rings.items
  pub workers : IsWorkerCount options.workers

-- this is the first ring whose size is wrong
pub record IsWrongFirst (rings : List NamedRing) (ring : NamedRing) : Type 0 where
  pub number : ℕ
  pub below : number < length rings
  pub is : HoldsAt (λ r. r ≡ ring) rings number
  pub wrong : ¬ IsRingSize ring.size
  pub right_before : AllWithin (λ r. IsRingSize r.size) rings 0 number

-- The refusal is right for these options. One that follows from the options alone is the first that applies, and any
-- other is returned only if the options are allowed.
abbrev pub IsRightRefusal : StreamOptions → StreamRefusal → Type 0
IsRightRefusal options Context = ¬ HasContexts options
IsRightRefusal options (Size name) = HasContexts options × ((ring : NamedRing) × IsWrongFirst options.rings.items ring × (ring.name ≡ name))
IsRightRefusal options Workers = HasContexts options × All (λ r. IsRingSize r.size) options.rings.items × ¬ IsWorkerCount options.workers
IsRightRefusal options _ = IsAllowed options

-- the refusal does not follow from the options alone
abbrev pub IsLater : StreamRefusal → Type 0
IsLater Context = ⊥
IsLater (Size name) = ⊥
IsLater Workers = ⊥
IsLater _ = Unit {0}
