-- One more take.
use Rattle.std.proofs.Common.{◌≡◌, ◌≢◌, ℕ, ◌<◌, inl, inr, arith, List, [], ◌∷◌, ◌++◌, length, refl, sym, ap, ◌∙◌, subst, append_assoc, append-nil}
use Rattle.std.proofs.lemmas.List.Prefix.{front_rest}
use Rattle.rb_history.specs.declared.answers.Taken.{Taken}
use Rattle.rb_history.specs.declared.answers.Taken.TheVariants.{Event, Skipped, BusyFront, Empty}
use Rattle.rb_history.specs.RingModel.{Ring}
use Rattle.rb_history.specs.Calls.{Takes, HasBusyFront, AllTaken}
use Rattle.rb_history.specs.ManyTakes.{HasRecord, TakesEach, TakesMany, pushed}

pub each-more : (old mid new : Ring) (ts : List Taken) (t : Taken) → TakesEach old ts mid → Takes mid new t → HasRecord t → TakesEach old (ts ++ t ∷ []) new
each-more old mid new [] t same takes is = (new, subst (λ r. Takes r new t) same takes, is, refl)
each-more old mid new (x ∷ ts) t each takes is = (each.0, each.1, each.2, each-more each.0 mid new ts t each.3 takes is)

pub has-record : (t : Taken) → t ≢ BusyFront → t ≢ Empty → HasRecord t
has-record (Event p w k b) busy empty = tt
has-record (Skipped p n) busy empty = tt
has-record BusyFront busy empty = busy refl
has-record Empty busy empty = empty refl

-- ---- the end of the sequence

pub stops-busy : (n : ℕ) (old mid new : Ring) (ts : List Taken) → TakesEach old ts mid → length ts < n → Takes mid new BusyFront → TakesMany n ts old new
stops-busy n old mid new ts each less found = record {
  each = subst (TakesEach old ts) (sym found.same) each;
  within = omega arith;
  stops = λ _. inl (subst HasBusyFront (sym found.same) found.front);
}

pub stops-empty : (n : ℕ) (old mid new : Ring) (ts : List Taken) → TakesEach old ts mid → length ts < n → Takes mid new Empty → TakesMany n ts old new
stops-empty n old mid new ts each less found = record {
  each = subst (TakesEach old ts) (sym found.same) each;
  within = omega arith;
  stops = λ _. inr (subst AllTaken (sym found.same) found.all_taken);
}

pub takes-all : (n : ℕ) (old new : Ring) (ts : List Taken) → TakesEach old ts new → n ≡ length ts → TakesMany n ts old new
takes-all n old new ts each all = record { each = each; within = omega arith; stops = λ less. absurd (omega arith) }

-- ---- the items that were pushed

-- the items that were pushed are determined by the whole list
pub pushed-are : (before after ts : List Taken) → after ≡ before ++ ts → pushed before after ≡ ts
pushed-are before after ts e = front_rest after before ts e

pub pushed-none : (before : List Taken) → pushed before before ≡ []
pushed-none before = pushed-are before before [] (sym (append-nil before))

pub pushed-more : (before mid after : List Taken) (t : Taken) → mid ≡ before ++ pushed before mid → after ≡ mid ++ t ∷ [] → pushed before after ≡ pushed before mid ++ t ∷ []
pushed-more before mid after t kept e =
    pushed-are before after (pushed before mid ++ t ∷ []) (e ∙ ap (λ x. x ++ t ∷ []) kept ∙ append_assoc before (pushed before mid) (t ∷ []))

pub kept-more : (before mid after : List Taken) (t : Taken) → mid ≡ before ++ pushed before mid → after ≡ mid ++ t ∷ [] → after ≡ before ++ pushed before after
kept-more before mid after t kept e =
    e ∙ ap (λ x. x ++ t ∷ []) kept ∙ append_assoc before (pushed before mid) (t ∷ []) ∙ ap (λ x. before ++ x) (sym (pushed-more before mid after t kept e))
