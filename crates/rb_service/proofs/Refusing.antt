-- Options that are refused by themselves.
use Rattle.std.proofs.Common.{◌≡◌, ℕ, ◌+◌, ◌<◌, List, [], ◌∷◌, ◌++◌, get_or, length, Result, Ok, Err, sym, subst, inl, inr, arith}
use Rattle.std.proofs.lemmas.Bool.{cases_lt}
use Rattle.std.proofs.lemmas.List.Elements.{All-push, All-same}
use Rattle.std.proofs.lemmas.List.{get_or_default}
use Rattle.std.specs.Prelude.{All, IfErr}
use Rattle.std.specs.List.{AllWithin}
use Rattle.rb_history.specs.RingModel.{IsRingSize}
use Rattle.rb_service.specs.Command.{IsAllowed, IsLater, IsRightRefusal, IsWrongFirst}
use Rattle.rb_service.specs.declared.refusal.StreamRefusal.{StreamRefusal}
use Rattle.rb_service.specs.declared.refusal.StreamRefusal.TheVariants.{Context, Size, Workers}
use Rattle.rb_service.specs.declared.options.NamedRing.{NamedRing}
use Rattle.rb_service.specs.declared.options.StreamOptions.{StreamOptions}

-- this ring is the first whose size is wrong
pub wrong_first : (rings : List NamedRing) (n : ℕ) (e : NamedRing) → n < length rings → ¬ IsRingSize (get_or rings n e).size → AllWithin (λ r. IsRingSize r.size) rings 0 n → IsWrongFirst rings (get_or rings n e)
wrong_first rings n e below wrong right = record {
  number = n;
  below = below;
  is = λ d. get_or_default rings n d e below;
  wrong = wrong;
  right_before = right;
}

-- one more size is right
pub one_right : (rings : List NamedRing) (n : ℕ) (e : NamedRing) → n < length rings → IsRingSize (get_or rings n e).size → AllWithin (λ r. IsRingSize r.size) rings 0 n → AllWithin (λ r. IsRingSize r.size) rings 0 (n + 1)
one_right rings n e below right so_far k d low within = elim (cases_lt k n) [
  | inl less ↦ so_far k d low less
  | inr near ↦
      let same : k ≡ n = omega arith in
      subst (λ m. IsRingSize (get_or rings m d).size) (sym same) (subst (λ (r : NamedRing). IsRingSize r.size) (get_or_default rings n e d below) right)
]

-- if the options are allowed, a refusal that does not follow from them alone is right
pub later_right : {A : Type 0} (options : StreamOptions) (answer : Result A StreamRefusal) → IsAllowed options → IfErr answer IsLater → IfErr answer (IsRightRefusal options)
later_right options (Ok a) allowed later = tt
later_right options (Err Context) allowed later = absurd later
later_right options (Err (Size name)) allowed later = absurd later
later_right options (Err Workers) allowed later = absurd later
later_right options (Err _) allowed later = allowed

-- an element more of which this holds
pub all_more : {A : Type 0} (P : A → Type 0) (old mid new : List A) (one : A) → mid ≡ old → new ≡ mid ++ one ∷ [] → All P old → P one → All P new
all_more P old mid new one same grown so_far holds = All-same P new (mid ++ one ∷ []) grown (All-push P mid one (All-same P mid old same so_far) holds)
