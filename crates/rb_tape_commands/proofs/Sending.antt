-- What was written, in consecutive parts.
use Rattle.std.proofs.Common.{◌≡◌, ℕ, ◌≤◌, List, ◌++◌, take, drop, sym, ap, ◌∙◌, subst, take-append-drop, true≢false}
use Rattle.std.proofs.Math.Seq.{take-take}
use Rattle.std.specs.Prelude.{Option, Result, Ok, Err, OnErr, is_ok, false}
use Rattle.std.specs.Io.KnownBytes.{Appends}
use Rattle.std.proofs.KnownBytes.{Appends-trans}

-- a prefix of a text was written, and then what follows it up to a further place: so the prefix up to that place was
-- written
pub resumed : (text : List ℕ) (a b c : Option (List ℕ)) (sent more : ℕ) → Appends a b (take sent text) → Appends b c (drop sent (take more text)) → sent ≤ more → Appends a c (take more text)
resumed text a b c sent more first second further =
    let front : take sent text ++ drop sent (take more text) ≡ take more text =
    ap (λ xs. xs ++ drop sent (take more text)) (sym (take-take sent more text further)) ∙ take-append-drop sent (take more text) in
    subst (Appends a c) front (Appends-trans a b c _ _ first second)

-- a property of every error holds for what is not Ok
pub on_not_ok : {A B : Type 0} (answer : Result A B) (P : Type 0) → is_ok answer ≡ false → OnErr answer P → P
on_not_ok (Ok a) P failed holds = absurd (true≢false failed)
on_not_ok (Err e) P failed holds = holds
