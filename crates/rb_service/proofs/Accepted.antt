-- Programs that were accepted one after another.
use Rattle.std.proofs.Common.{◌≡◌, ℕ, ◌+◌, List, [], ◌∷◌, ◌++◌, length, min, refl, sym, ap, subst, ◌∙◌, length-append, arith}
use Rattle.rb_loader.specs.Acceptance.{IsAccepted}
use Rattle.rb_verifier.specs.Subject.{Subject}
use Rattle.rb_workers.proofs.Parts.{zip_more}
use Rattle.rb_source.specs.Form.{form_len}
use Rattle.rb_service.specs.PrintedStream.{AreAccepted, AreAcceptedFor}
use Rattle.rb_service.specs.declared.options.StreamOptions.{StreamOptions}

pub none_accepted : (ctx_len rings : ℕ) (programs : List Subject) → programs ≡ [] → AreAccepted 0 ctx_len rings programs
none_accepted ctx_len rings programs none = subst (AreAccepted 0 ctx_len rings) (sym none) (record { texts = []; as_many = refl; accepted = tt })

-- one program more
pub accepted_more : (n ctx_len rings : ℕ) (old mid new : List Subject) (one : Subject) → mid ≡ old → new ≡ mid ++ one ∷ [] → AreAccepted n ctx_len rings old → (text : List ℕ) × IsAccepted text ctx_len rings one → AreAccepted (n + 1) ctx_len rings new
accepted_more n ctx_len rings old mid new one same grown so_far accepted =
    let more : AreAccepted (n + 1) ctx_len rings (old ++ one ∷ []) = record {
      texts = so_far.texts ++ accepted.0 ∷ [];
      as_many = (let e = length-append so_far.texts (accepted.0 ∷ []) in let so = so_far.as_many in omega (arith, e, so));
      accepted = zip_more (λ text program. IsAccepted text ctx_len rings program) so_far.texts old accepted.0 one so_far.accepted accepted.1;
    } in
    subst (AreAccepted (n + 1) ctx_len rings) (sym (grown ∙ ap (λ l. l ++ one ∷ []) same)) more

-- as many as there are files
pub accepted_for : (options : StreamOptions) (n ctx_len rings : ℕ) (programs : List Subject) → n ≡ length options.programs.items → ctx_len ≡ form_len options.form → rings ≡ min (length options.rings.items) 16 → AreAccepted n ctx_len rings programs
    → AreAcceptedFor options programs
accepted_for options n ctx_len rings programs all same known accepted =
    subst (λ r. AreAccepted (length options.programs.items) (form_len options.form) r programs) known (subst (λ l. AreAccepted (length options.programs.items) l rings programs) same (subst (λ m. AreAccepted m ctx_len rings programs) all accepted))
