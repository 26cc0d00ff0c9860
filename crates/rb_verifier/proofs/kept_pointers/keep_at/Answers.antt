use Rattle.std.proofs.Common.{◌≡◌, Ok, inr, ap, sym, subst, ◌∙◌}
use Rattle.std.proofs.lemmas.Result.{err_from_is_err_and}
use Rattle.rb_verifier.specs.ValueChecks.{◌>>=◌}
use Rattle.rb_verifier.specs.KeptPointers.{known_in, listed_places, with_place, check_kept}
use Rattle.rb_verifier.specs.inner.StackReach.{IsPlaceOrNone}
use Rattle.rb_verifier.proofs.KeptPlaces.{keeps-pointer}
use Rattle.rb_verifier.proofs.kept_pointers.keep_at.Goals as goal

pub returns-in_err-places-in-Some-clause-placed : goal.returns-in_err-places-in-Some-clause-placed
returns-in_err-places-in-Some-clause-placed c =
    let p = err_from_is_err_and c.from_residual-in_err-places-in-Some.result c.from_residual-in_err-places-in-Some.ensures.1 in
    let place = c.in-Some.place in
    let v = c.args.value in
    let known = known_in c.args.places.now in
    let kept : check_kept c.args.place v known ≡ Ok (listed_places (with_place place v known)) =
    ap (λ at. check_kept at v known) c.in-Some.is ∙ ap (λ r. r >>= (λ _. Ok (listed_places (with_place place v known)))) (sym c.in_ok-check_readable.ensures) in
    rw (p.1, p.2) (inr (listed_places (with_place place v known), kept, keeps-pointer place v known (subst IsPlaceOrNone c.in-Some.is c.requires.place) c.requires.pointer))
