use Rattle.std.proofs.Common.{◌≡◌, Ok, Err, sym, subst, rules, arith}
use Rattle.std.proofs.lemmas.Grind.{common_steps}
use Rattle.std.proofs.lemmas.Result.{err_from_is_err_and}
use Rattle.rb_verifier.specs.AbstractStates.{IsLeft}
use Rattle.rb_verifier.specs.KeptPointers.{byte_behind, check_stored}
use Rattle.rb_verifier.specs.ValueChecks.{check_inside}
use Rattle.rb_verifier.specs.VerifierChecks.{check_store}
use Rattle.rb_verifier.specs.inner.StackReach.{IsPlaced}
use Rattle.rb_verifier.proofs.Stores.{store_left}
use Rattle.rb_verifier.proofs.verifier_step.check_store.Goals as goal

pub returns-in_err-store_to-clause-effect : goal.returns-in_err-store_to-clause-effect
returns-in_err-store_to-clause-effect c =
    let s = c.args.state.now in
    let f = c.in_err-store_to.field-0.0 in
    let same : c.store_to.new.places ≡ s.places = c.in_err-store_to.ensures.unchanged in
    let inside : check_inside c.args.limits s.held c.value-base.result c.args.offset c.args.len ≡ Ok tt = first_of (search rules, grind (arith, common_steps)) in
    let byte : c.in_ok-byte.byte ≡ byte_behind c.value-base.result c.args.offset = first_of (search rules, grind (arith, common_steps)) in
    let placed : IsPlaced (Err f) s.places (check_stored c.in_ok-byte.byte c.args.len c.args.value s.places) = subst (λ p. IsPlaced (Err f) p (check_stored c.in_ok-byte.byte c.args.len c.args.value s.places)) same c.in_err-store_to.ensures.placed in
    let left : IsLeft (Err f) s (check_store c.args.limits c.args.base c.args.offset c.args.len c.args.value s) = store_left c.args.limits c.args.base c.args.offset c.args.len c.args.value c.value-base.result s c.value-base.ensures c.in_ok-check_tested.ensures c.in_ok-check_not_context.ensures inside c.in_ok-byte.byte byte f placed in
    subst (λ p. IsLeft c.from_residual-in_err-store_to.result (record s { places = p }) (check_store c.args.limits c.args.base c.args.offset c.args.len c.args.value s)) (sym same)
    (let p = err_from_is_err_and c.from_residual-in_err-store_to.result c.from_residual-in_err-store_to.ensures.1 in rw (p.1, p.2) left)
