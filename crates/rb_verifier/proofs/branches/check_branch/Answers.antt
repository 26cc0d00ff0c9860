use Rattle.std.proofs.Common.{◌≡◌, ap, sym, ◌∙◌, rules, Some, Ok}
use Rattle.rb_verifier.specs.declared.branches.NullTest.TheVariants.{JumpsIfNull, JumpsIfThere}
use Rattle.rb_verifier.specs.declared.value.Abs.TheVariants.{Perhaps}
use Rattle.rb_verifier.specs.Branches.{check_branch}
use Rattle.rb_verifier.specs.ReferenceChanges.{null_state, there_state}
use Rattle.rb_verifier.proofs.branches.check_branch.Goals as goal

pub returns-in-JumpsIfNull-clause-effect : goal.returns-in-JumpsIfNull-clause-effect
returns-in-JumpsIfNull-clause-effect c =
    let id = c.in-Some-Perhaps.id in
    let test : c.args.test ≡ Some JumpsIfNull = search rules in
    let dst : c.args.dst ≡ Perhaps id = search rules in
    let there : c.in_ok-there.there ≡ there_state id c.args.state.now = c.in_ok-there.ensures.changed in
    let null : c.in_ok-null.null ≡ null_state id c.args.state.now = c.in_ok-null.ensures.changed in
    ap (λ t. check_branch t c.args.dst c.args.operand c.args.state.now) test ∙ ap (λ v. check_branch (Some JumpsIfNull) v c.args.operand c.args.state.now) dst
    ∙ ap (λ s. Ok (record { next = s; jump = null_state id c.args.state.now })) (sym there) ∙ ap (λ s. Ok (record { next = c.in_ok-there.there; jump = s })) (sym null)

pub returns-in-JumpsIfThere-clause-effect : goal.returns-in-JumpsIfThere-clause-effect
returns-in-JumpsIfThere-clause-effect c =
    let id = c.in-Some-Perhaps.id in
    let test : c.args.test ≡ Some JumpsIfThere = search rules in
    let dst : c.args.dst ≡ Perhaps id = search rules in
    let there : c.in_ok-there.there ≡ there_state id c.args.state.now = c.in_ok-there.ensures.changed in
    let null : c.in_ok-null.null ≡ null_state id c.args.state.now = c.in_ok-null.ensures.changed in
    ap (λ t. check_branch t c.args.dst c.args.operand c.args.state.now) test ∙ ap (λ v. check_branch (Some JumpsIfThere) v c.args.operand c.args.state.now) dst
    ∙ ap (λ s. Ok (record { next = null_state id c.args.state.now; jump = s })) (sym there) ∙ ap (λ s. Ok (record { next = s; jump = c.in_ok-there.there })) (sym null)
