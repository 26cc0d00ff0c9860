use Rattle.std.proofs.Common.{Some, sym, ap, ◌∙◌, subst, refl}
use Rattle.rb_verifier.specs.declared.helper.Helper.TheVariants as helper
use Rattle.rb_semantics.specs.ProgramStates.{State, register}
use Rattle.rb_semantics.specs.HelperCalls.{Submit, Discard, call_of_helper}
use Rattle.rb_interp.specs.declared.request.Request.TheVariants as request
use Rattle.rb_interp.specs.inner.PendingRequests.{IsCalled, IsSmall}
use Rattle.rb_interp.specs.ShownState.{state_of}
use Rattle.rb_interp.proofs.Giving.{same_giving}
use Rattle.rb_interp.proofs.cpu.Cpu.call.Goals as goal

pub give_back-owned-requires-in-Discard : goal.give_back-owned-requires-in-Discard
give_back-owned-requires-in-Discard g c none =
    let s : State = state_of g.R.Lent.bytes_of g.C.Context.shown c.args.self.now in
    let small : IsSmall (call_of_helper (Some helper.Discard) s) = subst (λ h. IsSmall (call_of_helper (Some h) s)) c.in-Discard.is c.requires.small in
    subst IsSmall (same_giving Submit Discard (register s 1) (register s 2) s none) small

pub returns-in-Submit-clause-called : goal.returns-in-Submit-clause-called
returns-in-Submit-clause-called g c =
    let B = g.R.Lent.bytes_of in
    let S = g.C.Context.shown in
    let s : State = state_of B S c.args.self.now in
    let h = c.give_back-owned.ensures in
    subst (λ o. IsCalled B S o c.args.self.now.memory.records (request.Submit c.give_back-owned.result.0 c.give_back-owned.result.1) c.give_back-owned.new.self)
    (sym (ap (λ k. call_of_helper (Some k) s) c.in-Submit.is ∙ h.3 Submit)) (refl, (h.0, h.1, refl), h.2)

pub returns-in-Discard-clause-called : goal.returns-in-Discard-clause-called
returns-in-Discard-clause-called g c =
    let B = g.R.Lent.bytes_of in
    let S = g.C.Context.shown in
    let s : State = state_of B S c.args.self.now in
    let h = c.give_back-owned-in-Discard.ensures in
    subst (λ o. IsCalled B S o c.args.self.now.memory.records (request.Discard c.give_back-owned-in-Discard.result.0 c.give_back-owned-in-Discard.result.1) c.give_back-owned-in-Discard.new.self)
    (sym (ap (λ k. call_of_helper (Some k) s) c.in-Discard.is ∙ h.3 Discard)) (refl, (h.0, h.1, refl), h.2)
