use Rattle.std.proofs.Common.{◌≡◌, ◌∙◌, ◌+◌, ◌*◌, ℕ, List, get_or, length, refl, subst, sym}
use Rattle.rb_waiting.specs.Faults.{IsFirstTooSmall}
use Rattle.rb_waiting.specs.inner.Sums.{AreLongest, FitsTurns, IsFirstSmall}
use Rattle.rb_waiting.proofs.Sums.{first_too_small, is_longest, no_fault, plan_of, reported_small}
use Rattle.rb_waiting.proofs.plan.plan_turns.Goals as goal

pub returns-in-Ok-limits_of : goal.returns-in-Ok-limits_of
returns-in-Ok-limits_of g c =
    let opened = c.args.opened.now in
    let programs = c.args.programs.now in
    let contexts = c.in-Ok-fit_turns.contexts in
    let limits = c.in-Ok-limits_of.limits in
    let known = c.if-not-all_know.ensures in
    let fits = subst (λ (l : List ℕ). FitsTurns opened l contexts) c.deref.ensures.value c.in-Ok-fit_turns.ensures.fits in
    record {
      planned =
          plan_of opened programs c.in-Ok.sums.items (record { contexts = contexts; limits = limits }) c.in-Ok.ensures.sums fits (known.verified refl) (known.known refl) (sym limits.ok.0 ∙ c.in-Ok-limits_of.ensures.many)
          (λ k d s o below.
          subst (λ (l : List ℕ). get_or limits.items k d + (get_or opened k o).consumer.seen.setup.workers * (contexts * get_or l k s) + 1 ≡ (get_or opened k o).consumer.seen.setup.size) c.deref-2.ensures.value
          (c.in-Ok-limits_of.ensures.limits k d s o below));
      longest = is_longest opened programs c.in-Ok.sums.items contexts c.in-Ok.ensures.sums fits (subst (λ (l : List ℕ). AreLongest opened l (length opened) contexts) c.deref.ensures.value c.in-Ok-fit_turns.ensures.longest);
      fewer_rings = (λ e. absurd (no_fault e), λ unknown. absurd (unknown (known.known refl)));
      too_small = λ small e. absurd (no_fault e);
    }

pub returns-in-Err-clause-too_small : goal.returns-in-Err-clause-too_small
returns-in-Err-clause-too_small g c =
    let opened = c.args.opened.now in
    let small = c.in-Err.small in
    reported_small (IsFirstTooSmall opened c.args.programs.now) small
    (first_too_small opened c.args.programs.now c.in-Ok.sums.items small c.in-Ok.ensures.sums (subst (λ (l : List ℕ). IsFirstSmall opened l small) c.deref.ensures.value c.in-Err.ensures.small))
