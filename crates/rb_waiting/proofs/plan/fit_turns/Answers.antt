use Rattle.std.proofs.Common.{◌≡◌, ◌∙◌, ◌*◌, ◌<◌, None, Some, inl, inr, ⊎_elim, arith, ap, get_or, length, subst, sym}
use Rattle.std.proofs.lemmas.List.{get_or_default}
use Rattle.rb_cost.specs.RingSize.{least_ring}
use Rattle.rb_cost.specs.TurnSize.{contexts_at_once}
use Rattle.rb_waiting.proofs.Sums.{chosen_fits, first_small, fits_more, longest_more}
use Rattle.rb_waiting.proofs.plan.fit_turns.Goals as goal

pub loop-at-preserved : goal.loop-at-preserved
loop-at-preserved g c =
    let at = c.loop-at.at in
    let x = get_or c.args.opened.now at c.index-opened-at.result in
    let n = c.numbers-numbers in
    let most = c.in-Some.most in
    let sum = get_or c.args.sums.now at 0 in
    let inside = c.loop-at-test.true in
    let each = c.requires.each in
    let is_chosen = sym c.in-Some.is ∙ c.contexts_at_once.ensures in
    let chosen = chosen_fits n.result.size n.result.workers sum most is_chosen in
    let fits = subst (λ w. w * (most * sum) < x.consumer.seen.setup.size) n.ensures.workers (subst (λ z. n.result.workers * (most * sum) < z) n.ensures.size chosen.2) in
    let least = c.min-contexts.ensures in
    let i = c.loop-at.invariant.fits in
    let one_before = i.some in
    let one_chosen = chosen.0 in
    let size = c.facts.ensures.book.size.2 in
    let item = get_or_default c.args.opened.now at c.index-opened-at.result x inside in
    let in_sums : at < length c.args.sums.now = omega (arith, inside, each) in
    record {
      fits = fits_more c.args.opened.now c.args.sums.now at c.loop-at.contexts most c.min-contexts.result x inside in_sums item (omega (arith, least)) (omega (arith, least)) (omega (arith, least, one_before, one_chosen)) i
          c.facts.ensures.book.workers.0 (omega (arith, size)) fits;
      longest = longest_more c.args.opened.now c.args.sums.now at c.loop-at.contexts most c.min-contexts.result x inside in_sums item (omega (arith, least)) c.loop-at.invariant.longest
          (subst (λ w. contexts_at_once x.consumer.seen.setup.size w sum ≡ Some most) n.ensures.workers (subst (λ z. contexts_at_once z n.result.workers sum ≡ Some most) n.ensures.size (sym is_chosen)));
    }

pub returns-in-None-clause-small : goal.returns-in-None-clause-small
returns-in-None-clause-small g c =
    let at = c.loop-at.at in
    let x = get_or c.args.opened.now at c.index-opened-at.result in
    let n = c.numbers-numbers in
    let sum = get_or c.args.sums.now at 0 in
    let inside = c.loop-at-test.true in
    let each = c.requires.each in
    let in_sums : at < length c.args.sums.now = omega (arith, inside, each) in
    let none = sym c.contexts_at_once.ensures ∙ c.in-None.is in
    first_small c.args.opened.now c.args.sums.now at c.loop-at.contexts c.least_for-least.result x inside in_sums (get_or_default c.args.opened.now at c.index-opened-at.result x inside) c.loop-at.invariant.fits c.facts.ensures.book.workers.0
    (subst (λ w. contexts_at_once x.consumer.seen.setup.size w sum ≡ None) n.ensures.workers (subst (λ z. contexts_at_once z n.result.workers sum ≡ None) n.ensures.size none))
    (c.least_for-least.ensures ∙ ap (λ w. least_ring (w * sum)) n.ensures.workers)

pub returns : goal.returns
returns g c =
    let i = c.loop-at.invariant.fits in
    let l = c.loop-at.invariant.longest in
    let over = c.loop-at-test.false in
    let inside = c.loop-at.auto.at-end in
    record {
      fits = record {
        some = i.some;
        few = i.few;
        workers = λ k o below. i.workers k o (omega (arith, below, over));
        small = λ k o below. i.small k o (omega (arith, below, over));
        fits = λ k s o below. i.fits k s o (omega (arith, below, over));
      };
      longest = record {
        within = λ k s o below. l.within k s o (omega (arith, below, over));
        reached = ⊎_elim (λ sixteen. inl sixteen) (λ one. let below = one.1 in inr (one.0, omega (arith, below, inside), one.2)) l.reached;
      };
      small = tt;
    }
