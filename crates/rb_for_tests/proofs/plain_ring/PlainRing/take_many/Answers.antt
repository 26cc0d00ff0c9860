use Rattle.std.proofs.Common.{◌≡◌, ◌<◌, ◌++◌, ◌∷◌, [], inl, inr, length, length-append, arith, ap, sym, ◌∙◌, subst}
use Rattle.rb_history.specs.Calls.{Takes}
use Rattle.rb_history.specs.ManyTakes.{TakesEach, pushed}
use Rattle.rb_history.proofs.ManyTakes.{each-more, has-record, stops-busy, stops-empty, takes-all, pushed-more, kept-more}
use Rattle.rb_for_tests.proofs.plain_ring.PlainRing.take_many.Goals as goal

pub returns-in-BusyFront-clause-takes : goal.returns-in-BusyFront-clause-takes
returns-in-BusyFront-clause-takes c =
    let i = c.loop-count.invariant in
    let less : length (pushed c.args.out.now.items c.loop-count.out.items) < c.args.n = omega arith in
    elim c.in-BusyFront.is [
      | inl busy ↦ stops-busy c.args.n c.args.self.now c.loop-count.self c.take.new.self _ i.each less (subst (Takes c.loop-count.self c.take.new.self) busy c.take.ensures.takes)
      | inr empty ↦ stops-empty c.args.n c.args.self.now c.loop-count.self c.take.new.self _ i.each less (subst (Takes c.loop-count.self c.take.new.self) empty c.take.ensures.takes)
    ]

pub loop-count-preserved : goal.loop-count-preserved
loop-count-preserved c =
    let i = c.loop-count.invariant in
    let before = c.args.out.now.items in
    let mid = c.loop-count.out.items in
    let after = c.push_reserved.new.self.items in
    let more = pushed-more before mid after c.take.result i.kept c.push_reserved.ensures.items in
    let each = each-more c.args.self.now c.loop-count.self c.take.new.self (pushed before mid) c.take.result i.each c.take.ensures.takes (has-record c.take.result c.in_default.not-BusyFront c.in_default.not-Empty) in
    record {
      same_ring = c.take.ensures.same_ring ∙ i.same_ring;
      each = subst (λ ts. TakesEach c.args.self.now ts c.take.new.self) (sym more) each;
      kept = kept-more before mid after c.take.result i.kept c.push_reserved.ensures.items;
      count_is = omega (arith, i.count_is, ap length more, length-append (pushed before mid) (c.take.result ∷ []));
      capacity = c.push_reserved.ensures.capacity ∙ i.capacity;
    }

pub returns-clause-takes : goal.returns-clause-takes
returns-clause-takes c = takes-all c.args.n _ _ _ c.loop-count.invariant.each (omega arith)
