use Rattle.std.proofs.Common.{◌-◌, refl, subst, arith, rules, below_more}
use Rattle.rb_verifier.specs.AbstractValues.{BelowValue}
use Rattle.rb_verifier.specs.KeptPointers.{known_in}
use Rattle.rb_verifier.proofs.KeptPlaces.{each_place}
use Rattle.rb_verifier.proofs.places.Places.are_below.Goals as goal

pub loop-i-preserved : goal.loop-i-preserved
loop-i-preserved c =
    let here : BelowValue c.get.result c.get-in-loop-i.result = search rules in
    below_more (λ j. BelowValue (known_in c.args.self.now (63 - j)) (known_in c.args.upper.now (63 - j))) c.loop-i.i c.loop-i.invariant
    (subst (λ v. BelowValue v (known_in c.args.upper.now (63 - c.loop-i.i))) c.get.ensures.known (subst (BelowValue c.get.result) c.get-in-loop-i.ensures.known here))

pub returns : goal.returns
returns c = (
  λ t. each_place (λ place. BelowValue (known_in c.args.self.now place) (known_in c.args.upper.now place)) c.loop-i.i c.loop-i.invariant
      (λ place past. rw (c.count.ensures.others place (omega arith), c.count-2.ensures.others place (omega arith)) tt)
      (λ place past. rw (c.count.ensures.beyond place past, c.count-2.ensures.beyond place past) tt),
  λ all. refl,
)
