use Rattle.std.proofs.Common.{◌≡◌, ◌+◌, ◌-◌, true, false, refl, ap, sym, ◌∙◌, arith, rules}
use Rattle.std.specs.Prelude.{◌&&◌, not}
use Rattle.rb_verifier.specs.StackPlaces.{touches}
use Rattle.rb_verifier.specs.KeptPointers.{known_in, is_data}
use Rattle.rb_verifier.proofs.KeptPlaces.{any_place-true, any_place-false, touched_inside, not_kept, data_tested, each_place}
use Rattle.rb_verifier.proofs.places.Places.may_keep.Goals as goal

pub returns-then-not-is_number : goal.returns-then-not-is_number
returns-then-not-is_number c =
    let touched : touches c.args.at c.args.len (63 - c.loop-i.i) ≡ true = search rules in
    let tested : c.is_number.result ≡ false = search rules in
    let pointer : is_data (known_in c.args.self.now (63 - c.loop-i.i)) ≡ false = ap is_data (sym c.get.ensures.known) ∙ sym (data_tested c.is_number.result c.get.result c.is_number.ensures) ∙ tested in
    sym (any_place-true (λ place. touches c.args.at c.args.len place && not (is_data (known_in c.args.self.now place))) (c.args.at + c.args.len) (63 - c.loop-i.i) (rw (touched, pointer) refl) (touched_inside c.args.at c.args.len (63 - c.loop-i.i) touched))

pub returns : goal.returns
returns c =
    sym (any_place-false (λ place. touches c.args.at c.args.len place && not (is_data (known_in c.args.self.now place))) (c.args.at + c.args.len)
    (λ place lt. each_place (λ place. (touches c.args.at c.args.len place && not (is_data (known_in c.args.self.now place))) ≡ false) c.loop-i.i c.loop-i.invariant
    (λ place past. not_kept (touches c.args.at c.args.len place) (known_in c.args.self.now place) (c.count-i-end.ensures.others place (omega arith)))
    (λ place past. not_kept (touches c.args.at c.args.len place) (known_in c.args.self.now place) (c.count-i-end.ensures.beyond place past)) place))
