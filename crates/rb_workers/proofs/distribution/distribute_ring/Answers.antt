use Rattle.std.proofs.Common.{◌≡◌, ◌∙◌, sym, ap, ◌+◌, ◌-◌, ◌<◌, rules, arith, length, vec_len, take}
use Rattle.std.proofs.lemmas.List.{get_or-set_other, take-take}
use Rattle.rb_workers.proofs.Deals.{dealt_more, taken_last}
use Rattle.rb_workers.proofs.distribution.distribute_ring.Goals as goal

pub loop-seat-preserved : goal.loop-seat-preserved
loop-seat-preserved c =
    let i = c.loop-seat.invariant in
    let at = c.loop-seat.at - 1 in
    let was : c.loop-seat.at ≡ at + 1 = let l = c.in-Some.ensures.len in omega (arith, i.0) in
    let inside : at < length c.loop-seat.workers = omega (arith, i.1, c.loop-seat.auto.workers) in
    let len : length c.pop.new.self.items ≡ at = let l = c.in-Some.ensures.len in omega (arith, i.0, c.pop.new.self.ok.0) in (
      search rules,
      omega (arith, i.1),
      c.in-Some.ensures.rest ∙ (ap (λ n. take (n - 1) c.loop-seat.returned_seats.items) (sym i.0) ∙ (ap (take at) i.2 ∙ take-take at c.loop-seat.at c.args.returned_seats.now.items (omega arith))),
      search rules,
      (λ k d below. get_or-set_other c.loop-seat.workers at k c.add_seat.new.self d (omega arith) ∙ i.4 k d (omega arith)),
      dealt_more c.args.workers.now c.loop-seat.workers c.args.returned_seats.now.items at c.loop-seat.at c.index-workers-at.result c.add_seat.new.self c.in-Some.seat was inside i.4 i.5 c.add_seat.ensures.one_more (λ s. taken_last c.args.returned_seats.now.items c.pop.new.self.items c.in-Some.seat s at c.loop-seat.at was len (sym i.2 ∙ c.in-Some.ensures.items)),
    )

pub returns-clause-one_more : goal.returns-clause-one_more
returns-clause-one_more c =
    let none : vec_len c.loop-seat.returned_seats ≡ 0 = let h = c.in_default.ensures.len in let n = c.in_default.is in search rules in
    λ k d s below. c.loop-seat.invariant.5 k d s (omega (arith, c.loop-seat.invariant.0)) below
