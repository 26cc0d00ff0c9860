use Rattle.std.proofs.Common.{◌∙◌, ap, rules}
use Rattle.rb_ledger.specs.SeatRoles.{HasOwnCounts}
use Rattle.rb_ledger.proofs.Gathers.{rest-rings, all-each}
use Rattle.rb_ledger.specs.HandKnowledge.{HandPassView}
use Rattle.rb_ledger.proofs.HandLock.{merges}
use Rattle.rb_shared_ring.proofs.GatheredSeats.{gather-more, knew-more}
use Rattle.rb_shared_ring.proofs.closed_ring.gather.Goals as goal

pub absorb-requires-clause-rule : goal.absorb-requires-clause-rule
absorb-requires-clause-rule c = merges _ _ _ _ (ap (λ (v : HandPassView). v.out) c.into_pass-own.ensures.knows)

pub loop-seat-preserved : goal.loop-seat-preserved
loop-seat-preserved c =
    let i = c.loop-seat.invariant in
    let s = c.absorb.ensures.queue in
    let own = c.into_pass-own.ensures in
    let cut = c.in-Some.ensures.items in (
      (s.0 ∙ i.0.0, s.1 ∙ i.0.1, s.2 ∙ i.0.2),
      gather-more _ _ _ _ _ _ _ _ cut own.knows own.seen.0 own.seen.1 c.absorb.ensures.rule i.1,
      ap (λ (v : HandPassView). v.out) c.absorb.ensures.rule ∙ i.2,
      rest-rings _ _ _ _ cut i.3,
      (λ all. i.4 (all-each HasOwnCounts _ _ _ cut own.ties all)),
      knew-more _ _ _ _ _ _ _ cut own.knows own.seen.0 own.cut c.absorb.ensures.rule i.5,
    )

pub returns-clause-knew : goal.returns-clause-knew
returns-clause-knew c = λ room handed_out book known. c.loop-seat.invariant.5 room handed_out book known (search rules)
