use Rattle.std.proofs.Common.{◌≡◌, ◌∙◌, ◌+◌, ◌∷◌, ◌++◌, [], List, reverse, refl, sym, ap, subst, length, append-nil, vec_len, rules, arith}
use Rattle.std.proofs.lemmas.List.{reverse-append}
use Rattle.rb_ledger.specs.Seats.{Shared}
use Rattle.rb_workers.specs.declared.consumer_task.ConsumerTask.{ConsumerTask}
use Rattle.rb_workers.specs.declared.opened.Opened.{Opened}
use Rattle.rb_workers.specs.inner.ConsumerTasks.{joined_ring, joined_rings}
use Rattle.rb_workers.proofs.Parts.{unshift, empty_front}
use Rattle.rb_workers.proofs.distribution.merge.Goals as goal

pub loop-task-init : goal.loop-task-init
loop-task-init g c =
    let none = c.requires.merged.0 in (
      [],
      [],
      append-nil c.args.rings.items,
      append-nil c.args.consumers.items,
      c.requires.len,
      omega (arith, c.requires.merged.1, c.args.merged.ok.0, ap length none),
      ap (λ (l : List (Opened g.row.S.Denot)). reverse l) none,
    )

pub loop-task-preserved : goal.loop-task-preserved
loop-task-preserved g c =
    let i = c.loop-task.invariant in
    let ring = c.in-Some-pop.ring in
    let task = c.in-Some.task in
    let x = joined_ring ring task in (
      ring ∷ i.0,
      task ∷ i.1,
      unshift _ _ _ _ ring c.in-Some-pop.ensures.items i.2,
      unshift _ _ _ _ task c.in-Some.ensures.items i.3,
      omega (arith, c.in-Some.ensures.len, c.in-Some-pop.ensures.len, i.4),
      omega (arith, c.push_reserved.ensures.len, c.push_reserved.ensures.capacity, c.in-Some-pop.ensures.len, i.5),
      ap (λ (l : List (Opened g.row.S.Denot)). reverse l) c.push_reserved.ensures.items ∙ (reverse-append c.loop-task.merged.items (x ∷ []) ∙ ap (λ (l : List (Opened g.row.S.Denot)). x ∷ l) i.6),
    )

pub returns : goal.returns
returns g c =
    let i = c.loop-task.invariant in
    let none : vec_len c.loop-task.consumers ≡ 0 = let h = c.in_default.ensures.len in let n = c.in_default.is in search rules in
    let no_ring : length c.loop-task.rings.items ≡ 0 = omega (arith, none, i.4, c.loop-task.rings.ok.0) in
    let no_task : length c.loop-task.consumers.items ≡ 0 = omega (arith, none, c.loop-task.consumers.ok.0) in
    let rings : i.0 ≡ c.args.rings.items = empty_front _ _ _ i.2 no_ring in
    let tasks : i.1 ≡ c.args.consumers.items = empty_front _ _ _ i.3 no_task in
    record {
      merged = c.reverse.ensures.items ∙ (i.6 ∙ (ap (λ (r : List Shared). joined_rings r i.1) rings ∙ ap (λ (t : List (ConsumerTask g.row.S.Denot)). joined_rings c.args.rings.items t) tasks));
    }
