use Rattle.std.proofs.Common.{◌≡◌, ◌∙◌, ◌+◌, ◌∷◌, ◌++◌, [], List, reverse, refl, sym, ap, subst, length, append-nil, vec_len, rules, arith}
use Rattle.std.proofs.lemmas.List.{reverse-append}
use Rattle.std.specs.Prelude.{All}
use Rattle.std.specs.List.{AllZip}
use Rattle.rb_ledger.specs.Seats.{Shared}
use Rattle.rb_workers.specs.declared.consumer_task.ConsumerTask.{ConsumerTask}
use Rattle.rb_workers.specs.inner.ConsumerTasks.{joined_ring, joined_rings}
use Rattle.rb_workers.specs.inner.RingEnds.{Closes}
use Rattle.rb_workers.specs.Opened.{IsOpened, workers_of}
use Rattle.rb_workers.specs.inner.RunBuffers.{IsEmptyFor}
use Rattle.rb_workers.proofs.Joined.{joined_pop}
use Rattle.rb_workers.proofs.Numbered.{seats_length}
use Rattle.rb_workers.proofs.Parts.{unshift, all_front, all_last, empty_front}
use Rattle.rb_workers.proofs.ring_close.close_all.Goals as goal

pub loop-task-init : goal.loop-task-init
loop-task-init g c =
    let none = c.requires.ended.0 in (
      [],
      [],
      append-nil c.args.rings.items,
      append-nil c.args.consumers.items,
      c.requires.len,
      c.requires.tallies.0,
      omega (arith, c.requires.ended.1, c.args.ended.ok.0, ap length none),
      c.requires.tallies.1,
      c.requires.opened,
      subst (λ l. AllZip Closes [] (reverse l)) (sym none) tt,
    )

pub close_one-requires-clause-opened : goal.close_one-requires-clause-opened
close_one-requires-clause-opened g c =
    let i = c.loop-task.invariant in
    let pos = g.S.Sink.position_of in
    let count = workers_of (joined_rings c.args.rings.items c.args.consumers.items) in
    let x = joined_ring c.in-Some-pop.ring c.in-Some.task in
    let len : length c.loop-task.rings.items ≡ length c.loop-task.consumers.items = omega (arith, i.4, c.loop-task.rings.ok.0, c.loop-task.consumers.ok.0) in
    let is = all_last (IsOpened pos count) _ _ x (joined_pop _ _ _ _ c.in-Some-pop.ring c.in-Some.task c.in-Some-pop.ensures.items c.in-Some.ensures.items len) i.8 in
    subst (λ n. IsOpened pos n x) (sym (seats_length pos _ x is)) is

pub close_one-requires-clause-row : goal.close_one-requires-clause-row
close_one-requires-clause-row g c =
    let i = c.loop-task.invariant in
    let pos = g.S.Sink.position_of in
    let count = workers_of (joined_rings c.args.rings.items c.args.consumers.items) in
    let x = joined_ring c.in-Some-pop.ring c.in-Some.task in
    let len : length c.loop-task.rings.items ≡ length c.loop-task.consumers.items = omega (arith, i.4, c.loop-task.rings.ok.0, c.loop-task.consumers.ok.0) in
    let is = all_last (IsOpened pos count) _ _ x (joined_pop _ _ _ _ c.in-Some-pop.ring c.in-Some.task c.in-Some-pop.ensures.items c.in-Some.ensures.items len) i.8 in
    let row = all_last (IsEmptyFor count) _ _ c.in-Some-pop-2.row c.in-Some-pop-2.ensures.items i.7 in
    subst (λ n. IsEmptyFor n c.in-Some-pop-2.row) (sym (seats_length pos count x is)) row

pub push_reserved-requires : goal.push_reserved-requires
push_reserved-requires g c = let i = c.loop-task.invariant in omega (arith, i.6, c.in-Some-pop.ensures.len)

pub loop-task-preserved : goal.loop-task-preserved
loop-task-preserved g c =
    let i = c.loop-task.invariant in
    let pos = g.S.Sink.position_of in
    let count = workers_of (joined_rings c.args.rings.items c.args.consumers.items) in
    let ring = c.in-Some-pop.ring in
    let task = c.in-Some.task in
    let x = joined_ring ring task in
    let len : length c.loop-task.rings.items ≡ length c.loop-task.consumers.items = omega (arith, i.4, c.loop-task.rings.ok.0, c.loop-task.consumers.ok.0) in
    let joined = joined_pop _ _ _ _ ring task c.in-Some-pop.ensures.items c.in-Some.ensures.items len in (
      ring ∷ i.0,
      task ∷ i.1,
      unshift _ _ _ _ ring c.in-Some-pop.ensures.items i.2,
      unshift _ _ _ _ task c.in-Some.ensures.items i.3,
      omega (arith, c.in-Some.ensures.len, c.in-Some-pop.ensures.len, i.4),
      omega (arith, c.in-Some-pop-2.ensures.len, c.in-Some-pop.ensures.len, i.5),
      omega (arith, c.push_reserved.ensures.len, c.push_reserved.ensures.capacity, c.in-Some-pop.ensures.len, i.6),
      all_front (IsEmptyFor count) _ _ c.in-Some-pop-2.row c.in-Some-pop-2.ensures.items i.7,
      all_front (IsOpened pos count) _ _ x joined i.8,
      subst (AllZip Closes (x ∷ joined_rings i.0 i.1)) (sym (ap (λ l. reverse l) c.push_reserved.ensures.items ∙ reverse-append c.loop-task.ended.items (c.close_one.result ∷ []))) (c.close_one.ensures.closes, i.9),
    )

pub returns : goal.returns
returns g c =
    let i = c.loop-task.invariant in
    let none : vec_len c.loop-task.consumers ≡ 0 = let h = c.in_default.ensures.len in let n = c.in_default.is in search rules in
    let no_ring : length c.loop-task.rings.items ≡ 0 = omega (arith, none, i.4, c.loop-task.rings.ok.0) in
    let no_task : length c.loop-task.consumers.items ≡ 0 = omega (arith, none, c.loop-task.consumers.ok.0) in
    let rings : i.0 ≡ c.args.rings.items = empty_front _ _ _ i.2 no_ring in
    let tasks : i.1 ≡ c.args.consumers.items = empty_front _ _ _ i.3 no_task in
    record {
      closes = subst (AllZip Closes (joined_rings c.args.rings.items c.args.consumers.items)) (sym c.reverse.ensures.items)
          (subst (λ (t : List (ConsumerTask g.row.S.Denot)). AllZip Closes (joined_rings c.args.rings.items t) (reverse c.loop-task.ended.items)) tasks
          (subst (λ (r : List Shared). AllZip Closes (joined_rings r i.1) (reverse c.loop-task.ended.items)) rings i.9));
    }
