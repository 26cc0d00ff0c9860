use Rattle.std.proofs.Common.{sym, subst, length}
use Rattle.std.proofs.lemmas.Bool.{true≢false}
use Rattle.rb_ledger.specs.Seats.{HasAll}
use Rattle.rb_workers.specs.inner.ConsumerTasks.{joined_ring}
use Rattle.rb_workers.proofs.Numbered.{has_all, tagged}
use Rattle.rb_workers.proofs.ring_close.close_one.Goals as goal

pub unreachable-requires : goal.unreachable-requires
unreachable-requires g c =
    let o = joined_ring c.args.ring c.args.task in
    let is = c.requires.opened in
    let all = subst (λ n. HasAll n o.seats.items) (sym is.as_many) (has_all (length o.seats.items) o.seats.items is.numbered) in
    true≢false (sym (c.in-Err.ensures.all.1 (is.consumer_tag, tagged o.ring o.seats.items is.seats_at, all)))
