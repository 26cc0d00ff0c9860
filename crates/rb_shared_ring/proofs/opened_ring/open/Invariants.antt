use Rattle.std.proofs.Common.{◌≡◌, ◌-◌, ◌++◌, None}
use Rattle.crossbeam_queue.specs.Passes.{view, IsSamePass}
use Rattle.rb_ledger.specs.Seats.{fresh_book, fresh_seats}
use Rattle.rb_ledger.specs.HandKnowledge.{hand_view}
use Rattle.rb_ledger.specs.HandLockSteps.{opening_worker_hands}
use Rattle.rb_shared_ring.proofs.opened_ring.open.Given as goal

abbrev pub invariant-loop-worker : goal.invariant-loop-worker
invariant-loop-worker g l =
    IsSamePass l.initial.pass l.pass
    × (view l.pass ≡ hand_view (opening_worker_hands (fresh_book l.fn.size l.fn.start l.fn.workers) l.fn.room l.worker (l.fn.workers - l.worker)) None)
    × (l.seats.items ++ fresh_seats l.fn.tag l.initial.pass.table_id l.fn.room (fresh_book l.fn.size l.fn.start l.fn.workers) l.worker (l.fn.workers - l.worker) ≡ fresh_seats l.fn.tag l.initial.pass.table_id l.fn.room (fresh_book l.fn.size l.fn.start l.fn.workers) 0 l.fn.workers)
