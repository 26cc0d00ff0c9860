use Rattle.std.proofs.Common.{◌≡◌, ap, Result, Ok, Err, IfErr}
use Rattle.std.specs.Prelude.{OnOk}
use Rattle.rb_ledger.specs.Seats.{WorkerSeat}
use Rattle.rb_shared_ring.proofs.shared.SharedRing.discard.Goals as goal

-- a discard sends nothing, and a refused one changes nothing
same-sent : {T E : Type 0} (answer : Result T E) (b a : WorkerSeat) (given : E) → OnOk answer (a.sent ≡ b.sent) → IfErr answer (λ back. (back ≡ given) × (a ≡ b)) → a.sent ≡ b.sent
same-sent (Ok x) b a given sent back = sent
same-sent (Err e) b a given sent back = ap (λ (s : WorkerSeat). s.sent) back.1

pub returns-clause-sent : goal.returns-clause-sent
returns-clause-sent g c = same-sent c.settle.result _ _ _ c.settle.ensures.sent c.settle.ensures.handed_back
