use Rattle.std.proofs.Common.{ℕ, List, [], Bor, get_or, map, sym, arith}
use Rattle.std.proofs.lemmas.List.{get_or-map, length-map}
use Rattle.rb_service.proofs.Printing.{rings_more}
use Rattle.rb_service.proofs.counters.push_rings.Goals as goal

pub loop-ring-preserved : goal.loop-ring-preserved
loop-ring-preserved g c =
    let text = λ (n : Bor (List ℕ)). n.now in
    let none : Bor (List ℕ) = record { ref_ptr = (0, 0); now = [] } in
    let names = c.args.names.now in
    let i = c.loop-ring.ring in
    let name = (get_or names i none).now in
    let n = length-map names text in
    rings_more (map text names) c.args.rings.now i name c.index-rings-ring.result _ _ _ (omega (arith, n, c.requires.names, c.loop-ring-test.true)) (omega (arith, c.loop-ring-test.true))
    (sym (get_or-map text names i none name (omega (arith, c.requires.names, c.loop-ring-test.true)))) c.index-rings-ring.is c.loop-ring.invariant c.in_ok-push_ended.ensures.line
