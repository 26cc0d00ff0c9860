use Rattle.std.proofs.Common.{◌≡◌, ℕ, zero, suc, ◌+◌, ◌<◌, ◌++◌, List, [], ◌∷◌, length, take, drop, map, set, get_or, refl, ◌∙◌, ap, arith}
use Rattle.rb_cost.specs.Cost.{no_ring_cost}
use Rattle.heskavo_c.specs.Costs.{ring_row}
use Rattle.heskavo_c.proofs.program_cost.put_rows.Goals as goal

-- one more element has its new value
set_mapped : {X Y : Type 0} (f : X → Y) (xs : List X) (ys : List Y) (i : ℕ) (d : X) → length ys ≡ length xs → i < length xs → set (map f (take i xs) ++ drop i ys) i (f (get_or xs i d)) ≡ map f (take (suc i) xs) ++ drop (suc i) ys
set_mapped f [] ys i d same lt = absurd (omega arith)
set_mapped f (x ∷ xs) [] i d same lt = absurd (omega arith)
set_mapped f (x ∷ xs) (y ∷ ys) zero d same lt = refl
set_mapped f (x ∷ xs) (y ∷ ys) (suc i) d same lt = ap (λ rest. f x ∷ rest) (set_mapped f xs ys i d (omega arith) (omega arith))

pub loop-ring-preserved : goal.loop-ring-preserved
loop-ring-preserved c =
    let next : suc c.loop-ring.ring ≡ c.loop-ring.ring + 1 = omega arith in
    let inside : c.loop-ring.ring < length c.args.costs.now = c.loop-ring-test.true in
    ap (λ rows. set rows c.loop-ring.ring c.row_of.result) c.loop-ring.invariant
    ∙ (ap (set (map ring_row (take c.loop-ring.ring c.args.costs.now) ++ drop c.loop-ring.ring c.args.rows.now) c.loop-ring.ring) c.row_of.ensures
    ∙ (set_mapped ring_row c.args.costs.now c.args.rows.now c.loop-ring.ring no_ring_cost c.requires inside
    ∙ ap (λ n. map ring_row (take n c.args.costs.now) ++ drop n c.args.rows.now) next))
