use Rattle.std.proofs.Common.{◌≡◌, ◌+◌, ◌-◌, ◌*◌, ◌<◌, ◌≤◌, length, sym, ap, arith}
use Rattle.rb_source.proofs.Side.{length-side_by_side, get_or-side_by_side, place_small}
use Rattle.rb_source.proofs.piece.Piece.get.Goals as goal

-- the context is one of those in use, and lies within the memory
is_there : (c : goal.After-deref) → c.args.index < c.self.inside.count
is_there c = rw (← c.self.view_is, length-side_by_side) at c.requires

place : (c : goal.After-deref) → (c.args.index * c.self.inside.ctx_len + c.self.inside.ctx_len ≤ 65536) × (c.args.index * c.self.inside.ctx_len + c.self.inside.ctx_len ≤ length c.self.inside.bytes.items)
place c =
    let h = is_there c in
    place_small c.self.inside.ctx_len c.self.inside.room c.self.inside.count c.args.index c.self.inside.bytes.items c.self.invariant (omega (arith, c.self.invariant.counted))

pub overflow_mul-at : goal.overflow_mul-at
overflow_mul-at c =
    let h : c.args.index < c.self.inside.count = rw (← c.self.view_is, length-side_by_side) at c.requires in
    let p = place_small c.self.inside.ctx_len c.self.inside.room c.self.inside.count c.args.index c.self.inside.bytes.items c.self.invariant (omega (arith, c.self.invariant.counted)) in
    omega (arith, p.0)

pub overflow_add-result : goal.overflow_add-result
overflow_add-result c = let p = place c in omega (arith, p.0)

pub slice_bounds-result-end : goal.slice_bounds-result-end
slice_bounds-result-end c = let p = place c in let v = ap length c.deref.ensures.value in omega (arith, p.1)

pub returns-clause-value : goal.returns-clause-value
returns-clause-value c =
    let at = c.args.index * c.self.inside.ctx_len in
    let h : c.args.index < c.self.inside.count = rw (← c.self.view_is, length-side_by_side) at c.requires in
    let n : at + c.self.inside.ctx_len - at ≡ c.self.inside.ctx_len = omega arith in
    rw (← c.self.view_is, n, c.deref.ensures.value) (sym (get_or-side_by_side c.self.inside.ctx_len c.self.inside.count c.args.index c.self.inside.bytes.items h))
