use Rattle.std.proofs.Common.{sym, ◌≡◌, ℕ, ◌+◌, ◌*◌, ◌<◌, ◌≤◌, ◌++◌, ◌∷◌, [], List, length, take, drop, ap, ◌∙◌, take-append-drop, arith}
use Rattle.std.proofs.lemmas.List.{length-append, length-drop, length-take-le}
use Rattle.rb_source.specs.inner.Side.{side_by_side}
use Rattle.rb_source.specs.Piece.{room_for}
use Rattle.rb_source.proofs.Side.{length-side_by_side, length_written, written, place_small}
use Rattle.rb_source.proofs.piece.Piece.push.Goals as goal

pub write_at-requires : goal.write_at-requires
write_at-requires c =
    let h : c.self.inside.count < room_for c.self.inside.ctx_len = rw (← c.self.view_is, length-side_by_side) at c.requires.room in
    let e : length c.args.context.now ≡ c.self.inside.ctx_len = rw (← c.self.view_is) at c.requires.size in
    let p = place_small c.self.inside.ctx_len c.self.inside.room c.self.inside.count c.self.inside.count c.self.inside.bytes.items c.self.invariant (rw c.self.invariant.room_is h) in
    rw e p.1

pub invariant_of-self : goal.invariant_of-self
invariant_of-self c =
    let h : c.self.inside.count < room_for c.self.inside.ctx_len = rw (← c.self.view_is, length-side_by_side) at c.requires.room in
    let e : length c.args.context.now ≡ c.self.inside.ctx_len = rw (← c.self.view_is) at c.requires.size in
    let r : c.self.inside.count < c.self.inside.room = rw c.self.invariant.room_is h in
    let p = place_small c.self.inside.ctx_len c.self.inside.room c.self.inside.count c.self.inside.count c.self.inside.bytes.items c.self.invariant r in
    record {
      fits = c.self.invariant.fits;
      room_is = c.self.invariant.room_is;
      counted = omega arith;
      memory = ap length c.write_at.ensures ∙ length_written (c.self.inside.count * c.self.inside.ctx_len) (c.self.inside.count * c.self.inside.ctx_len + length c.args.context.now) c.self.inside.bytes.items c.args.context.now (omega arith) (rw e p.1) ∙ c.self.invariant.memory;
    }

pub returns : goal.returns
returns c =
    let h : c.self.inside.count < room_for c.self.inside.ctx_len = rw (← c.self.view_is, length-side_by_side) at c.requires.room in
    let e : length c.args.context.now ≡ c.self.inside.ctx_len = rw (← c.self.view_is) at c.requires.size in
    let p = place_small c.self.inside.ctx_len c.self.inside.room c.self.inside.count c.self.inside.count c.self.inside.bytes.items c.self.invariant (rw c.self.invariant.room_is h) in
    rw (← c.self.view_is) (record { appended = ap (λ cs. record { contexts = cs; ctx_len = c.self.inside.ctx_len }) (ap (side_by_side c.self.inside.ctx_len (c.self.inside.count + 1)) c.write_at.ensures ∙ written c.self.inside.ctx_len c.self.inside.count (c.self.inside.count * c.self.inside.ctx_len + length c.args.context.now) c.self.inside.bytes.items c.args.context.now p.1 e) })
