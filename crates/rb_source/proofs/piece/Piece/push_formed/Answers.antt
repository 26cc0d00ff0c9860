use Rattle.std.proofs.Common.{sym, ◌≡◌, ℕ, ◌+◌, ◌*◌, ◌<◌, ◌≤◌, ◌++◌, ◌∷◌, [], List, length, take, drop, ap, ◌∙◌, take-append-drop, arith}
use Rattle.std.proofs.lemmas.List.{length-append, length-drop, length-take-le}
use Rattle.rb_source.specs.inner.Side.{side_by_side}
use Rattle.rb_source.specs.Form.{form_len, formed}
use Rattle.rb_source.specs.Piece.{room_for}
use Rattle.rb_source.proofs.Side.{length-side_by_side, length_written, written, length-formed, place_small}
use Rattle.rb_source.proofs.piece.Piece.push_formed.Goals as goal

pub write_formed_at-requires-clause-inside : goal.write_formed_at-requires-clause-inside
write_formed_at-requires-clause-inside c =
    let h : c.self.inside.count < room_for c.self.inside.ctx_len = rw (← c.self.view_is, length-side_by_side) at c.requires.room in
    let p = place_small c.self.inside.ctx_len c.self.inside.room c.self.inside.count c.self.inside.count c.self.inside.bytes.items c.self.invariant (rw c.self.invariant.room_is h) in
    p.1

pub invariant_of-self : goal.invariant_of-self
invariant_of-self c =
    let h : c.self.inside.count < room_for c.self.inside.ctx_len = rw (← c.self.view_is, length-side_by_side) at c.requires.room in
    let s : c.self.inside.ctx_len ≡ form_len c.args.form.now = rw (← c.self.view_is) at c.requires.size in
    let r : c.self.inside.count < c.self.inside.room = rw c.self.invariant.room_is h in
    let p = place_small c.self.inside.ctx_len c.self.inside.room c.self.inside.count c.self.inside.count c.self.inside.bytes.items c.self.invariant r in
    let one = formed c.args.form.now c.args.front.now c.args.total in
    let e : length one ≡ c.self.inside.ctx_len = length-formed c.args.form.now c.args.front.now c.args.total c.requires.front ∙ sym s in
    record {
      fits = c.self.invariant.fits;
      room_is = c.self.invariant.room_is;
      counted = omega arith;
      memory = ap length c.write_formed_at.ensures.written ∙ length_written (c.self.inside.count * c.self.inside.ctx_len) (c.self.inside.count * c.self.inside.ctx_len + c.self.inside.ctx_len) c.self.inside.bytes.items one (ap (λ n. c.self.inside.count * c.self.inside.ctx_len + n) (sym e)) (rw e p.1) ∙ c.self.invariant.memory;
    }

pub returns : goal.returns
returns c =
    let h : c.self.inside.count < room_for c.self.inside.ctx_len = rw (← c.self.view_is, length-side_by_side) at c.requires.room in
    let s : c.self.inside.ctx_len ≡ form_len c.args.form.now = rw (← c.self.view_is) at c.requires.size in
    let p = place_small c.self.inside.ctx_len c.self.inside.room c.self.inside.count c.self.inside.count c.self.inside.bytes.items c.self.invariant (rw c.self.invariant.room_is h) in
    let one = formed c.args.form.now c.args.front.now c.args.total in
    let e : length one ≡ c.self.inside.ctx_len = length-formed c.args.form.now c.args.front.now c.args.total c.requires.front ∙ sym s in
    rw (← c.self.view_is) (record { appended = ap (λ cs. record { contexts = cs; ctx_len = c.self.inside.ctx_len }) (ap (side_by_side c.self.inside.ctx_len (c.self.inside.count + 1)) c.write_formed_at.ensures.written ∙ written c.self.inside.ctx_len c.self.inside.count (c.self.inside.count * c.self.inside.ctx_len + c.self.inside.ctx_len) c.self.inside.bytes.items one p.1 e) })
