use Rattle.std.proofs.Common.{◌≡◌, ℕ, ◌+◌, ◌-◌, ◌≤◌, List, [], ◌++◌, length, take, drop, sym, ap, ◌∙◌, arith}
use borrow.Rule.Slice.PartMut.{post_of, put_mid}
use Rattle.std.proofs.KnownBytes.{Consumes-nil, Consumes-kept}
use Rattle.rb_source.proofs.Windows.{read_behind}
use Rattle.rb_source.proofs.window.Window.read_from.Goals as goal

pub returns-in-Ok-clause-came : goal.returns-in-Ok-clause-came
returns-in-Ok-clause-came g c =
    let k = c.self.inside.end - c.self.inside.at in
    let n = c.in-Ok.count in
    let room = c.deref_mut.result.now in
    let read = c.read.new.buf in
    let past = post_of k (length room - k) room in
    let most = c.in-Ok.ensures.bound.0 in
    let value = ap length c.deref_mut.ensures.value in
    let eq = read_behind k n c.move_to_front.new.room.len room read past _ (omega arith) most (omega arith)
    ∙ ap (λ f. f ++ take n read) (ap (take k) c.deref_mut.ensures.value ∙ c.move_to_front.ensures.moved ∙ c.self.view_is) in
    (take n read, c.in-Ok.ensures.bytes.0, eq)

pub returns-in-Err-2-clause-came : goal.returns-in-Err-2-clause-came
returns-in-Err-2-clause-came g c =
    let k = c.self.inside.end - c.self.inside.at in
    let room = c.deref_mut.result.now in
    let read = c.read.new.buf in
    let past = post_of k (length room - k) room in
    let value = ap length c.deref_mut.ensures.value in
    let none : k + 0 ≡ k = omega arith in
    let bytes = take k (take c.move_to_front.new.room.len ((take k room ++ (read ++ past)) ++ drop (length (put_mid k (length room - k) room read)) c.move_to_front.new.room.items)) in
    let eq : bytes ≡ c.args.self.now ++ [] =
    ap (λ m. take m (take c.move_to_front.new.room.len ((take k room ++ (read ++ past)) ++ drop (length (put_mid k (length room - k) room read)) c.move_to_front.new.room.items))) (sym none)
    ∙ read_behind k 0 c.move_to_front.new.room.len room read past _ (omega arith) (omega arith) (omega arith)
    ∙ ap (λ f. f ++ []) (ap (take k) c.deref_mut.ensures.value ∙ c.move_to_front.ensures.moved ∙ c.self.view_is) in
    ([], Consumes-kept _ _ _ _ (Consumes-nil _) c.in-Err-2.ensures.bytes, eq)
