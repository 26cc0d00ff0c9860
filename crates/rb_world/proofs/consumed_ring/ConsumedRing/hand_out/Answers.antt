use Rattle.std.proofs.Common.{◌++◌, [], ◌∷◌, sym, ap, subst, ◌∙◌}
use Rattle.rb_world.specs.WorldValue.{KeptRing}
use Rattle.rb_world.specs.TurnsDone.{HandsChapterOut}
use Rattle.rb_world.specs.inner.KeptChapters.{KeepsChapters}
use Rattle.rb_world.proofs.KeptChapters.{kept-of, next-has}
use Rattle.rb_world.proofs.WholeCalls.{out-turned}
use Rattle.rb_world.proofs.consumed_ring.ConsumedRing.hand_out.Goals as goal

pub invariant_of-self-in-Ok-hand_out : goal.invariant_of-self-in-Ok-hand_out
invariant_of-self-in-Ok-hand_out c =
    let s : KeptRing = record { ring = c.self.inside.ring; chapters = c.self.inside.chapters.items; taken = c.self.inside.taken.items } in
    let out = c.in-Ok-hand_out.chapter in
    let items = c.push_reserved.ensures.items ∙ ap (λ l. l ++ out ∷ []) c.reserve.ensures.items in
    subst (λ l. KeepsChapters (record { ring = c.hand_out.new.self; chapters = l; taken = s.taken })) (sym items) (next-has s c.hand_out.new.self out c.self.invariant c.in-Ok-hand_out.ensures.handed_out)

pub returns-in-Ok-hand_out-clause-turned : goal.returns-in-Ok-hand_out-clause-turned
returns-in-Ok-hand_out-clause-turned c =
    let s : KeptRing = record { ring = c.self.inside.ring; chapters = c.self.inside.chapters.items; taken = c.self.inside.taken.items } in
    let new = c.hand_out.new.self in
    let out = c.in-Ok-hand_out.chapter in
    let items = c.push_reserved.ensures.items ∙ ap (λ l. l ++ out ∷ []) c.reserve.ensures.items in
    subst (λ (v : KeptRing). HandsChapterOut c.number-number.result v (record { ring = new; chapters = c.push_reserved.new.self.items; taken = s.taken })) c.self.view_is
    (subst (λ n. HandsChapterOut n s (record { ring = new; chapters = c.push_reserved.new.self.items; taken = s.taken })) (sym c.number-number.ensures.number)
    (subst (λ l. HandsChapterOut out.number s (record { ring = new; chapters = l; taken = s.taken })) (sym items) (out-turned s new (kept-of s c.self.invariant) out c.in-Ok-hand_out.ensures.handed_out c.hand_out.ensures.same_tag c.hand_out.ensures.same_hands)))
