use Rattle.std.proofs.Common.{◌++◌, [], ◌∷◌, sym, ap, ◌∙◌, append-nil}
use Rattle.rb_chapter_ring.specs.Chapters.{joined}
use Rattle.rb_chapter_ring.proofs.Keeping.{calls-keep}
use Rattle.rb_chapter_ring.specs.ChapterRing.{whole_ring}
use Rattle.rb_history.specs.declared.answers.Taken.TheVariants.{Event, Skipped, BusyFront, Empty}
use Rattle.rb_world.specs.declared.turn_done.TurnDone.TheVariants as turn
use Rattle.rb_world.specs.WorldValue.{KeptRing, world_ring}
use Rattle.rb_world.proofs.ShownWorlds.{took, refused-take}
use Rattle.rb_world.proofs.KeptChapters.{kept-of, same-has}
use Rattle.rb_world.proofs.WholeCalls.{take-stands}
use Rattle.rb_world.proofs.consumed_ring.ConsumedRing.consume.Goals as goal

pub returns-then-is_err-clause-taken : goal.returns-then-is_err-clause-taken
returns-then-is_err-clause-taken c =
    (refused-take (world_ring c.args.self.now) (whole_ring (joined c.self.inside.chapters.items) c.self.inside.ring.state.ring) c.self.inside.taken.items c.reserve.new.self.items (sym (ap world_ring c.self.view_is)) c.reserve.ensures.items)

pub returns-in-BusyFront-clause-taken : goal.returns-in-BusyFront-clause-taken
returns-in-BusyFront-clause-taken c =
    let s : KeptRing = record { ring = c.self.inside.ring; chapters = c.self.inside.chapters.items; taken = c.self.inside.taken.items } in
    let t = take-stands s c.take-found.new.self (kept-of s c.self.invariant) BusyFront c.facts.ensures.stands c.in-BusyFront.ensures.takes in
    (took (world_ring c.args.self.now) (whole_ring (joined c.self.inside.chapters.items) c.self.inside.ring.state.ring) (whole_ring (joined c.self.inside.chapters.items) c.take-found.new.self.state.ring) c.self.inside.taken.items c.reserve.new.self.items BusyFront turn.BusyFront (sym (ap world_ring c.self.view_is))
    t.0 t.1 (c.reserve.ensures.items ∙ sym (append-nil c.self.inside.taken.items)) tt)

pub returns-in-Empty-clause-taken : goal.returns-in-Empty-clause-taken
returns-in-Empty-clause-taken c =
    let s : KeptRing = record { ring = c.self.inside.ring; chapters = c.self.inside.chapters.items; taken = c.self.inside.taken.items } in
    let t = take-stands s c.take-found.new.self (kept-of s c.self.invariant) Empty c.facts.ensures.stands c.in-Empty.ensures.takes in
    (took (world_ring c.args.self.now) (whole_ring (joined c.self.inside.chapters.items) c.self.inside.ring.state.ring) (whole_ring (joined c.self.inside.chapters.items) c.take-found.new.self.state.ring) c.self.inside.taken.items c.reserve.new.self.items Empty turn.Empty (sym (ap world_ring c.self.view_is))
    t.0 t.1 (c.reserve.ensures.items ∙ sym (append-nil c.self.inside.taken.items)) tt)

pub returns-in-Skipped-clause-taken : goal.returns-in-Skipped-clause-taken
returns-in-Skipped-clause-taken c =
    let s : KeptRing = record { ring = c.self.inside.ring; chapters = c.self.inside.chapters.items; taken = c.self.inside.taken.items } in
    let t = take-stands s c.take-found.new.self (kept-of s c.self.invariant) (Skipped c.in-Skipped.pos c.in-Skipped.n) c.facts.ensures.stands c.in-Skipped.ensures.takes in
    (took (world_ring c.args.self.now) (whole_ring (joined c.self.inside.chapters.items) c.self.inside.ring.state.ring) (whole_ring (joined c.self.inside.chapters.items) c.take-found.new.self.state.ring) c.self.inside.taken.items c.push_reserved.new.self.items (Skipped c.in-Skipped.pos c.in-Skipped.n) turn.Skipped (sym (ap world_ring c.self.view_is))
    t.0 t.1 (c.push_reserved.ensures.items ∙ ap (λ l. l ++ Skipped c.in-Skipped.pos c.in-Skipped.n ∷ []) c.reserve.ensures.items) tt)

pub returns-in-Event-clause-taken : goal.returns-in-Event-clause-taken
returns-in-Event-clause-taken c =
    let s : KeptRing = record { ring = c.self.inside.ring; chapters = c.self.inside.chapters.items; taken = c.self.inside.taken.items } in
    let t = take-stands s c.take-found.new.self (kept-of s c.self.invariant) (Event c.in-Event.pos c.in-Event.worker c.in-Event.serial c.in-Event.sheet) c.facts.ensures.stands c.in-Event.ensures.takes in
    (took (world_ring c.args.self.now) (whole_ring (joined c.self.inside.chapters.items) c.self.inside.ring.state.ring) (whole_ring (joined c.self.inside.chapters.items) c.take-found.new.self.state.ring) c.self.inside.taken.items c.push_reserved-in-Event.new.self.items (Event c.in-Event.pos c.in-Event.worker c.in-Event.serial c.in-Event.sheet) turn.Took (sym (ap world_ring c.self.view_is))
    t.0 t.1 (c.push_reserved-in-Event.ensures.items ∙ ap (λ l. l ++ Event c.in-Event.pos c.in-Event.worker c.in-Event.serial c.in-Event.sheet ∷ []) c.reserve.ensures.items) tt)

pub invariant_of-self-in-Skipped : goal.invariant_of-self-in-Skipped
invariant_of-self-in-Skipped c =
    let s : KeptRing = record { ring = c.self.inside.ring; chapters = c.self.inside.chapters.items; taken = c.self.inside.taken.items } in
    same-has s c.take-found.new.self c.push_reserved.new.self.items c.self.invariant c.take-found.ensures.same_chapter ((calls-keep (joined s.chapters) s.ring.state.ring c.take-found.new.self.state.ring (kept-of s c.self.invariant)).takes (Skipped c.in-Skipped.pos c.in-Skipped.n) c.in-Skipped.ensures.takes)

pub invariant_of-self-in-Event : goal.invariant_of-self-in-Event
invariant_of-self-in-Event c =
    let s : KeptRing = record { ring = c.self.inside.ring; chapters = c.self.inside.chapters.items; taken = c.self.inside.taken.items } in
    same-has s c.take-found.new.self c.push_reserved-in-Event.new.self.items c.self.invariant c.take-found.ensures.same_chapter ((calls-keep (joined s.chapters) s.ring.state.ring c.take-found.new.self.state.ring (kept-of s c.self.invariant)).takes (Event c.in-Event.pos c.in-Event.worker c.in-Event.serial c.in-Event.sheet) c.in-Event.ensures.takes)
