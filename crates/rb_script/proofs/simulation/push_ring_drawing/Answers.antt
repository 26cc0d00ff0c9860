use Rattle.std.proofs.Common.{◌≡◌, ◌++◌, subst}
use Rattle.std.specs.Prelude.{OnOk}
use Rattle.rb_chapter_ring.specs.Chapters.{joined}
use Rattle.rb_world.specs.WorldValue.{ring_at, world_of}
use Rattle.rb_script.proofs.WorldEnds.{drawing-shown}
use Rattle.rb_script.proofs.simulation.push_ring_drawing.Goals as goal

pub returns : goal.returns
returns c =
    let earlier = joined (ring_at c.args.world.now c.args.r).chapters in
    let whole = ((world_of c.args.world.now).rings c.args.r).ring in
    let line = drawing-shown earlier c.ring.result.now.state.ring c.ring.ensures.kept c.args.form c.args.r whole c.ring.ensures.whole c.chapter.result.now c.chapter.ensures.chapter c.closing-closing.result.now.opening c.closing-closing.ensures.closing in
    record { line = subst (λ l. OnOk c.push_drawing.result (c.push_drawing.new.text.items ≡ c.args.text.now.items ++ l)) line c.push_drawing.ensures.line }
