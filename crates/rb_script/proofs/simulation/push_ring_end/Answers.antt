use Rattle.std.proofs.Common.{◌≡◌, ◌++◌, subst}
use Rattle.std.specs.Prelude.{OnOk}
use Rattle.rb_chapter_ring.specs.Chapters.{joined}
use Rattle.rb_world.specs.WorldValue.{ring_at, world_of}
use Rattle.rb_script.proofs.WorldEnds.{ring-shown}
use Rattle.rb_script.proofs.simulation.push_ring_end.Goals as goal

pub returns : goal.returns
returns c =
    let earlier = joined (ring_at c.args.world.now c.args.r).chapters in
    let whole = ((world_of c.args.world.now).rings c.args.r).ring in
    let line = ring-shown earlier c.ring-ring.result.now.state.ring c.ring-ring.ensures.kept c.args.form c.args.r whole c.ring-ring.ensures.whole c.query-producer.result c.query-consumer.result c.counts.result c.query-producer.ensures.answer c.query-consumer.ensures.answer c.counts.ensures.counts in
    record { line = subst (λ l. OnOk c.push_ring.result (c.push_ring.new.text.items ≡ c.args.text.now.items ++ l)) line c.push_ring.ensures.line }
