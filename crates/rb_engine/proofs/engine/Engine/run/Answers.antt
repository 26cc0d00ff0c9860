use Rattle.std.proofs.Common.{◌≡◌, ◌<◌, length, refl, ap, subst, sym, ◌∙◌, rules}
use Rattle.std.proofs.lemmas.Option.{slice_get_read}
use Rattle.std.specs.Prelude.{slice_get}
use Rattle.std.proofs.lemmas.Bool.{lt-ltb}
use Rattle.rb_verifier.specs.Subject.{Subject}
use Rattle.rb_engine.specs.EngineCalls.{RingsLead}
use Rattle.rb_engine.specs.EngineValue.{EngineValue}
use Rattle.rb_engine.proofs.Noting.{all-at, rings-led, same-count}
use Rattle.rb_engine.proofs.engine.Engine.run.Goals as goal

pub run-requires-clause-rings : goal.run-requires-clause-rings
run-requires-clause-rings c = λ ring low.
    let below : c.args.number < length c.self.inside.programs.items = search rules in
    let fits = all-at (λ (p : Subject). (p.ctx_len ≡ c.self.inside.ctx_len) × (p.rings ≡ length c.self.inside.rings.rings)) c.self.inside.programs.items c.args.number c.index-program.result.now c.self.invariant below c.index-program.ensures in
    let begun : c.begin.new.self.rings ≡ c.self.inside.rings.rings = search rules in
    lt-ltb ring (length c.begin.new.self.rings) (subst (λ n. ring < n) (fits.1 ∙ sym (ap length begun)) low)

pub invariant_of-self-2 : goal.invariant_of-self-2
invariant_of-self-2 c = λ k d low.
    let fits = c.self.invariant k d low in
    let begun : c.begin.new.self.rings ≡ c.self.inside.rings.rings = search rules in
    let count = same-count (length c.run.new.helpers.rings) (length c.begin.new.self.rings) c.run.ensures.rings in (
      fits.0,
      fits.1 ∙ sym (ap length begun) ∙ sym count,
    )

pub returns-clause-count : goal.returns-clause-count
returns-clause-count c =
    let begun : c.begin.new.self.rings ≡ c.self.inside.rings.rings = search rules in
    let count = same-count (length c.run.new.helpers.rings) (length c.begin.new.self.rings) c.run.ensures.rings in
    count ∙ ap length begun ∙ ap (λ (e : EngineValue). length e.rings) c.self.view_is

pub returns-clause-ran : goal.returns-clause-ran
returns-clause-ran c =
    let below : c.args.number < length c.self.inside.programs.items = search rules in
    let begun : c.begin.new.self.rings ≡ c.self.inside.rings.rings = search rules in
    let shows = c.in-Ok.ensures.shows in
    record {
      program = c.index-program.result.now;
      program_is = sym (ap (λ (e : EngineValue). slice_get e.programs c.args.number) c.self.view_is)
          ∙ slice_get_read c.self.inside.programs.items (length c.self.inside.programs.items) c.args.number c.index-program.result.now refl below c.index-program.ensures;
      ran = record {
        calls = shows.0;
        length_is = c.in-Ok.ensures.length;
        shows = shows.1;
        never_stray = c.in-Ok.ensures.never_stray refl;
        led = subst (λ rings. RingsLead rings shows.0 c.run.new.helpers.rings) (begun ∙ ap (λ (e : EngineValue). e.rings) c.self.view_is) (rings-led c.begin.new.self c.run.new.helpers shows.0 shows.2);
      };
    }
