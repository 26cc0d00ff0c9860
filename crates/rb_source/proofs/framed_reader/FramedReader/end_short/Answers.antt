use Rattle.std.proofs.Common.{◌≡◌, ◌≢◌, ℕ, ◌+◌, ◌-◌, ◌<◌, ◌≤◌, ◌^◌, min, Bool, true, false, eqb, Option, None, Some, List, [], ◌++◌, length, take, drop, refl, sym, ap, ◌∙◌, subst, arith}
use Rattle.std.proofs.lemmas.Bool.{true≢false}
use Rattle.rb_source.specs.Framing.{IsPartial}
use Rattle.rb_source.specs.Stream.{FramedInput}
use Rattle.rb_source.specs.inner.Steps.{Appends}
use Rattle.rb_source.proofs.Steps.{gives_none, last_line, no_step, over_gives, short_is_cut}
use Rattle.rb_source.proofs.framed_reader.FramedReader.end_short.Goals as goal

pub returns-then-is_empty-clause-gave : goal.returns-then-is_empty-clause-gave
returns-then-is_empty-clause-gave g c =
    let S = FramedInput g.row.R.Denot in
    let rem = g.R.Read.remaining in
    let old : S = record { reader = c.self.inside.reader; framing = c.self.inside.framing; form = c.self.inside.form; rest = c.self.inside.window; long = c.self.inside.long; kept = c.self.inside.kept.items; counts = c.self.inside.counts; over = c.self.inside.over } in
    let new : S = record old { over = true } in
    subst (λ (s : S). Appends rem s new c.args.piece.now c.args.piece.now) c.self.view_is (over_gives rem old true c.args.piece.now)

pub returns-then-is_empty-2-clause-gave : goal.returns-then-is_empty-2-clause-gave
returns-then-is_empty-2-clause-gave g c =
    let S = FramedInput g.row.R.Denot in
    let rem = g.R.Read.remaining in
    let old : S = record { reader = c.self.inside.reader; framing = c.self.inside.framing; form = c.self.inside.form; rest = c.self.inside.window; long = c.self.inside.long; kept = c.self.inside.kept.items; counts = c.self.inside.counts; over = c.self.inside.over } in
    let line = c.bytes-line.result.now in
    let new : S = record old { rest = c.clear.new.self; counts = c.emit.new.counts; over = true } in
    let short : c.self.inside.long ≡ None = ap (λ (s : S). s.long) c.self.view_is ∙ c.requires.short in
    let partial : IsPartial c.self.inside.framing c.self.inside.form.len c.self.inside.window = subst (λ (s : S). IsPartial s.framing s.form.len s.rest) (sym c.self.view_is) c.requires.partial in
    let is : line ≡ c.self.inside.window = c.bytes-line.ensures.value in
    let size = ap length is in
    let some : c.self.inside.window ≢ [] = λ z. true≢false (sym (ap (λ (b : List ℕ). eqb (length b) 0) (c.bytes.ensures.value ∙ z)) ∙ sym c.is_empty.ensures ∙ c.if-is_empty.false) in
    let small : length c.self.inside.window ≤ 131072 = omega (arith, c.bytes-line.ensures.bound) in
    subst (λ (s : S). Appends rem s new c.args.piece.now c.emit.new.piece) c.self.view_is
    (last_line rem old c.clear.new.self line (length line) c.emit.new.counts c.args.piece.now c.emit.new.piece short c.in-Lines.is partial some small c.self.invariant.lawful is size c.clear.ensures.empty c.emit.ensures.counted c.emit.ensures.given)

pub returns-else-is_empty-2-clause-gave : goal.returns-else-is_empty-2-clause-gave
returns-else-is_empty-2-clause-gave g c =
    let S = FramedInput g.row.R.Denot in
    let rem = g.R.Read.remaining in
    let old : S = record { reader = c.self.inside.reader; framing = c.self.inside.framing; form = c.self.inside.form; rest = c.self.inside.window; long = c.self.inside.long; kept = c.self.inside.kept.items; counts = c.self.inside.counts; over = c.self.inside.over } in
    let line = c.bytes-line.result.now in
    let new : S = record old { rest = c.clear.new.self; counts = c.emit.new.counts; over = true } in
    let short : c.self.inside.long ≡ None = ap (λ (s : S). s.long) c.self.view_is ∙ c.requires.short in
    let partial : IsPartial c.self.inside.framing c.self.inside.form.len c.self.inside.window = subst (λ (s : S). IsPartial s.framing s.form.len s.rest) (sym c.self.view_is) c.requires.partial in
    let is : line ≡ c.self.inside.window = c.bytes-line.ensures.value in
    let size = ap length is in
    let some : c.self.inside.window ≢ [] = λ z. true≢false (sym (ap (λ (b : List ℕ). eqb (length b) 0) (c.bytes.ensures.value ∙ z)) ∙ sym c.is_empty.ensures ∙ c.if-is_empty.false) in
    let small : length c.self.inside.window ≤ 131072 = omega (arith, c.bytes-line.ensures.bound) in
    subst (λ (s : S). Appends rem s new c.args.piece.now c.emit.new.piece) c.self.view_is
    (last_line rem old c.clear.new.self line (length line) c.emit.new.counts c.args.piece.now c.emit.new.piece short c.in-Lines.is partial some small c.self.invariant.lawful is size c.clear.ensures.empty c.emit.ensures.counted c.emit.ensures.given)

pub returns-in-Frames : goal.returns-in-Frames
returns-in-Frames g c =
    let S = FramedInput g.row.R.Denot in
    let some : c.args.self.now.rest ≢ [] = λ z. true≢false (sym (ap (λ (b : List ℕ). eqb (length b) 0) (c.bytes.ensures.value ∙ ap (λ (s : S). s.rest) c.self.view_is ∙ z)) ∙ sym c.is_empty.ensures ∙ c.if-is_empty.false) in
    record {
      gave = gives_none g.R.Read.remaining c.args.self.now c.args.self.now c.args.piece.now (no_step g.R.Read.remaining c.args.self.now);
      count = c.requires.empty;
      end = tt;
      over = λ o. absurd (true≢false (sym o ∙ c.requires.open));
      fault = (c.requires.end, c.arrived.ensures.value, λ part h. short_is_cut c.args.self.now c.requires.short some c.requires.partial part h);
    }
