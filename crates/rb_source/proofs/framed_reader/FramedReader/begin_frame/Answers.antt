use Rattle.std.proofs.Common.{◌≡◌, ◌≢◌, ℕ, ◌+◌, ◌-◌, ◌<◌, ◌≤◌, ◌^◌, min, Bool, true, false, eqb, Option, None, Some, List, [], ◌++◌, length, take, drop, refl, sym, ap, ◌∙◌, subst, arith}
use Rattle.std.specs.Int.{w32, to_le_bytes}
use Rattle.rb_source.specs.declared.framing.Framing.TheVariants.{Frames}
use Rattle.rb_source.specs.declared.long.Long.TheVariants.{Frame}
use Rattle.rb_source.specs.Framing.{IsPartial}
use Rattle.rb_source.specs.Stream.{FramedInput}
use Rattle.rb_source.specs.inner.Steps.{GivesNone}
use Rattle.rb_source.proofs.Steps.{frame_begun}
use Rattle.rb_source.proofs.framed_reader.FramedReader.begin_frame.Goals as goal

pub returns-clause-gave : goal.returns-clause-gave
returns-clause-gave g c =
    let S = FramedInput g.row.R.Denot in
    let rem = g.R.Read.remaining in
    let old : S = record { reader = c.self.inside.reader; framing = c.self.inside.framing; form = c.self.inside.form; rest = c.self.inside.window; long = c.self.inside.long; kept = c.self.inside.kept.items; counts = c.self.inside.counts; over = c.self.inside.over } in
    let short : c.self.inside.long ≡ None = ap (λ (s : S). s.long) c.self.view_is ∙ c.requires.short in
    let partial : IsPartial c.self.inside.framing c.self.inside.form.len c.self.inside.window = subst (λ (s : S). IsPartial s.framing s.form.len s.rest) (sym c.self.view_is) c.requires.partial in
    let full : length c.self.inside.window ≡ 131072 = ap (λ (s : S). length s.rest) c.self.view_is ∙ c.requires.full in
    let is : c.bytes-bytes.result.now ≡ c.self.inside.window = c.bytes-bytes.ensures.value in
    let total = c.frame_length-total.result in
    let missing = total - (length c.bytes-bytes.result.now - 4) in
    let len = c.self.inside.form.len in
    let new : S = record old { rest = c.clear.new.self; long = Some (Frame total missing); kept = c.keep.new.kept.items } in
    let frames : c.self.inside.framing ≡ Frames = ap (λ (s : S). s.framing) c.self.view_is ∙ c.requires.frames in
    let front : take 4 c.self.inside.window ≡ to_le_bytes w32 total = ap (take 4) (sym is) ∙ c.frame_length-total.ensures.value in
    let n : 4 + len - 4 ≡ len = omega arith in
    let kept : c.keep.new.kept.items ≡ take len (drop 4 c.self.inside.window) = c.keep.ensures ∙ ap (λ k. take k (drop 4 c.bytes-bytes.result.now)) n ∙ ap (λ (b : List ℕ). take len (drop 4 b)) is in
    subst (λ (s : S). GivesNone rem s new) c.self.view_is
    (frame_begun rem old total missing c.clear.new.self c.keep.new.kept.items frames short partial full front (omega (arith, c.frame_length-total.type_inv)) c.self.invariant.lawful kept (ap (λ (b : List ℕ). total - (length b - 4)) is) c.clear.ensures.empty)
