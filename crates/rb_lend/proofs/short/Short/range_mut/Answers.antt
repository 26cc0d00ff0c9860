use Rattle.std.proofs.Common.{◌≡◌, ◌≤◌, ◌+◌, ℕ, List, length, take, drop, refl, sym, ap, ◌∙◌, subst}
use native.Mathlib.Omega.{arith}
use Rattle.std.proofs.lemmas.List.{length-take-le}
use Rattle.rb_lend.specs.Ranges.{in_place_of, written_at}
use Rattle.rb_lend.proofs.Fronts.{front_written, part_of_front}
use Rattle.rb_lend.proofs.short.Short.range_mut.Goals as goal

pub returns : goal.returns
returns c =
    let n : ℕ = c.self.inside.len in
    let d : List ℕ = c.self.inside.block.bytes in
    let size = c.range_mut.ensures.value.1.1 in
    let short = c.self.invariant in
    let le : n ≤ length d = omega (arith, size, short) in
    let within : c.args.at + c.args.len ≤ length (take n d) = subst (λ (s : List ℕ). c.args.at + c.args.len ≤ length s) (sym c.self.view_is) c.requires in
    let long : length (take n d) ≡ n = length-take-le n d le in (
      (refl, λ w. front_written c.args.at n d w le ∙ ap (λ s. in_place_of s (written_at c.args.at s w)) c.self.view_is),
      record {
        writes_back = tt;
        value = c.range_mut.ensures.value.0 ∙ sym (part_of_front c.args.at c.args.len n d (omega (arith, within, long))) ∙ ap (λ s. take c.args.len (drop c.args.at s)) c.self.view_is;
      },
    )
