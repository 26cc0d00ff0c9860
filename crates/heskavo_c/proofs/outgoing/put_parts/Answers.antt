use Rattle.std.proofs.Common.{◌+◌, ◌++◌, [], length, replicate, refl, sym, ap, ◌∙◌, length-append}
use Rattle.std.proofs.lemmas.List.{length-replicate}
use Rattle.heskavo_c.proofs.Fronts.{front_grows}
use Rattle.heskavo_c.proofs.outgoing.put_parts.Goals as goal

pub returns : goal.returns
returns c =
    let header = c.args.header.now in
    let payload = c.args.payload.now in
    let old = c.args.out.now in
    let first = front_grows [] header old old c.put_at.new.out 0 (0 + length header) refl refl refl c.put_at.ensures in
    let second = front_grows header payload old c.put_at.new.out c.put_at-2.new.out 8 (8 + length payload) c.told-header refl first c.put_at-2.ensures in
    front_grows (header ++ payload) (replicate c.args.zeros 0) old c.put_at-2.new.out c.zero_at.new.out (8 + length payload) (8 + length payload + c.args.zeros)
    (length-append header payload ∙ ap (λ n. n + length payload) c.told-header) (ap (λ n. 8 + length payload + n) (sym (length-replicate c.args.zeros 0))) second c.zero_at.ensures
