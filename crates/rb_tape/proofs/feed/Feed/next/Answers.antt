use Rattle.std.proofs.Common.{◌+◌, drop, refl, sym, ap, ◌∙◌}
use Rattle.rb_tape.proofs.TapeFronts.{rest_is, shows_there, starts_there, spans_there}
use Rattle.rb_tape.proofs.feed.Feed.next.Goals as goal

pub returns-in-Err : goal.returns-in-Err
returns-in-Err c =
    let same = rest_is c.deref.result.now c.self.inside.bytes.items c.self.inside.at c.deref.ensures.value in
    rw (← c.self.view_is, c.in-None.is) ((refl, λ _. tt, (refl, refl, shows_there _ _ _ _ _ same c.in-Err.ensures.finds, tt)), record { reads = tt })

pub returns : goal.returns
returns c =
    let same = rest_is c.deref.result.now c.self.inside.bytes.items c.self.inside.at c.deref.ensures.value in
    let whole = rw c.in-Ok-Some.field-0-is at c.in-Ok-Some.ensures.finds in
    let again = rest_is c.deref-2.result.now c.self.inside.bytes.items c.self.inside.at c.deref-2.ensures.value in
    rw (← c.self.view_is) (
      (
        refl,
        λ _. tt,
        (
          c.in-None.is,
          record {
            starts = rw c.span-span.ensures.value (starts_there c.self.inside.size c.self.inside.position c.self.inside.at c.self.inside.bytes.items _ _ c.in-Ok-Some.header _ same again c.self.invariant.0 whole c.record_at_front.ensures.item);
            moves = ap (λ n. c.self.inside.position + n) (c.span-span.ensures.value ∙ sym (spans_there c.self.inside.size c.self.inside.position (drop c.self.inside.at c.self.inside.bytes.items) _ _ c.in-Ok-Some.header _ same again whole c.record_at_front.ensures.item));
            size = refl;
            start = refl;
            told = c.in-None.is;
          },
          c.record_at_front.ensures.length,
        ),
      ),
      record { reads = tt },
    )
