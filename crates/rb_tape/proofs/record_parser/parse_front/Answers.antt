use Rattle.std.proofs.Common.{◌≡◌, drop, length, sym, ◌∙◌, arith}
use Rattle.std.proofs.lemmas.Bool.{true≢false}
use Rattle.std.proofs.lemmas.List.{length-drop}
use Rattle.rb_history.specs.TapeBytes.{padding}
use Rattle.rb_tape.specs.TapeFront.{StartsWithHeader, IsHeaderAt, HasDiscardedBytes, payload_after, padding_after}
use Rattle.rb_tape.proofs.TapeFronts.{begins_bytes, payload_part, padding_part, are_zeros, were_zeros}
use Rattle.rb_tape.proofs.record_parser.parse_front.Goals as goal
use Rattle.rb_tape.proofs.record_parser.parse_front.Goals.{else-header-2-via-then-header-2+else-not-is_zero, else-header-2-via-else-header-2}

begins : (c : goal.Then-not-is_zero-2) → StartsWithHeader c.args.bytes.now c.in-Ok.header (drop 8 c.args.bytes.now)
begins c = begins_bytes c.args.bytes.now c.in-Ok.header c.in-Ok.ensures.found.0.fields (c.in-Ok.ensures.found.1 ∙ c.copy_from_slice.ensures.after)

header_at : (c : goal.Then-not-is_zero-2) → IsHeaderAt c.args.size c.args.position c.in-Ok.header
header_at c = record {
  taken = c.if-header.false;
  page = sym c.from.ensures ∙ c.if-from-page_of.false ∙ c.page_of.ensures.value;
  fits = (omega arith, omega arith);
}

front_is : (c : goal.Then-not-is_zero-2) → c.split_at.result.0.now ≡ payload_after c.in-Ok.header (drop 8 c.args.bytes.now)
front_is c = payload_part c.args.bytes.now c.split_at.result.0.now c.in-Ok.header (rw (← c.span-span.ensures.value) c.split_at.ensures.front)

back_is : (c : goal.Then-not-is_zero-2) → c.split_at.result.1.now ≡ padding_after c.in-Ok.header (drop 8 c.args.bytes.now)
back_is c = padding_part c.args.bytes.now c.split_at.result.1.now c.in-Ok.header (rw (← c.span-span.ensures.value) c.split_at.ensures.back)

back_length : (c : goal.Then-not-is_zero-2) → length c.split_at.result.1.now ≡ padding c.in-Ok.header.len
back_length c = omega arith

clean : (c : goal.Then-not-is_zero-2) → HasDiscardedBytes c.in-Ok.header (drop 8 c.args.bytes.now) → ⊥
clean c (d, n) = elim c.else-header-2.branch [
  | else-header-2-via-then-header-2+else-not-is_zero w ↦ n (are_zeros c.split_at.result.0.now _ c.in-Ok.header.len (front_is c) c.split_at.ensures.front_len (w.is_zero.ensures.0 w.if-not-is_zero.false))
  | else-header-2-via-else-header-2 w ↦ true≢false (sym d ∙ w.if-header-2.false)
]

pub returns-then-not-is_zero-2 : goal.returns-then-not-is_zero-2
returns-then-not-is_zero-2 c = record {
  finds = (
    c.in-Ok.header,
    drop 8 c.args.bytes.now,
    begins c,
    (
      header_at c,
      (let long = length-drop 8 c.args.bytes.now in omega arith),
      clean c,
      λ z. true≢false (sym (c.is_zero-2.ensures.1 (were_zeros c.split_at.result.1.now _ (padding c.in-Ok.header.len) (back_is c) (back_length c) z)) ∙ c.if-not-is_zero-2.true),
    ),
  );
}
