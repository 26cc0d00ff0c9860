use Rattle.std.proofs.Common.{◌≡◌, ◌&&◌, false, ap, arith, refl, Ok}
use Rattle.std.proofs.lemmas.Bool.{false≢true, and_left, and_right}
use Rattle.rb_history.proofs.HeaderBytes.{bit_test, bit_set, bit_clear, read_bytes, no_header, both_bits, read_header, only_header, no_fault}
use Rattle.rb_history.proofs.headers.Header.from_bytes.Goals as goal
use Rattle.rb_history.proofs.headers.Header.from_bytes.Goals.{else-busy-via-then-busy+else-discard, else-busy-via-else-busy}

pub returns-then-discard-clause-only : goal.returns-then-discard-clause-only
returns-then-discard-clause-only c h i e = absurd (no_header c.args.bytes.now c.read_u32-word.result c.read_u32-page.result c.told-bytes c.fits-bytes (omega arith) (omega arith) (bit_set _ _ c.if-busy.true) (bit_set _ _ c.if-discard.true) h i e)

pub returns-then-discard-clause-fault : goal.returns-then-discard-clause-fault
returns-then-discard-clause-fault c = (λ _. both_bits c.args.bytes.now c.read_u32-word.result c.read_u32-page.result c.told-bytes c.fits-bytes (omega arith) (omega arith) (bit_set _ _ c.if-busy.true) (bit_set _ _ c.if-discard.true), λ _. refl)

not_both : (c : goal.Joined-else-busy) → (bit_test c.read_u32-word.result 2147483648 && bit_test c.read_u32-word.result 1073741824) ≡ false
not_both c = elim c.else-busy.branch [
  | else-busy-via-then-busy+else-discard w ↦ and_right (bit_test c.read_u32-word.result 2147483648) (bit_test c.read_u32-word.result 1073741824) (bit_clear _ _ w.if-discard.false)
  | else-busy-via-else-busy w ↦ and_left (bit_test c.read_u32-word.result 2147483648) (bit_test c.read_u32-word.result 1073741824) (bit_clear _ _ w.if-busy.false)
]

pub returns-clause-found : goal.returns-clause-found
returns-clause-found c = (read_header c.args.bytes.now c.read_u32-word.result c.read_u32-page.result c.told-bytes c.fits-bytes (omega arith) (omega arith) (not_both c), read_bytes c.args.bytes.now c.read_u32-word.result c.read_u32-page.result c.told-bytes c.fits-bytes (omega arith) (omega arith))

pub returns-clause-only : goal.returns-clause-only
returns-clause-only c h i e = ap Ok (only_header c.args.bytes.now c.read_u32-word.result c.read_u32-page.result c.told-bytes c.fits-bytes (omega arith) (omega arith) h i e)

pub returns-clause-fault : goal.returns-clause-fault
returns-clause-fault c = (λ n. absurd (false≢true n), λ both. absurd (no_fault c.args.bytes.now c.read_u32-word.result c.read_u32-page.result c.told-bytes c.fits-bytes (omega arith) (omega arith) (not_both c) both))
