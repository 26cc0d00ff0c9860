-- Combining the pieces of a payload's read.
use Rattle.std.proofs.Common.{◌≡◌, ℕ, ◌+◌, ◌<◌, ◌≤◌, ◌^◌, ◌++◌, List, Option, length, take, drop, refl, sym, ap, ◌∙◌, subst, arith, inr}
use Rattle.std.proofs.Math.Seq.{take-append_seam}
use Rattle.std.proofs.lemmas.List.{take_all, length-take-le}
use Rattle.std.specs.Int.{w32, to_le_bytes}
use Rattle.std.specs.Io.KnownBytes.{Consumes, IsAtEnd}
use Rattle.std.proofs.KnownBytes.{Consumes-trans}
use Rattle.rb_history.specs.Span.{span}
use Rattle.rb_tape_commands.specs.PayloadReads.{FindsPayload, FindsSome, FindsCut}
use Rattle.rb_tape_commands.specs.inner.SeenPayloads.{IsSeenWhole}

-- the four bytes that were read encode the number that they decode to
pub length_read : (a b : Option (List ℕ)) (field : List ℕ) (n len : ℕ) → length field ≡ 4 → n ≡ 4 → to_le_bytes w32 len ≡ field → Consumes a b (take n field) → Consumes a b (to_le_bytes w32 len)
length_read a b field n len four all spells read = subst (Consumes a b) (take_all n field (omega arith) ∙ sym spells) read

-- a length was read, and then some bytes
pub some_read : (a b c : Option (List ℕ)) (len : ℕ) → Consumes a b (to_le_bytes w32 len) → ((bytes : List ℕ) × Consumes b c bytes) → FindsSome a c
some_read a b c len first more = record { part = to_le_bytes w32 len ++ more.0; read = Consumes-trans a b c _ _ first more.1 }

-- a length was read, and then fewer bytes than it says, up to the end
pub cut_read : (size : ℕ) (a b c : Option (List ℕ)) (len n : ℕ) (sheet : List ℕ) → Consumes a b (to_le_bytes w32 len) → Consumes b c (take n sheet) → len < 2 ^ 32 → span len < size → n ≤ length sheet → n < len → IsAtEnd c → FindsCut size a c
cut_read size a b c len n sheet first more field room within short end =
    let n_read = length-take-le n sheet within in
    record {
      part = to_le_bytes w32 len ++ take n sheet;
      read = Consumes-trans a b c _ _ first more;
      cut = inr (record { len = len; part = take n sheet; text_is = refl; has_field = field; room = room; short = omega arith });
      at_end = end;
    }

-- what was complete at the front of a buffer was read
pub seen_read : (size : ℕ) (a b : Option (List ℕ)) (seen payload : List ℕ) → IsSeenWhole size seen payload → Consumes a b (take (4 + length payload) seen) → FindsPayload size a b payload
seen_read size a b seen payload whole read = record { read = subst (Consumes a b) whole.front read; room = whole.room }

-- a payload that was complete in the buffer was copied, and consumed
pub copied_read : (size : ℕ) (a b : Option (List ℕ)) (seen payload sheet : List ℕ) → IsSeenWhole size seen payload → sheet ≡ payload → Consumes a b (take (4 + length payload) seen) → FindsPayload size a b sheet
copied_read size a b seen payload sheet whole same read = subst (FindsPayload size a b) (sym same) (seen_read size a b seen payload whole read)

-- a sheet whose bytes were all overwritten has the new ones
pub written_over : (sheet put payload : List ℕ) → put ≡ payload → length sheet ≡ length payload → take (length sheet) (put ++ drop (length put) sheet) ≡ payload
written_over sheet put payload same sized = ap (λ n. take n (put ++ drop (length put) sheet)) (sized ∙ sym (ap length same)) ∙ take-append_seam put (drop (length put) sheet) ∙ same
