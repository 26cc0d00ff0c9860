use Rattle.std.proofs.Common.{◌≡◌, ℕ, suc, ◌+◌, ◌<◌, ◌≤◌, List, [], ◌∷◌, true, eqb, None, Some, Option, length, take, drop, get_or, sym, ap, ◌∙◌, subst, add-one, arith}
use Rattle.std.proofs.Math.Seq.{take-length, drop-cons}
use Rattle.std.proofs.lemmas.Bool.{eqb-true}
use Rattle.memchr.specs.Find.{IsFirstByte, is_byte}
use Rattle.rb_source.specs.Framing.{HasNoLineFeed, line_feed}
use Rattle.rb_source.specs.inner.Look.{FindsLineFeed}
use Rattle.rb_source.proofs.portion_parser.find_line_feed.Goals as goal

-- there is no line feed among the first n bytes
none_before : (bytes : List ℕ) (n : ℕ) → ((k : ℕ) → k < n → eqb (get_or bytes k 0) 10 ≡ true → ⊥) → HasNoLineFeed (take n bytes)
none_before bytes ℕ.zero h = tt
none_before [] (suc n) h = tt
none_before (x ∷ xs) (suc n) h = ((λ e. h 0 (omega arith) (ap (λ b. eqb b 10) e)), none_before xs n (λ k l. h (suc k) (omega arith)))

found : (bytes : List ℕ) (r : Option ℕ) → IsFirstByte (is_byte 10) bytes r → FindsLineFeed bytes r
found bytes None h = subst HasNoLineFeed (take-length bytes) (none_before bytes (length bytes) (λ k l. h k (omega arith) l))
found bytes (Some k) h = (
  h.0.high,
  none_before bytes k (λ i l. h.0.before i (omega arith) l),
  rw add-one (let lt : k < length bytes = h.0.high in drop-cons bytes k 0 lt ∙ ap (λ b. b ∷ drop (suc k) bytes) (eqb-true (get_or bytes k 0) 10 h.1)),
)

pub returns : goal.returns
returns c = record { finds = found c.args.bytes.now c.memchr.result c.memchr.ensures }
