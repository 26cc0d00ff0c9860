-- The numbers of headers, and positions on one page.
use Rattle.std.proofs.Common.{◌≡◌, ℕ, ◌+◌, ◌-◌, ◌*◌, ◌/◌, ◌%◌, ◌^◌, ◌<◌, ◌≤◌, ◌++◌, Bool, true, false}
use Rattle.std.proofs.Common.{if◌then◌else◌, min, refl, sym, ap, subst, ◌∙◌, inl, inr, arith}
use Rattle.std.proofs.Math.Arith.{mod-mul}
use Rattle.std.proofs.lemmas.Bool.{cases_order, true≢false}
use Rattle.std.proofs.lemmas.Nat.{from_le_bytes-to_le_bytes_8, mod_below, pow-add, pow_below, pow_pos}
use Rattle.std.specs.Int.{IsPowerOfTwo, w32, w64, to_le_bytes, from_le_bytes}
use Rattle.rb_history.specs.declared.headers.Header.{Header}
use Rattle.rb_history.specs.declared.headers.TheConstants.{BUSY_BIT, DISCARD_BIT}
use Rattle.rb_history.specs.Header.{header_bytes, HasFields}
use Rattle.rb_history.specs.Span.{span}
use Rattle.rb_history.specs.TapeBytes.{page_of}
use Rattle.rb_linux_ring.specs.LinuxHeaders.{IsLinuxHeaderAt, IsLinuxPlace, ShowsHeader, ShowsLinuxFront}
use Rattle.rb_linux_ring.specs.LinuxWindows.{IsLinuxWindow}
use Rattle.rb_linux_ring.specs.declared.linux_header.LinuxFront.TheVariants.{Record}

-- the eight bytes of a number are those of its lower half and then those of its upper half
pub two_halves : (low high : ℕ) → low < 2 ^ 32 → high < 2 ^ 32
    → to_le_bytes w32 low ++ to_le_bytes w32 high ≡ to_le_bytes w64 (high * 2 ^ 32 + low)
two_halves low high hl hh =
    let n = high * 4294967296 + low in
    let e0 : n % 256 ≡ low % 256 = omega arith in
    let e1 : n / 256 % 256 ≡ low / 256 % 256 = omega arith in
    let e2 : n / 65536 % 256 ≡ low / 65536 % 256 = omega arith in
    let e3 : n / 16777216 % 256 ≡ low / 16777216 % 256 = omega arith in
    let e4 : n / 4294967296 % 256 ≡ high % 256 = omega arith in
    let e5 : n / 1099511627776 % 256 ≡ high / 256 % 256 = omega arith in
    let e6 : n / 281474976710656 % 256 ≡ high / 65536 % 256 = omega arith in
    let e7 : n / 72057594037927936 % 256 ≡ high / 16777216 % 256 = omega arith in
    cc

-- numbers with the same eight bytes are one
pub same_number : (m n : ℕ) → m < 2 ^ 64 → n < 2 ^ 64 → to_le_bytes w64 m ≡ to_le_bytes w64 n → m ≡ n
same_number m n hm hn e =
    sym (from_le_bytes-to_le_bytes_8 m hm) ∙ ap (from_le_bytes w64) e ∙ from_le_bytes-to_le_bytes_8 n hn

-- a power of two from 4,096 on is a number of whole pages
pub whole_pages : (size : ℕ) → IsPowerOfTwo size → 4096 ≤ size → (m : ℕ) × (size ≡ m * 4096) × (0 < m)
whole_pages size (k, is) large = elim (cases_order k 12) [
  | inl e ↦ (1, is ∙ ap (λ x. 2 ^ x) e, omega arith)
  | inr (inl below) ↦ let less : 2 ^ k < 2 ^ 12 = pow_below k 12 below in absurd (omega arith)
  | inr (inr above) ↦
      let split : 2 ^ (k - 12 + 12) ≡ 2 ^ (k - 12) * 2 ^ 12 = pow-add 2 (k - 12) 12 in
      let same : k ≡ k - 12 + 12 = omega arith in
      (2 ^ (k - 12), is ∙ ap (λ x. 2 ^ x) same ∙ split, pow_pos (k - 12))
]

-- positions between the same multiples of 4,096 have the same page
pub same_page : (size position p : ℕ) → IsPowerOfTwo size → 4096 ≤ size → position ≤ p
    → p < position - position % 4096 + 4096 → page_of size p ≡ page_of size position
same_page size position p power large begins ends =
    let pages = whole_pages size power large in
    let m = pages.0 in
    let near : p / 4096 ≡ position / 4096 = omega arith in
    let at : (n : ℕ) → n % size / 4096 ≡ n / 4096 % m = λ n.
    let split : n % (m * 4096) ≡ n / 4096 % m * 4096 + n % 4096 = mod-mul n pages.2 (omega arith) in
    let one : n % size ≡ n % (m * 4096) = ap (λ s. n % s) pages.1 in
    omega (arith, split, one) in
    at p ∙ ap (λ q. q % m) near ∙ sym (at position)

-- a page's number is below 2^24
pub page_below : (size position : ℕ) → 4096 ≤ size → size ≤ 2 ^ 36 → page_of size position < 2 ^ 24
page_below size position large small =
    let inside : position % size < size = mod_below position size (omega arith) in
    omega (arith, inside)

-- a record has room in a ring exactly if it has no more bytes than all but 16 of the ring's
pub room_of_span : (size len : ℕ) → IsPowerOfTwo size → 4096 ≤ size → len ≤ size - 16 → span len < size
room_of_span size len power large short =
    let pages = whole_pages size power large in
    let is = pages.1 in
    omega arith

pub span_of_room : (size len : ℕ) → IsPowerOfTwo size → 4096 ≤ size → span len < size → len ≤ size - 16
span_of_room size len power large fits =
    let pages = whole_pages size power large in
    let is = pages.1 in
    omega arith

-- the length word of a header without bits is its length
plain_word : (len : ℕ) (discard busy : Bool) → false ≡ discard → busy ≡ false
    → len + (if discard then DISCARD_BIT else 0) + (if busy then BUSY_BIT else 0) ≡ len
plain_word len false false d b = omega arith
plain_word len true busy d b = absurd (true≢false (sym d))
plain_word len false true d b = absurd (true≢false b)

-- the bytes of a header without bits are those of one number
plain_bytes : (h : Header) → HasFields h → false ≡ h.discard → h.busy ≡ false
    → header_bytes h ≡ to_le_bytes w64 (h.page * 2 ^ 32 + h.len)
plain_bytes h fields d b =
    ap (λ w. to_le_bytes w32 w ++ to_le_bytes w32 h.page) (plain_word h.len h.discard h.busy d b)
    ∙ two_halves h.len h.page (let few = fields.len in omega (arith, few)) fields.page

-- the number is the header of a submitted record
header_shown : (size pages p len first : ℕ) → IsPowerOfTwo size → 4096 ≤ size → p ≤ 2 ^ 61 + 4096
    → pages + page_of size p < 2 ^ 32 → first ≡ (pages + page_of size p) * 2 ^ 32 → len ≤ size - 16 → len < 2 ^ 30
    → ShowsLinuxFront size p pages (first + len) (Record len false (p + span len))
header_shown size pages p len first power large low below first_is short few =
    let page = pages + page_of size p in
    let h : Header = record { len = len; busy = false; discard = false; page = page } in
    let fields : HasFields h = record { len = few; page = below } in
    let sum : page * 2 ^ 32 + len ≡ first + len = ap (λ x. x + len) (sym first_is) in
    let shown : ShowsHeader (first + len) h = record {
      is_header = record { fields = fields; one_bit = refl };
      bytes = plain_bytes h fields refl refl ∙ ap (to_le_bytes w64) sum;
    } in
    let ends : p + span len ≤ 2 ^ 62 = omega arith in
    let at : IsLinuxHeaderAt size p pages (first + len) h = record { shown = shown; page = refl; fits = (room_of_span size len power large short, ends) } in
    (h, at, refl, refl, refl, refl)

-- no other number is
header_only : (size pages p number len next first : ℕ) → IsPowerOfTwo size → 4096 ≤ size
    → first ≡ (pages + page_of size p) * 2 ^ 32 → number < 2 ^ 64
    → ShowsLinuxFront size p pages number (Record len false next)
    → (number ≡ first + len) × (len ≤ size - 16) × (len < 2 ^ 30)
header_only size pages p number len next first power large first_is small (h, at, busy, len_is, discard, next_is) =
    let fields = at.shown.is_header.fields in
    let few = fields.len in
    let below = fields.page in
    let page_is = at.page in
    let bytes = sym (plain_bytes h fields discard busy) ∙ at.shown.bytes in
    let same : h.page * 2 ^ 32 + h.len ≡ number =
    same_number (h.page * 2 ^ 32 + h.len) number (omega (arith, few, below)) small bytes in
    let front : h.page * 2 ^ 32 ≡ first = ap (λ x. x * 2 ^ 32) page_is ∙ sym first_is in
    let fits = subst (λ n. span n < size) (sym len_is) at.fits.0 in
    (omega (arith, same, front, len_is), span_of_room size len power large fits, omega (arith, few, len_is))

-- a page's window
pub page_window : (size position pages first most end : ℕ) → IsLinuxPlace size position → pages < 2 ^ 31
    → first ≡ (pages + page_of size position) * 2 ^ 32 → most ≡ min (size - 16) 1073741823
    → end ≡ position - position % 4096 + 4096
    → IsLinuxWindow size position pages (record { first = first; max_len = most; end = end })
page_window size position pages first most end place few first_is most_is end_is =
    let power = place.0.0 in
    let large = place.0.1 in
    let below = page_below size position large place.0.2 in
    let low : position ≤ 2 ^ 61 = place.1.1 in
    let page_at : (p : ℕ) → position ≤ p → p < end → page_of size p ≡ page_of size position =
    λ p begins ends. same_page size position p power large begins (omega (arith, ends, end_is)) in
    let first_at : (p : ℕ) → position ≤ p → p < end → first ≡ (pages + page_of size p) * 2 ^ 32 =
    λ p begins ends. first_is ∙ ap (λ x. (pages + x) * 2 ^ 32) (sym (page_at p begins ends)) in
    record {
      begins = omega (arith, end_is);
      shows = λ p len inside short.
          let same = page_at p inside.0 inside.1 in
          header_shown size pages p len first power large (omega (arith, low, inside.1, end_is))
          (omega (arith, same, below, few)) (first_at p inside.0 inside.1) (omega (arith, short, most_is))
          (omega (arith, short, most_is));
      only = λ p number len next inside small shown.
          let is = header_only size pages p number len next first power large (first_at p inside.0 inside.1) small shown in
          (is.0, let a = is.1 in let b = is.2 in omega (arith, a, b, most_is));
    }
