-- A record that was written to a buffer as its header, its payload and zeros is that item of a tape.
use Rattle.std.proofs.Common.{◌≡◌, ℕ, ◌+◌, ◌-◌, ◌<◌, ◌≤◌, List, [], ◌++◌, length, replicate, ◌∙◌, sym, ap, subst, arith}
use Rattle.std.proofs.lemmas.List.{append-nil, append_assoc, replicate-append-replicate}
use Rattle.rb_history.specs.Header.{header_bytes}
use Rattle.rb_history.specs.Span.{span}
use Rattle.rb_history.specs.TapeBytes.{Item, IsItemAt, header_of, item_bytes, item_len, item_position, item_span, padding, zeros}
use Rattle.rb_history.specs.TapeBytes.Item.{Event, Skip}
use Rattle.heskavo_c.specs.Tapes.{HasRoomAt, PutsItem}
use Rattle.heskavo_c.specs.Writing.{WritesFront}

module _ (size position : ℕ) (old new : List ℕ) where
  stands : (item : Item) → item_position item ≡ position → HasRoomAt size position (item_len item) → IsItemAt size position item
  stands item here room =
      let low : position ≤ 2305843009213693952 = room.place.1.1 in
      let small : size ≤ 67108864 = room.place.0.2 in
      let fits : span (item_len item) < size = room.has_room in
      let bounded : position + span (item_len item) ≤ 4611686018427387904 = omega (arith, low, small, fits) in
      record { here = here; has_header = room.has_header; has_fitted = fits; bounded = bounded }

  pub item_put : (item : Item) (written : ℕ) → item_position item ≡ position → HasRoomAt size position (item_len item) → written ≡ item_span item → WritesFront (item_bytes size item) old new → PutsItem size position item old new written
  item_put item written here room told wrote = record { stands = stands item here room; bytes = wrote; written_is = told }

module _ (size position : ℕ) (header old new : List ℕ) where
  -- the number of zeros that fill the record up to its span
  filling : (n zero_count : ℕ) → zero_count ≡ span n - 8 - n → zero_count ≡ padding n
  filling n zero_count is = omega (arith, is)

  pub event_written : (payload : List ℕ) (zero_count : ℕ) → header ≡ header_bytes (header_of size (Event position payload)) → zero_count ≡ span (length payload) - 8 - length payload
      → WritesFront (header ++ payload ++ replicate zero_count 0) old new → WritesFront (item_bytes size (Event position payload)) old new
  event_written payload zero_count head fill wrote =
      let is : header ++ payload ++ replicate zero_count 0 ≡ item_bytes size (Event position payload) =
      ap (λ h. h ++ payload ++ replicate zero_count 0) head ∙ ap (λ n. header_bytes (header_of size (Event position payload)) ++ payload ++ replicate n 0) (filling (length payload) zero_count fill) in
      subst (λ bytes. WritesFront bytes old new) is wrote

  pub discarded_written : (len zero_count : ℕ) → header ≡ header_bytes (header_of size (Skip position len)) → zero_count ≡ span len - 8
      → WritesFront (header ++ [] ++ replicate zero_count 0) old new → WritesFront (item_bytes size (Skip position len)) old new
  discarded_written len zero_count head fill wrote =
      let whole : zero_count ≡ len + padding len = omega (arith, fill) in
      let is : header ++ [] ++ replicate zero_count 0 ≡ item_bytes size (Skip position len) =
      ap (λ h. h ++ replicate zero_count 0) (append-nil header ∙ head) ∙ ap (λ n. header_bytes (header_of size (Skip position len)) ++ replicate n 0) whole
      ∙ ap (λ x. header_bytes (header_of size (Skip position len)) ++ x) (sym (replicate-append-replicate len (padding len) 0))
      ∙ sym (append_assoc (header_bytes (header_of size (Skip position len))) (zeros len) (zeros (padding len))) in
      subst (λ bytes. WritesFront bytes old new) is wrote
