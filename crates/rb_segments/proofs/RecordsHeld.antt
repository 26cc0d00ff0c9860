-- Records that a directory holds, as records are written, segments closed and the oldest ones deleted.
use Rattle.std.proofs.Common.{◌≡◌, ℕ, List, [], ◌∷◌, ◌++◌, refl, sym, ap, ◌∙◌, subst, append_assoc, append-nil}
use Rattle.rb_history.specs.TapeBytes.{Item, item_bytes, tape, IsItemAt, end_of}
use Rattle.rb_history.proofs.HeaderLaws.{tape-append, end_of-nil, end_of-append, AreItemsFrom-push}
use Rattle.rb_segments.specs.Segments.{AreSegmentsOf, HoldsRecords, IsTapeOf, Segment}
use Rattle.rb_segments.specs.SegmentTape.{directory}

-- one more closed segment
closes : (size start : ℕ) (segments : List Segment) (items : List Item) (segment : Segment) (more : List Item) → AreSegmentsOf size start segments items → segment.position ≡ end_of start items → IsTapeOf size segment more
    → AreSegmentsOf size start (segments ++ segment ∷ []) (items ++ more)
closes size start [] items segment more none named whole =
    (more, [], ap (λ l. l ++ more) none ∙ sym (append-nil more), named ∙ ap (end_of start) none ∙ end_of-nil start, whole, refl)
closes size start (first ∷ segments) items segment more are named whole = (
  are.0,
  are.1 ++ more,
  ap (λ l. l ++ more) are.2 ∙ append_assoc are.0 are.1 more,
  are.3,
  are.4,
  closes size (end_of start are.0) segments are.1 segment more are.5 (named ∙ ap (end_of start) are.2 ∙ end_of-append start are.0 are.1) whole,
)

module _ (size start : ℕ) (deleted closed : List Segment) (opened : ℕ) (bytes : List ℕ) (items : List Item) where
  -- where the records end
  ends : (part : List ℕ) (h : HoldsRecords size start deleted (directory opened closed bytes) items part) → end_of start items ≡ end_of opened h.in_open
  ends part h = ap (end_of start) h.items_are ∙ (end_of-append start h.in_closed h.in_open ∙ ap (λ n. end_of n h.in_open) (sym h.named))

  -- one more record in the open segment
  pub grows : (item : Item) → HoldsRecords size start deleted (directory opened closed bytes) items [] → IsItemAt size (end_of start items) item
      → HoldsRecords size start deleted (directory opened closed (bytes ++ item_bytes size item)) (items ++ item ∷ []) []
  grows item h stands = record {
    in_closed = h.in_closed;
    in_open = h.in_open ++ item ∷ [];
    items_are = ap (λ l. l ++ item ∷ []) h.items_are ∙ append_assoc h.in_closed h.in_open (item ∷ []);
    closed_hold = h.closed_hold;
    named = h.named;
    stand = AreItemsFrom-push size opened h.in_open item h.stand (subst (λ n. IsItemAt size n item) (ends [] h) stands);
    text =
        ap (λ l. l ++ item_bytes size item) (h.text ∙ append-nil (tape size h.in_open))
        ∙ (ap (λ l. tape size h.in_open ++ l) (sym (append-nil (item_bytes size item)))
        ∙ (sym (tape-append size h.in_open (item ∷ [])) ∙ sym (append-nil (tape size (h.in_open ++ item ∷ [])))));
  }

  -- an incomplete record in the open segment
  pub breaks : (part : List ℕ) → HoldsRecords size start deleted (directory opened closed bytes) items [] → HoldsRecords size start deleted (directory opened closed (bytes ++ part)) items part
  breaks part h = record {
    in_closed = h.in_closed;
    in_open = h.in_open;
    items_are = h.items_are;
    closed_hold = h.closed_hold;
    named = h.named;
    stand = h.stand;
    text = ap (λ l. l ++ part) (h.text ∙ append-nil (tape size h.in_open));
  }

  -- once the open segment is closed, the closed ones hold all records
  pub all_closed : HoldsRecords size start deleted (directory opened closed bytes) items [] → AreSegmentsOf size start (deleted ++ (closed ++ record { position = opened; bytes = bytes } ∷ [])) items
  all_closed h =
      let newest : Segment = record { position = opened; bytes = bytes } in
      let whole : IsTapeOf size newest h.in_open = record { stand = h.stand; text = h.text ∙ append-nil (tape size h.in_open) } in
      let all = closes size start (deleted ++ closed) h.in_closed newest h.in_open h.closed_hold h.named whole in
      subst (λ l. AreSegmentsOf size start l items) (append_assoc deleted closed (newest ∷ []))
      (subst (AreSegmentsOf size start ((deleted ++ closed) ++ newest ∷ [])) (sym h.items_are) all)

  -- the open segment is closed, and the next one has no bytes yet
  pub rolls : (position : ℕ) → end_of start items ≡ position → HoldsRecords size start deleted (directory opened closed bytes) items []
      → HoldsRecords size start deleted (directory position (closed ++ record { position = opened; bytes = bytes } ∷ []) []) items []
  rolls position here h = record {
    in_closed = items;
    in_open = [];
    items_are = sym (append-nil items);
    closed_hold = all_closed h;
    named = sym here;
    stand = tt;
    text = refl;
  }

-- some of the oldest segments are deleted
pub deletes : (size start : ℕ) (deleted gone closed : List Segment) (opened : ℕ) (bytes : List ℕ) (items : List Item) (part : List ℕ) → HoldsRecords size start deleted (directory opened (gone ++ closed) bytes) items part
    → HoldsRecords size start (deleted ++ gone) (directory opened closed bytes) items part
deletes size start deleted gone closed opened bytes items part h = record {
  in_closed = h.in_closed;
  in_open = h.in_open;
  items_are = h.items_are;
  closed_hold = subst (λ l. AreSegmentsOf size start l h.in_closed) (sym (append_assoc deleted gone closed)) h.closed_hold;
  named = h.named;
  stand = h.stand;
  text = h.text;
}
