-- What a writer of segments has written, record by record.
use Rattle.std.proofs.Common.{◌≡◌, ℕ, ◌+◌, ◌^◌, ◌<◌, ◌≤◌, List, [], ◌∷◌, ◌++◌, length, take, drop, refl, sym, ap, ◌∙◌, subst, append_assoc, append-nil, arith, take-append-drop, length-append}
use Rattle.std.specs.Prelude.{Option, None, Some}
use Rattle.std.proofs.lemmas.List.{take_all}
use Rattle.std.specs.Io.KnownBytes.{Appends}
use Rattle.rb_history.specs.TapeBytes.{Item, item_bytes, item_position, item_span, tape, IsItemAt, end_of}
use Rattle.rb_history.specs.RingModel.{IsRingSize}
use Rattle.rb_history.proofs.HeaderLaws.{length-item_bytes, tape-append, end_of-nil, end_of-cons, end_of-append}
use Rattle.rb_segments.specs.Segments.{HoldsRecords, Segment}
use Rattle.rb_segments.specs.SegmentTape.{SegmentTape, HasEnded, HasWritten, both, directory, directory_at, directory_of}
use Rattle.rb_segments.specs.Known.{AddsSegment}
use Rattle.rb_segments.specs.inner.Rolling.{KeepsRecords}
use Rattle.rb_segments.proofs.Directories.{bytes_added, parts, whole_of}
use Rattle.rb_segments.proofs.RecordsHeld.{all_closed, breaks, grows}

-- a record that the ring may have granted comes at this position
pub item_stands : (size position len : ℕ) (item : Item) → IsRingSize size → item_position item ≡ position → len ≡ item_span item → len < size → position + item_span item ≤ 2 ^ 62 → IsItemAt size position item
item_stands size position len item ring here span fits end =
    let most = ring.2 in
    let short : item_span item < size = omega arith in
    record { here = here; has_header = omega arith; has_fitted = short; bounded = end }

front_empty : (xs ys : List ℕ) → xs ++ ys ≡ [] → xs ≡ []
front_empty [] ys e = refl
front_empty (x ∷ xs) ys e = absurd (let l = ap length e in omega (arith, l))

end_of-push : (start : ℕ) (items : List Item) (item : Item) → end_of start (items ++ item ∷ []) ≡ end_of start items + item_span item
end_of-push start items item =
    let all = end_of-append start items (item ∷ []) in
    let one = end_of-cons (end_of start items) item [] in
    let none = end_of-nil (end_of start items + item_span item) in
    omega arith

length-push : (items : List Item) (item : Item) → length (items ++ item ∷ []) ≡ length items + 1
length-push items item = let n = length-append items (item ∷ []) in omega arith

one_tape : (size : ℕ) (item : Item) → item_bytes size item ≡ tape size (item ∷ [])
one_tape size item = sym (append-nil (item_bytes size item))

all_taken : (size sent : ℕ) (item : Item) → sent ≡ item_span item → take sent (item_bytes size item) ≡ item_bytes size item
all_taken size sent item all = take_all sent (item_bytes size item) (let n = length-item_bytes size item in omega (arith, n, all))

module _ {S F : Type 0} (segments : S → Option (List Segment)) (contents : F → Option (List ℕ)) (start : ℕ) (deleted : List Segment) (items : List Item) (item : Item) (old new : SegmentTape S F)
    (size : new.size ≡ old.size) (moved : new.position ≡ old.position + item_span item) where
  position_is : HasWritten segments contents start deleted items old → new.position ≡ end_of start (items ++ item ∷ [])
  position_is h = moved ∙ (ap (λ n. n + item_span item) h.position ∙ sym (end_of-push start items item))

  none_gone : HasWritten segments contents start deleted (items ++ item ∷ []) new → (gone : List Segment) × HasWritten segments contents start (deleted ++ gone) (items ++ item ∷ []) new
  none_gone h = ([], subst (λ l. HasWritten segments contents start l (items ++ item ∷ []) new) (sym (append-nil deleted)) h)

  -- the record is counted, after a fault
  pub counts_on : (new.fault ≡ None → ⊥) → new.unwritten ≡ old.unwritten + 1 → directory_of segments contents new ≡ directory_of segments contents old → HasWritten segments contents start deleted items old
      → (gone : List Segment) × HasWritten segments contents start (deleted ++ gone) (items ++ item ∷ []) new
  counts_on ended more same h = none_gone (record {
    directory = h.directory;
    known = same ∙ h.known;
    whole = h.whole;
    left = h.left ++ item ∷ [];
    items_are = ap (λ l. l ++ item ∷ []) h.items_are ∙ append_assoc h.whole h.left (item ∷ []);
    part = h.part;
    missing = h.missing ++ tape old.size (item ∷ []);
    holds = subst (λ n. HoldsRecords n start deleted h.directory h.whole h.part) (sym size) h.holds;
    cut =
        sym (append_assoc h.part h.missing (tape old.size (item ∷ [])))
        ∙ (ap (λ l. l ++ tape old.size (item ∷ [])) h.cut ∙ (sym (tape-append old.size h.left (item ∷ [])) ∙ ap (λ n. tape n (h.left ++ item ∷ [])) (sym size)));
    position = position_is h;
    all = λ none. absurd (ended none);
    counted = more ∙ (ap (λ n. n + 1) h.counted ∙ sym (length-push h.left item));
  })

  module _ (sound : old.fault ≡ None) where
    all_whole : (h : HasWritten segments contents start deleted items old) → items ≡ h.whole
    all_whole h = h.items_are ∙ (ap (λ l. h.whole ++ l) (h.all sound) ∙ append-nil h.whole)

    -- before the record, all records are held, and nothing more
    held : (h : HasWritten segments contents start deleted items old) (closed : List Segment) (content : List ℕ) → h.directory ≡ directory old.opened closed content → HoldsRecords old.size start deleted (directory old.opened closed content) items []
    held h closed content is =
        let no_part : h.part ≡ [] = front_empty h.part h.missing (h.cut ∙ ap (tape old.size) (h.all sound)) in
        subst (λ d. HoldsRecords old.size start deleted d items []) is
        (subst (λ l. HoldsRecords old.size start deleted h.directory l []) (sym (all_whole h)) (subst (HoldsRecords old.size start deleted h.directory h.whole) no_part h.holds))

    -- a write failed inside the record
    pub cuts_off : (sent : ℕ) → (new.fault ≡ None → ⊥) → new.unwritten ≡ old.unwritten + 1 → new.store ≡ old.store → new.opened ≡ old.opened
        → Appends (contents old.writer) (contents new.writer) (take sent (item_bytes old.size item)) → HasWritten segments contents start deleted items old
        → (gone : List Segment) × HasWritten segments contents start (deleted ++ gone) (items ++ item ∷ []) new
    cuts_off sent ended more store opened wrote h =
        let p = parts (segments old.store) (contents old.writer) old.opened h.directory h.known in
        let part = take sent (item_bytes old.size item) in
        let bytes : contents new.writer ≡ Some (p.1 ++ part) = bytes_added p.1 part (contents new.writer) (subst (λ x. Appends x (contents new.writer) part) p.3 wrote) in
        let one : old.unwritten ≡ 0 = h.counted ∙ ap length (h.all sound) in
        none_gone (record {
          directory = directory old.opened p.0 (p.1 ++ part);
          known =
              ap (λ o. both (segments new.store) (contents new.writer) (directory o)) opened
              ∙ whole_of (segments new.store) (contents new.writer) old.opened p.0 (p.1 ++ part) (ap segments store ∙ p.2) bytes;
          whole = items;
          left = item ∷ [];
          items_are = refl;
          part = part;
          missing = drop sent (item_bytes old.size item);
          holds = subst (λ n. HoldsRecords n start deleted (directory old.opened p.0 (p.1 ++ part)) items part) (sym size) (breaks old.size start deleted p.0 old.opened p.1 items part (held h p.0 p.1 p.4));
          cut = take-append-drop sent (item_bytes old.size item) ∙ (one_tape old.size item ∙ ap (λ n. tape n (item ∷ [])) (sym size));
          position = position_is h;
          all = λ none. absurd (ended none);
          counted = more ∙ ap (λ n. n + 1) one;
        })

    -- the record is whole, and then segments may be closed and deleted
    pub goes_on : (mid : F) (sent : ℕ) → new.unwritten ≡ old.unwritten → IsItemAt old.size old.position item → sent ≡ item_span item
        → Appends (contents old.writer) (contents mid) (take sent (item_bytes old.size item))
        → KeepsRecords (directory_at segments contents old.store mid old.opened) (old.position + item_span item) (directory_of segments contents new) → HasWritten segments contents start deleted items old
        → (gone : List Segment) × HasWritten segments contents start (deleted ++ gone) (items ++ item ∷ []) new
    goes_on mid sent same stands all wrote keeps h =
        let p = parts (segments old.store) (contents old.writer) old.opened h.directory h.known in
        let whole : Appends (contents old.writer) (contents mid) (item_bytes old.size item) = subst (Appends (contents old.writer) (contents mid)) (all_taken old.size sent item all) wrote in
        let bytes : contents mid ≡ Some (p.1 ++ item_bytes old.size item) = bytes_added p.1 (item_bytes old.size item) (contents mid) (subst (λ x. Appends x (contents mid) (item_bytes old.size item)) p.3 whole) in
        let after = directory old.opened p.0 (p.1 ++ item_bytes old.size item) in
        let held_now = grows old.size start deleted p.0 old.opened p.1 items item (held h p.0 p.1 p.4) (subst (λ n. IsItemAt old.size n item) h.position stands) in
        let k =
        keeps old.size start deleted after (items ++ item ∷ []) (whole_of (segments old.store) (contents mid) old.opened p.0 (p.1 ++ item_bytes old.size item) p.2 bytes)
        (end_of-push start items item ∙ ap (λ n. n + item_span item) (sym h.position)) held_now in (
          k.0,
          record {
            directory = k.1;
            known = k.2;
            whole = items ++ item ∷ [];
            left = [];
            items_are = sym (append-nil (items ++ item ∷ []));
            part = [];
            missing = [];
            holds = subst (λ n. HoldsRecords n start (deleted ++ k.0) k.1 (items ++ item ∷ []) []) (sym size) k.3;
            cut = refl;
            position = position_is h;
            all = λ _. refl;
            counted = same ∙ (h.counted ∙ ap length (h.all sound));
          },
        )

module _ {S F : Type 0} (segments : S → Option (List Segment)) (contents : F → Option (List ℕ)) (start : ℕ) (t : SegmentTape S F) (sound : t.fault ≡ None) where
  -- before the first record
  pub nothing_written : segments t.store ≡ Some [] → contents t.writer ≡ Some [] → t.opened ≡ start → t.position ≡ start → t.unwritten ≡ 0 → HasWritten segments contents start [] [] t
  nothing_written none empty at here zero = record {
    directory = directory t.opened [] [];
    known = whole_of (segments t.store) (contents t.writer) t.opened [] [] none empty;
    whole = [];
    left = [];
    items_are = refl;
    part = [];
    missing = [];
    holds = record {
      in_closed = [];
      in_open = [];
      items_are = refl;
      closed_hold = refl;
      named = at ∙ sym (end_of-nil start);
      stand = tt;
      text = refl;
    };
    cut = refl;
    position = here ∙ sym (end_of-nil start);
    all = λ _. refl;
    counted = zero;
  }

  -- the open segment is closed at the end
  pub ends_whole : (deleted : List Segment) (items : List Item) (store : S) → AddsSegment (segments t.store) t.opened (contents t.writer) (segments store) → HasWritten segments contents start deleted items t → HasEnded segments t.size start deleted items store
  ends_whole deleted items store added h =
      let p = parts (segments t.store) (contents t.writer) t.opened h.directory h.known in
      let kept : segments store ≡ Some (p.0 ++ record { position = t.opened; bytes = p.1 } ∷ []) =
      subst (λ x. AddsSegment (Some p.0) t.opened x (segments store)) p.3 (subst (λ x. AddsSegment x t.opened (contents t.writer) (segments store)) p.2 added) in
      let no_part : h.part ≡ [] = front_empty h.part h.missing (h.cut ∙ ap (tape t.size) (h.all sound)) in
      let whole : items ≡ h.whole = h.items_are ∙ (ap (λ l. h.whole ++ l) (h.all sound) ∙ append-nil h.whole) in
      let held : HoldsRecords t.size start deleted (directory t.opened p.0 p.1) items [] =
      subst (λ d. HoldsRecords t.size start deleted d items []) p.4
      (subst (λ l. HoldsRecords t.size start deleted h.directory l []) (sym whole) (subst (HoldsRecords t.size start deleted h.directory h.whole) no_part h.holds)) in
      (p.0 ++ record { position = t.opened; bytes = p.1 } ∷ [], kept, all_closed t.size start deleted p.0 t.opened p.1 items held)
