-- Payload by payload: what was read is their bytes, and what was written is their tape.
use Rattle.std.proofs.Common.{◌≡◌, ℕ, ◌+◌, ◌<◌, ◌^◌, ◌++◌, List, [], ◌∷◌, length, take, drop, Option, Ok, Err, refl, sym, ap, ◌∙◌, subst, arith, append_assoc, append-nil, take-append-drop, inl, inr}
use Rattle.std.proofs.lemmas.Grind.{flat_map-append}
use Rattle.std.specs.Int.{w32, to_le_bytes}
use Rattle.std.specs.Io.KnownBytes.{Appends, Consumes, Keeps}
use Rattle.std.proofs.KnownBytes.{Appends-nil, Appends-trans, Appends-kept, Consumes-nil, Consumes-trans}
use Rattle.rb_history.specs.Span.{span}
use Rattle.rb_history.specs.TapeBytes.{Item, IsItemAt, item_bytes, tape, end_of}
use Rattle.rb_history.specs.TapeBytes.Item.{Event}
use Rattle.rb_history.proofs.HeaderLaws.{tape-append, end_of-nil, end_of-cons, end_of-append, AreItemsFrom-push}
use Rattle.rb_tape_commands.specs.Input.{framed, framed_all, payload_events}
use Rattle.rb_tape_commands.specs.PayloadReads.{FindsPayload, FindsEnd, FindsNext}
use Rattle.rb_tape_commands.specs.inner.FeedRuns.{feed_run}
use Rattle.rb_tape_commands.specs.Feed.{FeedsAll, FeedResult, ends_of}
use Rattle.rb_tape_commands.specs.inner.PayloadSteps.{FeedsOne}
use Rattle.rb_tape_commands.specs.declared.feed_fault.FeedFault.{FeedFault}
use Rattle.rb_tape_commands.specs.declared.feed_fault.FeedFault.TheVariants.{Size, Start, Fit, Ends, Memory, Device}

-- ---- one more payload

framed_all-push : (ps : List (List ℕ)) (p : List ℕ) → framed_all (ps ++ p ∷ []) ≡ framed_all ps ++ framed p
framed_all-push ps p = flat_map-append framed ps (p ∷ []) ∙ ap (λ xs. framed_all ps ++ xs) (append-nil (framed p))

events_from-push : (position : ℕ) (ps : List (List ℕ)) (p : List ℕ) → payload_events position (ps ++ p ∷ []) ≡ payload_events position ps ++ Event (end_of position (payload_events position ps)) p ∷ []
events_from-push position [] p = ap (λ at. Event at p ∷ []) (sym (end_of-nil position))
events_from-push position (q ∷ ps) p =
    let next = position + span (length q) in
    ap (λ items. Event position q ∷ items) (events_from-push next ps p)
    ∙ ap (λ at. Event position q ∷ (payload_events next ps ++ Event at p ∷ [])) (sym (end_of-cons position (Event position q) (payload_events next ps)))

tape-push : (size : ℕ) (items : List Item) (item : Item) → tape size (items ++ item ∷ []) ≡ tape size items ++ item_bytes size item
tape-push size items item = tape-append size items (item ∷ []) ∙ ap (λ xs. tape size items ++ xs) (append-nil (item_bytes size item))

-- ---- before the first, and one more

pub passes_none : (size start : ℕ) (u h : Option (List ℕ)) → FeedsAll (feed_run size start u u h h) [] []
passes_none size start u h = record { stand = tt; read = Consumes-nil u; wrote = Appends-nil h }

module _ (size start : ℕ) (u v h g : Option (List ℕ)) (ps : List (List ℕ)) (so_far : FeedsAll (feed_run size start u v h g) ps []) where
  whole_read : Consumes u v (framed_all ps)
  whole_read = subst (Consumes u v) (append-nil (framed_all ps)) so_far.read

  -- then some bytes were read
  pub passes_and : (w : Option (List ℕ)) (more : List ℕ) → Consumes v w more → FeedsAll (feed_run size start u w h g) ps more
  passes_and w more read = record { stand = so_far.stand; read = Consumes-trans u v w (framed_all ps) more whole_read read; wrote = so_far.wrote }

  -- then the writer flushed
  pub passes_kept : (f : Option (List ℕ)) → Keeps g f → FeedsAll (feed_run size start u v h f) ps []
  passes_kept f kept = record { stand = so_far.stand; read = so_far.read; wrote = Appends-kept h g f _ so_far.wrote kept }

  -- then a payload was read, and its record was written
  pub passes_more : (w f : Option (List ℕ)) (p : List ℕ) → Consumes v w (framed p) → IsItemAt size (end_of start (payload_events start ps)) (Event (end_of start (payload_events start ps)) p) → Appends g f (item_bytes size (Event (end_of start (payload_events start ps)) p)) → FeedsAll (feed_run size start u w h f) (ps ++ p ∷ []) []
  passes_more w f p read item wrote = record {
    stand = rw (events_from-push start ps p) (AreItemsFrom-push size start (payload_events start ps) (Event (end_of start (payload_events start ps)) p) so_far.stand item);
    read = subst (Consumes u w) (sym (framed_all-push ps p) ∙ sym (append-nil (framed_all (ps ++ p ∷ [])))) (Consumes-trans u v w (framed_all ps) (framed p) whole_read read);
    wrote = rw (events_from-push start ps p, tape-push size (payload_events start ps) (Event (end_of start (payload_events start ps)) p)) (Appends-trans h g f _ _ so_far.wrote wrote);
  }

  -- no payload was read
  pub fed_next : (w : Option (List ℕ)) (number : ℕ) → number ≡ length ps → (e : FeedFault) → FindsNext size number v w (Err e) → FeedResult (feed_run size start u w h g) (Err e)
  fed_next w number count Size f = absurd f
  fed_next w number count Start f = absurd f
  fed_next w number count (Fit k) f =
      let n = f.1.len in
      record { payloads = ps; fed = record { more = to_le_bytes w32 n; passes = passes_and w (to_le_bytes w32 n) f.1.read; goes_on = inl (record { len = n; rest = []; text_is = refl; has_field = f.1.has_field; no_room = f.1.no_room }); read_to = tt }; number_is = f.0 ∙ count }
  fed_next w number count (Ends k) f = record { payloads = ps; fed = record { more = f.1.part; passes = passes_and w f.1.part f.1.read; goes_on = f.1.cut; read_to = f.1.at_end }; number_is = f.0 ∙ count }
  fed_next w number count Memory f = record { payloads = ps; more = f.part; fed = passes_and w f.part f.read }
  fed_next w number count Device f = record {
    payloads = ps;
    more = f.part;
    out = tape size (payload_events start ps);
    missing = [];
    stand = so_far.stand;
    read = (passes_and w f.part f.read).read;
    wrote = so_far.wrote;
    beginning = append-nil _;
  }

  -- a payload was read, and was not written to the tape whole
  pub fed_one : (w f : Option (List ℕ)) (number position : ℕ) (p : List ℕ) → number ≡ length ps → position ≡ end_of start (payload_events start ps) → size < 2 ^ 32 → FindsPayload size v w p → (e : FeedFault) → FeedsOne size position number p g f (Err e) → FeedResult (feed_run size start u w h f) (Err e)
  fed_one w f number position p count at small read Size o = absurd o
  fed_one w f number position p count at small read Start o = absurd o
  fed_one w f number position p count at small read (Fit k) o =
      let room = read.room in record {
        payloads = ps;
        fed = record {
          more = framed p;
          passes = record { stand = so_far.stand; read = (passes_and w (framed p) read.read).read; wrote = Appends-kept h g f _ so_far.wrote o.2 };
          goes_on = inr (record { payload = p; rest = []; text_is = sym (append-nil (framed p)); has_field = omega arith; room = room; past = subst (λ q. 2 ^ 62 < q + span (length p)) at o.1 });
          read_to = tt;
        };
        number_is = o.0 ∙ count;
      }
  fed_one w f number position p count at small read (Ends k) o = absurd o
  fed_one w f number position p count at small read Memory o = absurd o
  fed_one w f number position p count at small read Device o =
      let item = item_bytes size (Event position p) in
      record {
        payloads = ps ++ p ∷ [];
        more = [];
        out = tape size (payload_events start ps) ++ take o.1 item;
        missing = drop o.1 item;
        stand = rw (events_from-push start ps p) (AreItemsFrom-push size start (payload_events start ps) (Event (end_of start (payload_events start ps)) p) so_far.stand (subst (λ q. IsItemAt size q (Event q p)) at o.0));
        read = subst (Consumes u w) (sym (framed_all-push ps p) ∙ sym (append-nil (framed_all (ps ++ p ∷ [])))) (Consumes-trans u v w (framed_all ps) (framed p) whole_read read.read);
        wrote = Appends-trans h g f _ _ so_far.wrote o.2;
        beginning =
            append_assoc (tape size (payload_events start ps)) (take o.1 item) (drop o.1 item)
            ∙ ap (λ xs. tape size (payload_events start ps) ++ xs) (take-append-drop o.1 item)
            ∙ ap (λ q. tape size (payload_events start ps) ++ item_bytes size (Event q p)) at
            ∙ sym (tape-push size (payload_events start ps) (Event (end_of start (payload_events start ps)) p))
            ∙ ap (tape size) (sym (events_from-push start ps p));
      }

-- the end of the payloads with one more
pub end_of-push : (start : ℕ) (ps : List (List ℕ)) (p : List ℕ) → end_of start (payload_events start (ps ++ p ∷ [])) ≡ end_of start (payload_events start ps) + span (length p)
end_of-push start ps p =
    let item = Event (end_of start (payload_events start ps)) p in
    let here = end_of start (payload_events start ps) in
    ap (end_of start) (events_from-push start ps p) ∙ end_of-append start (payload_events start ps) (item ∷ []) ∙ end_of-cons here item [] ∙ end_of-nil (here + span (length p))
