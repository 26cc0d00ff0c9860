-- A record is granted, or the ring has no room for it.
use Rattle.std.proofs.Common.{◌≡◌, ℕ, ◌+◌, ◌/◌, ◌*◌, ◌<◌, ◌≤◌, List, [], ◌∷◌, ◌++◌, length, map, length-append, refl, sym, ap, ◌∙◌, arith}
use Rattle.std.proofs.lemmas.List.{map-append, length-map}
use Rattle.std.proofs.lemmas.List.Elements.{All-push}
use Rattle.rb_history.specs.declared.entries.Entry.{Entry}
use Rattle.rb_history.specs.declared.entries.Entry.TheVariants.{Res, Full}
use Rattle.rb_history.specs.declared.answers.Counts.{Counts}
use Rattle.rb_history.specs.declared.stored_records.StoredRecord.{StoredRecord}
use Rattle.rb_history.specs.declared.stored_records.RecordState.TheVariants.{Reserved}
use Rattle.rb_history.specs.StoredRecords.{shown_record, IsSized, contents_of}
use Rattle.rb_history.proofs.Contents.{contents-push}
use Rattle.rb_chapter_ring.specs.Snapshot.{tally_at}
use Rattle.rb_chapter_ring.specs.Chapters.{Chapter, closing_of}
use Rattle.rb_chapter_ring.specs.CountedFrom.{HasRoomFrom, grants_from, producer_from, tally_from}
use Rattle.rb_chapter_ring.specs.ChapterRoom.{owed, MayGrant, MayRefuse, with_entry}
use Rattle.rb_chapter_ring.specs.inner.SnapshotSteps.{with_refusal, with_grant}
use Rattle.rb_history.specs.WorkerCounts.{numbers_below}
use Rattle.rb_chapter_ring.proofs.ChapterNumbers.{length-below}
use Rattle.rb_chapter_ring.proofs.Logging.{refused, granted, serial-is}
use Rattle.rb_chapter_ring.proofs.Running.{records-owe}
use Rattle.rb_chapter_ring.proofs.CountSteps.{counting_grant, counting_refusal}
use Rattle.rb_chapter_ring.specs.inner.RingBody.{IsStored, IsRingOf}
use Rattle.rb_chapter_ring.proofs.CountSteps.{counts-refusal, counts-grant}
use Rattle.rb_chapter_ring.proofs.Keeps.{longer-legal, keeps}
use Rattle.rb_chapter_ring.proofs.Rows.{rows}
use Rattle.rb_chapter_ring.proofs.Pieces.{eights-in, row-many}

module _ (earlier : List Entry) (c : Chapter) (stored : List StoredRecord) (counts : Counts) (g : IsRingOf earlier c stored counts) where
  pub refusal-closing : (w n : ℕ) → w < c.opening.setup.workers → ¬ HasRoomFrom c.opening c.entries n → MayRefuse c w → with_refusal w (closing_of c) ≡ closing_of (with_entry c (Full w n))
  refusal-closing w n low none room = (refused earlier c g.kept (closing_of c) refl w n (with_refusal w (closing_of c)) (owed c) (with_entry c (Full w n)) low none room refl refl refl).closing_is

  pub refusal-keeps : (w n : ℕ) → w < c.opening.setup.workers → ¬ HasRoomFrom c.opening c.entries n → MayRefuse c w → IsRingOf earlier (with_entry c (Full w n)) stored (counting_refusal counts)
  refusal-keeps w n low none room =
      let e = Full w n in
      let runs = refused earlier c g.kept (closing_of c) refl w n (with_refusal w (closing_of c)) (owed c) (with_entry c e) low none room refl refl refl in
      let s = g.stands in
      let stands : IsStored c.opening.setup.size (with_refusal w (closing_of c)) stored = record { limit = s.limit; space = s.space; aligned = s.aligned; shown = s.shown; behind = s.behind } in
      let counted = counts-refusal c.opening.setup (earlier ++ c.entries) w n counts (longer-legal earlier c stored counts g e runs.kept) g.counted in
      keeps earlier c stored counts g e (with_refusal w (closing_of c)) (owed c) stored (counting_refusal counts) runs stands g.sized counted g.granted

  -- the record that the worker is granted next
  abbrev pub newest : ℕ → ℕ → StoredRecord
  newest w n = record { pos = (closing_of c).producer; len = n; worker = w; serial = (tally_at (closing_of c) w).made; state = Reserved }

  -- there are few records
  pub few : (length stored + 1 ≤ c.opening.setup.size / 8) × (8 * (length stored + 1) ≤ c.opening.setup.size)
  few =
      let many = row-many (closing_of c).consumer stored (closing_of c).producer (rows earlier c stored counts g).in_row in
      let e = eights-in c.opening.setup.size g.size in
      (omega (arith, many, g.stands.space, g.size.1, e.1), omega (arith, many, g.stands.space, g.size.1, e.1))

  pub fit : MayGrant c → length stored + 1 ≤ c.room
  fit room =
      let long : length stored ≡ length (closing_of c).records = sym (shown-long stored) ∙ ap length g.stands.shown in
      omega (arith, long, room, records-owe (closing_of c).records)
    where
      shown-long : (ss : List StoredRecord) → length (map shown_record ss) ≡ length ss
      shown-long [] = refl
      shown-long (x ∷ ss) = omega (arith, shown-long ss)

  -- the entry of that grant
  abbrev pub grant : ℕ → ℕ → Entry
  grant w n = Res w (grants_from c.opening w c.entries) n (producer_from c.opening c.entries)

  pub grant-closing : (w n : ℕ) → w < c.opening.setup.workers → HasRoomFrom c.opening c.entries n → MayGrant c → with_grant w n (closing_of c) ≡ closing_of (with_entry c (grant w n))
  grant-closing w n low fits room = (granted earlier c g.kept (closing_of c) refl w n (with_grant w n (closing_of c)) (owed c) (with_entry c (grant w n)) low fits room refl refl refl).closing_is

  pub grant-keeps : (w n : ℕ) → w < c.opening.setup.workers → HasRoomFrom c.opening c.entries n → MayGrant c
      → IsRingOf earlier (with_entry c (Res w (grants_from c.opening w c.entries) n (producer_from c.opening c.entries))) (stored ++ newest w n ∷ []) (counting_grant counts)
  grant-keeps w n low fits room =
      let o = closing_of c in
      let size = c.opening.setup.size in
      let e = Res w (grants_from c.opening w c.entries) n (producer_from c.opening c.entries) in
      let runs = granted earlier c g.kept o refl w n (with_grant w n o) (owed c) (with_entry c e) low fits room refl refl refl in
      let s = g.stands in
      let shown : map shown_record (stored ++ newest w n ∷ []) ≡ (with_grant w n o).records = map-append shown_record stored (newest w n ∷ []) ∙ ap (λ ss. ss ++ shown_record (newest w n) ∷ []) s.shown in
      let stands : IsStored size (with_grant w n o) (stored ++ newest w n ∷ []) = record {
        limit = fits.limit;
        space = fits.space;
        aligned = s.aligned;
        shown = shown;
        behind = s.behind;
      } in
      let counted = counts-grant c.opening.setup (earlier ++ c.entries) w (grants_from c.opening w c.entries) n (producer_from c.opening c.entries) counts (longer-legal earlier c stored counts g e runs.kept) g.counted in
      keeps earlier c stored counts g e (with_grant w n o) (owed c + 2) (stored ++ newest w n ∷ []) (counting_grant counts) runs stands (All-push IsSized stored (newest w n) g.sized tt)
      counted (omega (arith, g.granted, length-append stored (newest w n ∷ [])))

  pub serial-of : (w : ℕ) → w < c.opening.setup.workers → (tally_at (closing_of c) w).made ≡ grants_from c.opening w c.entries
  serial-of w low = serial-is earlier c g.kept (closing_of c) refl w low

  -- an opening has totals for each worker
  pub tallies-long : length (closing_of c).tallies ≡ c.opening.setup.workers
  tallies-long = length-map (numbers_below c.opening.setup.workers) (λ w. tally_from c.opening w c.entries) ∙ length-below c.opening.setup.workers

  pub contents-grant : (w n : ℕ) → contents_of (stored ++ newest w n ∷ []) ≡ contents_of stored
  contents-grant w n = contents-push stored (newest w n) refl
