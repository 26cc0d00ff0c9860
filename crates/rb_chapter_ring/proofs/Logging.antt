-- What one more entry changes in the summary at a chapter's end.
use Rattle.std.proofs.Common.{◌≡◌, ◌≢◌, ◌-◌, ◌≤◌, ◌↔◌, Bool, IsTrue, ℕ, zero, suc, ◌+◌, ◌<◌, ◌^◌, cond, List, [], ◌∷◌, ◌++◌, length, map, set, refl, sym, ap, ◌∙◌, inl, inr, subst, append_assoc, add-zero, arith}
use Rattle.std.proofs.lemmas.Bool.{cases_lt, ne_eqb}
use Rattle.std.proofs.lemmas.List.{map-append, length-map, set-append_left, set_at}
use Rattle.rb_history.specs.Span.{span}
use Rattle.rb_history.specs.declared.entries.Entry.{Entry}
use Rattle.rb_history.specs.declared.entries.Entry.TheVariants.{Res, Full}
use Rattle.rb_history.specs.declared.tally.Tally.{Tally}
use Rattle.rb_history.specs.History.{Shown, grants, producer_of, consumer_of, records}
use Rattle.rb_history.specs.History.Status.{Busy}
use Rattle.rb_history.specs.WorkerCounts.{tally_of, numbers_below, events_of, skips_of}
use Rattle.rb_history.specs.RoomRule.{Setup}
use Rattle.rb_history.specs.Legal.{IsLegal}
use Rattle.rb_history.specs.StoredRecords.{entries_owed}
use Rattle.rb_history.specs.inner.TallySteps.{tally_with_entry as tally_with}
use Rattle.rb_history.proofs.Laws.{kept-from-legal, legal-front, legal-next}
use Rattle.rb_history.proofs.Lists.{sum_by-snoc}
use Rattle.rb_history.proofs.Row.{InRow-le}
use Rattle.rb_history.proofs.Steps.{records-full, producer-full, consumer-full}
use Rattle.rb_history.proofs.Kept.{kept-res}
use Rattle.rb_history.proofs.Tallies.{grants-low}
use Rattle.rb_history.proofs.WorkerCounts.{tally-next, tally-full, tally-res, events-next, skips-next}
use Rattle.rb_chapter_ring.specs.Snapshot.{Snapshot, snapshot_of, tally_at}
use Rattle.rb_chapter_ring.specs.Chapters.{Chapter, closing_of}
use Rattle.rb_chapter_ring.specs.CountedFrom.{tally_from, grants_from, producer_from, consumer_from, HasRoomFrom}
use Rattle.rb_chapter_ring.specs.ChapterRoom.{owed_for, owed, with_entry, MayGrant, MayRefuse}
use Rattle.rb_chapter_ring.specs.WholeHistory.{ContinuesHistory, IsKept}
use Rattle.rb_chapter_ring.specs.inner.SnapshotSteps.{with_refusal, with_grant, next_record}
use Rattle.rb_chapter_ring.proofs.ChapterNumbers.{length-below, map-below, tally-at, tally-after}
use Rattle.rb_chapter_ring.proofs.Keeping.{one-kept}
use Rattle.rb_chapter_ring.proofs.Running.{records-owe}
use Rattle.rb_chapter_ring.proofs.Stands.{goes-on}

-- one number below n has another value
map-set : {X : Type 0} (f g : ℕ → X) (n w : ℕ) → w < n → ((v : ℕ) → v < n → v ≢ w → f v ≡ g v) → map f (numbers_below n) ≡ set (map g (numbers_below n)) w (f w)
map-set f g zero w l same = absurd (omega arith)
map-set f g (suc n) w l same =
    let whole = map-append f (numbers_below n) (n ∷ []) in
    let other = map-append g (numbers_below n) (n ∷ []) in
    let long : length (map g (numbers_below n)) ≡ n = length-map (numbers_below n) g ∙ length-below n in
    elim (cases_lt w n) [
      | inl lt ↦
          let front = map-set f g n w lt (λ v l no. same v (omega arith) no) in
          let last : f n ≡ g n = same n (omega arith) (λ e. omega arith) in
          whole ∙ (λ i. front i ++ last i ∷ []) ∙ sym (set-append_left (map g (numbers_below n)) (g n ∷ []) w (f w) (omega (arith, long))) ∙ ap (λ xs. set xs w (f w)) (sym other)
      | inr le ↦
          let here : w ≡ n = omega arith in
          let front = map-below f g n (λ v l. same v (omega arith) (λ e. omega arith)) in
          whole ∙ (λ i. front i ++ f (sym here i) ∷ []) ∙ sym (set_at (map g (numbers_below n)) (g n) [] (f w) w (long ∙ sym here)) ∙ ap (λ xs. set xs w (f w)) (sym other)
    ]

-- ---- over a whole history

module _ (r : Setup) (h : List Entry) where
  -- an entry of this worker only
  pub tallies-next : (e : Entry) (w : ℕ) → IsLegal r (h ++ e ∷ []) → w < r.workers → ((v : ℕ) → v ≢ w → tally_with v h e (tally_of v h) ≡ tally_of v h) →
      map (λ v. tally_of v (h ++ e ∷ [])) (numbers_below r.workers) ≡ set (map (λ v. tally_of v h) (numbers_below r.workers)) w (tally_of w (h ++ e ∷ []))
  tallies-next e w l low others =
      map-set (λ v. tally_of v (h ++ e ∷ [])) (λ v. tally_of v h) r.workers w low (λ v _ no. tally-next r v h e l ∙ others v no)

  pub refusal-next : (w n : ℕ) → IsLegal r (h ++ Full w n ∷ []) → snapshot_of r (h ++ Full w n ∷ []) ≡ with_refusal w (snapshot_of r h)
  refusal-next w n l =
      let m = legal-next r h (Full w n) [] l in
      let o = snapshot_of r h in
      let others : (v : ℕ) → v ≢ w → tally_with v h (Full w n) (tally_of v h) ≡ tally_of v h =
      λ v no i. record {
        made = add-zero (grants v h) i;
        refused = (ap (λ b. (tally_of v h).refused + cond b 1 0) (ne_eqb w v (λ e. no (sym e))) ∙ add-zero (tally_of v h).refused) i;
        submitted = add-zero (tally_of v h).submitted i;
        discarded = add-zero (tally_of v h).discarded i;
      } in
      let own : tally_of w (h ++ Full w n ∷ []) ≡ record (tally_at o w) { refused = (tally_at o w).refused + 1 } =
      tally-full r w n h l ∙ ap (λ (t : Tally). record t { refused = t.refused + 1 }) (sym (tally-at r h w m.0)) in
      let tallies = tallies-next (Full w n) w l m.0 others ∙ ap (λ t. set o.tallies w t) own in
      let consumed = events-next r h (Full w n) l ∙ add-zero (events_of h) in
      let skipped = skips-next r h (Full w n) l ∙ add-zero (skips_of h) in
      λ i. record { setup = r; producer = producer-full r.start h w n i; consumer = consumer-full r.start h w n i; records = records-full h w n i; tallies = tallies i; consumed = consumed i; skipped = skipped i }

  pub grant-next : (w s n p : ℕ) → IsLegal r (h ++ Res w s n p ∷ []) → snapshot_of r (h ++ Res w s n p ∷ []) ≡ with_grant w n (snapshot_of r h)
  grant-next w s n p l =
      let e = Res w s n p in
      let m = legal-next r h e [] l in
      let o = snapshot_of r h in
      let k = kept-from-legal r h (legal-front r h (e ∷ []) l) in
      let at = tally-at r h w m.0 in
      let facts = kept-res r h (records h) (producer_of r.start h) (consumer_of r.start h) w s n k m.0 m.2 m.3 in
      let moved = ap (λ q. h ++ Res w s n q ∷ []) m.1 in
      let new : record { pos = producer_of r.start h; len = n; worker = w; serial = s; status = Busy } ≡ next_record w n o =
      λ i. record { pos = producer_of r.start h; len = n; worker = w; serial = (m.2 ∙ sym (ap (λ (t : Tally). t.made) at)) i; status = Busy } in
      let others : (v : ℕ) → v ≢ w → tally_with v h e (tally_of v h) ≡ tally_of v h =
      λ v no i. record {
        made = (ap (λ b. grants v h + cond b 1 0) (ne_eqb w v (λ x. no (sym x))) ∙ add-zero (grants v h)) i;
        refused = add-zero (tally_of v h).refused i;
        submitted = add-zero (tally_of v h).submitted i;
        discarded = add-zero (tally_of v h).discarded i;
      } in
      let own : tally_of w (h ++ e ∷ []) ≡ record (tally_at o w) { made = (tally_at o w).made + 1 } =
      tally-res r w s n p h l ∙ ap (λ (t : Tally). record t { made = t.made + 1 }) (sym at) in
      let tallies = tallies-next e w l m.0 others ∙ ap (λ t. set o.tallies w t) own in
      let producer = ap (producer_of r.start) moved ∙ sym facts.producer_is in
      let consumer = ap (consumer_of r.start) moved ∙ sym facts.consumer_is in
      let rows = ap records moved ∙ sym facts.shown ∙ ap (λ x. records h ++ x ∷ []) new in
      let consumed = events-next r h e l ∙ add-zero (events_of h) in
      let skipped = skips-next r h e l ∙ add-zero (skips_of h) in
      λ i. record { setup = r; producer = producer i; consumer = consumer i; records = rows i; tallies = tallies i; consumed = consumed i; skipped = skipped i }

-- ---- in a chapter

pub ends : (earlier : List Entry) (c : Chapter) → ContinuesHistory earlier c → closing_of c ≡ snapshot_of c.opening.setup (earlier ++ c.entries)
ends earlier c is = ((goes-on c.opening.setup earlier c.opening is.earlier_legal is.opened c.entries).1 is.legal).stands

-- what is stored after one more entry
pub record RunsBehind (c : Chapter) (e : Entry) (now : Snapshot) : Type 0 where
  pub closing_is : now ≡ closing_of (with_entry c e)
  pub owed_is : owed_for now.records ≡ owed (with_entry c e)

pub runs-behind : (earlier : List Entry) (c : Chapter) (e : Entry) (closing now : Snapshot) (f : Snapshot → Snapshot) → IsKept earlier c → IsKept earlier (with_entry c e) → closing ≡ closing_of c → now ≡ f closing
    → (IsLegal c.opening.setup ((earlier ++ c.entries) ++ e ∷ []) → snapshot_of c.opening.setup ((earlier ++ c.entries) ++ e ∷ []) ≡ f (snapshot_of c.opening.setup (earlier ++ c.entries))) → RunsBehind c e now
runs-behind earlier c e closing now f kept longer is made step =
    let r = c.opening.setup in
    let cut : (earlier ++ c.entries) ++ e ∷ [] ≡ earlier ++ (c.entries ++ e ∷ []) = append_assoc earlier c.entries (e ∷ []) in
    let whole : IsLegal r (earlier ++ (c.entries ++ e ∷ [])) = (goes-on r earlier c.opening longer.continues.earlier_legal longer.continues.opened (c.entries ++ e ∷ [])).0.0 longer.continues.legal in
    let legal : IsLegal r ((earlier ++ c.entries) ++ e ∷ []) = subst (IsLegal r) (sym cut) whole in
    let old = is ∙ ends earlier c kept.continues in
    let new = ends earlier (with_entry c e) longer.continues in
    let same : now ≡ closing_of (with_entry c e) = made ∙ ap f old ∙ sym (step legal) ∙ ap (snapshot_of r) cut ∙ sym new in
    record { closing_is = same; owed_is = ap (λ (o : Snapshot). owed_for o.records) same }

-- ---- the calls

-- what a chapter preserves
pub record KeepsRunning (earlier : List Entry) (d : Chapter) (now : Snapshot) (owing : ℕ) : Type 0 where
  pub kept : IsKept earlier d
  pub closing_is : now ≡ closing_of d
  pub owed_is : owing ≡ owed d

module _ (earlier : List Entry) (c : Chapter) (kept : IsKept earlier c) (closing : Snapshot) (is : closing ≡ closing_of c) where
  total-is : (w : ℕ) → w < c.opening.setup.workers → tally_at closing w ≡ tally_from c.opening w c.entries
  total-is w low = ap (λ o. tally_at o w) is ∙ tally-after c.opening c.entries w low

  pub refusals-fit : (w : ℕ) → w < c.opening.setup.workers → MayRefuse c w → (tally_at closing w).refused < 2 ^ 62
  refusals-fit w low room = subst (λ (t : Tally). t.refused < 2 ^ 62) (sym (total-is w low)) room.1

  pub grants-fit : (w n : ℕ) → w < c.opening.setup.workers → HasRoomFrom c.opening c.entries n → (tally_at closing w).made < 2 ^ 62
  grants-fit w n low room =
      let r = c.opening.setup in
      let h = earlier ++ c.entries in
      let whole = is ∙ ends earlier c kept.continues in
      let made : (tally_at closing w).made ≡ grants w h = ap (λ o. (tally_at o w).made) whole ∙ ap (λ (t : Tally). t.made) (tally-at r h w low) in
      let producer : producer_from c.opening c.entries ≡ producer_of r.start h = ap (λ (o : Snapshot). o.producer) (sym is ∙ whole) in
      omega (arith, made, producer, room.limit, grants-low w h)

  pub records-fit : MayGrant c → length closing.records < c.room
  records-fit room =
      let same : length closing.records ≡ length (closing_of c).records = ap (λ (o : Snapshot). length o.records) is in
      omega (arith, same, records-owe (closing_of c).records, room)

  -- the positions, and the room that they leave
  pub consumer-low : closing.consumer ≤ closing.producer
  consumer-low =
      let r = c.opening.setup in
      let h = earlier ++ c.entries in
      let whole = is ∙ ends earlier c kept.continues in
      let legal = (goes-on r earlier c.opening kept.continues.earlier_legal kept.continues.opened c.entries).0.0 kept.continues.legal in
      let low : consumer_of r.start h ≤ producer_of r.start h = InRow-le (consumer_of r.start h) (records h) (producer_of r.start h) (kept-from-legal r h legal).in_row in
      let p : closing.producer ≡ producer_of r.start h = ap (λ (o : Snapshot). o.producer) whole in
      let q : closing.consumer ≡ consumer_of r.start h = ap (λ (o : Snapshot). o.consumer) whole in
      omega (arith, low, p, q)

  pub room-exact : (b : Bool) (n x y s : ℕ) → x ≡ closing.producer → y ≡ closing.consumer → s ≡ closing.setup.size → IsTrue b ↔ ((x + span n ≤ y + (s - 1)) × (x + span n ≤ 2 ^ 62)) → IsTrue b ↔ HasRoomFrom c.opening c.entries n
  room-exact b n x y s x-is y-is s-is exact =
      let p : x ≡ producer_from c.opening c.entries = x-is ∙ ap (λ (o : Snapshot). o.producer) is in
      let q : y ≡ consumer_from c.opening c.entries = y-is ∙ ap (λ (o : Snapshot). o.consumer) is in
      let size : s ≡ c.opening.setup.size = s-is ∙ ap (λ (o : Snapshot). o.setup.size) is in (
        (λ t. let both = exact.0 t in record { space = omega (arith, both.0, p, q, size); limit = omega (arith, both.1, p) }),
        (λ has. exact.1 (omega (arith, has.space, p, q, size), omega (arith, has.limit, p))),
      )

  pub refusal-exact : (b : Bool) (w count : ℕ) (total : Tally) → w < c.opening.setup.workers → count ≡ length c.entries + owed c → total ≡ tally_at closing w → IsTrue b ↔ ((count < c.room) × (total.refused < 2 ^ 62)) → IsTrue b ↔ MayRefuse c w
  refusal-exact b w count total low counted read exact =
      let same = read ∙ total-is w low in (
        (λ t. let both = exact.0 t in (omega (arith, both.0, counted), subst (λ (x : Tally). x.refused < 2 ^ 62) same both.1)),
        (λ may. exact.1 (omega (arith, may.0, counted), subst (λ (x : Tally). x.refused < 2 ^ 62) (sym same) may.1)),
      )

  -- the numbers of the next grant
  pub serial-is : (w : ℕ) → w < c.opening.setup.workers → (tally_at closing w).made ≡ grants_from c.opening w c.entries
  serial-is w low = ap (λ (t : Tally). t.made) (total-is w low)

  pub position-is : closing.producer ≡ producer_from c.opening c.entries
  position-is = ap (λ (o : Snapshot). o.producer) is

  pub refused : (w n : ℕ) (now : Snapshot) (owing : ℕ) (d : Chapter) → w < c.opening.setup.workers → ¬ HasRoomFrom c.opening c.entries n → MayRefuse c w → owing ≡ owed c → now ≡ with_refusal w closing →
      d ≡ with_entry c (Full w n) → KeepsRunning earlier d now owing
  refused w n now owing d low none room owes made logged =
      let e = Full w n in
      let longer = one-kept earlier c e kept (low, none) room.0 in
      let runs = runs-behind earlier c e closing now (with_refusal w) kept longer is made (λ l. refusal-next c.opening.setup (earlier ++ c.entries) w n l) in
      let same : owed c ≡ owed_for now.records = ap (λ (o : Snapshot). owed_for o.records) (sym is) ∙ ap (λ (o : Snapshot). owed_for o.records) (sym made) in
      subst (λ x. KeepsRunning earlier x now owing) (sym logged) (record { kept = longer; closing_is = runs.closing_is; owed_is = owes ∙ same ∙ runs.owed_is })

  pub granted : (w n : ℕ) (now : Snapshot) (owing : ℕ) (d : Chapter) → w < c.opening.setup.workers → HasRoomFrom c.opening c.entries n → MayGrant c → owing ≡ owed c → now ≡ with_grant w n closing →
      d ≡ with_entry c (Res w (grants_from c.opening w c.entries) n (producer_from c.opening c.entries)) → KeepsRunning earlier d now (owing + 2)
  granted w n now owing d low fits room owes made logged =
      let s = grants_from c.opening w c.entries in
      let p = producer_from c.opening c.entries in
      let e = Res w s n p in
      let longer = one-kept earlier c e kept (low, refl, refl, fits) room in
      let runs = runs-behind earlier c e closing now (with_grant w n) kept longer is made (λ l. grant-next c.opening.setup (earlier ++ c.entries) w s n p l) in
      let before : owed c ≡ owed_for closing.records = ap (λ (o : Snapshot). owed_for o.records) (sym is) in
      let after : owed_for now.records ≡ owed_for (closing.records ++ next_record w n closing ∷ []) = ap (λ (o : Snapshot). owed_for o.records) made in
      let more = sum_by-snoc (λ (x : Shown). entries_owed x.status) closing.records (next_record w n closing) in
      subst (λ x. KeepsRunning earlier x now (owing + 2)) (sym logged) (record { kept = longer; closing_is = runs.closing_is; owed_is = omega (arith, owes, before, after, more) ∙ runs.owed_is })
