-- What was taken from a ring forms a tape.
use Rattle.std.proofs.Common.{◌≡◌, ℕ, zero, suc, ◌+◌, ◌-◌, ◌<◌, ◌≤◌, ◌^◌, List, [], ◌∷◌, ◌++◌, length, refl, sym, ap, subst, ◌∙◌, arith, append-nil}
use Rattle.std.specs.List.{Contains}
use Rattle.std.specs.Prelude.{count_by}
use Rattle.std.proofs.lemmas.Grind.{flat_map-append}
use Rattle.rb_history.specs.declared.entries.Entry.{Entry}
use Rattle.rb_history.specs.declared.entries.Entry.TheVariants.{Res, Take}
use Rattle.rb_history.specs.declared.answers.Taken.{Taken}
use Rattle.rb_history.specs.declared.answers.Taken.TheVariants.{Event, Skipped, BusyFront, Empty}
use Rattle.rb_history.specs.Span.{span}
use Rattle.rb_history.specs.History.{producer_of, consumer_of, records, is_grant_at}
use Rattle.rb_history.specs.RoomRule.{Setup}
use Rattle.rb_history.specs.Legal.{IsLegal}
use Rattle.rb_history.specs.RingModel.{Ring, fresh}
use Rattle.rb_history.specs.Calls as ring
use Rattle.rb_history.specs.TapeBytes.{Item, item_position, item_len, IsItemAt, AreItemsFrom, end_of}
use Rattle.rb_history.specs.TapeBytes.Item.{Event as EventItem, Skip as SkipItem}
use Rattle.rb_history.proofs.HeaderLaws.{AreItemsFrom-push, end_of-append, end_of-cons, end_of-nil}
use Rattle.rb_history.proofs.Row.{InRow-le}
use Rattle.rb_history.proofs.Laws.{KeptAs, kept-from-legal, legal-front}
use Rattle.rb_history.proofs.Exact.{granted-from}
use Rattle.rb_history.proofs.TakenRecords.{position-taken}
use Rattle.rb_world.specs.Worlds.{WorldRing}
use Rattle.rb_world.specs.Turns.{taken_by}
use Rattle.rb_world.specs.OpeningWorld.{IsFreshRing}
use Rattle.rb_world.specs.TakenTapes.{taken_item, taken_items, StandsOnTape, TakenStandOnTapes}
use Rattle.rb_world.proofs.WholeRuns.{opening-reached}
use Rattle.rb_world.proofs.RingTurns.{Quiet}
use Rattle.rb_world.proofs.RingRuns.{IsLegalRing, TakesOf, RingTurn, Quietly, ByTake, along}

-- ---- a record that was granted fits into the ring

split : (h : List Entry) (e : Entry) → Contains h e → (before : List Entry) × (after : List Entry) × (h ≡ before ++ e ∷ after)
split [] e (i, low, is) = absurd (omega arith)
split (x ∷ h) e (zero, low, is) = ([], h, ap (λ y. y ∷ h) is)
split (x ∷ h) e (suc i, low, is) = let rest = split h e (i, omega arith, is) in (x ∷ rest.0, rest.1, ap (λ l. x ∷ l) rest.2)

granted-fits : (r : Setup) (h : List Entry) (w k n p : ℕ) → IsLegal r h → Contains h (Res w k n p) → (span n < r.size) × (p + span n ≤ 2 ^ 62)
granted-fits r h w k n p l there =
    let cut = split h (Res w k n p) there in
    let before = cut.0 in
    let may = l.each before (Res w k n p) cut.1 cut.2 in
    let kept : KeptAs r before = kept-from-legal r before (legal-front r before (Res w k n p ∷ cut.1) (subst (IsLegal r) cut.2 l)) in
    let low : consumer_of r.start before ≤ producer_of r.start before = InRow-le (consumer_of r.start before) (records before) (producer_of r.start before) kept.in_row in
    let space : producer_of r.start before + span n ≤ consumer_of r.start before + (r.size - 1) = may.3.space in
    let limit : producer_of r.start before + span n ≤ 2 ^ 62 = may.3.limit in
    let at : p ≡ producer_of r.start before = may.1 in
    (omega (arith, low, space), omega (arith, limit, at))

-- ---- one turn

module _ (old new : WorldRing) where
  still : Quiet old new → StandsOnTape old → StandsOnTape new
  still q o = record {
    follow = subst (λ (s : Setup). AreItemsFrom s.size s.start (taken_items new.taken)) (sym q.setup_same) (subst (λ t. AreItemsFrom old.ring.setup.size old.ring.setup.start (taken_items t)) (sym q.taken_same) o.follow);
    ends = subst (λ (s : Setup). end_of s.start (taken_items new.taken) ≡ consumer_of s.start new.ring.history) (sym q.setup_same)
        (subst (λ t. end_of old.ring.setup.start (taken_items t) ≡ consumer_of old.ring.setup.start new.ring.history) (sym q.taken_same) (o.ends ∙ sym q.consumer_same));
  }

  module _ (legal : IsLegalRing old) (small : old.ring.setup.size ≤ 67108864) (o : StandsOnTape old) where
    abbrev start : ℕ
    start = old.ring.setup.start

    abbrev h : List Entry
    h = old.ring.history

    -- one more record was taken
    one-more : (p w k n : ℕ) (item : Item) → item_position item ≡ p → item_len item ≡ n → p ≡ consumer_of start h → Contains h (Res w k n p) → ring.Logs old.ring new.ring (Take p ∷ [])
        → taken_items new.taken ≡ taken_items old.taken ++ item ∷ [] → StandsOnTape new
    one-more p w k n item here long front there logs took =
        let fits = granted-fits old.ring.setup h w k n p legal there in
        let fitted : span n < old.ring.setup.size = fits.0 in
        let bounded : p + span n ≤ 2 ^ 62 = fits.1 in
        let ends : end_of start (taken_items old.taken) ≡ p = o.ends ∙ sym front in
        let has_header : n < 2 ^ 30 = omega (arith, fitted, small) in
        let at : IsItemAt old.ring.setup.size (end_of start (taken_items old.taken)) item = record {
          here = here ∙ sym ends;
          has_header = subst (λ m. m < 2 ^ 30) (sym long) has_header;
          has_fitted = subst (λ m. span m < old.ring.setup.size) (sym long) fitted;
          bounded = subst (λ m. end_of start (taken_items old.taken) + span m ≤ 2 ^ 62) (sym long) (subst (λ q. q + span n ≤ 2 ^ 62) (sym ends) bounded);
        } in
        let once : count_by (is_grant_at p) h ≤ 1 = let one = (kept-from-legal old.ring.setup h legal).single p (granted-from h w k n p there) in omega (arith, one) in
        let moved : consumer_of start (h ++ Take p ∷ []) ≡ consumer_of start h + span n = position-taken start w k n p h once there in
        let behind : end_of start (taken_items old.taken ++ item ∷ []) ≡ consumer_of start new.ring.history =
        end_of-append start (taken_items old.taken) (item ∷ []) ∙ end_of-cons (end_of start (taken_items old.taken)) item [] ∙ end_of-nil (end_of start (taken_items old.taken) + span (item_len item))
        ∙ ap (λ m. end_of start (taken_items old.taken) + span m) long ∙ ap (λ q. q + span n) o.ends ∙ sym moved ∙ ap (consumer_of start) (sym logs.history_is) in
        record {
          follow = subst (λ (s : Setup). AreItemsFrom s.size s.start (taken_items new.taken)) (sym logs.setup_same)
              (subst (AreItemsFrom old.ring.setup.size start) (sym took) (AreItemsFrom-push old.ring.setup.size start (taken_items old.taken) item o.follow at));
          ends = subst (λ (s : Setup). end_of s.start (taken_items new.taken) ≡ consumer_of s.start new.ring.history) (sym logs.setup_same) (subst (λ l. end_of start l ≡ consumer_of start new.ring.history) (sym took) behind);
        }

    took-more : (found : Taken) → new.taken ≡ old.taken ++ taken_by found → taken_items new.taken ≡ taken_items old.taken ++ taken_items (taken_by found)
    took-more found is = ap taken_items is ∙ flat_map-append taken_item old.taken (taken_by found)

    none-more : new.ring ≡ old.ring → new.taken ≡ old.taken ++ [] → StandsOnTape new
    none-more same took = subst StandsOnTape (sym is) o
      where
        is : new ≡ old
        is = (λ i. record { ring = same i; taken = (took ∙ append-nil old.taken) i })

    taken-more : (found : Taken) → TakesOf found old new → StandsOnTape new
    taken-more (Event p w k bytes) m =
        one-more p w k (length bytes) (EventItem p bytes) refl refl m.stepped.front m.stepped.granted_is m.stepped.logged (took-more (Event p w k bytes) m.taken_are)
    taken-more (Skipped p n) m =
        one-more p m.stepped.granted_is.0 m.stepped.granted_is.1.0 n (SkipItem p n) refl refl m.stepped.front m.stepped.granted_is.1.1 m.stepped.logged (took-more (Skipped p n) m.taken_are)
    taken-more BusyFront m = none-more m.stepped.same m.taken_are
    taken-more Empty m = none-more m.stepped.same m.taken_are

-- ---- a run

same-setup : (found : Taken) (old new : WorldRing) → TakesOf found old new → new.ring.setup ≡ old.ring.setup
same-setup (Event p w k bytes) old new m = m.stepped.logged.setup_same
same-setup (Skipped p n) old new m = m.stepped.logged.setup_same
same-setup BusyFront old new m = ap (λ (v : Ring). v.setup) m.stepped.same
same-setup Empty old new m = ap (λ (v : Ring). v.setup) m.stepped.same

-- the ring has this setup, and what was taken from it forms a tape if the ring is small enough
record OnTape (setup : Setup) (turns : ℕ) (b : WorldRing) : Type 0 where
  setup_is : b.ring.setup ≡ setup
  stands : setup.size ≤ 67108864 → StandsOnTape b

one-turn : (setup : Setup) (n : ℕ) (old new : WorldRing) → IsLegalRing old → RingTurn old new → OnTape setup n old → OnTape setup (n + 1) new
one-turn setup n old new legal (Quietly q) o = record { setup_is = q.setup_same ∙ o.setup_is; stands = λ small. still old new q (o.stands small) }
one-turn setup n old new legal (ByTake found m) o = record {
  setup_is = same-setup found old new m ∙ o.setup_is;
  stands = λ small. taken-more old new legal (subst (λ (s : Setup). s.size ≤ 67108864) (sym o.setup_is) small) (o.stands small) found m;
}

begins : (workers : ℕ) (b : WorldRing) → IsFreshRing workers b → StandsOnTape b
begins workers b f =
    let ring : Ring = fresh f.size f.start workers in
    let empty : StandsOnTape (record { ring = ring; taken = [] }) = record { follow = tt; ends = refl } in
    subst StandsOnTape (λ i. record { ring = (sym f.ring_is) i; taken = (sym f.taken_none) i }) empty

pub stand-on-tapes : TakenStandOnTapes
stand-on-tapes world x r =
    let at_first = x.opens.rings r in
    let setup = (x.first.rings r).ring.setup in
    let last = along (OnTape setup) r (one-turn setup) 0 x.first world x.actors x.events (opening-reached x.first x.opens) x.there x.run
    (record { setup_is = refl; stands = λ _. begins x.first.worker_count (x.first.rings r) at_first }) in
    (last.setup_is, λ small. last.stands (subst (λ (s : Setup). s.size ≤ 67108864) last.setup_is small))
