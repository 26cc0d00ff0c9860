-- What entries add to a chapter and to what it owes, and how many records a ring can have at once.
use Rattle.std.proofs.Common.{◌≡◌, ℕ, zero, suc, ◌+◌, ◌-◌, ◌*◌, ◌/◌, ◌<◌, ◌≤◌, ◌^◌, ◌⊎◌, inl, inr, cond, Bool, true, false, ◌||◌, List, [], ◌∷◌, ◌++◌, length, refl, sym, ap, ◌∙◌, subst, append_assoc, append-nil, length-append, arith}
use Rattle.std.specs.List.{All, count_by, sum_by}
use Rattle.std.proofs.Math.Nat.{le-div_iff_mul-le}
use Rattle.std.proofs.lemmas.Bool.{true≢false}
use Rattle.std.proofs.lemmas.List.Elements.{All-head, All-tail}
use Rattle.rb_history.specs.declared.entries.Entry.{Entry}
use Rattle.rb_history.specs.declared.entries.Entry.TheVariants.{Res, Full, Sub, Dis, Take}
use Rattle.rb_history.specs.History.{Shown, Status, status_by, is_submitted_at, is_discarded_at, producer_of, consumer_of, records}
use Rattle.rb_history.specs.History.Status.{Busy, Waiting, Consumed, Discarded}
use Rattle.rb_history.specs.Span.{span}
use Rattle.rb_history.specs.RoomRule.{Setup, HasRoomFor}
use Rattle.rb_history.specs.Legal.{IsLegal, MayFollow}
use Rattle.rb_history.specs.StoredRecords.{entries_owed}
use Rattle.rb_history.specs.RingModel.{Ring}
use Rattle.rb_history.specs.Calls.{RingHasRoom}
use Rattle.rb_history.specs.inner.RecordRows.{InRow}
use Rattle.rb_history.proofs.Laws.{kept-from-legal, legal-front, legal-next}
use Rattle.rb_chapter_ring.specs.ChapterRoom.{owed_for}
use Rattle.rb_chapter_ring.proofs.Weights.{weight, weigh-full, weigh-res, weigh-sub, weigh-dis, weigh-take}
use Rattle.rb_history.proofs.Lists.{sum_by-cons}
use Rattle.std.proofs.lemmas.List.Sums.{sum_by-append}
use Rattle.rb_ledger.specs.Ledger.{IsRing}
use Rattle.rb_ledger.specs.EntryRoom.{owed_by, HasEntryRoom, MayLogGrant, MayLogRefusal, FindsNoEntryRoom}
use Rattle.rb_consumer.specs.Turns.{IsTurnDue}
use Rattle.rb_consumer.specs.BetweenLooks.{records_at_once, is_take_entry, is_refusal_entry, SufficesBetweenLooks, WasLookedAt, FullOnlyAfterTheRing}

-- ---- the number of records

-- the number of records, as a weight
abbrev number_of : List Shown → ℕ
number_of ss = weight (λ st. 1) ss

weigh-one : (ss : List Shown) → number_of ss ≡ length ss
weigh-one [] = refl
weigh-one (s ∷ ss) = omega (arith, sum_by-cons (λ (x : Shown). 1) s ss, weigh-one ss)

owed-one : (st : Status) → entries_owed st ≤ 2
owed-one Busy = omega arith
owed-one Waiting = omega arith
owed-one Consumed = omega arith
owed-one Discarded = omega arith

-- a record owes at most two entries
owed-few : (ss : List Shown) → owed_for ss ≤ 2 * length ss
owed-few [] = omega arith
owed-few (s ∷ ss) = omega (arith, sum_by-cons (λ (x : Shown). entries_owed x.status) s ss, owed-one s.status, owed-few ss)

span-grows : (least n : ℕ) → least ≤ n → span least ≤ span n
span-grows least n low = omega (arith, low)

-- consecutive records of at least `least` bytes each cover at least this distance
row-reaches : (least from to : ℕ) (ss : List Shown) → InRow from ss to → All (λ (s : Shown). least ≤ s.len) ss → from + length ss * span least ≤ to
row-reaches least from to [] row all = omega (arith, row)
row-reaches least from to (s ∷ ss) row all =
    let rest = row-reaches least (from + span s.len) to ss row.1 (All-tail (λ (x : Shown). least ≤ x.len) s ss all) in
    let grows = span-grows least s.len (All-head (λ (x : Shown). least ≤ x.len) s ss all) in
    omega (arith, rest, grows)

-- if that many spans stay within the size, there are at most that many records at once
fit : (many size least : ℕ) → many * span least ≤ size - 1 → many ≤ records_at_once size least
fit many size least within = (le-div_iff_mul-le (omega arith)).1 within

-- ---- what the entries since a look add

settled-one : (s d : Bool) → (s || d) ≡ true → entries_owed (status_by s d false) ≡ 1
settled-one true true o = refl
settled-one true false o = refl
settled-one false true o = refl
settled-one false false o = absurd (true≢false (sym o))

abbrev takes_in : List Entry → ℕ
takes_in es = count_by is_take_entry es

abbrev refusals_in : List Entry → ℕ
refusals_in es = count_by is_refusal_entry es

-- One more entry, with what is owed, adds three for a grant, whose record is now there; nothing for a commit; nothing
-- for a take, whose record is no longer there; and one for a refusal.
abbrev AddsUp : List Entry → List Entry → Type 0
AddsUp h es =
    length (h ++ es) + owed_for (records (h ++ es)) + 3 * number_of (records h)
    ≡ length h + owed_for (records h) + 3 * number_of (records (h ++ es)) + 3 * takes_in es + refusals_in es

module _ (r : Setup) (h : List Entry) (l : IsLegal r h) where
  one-adds : (e : Entry) → MayFollow r h e → AddsUp h (e ∷ [])
  one-adds (Full w n) f =
      let k = kept-from-legal r h l in
      omega (arith, length-append h (Full w n ∷ []), weigh-full entries_owed r h k w n, weigh-full (λ st. 1) r h k w n)
  one-adds (Res w s n p) f =
      let k = kept-from-legal r h l in
      omega (arith, length-append h (Res w s n p ∷ []), weigh-res entries_owed r h k w s n p f, weigh-res (λ st. 1) r h k w s n p f)
  one-adds (Sub p) f =
      let k = kept-from-legal r h l in
      omega (arith, length-append h (Sub p ∷ []), weigh-sub entries_owed r h k p f, weigh-sub (λ st. 1) r h k p f)
  one-adds (Dis p) f =
      let k = kept-from-legal r h l in
      omega (arith, length-append h (Dis p ∷ []), weigh-dis entries_owed r h k p f, weigh-dis (λ st. 1) r h k p f)
  one-adds (Take p) f =
      let k = kept-from-legal r h l in
      let owed = settled-one (is_submitted_at h p) (is_discarded_at h p) f.1 in
      omega (arith, length-append h (Take p ∷ []), weigh-take entries_owed r h k p f, weigh-take (λ st. 1) r h k p f, owed)

adds-up : (r : Setup) (h es : List Entry) → IsLegal r (h ++ es) → AddsUp h es
adds-up r h [] l =
    let same = append-nil h in
    let long : length (h ++ []) ≡ length h = ap (λ (x : List Entry). length x) same in
    let owed : owed_for (records (h ++ [])) ≡ owed_for (records h) = ap (λ (x : List Entry). owed_for (records x)) same in
    let many : number_of (records (h ++ [])) ≡ number_of (records h) = ap (λ (x : List Entry). number_of (records x)) same in
    omega (arith, long, owed, many)
adds-up r h (e ∷ es) l =
    let cut : (h ++ e ∷ []) ++ es ≡ h ++ e ∷ es = append_assoc h (e ∷ []) es in
    let longer : IsLegal r ((h ++ e ∷ []) ++ es) = subst (IsLegal r) (sym cut) l in
    let first = one-adds r h (legal-front r h (e ∷ es) l) e (legal-next r h e es l) in
    let rest = subst (λ (x : List Entry). length x + owed_for (records x) + 3 * number_of (records (h ++ e ∷ [])) ≡ length (h ++ e ∷ []) + owed_for (records (h ++ e ∷ [])) + 3 * number_of (records x) + 3 * takes_in es + refusals_in es) cut (adds-up r (h ++ e ∷ []) es longer) in
    omega (arith, first, rest, sum_by-append (λ x. cond (is_take_entry x) 1 0) (e ∷ []) es, sum_by-append (λ x. cond (is_refusal_entry x) 1 0) (e ∷ []) es)

-- ---- the chapter

module _ (room margin cut least takes refusals : ℕ) (looked now : Ring) (suffices : SufficesBetweenLooks room margin now.setup.size least takes refusals) (is : IsRing now) (seen : WasLookedAt room margin cut looked now takes refusals) where
  -- at the look, the used and the owed entries were within the room, as the look found it
  abbrev LookFound : ℕ → Type 0
  LookFound used = (used ≡ 0) ⊎ (used + owed_by looked + 3 + margin ≤ room)

  look-found : (used : ℕ) → ¬ IsTurnDue margin room used (owed_by looked) → LookFound used
  look-found zero not_due = inl refl
  look-found (suc used) not_due = inr (omega (arith, λ (over : room < suc used + owed_by looked + 3 + margin). not_due (omega arith, over)))

  now-legal : IsLegal now.setup (looked.history ++ seen.since)
  now-legal = subst (IsLegal now.setup) seen.goes_on is.legal

  -- with at most this many records now there is room for `more` entries
  room-left : (many more : ℕ) → number_of (records now.history) ≤ many → 3 * (many + takes) + refusals + more ≤ room → 3 * (many + takes) + refusals + more ≤ margin + 3 → HasEntryRoom room cut more now
  room-left many more few fits early =
      let added = subst (λ (x : List Entry). length x + owed_for (records x) + 3 * number_of (records looked.history) ≡ length looked.history + owed_by looked + 3 * number_of (records x) + 3 * takes_in seen.since + refusals_in seen.since)
      (sym seen.goes_on) (adds-up now.setup looked.history seen.since now-legal) in
      let few_takes = seen.few_takes in
      let few_refusals = seen.few_refusals in
      let handed_out = seen.handed_out in
      let longer : length now.history ≡ length looked.history + length seen.since = ap (λ (x : List Entry). length x) seen.goes_on ∙ length-append looked.history seen.since in
      let owes = owed-few (records looked.history) in
      let count = weigh-one (records looked.history) in
      elim (look-found (length looked.history - cut) seen.not_due) [
        | inl none ↦ omega (arith, added, longer, few_takes, few_refusals, handed_out, owes, count, few, fits, none)
        | inr found ↦ omega (arith, added, longer, few_takes, few_refusals, handed_out, few, early, found)
      ]

  -- there are at most as many records as the space between the positions allows
  module _ (all : All (λ (s : Shown). least ≤ s.len) (records now.history)) where
    there-now : (records_there : ℕ) → records_there ≡ number_of (records now.history) → consumer_of now.setup.start now.history + records_there * span least ≤ producer_of now.setup.start now.history
    there-now many is_many =
        let row = (kept-from-legal now.setup now.history is.legal).in_row in
        let reach = row-reaches least (consumer_of now.setup.start now.history) (producer_of now.setup.start now.history) (records now.history) row all in
        subst (λ m. consumer_of now.setup.start now.history + m * span least ≤ producer_of now.setup.start now.history) (sym (weigh-one (records now.history)) ∙ sym is_many) reach

    all-fit : number_of (records now.history) ≤ records_at_once now.setup.size least
    all-fit =
        let producer = is.stands.producer_is in
        let consumer = is.stands.consumer_is in
        let within = is.bounded.room in
        let reach = there-now (number_of (records now.history)) refl in
        fit (number_of (records now.history)) now.setup.size least (omega (arith, producer, consumer, within, reach))

    one-more-fits : (n : ℕ) → least ≤ n → RingHasRoom now n → number_of (records now.history) + 1 ≤ records_at_once now.setup.size least
    one-more-fits n low has =
        let reach = there-now (number_of (records now.history)) refl in
        let grows = span-grows least n low in
        let space = has.space in
        fit (number_of (records now.history) + 1) now.setup.size least (omega (arith, reach, grows, space))

    may-grant : (n : ℕ) → least ≤ n → RingHasRoom now n → MayLogGrant room cut now
    may-grant n low has =
        let few = one-more-fits n low has in
        let room_is = suffices.room_is in
        let margin_is = suffices.margin_is in
        room-left (records_at_once now.setup.size least - 1) 3 (omega (arith, few)) (omega (arith, few, room_is)) (omega (arith, few, margin_is))

    may-refuse : HasEntryRoom room cut 1 now
    may-refuse =
        let room_is = suffices.room_is in
        let margin_is = suffices.margin_is in
        room-left (records_at_once now.setup.size least) 1 all-fit (omega (arith, room_is)) (omega (arith, margin_is))

pub full-only-after-the-ring : FullOnlyAfterTheRing
full-only-after-the-ring room margin cut least takes refusals looked now after w n suffices is seen all low few none =
    none.no_refusal (λ has. none.no_grant has (may-grant room margin cut least takes refusals looked now suffices is seen all n low has))
    (may-refuse room margin cut least takes refusals looked now suffices is seen all, few)
