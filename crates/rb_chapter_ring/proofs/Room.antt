-- The room that a chapter owes is preserved.
use Rattle.std.proofs.Common.{◌≡◌, ℕ, ◌+◌, ◌≤◌, ◌↔◌, Bool, true, false, ◌||◌, List, [], ◌∷◌, ◌++◌, length, refl, sym, ap, ◌∙◌, subst, append_assoc, append-nil, length-append, arith}
use Rattle.std.proofs.lemmas.Bool.{true≢false}
use Rattle.rb_history.specs.declared.entries.Entry.{Entry}
use Rattle.rb_history.specs.declared.entries.Entry.TheVariants.{Res, Full, Sub, Dis, Take}
use Rattle.rb_history.specs.History.{status_by, is_submitted_at, is_discarded_at, records}
use Rattle.rb_history.specs.RoomRule.{Setup}
use Rattle.rb_history.specs.Legal.{IsLegal, MayFollow}
use Rattle.rb_history.specs.StoredRecords.{entries_owed}
use Rattle.rb_history.proofs.Laws.{kept-from-legal, legal-front, legal-next}
use Rattle.rb_chapter_ring.specs.Snapshot.{Snapshot, snapshot_of}
use Rattle.rb_chapter_ring.specs.CountedFrom.{records_from, MayFollowFrom, IsLegalFrom}
use Rattle.rb_chapter_ring.specs.Chapters.{Chapter, closing_of, Meets}
use Rattle.rb_chapter_ring.specs.ChapterRoom.{owed_for, HasRoomForEntry, HasRoomForOwed, with_entry}
use Rattle.rb_chapter_ring.specs.WholeHistory.{ContinuesHistory, EntriesKeepRoom, NextHasRoom}
use Rattle.rb_chapter_ring.proofs.Legal.{legal-one}
use Rattle.rb_chapter_ring.proofs.Stands.{both-ways, said, goes-on}
use Rattle.rb_chapter_ring.proofs.Weights.{weigh-full, weigh-res, weigh-sub, weigh-dis, weigh-take}

one-owed : (s d : Bool) → (s || d) ≡ true → entries_owed (status_by s d false) ≡ 1
one-owed true true o = refl
one-owed true false o = refl
one-owed false true o = refl
one-owed false false o = absurd (true≢false (sym o))

abbrev Asked : ℕ → ℕ → Entry → Type 0
Asked n m (Res w k l p) = n + 3 ≤ m
Asked n m (Full w l) = n + 1 ≤ m
Asked n m _ = n ≤ m

asked : (c : Chapter) (e : Entry) (n : ℕ) → n ≡ length c.entries + owed_for (records_from c.opening c.entries) → HasRoomForEntry c e → Asked n c.room e
asked c (Res w k l p) n is room = omega (arith, is, room)
asked c (Full w l) n is room = omega (arith, is, room)
asked c (Sub p) n is room = omega (arith, is, room)
asked c (Dis p) n is room = omega (arith, is, room)
asked c (Take p) n is room = omega (arith, is, room)

asked-back : (c : Chapter) (e : Entry) (n : ℕ) → n ≡ length c.entries + owed_for (records_from c.opening c.entries) → Asked n c.room e → HasRoomForEntry c e
asked-back c (Res w k l p) n is room = omega (arith, is, room)
asked-back c (Full w l) n is room = omega (arith, is, room)
asked-back c (Sub p) n is room = omega (arith, is, room)
asked-back c (Dis p) n is room = omega (arith, is, room)
asked-back c (Take p) n is room = omega (arith, is, room)

-- a legal history, of which u entries are the chapter's
room-step : (r : Setup) (h : List Entry) (e : Entry) (u m : ℕ) → IsLegal r h → MayFollow r h e → Asked (u + owed_for (records h)) m e → u + 1 + owed_for (records (h ++ e ∷ [])) ≤ m
room-step r h (Full w n) u m l f room = omega (arith, room, weigh-full entries_owed r h (kept-from-legal r h l) w n)
room-step r h (Res w s n p) u m l f room = omega (arith, room, weigh-res entries_owed r h (kept-from-legal r h l) w s n p f)
room-step r h (Sub p) u m l f room = omega (arith, room, weigh-sub entries_owed r h (kept-from-legal r h l) p f)
room-step r h (Dis p) u m l f room = omega (arith, room, weigh-dis entries_owed r h (kept-from-legal r h l) p f)
room-step r h (Take p) u m l f room = omega (arith, room, weigh-take entries_owed r h (kept-from-legal r h l) p f, one-owed (is_submitted_at h p) (is_discarded_at h p) f.1)

-- the converse
room-unstep : (r : Setup) (h : List Entry) (e : Entry) (u m : ℕ) → IsLegal r h → MayFollow r h e → u + 1 + owed_for (records (h ++ e ∷ [])) ≤ m → Asked (u + owed_for (records h)) m e
room-unstep r h (Full w n) u m l f room = omega (arith, room, weigh-full entries_owed r h (kept-from-legal r h l) w n)
room-unstep r h (Res w s n p) u m l f room = omega (arith, room, weigh-res entries_owed r h (kept-from-legal r h l) w s n p f)
room-unstep r h (Sub p) u m l f room = omega (arith, room, weigh-sub entries_owed r h (kept-from-legal r h l) p f)
room-unstep r h (Dis p) u m l f room = omega (arith, room, weigh-dis entries_owed r h (kept-from-legal r h l) p f)
room-unstep r h (Take p) u m l f room = omega (arith, room, weigh-take entries_owed r h (kept-from-legal r h l) p f, one-owed (is_submitted_at h p) (is_discarded_at h p) f.1)

module _ (r : Setup) (h : List Entry) (l : IsLegal r h) where
  kept-at : (c : Chapter) (e : Entry) → c.opening ≡ snapshot_of r h → IsLegalFrom (snapshot_of r h) c.entries → MayFollowFrom (snapshot_of r h) c.entries e → HasRoomForEntry c e ↔ HasRoomForOwed (with_entry c e)
  kept-at c e opened legal follows =
      let t = c.entries in
      let old : records_from c.opening t ≡ records (h ++ t) = ap (λ x. records_from x t) opened ∙ ap (λ x. x.records) (said r h l t legal).stands in
      let longer : IsLegalFrom (snapshot_of r h) (t ++ e ∷ []) = legal-one (snapshot_of r h) t e legal follows in
      let whole : IsLegal r (h ++ (t ++ e ∷ [])) = (both-ways r h l (t ++ e ∷ [])).0 longer in
      let new : records_from c.opening (t ++ e ∷ []) ≡ records (h ++ (t ++ e ∷ [])) = ap (λ x. records_from x (t ++ e ∷ [])) opened ∙ ap (λ x. x.records) (said r h l (t ++ e ∷ []) longer).stands in
      let cut : (h ++ t) ++ e ∷ [] ≡ h ++ (t ++ e ∷ []) = append_assoc h t (e ∷ []) in
      let one : IsLegal r ((h ++ t) ++ e ∷ []) = subst (IsLegal r) (sym cut) whole in
      let front : IsLegal r (h ++ t) = legal-front r (h ++ t) (e ∷ []) one in
      let next : MayFollow r (h ++ t) e = legal-next r (h ++ t) e [] one in
      let owes : owed_for (records_from c.opening (t ++ e ∷ [])) ≡ owed_for (records ((h ++ t) ++ e ∷ [])) = ap owed_for (new ∙ ap records (sym cut)) in
      let n : length t + owed_for (records (h ++ t)) ≡ length t + owed_for (records_from c.opening t) = ap (λ x. length t + owed_for x) (sym old) in (
        (λ room. omega (arith, room-step r (h ++ t) e (length t) c.room front next (asked c e (length t + owed_for (records (h ++ t))) n room), owes, length-append t (e ∷ []))),
        (λ room. asked-back c e (length t + owed_for (records (h ++ t))) n (room-unstep r (h ++ t) e (length t) c.room front next (omega (arith, room, owes, length-append t (e ∷ []))))),
      )

pub keep-room : EntriesKeepRoom
keep-room earlier c e is follows =
    kept-at c.opening.setup earlier is.earlier_legal c e is.opened (subst (λ o. IsLegalFrom o c.entries) is.opened is.legal) (subst (λ o. MayFollowFrom o c.entries e) is.opened follows)

no_entry : (before : List Entry) (e : Entry) (after : List Entry) → [] ≡ before ++ e ∷ after → ⊥
no_entry [] e after is = cc
no_entry (b ∷ bs) e after is = cc

pub none-legal : (o : Snapshot) (t : List Entry) → t ≡ [] → IsLegalFrom o t
none-legal o t none = record { each = λ before e after is. absurd (no_entry before e after (sym none ∙ is)) }

-- a chapter that meets one which continues `earlier` continues `earlier` with that chapter's entries
module _ (earlier : List Entry) (c d : Chapter) (is : ContinuesHistory earlier c) (meets : Meets c d) (none : d.entries ≡ []) where
  longer-legal : IsLegal c.opening.setup (earlier ++ c.entries)
  longer-legal = (goes-on c.opening.setup earlier c.opening is.earlier_legal is.opened c.entries).0.0 is.legal

  ends : closing_of c ≡ snapshot_of c.opening.setup (earlier ++ c.entries)
  ends = ((goes-on c.opening.setup earlier c.opening is.earlier_legal is.opened c.entries).1 is.legal).stands

  begins : d.opening ≡ snapshot_of c.opening.setup (earlier ++ c.entries)
  begins = meets.goes_on ∙ ends

  pub next-continues : ContinuesHistory (earlier ++ c.entries) d
  next-continues =
      let setup : d.opening.setup ≡ c.opening.setup = ap (λ o. o.setup) begins in
      record {
        earlier_legal = subst (λ x. IsLegal x (earlier ++ c.entries)) (sym setup) longer-legal;
        opened = begins ∙ ap (λ x. snapshot_of x (earlier ++ c.entries)) (sym setup);
        legal = none-legal d.opening d.entries none;
      }

  owes-same : owed_for (records_from d.opening d.entries) ≡ owed_for (records_from c.opening c.entries)
  owes-same =
      let longer = earlier ++ c.entries in
      let here = ((goes-on c.opening.setup longer d.opening longer-legal begins d.entries).1 (none-legal d.opening d.entries none)).stands in
      let old : records_from c.opening c.entries ≡ records longer = ap (λ o. o.records) ends in
      let new : records_from d.opening d.entries ≡ records longer = ap (λ o. o.records) here ∙ ap (λ t. records (longer ++ t)) none ∙ ap records (append-nil longer) in
      ap owed_for (new ∙ sym old)

pub next-room : NextHasRoom
next-room earlier c d is room meets none same =
    let empty : length d.entries ≡ 0 = ap length none in
    (omega (arith, room, owes-same earlier c d is meets none, empty, same), next-continues earlier c d is meets none)
