-- What a chapter stores beside its entries.
use Rattle.std.proofs.Common.{◌≡◌, ◌+◌, ◌≤◌, ◌↔◌, Bool, IsTrue, List, [], ◌∷◌, ◌++◌, length, refl, sym, ap, ◌∙◌, append-nil, arith}
use Rattle.rb_history.specs.declared.entries.Entry.{Entry}
use Rattle.rb_history.specs.History.{Shown, Status}
use Rattle.rb_history.specs.History.Status.{Busy, Waiting, Consumed, Discarded}
use Rattle.rb_history.specs.StoredRecords.{entries_owed}
use Rattle.rb_history.proofs.Lists.{sum_by-cons}
use Rattle.rb_history.specs.RoomRule.{Setup}
use Rattle.rb_chapter_ring.specs.Snapshot.{Snapshot, snapshot_of}
use Rattle.rb_chapter_ring.specs.Chapters.{Chapter, closing_of, empty_ring, Meets}
use Rattle.rb_chapter_ring.specs.ChapterRoom.{owed_for, owed}
use Rattle.rb_chapter_ring.specs.WholeHistory.{ContinuesHistory, IsKept}
use Rattle.rb_chapter_ring.proofs.Stands.{goes-on}
use Rattle.rb_chapter_ring.proofs.Room.{next-room}

-- without entries, the summary at its end is its opening
pub closing-none : (earlier : List Entry) (c : Chapter) → ContinuesHistory earlier c → c.entries ≡ [] → closing_of c ≡ c.opening
closing-none earlier c is none =
    let ends = ((goes-on c.opening.setup earlier c.opening is.earlier_legal is.opened c.entries).1 is.legal).stands in
    ends ∙ ap (λ t. snapshot_of c.opening.setup (earlier ++ t)) none ∙ ap (snapshot_of c.opening.setup) (append-nil earlier) ∙ sym is.opened

-- each record owes at least one entry
pub records-owe : (ss : List Shown) → length ss ≤ owed_for ss
records-owe [] = omega arith
records-owe (s ∷ ss) = omega (arith, records-owe ss, sum_by-cons (λ (s : Shown). entries_owed s.status) s ss, one s.status)
  where
    one : (st : Status) → 1 ≤ entries_owed st
    one Busy = omega arith
    one Waiting = omega arith
    one Consumed = omega arith
    one Discarded = omega arith

-- an empty chapter owes nothing
pub owed-none : (c : Chapter) (o : Snapshot) → closing_of c ≡ o → o.records ≡ [] → 0 ≡ owed c
owed-none c o is none = sym (ap (λ (x : Snapshot). owed_for x.records) is ∙ ap owed_for none)

-- what is stored for a chapter without entries
pub record RunsFromNone (c : Chapter) (closing : Snapshot) : Type 0 where
  pub closing_is : closing ≡ closing_of c
  pub owed_is : 0 ≡ owed c

pub runs-from-none : (earlier : List Entry) (c : Chapter) (closing : Snapshot) (r : Setup) → IsKept earlier c → c.entries ≡ [] → c.opening ≡ empty_ring r → closing ≡ empty_ring r → RunsFromNone c closing
runs-from-none earlier c closing r kept none opened is =
    let ends = closing-none earlier c kept.continues none in
    record { closing_is = is ∙ sym opened ∙ sym ends; owed_is = owed-none c (empty_ring r) (ends ∙ opened) refl }

-- the chapters meet if and only if their numbers are consecutive and the later one opens with the summary that the
-- earlier one stores
pub meets-exact : (c d : Chapter) (b : Bool) (closing : Snapshot) → closing ≡ closing_of c → IsTrue b ↔ (closing ≡ d.opening) → d.number ≡ c.number + 1 → IsTrue b ↔ Meets c d
meets-exact c d b closing is same next = (
  (λ t. record { next_number = next; goes_on = sym (same.0 t) ∙ is }),
  (λ m. same.1 (is ∙ sym m.goes_on)),
)

-- ---- the next chapter

-- there is room for its opening's records
pub closing-fits : (earlier : List Entry) (c : Chapter) (closing : Snapshot) → IsKept earlier c → closing ≡ closing_of c → length closing.records ≤ c.room
closing-fits earlier c closing kept is =
    let same : length closing.records ≡ length (closing_of c).records = ap (λ (o : Snapshot). length o.records) is in
    omega (arith, same, records-owe (closing_of c).records, kept.room)

-- what is stored in a chapter that meets c
pub record RunsOn (earlier : List Entry) (c d : Chapter) (closing : Snapshot) : Type 0 where
  pub kept : IsKept (earlier ++ c.entries) d
  pub closing_is : closing ≡ closing_of d
  pub owed_is : owed c ≡ owed d

pub runs-on : (earlier : List Entry) (c d : Chapter) (closing : Snapshot) → IsKept earlier c → Meets c d → d.entries ≡ [] → d.room ≡ c.room → closing ≡ d.opening → RunsOn earlier c d closing
runs-on earlier c d closing kept meets none room is =
    let next = next-room earlier c d kept.continues kept.room meets none room in
    let ends = closing-none (earlier ++ c.entries) d next.1 none in
    record {
      kept = record { continues = next.1; room = next.0 };
      closing_is = is ∙ sym ends;
      owed_is = ap (λ (o : Snapshot). owed_for o.records) (sym meets.goes_on ∙ sym ends);
    }
