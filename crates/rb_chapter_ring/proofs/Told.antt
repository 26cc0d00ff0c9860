-- The six counts follow from two of them and from the summary at the chapter's end.
use Rattle.std.proofs.Common.{◌≡◌, ℕ, ◌+◌, ◌-◌, ◌<◌, ◌≤◌, ◌^◌, List, [], ◌∷◌, ◌++◌, length, refl, sym, ap, ◌∙◌, arith}
use Rattle.rb_history.specs.declared.entries.Entry.{Entry}
use Rattle.rb_history.specs.declared.answers.Counts.{Counts}
use Rattle.rb_history.specs.declared.stored_records.StoredRecord.{StoredRecord}
use Rattle.rb_history.specs.History.{Shown, Status}
use Rattle.rb_history.specs.History.Status.{Busy, Waiting, Consumed, Discarded}
use Rattle.rb_history.specs.Counting.{is_same, counts_of}
use Rattle.rb_history.specs.StoredRecords.{shown_record, entries_owed}
use Rattle.rb_history.proofs.Contents.{length-map}
use Rattle.rb_history.proofs.Counting.{made-split}
use Rattle.rb_history.proofs.Lists.{sum_by-cons}
use Rattle.rb_chapter_ring.specs.Snapshot.{shown_count, counts_at}
use Rattle.rb_chapter_ring.specs.Chapters.{Chapter, closing_of}
use Rattle.rb_chapter_ring.specs.ChapterRoom.{owed_for, owed}
use Rattle.rb_chapter_ring.specs.inner.Ordinals.{taken_before}
use Rattle.rb_chapter_ring.specs.inner.RingBody.{IsRingOf}
use Rattle.rb_chapter_ring.proofs.CountSteps.{bit, countable}
use Rattle.rb_chapter_ring.proofs.Rows.{legal, said}

-- a busy record owes one entry more than any other
owes-busy : (ss : List Shown) → owed_for ss ≡ length ss + shown_count Busy ss
owes-busy [] = refl
owes-busy (s ∷ ss) =
    omega (arith, owes-busy ss, one s.status, sum_by-cons (λ (x : Shown). entries_owed x.status) s ss, sum_by-cons (λ (x : Shown). bit (is_same Busy x.status)) s ss)
  where
    one : (st : Status) → entries_owed st ≡ 1 + bit (is_same Busy st)
    one Busy = refl
    one Waiting = refl
    one Consumed = refl
    one Discarded = refl

-- how the six counts are related
pub record Together (c : Chapter) (stored : List StoredRecord) (counts : Counts) : Type 0 where
  pub made_is : taken_before (closing_of c) + length stored ≡ counts.made
  pub consumed_is : (closing_of c).consumed ≡ counts.consumed
  pub busy_is : owed c ≡ length stored + counts.busy
  pub split : counts.made ≡ counts.busy + counts.waiting + counts.consumed + counts.discarded
  pub low : counts.made < 2 ^ 62

pub together : (earlier : List Entry) (c : Chapter) (stored : List StoredRecord) (counts : Counts) → IsRingOf earlier c stored counts → Together c stored counts
together earlier c stored counts g =
    let h = earlier ++ c.entries in
    let whole : counts_at (closing_of c) ≡ counts_of h = (said earlier c stored counts g).counts in
    let long : length stored ≡ length (closing_of c).records = sym (length-map shown_record stored) ∙ ap length g.stands.shown in
    record {
      made_is = sym g.granted;
      consumed_is = omega (arith, ap (λ (x : Counts). x.consumed) whole, ap (λ (x : Counts). x.consumed) g.counted);
      busy_is = omega (arith, long, owes-busy (closing_of c).records, ap (λ (x : Counts). x.busy) whole, ap (λ (x : Counts). x.busy) g.counted);
      split = omega (arith, made-split h, ap (λ (x : Counts). x.made) g.counted, ap (λ (x : Counts). x.busy) g.counted, ap (λ (x : Counts). x.waiting) g.counted, ap (λ (x : Counts). x.consumed) g.counted, ap (λ (x : Counts). x.discarded) g.counted);
      low = (countable c.opening.setup h counts (legal earlier c stored counts g) g.counted).made;
    }

-- The numbers that a ring has: its refusals and discards, how many records were consumed, how many were skipped, how
-- many are untaken, and how many entries these owe.
pub record Tells (refused discarded consumed skipped many owing : ℕ) (counts : Counts) : Type 0 where
  pub low : consumed + skipped + many < 2 ^ 64
  pub busy_within : many ≤ owing
  pub within : owing - many + consumed + discarded ≤ consumed + skipped + many
  pub told : ◌≡◌ {A = Counts} (record {
    made = consumed + skipped + many;
    refused = refused;
    consumed = consumed;
    discarded = discarded;
    waiting = consumed + skipped + many - (owing - many) - consumed - discarded;
    busy = owing - many;
  }) counts

pub tells : (earlier : List Entry) (c : Chapter) (stored : List StoredRecord) (counts : Counts) → IsRingOf earlier c stored counts → (refused discarded consumed skipped many owing : ℕ) → refused ≡ counts.refused → discarded ≡ counts.discarded
    → consumed ≡ (closing_of c).consumed → skipped ≡ (closing_of c).skipped → many ≡ length stored → owing ≡ owed c → Tells refused discarded consumed skipped many owing counts
tells earlier c stored counts g refused discarded consumed skipped many owing f d e k n w =
    let t = together earlier c stored counts g in
    let made : consumed + skipped + many ≡ counts.made = omega (arith, e, k, n, t.made_is) in
    let taken : consumed ≡ counts.consumed = e ∙ t.consumed_is in
    let busy : owing - many ≡ counts.busy = omega (arith, w, n, t.busy_is) in
    let waiting : consumed + skipped + many - (owing - many) - consumed - discarded ≡ counts.waiting = omega (arith, made, taken, busy, d, t.split) in
    record {
      low = omega (arith, made, t.low);
      busy_within = omega (arith, w, n, t.busy_is);
      within = omega (arith, made, taken, busy, d, t.split);
      told = λ i. record { made = made i; refused = f i; consumed = taken i; discarded = d i; waiting = waiting i; busy = busy i };
    }
