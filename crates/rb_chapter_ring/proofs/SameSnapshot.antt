-- Two openings have the same contents if and only if their fields are equal.
use Rattle.std.proofs.Common.{◌≡◌, List, [], ◌∷◌, drop, map, refl, ap}
use Rattle.rb_history.specs.History.{Shown}
use Rattle.rb_chapter_ring.specs.declared.snapshot.UntakenRecord.{UntakenRecord}
use Rattle.rb_chapter_ring.specs.declared.snapshot.UntakenStatus.{UntakenStatus}
use Rattle.rb_chapter_ring.specs.declared.snapshot.UntakenStatus.TheVariants.{Busy, Waiting, Discarded}
use Rattle.rb_chapter_ring.specs.declared.snapshot.Snapshot.TheInside.{Inside}
use Rattle.rb_chapter_ring.specs.UntakenRecords.{status_shown, untaken_shown}
use Rattle.rb_chapter_ring.specs.inner.SnapshotBody.{opening_shown}

same-status : (a b : UntakenStatus) → status_shown a ≡ status_shown b → a ≡ b
same-status Busy Busy e = refl
same-status Busy Waiting e = absurd (cc)
same-status Busy Discarded e = absurd (cc)
same-status Waiting Busy e = absurd (cc)
same-status Waiting Waiting e = refl
same-status Waiting Discarded e = absurd (cc)
same-status Discarded Busy e = absurd (cc)
same-status Discarded Waiting e = absurd (cc)
same-status Discarded Discarded e = refl

same-record : (a b : UntakenRecord) → untaken_shown a ≡ untaken_shown b → a ≡ b
same-record a b e =
    let status = same-status a.status b.status (ap (λ (s : Shown). s.status) e) in
    λ i. record { pos = (e i).pos; len = (e i).len; worker = (e i).worker; serial = (e i).serial; status = status i }

pub same-records : (xs ys : List UntakenRecord) → map untaken_shown xs ≡ map untaken_shown ys → xs ≡ ys
same-records [] [] e = refl
same-records [] (y ∷ ys) e = absurd (cc)
same-records (x ∷ xs) [] e = absurd (cc)
same-records (x ∷ xs) (y ∷ ys) e =
    let first : untaken_shown x ≡ untaken_shown y = cc in
    let rest : map untaken_shown xs ≡ map untaken_shown ys = cc in
    let here = same-record x y first in
    let there = same-records xs ys rest in
    λ i. here i ∷ there i

-- ---- the fields

pub numbers-of : (a b : Inside) → opening_shown a ≡ opening_shown b → a.numbers ≡ b.numbers
numbers-of a b e = λ i. record {
  size = (e i).setup.size;
  start = (e i).setup.start;
  workers = (e i).setup.workers;
  producer = (e i).producer;
  consumer = (e i).consumer;
  consumed = (e i).consumed;
  skipped = (e i).skipped;
}

pub same-opening : (a b : Inside) → a.numbers ≡ b.numbers → map untaken_shown (drop a.first a.records.items) ≡ map untaken_shown (drop b.first b.records.items) → a.tallies.items ≡ b.tallies.items → opening_shown a ≡ opening_shown b
same-opening a b n r t = λ i. record {
  setup = record { size = (n i).size; start = (n i).start; workers = (n i).workers };
  producer = (n i).producer;
  consumer = (n i).consumer;
  records = r i;
  tallies = t i;
  consumed = (n i).consumed;
  skipped = (n i).skipped;
}
