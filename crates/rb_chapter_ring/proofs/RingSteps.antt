-- What each step preserves of a ring without its hands, and which call it is.
use Rattle.std.proofs.Common.{◌≡◌, ℕ, ◌+◌, ◌/◌, ◌%◌, ◌<◌, ◌≤◌, ◌^◌, true, false, List, [], ◌∷◌, ◌++◌, length, length-append, length-set, map, append_assoc, set, get_or, refl, sym, ap, ◌∙◌, subst, arith}
use Rattle.std.specs.FinMap.{insert}
use Rattle.std.specs.Int.{IsPowerOfTwo}
use Rattle.std.proofs.lemmas.List.{get_or_push, length-map, map-append}
use Rattle.rb_history.specs.declared.entries.Entry.TheVariants.{Res, Sub}
use Rattle.rb_history.specs.declared.answers.Taken.{Taken}
use Rattle.rb_history.specs.declared.answers.Taken.TheVariants.{Event, Skipped}
use Rattle.rb_history.specs.History.{Shown}
use Rattle.rb_history.specs.History.Status.{Busy, Waiting, Discarded}
use Rattle.rb_history.specs.StoredRecords.{shown_record, contents_of}
use Rattle.rb_history.specs.inner.RecordRows.{IsBusyAt}
use Rattle.rb_chapter_ring.specs.Snapshot.{Snapshot, record_in}
use Rattle.rb_chapter_ring.specs.Chapters.{Chapter, closing_of, Meets}
use Rattle.rb_chapter_ring.specs.ChapterRing.{ChapterRing}
use Rattle.rb_chapter_ring.specs.ChapterRoom.{record_now, IsBusyNow, with_entry}
use Rattle.rb_chapter_ring.specs.ChapterCalls.{LogsByChapter, GrantsByChapter, HandsOut, OutputsByChapter}
use Rattle.rb_chapter_ring.specs.RecordEnds.{entry_of_end}
use Rattle.rb_chapter_ring.specs.RingFaults.{RefusesInChapter}
use Rattle.rb_chapter_ring.specs.OpenedRing.{capped}
use Rattle.rb_chapter_ring.specs.declared.faults.ReserveFault.{ReserveFault}
use Rattle.rb_chapter_ring.specs.declared.faults.ReserveFault.TheVariants.{Full, Flags, ChapterFull, Foreign, HandsFull}
use Rattle.rb_chapter_ring.specs.declared.record_end.RecordEnd.{RecordEnd}
use Rattle.rb_chapter_ring.specs.declared.record_end.RecordEnd.TheVariants.{Submit}
use Rattle.rb_chapter_ring.specs.inner.ChapterSteps.{GrantsRecord, LogsRefusal, LogsNothing, RefusesRecord, refused_after}
use Rattle.rb_chapter_ring.specs.inner.EndSteps.{contents_with_end, discards_by_end, slots_with_end}
use Rattle.rb_chapter_ring.specs.inner.Ordinals.{HasOrdinal, KeepsNumbers, KeepsOrdinals, taken_before}
use Rattle.rb_chapter_ring.specs.inner.RingBody.{ring_of, stored_in, stored_of, IsRingOf, RingParts, ring_in, AreParts}
use Rattle.rb_chapter_ring.proofs.CountSteps.{counting_grant, counting_refusal, counting_end, counting_take}
use Rattle.rb_chapter_ring.proofs.Fronts.{took, waiting-keeps, waiting-takes, discarded-keeps, discarded-takes, discarded-numbers, waiting-numbers}
use Rattle.rb_chapter_ring.proofs.Grants.{newest, grant-closing, grant-keeps, serial-of, contents-grant, refusal-closing, refusal-keeps}
use Rattle.rb_chapter_ring.proofs.Keeps.{transport-ring}
use Rattle.rb_chapter_ring.proofs.Numbers.{ordinal-of-grant, ordinals-end, ordinals-grant, ordinals-on, ordinals-refusal, ordinals-same}
use Rattle.rb_chapter_ring.proofs.Settles.{end-closing, is-busy, pos-now, end-keeps, contents-end}
use Rattle.rb_chapter_ring.proofs.Slotted.{busy_now, busy-there, slots-enough, slots-long, grant-stored, refusal-stored, end-stored}
use Rattle.rb_chapter_ring.proofs.TakesOne.{TakesAs}
use Rattle.rb_chapter_ring.proofs.Told.{together}
use Rattle.rb_chapter_ring.proofs.Turns.{closing-same, turn-keeps, hands-out}

-- after a step the parts form a ring, and each record keeps its ordinal
pub record KeepsParts (p q : RingParts) : Type 0 where
  pub parts : AreParts q
  pub numbers : KeepsNumbers p.chapter q.chapter

same-parts : (p q : RingParts) → AreParts p → p ≡ q → KeepsParts p q
same-parts p q i same = record { parts = subst AreParts same i; numbers = subst (λ (x : RingParts). KeepsNumbers p.chapter x.chapter) same (ordinals-same (closing_of p.chapter)) }

-- ---- a request is refused

abbrev pub after_request : RingParts → Chapter → ℕ → RingParts
after_request p d m = record { chapter = d; sheets = p.sheets; refused = m; discarded = p.discarded }

pub record RefusesParts (p q : RingParts) (w n : ℕ) (f : ReserveFault) : Type 0 where
  pub keeps : KeepsParts p q
  pub refused : RefusesInChapter (ring_in p) (ring_in q) w n f

module _ (p : RingParts) (i : AreParts p) (w n : ℕ) (low : w < p.chapter.opening.setup.workers) (d : Chapter) (m : ℕ) where
  finds-full : LogsRefusal p.chapter d w n → m ≡ capped (p.refused + 1) → RefusesParts p (after_request p d m) w n Full
  finds-full is counted =
      let c = p.chapter in
      let stored = stored_of c p.sheets in
      let kept = refusal-keeps i.earlier c stored i.counts i.ring w n low is.no_room is.chapter_room in
      let same = refusal-stored i.earlier c p.sheets i.counts i.ring w n low is.no_room is.chapter_room in
      let closing = refusal-closing i.earlier c stored i.counts i.ring w n low is.no_room is.chapter_room in
      let left : stored_of d p.sheets ≡ stored = ap (λ x. stored_of x p.sheets) is.logged ∙ sym same in
      record {
        keeps = record {
          parts = record {
            earlier = i.earlier;
            counts = counting_refusal i.counts;
            ring = transport-ring _ _ _ _ _ _ i.earlier (sym is.logged) (sym left) refl kept;
            refused_is = counted ∙ ap (λ k. capped (k + 1)) i.refused_is;
            discarded_is = i.discarded_is;
            power = i.power;
            slots = subst (λ (x : Chapter). (k : ℕ) → k ≤ x.opening.setup.size / 8 → k ≤ x.room → k ≤ length p.sheets) (sym is.logged) i.slots;
          };
          numbers = subst (KeepsNumbers c) (sym is.logged) (subst (KeepsOrdinals (closing_of c)) closing (ordinals-refusal w (closing_of c)));
        };
        refused = record { no_room = is.no_room; chapter_room = is.chapter_room; logged = is.logged; contents_same = ap contents_of left };
      }

  finds-chapter-full : LogsNothing p.chapter d w n → m ≡ p.refused → RefusesParts p (after_request p d m) w n ChapterFull
  finds-chapter-full is counted =
      let same : p ≡ after_request p d m = λ j. after_request p (sym is.same j) (sym counted j) in
      record {
        keeps = same-parts p (after_request p d m) i same;
        refused = record { no_grant = is.no_grant; no_refusal = is.no_refusal; same = ap ring_in (sym same) };
      }

  pub refuses : (f : ReserveFault) → RefusesRecord p.chapter d w n f → m ≡ refused_after f p.refused → RefusesParts p (after_request p d m) w n f
  refuses Full is counted = finds-full is counted
  refuses ChapterFull is counted = finds-chapter-full is counted
  refuses Flags is counted = absurd is
  refuses Foreign is counted = absurd is
  refuses HandsFull is counted = absurd is

-- ---- a record is granted

pub record GrantsParts (p q : RingParts) (w n pos k : ℕ) : Type 0 where
  pub keeps : KeepsParts p q
  pub granted : GrantsByChapter (ring_in p) (ring_in q) w n pos k
  pub number : HasOrdinal (closing_of q.chapter) pos (taken_before (closing_of p.chapter) + length (closing_of p.chapter).records)
  pub taken_same : taken_before (closing_of q.chapter) ≡ taken_before (closing_of p.chapter)
  pub shown : (ring_in q).shown ≡ (ring_in p).shown ++ (record { pos = pos; len = n; worker = w; serial = k; status = Busy }) ∷ []

pub grants : (p : RingParts) → AreParts p → (w n : ℕ) → w < p.chapter.opening.setup.workers → (d : Chapter) (m : ℕ) → m ≡ p.refused → (pos k : ℕ) → GrantsRecord p.chapter d w n pos k → GrantsParts p (after_request p d m) w n pos k
grants p i w n low d m uncounted pos k is =
    let c = p.chapter in
    let o = closing_of c in
    let stored = stored_of c p.sheets in
    let kept = grant-keeps i.earlier c stored i.counts i.ring w n low is.room is.chapter_room in
    let closing = grant-closing i.earlier c stored i.counts i.ring w n low is.room is.chapter_room in
    let own = is.serial ∙ sym (serial-of i.earlier c stored i.counts i.ring w low) in
    let left : stored_of d p.sheets ≡ stored ++ newest i.earlier c stored i.counts i.ring w n ∷ [] = ap (λ x. stored_of x p.sheets) is.logged ∙ sym (grant-stored i.earlier c p.sheets i.counts i.ring w n low is.room is.chapter_room) in
    let last : Shown = record { pos = pos; len = n; worker = w; serial = k; status = Busy } in
    let same : last ≡ shown_record (newest i.earlier c stored i.counts i.ring w n) = λ j. record { pos = is.position j; len = n; worker = w; serial = own j; status = Busy } in
    let there : HasOrdinal (closing_of d) o.producer (taken_before o + length o.records) = subst (λ x. HasOrdinal (closing_of x) o.producer (taken_before o + length o.records)) (sym is.logged) (subst (λ x. HasOrdinal x o.producer (taken_before o + length o.records)) closing (ordinal-of-grant w n o)) in
    record {
      keeps = record {
        parts = record {
          earlier = i.earlier;
          counts = counting_grant i.counts;
          ring = transport-ring _ _ _ _ _ _ i.earlier (sym is.logged) (sym left) refl kept;
          refused_is = uncounted ∙ i.refused_is;
          discarded_is = i.discarded_is;
          power = i.power;
          slots = subst (λ (x : Chapter). (m : ℕ) → m ≤ x.opening.setup.size / 8 → m ≤ x.room → m ≤ length p.sheets) (sym is.logged) i.slots;
        };
        numbers = subst (KeepsNumbers c) (sym is.logged) (subst (KeepsOrdinals o) closing (ordinals-grant w n o));
      };
      granted = record {
        room = is.room;
        chapter_room = is.chapter_room;
        position = is.position;
        serial = is.serial;
        logged = is.logged ∙ (λ j. with_entry c (Res w (sym is.serial j) n (sym is.position j)));
        contents_same = ap contents_of left ∙ contents-grant i.earlier c stored i.counts i.ring w n;
      };
      number = subst (λ x. HasOrdinal (closing_of d) x (taken_before o + length o.records)) (sym is.position) there;
      taken_same = ap (λ x. taken_before (closing_of x)) is.logged ∙ ap taken_before (sym closing);
      shown = ap (map shown_record) left ∙ map-append shown_record stored (newest i.earlier c stored i.counts i.ring w n ∷ []) ∙ ap (λ s. map shown_record stored ++ s ∷ []) (sym same);
    }

-- the newest record is busy
busy-last : (ss : List Shown) (x : Shown) → x.status ≡ Busy → IsBusyAt (ss ++ x ∷ []) (length ss) x.pos x.len
busy-last ss x busy = record {
  within = omega (arith, length-append ss (x ∷ []));
  here = λ d. let last = get_or_push ss x d (length ss) refl in (ap (λ (s : Shown). s.pos) last, ap (λ (s : Shown). s.len) last, ap (λ (s : Shown). s.status) last ∙ busy);
}

-- ---- a record is committed

abbrev pub after_end : RingParts → Chapter → List (List ℕ) → ℕ → RingParts
after_end p d sheets m = record { chapter = d; sheets = sheets; refused = p.refused; discarded = m }

pub record EndsParts (end : RecordEnd) (pos : ℕ) (bytes : List ℕ) (p q : RingParts) : Type 0 where
  pub keeps : KeepsParts p q
  pub logged : LogsByChapter (ring_in p) (ring_in q) (entry_of_end end pos ∷ [])
  pub contents : (ring_in q).contents ≡ contents_with_end end pos bytes (ring_in p).contents

module _ (p : RingParts) (i : AreParts p) (index pos : ℕ) (bytes : List ℕ) (at : IsBusyAt (ring_in p).shown index pos (length bytes)) where
  pub busy-record-now : IsBusyNow p.chapter index
  busy-record-now =
      is-busy i.earlier p.chapter (stored_of p.chapter p.sheets) i.counts i.ring index pos (length bytes) at (busy_now i.earlier p.chapter p.sheets i.counts i.ring index pos (length bytes) at)
      (busy-there i.earlier p.chapter p.sheets i.counts i.ring index pos (length bytes) at)

  pub ends : (end : RecordEnd) (slot : ℕ) → slot ≡ (taken_before (closing_of p.chapter) + index) % length p.sheets → slot < length p.sheets → (d : Chapter) → d ≡ with_entry p.chapter (entry_of_end end (record_now p.chapter index).pos)
      → (sheets : List (List ℕ)) → sheets ≡ slots_with_end end slot bytes p.sheets → (m : ℕ) → m ≡ p.discarded + discards_by_end end → EndsParts end pos bytes p (after_end p d sheets m)
  ends end slot slot_is low d logged sheets stored_bytes m counted =
      let c = p.chapter in
      let stored = stored_of c p.sheets in
      let there = busy-there i.earlier c p.sheets i.counts i.ring index pos (length bytes) at in
      let t = busy_now i.earlier c p.sheets i.counts i.ring index pos (length bytes) at in
      let few = slots-enough i.earlier c p.sheets i.counts i.ring i.slots in
      let put = end-stored i.earlier c p.sheets i.counts i.ring index pos (length bytes) at end bytes slot slot_is low few in
      let kept = end-keeps i.earlier c stored i.counts i.ring index pos (length bytes) at t there end bytes refl in
      let closing = end-closing i.earlier c stored i.counts i.ring index pos (length bytes) at t there end in
      let here = pos-now i.earlier c stored i.counts i.ring index pos (length bytes) at t there in
      let long : length sheets ≡ length p.sheets = ap length stored_bytes ∙ slots-long end slot bytes p.sheets in
      let next = with_entry c (entry_of_end end (record_now c index).pos) in
      record {
        keeps = record {
          parts = record {
            earlier = i.earlier;
            counts = counting_end end i.counts;
            ring = subst (λ x. IsRingOf i.earlier x (stored_of x sheets) (counting_end end i.counts)) (sym logged) (subst (λ ss. IsRingOf i.earlier next ss (counting_end end i.counts)) (put ∙ ap (stored_of next) (sym stored_bytes)) kept);
            refused_is = i.refused_is;
            discarded_is = counted ∙ ap (λ n. n + discards_by_end end) i.discarded_is;
            power = subst IsPowerOfTwo (sym long) i.power;
            slots = subst (λ (x : Chapter). (n : ℕ) → n ≤ x.opening.setup.size / 8 → n ≤ x.room → n ≤ length sheets) (sym logged) (λ n within room. subst (λ x. n ≤ x) (sym long) (i.slots n within room));
          };
          numbers = subst (KeepsNumbers c) (sym logged) (subst (KeepsOrdinals (closing_of c)) closing (ordinals-end end index (closing_of c)));
        };
        logged = logged ∙ ap (λ x. with_entry c (entry_of_end end x)) here;
        contents = (λ j. contents_of (stored_of (logged j) (stored_bytes j))) ∙ ap contents_of (sym put) ∙ contents-end i.earlier c stored i.counts i.ring index pos (length bytes) at t there end bytes;
      }

-- ---- the record at the front is taken

pub record TakesParts (p q : RingParts) (t : Taken) : Type 0 where
  pub keeps : KeepsParts p q
  pub taken : TakesAs (ring_in p) (ring_in q) t

abbrev pub after_take : RingParts → Chapter → List (List ℕ) → RingParts
after_take p d sheets = record { chapter = d; sheets = sheets; refused = p.refused; discarded = p.discarded }

module _ (p : RingParts) (i : AreParts p) (some : 0 < length (closing_of p.chapter).records) (front : Shown) (shown : front ≡ record_in (closing_of p.chapter) 0) (d : Chapter) (logged : d ≡ took i.earlier p.chapter p.sheets i.counts i.ring) where
  pub takes-waiting : front.status ≡ Waiting → (slot : ℕ) → slot ≡ taken_before (closing_of p.chapter) % length p.sheets → (bytes left : List ℕ) → bytes ≡ get_or p.sheets slot [] → TakesParts p (after_take p d (set p.sheets slot left)) (Event front.pos front.worker front.serial bytes)
  takes-waiting waits slot slot_is bytes left bytes_are =
      let c = p.chapter in
      let sheets = set p.sheets slot left in
      let status = ap (λ (s : Shown). s.status) (sym shown) ∙ waits in
      let few = slots-enough i.earlier c p.sheets i.counts i.ring i.slots in
      let long : length sheets ≡ length p.sheets = length-set p.sheets slot left in
      let kept = waiting-keeps i.earlier c p.sheets i.counts i.ring some status slot left slot_is few in
      let done = waiting-takes i.earlier c p.sheets i.counts i.ring some status slot left slot_is few in
      let event : Event front.pos front.worker front.serial bytes ≡ Event (record_in (closing_of c) 0).pos (record_in (closing_of c) 0).worker (record_in (closing_of c) 0).serial (get_or p.sheets slot []) = λ j. Event (shown j).pos (shown j).worker (shown j).serial (bytes_are j) in
      record {
        keeps = record {
          parts = record {
            earlier = i.earlier;
            counts = counting_take true i.counts;
            ring = subst (λ x. IsRingOf i.earlier x (stored_of x sheets) (counting_take true i.counts)) (sym logged) kept;
            refused_is = i.refused_is;
            discarded_is = i.discarded_is;
            power = subst IsPowerOfTwo (sym long) i.power;
            slots = subst (λ (x : Chapter). (n : ℕ) → n ≤ x.opening.setup.size / 8 → n ≤ x.room → n ≤ length sheets) (sym logged) (λ n within room. subst (λ x. n ≤ x) (sym long) (i.slots n within room));
          };
          numbers = subst (KeepsNumbers c) (sym logged) (waiting-numbers i.earlier c p.sheets i.counts i.ring some status);
        };
        taken = subst (λ x. TakesAs (ring_of c (stored_of c p.sheets)) (ring_of x (stored_of x sheets)) (Event front.pos front.worker front.serial bytes)) (sym logged)
            (subst (λ t. TakesAs (ring_of c (stored_of c p.sheets)) (ring_of (took i.earlier c p.sheets i.counts i.ring) (stored_of (took i.earlier c p.sheets i.counts i.ring) sheets)) t) (sym event) done);
      }

  pub takes-discarded : front.status ≡ Discarded → TakesParts p (after_take p d p.sheets) (Skipped front.pos front.len)
  takes-discarded given =
      let c = p.chapter in
      let status = ap (λ (s : Shown). s.status) (sym shown) ∙ given in
      let done = discarded-takes i.earlier c p.sheets i.counts i.ring some status in
      let skipped : Skipped front.pos front.len ≡ Skipped (record_in (closing_of c) 0).pos (record_in (closing_of c) 0).len = λ j. Skipped (shown j).pos (shown j).len in
      record {
        keeps = record {
          parts = record {
            earlier = i.earlier;
            counts = counting_take false i.counts;
            ring = subst (λ x. IsRingOf i.earlier x (stored_of x p.sheets) (counting_take false i.counts)) (sym logged) (discarded-keeps i.earlier c p.sheets i.counts i.ring some status);
            refused_is = i.refused_is;
            discarded_is = i.discarded_is;
            power = i.power;
            slots = subst (λ (x : Chapter). (n : ℕ) → n ≤ x.opening.setup.size / 8 → n ≤ x.room → n ≤ length p.sheets) (sym logged) i.slots;
          };
          numbers = subst (KeepsNumbers c) (sym logged) (discarded-numbers i.earlier c p.sheets i.counts i.ring some status);
        };
        taken = subst (λ x. TakesAs (ring_of c (stored_of c p.sheets)) (ring_of x (stored_of x p.sheets)) (Skipped front.pos front.len)) (sym logged)
            (subst (λ t. TakesAs (ring_of c (stored_of c p.sheets)) (ring_of (took i.earlier c p.sheets i.counts i.ring) (stored_of (took i.earlier c p.sheets i.counts i.ring) p.sheets)) t) (sym skipped) done);
      }

-- ---- the chapter is handed out

pub record HandsOutParts (p q : RingParts) : Type 0 where
  pub keeps : KeepsParts p q
  pub handed : HandsOut (ring_in p) (ring_in q) p.chapter

pub hands-out-parts : (p : RingParts) → AreParts p → (d : Chapter) → Meets p.chapter d → d.entries ≡ [] → d.room ≡ p.chapter.room → HandsOutParts p (after_take p d p.sheets)
hands-out-parts p i d meets none room =
    let c = p.chapter in
    let stored = stored_of c p.sheets in
    let same = closing-same i.earlier c stored i.counts i.ring d meets none room in
    let size : d.opening.setup.size ≡ c.opening.setup.size = ap (λ (o : Snapshot). o.setup.size) meets.goes_on in
    let left : stored_of d p.sheets ≡ stored = ap (λ o. stored_in o p.sheets) same in
    record {
      keeps = record {
        parts = record {
          earlier = i.earlier ++ c.entries;
          counts = i.counts;
          ring = subst (λ ss. IsRingOf (i.earlier ++ c.entries) d ss i.counts) (sym left) (turn-keeps i.earlier c stored i.counts i.ring d meets none room);
          refused_is = i.refused_is;
          discarded_is = i.discarded_is;
          power = i.power;
          slots = λ n within fits. i.slots n (subst (λ s. n ≤ s / 8) size within) (subst (λ m. n ≤ m) room fits);
        };
        numbers = subst (KeepsOrdinals (closing_of c)) (sym same) (ordinals-same (closing_of c));
      };
      handed = subst (λ ss. HandsOut (ring_of c stored) (ring_of d ss) c) (sym left) (hands-out i.earlier c stored i.counts i.ring d meets none room);
    }

-- ---- a record is granted and submitted

-- the call, from its two steps
outputs-by : (old mid new : ChapterRing) (w pos k : ℕ) (bytes : List ℕ) → GrantsByChapter old mid w (length bytes) pos k → LogsByChapter mid new (Sub pos ∷ []) → new.contents ≡ insert mid.contents pos bytes → OutputsByChapter old new w bytes
outputs-by old mid new w pos k bytes g logged contents = record {
  room = g.room;
  chapter_room = g.chapter_room;
  logged = logged ∙ ap (λ (c : Chapter). record c { entries = c.entries ++ Sub pos ∷ [] }) g.logged
      ∙ ap (λ es. record old.chapter { entries = es }) (append_assoc old.chapter.entries (Res w k (length bytes) pos ∷ []) (Sub pos ∷ []))
      ∙ (λ j. record old.chapter { entries = old.chapter.entries ++ Res w (g.serial j) (length bytes) (g.position j) ∷ Sub (g.position j) ∷ [] });
  contents_are = contents ∙ (λ j. insert (g.contents_same j) (g.position j) bytes);
}

pub record OutputsParts (p q : RingParts) (w : ℕ) (bytes : List ℕ) : Type 0 where
  pub keeps : KeepsParts p q
  pub outputs : OutputsByChapter (ring_in p) (ring_in q) w bytes

module _ (p : RingParts) (i : AreParts p) (w : ℕ) (bytes : List ℕ) (low : w < p.chapter.opening.setup.workers) (d : Chapter) (m : ℕ) (uncounted : m ≡ p.refused) (pos k : ℕ) (is : GrantsRecord p.chapter d w (length bytes) pos k) where
  granted : GrantsParts p (after_request p d m) w (length bytes) pos k
  granted = grants p i w (length bytes) low d m uncounted pos k is

  pub granted-many : length (closing_of d).records ≡ length (ring_in p).shown + 1
  granted-many = ap length (sym granted.keeps.parts.ring.stands.shown) ∙ ap length granted.shown ∙ length-append (ring_in p).shown _

  module _ (index : ℕ) (last : index + 1 ≡ length (closing_of d).records) where
    place : index ≡ length (ring_in p).shown
    place = omega (arith, last, granted-many)

    at : IsBusyAt (ring_in (after_request p d m)).shown index pos (length bytes)
    at =
        let x : Shown = record { pos = pos; len = length bytes; worker = w; serial = k; status = Busy } in
        subst (λ ss. IsBusyAt ss index pos (length bytes)) (sym granted.shown) (subst (λ n. IsBusyAt ((ring_in p).shown ++ x ∷ []) n pos (length bytes)) (sym place) (busy-last (ring_in p).shown x refl))

    pub granted-is-busy : IsBusyNow d index
    granted-is-busy = busy-record-now (after_request p d m) granted.keeps.parts index pos bytes at

    -- the ordinal of that record
    pub granted-ordinal : taken_before (closing_of d) + index < 2 ^ 62
    granted-ordinal =
        let t = together i.earlier p.chapter (stored_of p.chapter p.sheets) i.counts i.ring in
        omega (arith, granted.taken_same, place, length-map (stored_of p.chapter p.sheets) shown_record, t.made_is, t.low)

    pub outputs : (slot : ℕ) → slot ≡ (taken_before (closing_of d) + index) % length p.sheets → slot < length p.sheets → (e : Chapter) → e ≡ with_entry d (entry_of_end Submit (record_now d index).pos)
        → (sheets : List (List ℕ)) → sheets ≡ slots_with_end Submit slot bytes p.sheets → OutputsParts p (after_end (after_request p d m) e sheets p.discarded) w bytes
    outputs slot slot_is within e logged sheets stored_bytes =
        let mid = after_request p d m in
        let ended = ends mid granted.keeps.parts index pos bytes at Submit slot slot_is within e logged sheets stored_bytes p.discarded (omega arith) in
        record {
          keeps = record { parts = ended.keeps.parts; numbers = ordinals-on (closing_of p.chapter) (closing_of d) (closing_of e) granted.keeps.numbers ended.keeps.numbers };
          outputs = outputs-by (ring_in p) (ring_in mid) (ring_in (after_end (after_request p d m) e sheets p.discarded)) w pos k bytes granted.granted ended.logged ended.contents;
        }
