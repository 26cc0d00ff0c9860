-- What each change of a chapter preserves of a ring: the common parts.
use Rattle.std.proofs.Common.{◌≡◌, ℕ, ◌+◌, List, ◌∷◌, [], ◌++◌, length, refl, sym, ap, ◌∙◌, subst, append_assoc}
use Rattle.std.specs.List.{All}
use Rattle.rb_history.specs.declared.entries.Entry.{Entry}
use Rattle.rb_history.specs.declared.answers.Counts.{Counts}
use Rattle.rb_history.specs.declared.stored_records.StoredRecord.{StoredRecord}
use Rattle.rb_history.specs.Counting.{counts_of}
use Rattle.rb_history.specs.StoredRecords.{IsSized}
use Rattle.rb_history.specs.Legal.{IsLegal}
use Rattle.rb_chapter_ring.specs.Snapshot.{Snapshot}
use Rattle.rb_chapter_ring.specs.Chapters.{Chapter, closing_of}
use Rattle.rb_chapter_ring.specs.ChapterRoom.{with_entry}
use Rattle.rb_chapter_ring.specs.WholeHistory.{IsKept}
use Rattle.rb_chapter_ring.proofs.Logging.{KeepsRunning}
use Rattle.rb_chapter_ring.proofs.Settling.{whole-legal}
use Rattle.rb_chapter_ring.specs.OpenedRing.{capped_counts}
use Rattle.rb_chapter_ring.specs.inner.Ordinals.{taken_before}
use Rattle.rb_chapter_ring.specs.inner.RingBody.{IsStored, IsRingOf}

module _ (earlier : List Entry) (c : Chapter) (stored : List StoredRecord) (counts : Counts) (g : IsRingOf earlier c stored counts) where
  -- the whole history, one entry longer
  pub longer-legal : (e : Entry) → IsKept earlier (with_entry c e) → IsLegal c.opening.setup ((earlier ++ c.entries) ++ e ∷ [])
  longer-legal e kept = subst (IsLegal c.opening.setup) (sym (append_assoc earlier c.entries (e ∷ []))) (whole-legal earlier (with_entry c e) kept (closing_of (with_entry c e)) refl)

  pub keeps : (e : Entry) (now : Snapshot) (owing : ℕ) (after : List StoredRecord) (counted : Counts) → KeepsRunning earlier (with_entry c e) now owing
      → IsStored c.opening.setup.size now after → All IsSized after → counted ≡ capped_counts (counts_of ((earlier ++ c.entries) ++ e ∷ []))
      → counted.made ≡ taken_before now + length after → IsRingOf earlier (with_entry c e) after counted
  keeps e now owing after counted runs stands sized is made = record {
    kept = runs.kept;
    size = g.size;
    start = g.start;
    workers = g.workers;
    chapter_room = g.chapter_room;
    stands = subst (λ o. IsStored c.opening.setup.size o after) runs.closing_is stands;
    sized = sized;
    granted = subst (λ o. counted.made ≡ taken_before o + length after) runs.closing_is made;
    counted = is ∙ ap (λ h. capped_counts (counts_of h)) (append_assoc earlier c.entries (e ∷ []));
  }

-- the same parts
pub transport-ring : (c d : Chapter) (ss ts : List StoredRecord) (a b : Counts) (earlier : List Entry) → c ≡ d → ss ≡ ts → a ≡ b → IsRingOf earlier c ss a → IsRingOf earlier d ts b
transport-ring c d ss ts a b earlier chapter items counted is =
    subst (λ x. IsRingOf earlier d ts x) counted (subst (λ x. IsRingOf earlier d x a) items (subst (λ x. IsRingOf earlier x ss a) chapter is))
