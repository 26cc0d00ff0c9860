-- What a request for a record does to a chapter.
use Rattle.std.specs.Prelude.{ℕ, ◌≡◌, ◌+◌}
use Rattle.rb_history.specs.declared.entries.Entry.TheVariants.{Res, Full as FullEntry}
use Rattle.rb_chapter_ring.specs.CountedFrom.{HasRoomFrom, producer_from, grants_from}
use Rattle.rb_chapter_ring.specs.Chapters.{Chapter}
use Rattle.rb_chapter_ring.specs.ChapterRoom.{MayGrant, MayRefuse, with_entry}
use Rattle.rb_chapter_ring.specs.OpenedRing.{capped}
use Rattle.rb_chapter_ring.specs.declared.faults.ReserveFault.{ReserveFault}
use Rattle.rb_chapter_ring.specs.declared.faults.ReserveFault.TheVariants.{Full, Flags, ChapterFull, Foreign, HandsFull}

-- a record of n bytes was granted to worker w, at position p with serial k
pub record GrantsRecord (old new : Chapter) (w n p k : ℕ) : Type 0 where
  pub room : HasRoomFrom old.opening old.entries n
  pub chapter_room : MayGrant old
  pub position : p ≡ producer_from old.opening old.entries
  pub serial : k ≡ grants_from old.opening w old.entries
  pub logged : new ≡ with_entry old (Res w (grants_from old.opening w old.entries) n (producer_from old.opening old.entries))

-- the ring has no room for n bytes, and the refusal is logged
pub record LogsRefusal (old new : Chapter) (w n : ℕ) : Type 0 where
  pub no_room : ¬ HasRoomFrom old.opening old.entries n
  pub chapter_room : MayRefuse old w
  pub logged : new ≡ with_entry old (FullEntry w n)

-- the chapter has no room for what would be logged
pub record LogsNothing (old new : Chapter) (w n : ℕ) : Type 0 where
  pub no_grant : HasRoomFrom old.opening old.entries n → ¬ MayGrant old
  pub no_refusal : ¬ HasRoomFrom old.opening old.entries n → ¬ MayRefuse old w
  pub same : new ≡ old

abbrev pub RefusesRecord : Chapter → Chapter → ℕ → ℕ → ReserveFault → Type 0
RefusesRecord old new w n Full = LogsRefusal old new w n
RefusesRecord old new w n ChapterFull = LogsNothing old new w n
RefusesRecord old new w n Flags = ⊥
RefusesRecord old new w n Foreign = ⊥
RefusesRecord old new w n HandsFull = ⊥

-- the ring's count of refusals after it
abbrev pub refused_after : ReserveFault → ℕ → ℕ
refused_after Full n = capped (n + 1)
refused_after _ n = n
