-- How the result of a turn reports what happened in it (own).
use Rattle.std.specs.Prelude.{ℕ, ◌≡◌, List, [], ◌∷◌, ◌++◌, map, slice_set}
use Rattle.std.specs.List.{slice_index_or}
use Rattle.rb_history.specs.declared.answers.Taken.TheVariants.{Event, Skipped as SkippedRecord, BusyFront, Empty}
use Rattle.rb_chapter_ring.specs.Chapters.{Chapter}
use Rattle.rb_chapter_ring.specs.ChapterCalls.{HandsOut}
use Rattle.rb_world.specs.declared.actor.Actor.{Actor}
use Rattle.rb_world.specs.declared.actor.Actor.TheVariants.{Keeper}
use Rattle.rb_world.specs.Turns.{TurnEvent, Went, HandedOver, Ended, Idle, Took, HandedChapter, NoMemory, WorldStep}
use Rattle.rb_world.specs.declared.turn_done.TurnDone.{TurnDone}
use Rattle.rb_world.specs.declared.turn_done.TurnDone.TheVariants as answer
use Rattle.rb_world.specs.WorldValue.{KeptRing, WorldValue, WholeWorld, whole_world, shown_world, no_kept_ring}

-- the result reports the event
abbrev pub TellsEvent : TurnDone → TurnEvent → Type 0
TellsEvent answer.Went Went = Unit {0}
TellsEvent answer.Went (HandedOver r w p bytes) = Unit {0}
TellsEvent (answer.Finished n) (Ended m) = n ≡ m
TellsEvent answer.Idle Idle = Unit {0}
TellsEvent answer.Took (Took (Event p w k bytes)) = Unit {0}
TellsEvent answer.Skipped (Took (SkippedRecord p n)) = Unit {0}
TellsEvent answer.BusyFront (Took BusyFront) = Unit {0}
TellsEvent answer.Empty (Took Empty) = Unit {0}
TellsEvent (answer.Chapter n) HandedChapter = Unit {0}
TellsEvent answer.Memory NoMemory = Unit {0}
TellsEvent _ _ = ⊥

-- a turn of an actor is one turn of the world
abbrev pub IsWholeTurn : Actor → WholeWorld → TurnDone → WholeWorld → Type 0
IsWholeTurn actor old done new = (event : TurnEvent) × TellsEvent done event × WorldStep (shown_world old) actor event (shown_world new)

abbrev pub IsTurnOf : Actor → WorldValue → TurnDone → WorldValue → Type 0
IsTurnOf actor old done new = IsWholeTurn actor (whole_world old) done (whole_world new)

-- ---- effects on chapters

-- the number of a ring and its chapters: those that were handed out, and the current one without its entries
abbrev pub chapters_of : KeptRing → ℕ × List Chapter × Chapter
chapters_of s = (s.ring.tag, s.chapters, record s.ring.state.ring.chapter { entries = [] })

-- the ring handed out its chapter, which has this number, and the world keeps it; nothing else changed
pub record HandsChapterOut (number : ℕ) (old new : KeptRing) : Type 0 where
  pub number_is : number ≡ old.ring.state.ring.chapter.number
  pub handed_out : HandsOut old.ring.state.ring new.ring.state.ring old.ring.state.ring.chapter
  pub hands_same : new.ring.state.hands ≡ old.ring.state.hands
  pub tag_same : new.ring.tag ≡ old.ring.tag
  pub kept : new.chapters ≡ old.chapters ++ old.ring.state.ring.chapter ∷ []
  pub taken_same : new.taken ≡ old.taken

-- a keeper that returned a chapter's number handed that chapter out, and a keeper without memory did nothing; the turns
-- of other actors leave every ring in its chapter
abbrev pub TurnsChaptersOf : Actor → TurnDone → List KeptRing → List KeptRing → Type 0
TurnsChaptersOf (Keeper r) (answer.Chapter n) old new = (s : KeptRing) × HandsChapterOut n (slice_index_or old r no_kept_ring) s × (new ≡ slice_set old r s)
TurnsChaptersOf (Keeper r) done old new = new ≡ old
TurnsChaptersOf actor done old new = map chapters_of new ≡ map chapters_of old
