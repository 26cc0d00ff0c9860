-- The effect of each call on an engine that a handle holds (own).
use Rattle.std.specs.Prelude.{ℕ, ◌≡◌, ◌≤◌, ◌<◌, ◌++◌, List, [], ◌∷◌, All, length, map}
use Rattle.rb_history.specs.RingModel.{IsRingSize}
use Rattle.rb_history.specs.declared.answers.Counts.{Counts}
use Rattle.rb_history.specs.declared.answers.Notice.{Notice}
use Rattle.rb_history.specs.declared.answers.Taken.{Taken}
use Rattle.rb_history.specs.declared.answers.Taken.TheVariants.{Event, Skipped, BusyFront, Empty}
use Rattle.rb_chapter_ring.specs.ChapterCalls.{AllTakenByChapter, HasBusyFrontByChapter}
use Rattle.rb_chapter_ring.specs.CountedFrom.{query_answer_from}
use Rattle.rb_chapter_ring.specs.OpenedRing.{told_counts}
use Rattle.rb_verifier.specs.Subject.{Subject}
use Rattle.rb_engine.specs.EngineCalls.{AtRing, OfRing}
use Rattle.rb_engine.specs.EngineValue.{EngineValue, RunsProgram}
use Rattle.rb_engine.specs.OpenedEngine.{fresh_ring}
use Rattle.rb_engine.specs.RingCalls.{HasNoRoom, HasWaitingFront, Outputs, Takes}
use Rattle.rb_engine.specs.RingTurns.{AfterTurn}
use Rattle.heskavo_c.specs.Verdicts.{AreBounds, BytesAreAccepted}
use Rattle.heskavo_c.specs.Writing.{WritesFront}
use Rattle.heskavo_c.specs.declared.engine_records.TakenRecord.{TakenRecord}
use Rattle.heskavo_c.specs.declared.engine_answers.RingCounts.{RingCounts}

-- ---- open

-- rings of these sizes may be opened, and programs may be verified for them and for contexts of this length
abbrev pub MayOpen : List ℕ → ℕ → Type 0
MayOpen sizes ctx_len = AreBounds ctx_len (length sizes) × All IsRingSize sizes

-- fresh rings of these sizes, and no programs
abbrev pub opened_engine : List ℕ → ℕ → EngineValue
opened_engine sizes ctx_len = record { rings = map fresh_ring sizes; programs = []; ctx_len = ctx_len }

-- ---- load

-- a program may be added: the engine is within the verifier's bounds, and there is a next number
abbrev pub MayLoad : EngineValue → Type 0
MayLoad e = AreBounds e.ctx_len (length e.rings) × (length e.programs < 4294967295)

-- the program with these bytes was accepted and added, with this number; nothing else changed
pub record LoadsProgram (bytes : List ℕ) (number : ℕ) (old new : EngineValue) : Type 0 where
  pub subject : Subject
  pub accepted : BytesAreAccepted bytes old.ctx_len (length old.rings) subject
  pub number_is : number ≡ length old.programs
  pub new_is : new ≡ record old { programs = old.programs ++ subject ∷ [] }

-- ---- run

-- there is a program with this number, and contexts have this length
abbrev pub MayRun : ℕ → ℕ → EngineValue → Type 0
MayRun number len e = (number < length e.programs) × (len ≡ e.ctx_len)

-- the program was run over the rings, and returned this value; only the rings changed
pub record RunsLoaded (number : ℕ) (context : List ℕ) (value : ℕ) (old new : EngineValue) : Type 0 where
  pub ran : RunsProgram number context value old new
  pub new_is : new ≡ record old { rings = new.rings }

-- ---- put and take

-- there is a ring with this number, and the flags are known
abbrev pub MayPut : ℕ → ℕ → EngineValue → Type 0
MayPut ring flags e = (ring < length e.rings) × (flags ≤ 3)

-- the bytes were output to the ring as one record; nothing else changed
pub record PutsRecord (ring flags : ℕ) (bytes : List ℕ) (old new : EngineValue) : Type 0 where
  pub notice : Notice
  pub put : AtRing ring (AfterTurn (Outputs bytes flags notice)) old.rings new.rings
  pub new_is : new ≡ record old { rings = new.rings }

-- the ring or its chapter has no room for n bytes; nothing else changed
pub record FindsRingFull (ring n : ℕ) (old new : EngineValue) : Type 0 where
  pub full : AtRing ring (AfterTurn (HasNoRoom n)) old.rings new.rings
  pub new_is : new ≡ record old { rings = new.rings }

-- these numbers report the record that a take found; the bytes of a submitted one were written to the front of the
-- buffer
abbrev pub IsTakenAs : Taken → TakenRecord → (old new : List ℕ) → Type 0
IsTakenAs (Event p w k bytes) r old new = (r ≡ record { position = p; len = length bytes; discarded = 0 }) × WritesFront bytes old new
IsTakenAs (Skipped p n) r old new = (r ≡ record { position = p; len = n; discarded = 1 }) × (new ≡ old)
IsTakenAs BusyFront r old new = ⊥
IsTakenAs Empty r old new = ⊥

-- the next record of the ring was taken; nothing else changed
pub record TakesRecord (ring : ℕ) (found : TakenRecord) (before after : List ℕ) (old new : EngineValue) : Type 0 where
  pub taken : Taken
  pub takes : AtRing ring (Takes taken) old.rings new.rings
  pub shown : IsTakenAs taken found before after
  pub new_is : new ≡ record old { rings = new.rings }

-- the next record of the ring is busy
abbrev pub HasBusyRecord : ℕ → EngineValue → Type 0
HasBusyRecord ring e = OfRing ring (λ v. HasBusyFrontByChapter v.ring) e.rings

-- the ring has no record
abbrev pub HasNoRecord : ℕ → EngineValue → Type 0
HasNoRecord ring e = OfRing ring (λ v. AllTakenByChapter v.ring) e.rings

-- the next record of the ring is waiting, and has n bytes, which is more than a buffer of this length
abbrev pub HasLongRecord : (ring n len : ℕ) → EngineValue → Type 0
HasLongRecord ring n len e = OfRing ring (λ v. HasWaitingFront v n) e.rings × (len < n)

-- ---- queries and counts

abbrev pub HasRing : ℕ → EngineValue → Type 0
HasRing ring e = ring < length e.rings

abbrev pub AnswersQuery : (ring what answer : ℕ) → EngineValue → Type 0
AnswersQuery ring what answer e = OfRing ring (λ v. answer ≡ query_answer_from v.ring.chapter.opening v.ring.chapter.entries what) e.rings

abbrev pub counts_of_ring : Counts → RingCounts
counts_of_ring c = record { made = c.made; refused = c.refused; consumed = c.consumed; discarded = c.discarded; waiting = c.waiting; busy = c.busy }

abbrev pub CountsRing : ℕ → RingCounts → EngineValue → Type 0
CountsRing ring counts e = OfRing ring (λ v. counts ≡ counts_of_ring (told_counts v.ring)) e.rings
