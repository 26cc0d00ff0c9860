-- What a role and a pass know about a ring with chapters under the lock (own).
use Rattle.std.specs.Prelude.{◌≡◌, ℕ, List, [], ◌∷◌, Option, Some, None, map}
use Rattle.rb_history.specs.RingModel.{Ring}
use Rattle.rb_chapter_ring.specs.Chapters.{Chapter}
use Rattle.rb_ledger.specs.Roles.Role.{Consumer}
use Rattle.rb_ledger.specs.RoleKnowledge.{RoleKnowledge, PassView, pass_view}
use Rattle.rb_ledger.specs.ChapteredRing.{ChapteredRing, whole_of}

-- what a role knows about the whole history; and, for the consumer, the room of each chapter and the chapters that were
-- handed out
pub record ChapterKnowledge : Type 0 where
  pub whole : RoleKnowledge
  pub room : ℕ
  pub handed_out : List Chapter

-- a pass: its roles with what each knows, and the state if the pass holds it
pub record ChapterPassView : Type 0 where
  pub knows : List ChapterKnowledge
  pub out : Option ChapteredRing

abbrev pub chapter_view : List ChapterKnowledge → Option ChapteredRing → ChapterPassView
chapter_view knows out = record { knows = knows; out = out }

-- ---- the same, for the ring with its whole history

abbrev pub whole_out : Option ChapteredRing → Option Ring
whole_out None = None
whole_out (Some c) = Some (whole_of c)

abbrev pub whole_knowledge : List ChapterKnowledge → List RoleKnowledge
whole_knowledge ks = map (λ k. k.whole) ks

abbrev pub whole_view : ChapterPassView → PassView
whole_view v = pass_view (whole_knowledge v.knows) (whole_out v.out)

-- ---- what the consumer knows

-- the consumer knows the chapters' room and those that were handed out; a worker's knowledge is unrestricted
abbrev pub KnowsHandedOut : ℕ → List Chapter → ChapterKnowledge → Type 0
KnowsHandedOut room handed_out k = k.whole.role ≡ Consumer → (k.room ≡ room) × (k.handed_out ≡ handed_out)

abbrev pub AllKnowHandedOut : ℕ → List Chapter → List ChapterKnowledge → Type 0
AllKnowHandedOut room handed_out [] = Unit {0}
AllKnowHandedOut room handed_out (k ∷ ks) = KnowsHandedOut room handed_out k × AllKnowHandedOut room handed_out ks
