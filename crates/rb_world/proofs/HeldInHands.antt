-- The records that workers hold stay out in their hands, in every turn.
use Rattle.std.proofs.Common.{◌≡◌, ℕ, ◌<◌, List, [], ◌∷◌, Some, length, map, get_or, set, refl, sym, ap, subst, ◌∙◌, inl, inr, get_or-set_same, get_or-set_other}
use Rattle.std.proofs.lemmas.Bool.{cases_eq}
use Rattle.rb_history.specs.Calls.{IsBusy}
use Rattle.rb_history.specs.declared.entries.Entry.{Entry}
use Rattle.rb_history.specs.ReservationModel.{Granted}
use Rattle.rb_chapter_ring.specs.Chapters.{Chapter, joined}
use Rattle.rb_chapter_ring.specs.WholeHistory.{IsKept}
use Rattle.rb_chapter_ring.proofs.FreedHands.{freed-stays}
use Rattle.rb_chapter_ring.proofs.StateSteps.{out-below}
use Rattle.rb_chapter_ring.specs.Hands.{hand_at, out_record}
use Rattle.rb_chapter_ring.specs.HandRing.{HandRing, HasHands}
use Rattle.rb_chapter_ring.proofs.BusyEntries.{some-out}
use Rattle.rb_chapter_ring.proofs.HandCalls.{to-whole}
use Rattle.rb_interp.specs.MachineState.{MachineState}
use Rattle.rb_interp.specs.StoredMemory.{held_record}
use Rattle.rb_world.specs.Worlds.{WorldRing}
use Rattle.rb_chapter_ring.specs.declared.record_end.RecordEnd.{RecordEnd}
use Rattle.rb_chapter_ring.specs.declared.record_end.RecordEnd.TheVariants.{Submit, Discard}
use Rattle.rb_world.specs.declared.turn_done.TurnDone.{TurnDone}
use Rattle.rb_world.specs.declared.turn_done.TurnDone.TheVariants as turn
use Rattle.rb_chapter_ring.specs.declared.ring_record.RingRecord.{RingRecord}
use Rattle.rb_world.specs.WorldValue.{KeptRing, WorldValue, no_kept_ring, ring_at, whole_world, world_ring}
use Rattle.rb_world.specs.TurnsDone.{chapters_of}
use Rattle.rb_world.specs.inner.FittingWorlds.{IsSoundWorld}
use Rattle.rb_world.specs.inner.HeldInHands.{AllInHand, AreTagged, HoldsEachOldOrOut, HoldsOldOrOut, IsHeldWorld, IsOutIn, KeepsEachInHand, KeepsInHand, Mark, StaysOut, books_of, hands_shown, mark_of}
use Rattle.rb_chapter_ring.specs.RecordEnds.{EndsFromHand}
use Rattle.rb_world.specs.inner.WorkerTurn.{KeepsChapter, TakesOnce}
use Rattle.rb_world.proofs.MachineAnswers.{set-length}
use Rattle.rb_world.proofs.SoundWorlds.{busy-held}
use Rattle.rb_world.proofs.WholeLists.{map-at, map-length, map-low, map-set, map-set-same}
use Rattle.rb_world.proofs.WholeTurns.{consumer-sound, keeper-sound, ring-shown}

abbrev Held : Type 0
Held = List (ℕ × RingRecord)

-- the end of a record frees its hand
pub ended-frees : (earlier : List Entry) (old new : HandRing) (ending : RecordEnd) (hand : ℕ) (r : Granted) → IsKept earlier old.ring.chapter → HasHands old → EndsFromHand ending hand r old new → StaysOut new.hands old.hands
ended-frees earlier old new Submit hand r kept has h =
    let b = out-below earlier old kept has hand r h.was_out in
    subst (λ book. StaysOut book old.hands) (sym h.freed) (freed-stays old.ring.chapter.opening.setup.workers old.hands has.shaped r.worker hand b.worker b.four)
ended-frees earlier old new Discard hand r kept has h =
    let b = out-below earlier old kept has hand r h.was_out in
    subst (λ book. StaysOut book old.hands) (sym h.freed) (freed-stays old.ring.chapter.opening.setup.workers old.hands has.shaped r.worker hand b.worker b.four)

-- ---- one ring

pub filled-keeps : (old new : KeptRing) → StaysOut (hands_shown old) (hands_shown new) → KeepsInHand old new
filled-keeps old new stays w h o n at busy = stays w h o at

pub freed-keeps : (old new : KeptRing) → HasHands old.ring.state → HasHands new.ring.state → IsKept (joined new.chapters) new.ring.state.ring.chapter → StaysOut (hands_shown new) (hands_shown old) → KeepsInHand old new
freed-keeps old new was has kept stays w h o n at busy =
    let book = to-whole (joined new.chapters) new.ring.state.ring.chapter kept.continues (hands_shown new) has.holds in
    let there = book.busy_is_out o.pos w o.serial n busy in
    let x = out_record o.pos o.serial n in
    let before : hand_at (hands_shown old) w there.0 ≡ Some x = stays w there.0 x there.1 in
    let same : h ≡ there.0 = (was.holds.each_once w w h there.0 o x at before refl).1 in
    let is : o ≡ x = some-out o x (sym at ∙ ap (hand_at (hands_shown old) w) same ∙ before) in
    ap (hand_at (hands_shown new) w) same ∙ there.1 ∙ ap (λ y. Some y) (sym is)

pub same-keeps : (old new : KeptRing) → hands_shown new ≡ hands_shown old → KeepsInHand old new
same-keeps old new same w h o n at busy = ap (λ book. hand_at book w h) same ∙ at

-- ---- all rings

pub book-at : (rings : List KeptRing) (r : ℕ) → r < length rings → get_or (books_of rings) r [] ≡ hands_shown (get_or rings r no_kept_ring)
book-at rings r low = map-at hands_shown rings r no_kept_ring [] low

module _ (rings : List KeptRing) (r : ℕ) (s s' : KeptRing) (there : s ≡ get_or rings r no_kept_ring) (low : r < length rings) where
  pub keeps-each-set : KeepsInHand s s' → KeepsEachInHand rings (set rings r s')
  keeps-each-set keeps j below = elim (cases_eq j r) [
    | inl same ↦
        let now : get_or (set rings r s') j no_kept_ring ≡ s' = ap (λ i. get_or (set rings r s') i no_kept_ring) same ∙ get_or-set_same rings r s' no_kept_ring low in
        let was : get_or rings j no_kept_ring ≡ s = ap (λ i. get_or rings i no_kept_ring) same ∙ sym there in
        subst (λ (u : KeptRing). KeepsInHand u (get_or (set rings r s') j no_kept_ring)) (sym was) (subst (KeepsInHand s) (sym now) keeps)
    | inr else ↦ same-keeps (get_or rings j no_kept_ring) (get_or (set rings r s') j no_kept_ring) (ap hands_shown (get_or-set_other rings r j s' no_kept_ring else))
  ]

  -- what is out at that ring is out at one of the rings
  pub out-here : (m : Mark) → m.ring ≡ r → hand_at (hands_shown s') m.worker m.hand ≡ Some m.out → IsOutIn (books_of (set rings r s')) m
  out-here m is out =
      let now : get_or (books_of (set rings r s')) m.ring [] ≡ hands_shown s' =
      ap (λ i. get_or (books_of (set rings r s')) i []) is ∙ ap (λ l. get_or l r []) (map-set hands_shown rings r s') ∙ get_or-set_same (books_of rings) r (hands_shown s') [] (map-low hands_shown rings r low) in
      ap (λ book. hand_at book m.worker m.hand) now ∙ out

  pub holds-each : (old new : Held) → HoldsOldOrOut r (hands_shown s') old new → HoldsEachOldOrOut (books_of (set rings r s')) old new
  holds-each old new holds id x held = elim (holds id x held) [ inl was ↦ inl was | inr here ↦ inr (out-here (mark_of x) here.0 here.1) ]

-- ---- a world

module _ (old new : WorldValue) (sound : IsSoundWorld (whole_world new)) (long : length new.rings ≡ length old.rings) (each : KeepsEachInHand old.rings new.rings) where
  -- what was out in its hand before the turn, and is held after it, is still out in it
  pub still-out : (w : ℕ) (m : MachineState RingRecord) → w < length new.machines → m ≡ get_or new.machines w m → (id : ℕ) (x : RingRecord) → held_record id m.records ≡ Some x → IsOutIn (books_of old.rings) (mark_of x) → IsOutIn (books_of new.rings) (mark_of x)
  still-out w m low is id x held out =
      let own = sound.fitting.own w m low is id x held in
      let r = x.ring in
      let g = x.reservation.granted in
      let there : r < length new.rings = subst (λ n. r < n) (map-length world_ring new.rings) own.0 in
      let was_there : r < length old.rings = subst (λ n. r < n) long there in
      let busy = busy-held (whole_world new) w m sound low is id x held in
      let here : IsBusy (world_ring (ring_at new r)).ring.history g.pos g.worker g.serial busy.0 =
      subst (λ u. IsBusy (world_ring (ring_at new r)).ring.history g.pos u g.serial busy.0) (sym own.1) (subst (λ (b : WorldRing). IsBusy b.ring.history g.pos w g.serial busy.0) (ring-shown new r there) busy.1) in
      let before : hand_at (hands_shown (ring_at old r)) g.worker x.reservation.hand ≡ Some (mark_of x).out = ap (λ book. hand_at book g.worker x.reservation.hand) (sym (book-at old.rings r was_there)) ∙ out in
      ap (λ book. hand_at book g.worker x.reservation.hand) (book-at new.rings r there) ∙ each r there g.worker x.reservation.hand (mark_of x).out busy.0 before here

-- a worker's turn
pub worker-in-hand : (old : WorldValue) (rings : List KeptRing) (w : ℕ) (m m' : MachineState RingRecord) → AllInHand old → w < length old.machines → m ≡ get_or old.machines w m → IsSoundWorld (whole_world (record { rings = rings; machines = set old.machines w m' })) → length rings ≡ length old.rings
    → KeepsEachInHand old.rings rings → HoldsEachOldOrOut (books_of rings) m.records m'.records → AllInHand (record { rings = rings; machines = set old.machines w m' })
worker-in-hand old rings w m m' all low is sound long each holds j k below there id x held =
    let new : WorldValue = record { rings = rings; machines = set old.machines w m' } in
    elim (cases_eq j w) [
      | inl same ↦
          let here : k ≡ m' = there ∙ (ap (λ i. get_or (set old.machines w m') i k) same ∙ get_or-set_same old.machines w m' k low) in
          let held_there : held_record id m'.records ≡ Some x = ap (λ (n : MachineState RingRecord). held_record id n.records) (sym here) ∙ held in
          elim (holds id x held_there) [
            | inl was ↦ still-out old new sound long each j k below there id x held (subst (IsOutIn (books_of old.rings)) was.3 (all w m low is was.0 was.1 was.2))
            | inr out ↦ out
          ]
      | inr else ↦
          let stood : k ≡ get_or old.machines j k = there ∙ get_or-set_other old.machines w j m' k else in
          still-out old new sound long each j k below there id x held (all j k (subst (λ n. j < n) (set-length old.machines w m') below) stood id x held)
    ]

-- a turn of another actor, which leaves all hands unchanged
pub all-in-hand : (old : WorldValue) (rings : List KeptRing) → AllInHand old → books_of rings ≡ books_of old.rings → AllInHand (record { rings = rings; machines = old.machines })
all-in-hand old rings all same w m low is id x held = subst (λ books. IsOutIn books (mark_of x)) (sym same) (all w m low is id x held)

-- ---- the rings' numbers

abbrev pub tag_shown : KeptRing → ℕ
tag_shown s = s.ring.tag

tags-shown : (rings : List KeptRing) → map tag_shown rings ≡ map (λ (m : ℕ × List Chapter × Chapter). m.0) (map chapters_of rings)
tags-shown [] = refl
tags-shown (s ∷ rings) = ap (λ l. s.ring.tag ∷ l) (tags-shown rings)

pub tags-by-chapters : (one other : List KeptRing) → map chapters_of one ≡ map chapters_of other → map tag_shown one ≡ map tag_shown other
tags-by-chapters one other same = tags-shown one ∙ (ap (map (λ (m : ℕ × List Chapter × Chapter). m.0)) same ∙ sym (tags-shown other))

pub still-tagged : (old : WorldValue) (rings : List KeptRing) (machines : List (MachineState RingRecord)) → AreTagged old → map tag_shown rings ≡ map tag_shown old.rings → AreTagged (record { rings = rings; machines = machines })
still-tagged old rings machines tagged same r low =
    let long : length rings ≡ length old.rings = sym (map-length tag_shown rings) ∙ (ap length same ∙ map-length tag_shown old.rings) in
    let was : r < length old.rings = subst (λ n. r < n) long low in
    sym (map-at tag_shown rings r no_kept_ring 0 low) ∙ ap (λ l. get_or l r 0) same ∙ map-at tag_shown old.rings r no_kept_ring 0 was ∙ tagged r was

-- ---- turns

keeps-tag : (s s' : KeptRing) (done : TurnDone) → KeepsChapter s done s' → s'.ring.tag ≡ s.ring.tag
keeps-tag s s' (turn.Chapter n) k = k.tag_same
keeps-tag s s' turn.Memory k = ap tag_shown k
keeps-tag s s' turn.Went k = absurd k
keeps-tag s s' (turn.Finished n) k = absurd k
keeps-tag s s' turn.Idle k = absurd k
keeps-tag s s' turn.Took k = absurd k
keeps-tag s s' turn.Skipped k = absurd k
keeps-tag s s' turn.BusyFront k = absurd k
keeps-tag s s' turn.Empty k = absurd k

module _ (v : WorldValue) (r : ℕ) (s s' : KeptRing) (done : TurnDone) (low : r < length v.rings) (there : s ≡ get_or v.rings r s) (h : IsHeldWorld v) (hands : hands_shown s' ≡ hands_shown s) where
  same-books : books_of (set v.rings r s') ≡ books_of v.rings
  same-books = map-set-same hands_shown v.rings r s s' there hands

  pub consumer-held : TakesOnce (world_ring s) done (world_ring s') → chapters_of s' ≡ chapters_of s → IsHeldWorld (record v { rings = set v.rings r s' })
  consumer-held takes same = record {
    sound = consumer-sound v r s s' done low there h.sound takes same;
    in_hand = all-in-hand v (set v.rings r s') h.in_hand same-books;
    tagged = still-tagged v (set v.rings r s') v.machines h.tagged (map-set-same tag_shown v.rings r s s' there (ap (λ (m : ℕ × List Chapter × Chapter). m.0) same));
  }

  pub keeper-held : world_ring s' ≡ world_ring s → KeepsChapter s done s' → IsHeldWorld (record v { rings = set v.rings r s' })
  keeper-held same keeps = record {
    sound = keeper-sound v r s s' done low there h.sound same;
    in_hand = all-in-hand v (set v.rings r s') h.in_hand same-books;
    tagged = still-tagged v (set v.rings r s') v.machines h.tagged (map-set-same tag_shown v.rings r s s' there (keeps-tag s s' done keeps));
  }
