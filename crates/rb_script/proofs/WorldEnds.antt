-- The lines of a world at the end.
use Rattle.std.proofs.Common.{◌≡◌, ◌≤◌, ℕ, ◌+◌, List, [], ◌∷◌, ◌++◌, length, ap, ◌∙◌, refl, arith, add-one, append_assoc}
use Rattle.std.specs.List.{AllZip}
use Rattle.rb_history.specs.Calls.{producer_now, consumer_now}
use Rattle.rb_history.specs.Counting.{counts_of}
use Rattle.rb_history.specs.RingModel.{Ring}
use Rattle.rb_history.specs.declared.answers.Counts.{Counts}
use Rattle.rb_history.specs.declared.entries.Entry.{Entry}
use Rattle.rb_history.specs.declared.notices_and_queries.TheConstants.{CONS_POS, PROD_POS}
use Rattle.rb_chapter_ring.specs.ChapterRing.{ChapterRing, whole_ring}
use Rattle.rb_chapter_ring.specs.CountedFrom.{producer_from, consumer_from}
use Rattle.rb_chapter_ring.specs.WholeHistory.{IsKept, IsSameFrom}
use Rattle.rb_chapter_ring.proofs.Stands.{goes-on}
use Rattle.rb_chapter_ring.specs.OpenedRing.{capped_counts, told_counts}
use Rattle.rb_interp.specs.MachineState.{MachineState}
use Rattle.rb_world.specs.OpenedWorlds.{IsOpenedWorld, IsStarted, MayOpen}
use Rattle.rb_world.specs.WorldValue.{WorldValue}
use Rattle.rb_world.specs.declared.world_setup.RingSetup.{RingSetup}
use Rattle.rb_world.specs.declared.world_setup.WorkerSetup.{WorkerSetup}
use Rattle.rb_chapter_ring.specs.declared.ring_record.RingRecord.{RingRecord}
use Rattle.rb_world.proofs.Openings.{length-opened}
use Rattle.rb_chapter_ring.specs.Chapters.{Chapter, closing_of}
use Rattle.rb_chapter_ring.specs.Snapshot.{Snapshot}
use Rattle.rb_json.specs.declared.form.LineForm.{LineForm}
use Rattle.rb_script.specs.Drawings.{drawing_line, ring_drawing}
use Rattle.rb_script.specs.OutputLines.{ring_line}
use Rattle.rb_script.specs.Simulation.{lines_below, ring_state_text}

pub machines-long : (setups : List WorkerSetup) (machines : List (MachineState RingRecord)) → AllZip IsStarted setups machines → length setups ≡ length machines
machines-long [] [] h = refl
machines-long [] (y ∷ machines) h = absurd h
machines-long (x ∷ setups) [] h = absurd h
machines-long (x ∷ setups) (y ∷ machines) h = ap ℕ.suc (machines-long setups machines h.1)

-- a world has at most 256 workers
pub few-machines : (rings : List RingSetup) (setups : List WorkerSetup) (v : WorldValue) → IsOpenedWorld rings setups v → MayOpen rings setups → length v.machines ≤ 256
few-machines rings setups v opened allowed = let same = machines-long setups v.machines opened.machines_are in let most = allowed.worker_count.1 in omega arith

-- and at most 16 rings
pub few-rings : (rings : List RingSetup) (setups : List WorkerSetup) (v : WorldValue) → IsOpenedWorld rings setups v → MayOpen rings setups → length v.rings ≤ 16
few-rings rings setups v opened allowed = let same = ap length opened.rings_are ∙ length-opened (length setups) 0 rings in let most = allowed.ring_count.0 in omega arith

-- one more line
pub line-more : (line_at : ℕ → List ℕ) (n : ℕ) (start before after : List ℕ) → before ≡ start ++ lines_below line_at n → after ≡ before ++ line_at n → after ≡ start ++ lines_below line_at (n + 1)
line-more line_at n start before after so_far more = rw add-one (more ∙ (ap (λ l. l ++ line_at n) so_far ∙ append_assoc start (lines_below line_at n) (line_at n)))

-- a ring's line has no count that is capped
line-capped : (form : LineForm) (r producer consumer : ℕ) (counts : Counts) → ring_line form r producer consumer (capped_counts counts) ≡ ring_line form r producer consumer counts
line-capped form r producer consumer counts = refl

-- the line of a ring from its queries and counts, which it adds to those of its chapter's opening
module _ (earlier : List Entry) (ring : ChapterRing) (kept : IsKept earlier ring.chapter) where
  same : IsSameFrom ring.chapter.opening.setup earlier ring.chapter.opening ring.chapter.entries
  same = (goes-on ring.chapter.opening.setup earlier ring.chapter.opening kept.continues.earlier_legal kept.continues.opened ring.chapter.entries).1 kept.continues.legal

  pub ring-shown : (form : LineForm) (r : ℕ) (whole : Ring) → whole_ring earlier ring ≡ whole → (producer consumer : ℕ) (counts : Counts) → producer ≡ producer_from ring.chapter.opening ring.chapter.entries → consumer ≡ consumer_from ring.chapter.opening ring.chapter.entries
      → counts ≡ told_counts ring → ring_line form r producer consumer counts ≡ ring_state_text form r whole
  ring-shown form r whole e producer consumer counts p q k =
      ap (λ n. ring_line form r n consumer counts) (p ∙ same.query PROD_POS)
      ∙ (ap (λ n. ring_line form r (producer_now (whole_ring earlier ring)) n counts) (q ∙ same.query CONS_POS)
      ∙ (ap (λ c. ring_line form r (producer_now (whole_ring earlier ring)) (consumer_now (whole_ring earlier ring)) c) (k ∙ ap capped_counts same.counts)
      ∙ (line-capped form r (producer_now (whole_ring earlier ring)) (consumer_now (whole_ring earlier ring)) (counts_of (whole_ring earlier ring).history) ∙ ap (λ s. ring_state_text form r s) e)))

  -- its drawing, from the summary of its chapter's end
  pub drawing-shown : (form : LineForm) (r : ℕ) (whole : Ring) → whole_ring earlier ring ≡ whole → (chapter : Chapter) → chapter ≡ ring.chapter → (closing : Snapshot) → closing ≡ closing_of chapter
      → drawing_line form r closing.setup.size closing.consumer closing.producer closing.records ≡ ring_drawing form r whole
  drawing-shown form r whole e chapter is closing closes =
      ap (λ (o : Snapshot). drawing_line form r o.setup.size o.consumer o.producer o.records) (closes ∙ (ap closing_of is ∙ same.stands)) ∙ ap (ring_drawing form r) e
