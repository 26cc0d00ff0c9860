-- What an output in segments is given.
use Rattle.std.proofs.Common.{◌≡◌, ℕ, Bool, List, [], ◌∷◌, ◌++◌, Option, None, Some, false, refl, sym, subst, ◌∙◌, append_assoc, append-nil}
use Rattle.std.specs.Prelude.{IsSome}
use Rattle.rb_segments.specs.declared.fault.SegmentFault.{SegmentFault}
use Rattle.rb_history.specs.TapeBytes.{Item}
use Rattle.rb_segments.specs.Segments.{Segment}
use Rattle.rb_segments.specs.SegmentTape.{HasWritten, SegmentTape, WritesRecord}
use Rattle.rb_tape.specs.Items.{item_of, item_taken}
use Rattle.rb_tape.specs.declared.item.Item.{Item as Lent}
use Rattle.rb_workers.specs.Sink.{SinkItem, TakesAll}
use Rattle.rb_workers.specs.Sink.SinkItem.{Record}
use Rattle.rb_run_commands.specs.TapedRun.{sink_tape_items}
use Rattle.rb_run_commands.proofs.TapeGiven.{first_of, lent_is}
use Rattle.rb_outputs.specs.Outputs.{ContinuesWith, has_fault, output_takes}
use Rattle.rb_outputs.specs.declared.outputs.RingOutput.{RingOutput}
use Rattle.rb_outputs.specs.declared.outputs.RingOutput.TheVariants.{Stream, File, Segments, Nowhere}

-- an answer that keeps a fault has none only if there was none
some_or_none : (fault : SegmentFault) → ◌≡◌ {A = Option SegmentFault} (Some fault) None → ⊥
some_or_none fault e = cc

pub no_fault : (fault answer : Option SegmentFault) → (IsSome fault → answer ≡ fault) → answer ≡ None → has_fault fault ≡ false
no_fault None answer keeps is = refl
no_fault (Some fault) answer keeps is = absurd (some_or_none fault (sym (keeps refl) ∙ is))

module _ {S F : Type 0} (segments : S → Option (List Segment)) (contents : F → Option (List ℕ)) where
  -- a record was written, or counted
  pub continues_record : (item : Lent) (old new : SegmentTape S F) → WritesRecord segments contents old (item_of item) new → ContinuesWith segments contents old (sink_tape_items (Record (item_taken item) ∷ [])) new
  continues_record item old new wrote = subst (λ l. ContinuesWith segments contents old l new) (sym (lent_is item)) wrote

  -- the segments hold what they held
  pub continues_same : (old new : SegmentTape S F) → ((start : ℕ) (deleted : List Segment) (items : List Item) → HasWritten segments contents start deleted items old → HasWritten segments contents start deleted items new)
      → ContinuesWith segments contents old [] new
  continues_same old new holds = λ start deleted before h. (
    [],
    subst (λ l. HasWritten segments contents start l (before ++ []) new) (sym (append-nil deleted)) (subst (λ l. HasWritten segments contents start deleted l new) (sym (append-nil before)) (holds start deleted before h)),
  )

  -- first these records, and then those
  pub continues_both : (a b c : SegmentTape S F) (xs ys : List Item) → ContinuesWith segments contents a xs b → ContinuesWith segments contents b ys c → ContinuesWith segments contents a (xs ++ ys) c
  continues_both a b c xs ys one two = λ start deleted before h.
      (let first = one start deleted before h in
      let second = two start (deleted ++ first.0) (before ++ xs) first.1 in (
        first.0 ++ second.0,
        subst (λ l. HasWritten segments contents start l (before ++ (xs ++ ys)) c) (append_assoc deleted first.0 second.0)
            (subst (λ l. HasWritten segments contents start ((deleted ++ first.0) ++ second.0) l c) (append_assoc before xs ys) second.1),
      ))

-- what an output in segments received, item by item
module _ {A B S F : Type 0} (contents : A → Option (List ℕ)) (writes_out : A → Bool → A → Type 0) (file_contents : B → Option (List ℕ)) (file_writes_out : B → Bool → B → Type 0)
    (segments : S → Option (List Segment)) (segment_contents : F → Option (List ℕ)) where
  abbrev takes : RingOutput A B S F → SinkItem → RingOutput A B S F → Type 0
  takes = output_takes contents writes_out file_contents file_writes_out segments segment_contents

  -- a record was written, or counted, by an output in segments
  pub took_record : (old : RingOutput A B S F) (tape new : SegmentTape S F) (item : Lent) → old ≡ Segments tape → WritesRecord segments segment_contents tape (item_of item) new → takes old (Record (item_taken item)) (Segments new)
  took_record old tape new item is wrote = subst (λ (o : RingOutput A B S F). takes o (Record (item_taken item)) (Segments new)) (sym is) (continues_record segments segment_contents item tape new wrote)

  -- an output in segments holds what it held, after an item without a record
  pub took_none : (old : RingOutput A B S F) (tape new : SegmentTape S F) (item : SinkItem) → old ≡ Segments tape → sink_tape_items (item ∷ []) ≡ []
      → ((start : ℕ) (deleted : List Segment) (items : List Item) → HasWritten segments segment_contents start deleted items tape → HasWritten segments segment_contents start deleted items new) → takes old item (Segments new)
  took_none old tape new item is none holds =
      subst (λ (o : RingOutput A B S F). takes o item (Segments new)) (sym is)
      (subst (λ l. ContinuesWith segments segment_contents tape l new) (sym none) (continues_same segments segment_contents tape new holds))

  abbrev Holds : SegmentTape S F → List Item → RingOutput A B S F → Type 0
  Holds old items new = (tape : SegmentTape S F) × (new ≡ Segments tape) × ContinuesWith segments segment_contents old items tape

  -- one item: the output is in segments as before
  one_item : (old : SegmentTape S F) (item : SinkItem) (mid : RingOutput A B S F) → takes (Segments old) item mid → Holds old (sink_tape_items (item ∷ [])) mid
  one_item old item (Stream t) took = absurd took
  one_item old item (File t) took = absurd took
  one_item old item (Segments t) took = (t, refl, took)
  one_item old item (Nowhere s) took = absurd took

  pub all_items : (items : List SinkItem) (old : SegmentTape S F) (new : RingOutput A B S F) → TakesAll takes (Segments old) items new → Holds old (sink_tape_items items) new
  all_items [] old new same = (old, same, continues_same segments segment_contents old old (λ start deleted before h. h))
  all_items (item ∷ items) old new given =
      let one = one_item old item given.0 given.1 in
      let more = all_items items one.0 new (subst (λ (o : RingOutput A B S F). TakesAll takes o items new) one.1 given.2) in (
        more.0,
        more.1,
        subst (λ l. ContinuesWith segments segment_contents old l more.0) (sym (first_of item items))
            (continues_both segments segment_contents old one.0 more.0 (sink_tape_items (item ∷ [])) (sink_tape_items items) one.2 more.2),
      )
