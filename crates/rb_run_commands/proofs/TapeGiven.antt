-- What a sink wrote for its records, and what a run wrote for its ring's.
use Rattle.std.proofs.Common.{◌≡◌, ℕ, ◌+◌, ◌<◌, ◌≤◌, Bool, true, false, List, [], ◌∷◌, ◌++◌, length, take, drop, Option, refl, sym, ap, ◌∙◌, subst, arith, append_assoc, append-nil, take-append-drop, inl, inr}
use Rattle.std.specs.Prelude.{◌≢◌, ◌⊎◌, ◌&&◌, All, not, Result, Ok, Err, OnOk, OnErr, is_err}
use Rattle.std.proofs.lemmas.Bool.{true≢false}
use Rattle.std.proofs.lemmas.List.{length-drop, drop_all}
use Rattle.std.proofs.lemmas.List.Elements.{All-nil, All-cons}
use Rattle.std.specs.Io.KnownBytes.{Appends, Keeps}
use Rattle.std.proofs.KnownBytes.{Appends-nil, Appends-trans, Appends-kept}
use Rattle.rb_history.specs.TapeBytes.{Item, item_bytes, item_span, tape}
use Rattle.rb_history.proofs.HeaderLaws.{length-item_bytes, tape-append}
use Rattle.rb_verifier.specs.Subject.{Subject}
use Rattle.rb_workers.specs.Reports.{RingEnds, RingsEnd}
use Rattle.rb_history.specs.declared.answers.Taken.TheVariants.{Event, Skipped, BusyFront, Empty}
use Rattle.rb_tape.specs.Items.{item_of, item_taken}
use Rattle.rb_tape.specs.declared.item.Item.{Item as Lent}
use Rattle.rb_tape.specs.declared.item.Item.TheVariants as kinds
use Rattle.rb_workers.specs.Sink.{SinkItem, TakesAll, positions_among, takes_in}
use Rattle.rb_workers.specs.Sink.SinkItem.{Record, Chapter, CaughtUp}
use Rattle.rb_workers.specs.declared.opened.Ended.{Ended}
use Rattle.rb_workers.specs.declared.opened.Opened.{Opened}
use Rattle.rb_workers.specs.declared.opened.JobsReport.{JobsReport}
use Rattle.rb_ledger.specs.Seats.{WorkerSeat}
use Rattle.rb_run_commands.specs.RunCommand.{RunsWorkers}
use Rattle.rb_run_commands.proofs.Running.{one_ended}
use Rattle.rb_run_commands.specs.TapedRun.{SinkTape, TapesRing, WritesOn, first_tape, sink_tape_items, tape_position, tape_takes}
use Rattle.rb_run_commands.specs.declared.jobs_request.JobsRequest.{JobsRequest}

front_empty : (xs ys : List ℕ) → xs ++ ys ≡ [] → xs ≡ []
front_empty [] ys e = refl
front_empty (x ∷ xs) ys e = absurd (let l = ap length e in omega (arith, l))

-- ---- one record

one_tape : (size : ℕ) (item : Item) → tape size (item ∷ []) ≡ item_bytes size item
one_tape size item = append-nil (item_bytes size item)

some_bytes : (size : ℕ) (item : Item) → tape size (item ∷ []) ≢ []
some_bytes size item e = let l = ap length (sym (one_tape size item) ∙ e) in let n = length-item_bytes size item in absurd (omega (arith, l, n))

-- a lent record, as a record of the tape
pub lent_is : (item : Lent) → sink_tape_items (Record (item_taken item) ∷ []) ≡ item_of item ∷ []
lent_is (kinds.Event e) = refl
lent_is (kinds.Skip pos n) = refl

-- the records of the first item, and then those of the others
pub first_of : (item : SinkItem) (items : List SinkItem) → sink_tape_items (item ∷ items) ≡ sink_tape_items (item ∷ []) ++ sink_tape_items items
first_of (Record (Event p w k bytes)) items = refl
first_of (Record (Skipped p n)) items = refl
first_of (Record BusyFront) items = refl
first_of (Record Empty) items = refl
first_of (Chapter c) items = refl
first_of CaughtUp items = refl

-- a sink's tape, from its fields
abbrev pub sink_tape : {W : Type 0} → W → ℕ → ℕ → Bool → Bool → SinkTape W
sink_tape writer size position failed stalled = record { writer = writer; size = size; position = position; failed = failed; stalled = stalled }

module _ {W : Type 0} (contents : W → Option (List ℕ)) (writer : W) (size before after : ℕ) (stalled : Bool) (item : Item) where
  -- the tape had ended
  pub gives_up : (ended : Bool) → ended ≡ true → WritesOn contents (sink_tape writer size before ended stalled) (item ∷ []) (sink_tape writer size after ended stalled)
  gives_up ended is = record {
    out = [];
    missing = [];
    wrote = Appends-nil (contents writer);
    size_same = refl;
    nothing = λ _. (refl, is);
    beginning = λ sound. absurd (true≢false (sym is ∙ sound));
    all_out = λ _. refl;
    not_all_out = λ sound _. absurd (true≢false (sym is ∙ sound));
  }

  -- the tape ends before the record
  pub ends_before : (ended : Bool) → ended ≡ false → WritesOn contents (sink_tape writer size before ended stalled) (item ∷ []) (sink_tape writer size after true stalled)
  ends_before ended is = record {
    out = [];
    missing = tape size (item ∷ []);
    wrote = Appends-nil (contents writer);
    size_same = refl;
    nothing = λ _. (refl, refl);
    beginning = λ _. refl;
    all_out = λ whole. absurd (true≢false whole);
    not_all_out = λ _ _. some_bytes size item;
  }

  -- the record is written, or some of it
  pub writes_record : {A E : Type 0} (later : W) (ended failed : Bool) (sent : ℕ) (answer : Result A E) → ended ≡ false → failed ≡ is_err answer
      → Appends (contents writer) (contents later) (take sent (item_bytes size item)) → OnOk answer (sent ≡ item_span item) → OnErr answer (sent < item_span item)
      → WritesOn contents (sink_tape writer size before ended stalled) (item ∷ []) (sink_tape later size after failed stalled)
  writes_record {A} {E} later ended failed sent answer sound is went all short = record {
    out = take sent (item_bytes size item);
    missing = drop sent (item_bytes size item);
    wrote = went;
    size_same = refl;
    nothing = λ before_that. absurd (true≢false (sym before_that ∙ sound));
    beginning = λ _. take-append-drop sent (item_bytes size item) ∙ sym (one_tape size item);
    all_out = λ whole. by_answer answer is all short whole;
    not_all_out = λ _ broken none. by_short answer is short broken none;
  }
    where
      by_answer : (r : Result A E) → failed ≡ is_err r → OnOk r (sent ≡ item_span item) → OnErr r (sent < item_span item) → failed ≡ false → drop sent (item_bytes size item) ≡ []
      by_answer (Ok _) f out part whole = drop_all sent (item_bytes size item) (let n = length-item_bytes size item in omega (arith, n, out))
      by_answer (Err _) f out part whole = absurd (true≢false (sym f ∙ whole))

      by_short : (r : Result A E) → failed ≡ is_err r → OnErr r (sent < item_span item) → failed ≡ true → drop sent (item_bytes size item) ≡ [] → ⊥
      by_short (Ok _) f part broken none = absurd (true≢false (sym broken ∙ f))
      by_short (Err _) f part broken none =
          let n = length-item_bytes size item in
          let l = length-drop sent (item_bytes size item) in
          let z = ap length none in
          absurd (omega (arith, n, l, z, part))

module _ {W : Type 0} (contents : W → Option (List ℕ)) where
  -- ---- records in sequence

  pub nothing_yet : (sink : SinkTape W) → WritesOn contents sink [] sink
  nothing_yet sink = record {
    out = [];
    missing = [];
    wrote = Appends-nil (contents sink.writer);
    size_same = refl;
    nothing = λ ended. (refl, ended);
    beginning = λ _. refl;
    all_out = λ _. refl;
    not_all_out = λ sound ended. absurd (true≢false (sym ended ∙ sound));
  }

  -- the writer flushed, and no record was written
  pub only_handed_on : (old new : SinkTape W) → Keeps (contents old.writer) (contents new.writer) → new.size ≡ old.size → new.failed ≡ old.failed → WritesOn contents old [] new
  only_handed_on old new kept size failed = record {
    out = [];
    missing = [];
    wrote = Appends-kept (contents old.writer) (contents old.writer) (contents new.writer) [] (Appends-nil (contents old.writer)) kept;
    size_same = size;
    nothing = λ ended. (refl, failed ∙ ended);
    beginning = λ _. refl;
    all_out = λ _. refl;
    not_all_out = λ sound ended. absurd (true≢false (sym ended ∙ (failed ∙ sound)));
  }

  goes_on : (a b c : SinkTape W) (is js : List Item) → WritesOn contents a is b → WritesOn contents b js c → WritesOn contents a (is ++ js) c
  goes_on a b c is js one two = by b.failed refl
    where
      by : (ended : Bool) → b.failed ≡ ended → WritesOn contents a (is ++ js) c
      by false sound = record {
        out = one.out ++ two.out;
        missing = two.missing;
        wrote = Appends-trans (contents a.writer) (contents b.writer) (contents c.writer) one.out two.out one.wrote two.wrote;
        size_same = two.size_same ∙ one.size_same;
        nothing = λ ended. absurd (true≢false (sym (one.nothing ended).1 ∙ sound));
        beginning = λ before.
            append_assoc one.out two.out two.missing
            ∙ (ap (λ l. one.out ++ l) (two.beginning sound ∙ ap (λ n. tape n js) one.size_same)
            ∙ (ap (λ l. l ++ tape a.size js) (sym (append-nil one.out) ∙ (ap (λ l. one.out ++ l) (sym (one.all_out sound)) ∙ one.beginning before)) ∙ sym (tape-append a.size is js)));
        all_out = two.all_out;
        not_all_out = λ _ ended. two.not_all_out sound ended;
      }
      by true ended =
          let silent = two.nothing ended in
          let same : one.out ++ two.out ≡ one.out = ap (λ l. one.out ++ l) silent.0 ∙ append-nil one.out in
          record {
            out = one.out ++ two.out;
            missing = one.missing ++ tape a.size js;
            wrote = Appends-trans (contents a.writer) (contents b.writer) (contents c.writer) one.out two.out one.wrote two.wrote;
            size_same = two.size_same ∙ one.size_same;
            nothing = λ before. (same ∙ (one.nothing before).0, silent.1);
            beginning = λ before.
                ap (λ l. l ++ (one.missing ++ tape a.size js)) same
                ∙ (sym (append_assoc one.out one.missing (tape a.size js)) ∙ (ap (λ l. l ++ tape a.size js) (one.beginning before) ∙ sym (tape-append a.size is js)));
            all_out = λ whole. absurd (true≢false (sym silent.1 ∙ whole));
            not_all_out = λ before _ none. one.not_all_out before ended (front_empty one.missing (tape a.size js) none);
          }

  -- what a sink received, item by item
  the_tape_of_what_is_given : (writes_out : W → Bool → W → Type 0) (items : List SinkItem) (old new : SinkTape W) → TakesAll (tape_takes contents writes_out) old items new
      → WritesOn contents old (sink_tape_items items) new
  the_tape_of_what_is_given writes_out [] old new same = subst (λ s. WritesOn contents old [] s) (sym same) (nothing_yet old)
  the_tape_of_what_is_given writes_out (item ∷ items) old new given =
      subst (λ l. WritesOn contents old l new) (sym (first_of item items))
      (goes_on old given.0 new (sink_tape_items (item ∷ [])) (sink_tape_items items) given.1.0 (the_tape_of_what_is_given writes_out items given.0 new given.2))

-- ---- the run

last_of_one : {A : Type 0} (front : List A) (x y : A) → x ∷ [] ≡ front ++ y ∷ [] → y ≡ x
last_of_one [] x y e = cc
last_of_one (z ∷ []) x y e = absurd (let l = ap length e in omega (arith, l))
last_of_one (z ∷ w ∷ front) x y e = absurd (let l = ap length e in omega (arith, l))

-- what it means for the parts that a tape is reported as whole, or as not whole
told_whole : (whole handed_out failed : Bool) → whole ≡ (handed_out && not failed) → whole ≡ true → (handed_out ≡ true) × (failed ≡ false)
told_whole whole true false is told = (refl, refl)
told_whole whole true true is told = absurd (true≢false (sym told ∙ is))
told_whole whole false failed is told = absurd (true≢false (sym told ∙ is))

told_cut : (whole handed_out failed : Bool) → whole ≡ (handed_out && not failed) → whole ≡ false → (failed ≡ true) ⊎ (handed_out ≡ false)
told_cut whole true false is told = absurd (true≢false (sym is ∙ told))
told_cut whole true true is told = inl refl
told_cut whole false failed is told = inr refl

by_part : {A B C : Type 0} → A ⊎ B → (A → C) → C ⊎ B
by_part (inl a) f = inl (f a)
by_part (inr b) f = inr b

module _ {W : Type 0} (contents : W → Option (List ℕ)) (writes_out : W → Bool → W → Type 0) (writer left : W) (subject : Subject) (request : JobsRequest) (report : JobsReport (SinkTape W)) (ran : RunsWorkers tape_position (tape_takes contents writes_out) (first_tape writer request) subject request report) where
  ending : (e : Ended (SinkTape W)) × (row : List WorkerSeat) × (report.rings.items ≡ e ∷ []) × RingEnds tape_position (tape_takes contents writes_out) ran.opened e row
  ending = one_ended tape_position (tape_takes contents writes_out) ran.opened report.rings.items ran.reported.seats ran.reported.rings_end

  -- what the sink of the ring taken out of the report wrote
  pub ring_taped : (front : List (Ended (SinkTape W))) (ended : Ended (SinkTape W)) (whole handed_out : Bool) → report.rings.items ≡ front ++ ended ∷ []
      → whole ≡ (handed_out && not ended.sink.failed) → Keeps (contents ended.sink.writer) (contents left) → writes_out ended.sink.writer handed_out left
      → All (TapesRing contents writes_out request.size whole writer left) report.rings.items
  ring_taped front ended whole handed_out is told kept called =
      let e = ending.0 in
      let ends = ending.3 in
      let same : ended ≡ e = last_of_one front e ended (sym ending.2 ∙ is) in
      let given = ends.sink_given in
      let wrote = the_tape_of_what_is_given contents writes_out given.items (first_tape writer request) e.sink (subst (λ s. TakesAll (tape_takes contents writes_out) s given.items e.sink) ran.just_opened.sink_is given.given) in
      let on_e : whole ≡ (handed_out && not e.sink.failed) = subst (λ (x : Ended (SinkTape W)). whole ≡ (handed_out && not x.sink.failed)) same told in
      subst (All (TapesRing contents writes_out request.size whole writer left)) (sym ending.2)
      (All-cons (TapesRing contents writes_out request.size whole writer left) e [] (record {
        seats = ending.1;
        consumer = ends.consumer;
        items = given.items;
        out = wrote.out;
        missing = wrote.missing;
        handed_out = handed_out;
        closed = ends.closed;
        taken_are = given.taken_are ∙ ap (λ (c : _). takes_in c.seen.history ++ positions_among given.items) ran.just_opened.consumer_is;
        records_are = given.records_are;
        wrote = Appends-kept (contents writer) (contents e.sink.writer) (contents left) wrote.out wrote.wrote (subst (λ (x : Ended (SinkTape W)). Keeps (contents x.sink.writer) (contents left)) same kept);
        beginning = wrote.beginning refl;
        called = subst (λ (x : Ended (SinkTape W)). writes_out x.sink.writer handed_out left) same called;
        all_out = λ is_whole. let both = told_whole whole handed_out e.sink.failed on_e is_whole in (wrote.all_out both.1, both.0);
        not_all_out = λ cut. by_part (told_cut whole handed_out e.sink.failed on_e cut) (wrote.not_all_out refl);
      }) (All-nil (TapesRing contents writes_out request.size whole writer left)))
