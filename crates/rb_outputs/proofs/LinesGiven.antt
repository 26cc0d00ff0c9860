-- What an output of lines wrote for its records.
use Rattle.std.proofs.Common.{◌≡◌, ℕ, ◌<◌, Bool, true, false, List, [], ◌∷◌, ◌++◌, length, take, drop, Option, refl, sym, ap, ◌∙◌, subst, arith, append_assoc, append-nil, take-append-drop}
use Rattle.std.specs.Prelude.{◌≢◌, Result, Ok, Err, OnErr, OnOk, is_err}
use Rattle.std.proofs.lemmas.Bool.{true≢false}
use Rattle.std.proofs.lemmas.Grind.{flat_map-append}
use Rattle.std.proofs.lemmas.List.{length-drop}
use Rattle.std.specs.Io.KnownBytes.{Appends, Keeps}
use Rattle.std.proofs.KnownBytes.{Appends-nil, Appends-trans, Appends-kept}
use Rattle.rb_history.specs.TapeBytes.{Item}
use Rattle.rb_io.specs.declared.device.DeviceFault.{DeviceFault}
use Rattle.rb_json.specs.declared.form.LineForm.TheVariants.{Json}
use Rattle.rb_tape_commands.specs.TapeText.{tape_line_as, tape_lines, tape_object}
use Rattle.rb_tape.specs.Items.{item_of, item_taken}
use Rattle.rb_tape.specs.declared.item.Item.{Item as Lent}
use Rattle.rb_workers.specs.Sink.{SinkItem, TakesAll}
use Rattle.rb_workers.specs.Sink.SinkItem.{Record}
use Rattle.rb_run_commands.specs.TapedRun.{sink_tape_items}
use Rattle.rb_run_commands.proofs.TapeGiven.{first_of, lent_is}
use Rattle.rb_outputs.specs.Lines.{SinkLines, WritesLines, lines_take}
use Rattle.rb_outputs.specs.inner.LineWriting.{WritesLine}

front_empty : (xs ys : List ℕ) → xs ++ ys ≡ [] → xs ≡ []
front_empty [] ys e = refl
front_empty (x ∷ xs) ys e = absurd (let l = ap length e in omega (arith, l))

lines_append : (is js : List Item) → tape_lines Json (is ++ js) ≡ tape_lines Json is ++ tape_lines Json js
lines_append is js = flat_map-append (tape_line_as Json) is js

one_line : (item : Item) → tape_lines Json (item ∷ []) ≡ tape_object item
one_line item = append-nil (tape_object item)

-- a write failed before the end of a line
pub cut_line : (before after : Option (List ℕ)) (line : List ℕ) (sent : ℕ) (fault : DeviceFault) → Appends before after (take sent line) → sent < length line → WritesLine before after line (Err fault)
cut_line before after line sent fault wrote short = record {
  out = take sent line;
  missing = drop sent line;
  wrote = wrote;
  beginning = take-append-drop sent line;
  all_out = tt;
  not_all_out = λ none. absurd (let n = length-drop sent line in let z = ap length none in omega (arith, n, z, short));
}

abbrev Answer : Type 0
Answer = Result (Unit {0}) DeviceFault

-- lines, from their fields
abbrev sink_lines : {W : Type 0} → W → ℕ → Bool → Bool → SinkLines W
sink_lines writer position failed stalled = record { writer = writer; position = position; failed = failed; stalled = stalled }

module _ {W : Type 0} (contents : W → Option (List ℕ)) where
  -- ---- one item

  nothing_yet : (sink : SinkLines W) → WritesLines contents sink [] sink
  nothing_yet sink = record {
    out = [];
    missing = [];
    wrote = Appends-nil (contents sink.writer);
    nothing = λ ended. (refl, ended);
    beginning = λ _. refl;
    all_out = λ _. refl;
    not_all_out = λ sound ended. absurd (true≢false (sym ended ∙ sound));
  }

  -- the writer flushed, and no line was written
  pub only_flushed : (old new : SinkLines W) → Keeps (contents old.writer) (contents new.writer) → new.failed ≡ old.failed → WritesLines contents old [] new
  only_flushed old new kept failed = record {
    out = [];
    missing = [];
    wrote = Appends-kept (contents old.writer) (contents old.writer) (contents new.writer) [] (Appends-nil (contents old.writer)) kept;
    nothing = λ ended. (refl, failed ∙ ended);
    beginning = λ _. refl;
    all_out = λ _. refl;
    not_all_out = λ sound ended. absurd (true≢false (sym ended ∙ (failed ∙ sound)));
  }

  module _ (writer : W) (before after : ℕ) (stalled : Bool) (item : Item) where
    -- the lines had ended
    gives_up : (ended : Bool) → ended ≡ true → WritesLines contents (sink_lines writer before ended stalled) (item ∷ []) (sink_lines writer after ended stalled)
    gives_up ended is = record {
      out = [];
      missing = [];
      wrote = Appends-nil (contents writer);
      nothing = λ _. (refl, is);
      beginning = λ sound. absurd (true≢false (sym is ∙ sound));
      all_out = λ _. refl;
      not_all_out = λ sound _. absurd (true≢false (sym is ∙ sound));
    }

    -- the record's line is written, or some of it
    writes_line : (later : W) (ended failed : Bool) (answer : Answer) → ended ≡ false → failed ≡ is_err answer
        → WritesLine (contents writer) (contents later) (tape_object item) answer → WritesLines contents (sink_lines writer before ended stalled) (item ∷ []) (sink_lines later after failed stalled)
    writes_line later ended failed answer sound is line = record {
      out = line.out;
      missing = line.missing;
      wrote = line.wrote;
      nothing = λ before_that. absurd (true≢false (sym before_that ∙ sound));
      beginning = λ _. line.beginning ∙ sym (one_line item);
      all_out = λ whole. at_ok answer is line.all_out whole;
      not_all_out = λ _ broken. at_error answer is line.not_all_out broken;
    }
      where
        at_ok : (r : Answer) → failed ≡ is_err r → OnOk r (line.missing ≡ []) → failed ≡ false → line.missing ≡ []
        at_ok (Ok _) f all whole = all
        at_ok (Err _) f all whole = absurd (true≢false (sym f ∙ whole))

        at_error : (r : Answer) → failed ≡ is_err r → OnErr r (line.missing ≢ []) → failed ≡ true → line.missing ≢ []
        at_error (Ok _) f part broken = absurd (true≢false (sym broken ∙ f))
        at_error (Err _) f part broken = part

  -- ---- one record that a sink was given

  took : (writes_out : W → Bool → W → Type 0) (item : Lent) (before old new : SinkLines W) → before ≡ old → WritesLines contents before (item_of item ∷ []) new → lines_take contents writes_out old (Record (item_taken item)) new
  took writes_out item before old new is wrote = (subst (λ items. WritesLines contents old items new) (sym (lent_is item)) (subst (λ s. WritesLines contents s (item_of item ∷ []) new) is wrote), tt)

  -- the lines had ended
  pub took_nothing : (writes_out : W → Bool → W → Type 0) (old : SinkLines W) (item : Lent) (writer : W) (before after : ℕ) (ended stalled : Bool) → sink_lines writer before ended stalled ≡ old → ended ≡ true
      → lines_take contents writes_out old (Record (item_taken item)) (sink_lines writer after ended stalled)
  took_nothing writes_out old item writer before after ended stalled view is = took writes_out item _ old _ view (gives_up writer before after stalled (item_of item) ended is)

  -- the record's line was written, or some of it
  pub took_line : (writes_out : W → Bool → W → Type 0) (old : SinkLines W) (item : Lent) (writer later : W) (before after : ℕ) (ended failed stalled : Bool) (answer : Answer) → sink_lines writer before ended stalled ≡ old → ended ≡ false
      → failed ≡ is_err answer → WritesLine (contents writer) (contents later) (tape_object (item_of item)) answer → lines_take contents writes_out old (Record (item_taken item)) (sink_lines later after failed stalled)
  took_line writes_out old item writer later before after ended failed stalled answer view sound is line =
      took writes_out item _ old _ view (writes_line writer before after stalled (item_of item) later ended failed answer sound is line)

  -- ---- items in sequence

  goes_on : (a b c : SinkLines W) (is js : List Item) → WritesLines contents a is b → WritesLines contents b js c → WritesLines contents a (is ++ js) c
  goes_on a b c is js one two = by b.failed refl
    where
      wrote : Appends (contents a.writer) (contents c.writer) (one.out ++ two.out)
      wrote = Appends-trans (contents a.writer) (contents b.writer) (contents c.writer) one.out two.out one.wrote two.wrote

      by : (ended : Bool) → b.failed ≡ ended → WritesLines contents a (is ++ js) c
      by false sound = record {
        out = one.out ++ two.out;
        missing = two.missing;
        wrote = wrote;
        nothing = λ ended. absurd (true≢false (sym (one.nothing ended).1 ∙ sound));
        beginning = λ before.
            append_assoc one.out two.out two.missing
            ∙ (ap (λ l. one.out ++ l) (two.beginning sound)
            ∙ (ap (λ l. l ++ tape_lines Json js) (sym (append-nil one.out) ∙ (ap (λ l. one.out ++ l) (sym (one.all_out sound)) ∙ one.beginning before)) ∙ sym (lines_append is js)));
        all_out = two.all_out;
        not_all_out = λ _ ended. two.not_all_out sound ended;
      }
      by true ended =
          let silent = two.nothing ended in
          let same : one.out ++ two.out ≡ one.out = ap (λ l. one.out ++ l) silent.0 ∙ append-nil one.out in
          record {
            out = one.out ++ two.out;
            missing = one.missing ++ tape_lines Json js;
            wrote = wrote;
            nothing = λ before. (same ∙ (one.nothing before).0, silent.1);
            beginning = λ before.
                ap (λ l. l ++ (one.missing ++ tape_lines Json js)) same
                ∙ (sym (append_assoc one.out one.missing (tape_lines Json js)) ∙ (ap (λ l. l ++ tape_lines Json js) (one.beginning before) ∙ sym (lines_append is js)));
            all_out = λ whole. absurd (true≢false (sym silent.1 ∙ whole));
            not_all_out = λ before _ none. one.not_all_out before ended (front_empty one.missing (tape_lines Json js) none);
          }

  -- what an output of lines received, item by item; `wrap` makes the output of its lines
  module _ {O : Type 0} (takes : O → SinkItem → O → Type 0) (wrap : SinkLines W → O) where
    abbrev pub HoldsLines : SinkLines W → List Item → O → Type 0
    HoldsLines old items new = (lines : SinkLines W) × (new ≡ wrap lines) × WritesLines contents old items lines

    pub all_lines : ((old : SinkLines W) (item : SinkItem) (mid : O) → takes (wrap old) item mid → HoldsLines old (sink_tape_items (item ∷ [])) mid)
        → (items : List SinkItem) (old : SinkLines W) (new : O) → TakesAll takes (wrap old) items new → HoldsLines old (sink_tape_items items) new
    all_lines one [] old new same = (old, same, nothing_yet old)
    all_lines one (item ∷ items) old new given =
        let first = one old item given.0 given.1 in
        let more = all_lines one items first.0 new (subst (λ (o : O). TakesAll takes o items new) first.1 given.2) in (
          more.0,
          more.1,
          subst (λ l. WritesLines contents old l more.0) (sym (first_of item items)) (goes_on old first.0 more.0 (sink_tape_items (item ∷ [])) (sink_tape_items items) first.2 more.2),
        )
