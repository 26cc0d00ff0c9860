-- The text of an event's line.
use Rattle.std.proofs.Common.{◌≡◌, ℕ, ◌++◌, List, Result, Ok, Err, length, refl, sym, ap, ◌∙◌, append_assoc}
use Rattle.std.specs.Prelude.{OnOk, codes}
use Rattle.std.specs.Fmt.{decimal}
use Rattle.rb_history.specs.declared.answers.Taken.{Taken}
use Rattle.rb_history.specs.declared.answers.Taken.TheVariants.{Event}
use Rattle.rb_io.specs.Lines.{hex_text, line}
use Rattle.rb_run_commands.specs.Printed.{record_line}

-- the text of an event's line, from its pieces
pieces : (ring pos worker serial len : List ℕ) (hex : List ℕ)
    → codes "ring " ++ (ring ++ (codes " pos " ++ (pos ++ (codes " worker " ++ (worker ++ (codes " serial " ++ (serial ++ (codes " len " ++ (len ++ (codes " " ++ hex))))))))))
    ≡ codes "ring " ++ ring ++ codes " pos " ++ pos ++ codes " worker " ++ worker ++ codes " serial " ++ serial ++ codes " len " ++ len ++ codes " " ++ hex
pieces ring pos worker serial len hex = simp append_assoc refl

-- the line of an event was written, from the hex of its bytes and their number
pub event_written : {A B : Type 0} (answer : Result A B) (old new hex bytes : List ℕ) (ring pos worker serial len : ℕ) (taken : Taken)
    → taken ≡ Event pos worker serial bytes → hex ≡ hex_text bytes → len ≡ length bytes
    → OnOk answer (new ≡ old ++ line (codes "ring " ++ (decimal ring ++ (codes " pos " ++ (decimal pos ++ (codes " worker " ++ (decimal worker ++ (codes " serial " ++ (decimal serial ++ (codes " len " ++ (decimal len ++ (codes " " ++ hex))))))))))))
    → OnOk answer (new ≡ old ++ record_line ring taken)
event_written (Ok a) old new hex bytes ring pos worker serial len taken is shows counts wrote =
    rw is (rw (sym shows, sym counts) (wrote ∙ ap (λ t. old ++ line t) (pieces (decimal ring) (decimal pos) (decimal worker) (decimal serial) (decimal len) hex)))
event_written (Err e) old new hex bytes ring pos worker serial len taken is shows counts wrote = tt
