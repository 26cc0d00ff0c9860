-- Texts that grow by lines.
use Rattle.std.proofs.Common.{◌≡◌, ◌≢◌, ℕ, zero, suc, ◌+◌, ◌<◌, ◌++◌, List, [], ◌∷◌, Result, Ok, Err, add-one, drop, drop-cons, get_or, length, take, refl, sym, ap, subst, ◌∙◌, append_assoc}
use Rattle.std.proofs.lemmas.List.{flat_map_more, take_more}
use Rattle.std.specs.List.{flat_map}
use Rattle.std.specs.Prelude.{OnOk, codes, if◌then◌else◌}
use Rattle.std.proofs.Math.Dec.{eqb-suc-zero}
use Rattle.std.specs.Fmt.{decimal}
use Rattle.rb_history.specs.declared.answers.Counts.{Counts}
use Rattle.rb_history.specs.declared.tally.Tally.{Tally}
use Rattle.rb_io.specs.Lines.{line}
use Rattle.rb_workers.specs.declared.opened.Ended.{Ended}
use Rattle.rb_run_commands.specs.ReportLines.{closing_lines, closing_objects, closing_objects_from, counts_line, records_line, tally_line, unlogged_text}

-- the text of a seat's line, from its pieces
tally_pieces : (worker made refused submitted discarded : List ℕ)
    → codes "worker " ++ (worker ++ (codes " made " ++ (made ++ (codes " refused " ++ (refused ++ (codes " submitted " ++ (submitted ++ (codes " discarded " ++ (discarded ++ 10 ∷ [])))))))))
    ≡ line (codes "worker " ++ worker ++ codes " made " ++ made ++ codes " refused " ++ refused ++ codes " submitted " ++ submitted ++ codes " discarded " ++ discarded)
tally_pieces worker made refused submitted discarded = simp append_assoc refl

pub tally_written : {A B : Type 0} (answer : Result A B) (old new : List ℕ) (worker : ℕ) (t : Tally)
    → OnOk answer (new ≡ old ++ (codes "worker " ++ (decimal worker ++ (codes " made " ++ (decimal t.made ++ (codes " refused " ++ (decimal t.refused ++ (codes " submitted " ++ (decimal t.submitted ++ (codes " discarded " ++ (decimal t.discarded ++ 10 ∷ [])))))))))))
    → OnOk answer (new ≡ old ++ tally_line worker t)
tally_written (Ok a) old new worker t wrote = wrote ∙ ap (λ l. old ++ l) (tally_pieces (decimal worker) (decimal t.made) (decimal t.refused) (decimal t.submitted) (decimal t.discarded))
tally_written (Err e) old new worker t wrote = tt

-- the text of what happened to a ring's records, as it is composed
records_pieces : (consumed discarded waiting busy : List ℕ)
    → codes "consumed " ++ (consumed ++ (codes " discarded " ++ (discarded ++ (codes " waiting " ++ (waiting ++ (codes " busy " ++ (busy ++ 10 ∷ [])))))))
    ≡ line (codes "consumed " ++ consumed ++ codes " discarded " ++ discarded ++ codes " waiting " ++ waiting ++ codes " busy " ++ busy)
records_pieces consumed discarded waiting busy = simp append_assoc refl

pub records_written : {A B : Type 0} (answer : Result A B) (old new : List ℕ) (c : Counts)
    → OnOk answer (new ≡ old ++ (codes "consumed " ++ (decimal c.consumed ++ (codes " discarded " ++ (decimal c.discarded ++ (codes " waiting " ++ (decimal c.waiting ++ (codes " busy " ++ (decimal c.busy ++ 10 ∷ [])))))))))
    → OnOk answer (new ≡ old ++ records_line c)
records_written (Ok a) old new c wrote = wrote ∙ ap (λ l. old ++ l) (records_pieces (decimal c.consumed) (decimal c.discarded) (decimal c.waiting) (decimal c.busy))
records_written (Err e) old new c wrote = tt

-- the line of a ring's counts, as it is composed
counts_pieces : (old made rest : List ℕ) → (old ++ (codes "ring made " ++ (made ++ codes " "))) ++ rest ≡ old ++ (codes "ring made " ++ made ++ codes " " ++ rest)
counts_pieces old made rest = simp append_assoc refl

pub counts_written : {A B : Type 0} (answer : Result A B) (old begun new : List ℕ) (c : Counts)
    → begun ≡ old ++ (codes "ring made " ++ (decimal c.made ++ codes " "))
    → OnOk answer (new ≡ begun ++ records_line c)
    → OnOk answer (new ≡ old ++ counts_line c)
counts_written (Ok a) old begun new c first wrote = wrote ∙ (ap (λ l. l ++ records_line c) first ∙ counts_pieces old (decimal c.made) (records_line c))
counts_written (Err e) old begun new c first wrote = tt

-- the message on unlogged calls, from its pieces
unlogged_pieces : (unlogged : List ℕ) → codes "unlogged " ++ (unlogged ++ (codes " (reservations and outputs that found no room in the ring's chapter, no free hand or no memory)" ++ 10 ∷ []))
    ≡ line (codes "unlogged " ++ unlogged ++ codes " (reservations and outputs that found no room in the ring's chapter, no free hand or no memory)")
unlogged_pieces unlogged = simp append_assoc refl

some_unlogged : (n : ℕ) → unlogged_text (suc n) ≡ line (codes "unlogged " ++ decimal (suc n) ++ codes " (reservations and outputs that found no room in the ring's chapter, no free hand or no memory)")
some_unlogged n =
    let told = line (codes "unlogged " ++ decimal (suc n) ++ codes " (reservations and outputs that found no room in the ring's chapter, no free hand or no memory)") in
    subst (λ b. (if b then [] else told) ≡ told) (sym (eqb-suc-zero n)) refl

pub unlogged_written : (old new : List ℕ) (unlogged : ℕ) → unlogged ≢ 0 → old ≡ []
    → new ≡ old ++ (codes "unlogged " ++ (decimal unlogged ++ (codes " (reservations and outputs that found no room in the ring's chapter, no free hand or no memory)" ++ 10 ∷ []))) → new ≡ unlogged_text unlogged
unlogged_written old new zero some none wrote = absurd (some refl)
unlogged_written old new (suc n) some none wrote =
    wrote
    ∙ (ap (λ l. l ++ (codes "unlogged " ++ (decimal (suc n) ++ (codes " (reservations and outputs that found no room in the ring's chapter, no free hand or no memory)" ++ 10 ∷ [])))) none
    ∙ (unlogged_pieces (decimal (suc n)) ∙ sym (some_unlogged n)))

-- the lines of one more ring
pub closing_written : {S : Type 0} (old new : List ℕ) (rings : List (Ended S)) (i : ℕ) (ended : Ended S) → i < length rings → ended ≡ get_or rings i ended → old ≡ flat_map closing_lines (take i rings) → new ≡ old ++ closing_lines ended
    → new ≡ flat_map closing_lines (take (i + 1) rings)
closing_written old new rings i ended below is before wrote =
    wrote
    ∙ (ap (λ t. t ++ closing_lines ended) before
    ∙ (flat_map_more closing_lines [] (take i rings) ended
    ∙ ap (flat_map closing_lines) (ap (λ e. take i rings ++ e ∷ []) is ∙ sym (take_more rings i ended below))))

-- the objects of one more ring
pub rings_more : {S : Type 0} (rings : List (Ended S)) (i : ℕ) (ended : Ended S) (lines new whole : List ℕ) → i < length rings → ended ≡ get_or rings i ended → lines ++ closing_objects_from i (drop i rings) ≡ whole
    → new ≡ lines ++ closing_objects i ended → new ++ closing_objects_from (i + 1) (drop (i + 1) rings) ≡ whole
rings_more rings i ended lines new whole below is so_far wrote =
    let next : drop i rings ≡ ended ∷ drop (i + 1) rings = rw add-one (drop-cons rings i ended below ∙ ap (λ e. e ∷ drop (suc i) rings) (sym is)) in
    ap (λ l. l ++ closing_objects_from (i + 1) (drop (i + 1) rings)) wrote
    ∙ (append_assoc lines (closing_objects i ended) (closing_objects_from (i + 1) (drop (i + 1) rings))
    ∙ (ap (λ rs. lines ++ closing_objects_from i rs) (sym next) ∙ so_far))

-- three fields in sequence
three_pieces : (old a x b y d z : List ℕ) → old ++ a ++ x ++ b ++ y ++ d ++ z ≡ old ++ (a ++ x ++ b ++ y ++ d ++ z)
three_pieces old a x b y d z = simp append_assoc refl

pub three_fields : {A B : Type 0} (answer : Result A B) (old one two new a x b y d z : List ℕ) → one ≡ old ++ a ++ x → two ≡ one ++ b ++ y → OnOk answer (new ≡ two ++ d ++ z)
    → OnOk answer (new ≡ old ++ (a ++ x ++ b ++ y ++ d ++ z))
three_fields (Ok r) old one two new a x b y d z first second third =
    third ∙ (ap (λ l. l ++ d ++ z) (second ∙ ap (λ l. l ++ b ++ y) first) ∙ three_pieces old a x b y d z)
three_fields (Err r) old one two new a x b y d z first second third = tt
