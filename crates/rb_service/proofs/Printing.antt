-- Texts to which lines of counters are appended.
use Rattle.std.proofs.Common.{◌≡◌, ℕ, zero, suc, ◌+◌, ◌<◌, ◌++◌, Bor, List, [], ◌∷◌, Result, Ok, Err, add-one, drop, drop-cons, get_or, length, map, refl, sym, ap, subst, ◌∙◌, append_assoc, arith}
use Rattle.std.proofs.lemmas.List.{length-map}
use Rattle.std.proofs.Math.Dec.{eqb-suc-zero}
use Rattle.std.specs.Prelude.{OnOk, codes, if◌then◌else◌, is_ok}
use Rattle.std.specs.Fmt.{decimal}
use Rattle.rb_history.specs.declared.answers.Counts.{Counts}
use Rattle.rb_chapter_ring.specs.OpenedRing.{told_counts}
use Rattle.rb_io.specs.Lines.{line}
use Rattle.rb_source.specs.declared.counts.ContextCounts.{ContextCounts}
use Rattle.rb_stream.specs.declared.report.StreamReport.{StreamReport}
use Rattle.rb_stream_worker.specs.declared.result_counts.ResultCounts.{ResultCounts}
use Rattle.rb_workers.specs.declared.opened.Ended.{Ended}
use Rattle.rb_run_commands.specs.ReportLines.{records_line}
use Rattle.rb_service.specs.PrintedStream.{names_of_rings}
use Rattle.rb_service.specs.declared.options.StreamOptions.{StreamOptions}
use Rattle.rb_service.specs.Counters.{contexts_line, counters, other_line, program_lines, programs_lines_from, requests_part, result_line, result_lines_from, ring_line, rings_lines}

-- the text of the line of the contexts, as it is composed
contexts_pieces : (read run dropped skipped cut : List ℕ)
    → codes "contexts read " ++ (read ++ (codes " run " ++ (run ++ (codes " dropped " ++ (dropped ++ (codes " skipped " ++ (skipped ++ (codes " cut " ++ (cut ++ 10 ∷ [])))))))))
    ≡ line (codes "contexts read " ++ read ++ codes " run " ++ run ++ codes " dropped " ++ dropped ++ codes " skipped " ++ skipped ++ codes " cut " ++ cut)
contexts_pieces read run dropped skipped cut = simp append_assoc refl

pub contexts_written : {A B : Type 0} (answer : Result A B) (old new : List ℕ) (read run dropped : ℕ) (c : ContextCounts)
    → OnOk answer (new ≡ old ++ (codes "contexts read " ++ (decimal read ++ (codes " run " ++ (decimal run ++ (codes " dropped " ++ (decimal dropped ++ (codes " skipped " ++ (decimal c.skipped ++ (codes " cut " ++ (decimal c.cut ++ 10 ∷ [])))))))))))
    → OnOk answer (new ≡ old ++ contexts_line read run dropped c)
contexts_written (Ok a) old new read run dropped c wrote = wrote ∙ ap (λ l. old ++ l) (contexts_pieces (decimal read) (decimal run) (decimal dropped) (decimal c.skipped) (decimal c.cut))
contexts_written (Err e) old new read run dropped c wrote = tt

-- the text of a result's line, as it is composed
result_pieces : (program value runs : List ℕ) → codes "program " ++ (program ++ (codes " result " ++ (value ++ (codes " runs " ++ (runs ++ 10 ∷ [])))))
    ≡ line (codes "program " ++ program ++ codes " result " ++ value ++ codes " runs " ++ runs)
result_pieces program value runs = simp append_assoc refl

some_result : (program value n : ℕ) → result_line program value (suc n) ≡ line (codes "program " ++ decimal program ++ codes " result " ++ decimal value ++ codes " runs " ++ decimal (suc n))
some_result program value n =
    let told = line (codes "program " ++ decimal program ++ codes " result " ++ decimal value ++ codes " runs " ++ decimal (suc n)) in
    subst (λ b. (if b then [] else told) ≡ told) (sym (eqb-suc-zero n)) refl

pub result_written : {A B : Type 0} (answer : Result A B) (old new : List ℕ) (program value runs : ℕ) → ¬ (runs ≡ 0)
    → OnOk answer (new ≡ old ++ (codes "program " ++ (decimal program ++ (codes " result " ++ (decimal value ++ (codes " runs " ++ (decimal runs ++ 10 ∷ [])))))))
    → OnOk answer (new ≡ old ++ result_line program value runs)
result_written (Ok a) old new program value zero some wrote = absurd (some refl)
result_written (Ok a) old new program value (suc n) some wrote =
    wrote ∙ ap (λ l. old ++ l) (result_pieces (decimal program) (decimal value) (decimal (suc n)) ∙ sym (some_result program value n))
result_written (Err e) old new program value runs some wrote = tt

-- the text of the line of a program's other results, as it is composed
other_pieces : (program runs : List ℕ) → codes "program " ++ (program ++ (codes " other runs " ++ (runs ++ 10 ∷ [])))
    ≡ line (codes "program " ++ program ++ codes " other runs " ++ runs)
other_pieces program runs = simp append_assoc refl

some_other : (program n : ℕ) → other_line program (suc n) ≡ line (codes "program " ++ decimal program ++ codes " other runs " ++ decimal (suc n))
some_other program n =
    let told = line (codes "program " ++ decimal program ++ codes " other runs " ++ decimal (suc n)) in
    subst (λ b. (if b then [] else told) ≡ told) (sym (eqb-suc-zero n)) refl

pub other_written : {A B : Type 0} (answer : Result A B) (old new : List ℕ) (program runs : ℕ) → ¬ (runs ≡ 0)
    → OnOk answer (new ≡ old ++ (codes "program " ++ (decimal program ++ (codes " other runs " ++ (decimal runs ++ 10 ∷ [])))))
    → OnOk answer (new ≡ old ++ other_line program runs)
other_written (Ok a) old new program zero some wrote = absurd (some refl)
other_written (Ok a) old new program (suc n) some wrote =
    wrote ∙ ap (λ l. old ++ l) (other_pieces (decimal program) (decimal (suc n)) ∙ sym (some_other program n))
other_written (Err e) old new program runs some wrote = tt

-- the text of a ring's requests, as it is composed
requests_pieces : (made refused : List ℕ) → codes " made " ++ (made ++ (codes " refused " ++ (refused ++ codes " "))) ≡ codes " made " ++ made ++ codes " refused " ++ refused ++ codes " "
requests_pieces made refused = simp append_assoc refl

pub requests_written : {A B : Type 0} (answer : Result A B) (old new : List ℕ) (c : Counts)
    → OnOk answer (new ≡ old ++ (codes " made " ++ (decimal c.made ++ (codes " refused " ++ (decimal c.refused ++ codes " ")))))
    → OnOk answer (new ≡ old ++ requests_part c)
requests_written (Ok a) old new c wrote = wrote ∙ ap (λ l. old ++ l) (requests_pieces (decimal c.made) (decimal c.refused))
requests_written (Err e) old new c wrote = tt

-- the text of a ring, as it is composed
ring_pieces : (old a name b d : List ℕ) → old ++ a ++ name ++ b ++ d ≡ old ++ (a ++ name ++ b ++ d)
ring_pieces old a name b d = simp append_assoc refl

pub ring_written : {A B : Type 0} (answer : Result A B) (old one two three new name : List ℕ) (c : Counts) → one ≡ old ++ codes "ring " → two ≡ one ++ name → three ≡ two ++ requests_part c
    → OnOk answer (new ≡ three ++ records_line c) → OnOk answer (new ≡ old ++ ring_line name c)
ring_written (Ok a) old one two three new name c first second third fourth =
    fourth ∙ (ap (λ l. l ++ records_line c) (third ∙ ap (λ l. l ++ requests_part c) (second ∙ ap (λ l. l ++ name) first)) ∙ ring_pieces old (codes "ring ") name (requests_part c) (records_line c))
ring_written (Err e) old one two three new name c first second third fourth = tt

-- the rest of a list begins with the element at this index
next_is : {A : Type 0} (xs : List A) (i : ℕ) (x : A) → i < length xs → x ≡ get_or xs i x → drop i xs ≡ x ∷ drop (i + 1) xs
next_is xs i x below is = rw add-one (drop-cons xs i x below ∙ ap (λ e. e ∷ drop (suc i) xs) (sym is))

-- one more of the remaining lines
line_more : (lines this rest new whole left : List ℕ) → left ≡ this ++ rest → lines ++ left ≡ whole → new ≡ lines ++ this → new ++ rest ≡ whole
line_more lines this rest new whole left left_is so_far wrote =
    ap (λ l. l ++ rest) wrote ∙ (append_assoc lines this rest ∙ (ap (λ l. lines ++ l) (sym left_is) ∙ so_far))

-- the lines of one more program
pub programs_more : (results : List ResultCounts) (i : ℕ) (counts : ResultCounts) (lines new whole : List ℕ) → i < length results → counts ≡ get_or results i counts
    → lines ++ programs_lines_from i (drop i results) ≡ whole → new ≡ lines ++ program_lines i counts → new ++ programs_lines_from (i + 1) (drop (i + 1) results) ≡ whole
programs_more results i counts lines new whole below is so_far wrote =
    line_more lines (program_lines i counts) (programs_lines_from (i + 1) (drop (i + 1) results)) new whole (programs_lines_from i (drop i results))
    (ap (programs_lines_from i) (next_is results i counts below is)) so_far wrote

-- the line of one more result
pub results_more : (program : ℕ) (below : List ℕ) (i runs : ℕ) (lines new whole : List ℕ) → i < length below → runs ≡ get_or below i runs
    → lines ++ result_lines_from program i (drop i below) ≡ whole → new ≡ lines ++ result_line program i runs → new ++ result_lines_from program (i + 1) (drop (i + 1) below) ≡ whole
results_more program below i runs lines new whole within is so_far wrote =
    line_more lines (result_line program i runs) (result_lines_from program (i + 1) (drop (i + 1) below)) new whole (result_lines_from program i (drop i below))
    (ap (result_lines_from program i) (next_is below i runs within is)) so_far wrote

-- the line of one more ring
pub rings_more : {S : Type 0} (names : List (List ℕ)) (rings : List (Ended S)) (i : ℕ) (name : List ℕ) (ended : Ended S) (lines new whole : List ℕ)
    → i < length names → i < length rings → name ≡ get_or names i name → ended ≡ get_or rings i ended
    → lines ++ rings_lines (drop i names) (drop i rings) ≡ whole → new ≡ lines ++ ring_line name (told_counts ended.closing.at_end) → new ++ rings_lines (drop (i + 1) names) (drop (i + 1) rings) ≡ whole
rings_more names rings i name ended lines new whole within below name_is is so_far wrote =
    line_more lines (ring_line name (told_counts ended.closing.at_end)) (rings_lines (drop (i + 1) names) (drop (i + 1) rings)) new whole (rings_lines (drop i names) (drop i rings))
    (ap (λ n. rings_lines n (drop i rings)) (next_is names i name within name_is) ∙ ap (rings_lines (name ∷ drop (i + 1) names)) (next_is rings i ended below is)) so_far wrote

-- ---- all counters

-- the counters were appended, with these names
pub counters_appended : {S A B : Type 0} (answer : Result A B) (old new text : List ℕ) (report : StreamReport S) (counts : ContextCounts) (passed made : List (Bor (List ℕ))) (options : StreamOptions)
    → new ≡ (if is_ok answer then old ++ text else old) → text ≡ counters report counts (map (λ n. n.now) passed) → passed ≡ made → map (λ n. n.now) made ≡ names_of_rings options
    → OnOk answer (new ≡ old ++ counters report counts (names_of_rings options))
counters_appended (Ok a) old new text report counts passed made options grown text_is same are = grown ∙ ap (λ l. old ++ l) (text_is ∙ ap (counters report counts) (ap (map (λ n. n.now)) same ∙ are))
counters_appended (Err e) old new text report counts passed made options grown text_is same are = tt

-- there is a name for each ring
pub names_length : (passed made : List (Bor (List ℕ))) (options : StreamOptions) → passed ≡ made → map (λ n. n.now) made ≡ names_of_rings options → length passed ≡ length options.rings.items
names_length passed made options same are = ap length same ∙ (sym (length-map made (λ n. n.now)) ∙ (ap length are ∙ length-map options.rings.items (λ r. r.name.now)))

-- what was appended stays appended, also if the next call succeeds
pub appended_on_ok : {A B : Type 0} (answer : Result A B) (old new more : List ℕ) → new ≡ old ++ more → OnOk answer (new ≡ old ++ more)
appended_on_ok (Ok a) old new more grown = grown
appended_on_ok (Err e) old new more grown = tt
