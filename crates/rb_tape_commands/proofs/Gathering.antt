-- The lines collected for some records.
use Rattle.std.proofs.Common.{◌≡◌, ℕ, List, [], ◌∷◌, ◌++◌, Ok, refl, sym, ap, ◌∙◌, subst, append-nil, true≢false}
use Rattle.std.proofs.lemmas.Grind.{flat_map-append}
use Rattle.std.specs.Prelude.{Bool, true, false, None}
use Rattle.rb_history.specs.TapeBytes.{Item}
use Rattle.rb_tape.specs.TapeReading.{Reading, PassesItem}
use Rattle.rb_tape_commands.specs.TapeText.{tape_line_as, tape_lines}
use Rattle.rb_tape_commands.specs.inner.LineGathering.{PassesItems, ReadsLines, GathersNext}
use Rattle.rb_json.specs.declared.form.LineForm.{LineForm}

module _ (form : LineForm) where
  passes_more : (old mid new : Reading) (items : List Item) (item : Item) → PassesItems old items mid → PassesItem mid item new → PassesItems old (items ++ item ∷ []) new
  passes_more old mid new [] item same passes = (new, subst (λ (r : Reading). PassesItem r item new) same passes, refl)
  passes_more old mid new (first ∷ items) item all passes = (all.0, all.1, passes_more all.0 mid new items item all.2 passes)

  module _ (old mid new : Reading) (before after : List ℕ) (reads : ReadsLines form old mid before) where
    one_more : (item : Item) → PassesItem mid item new → after ≡ before ++ (tape_line_as form) item → ReadsLines form old new after
    one_more item passes added = record {
      items = reads.items ++ item ∷ [];
      passes = passes_more old mid new reads.items item reads.passes passes;
      text = added ∙ ap (λ l. l ++ (tape_line_as form) item) reads.text ∙ sym (flat_map-append (tape_line_as form) reads.items (item ∷ []) ∙ ap (λ l. tape_lines form reads.items ++ l) (append-nil ((tape_line_as form) item)));
    }

    -- there was one more record
    pub gathers_on : (more : Bool) → GathersNext form mid new before after (Ok more) → more ≡ true → ReadsLines form old new after
    gathers_on true g is = one_more g.0 g.1 g.2
    gathers_on false g is = absurd (true≢false (sym is))

  -- then no fault was reported
  pub has_no_fault : (mid new : Reading) (before after : List ℕ) (more : Bool) → GathersNext form mid new before after (Ok more) → more ≡ true → new.told ≡ None
  has_no_fault mid new before after true g is = g.1.told
  has_no_fault mid new before after false g is = absurd (true≢false (sym is))
