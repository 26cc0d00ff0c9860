-- The tapes of what a run left, record by record and ring by ring.
use Rattle.std.proofs.Common.{◌≡◌, ℕ, zero, suc, ◌+◌, ◌-◌, ◌<◌, List, [], ◌∷◌, ◌++◌, length, take, get_or, sym, ap, subst, ◌∙◌, append_assoc, length-append, below_more, arith}
use Rattle.std.proofs.lemmas.Grind.{flat_map-append}
use Rattle.std.proofs.lemmas.List.{take_more}
use Rattle.rb_explain.specs.Joined.{joined_below}
use Rattle.rb_history.specs.Span.{span}
use Rattle.rb_history.specs.TapeBytes.{AreItemsFrom, tape}
use Rattle.rb_history.proofs.HeaderLaws.{tape-append}
use Rattle.rb_history.specs.declared.answers.Taken.{Taken}
use Rattle.rb_history.specs.declared.answers.Taken.TheVariants as answers
use Rattle.rb_world.specs.WorldValue.{WorldValue, world_of}
use Rattle.rb_world.specs.TakenTapes.{taken_item, taken_items}
use Rattle.heskavo_c.specs.Runs.{IsDrained, LeavesTapes, items_left, lengths_below, tape_left}

-- the tape of the first records, extended by that of the next one
pub next_record : (size : ℕ) (records : List Taken) (i : ℕ) (taken : Taken) → taken ≡ get_or records i taken → i < length records → (before was now : List ℕ)
    → was ≡ before ++ tape size (taken_items (take i records)) → now ≡ was ++ tape size (taken_items (taken ∷ [])) → now ≡ before ++ tape size (taken_items (take (i + 1) records))
next_record size records i taken is inside before was now so_far added =
    let first : List Taken = take i records in
    let one_more : take (i + 1) records ≡ first ++ taken ∷ [] = take_more records i taken inside ∙ ap (λ t. first ++ t ∷ []) (sym is) in
    let text : tape size (taken_items (take (i + 1) records)) ≡ tape size (taken_items first) ++ tape size (taken_items (taken ∷ [])) =
    ap (λ r. tape size (taken_items r)) one_more ∙ ap (tape size) (flat_map-append taken_item first (taken ∷ [])) ∙ tape-append size (taken_items first) (taken_items (taken ∷ [])) in
    added ∙ ap (λ b. b ++ tape size (taken_items (taken ∷ []))) so_far ∙ append_assoc before (tape size (taken_items first)) (tape size (taken_items (taken ∷ []))) ∙ ap (λ t. before ++ t) (sym text)

-- a record of a list that forms a tape also forms a tape alone, from some position
pub one_stands : (size position : ℕ) (records : List Taken) (i : ℕ) (taken : Taken) → taken ≡ get_or records i taken → i < length records → AreItemsFrom size position (taken_items records)
    → (at : ℕ) × AreItemsFrom size at (taken_items (taken ∷ []))
one_stands size position records i taken is inside stand = subst (λ t. (at : ℕ) × AreItemsFrom size at (taken_items (t ∷ []))) (sym is) (at_place position records i inside stand)
  where
    at_place : (position : ℕ) (records : List Taken) (i : ℕ) → i < length records → AreItemsFrom size position (taken_items records) → (at : ℕ) × AreItemsFrom size at (taken_items (get_or records i taken ∷ []))
    at_place position [] i inside stand = absurd (omega (arith, inside))
    at_place position (answers.Event p w k bytes ∷ records) zero inside stand = (position, (stand.0, tt))
    at_place position (answers.Event p w k bytes ∷ records) (suc i) inside stand = at_place (position + span (length bytes)) records i (omega (arith, inside)) stand.1
    at_place position (answers.Skipped p n ∷ records) zero inside stand = (position, (stand.0, tt))
    at_place position (answers.Skipped p n ∷ records) (suc i) inside stand = at_place (position + span n) records i (omega (arith, inside)) stand.1
    at_place position (answers.BusyFront ∷ records) zero inside stand = (0, tt)
    at_place position (answers.BusyFront ∷ records) (suc i) inside stand = at_place position records i (omega (arith, inside)) stand
    at_place position (answers.Empty ∷ records) zero inside stand = (0, tt)
    at_place position (answers.Empty ∷ records) (suc i) inside stand = at_place position records i (omega (arith, inside)) stand

module _ (world : WorldValue) (size ring : ℕ) (was bytes old new : List ℕ) (taken : List Taken) (long : ℕ) where
  -- the tapes, extended by that of one more ring
  pub next_tape : LeavesTapes world size ring was old → taken ≡ ((world_of world).rings ring).taken → AreItemsFrom size 0 (items_left world ring) → bytes ≡ was ++ tape size (taken_items taken)
      → long ≡ length bytes - length was → new ≡ old ++ long ∷ [] → IsDrained world ring → LeavesTapes world size (ring + 1) bytes new
  next_tape left same stands added longer told drained =
      let text = tape size (taken_items taken) in
      let up : suc ring ≡ ring + 1 = omega arith in
      let is : text ≡ tape_left world size ring = ap (λ t. tape size (taken_items t)) same in
      let grown : length bytes ≡ length was + length text = ap length added ∙ length-append was text in
      let long_is : long ≡ length (tape_left world size ring) = let e : long ≡ length text = omega (arith, longer, grown) in e ∙ ap length is in
      let one_more : length new ≡ ring + 1 = ap length told ∙ length-append old (long ∷ []) ∙ ap (λ n. n + 1) left.length_for_each in
      record {
        tapes_are = added ∙ ap (λ b. b ++ text) left.tapes_are ∙ ap (λ t. joined_below (tape_left world size) ring ++ t) is ∙ ap (joined_below (tape_left world size)) up;
        lengths_are = told ∙ ap (λ ns. ns ++ long ∷ []) left.lengths_are ∙ ap (λ n. lengths_below (tape_left world size) ring ++ n ∷ []) long_is ∙ ap (lengths_below (tape_left world size)) up;
        length_for_each = one_more;
        follow = below_more (λ r. AreItemsFrom size 0 (items_left world r)) ring left.follow stands;
        drained = below_more (IsDrained world) ring left.drained drained;
      }
