-- The progress of the pass, from its start to its end.
use Rattle.std.proofs.Common.{◌≡◌, ◌⊎◌, inl, inr, ⊎_elim, ℕ, ◌+◌, ◌*◌, ◌^◌, ◌<◌, ◌≤◌, refl, sym, ◌∙◌, ap, subst, List, [], ◌∷◌, length, Some, None, arith}
use Rattle.std.specs.Prelude.{max, slice_index}
use Rattle.std.proofs.lemmas.Bool.{cases_lt}
use Rattle.std.proofs.lemmas.List.Sums.{sum_by-cons}
use Rattle.rb_insn.specs.declared.insn.Insn.{Insn}
use Rattle.rb_program.specs.Program.{unit_count, slot_at, IsLaidOut}
use Rattle.rb_program.specs.Edges.{Edge, Next, Target, edge_target, HasEdge, IsReached, start, by_edge}
use Rattle.rb_program.specs.Shape.{IsInstructionStart, IsWellShaped, EdgesLeadForward}
use Rattle.rb_program.proofs.ShapeLaws.{begins-lt, edges_forward}
use Rattle.rb_cost.specs.Paths.{IsPath, IsMost}
use Rattle.rb_cost.specs.inner.Pass.{total, Raises, ArrivesWith, SomePath, Progress}

-- a path leads to each unit that is reached
pub path_to : {program : List Insn} {unit : ℕ} → IsReached program unit → (path : List ℕ) × IsPath program (unit ∷ path)
path_to start = ([], refl)
path_to (by_edge {from} {to} along reached edge) =
    let before = path_to reached in
    (from ∷ before.0, ((along, edge), before.1))

-- the sum along a path, by its last unit and the path before it
pub total-cons : (weight : ℕ → ℕ) (unit : ℕ) (path : List ℕ) → total weight (unit ∷ path) ≡ weight unit + total weight path
total-cons weight unit path = sum_by-cons weight unit path

-- an edge leads to a unit of the program
pub leads_inside : (program : List Insn) → IsLaidOut program → IsWellShaped program → (unit : ℕ) (insn : Insn) → slot_at program unit ≡ Some insn → (along : Edge) (to : ℕ) → edge_target unit insn along ≡ Some to → to < unit_count program
leads_inside program laid_out shaped unit insn begins along to leads_to =
    let there : IsInstructionStart program to = (edges_forward program laid_out shaped unit along to (record { insn = insn; begins = begins; leads_to = leads_to })).1 in
    begins-lt program to there.0 there.1

module _ (program : List Insn) (weight : ℕ → ℕ) where
  -- an instruction begins at the last unit of a path
  pub last_begins : IsInstructionStart program 0 → EdgesLeadForward program → (unit : ℕ) (path : List ℕ) → IsPath program (unit ∷ path) → IsInstructionStart program unit
  last_begins first forward unit [] at = subst (IsInstructionStart program) (sym at) first
  last_begins first forward unit (from ∷ path) is = (forward from is.0.0 unit is.0.1).1

  pub progress_start : (before : List ℕ) → length before ≡ unit_count program → ((unit : ℕ) → slice_index before unit ≡ 0) → Progress program weight before 0 0
  progress_start before count zeros = record {
    count = count;
    above = λ from to along path lt edge is. absurd (omega arith);
    arrived = λ to. inl (zeros to);
    bounded = λ to. omega (arith, zeros to);
    passed = λ last path lt is. absurd (omega arith);
    found = inl refl;
  }

  module _ {before : List ℕ} {most unit : ℕ} (h : Progress program weight before most unit) where
    -- a unit at which no instruction begins is on no path
    pub passed_over : IsInstructionStart program 0 → EdgesLeadForward program → slot_at program unit ≡ None → Progress program weight before most (unit + 1)
    passed_over first forward none = record {
      count = h.count;
      above = λ from to along path lt edge is.
          ⊎_elim (λ earlier. h.above from to along path earlier edge is)
          (λ late. let here : from ≡ unit = omega arith in let both : None ≡ Some edge.insn = sym none ∙ (ap (slot_at program) (sym here) ∙ edge.begins) in cc)
          (cases_lt from unit);
      arrived = h.arrived;
      bounded = h.bounded;
      passed = λ last path lt is.
          ⊎_elim (λ earlier. h.passed last path earlier is)
          (λ late. let here : last ≡ unit = omega arith in let there : IsInstructionStart program last = last_begins first forward last path is in let both : None ≡ Some there.0 = sym none ∙ (ap (slot_at program) (sym here) ∙ there.1) in cc)
          (cases_lt last unit);
      found = h.found;
    }

    module _ (forward : EdgesLeadForward program) (insn : Insn) (begins : slot_at program unit ≡ Some insn) where
      -- no path to the unit has a greater sum
      above_here : (path : List ℕ) → IsPath program (unit ∷ path) → total weight (unit ∷ path) ≤ slice_index before unit + weight unit
      above_here [] at = let sums : total weight (unit ∷ []) ≡ weight unit + total weight [] = total-cons weight unit [] in omega arith
      above_here (from ∷ path) is =
          let earlier : from < unit = (forward from is.0.0 unit is.0.1).0 in
          let below : total weight (from ∷ path) ≤ slice_index before unit = h.above from unit is.0.0 path earlier is.0.1 is.1 in
          let sums : total weight (unit ∷ from ∷ path) ≡ weight unit + total weight (from ∷ path) = total-cons weight unit (from ∷ path) in
          omega arith

      -- and one path has this sum
      reached_here : IsReached program unit → (path : List ℕ) × IsPath program (unit ∷ path) × (total weight (unit ∷ path) ≡ slice_index before unit + weight unit)
      reached_here reached = ⊎_elim from_nothing from_earlier (h.arrived unit)
        where
          from_nothing : slice_index before unit ≡ 0 → (path : List ℕ) × IsPath program (unit ∷ path) × (total weight (unit ∷ path) ≡ slice_index before unit + weight unit)
          from_nothing none =
              let some : (path : List ℕ) × IsPath program (unit ∷ path) = path_to reached in
              let sums : total weight (unit ∷ some.0) ≡ weight unit + total weight some.0 = total-cons weight unit some.0 in
              let below : total weight (unit ∷ some.0) ≤ slice_index before unit + weight unit = above_here some.0 some.1 in
              (some.0, some.1, omega arith)

          from_earlier : ArrivesWith program weight unit (slice_index before unit) → (path : List ℕ) × IsPath program (unit ∷ path) × (total weight (unit ∷ path) ≡ slice_index before unit + weight unit)
          from_earlier a =
              let sums : total weight (unit ∷ a.from ∷ a.path) ≡ weight unit + total weight (a.from ∷ a.path) = total-cons weight unit (a.from ∷ a.path) in
              let comes_to = a.comes_to in
              (a.from ∷ a.path, ((a.along, a.edge), a.is_path), omega arith)

      module _ (reached : IsReached program unit) (light : weight unit ≤ 2 ^ 27) (n : ℕ) (is_total : n ≡ slice_index before unit + weight unit) where
        here_path : (path : List ℕ) × IsPath program (unit ∷ path) × (total weight (unit ∷ path) ≡ slice_index before unit + weight unit)
        here_path = reached_here reached

        -- the possible maximum at a unit: nothing, or the sum along some path, within the bound for this many units
        abbrev Noted : ℕ → ℕ → Type 0
        Noted to m = ((m ≡ 0) ⊎ ArrivesWith program weight to m) × (m ≤ to * 2 ^ 27)

        noted_here : (along : Edge) (to : ℕ) → edge_target unit insn along ≡ Some to → Noted to n
        noted_here along to leads_to =
            let edge : HasEdge program unit along to = record { insn = insn; begins = begins; leads_to = leads_to } in
            let later : unit < to = (forward unit along to edge).0 in
            let bounded : slice_index before unit ≤ unit * 2 ^ 27 = h.bounded unit in
            (inr (record { from = unit; along = along; path = here_path.0; edge = edge; is_path = here_path.1; comes_to = here_path.2 ∙ sym is_total }), omega arith)

        noted_after : (along : Edge) (old new : List ℕ) → Raises (edge_target unit insn along) n old new → ((to : ℕ) → Noted to (slice_index old to)) → (to : ℕ) → Noted to (slice_index new to)
        noted_after along old new r noted to =
            ⊎_elim
            (λ same. subst (Noted to) (sym same) (noted to))
            (λ raised. subst (Noted to) (sym raised.1) (noted_here along to raised.0))
            (r.exact to)

        -- one step of the pass
        pub advance : (between after : List ℕ) → Raises (edge_target unit insn Target) n before between → Raises (edge_target unit insn Next) n between after → Progress program weight after (max most n) (unit + 1)
        advance between after f g = record {
          count = g.count ∙ (f.count ∙ h.count);
          above = λ from to along path lt edge is.
              let first_kept : slice_index before to ≤ slice_index between to = f.kept to in
              let then_kept : slice_index between to ≤ slice_index after to = g.kept to in
              ⊎_elim
              (λ earlier. let below : total weight (from ∷ path) ≤ slice_index before to = h.above from to along path earlier edge is in omega arith)
              (λ late. let here : from ≡ unit = omega arith in
              let raised : n ≤ slice_index after to = raised_at along to (leads along to from here edge) in
              let below : total weight (from ∷ path) ≤ slice_index before unit + weight unit = subst (λ u. IsPath program (u ∷ path) → total weight (u ∷ path) ≤ slice_index before unit + weight unit) (sym here) (above_here path) is in
              omega arith)
              (cases_lt from unit);
          arrived = λ to. (noted to).0;
          bounded = λ to. (noted to).1;
          passed = λ last path lt is.
              ⊎_elim
              (λ earlier. let below : total weight (last ∷ path) ≤ most = h.passed last path earlier is in omega arith)
              (λ late. let here : last ≡ unit = omega arith in
              let below : total weight (last ∷ path) ≤ slice_index before unit + weight unit = subst (λ u. IsPath program (u ∷ path) → total weight (u ∷ path) ≤ slice_index before unit + weight unit) (sym here) (above_here path) is in
              omega arith)
              (cases_lt last unit);
          found = found_after (cases_lt most n);
        }
          where
            leads : (along : Edge) (to from : ℕ) → from ≡ unit → HasEdge program from along to → edge_target unit insn along ≡ Some to
            leads along to from here edge =
                let both : Some edge.insn ≡ Some insn = sym edge.begins ∙ (ap (slot_at program) here ∙ begins) in
                let same : edge.insn ≡ insn = cc in
                subst (λ u. edge_target u insn along ≡ Some to) here (subst (λ i. edge_target from i along ≡ Some to) same edge.leads_to)

            raised_at : (along : Edge) (to : ℕ) → edge_target unit insn along ≡ Some to → n ≤ slice_index after to
            raised_at Next to leads_to = g.raised to leads_to
            raised_at Target to leads_to = let first : n ≤ slice_index between to = f.raised to leads_to in let then_kept : slice_index between to ≤ slice_index after to = g.kept to in omega arith

            noted : (to : ℕ) → Noted to (slice_index after to)
            noted = noted_after Next between after g (noted_after Target before between f (λ to. (h.arrived to, h.bounded to)))

            found_after : (most < n) ⊎ (n ≤ most) → (max most n ≡ 0) ⊎ SomePath program weight (max most n)
            found_after (inl more) =
                let new : max most n ≡ n = omega arith in
                inr (subst (SomePath program weight) (sym new) (record { path = unit ∷ here_path.0; is_path = here_path.1; comes_to = here_path.2 ∙ sym is_total }))
            found_after (inr less) =
                let old : max most n ≡ most = omega arith in
                subst (λ m. (m ≡ 0) ⊎ SomePath program weight m) (sym old) h.found

    -- at the end, the maximum over all paths is known
    pub most_end : unit ≡ unit_count program → IsInstructionStart program 0 → EdgesLeadForward program → IsMost (IsPath program) (total weight) most
    most_end last first forward = record {
      reached = ⊎_elim
          (λ zero. (0 ∷ [], refl, let below : total weight (0 ∷ []) ≤ most = most_of (0 ∷ []) refl in omega arith))
          (λ some. (some.path, some.is_path, some.comes_to))
          h.found;
      most = most_of;
    }
      where
        most_of : (path : List ℕ) → IsPath program path → total weight path ≤ most
        most_of [] never = absurd never
        most_of (u ∷ path) is =
            let there : IsInstructionStart program u = last_begins first forward u path is in
            let inside : u < unit_count program = begins-lt program u there.0 there.1 in
            h.passed u path (omega arith) is
