-- A part of the block's array is lent as a slice. The borrow checker has no write-back clause for an array, so this
-- proof steps through the code by hand.
use mathlib.Core.Path.{◌≡◌, refl, sym, ap, ◌∙◌}
use Prim.Native.Nat.{ℕ, zero, ◌+◌, ◌-◌, ◌^◌, ◌<◌, ◌≤◌}
use native.Mathlib.Omega.{arith}
use mathlib.Core.List.{List, [], ◌∷◌, ◌++◌}
use lib.ListN.{length, length-append, take, drop as drop_list, take-append-drop, length-drop}
use borrow.Table.Elements.{at, at_mul, cut_app, join_app, length-take-le}
use seplogic.Ra.Ura.{Ura}
use mir.Syntax.{Fn, named, w64}
use mir.MapTy.{inst_fn}
use mir.Val.{Val, vptr, vint}
use base.Logic.{SProp, ent, sep, ex, guard}
use base.Fml.{Lft, GName, Share, ftrue, flft}
use prog.Memory.{Memory, size}
use prog.Routine.{Routine}
use prog.Wp.{Calls, Loops, WpFn, Tables}
use types.Logic.{Logic, sem}
use types.Mut.{open_ref}
use contract.BorrowLft.{◌⊑◌}
use contract.Lifetimes.{AllOutlive}
use contract.Monad.{Fun}
use contract.Running.{tables, tables_of}
use sound.WpLaws.{WpFn-mono}
use types.Kit.{Item, ‵, ◌⊛◌, raw, given, some, later, ◌$◌, ◌∵◌, !, qed, by, move, keep, drop, split, split3, join, learn, fsplit, fsplit3, fjoin, use1, use2, await, pick, suffices, frame, done, rewrite, updating, group, now, show, check}
use types.Part.{agg}
use types.Run.{stop, fld, addr, and_then, no_more, returns, enter, bin}
use types.ByLocal.{alloc_all, pass_all, free_all, look_at, get, through, sets, is}
use types.SemTy.{cells}
use denote.Array.{Array}
use denote.Builtin.{RefMutOf, u8, usize}
use denote.Exit.{yes, no}
use denote.Follow.{follows}
use denote.FollowSlice.{lends_Elements}
use denote.Memory.{mem}
use denote.Param.{number, layout}
use denote.Plain.{uint_vals, uint_Tells}
use denote.RattleType.{owns}
use denote.Ref.{MutBor, MutRef, mut_vals, mut_Tells}
use denote.Signature.{plain}
use denote.Slice.{MutSlice, Room, slice_val}
use denote.Steps.{nothing}
use denote.Triple.Clauses.{Clauses, Ended, closing}
use denote.Triple.Entry.{on_entry}
use denote.Triple.Spec.{Meets, triple_of}
use denote.Triple.Table.{entered}
use denote.Triple.Walked.{says, Stays, stay_dropped, walk_of, ends_at, walked, Goes-dropped, Goes-spent_ref, walk_Meets}
use Rattle.rb_lend.specs.Block.{block_with_part}
use Rattle.rb_lend.specs.contracts.block.Block.range_mut as F
use Rattle.rb_lend.specs.contracts.block.Block.range_mut.Key.{name as #self}
use Rattle.rb_lend.proofs.BlockMemory.{args, N, S, Left, bytes_out, bytes_in}
use Rattle.rb_lend.proofs.block.Block.range_mut.Statement as stated
use Rattle.rb_lend.proofs.block.Block.range_mut.Code as code

module _ (n : ℕ) where
  abbrev function : Fn
  function = inst_fn (args n) code.function

  abbrev ended : Ended
  ended = F.ended (number n)

  abbrev stayed : Stays ended.signature.params ended.kept
  stayed = (stay_dropped (RefMutOf (0 ∷ []) tt (plain (λ _. S n)) (λ _. tt)) no, (stay_dropped (plain (λ _. usize)) yes, (stay_dropped (plain (λ _. usize)) yes, tt)))

module _ (n : ℕ) {M : Type 1} {𝓤 : Ura M} (𝓛 : Logic 𝓤) where
  open 𝓛 use {H, A}

  module _ (κ : Lft) (q : Share) (b o : ℕ) (γ : GName) (d : (S n).Denot) (m k : ℕ) where
    abbrev start : ℕ
    start = o + zero

    abbrev p : ℕ
    p = m + (o + zero)

    abbrev front : List ℕ
    front = take m d.bytes

    abbrev mid : List ℕ
    mid = take k (drop_list m d.bytes)

    abbrev back : List ℕ
    back = drop_list k (drop_list m d.bytes)

    abbrev after : List ℕ → (S n).Denot
    after = block_with_part (N n) d m

    abbrev lent : ℕ → GName → Item 𝓤
    lent j δ = ‵ ((MutSlice (named 0) κ u8).own_val (record { ref_ptr = (b, p); ghost_name = δ; now = mid }) (slice_val (b, p) j ∷ [])) ⊛ ‵ (flft κ q) ⊛ ‵ (follows (S n) (Array u8 0) γ δ after)

    abbrev Lent : GName → SProp 𝓤
    Lent δ = sep 𝓤 (sem 𝓛 ((MutSlice (named 0) κ u8).own_val (record { ref_ptr = (b, p); ghost_name = δ; now = mid }) (slice_val (b, p) k ∷ []))) (sep 𝓤 (A.lft κ q) (sem 𝓛 (follows (S n) (Array u8 0) γ δ after)))

    abbrev Rest : SProp 𝓤
    Rest = sep 𝓤 (sem 𝓛 (cells (mem u8) front b start)) (sep 𝓤 (sem 𝓛 (cells (mem u8) back b (at p 1 (length mid)))) (Left n 𝓛 b o))

    cut : d.bytes ≡ front ++ (mid ++ back)
    cut = sym (take-append-drop m d.bytes) ∙ ap (λ (l : List ℕ). front ++ l) (sym (take-append-drop k (drop_list m d.bytes)))

    on : m + k ≤ n → length d.bytes ≡ n → at start 1 (length front) ≡ p
    on within long = let e = at_mul start 1 (length front) in let lf : length front ≡ m = length-take-le m d.bytes (omega (arith, long, within)) in omega (arith, e, lf)

    put : m + k ≤ n → length d.bytes ≡ n → length mid ≡ k → (ws : List ℕ) → length ws ≡ length mid
        → ent 𝓤 (sep 𝓤 (sem 𝓛 (cells (mem u8) ws b p)) Rest) (sem 𝓛 ((mem (S n)).own_at (after ws) b o))
    put within long count ws e =
        let same : front ++ (ws ++ back) ≡ (after ws).bytes = ap (λ j. front ++ (ws ++ drop_list j (drop_list m d.bytes))) (sym (e ∙ count)) in
        let whole : length d.bytes ≡ length front + length (mid ++ back) = ap length cut ∙ length-append front (mid ++ back) in
        let inner : length (mid ++ back) ≡ length mid + length back = length-append mid back in
        let now_whole : length (front ++ (ws ++ back)) ≡ length front + length (ws ++ back) = length-append front (ws ++ back) in
        let now_inner : length (ws ++ back) ≡ length ws + length back = length-append ws back in
        qed 𝓛 (‵ (cells (mem u8) ws b p) ∷ ‵ (cells (mem u8) front b start) ∷ ‵ (cells (mem u8) back b (at p 1 (length mid))) ∷ raw (Left n 𝓛 b o) ∷ []) ∵
        rewrite ! 2 (λ (j : ℕ). ‵ (cells (mem u8) back b (at p 1 j))) (sym e) refl $ move ! (0 ∷ 2 ∷ []) $
        use2 𝓛 (‵ (cells (mem u8) (ws ++ back) b p)) (join_app 𝓛 (mem u8) ws back b p) $
        rewrite ! 0 (λ (j : ℕ). ‵ (cells (mem u8) (ws ++ back) b j)) (sym (on within long)) refl $ move ! (1 ∷ 0 ∷ []) $
        use2 𝓛 (‵ (cells (mem u8) (front ++ (ws ++ back)) b start)) (join_app 𝓛 (mem u8) front (ws ++ back) b start) $
        rewrite ! 0 (λ (l : List ℕ). ‵ (cells (mem u8) l b start)) same refl $
        by ! (bytes_in n 𝓛 b o (after ws) (ap length (sym same) ∙ omega (arith, whole, inner, now_whole, now_inner, e, long)))

    lends : m + k ≤ n → n < 2 ^ 63 → (vs : List Val) → ent 𝓤 (sep 𝓤 (sem 𝓛 ((MutRef (named 0) κ (S n)).own_val (record { ref_ptr = (b, o); ghost_name = γ; now = d }) vs)) (A.lft κ q)) (H.⇛ (guard 𝓤 ((length mid ≡ k) × (length d.bytes ≡ n)) (ex 𝓤 Lent)))
    lends within small vs =
        qed 𝓛 (‵ ((MutRef (named 0) κ (S n)).own_val (record { ref_ptr = (b, o); ghost_name = γ; now = d }) vs) ∷ ‵ (flft κ q) ∷ []) ∵
        updating ! $ fsplit3 ! $ drop ! $ open_ref ! tt (mem (S n)) {b = b} {o = o} $
        use1 𝓛 (given (length d.bytes ≡ n) (‵ (cells (mem u8) d.bytes b start) ⊛ raw (Left n 𝓛 b o))) (bytes_out n 𝓛 b o d) $
        learn ! (λ long. split ! $
        let ld : length (drop_list m d.bytes) ≡ length d.bytes - m = length-drop m d.bytes in
        let count : length mid ≡ k = length-take-le k (drop_list m d.bytes) (omega (arith, long, within, ld)) in
        let room : Room u8 (length mid) = (omega (arith, count, within, small), omega (arith, count, within, small)) in
        rewrite ! 0 (λ (l : List ℕ). ‵ (cells (mem u8) l b start)) cut refl $
        use1 𝓛 (‵ (cells (mem u8) front b start) ⊛ ‵ (cells (mem u8) (mid ++ back) b (at start 1 (length front)))) (cut_app 𝓛 (mem u8) front (mid ++ back) b start) $ split ! $ move ! (1 ∷ []) $
        rewrite ! 0 (λ (j : ℕ). ‵ (cells (mem u8) (mid ++ back) b j)) (on within long) refl $
        use1 𝓛 (‵ (cells (mem u8) mid b p) ⊛ ‵ (cells (mem u8) back b (at p 1 (length mid)))) (cut_app 𝓛 (mem u8) mid back b p) $ split ! $
        -- [the part; the end; the front; the rest of the struct; the open borrow]
        move ! (1 ∷ 3 ∷ []) $ join ! $ move ! (2 ∷ 0 ∷ []) $ join ! $
        -- [the rest; the part; the open borrow]
        move ! (2 ∷ 3 ∷ 4 ∷ 1 ∷ 0 ∷ []) $ group ! 5 $
        use1 𝓛 (later (some (lent (length mid))))
        (lends_Elements 𝓛 (S n) u8 after (named 0) κ q b o b p γ mid room Rest (put within long count) ((S n).coded.code d) ((S n).coded.code d)) $
        await ! tt $ pick ! (λ δ. rewrite ! 0 (λ (j : ℕ). lent j δ) count refl $ now ! $ check ! (count, long) $ show ! Lent δ $ done !))

  module _ (at_mem : Memory → SProp 𝓤) (run : Routine → Fun 𝓤) where
    abbrev clauses : Clauses 𝓤 (ended n)
    clauses = F.clauses (number n) 𝓛 at_mem run

    module _ (C : Calls 𝓤 H) (Λ : Loops 𝓤 H) (κ κN : Lft) (q qN : Share)
        (bd : AllOutlive 2 (ended n).signature.outlives (κ, (κN, tt))) (b o : ℕ) (γ : GName)
        (d : (S n).Denot) (m k : ℕ) where
      abbrev self : MutBor (S n).Denot
      self = record { ref_ptr = (b, o); ghost_name = γ; now = d }

      abbrev bound : (walk_of 𝓛 (ended n) (stayed n) clauses).Ghost
      bound = (((κ, (κN, tt)), (q, (qN, tt)), bd, (self, (m, (k, tt))), (mut_vals self, (vint w64 m ∷ [], (vint w64 k ∷ [], tt)))), tt)

      walk : m + k ≤ n → m < 2 ^ 64 → k < 2 ^ 64 → n < 2 ^ 63
          → ent 𝓤 (on_entry 𝓛 (ended n).signature (κ, (κN, tt)) (q, (qN, tt)) (self, (m, (k, tt))) (mut_vals self, (vint w64 m ∷ [], (vint w64 k ∷ [], tt)))) (WpFn 𝓤 H C Λ (function n) (vptr b o ∷ vint w64 m ∷ vint w64 k ∷ []) ((walk_of 𝓛 (ended n) (stayed n) clauses).post bound))
      walk within fm fk small =
          let sum : m + k < 2 ^ 64 = omega (arith, within, small) in
          let less : (m + k) - m ≡ k = omega arith in
          qed 𝓛 ((‵ (flft κ q) ⊛ ‵ (flft κN qN) ⊛ ‵ ftrue) ∷ ‵ (owns (MutRef (named 0) κ (S n) ∷ usize ∷ usize ∷ []) (self, (m, (k, tt))) (mut_vals self, (vint w64 m ∷ [], (vint w64 k ∷ [], tt)))) ∷ []) ∵
          enter ! C Λ (function n) (vptr b o ∷ vint w64 m ∷ vint w64 k ∷ []) _ $
          alloc_all ! (λ l. pass_all ! refl ((tt, tt), ((tt, record { fits = fm }), ((tt, record { fits = fk }), tt))) $
          sets ! (bin ! (get ! refl) (get ! refl) (record { fits = sum })) refl (tt, record { fits = sum }) $
          sets ! (addr ! (through ! refl (fld ! refl (stop !)))) refl (tt, tt) $
          sets ! (bin ! (get ! refl) (get ! refl) tt) refl (tt, tt) $
          sets ! (is ! (bin ! (get ! refl) (get ! refl) (omega arith)) (ap (vint w64) less)) refl (tt, record { fits = fk }) $
          sets ! (addr ! (through ! refl (stop !))) refl (tt, tt) $
          sets ! (agg ! (and_then ! (get ! refl) (and_then ! (get ! refl) (no_more !)))) refl (tt, (tt, (record { fits = fk }, tt))) $
          split ! $ move ! (2 ∷ []) $ fsplit ! $ move ! (0 ∷ 2 ∷ []) $
          use2 𝓛 (later (given ((length (take k (drop_list m d.bytes)) ≡ k) × (length d.bytes ≡ n)) (some (lent κ q b o γ d m k k)))) (lends κ q b o γ d m k within small (mut_vals self)) $
          await ! tt $ learn ! (λ known. pick ! (λ δ.
          returns ! (look_at ! 0 refl) $ free_all ! refl $ keep ! (0 ∷ 2 ∷ []) $ split3 ! $
          suffices ! _ (ends_at 𝓛 (ended n) (stayed n) clauses bound (slice_val (b, m + (o + zero)) k) (record { ref_ptr = (b, m + (o + zero)); ghost_name = δ; now = take k (drop_list m d.bytes) }) (tt, (tt, (tt, tt))) (tt, (tt, (tt, tt)))) $
          nothing ! $ nothing ! $ fjoin ! $ nothing ! $ fjoin ! $ nothing ! $ fjoin ! $ join ! $ move ! (1 ∷ 3 ∷ []) $ join ! $ join ! $ frame ! $ says ! (refl, known) $ done !)))

    meets : (𝓣 : Tables 𝓤 H) → Meets 𝓛 (ended n).signature (WpFn 𝓤 H 𝓣.C 𝓣.Λ (function n)) (closing 𝓛 (ended n) clauses)
    meets 𝓣 =
        let goes = Goes-dropped 𝓛 2 (plain (λ _. usize)) yes (λ κs x f. refl) in
        walk_Meets 𝓛 (ended n) (stayed n) (Goes-spent_ref 𝓛 2 (0 ∷ []) tt (plain (λ _. S n)), (goes, (goes, tt))) clauses (WpFn 𝓤 H 𝓣.C 𝓣.Λ (function n)) (WpFn-mono 𝓤 H 𝓛.laws 𝓣 (function n))
        (walked 𝓛 (ended n) (stayed n) clauses (WpFn 𝓤 H 𝓣.C 𝓣.Λ (function n)) (λ κs. (mut_vals, (uint_vals w64, (uint_vals w64, tt)))) (λ κs. (mut_Tells (named 0) κs.0 (S n), (uint_Tells w64, (uint_Tells w64, tt))))
        (λ κs qs bounds a g are.
        qed 𝓛 (raw (on_entry 𝓛 (ended n).signature κs qs a (mut_vals a.0, (vint w64 a.1.0 ∷ [], (vint w64 a.1.1.0 ∷ [], tt)))) ∷ (given (κs.1.0 ⊑ []) (‵ ftrue) ⊛ given (size (layout (S n)) < 2 ^ 63) (‵ ftrue) ⊛ given (a.1.0 + a.1.1.0 ≤ n) (‵ ftrue)) ∷ []) ∵
        move ! (1 ∷ []) $ split3 ! $ drop ! $ learn ! (λ fits. drop ! $ learn ! (λ within. drop ! $
        by ! (walk 𝓣.C 𝓣.Λ κs.0 κs.1.0 qs.0 qs.1.0 bounds a.0.ref_ptr.0 a.0.ref_ptr.1 a.0.ghost_name a.0.now a.1.0 a.1.1.0 within are.1.0.1 are.1.1.0.1 (omega arith))))))

pub range_mut_spec : {M : Type 1} → stated.statement M
unfolding tables_of
range_mut_spec 𝓤 𝓛 𝓜 𝓡 wired n fits =
    let 𝓣 : Tables 𝓤 𝓛.H = tables_of 𝓤 𝓛.H 𝓜 (tables 𝓤 𝓛.H 𝓜 𝓡 𝓡.env) in
    entered 𝓤 𝓛.H (triple_of 𝓛 (ended n).signature (F.spec (number n) 𝓛 𝓜.mem 𝓡.returns)) 𝓣.C 𝓣.Λ (#self (args n)) (function n) (code.unfolded 𝓤 𝓛.H 𝓜 𝓡 wired (number n, tt))
    (meets n 𝓛 𝓜.mem 𝓡.returns 𝓣)
