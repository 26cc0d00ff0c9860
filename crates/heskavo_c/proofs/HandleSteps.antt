-- The machine value of a handle, and what it owns in each case. Assumes `Logic`.
use Rattle.std.proofs.Common.{◌≡◌, ℕ, List, [], ◌∷◌, ◌++◌, refl, subst, None, Some}
use seplogic.Ra.Ura.{Ura}
use mir.Raw.{raw as bare}
use mir.Val.{Val, vstruct, vcons, vnil, of_list}
use base.Logic.{ent, guard, guard_i, via, snd∗}
use base.Fml.{Fml}
use base.Fraction.{full_share}
use types.Logic.{Logic, sem}
use types.Kit.{Item, Goal, Seq, Step, step, ‵, given, ◌$◌, drop, use1, fsplit, fjoin, fpick, fpack, feq_i, feq_l, learn}
use contract.Monad.{fact_use}
use denote.RattleType.{Valss}
use denote.Builtin.{RawPtr}
use denote.Memory.{lone}
use denote.RawPtr.{Ptr, block_ptr, null_ptr, ptr_val, lies_at, Testable}
use denote.Steps.{nothing}
use denote.Struct.Struct.{within}
use denote.Struct.Owning.{shape}
use Rattle.std.specs.declared.alloc.Global.{Global}
use Rattle.std.specs.contracts.impls.GlobalAllocator.TheImpl.{ghosts}
use Rattle.std.proofs.GlobalToken.{dealloc_token-Testable}
use Rattle.std.specs.Box.Ownership.{box_owns}
use Rattle.rb_engine.specs.contracts.engine.Engine.{the_row}
use Rattle.heskavo_c.specs.contracts.engine_handle.EngineHandle as held
use Rattle.rb_engine.specs.EngineValue.{EngineValue}
use Rattle.heskavo_c.specs.EngineHandles.{MaybeEngine}
use Rattle.heskavo_c.specs.EngineOwnership.{held_at}

abbrev pub word : Ptr → Val
word p = vstruct (vcons (ptr_val p) vnil)

abbrev pub boxed : Global → Ptr → EngineValue → Fml
boxed a p x = box_owns (ghosts.dealloc_token a) the_row p x

module _ {M : Type 1} {𝓤 : Ura M} (𝓛 : Logic 𝓤) (a : Global) where
  pub tested : (p : Ptr) (x : EngineValue) → ent 𝓤 (sem 𝓛 (boxed a p x)) (guard 𝓤 (Testable p) (sem 𝓛 (boxed a p x)))
  tested p x = fact_use 𝓤 (Testable p) (via 𝓤 _ (snd∗ 𝓤 (sem 𝓛 (lies_at the_row full_share p x)) (sem 𝓛 (ghosts.dealloc_token a (bare (lone the_row.mir)) p))) (dealloc_token-Testable 𝓛 a (bare (lone the_row.mir)) p)) (guard_i 𝓤 (Testable p) (sem 𝓛 (boxed a p x)))

module _ {M : Type 1} {𝓤 : Ura M} {𝓛 : Logic 𝓤} {K : Type 0} {Γ : List (Item 𝓤)} {G : Goal 𝓤 𝓛.H} where
  pub held_in : K → (p : Ptr) (v : MaybeEngine) → Step K 𝓛 (‵ (held.the_row.own_val (record { inside = p; value = v }) (word p ∷ [])) ∷ Γ) G (‵ (held_at p v) ∷ Γ) G
  held_in t p v = step (λ s. nothing t $ feq_i t (List Val) (ptr_val p ∷ []) (ptr_val p ∷ []) refl $ fjoin t $ feq_i t (List Val) (word p ∷ []) (word p ∷ []) refl $ fjoin t $
      fpack t (Valss (RawPtr ∷ [])) (within (shape held.the_type) (p, tt) (word p ∷ [])) (ptr_val p ∷ [], tt) $ fjoin t $ s)

  pub held_out : K → (d : held.the_row.Denot) (vs : List Val) → (vs ≡ word d.inside ∷ [] → Seq K 𝓛 (‵ (held_at d.inside d.value) ∷ Γ) G) → Seq K 𝓛 (‵ (held.the_row.own_val d vs) ∷ Γ) G
  held_out t d vs k = fsplit t $ fpick t (λ vss. fsplit t $ feq_l t (λ ev. fsplit t $ feq_l t (λ ep. drop t $ k (subst (λ (ps : List Val). vs ≡ vstruct (of_list (ps ++ [])) ∷ []) ep ev))))

  pub held_either : K → (p : Ptr) (v : MaybeEngine) → (p ≡ null_ptr → v ≡ None → Seq K 𝓛 Γ G)
      → ((a : Global) (b o : ℕ) (x : EngineValue) → p ≡ block_ptr b o → v ≡ Some x → Testable (block_ptr b o) → Seq K 𝓛 (‵ (boxed a (block_ptr b o) x) ∷ Γ) G) → Seq K 𝓛 (‵ (held_at p v) ∷ Γ) G
  held_either t null_ptr v none one = fpick t (λ e. drop t $ none refl e)
  held_either t (block_ptr b o) v none one = fpick t (λ x. fsplit t $ fpick t (λ e. drop t $ fpick t (λ a. use1 𝓛 (given (Testable (block_ptr b o)) (‵ (boxed a (block_ptr b o) x))) (tested 𝓛 a (block_ptr b o) x) $ learn t (λ ok. one a b o x refl e ok))))
