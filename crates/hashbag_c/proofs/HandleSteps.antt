-- A handle, taken apart and put together. Assumes `Logic`.
use Rattle.std.proofs.Common.{◌≡◌, List, [], ◌∷◌, ◌++◌, refl, subst}
use seplogic.Ra.Ura.{Ura}
use mir.Raw.{raw as bare}
use mir.Val.{Val, vstruct, vcons, vnil, of_list}
use base.Logic.{ent, via, snd∗, guard, guard_i}
use types.Logic.{Logic, sem}
use types.Kit.{Item, Goal, Seq, Step, step, ‵, ◌$◌, move, drop, fsplit, fjoin, fpick, fpack, feq_i, feq_l}
use contract.Monad.{fact_use}
use denote.RattleType.{RattleType, Valss}
use denote.Memory.{lone}
use denote.RawPtr.{Ptr, RawPtr, ptr_val, lies_at, Testable}
use denote.Steps.{nothing}
use denote.Struct.Struct.{within}
use denote.Struct.Owning.{shape, to}
use Rattle.core.proofs.alloc.Calls.{Fits, handle_tells}
use Rattle.std.specs.declared.option.Option.{Option}
use Rattle.std_alloc.specs.Box.Ownership.{box_owns}
use Rattle.std_heap.specs.contracts.Global as Heap
use Rattle.std_heap.specs.contracts.GlobalAllocator.TheImpl.{ghosts}
use Rattle.std.proofs.GlobalToken.{dealloc_token-Testable}
use Rattle.hashbag_c.specs.Own.{owned}
use Rattle.hashbag_c.specs.contracts.held.Held as Held
use Rattle.hashbag_c.specs.contracts.handle.Handle as Handle
use Rattle.hashbag_c.proofs.AsBox.{E}

abbrev pub Row : RattleType
Row = Handle.the_row

abbrev pub Z : RattleType
Z = Heap.the_row

abbrev pub both : Val → Val → Val
both v w = vstruct (vcons v (vcons w vnil))

module _ {M : Type 1} {𝓤 : Ura M} {𝓛 : Logic 𝓤} {K : Type 0} {Γ : List (Item 𝓤)} {G : Goal 𝓤 𝓛.H} where
  pub handle_out : K → (d : Row.Denot) (vs : List Val)
      → ((h : Val) → vs ≡ both (ptr_val d.at) h ∷ [] → Fits E.al h → Seq K 𝓛 (‵ (owned d.alloc d.at d.held) ∷ ‵ (Z.own_val d.alloc (h ∷ [])) ∷ Γ) G)
      → Seq K 𝓛 (‵ (Row.own_val d vs) ∷ Γ) G
  handle_out t d vs k =
      fsplit t $ fpick t (λ vss. fsplit t $ feq_l t (λ ev. fsplit t $ feq_l t (λ ep. fsplit t $ handle_tells E.al t d.alloc vss.1.0 (λ h ea fits. move t (1 ∷ []) $ drop t $ move t (1 ∷ []) $
      k h (subst (λ (ws : List Val). vs ≡ vstruct (of_list (ptr_val d.at ∷ (ws ++ []))) ∷ []) ea (subst (λ (ps : List Val). vs ≡ vstruct (of_list (ps ++ (vss.1.0 ++ []))) ∷ []) ep ev)) fits))))

  pub handle_in : K → (p : Ptr) (h : Val) (a : Z.Denot) (x : Option Held.the_row.Denot)
      → Step K 𝓛 (‵ (Row.own_val (record { at = p; alloc = a; held = x }) (both (ptr_val p) h ∷ [])) ∷ Γ) G (‵ (owned a p x) ∷ ‵ (Z.own_val a (h ∷ [])) ∷ Γ) G
  handle_in t p h a x = step (λ s. let v : Val = both (ptr_val p) h in
      nothing t $ move t (2 ∷ 0 ∷ []) $ fjoin t $ feq_i t (List Val) (ptr_val p ∷ []) (ptr_val p ∷ []) refl $ fjoin t $ feq_i t (List Val) (v ∷ []) (v ∷ []) refl $ fjoin t $
      fpack t (Valss (RawPtr ∷ Z ∷ [])) (within (shape Handle.the_type) (to Handle.the_type (record { at = p; alloc = a; held = x })) (v ∷ [])) (ptr_val p ∷ [], (h ∷ [], tt)) $ fjoin t $ s)

module _ {M : Type 1} {𝓤 : Ura M} (𝓛 : Logic 𝓤) where
  -- a pointer whose box is owned may be tested
  pub tested : (Y : RattleType) (a : Z.Denot) (p : Ptr) (x : Y.Denot)
      → ent 𝓤 (sem 𝓛 (box_owns (ghosts.dealloc_token a) Y p x)) (guard 𝓤 (Testable p) (sem 𝓛 (box_owns (ghosts.dealloc_token a) Y p x)))
  tested Y a p x = let B = sem 𝓛 (box_owns (ghosts.dealloc_token a) Y p x) in
      fact_use 𝓤 (Testable p) (via 𝓤 _ (snd∗ 𝓤 (sem 𝓛 (lies_at Y base.Fraction.full_share p x)) (sem 𝓛 (ghosts.dealloc_token a (bare (lone Y.mir)) p))) (dealloc_token-Testable 𝓛 a (bare (lone Y.mir)) p)) (guard_i 𝓤 (Testable p) B)
