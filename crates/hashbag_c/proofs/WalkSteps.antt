-- A walk's handle, taken apart and put together. Assumes `Logic`.
use Rattle.std.proofs.Common.{◌≡◌, List, [], ◌∷◌, ◌++◌, refl, subst}
use seplogic.Ra.Ura.{Ura}
use mir.Val.{Val, vstruct, of_list}
use types.Logic.{Logic}
use types.Kit.{Item, Goal, Seq, Step, step, ‵, ◌$◌, move, drop, fsplit, fjoin, fpick, fpack, feq_i, feq_l}
use denote.RattleType.{RattleType, Valss}
use denote.RawPtr.{Ptr, RawPtr, ptr_val}
use denote.Steps.{nothing}
use denote.Struct.Struct.{within}
use denote.Struct.Owning.{shape, to}
use Rattle.core.proofs.alloc.Calls.{Fits, handle_tells}
use Rattle.std.specs.declared.option.Option.{Option}
use Rattle.hashbag_c.specs.Own.{owned_left}
use Rattle.hashbag_c.specs.contracts.held.Left as Left
use Rattle.hashbag_c.specs.contracts.walk.Walk as Walk
use Rattle.hashbag_c.proofs.AsBox.{LeftE as E}
use Rattle.hashbag_c.proofs.HandleSteps.{Z, both}

abbrev pub Row : RattleType
Row = Walk.the_row

module _ {M : Type 1} {𝓤 : Ura M} {𝓛 : Logic 𝓤} {K : Type 0} {Γ : List (Item 𝓤)} {G : Goal 𝓤 𝓛.H} where
  pub walk_out : K → (d : Row.Denot) (vs : List Val)
      → ((h : Val) → vs ≡ both (ptr_val d.at) h ∷ [] → Fits E.al h → Seq K 𝓛 (‵ (owned_left d.alloc d.at d.left) ∷ ‵ (Z.own_val d.alloc (h ∷ [])) ∷ Γ) G)
      → Seq K 𝓛 (‵ (Row.own_val d vs) ∷ Γ) G
  walk_out t d vs k =
      fsplit t $ fpick t (λ vss. fsplit t $ feq_l t (λ ev. fsplit t $ feq_l t (λ ep. fsplit t $ handle_tells E.al t d.alloc vss.1.0 (λ h ea fits. move t (1 ∷ []) $ drop t $ move t (1 ∷ []) $
      k h (subst (λ (ws : List Val). vs ≡ vstruct (of_list (ptr_val d.at ∷ (ws ++ []))) ∷ []) ea (subst (λ (ps : List Val). vs ≡ vstruct (of_list (ps ++ (vss.1.0 ++ []))) ∷ []) ep ev)) fits))))

  pub walk_in : K → (p : Ptr) (h : Val) (a : Z.Denot) (x : Option Left.the_row.Denot)
      → Step K 𝓛 (‵ (Row.own_val (record { at = p; alloc = a; left = x }) (both (ptr_val p) h ∷ [])) ∷ Γ) G (‵ (owned_left a p x) ∷ ‵ (Z.own_val a (h ∷ [])) ∷ Γ) G
  walk_in t p h a x = step (λ s. let v : Val = both (ptr_val p) h in
      nothing t $ move t (2 ∷ 0 ∷ []) $ fjoin t $ feq_i t (List Val) (ptr_val p ∷ []) (ptr_val p ∷ []) refl $ fjoin t $ feq_i t (List Val) (v ∷ []) (v ∷ []) refl $ fjoin t $
      fpack t (Valss (RawPtr ∷ Z ∷ [])) (within (shape Walk.the_type) (to Walk.the_type (record { at = p; alloc = a; left = x })) (v ∷ [])) (ptr_val p ∷ [], (h ∷ [], tt)) $ fjoin t $ s)
