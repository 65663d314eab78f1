-- What a block and a deed own is taken apart and made. Assumes `Logic`.
use mathlib.Core.Path.{◌≡◌, refl, ap, ◌∙◌}
use Prim.Native.Nat.{ℕ, ◌*◌, ◌<◌, ◌^◌}
use mathlib.Core.List.{List, [], ◌∷◌, ◌++◌}
use seplogic.Ra.Ura.{Ura}
use mir.Syntax.{w64}
use mir.Val.{Val, vint, vptr, vstruct, vcons, vnil, of_list}
use base.Logic.{id⊢, never}
use base.Fml.{froom}
use types.Logic.{Logic}
use types.Kit.{Goal, Step, step, Seq, Item, ‵, ◌$◌, drop, fsplit, fjoin, fpick, feq_l, flt_l, flt_i}
use denote.RattleType.{RattleType}
use denote.RawPtr.{Ptr, block_ptr, room_for, in_a_block}
use denote.Shadow.{pure_i}
use denote.Struct.Struct.{Struct}
use denote.Struct.Owning.{shape}
use Rattle.core.proofs.mem.Param.{El, R}
use Rattle.core.proofs.alloc.Calls.{Al, token}
use Rattle.core.proofs.slots.Places.{sz}
use Rattle.core.proofs.slots.Opens.{words_val, row_val}
use Rattle.core.proofs.slots.Leases.{block_ty, P}
use Rattle.hashbag_slots.specs.contracts.block.Block as RC
use Rattle.hashbag_slots.specs.contracts.block.Deed as DC

abbrev pub deed_val : Val
deed_val = vstruct (vcons (vstruct vnil) vnil)

module _ (E : El) where
  abbrev pub Rr : RattleType
  Rr = RC.the_row (R E)

module _ (E : El) (Z : Al) where
  abbrev pub Dr : RattleType
  Dr = DC.the_row (R E) (P E Z) Z.g

  abbrev pub deed_of : Z.row.Denot → ℕ → ℕ → ℕ → Dr.Denot
  deed_of a b o n = record { by = record {}; at = block_ptr b o; len = n; alloc = a }

module _ (E : El) {M : Type 1} {𝓤 : Ura M} {𝓛 : Logic 𝓤} {K : Type 0} {Γ : List (Item 𝓤)} {G : Goal 𝓤 𝓛.H} where
  pub block_had : K → (d : (Rr E).Denot) (vs : List Val)
      → ((b o : ℕ) → d.ptr ≡ block_ptr b o → vs ≡ row_val b o d.len ∷ [] → d.len < 2 ^ 64 → d.len * sz E < 2 ^ 63 → Seq K 𝓛 (‵ (froom (block_ty E d.len) b o) ∷ Γ) G)
      → Seq K 𝓛 (‵ ((Rr E).own_val d vs) ∷ Γ) G
  block_had t d vs k =
      fsplit t $ fpick t (λ vss. fsplit t $ feq_l t (λ all. fsplit t $ feq_l t (λ e₀. fsplit t $ fsplit t $ feq_l t (λ e₁. flt_l t (λ fn. drop t $ fsplit t $ flt_l t (λ fit.
      in_a_block t d.ptr (λ p. room_for (block_ty E d.len) p) (id⊢ 𝓤 (never 𝓤)) (λ b o e.
      k b o e (all ∙ ((λ i. vstruct (of_list (e₀ i ++ (e₁ i ++ []))) ∷ []) ∙ ap (λ (p : Ptr). words_val p d.len ∷ []) e)) fn fit)))))))

  pub block_made : K → (b o n : ℕ) → n < 2 ^ 64 → n * sz E < 2 ^ 63
      → Step K 𝓛 (‵ ((Rr E).own_val (record { ptr = block_ptr b o; len = n }) (row_val b o n ∷ [])) ∷ Γ) G (‵ (froom (block_ty E n) b o) ∷ Γ) G
  block_made t b o n fn fit = step (λ s.
      flt_i t (n * sz E) (2 ^ 63) fit $ fjoin t $
      pure_i t ((Struct (shape (RC.the_type (R E)))).own_val (block_ptr b o, (n, tt)) (row_val b o n ∷ [])) (λ vss. (tt, (tt, ((tt, tt), tt))))
      ((vptr b o ∷ [], (vint w64 n ∷ [], tt)), (refl, (refl, ((refl, fn), tt)))) $ fjoin t $ s)

module _ (E : El) (Z : Al) {M : Type 1} {𝓤 : Ura M} {𝓛 : Logic 𝓤} {K : Type 0} {Γ : List (Item 𝓤)} {G : Goal 𝓤 𝓛.H} where
  pub deed_had : K → (d : (Dr E Z).Denot) (vs : List Val)
      → (vs ≡ deed_val ∷ [] → Seq K 𝓛 (‵ (token Z d.alloc (block_ty E d.len) d.at) ∷ Γ) G) → Seq K 𝓛 (‵ ((Dr E Z).own_val d vs) ∷ Γ) G
  deed_had t d vs k =
      fsplit t $ fpick t (λ vss. fsplit t $ feq_l t (λ all. fsplit t $ fpick t (λ none. fsplit t $ feq_l t (λ e₀. drop t $ drop t $
      k (all ∙ (λ i. vstruct (of_list (e₀ i ++ [])) ∷ []))))))

  pub deed_made : K → (a : Z.row.Denot) (b o n : ℕ)
      → Step K 𝓛 (‵ ((Dr E Z).own_val (deed_of E Z a b o n) (deed_val ∷ [])) ∷ Γ) G (‵ (token Z a (block_ty E n) (block_ptr b o)) ∷ Γ) G
  deed_made t a b o n = step (λ s.
      pure_i t ((Struct (shape (DC.the_type (R E) (P E Z) Z.g))).own_val (record {}, tt) (deed_val ∷ [])) (λ vss. (tt, ((λ uss. (tt, tt)), tt)))
      ((vstruct vnil ∷ [], tt), (refl, ((tt, (refl, tt)), tt))) $ fjoin t $ s)
