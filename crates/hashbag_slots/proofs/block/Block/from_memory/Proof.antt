-- `from_memory` takes the block back from places that hold nothing. Assumes `Logic`.
use Rattle.std.proofs.Common.{◌≡◌, ℕ, ◌<◌, false, Bool, List, [], ◌∷◌, ◌++◌, refl, sym, ◌∙◌, subst}
use lib.ListN.{get_or}
use mir.Syntax.{Args, Fn, ty_array, a_type, given as dict_at}
use mir.Val.{Val, WT}
use mir.MapTy.{inst_fn}
use base.Logic.{SProp, ent, emp, id⊢}
use base.Fml.{Lft, Share, ftrue, froom, flft}
use prog.Wp.{WpFn}
use contract.BorrowLft.{◌⊑◌}
use contract.Monad.{fact, fact_i}
use contract.Running.{tables}
use types.Kit.{‵, raw, ◌⊛◌, given, later, at_ret, ◌$◌, ◌∵◌, !, qed, by, move, keep, use0, use1, use2, split, join, learn, fsplit, fjoin, suffices, await}
use types.Part.{whole, sub, agg}
use types.Run.{stop, fld, of_opd, no_more, and_then, first, blocks, exec, returns, enter}
use types.ByLocal.{alloc_all, pass_all, free_all, look_at, get, get_in, is, sets, lands_last, env}
use denote.RattleType.{RattleType, owns}
use denote.RawPtr.{block_ptr}
use denote.Param.{param, layouts}
use denote.Exit.{no}
use denote.Signature.{plain, types_at}
use denote.Steps.{nothing, heard}
use denote.Triple.Call.{calls_at_last}
use denote.Triple.Walked.{Stays, stay_dropped, walk_of, Goes-dropped}
use Rattle.std.proofs.raw_atomic.Walks.{proved_at, leaves}
use Rattle.core.proofs.atomic.Steps.{fm, tail}
use Rattle.core.proofs.mem.Param as mem
use Rattle.core.proofs.slots.Opens.{row_val}
use Rattle.core.proofs.slots.Leases.{block_ty}
use Rattle.core.proofs.slots.Runs.{to_space}
use Rattle.core.specs.Mem.Slots.{slots_items, slots_filled, slots_ptr, slots_len, slots_counts}
use Rattle.core.proofs.slots.Slots.into_raw_parts.Met as callee
use Rattle.std_alloc.proofs.VecSteps.El.{El}
use Rattle.std_alloc.proofs.vec.Blocks.{el, all}
use Rattle.std_alloc.proofs.vec.Spares.{Row, Row-seen, parts_typed, Into, at_into, Into-goes, Into-gives}
use Rattle.core.proofs.slots.Opens.{row_had, row_made}
use Rattle.hashbag_slots.proofs.Blocks.{block_made}
use Rattle.hashbag_slots.specs.contracts.block.Block.from_memory.{ended, clauses}
use Rattle.hashbag_slots.specs.contracts.block.Block.from_memory.Key.{name as #self}
use Rattle.hashbag_slots.proofs.block.Block.from_memory.Statement.{statement}
use Rattle.hashbag_slots.proofs.block.Block.from_memory.Code as code

pub from_memory_spec : {M : Type 1} → statement M
from_memory_spec 𝓤 𝓛 𝓜 𝓡 wired T L =
    let H = 𝓛.H in let 𝓣 = tables 𝓤 H 𝓜 𝓡 𝓡.env in let R : RattleType = param 0 T in
    let E : El = record { row = T; laws = L; al = record { row = T; laws = L; g = record { dealloc_token = λ _ _ _. ftrue }; d = dict_at 0; drops = dict_at 0 } } in
    let En = ended T in let c = clauses T 𝓛 𝓜.mem 𝓡.returns in
    let inst : Args = layouts (a_type ∷ []) (T, tt) in let fn : Fn = inst_fn inst code.function in
    let met = callee.met 𝓤 𝓛 𝓜 𝓡 (code.calls-core::slots::Slots::into_raw_parts 𝓡.env wired) T L in
    let hs : Stays En.signature.params En.kept = (stay_dropped (plain (λ _. Row E)) no, tt) in
    proved_at 𝓛 En hs c 𝓜 𝓡 (Goes-dropped 𝓛 1 (plain (λ _. Row E)) no (λ κs x f. refl), tt)
    (#self inst) fn (code.unfolded 𝓤 H 𝓜 𝓡 wired (T, tt)) (λ z are.
    let κ : Lft = z.0.0.0 in let q : Share = z.0.1.0 in let r : (Row E).Denot = z.0.3.0 in let vss = z.0.4 in let n : ℕ = slots_len r in
    let xs : List T.Denot = slots_items r in let fs : List Bool = slots_filled r in
    let None : Type 0 = (k : ℕ) → k < n → get_or fs k false ≡ false in
    let Post : Val → SProp 𝓤 = (walk_of 𝓛 En hs c).post z in let Run : List Val → SProp 𝓤 = λ ws. WpFn 𝓤 H 𝓣.C 𝓣.Λ fn ws Post in
    qed 𝓛 (((‵ (flft κ q) ⊛ ‵ ftrue) ⊛ ‵ (owns (types_at En.signature.params z.0.0) z.0.3 vss)) ∷ (raw (fact 𝓤 (κ ⊑ T.lives)) ⊛ raw (fact 𝓤 None)) ∷ []) ∵
    move ! (1 ∷ []) $ split ! $ heard ! (κ ⊑ T.lives) (λ le. heard ! None (λ none. split ! $ split ! $ move ! (2 ∷ []) $ fsplit ! $ Row-seen E ! r vss.0 (λ b o at e fn64.
    row_had (el E) ! r (row_val b o n ∷ []) (λ b₁ o₁ at₁ e₁ fn₁ fit. row_made (el E) ! r b₁ o₁ at₁ fn₁ fit $
    keep ! (0 ∷ 2 ∷ []) $
    let us : List Val = row_val b₁ o₁ n ∷ [] in let words : WT (row_val b₁ o₁ n) = (tt, (record { fits = fn64 }, tt)) in
    suffices ! (Run us) (subst (λ (ws : List Val). ent 𝓤 (Run us) (Run ws)) (sym (λ i. (e ∙ e₁) i ++ [])) (id⊢ 𝓤 (Run us))) $
    enter ! 𝓣.C 𝓣.Λ fn us Post $ alloc_all ! (λ l. pass_all ! refl ((tt, words), tt) $ let Ev = env fn.locals l in
    let y = at_into E 𝓛 𝓜.mem 𝓡.returns κ q r b₁ o₁ in
    first ! $ blocks ! $ sets ! (of_opd ! (get ! refl)) refl (tt, words) $
    use2 𝓛 (raw ((Into E 𝓛 𝓜.mem 𝓡.returns).pre y)) (Into-goes E 𝓛 𝓜.mem 𝓡.returns κ q r b₁ o₁ le) $
    calls_at_last ! (fm 𝓛 𝓜 𝓡) (Into E 𝓛 𝓜.mem 𝓡.returns) met y (and_then ! (get ! refl) (no_more !)) (λ v.
    use1 𝓛 (later (given (v ≡ row_val b₁ o₁ n) (‵ (all E b₁ o₁ xs fs) ⊛ ‵ (flft κ q)))) (Into-gives E 𝓛 𝓜.mem 𝓡.returns κ q r b₁ o₁ v at₁) $ await ! tt $ learn ! (λ ev. split ! $
    lands_last ! refl (parts_typed v b₁ o₁ n ev fn64) $ exec ! 𝓣.C 𝓣.Λ Ev (tail fn.body) (at_ret Ev Post) $
    sets ! (is ! (of_opd ! (get ! refl)) ev) refl (tt, words) $
    sets ! (of_opd ! (get_in ! (fld ! refl (stop !)) (sub ! 0 refl (whole !)))) refl (tt, tt) $
    sets ! (of_opd ! (get_in ! (fld ! refl (stop !)) (sub ! 1 refl (whole !)))) refl (tt, record { fits = fn64 }) $
    sets ! (agg ! (and_then ! (get ! refl) (and_then ! (get ! refl) (no_more !)))) refl (tt, words) $
    use1 𝓛 (‵ (froom (ty_array (mem.elτ (el E)) n) b₁ o₁)) (to_space (el E) 𝓛 b₁ o₁ n xs (sym (slots_counts r).0) fs (sym (slots_counts r).1)) $
    use1 𝓛 (‵ (froom (block_ty (el E) n) b₁ o₁)) (𝓛.laws.room-raw (ty_array (mem.elτ (el E)) n) b₁ o₁) $ block_made (el E) ! b₁ o₁ n fn64 fit $
    let Told : Type 0 = (block_ptr b₁ o₁ ≡ slots_ptr r) × (n ≡ n) in
    nothing ! $ move ! (2 ∷ 0 ∷ []) $ join ! $ use0 𝓛 (raw (fact 𝓤 Told)) (fact_i 𝓤 Told (emp 𝓤) (sym at₁, refl)) $ nothing ! $ nothing ! $ fjoin ! $
    returns ! (look_at ! 0 refl) $ free_all ! refl $ keep ! (2 ∷ 0 ∷ 3 ∷ 1 ∷ []) $
    by ! (leaves 𝓛 En hs c z (row_val b₁ o₁ n) (record { ptr = block_ptr b₁ o₁; len = n }) (tt, tt) (tt, tt))))))))))
