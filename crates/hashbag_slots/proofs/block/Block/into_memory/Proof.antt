-- `into_memory` makes empty places of the block, each with the value that is lent. Assumes `Logic`.
use Rattle.std.proofs.Common.{◌≡◌, ℕ, false, Bool, List, [], ◌∷◌, ◌++◌, replicate, refl, sym, ◌∙◌, subst}
use lib.ListN.{length-replicate}
use mir.Syntax.{Args, Fn, ty_array, a_type, given as dict_at}
use mir.Val.{Val, vptr, WT}
use mir.MapTy.{inst_fn}
use base.Logic.{SProp, ent, emp, id⊢}
use base.Fml.{Lft, Share, ftrue, froom, flft}
use prog.Wp.{WpFn}
use contract.BorrowLft.{◌⊑◌}
use contract.Monad.{fact, fact_i}
use contract.Running.{tables}
use types.Kit.{‵, raw, ◌⊛◌, some, given, later, at_ret, ◌$◌, ◌∵◌, !, qed, by, move, keep, drop, use0, use1, use2, split, split3, join, pick, learn, fsplit, fjoin, suffices, await}
use types.Part.{whole, sub}
use types.Run.{stop, fld, of_opd, no_more, and_then, first, blocks, exec, returns, enter}
use types.ByLocal.{alloc_all, pass_all, free_all, look_at, get, get_in, is, sets, lands_last, env}
use denote.RattleType.{RattleType, owns}
use denote.Param.{param, layouts}
use denote.Builtin.{RefOf}
use denote.Exit.{yes, no}
use denote.Signature.{plain, types_at}
use denote.Steps.{nothing, heard}
use denote.Triple.Call.{calls_at_last}
use denote.Triple.Walked.{Stays, stay_dropped, walk_of, Goes-dropped}
use Rattle.std.proofs.raw_atomic.Walks.{proved_at, leaves}
use Rattle.core.proofs.atomic.Steps.{fm, tail}
use Rattle.core.proofs.mem.Param as mem
use Rattle.core.proofs.slots.Opens.{row_val}
use Rattle.core.proofs.slots.Runs.{of_space}
use Rattle.core.specs.Mem.Slots.{slots_filled, slots_ptr, slots_len}
use Rattle.core.proofs.slots.Slots.from_raw_parts.Met as callee
use Rattle.std_alloc.proofs.VecSteps.El.{El}
use Rattle.std_alloc.proofs.vec.Blocks.{el, all}
use Rattle.std_alloc.proofs.vec.Spares.{Row, From, at_from, Made, from_goes, from_gives, row_Typed}
use Rattle.hashbag_slots.proofs.Blocks.{Rr, block_had}
use Rattle.hashbag_slots.specs.contracts.block.Block.into_memory.{ended, clauses}
use Rattle.hashbag_slots.specs.contracts.block.Block.into_memory.Key.{name as #self}
use Rattle.hashbag_slots.proofs.block.Block.into_memory.Statement.{statement}
use Rattle.hashbag_slots.proofs.block.Block.into_memory.Code as code

pub into_memory_spec : {M : Type 1} → statement M
into_memory_spec 𝓤 𝓛 𝓜 𝓡 wired T L =
    let H = 𝓛.H in let 𝓣 = tables 𝓤 H 𝓜 𝓡 𝓡.env in let R : RattleType = param 0 T in
    let E : El = record { row = T; laws = L; al = record { row = T; laws = L; g = record { dealloc_token = λ _ _ _. ftrue }; d = dict_at 0; drops = dict_at 0 } } in
    let En = ended T in let c = clauses T 𝓛 𝓜.mem 𝓡.returns in
    let inst : Args = layouts (a_type ∷ []) (T, tt) in let fn : Fn = inst_fn inst code.function in
    let met = callee.met 𝓤 𝓛 𝓜 𝓡 (code.calls-core::slots::Slots::from_raw_parts 𝓡.env wired) T L in
    let hs : Stays En.signature.params En.kept = (stay_dropped (plain (λ _. Rr (el E))) no, (stay_dropped (RefOf (0 ∷ []) tt (plain (λ _. R)) (λ _. tt)) yes, tt)) in
    proved_at 𝓛 En hs c 𝓜 𝓡 (Goes-dropped 𝓛 2 (plain (λ _. Rr (el E))) no (λ κs x f. refl), (Goes-dropped 𝓛 2 (RefOf (0 ∷ []) tt (plain (λ _. R)) (λ _. tt)) yes (λ κs x f. refl), tt))
    (#self inst) fn (code.unfolded 𝓤 H 𝓜 𝓡 wired (T, tt)) (λ z are.
    let κ : Lft = z.0.0.0 in let q : Share = z.0.1.0 in let κT : Lft = z.0.0.1.0 in let qT : Share = z.0.1.1.0 in
    let d = z.0.3.0 in let like = z.0.3.1.0 in let vss = z.0.4 in let n : ℕ = d.len in
    let xs : List T.Denot = replicate n like.now in let fs : List Bool = replicate n false in
    let Post : Val → SProp 𝓤 = (walk_of 𝓛 En hs c).post z in let Run : List Val → SProp 𝓤 = λ ws. WpFn 𝓤 H 𝓣.C 𝓣.Λ fn ws Post in
    qed 𝓛 (((‵ (flft κ q) ⊛ ‵ (flft κT qT) ⊛ ‵ ftrue) ⊛ ‵ (owns (types_at En.signature.params z.0.0) z.0.3 vss)) ∷ (raw (fact 𝓤 (κT ⊑ T.lives)) ⊛ ‵ ftrue) ∷ []) ∵
    move ! (1 ∷ []) $ split ! $ heard ! (κT ⊑ T.lives) (λ le. drop ! $ split ! $ split3 ! $ move ! (3 ∷ []) $ fsplit ! $ block_had (el E) ! d vss.0 (λ b o at e fn64 fit.
    keep ! (0 ∷ 3 ∷ 2 ∷ []) $
    let us : List Val = row_val b o n ∷ vptr like.ref_ptr.0 like.ref_ptr.1 ∷ [] in
    suffices ! (Run us) (subst (λ (ws : List Val). ent 𝓤 (Run us) (Run ws)) (sym (λ i. e i ++ (are.1.0.0 i ++ []))) (id⊢ 𝓤 (Run us))) $
    use1 𝓛 (‵ (froom (ty_array (mem.elτ (el E)) n) b o)) (𝓛.laws.raw-room (ty_array (mem.elτ (el E)) n) b o) $
    use1 𝓛 (‵ (all E b o xs fs)) (of_space (el E) 𝓛 b o n xs (length-replicate n like.now)) $
    let words : WT (row_val b o n) = (tt, (record { fits = fn64 }, tt)) in
    enter ! 𝓣.C 𝓣.Λ fn us Post $ alloc_all ! (λ l. pass_all ! refl ((tt, words), ((tt, tt), tt)) $ let Ev = env fn.locals l in
    let y = at_from E 𝓛 𝓜.mem 𝓡.returns κT qT b o n xs fs in
    sets ! (of_opd ! (get_in ! (fld ! refl (stop !)) (sub ! 0 refl (whole !)))) refl (tt, tt) $
    sets ! (of_opd ! (get_in ! (fld ! refl (stop !)) (sub ! 1 refl (whole !)))) refl (tt, record { fits = fn64 }) $ first ! $ blocks ! $
    use2 𝓛 (raw ((From E 𝓛 𝓜.mem 𝓡.returns).pre y)) (from_goes E 𝓛 𝓜.mem 𝓡.returns κT qT b o n xs fs le (sym (length-replicate n like.now)) (sym (length-replicate n false)) fn64 fit) $
    calls_at_last ! (fm 𝓛 𝓜 𝓡) (From E 𝓛 𝓜.mem 𝓡.returns) met y (and_then ! (get ! refl) (and_then ! (get ! refl) (no_more !))) (λ v.
    use1 𝓛 (later (some (λ (r : (Row E).Denot). given ((v ≡ row_val b o n) × Made E 𝓛 𝓜.mem 𝓡.returns κT qT b o n xs fs r) (‵ ((Row E).own_val r (row_val b o n ∷ [])) ⊛ ‵ (flft κT qT)))))
    (from_gives E 𝓛 𝓜.mem 𝓡.returns κT qT b o n xs fs v) $ await ! tt $ pick ! (λ r. learn ! (λ got. split ! $ let made = got.1 in
    let Told : Type 0 = (slots_ptr r ≡ d.ptr) × (slots_len r ≡ n) × (slots_filled r ≡ fs) in
    lands_last ! refl (row_Typed E v b o n got.0 fn64) $ exec ! 𝓣.C 𝓣.Λ Ev (tail (tail (tail fn.body))) (at_ret Ev Post) $ sets ! (is ! (of_opd ! (get ! refl)) got.0) refl (tt, words) $
    nothing ! $ move ! (2 ∷ 0 ∷ []) $ join ! $ move ! (2 ∷ 0 ∷ []) $ join ! $ use0 𝓛 (raw (fact 𝓤 Told)) (fact_i 𝓤 Told (emp 𝓤) (made.0 ∙ sym at, made.1, made.3)) $ nothing ! $ nothing ! $ fjoin ! $ nothing ! $ fjoin ! $
    returns ! (look_at ! 0 refl) $ free_all ! refl $ keep ! (2 ∷ 0 ∷ 3 ∷ 1 ∷ []) $ by ! (leaves 𝓛 En hs c z (row_val b o n) r (tt, (tt, tt)) (tt, (tt, tt))))))))))
