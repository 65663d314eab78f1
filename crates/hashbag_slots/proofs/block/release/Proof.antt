-- `release` hands the block back with its deed. Assumes `Logic`.
use Rattle.std.proofs.Common.{◌≡◌, ℕ, ◌*◌, ◌^◌, ◌<◌, List, [], ◌∷◌, ◌++◌, refl, sym, ap, subst, ◌∙◌, arith, w64}
use lib.Dec.{T}
use mir.Syntax.{Args, Fn, ty_unit}
use mir.Val.{Val, vint, vptr, vunit, has_ty, WT}
use mir.MapTy.{inst_fn}
use base.Logic.{SProp, ent, id⊢}
use base.Fml.{Lft, Share, ftrue, froom, flft}
use prog.Memory.{align, capped}
use prog.Capped.{capped_fits}
use prog.Wp.{Env, WpFn}
use contract.BorrowLft.{◌⊑◌}
use contract.Monad.{fact}
use contract.Running.{tables}
use types.Kit.{‵, raw, ◌⊛◌, given, later, at_ret, ◌$◌, ◌∵◌, !, qed, by, move, keep, drop, use1, use3, split, join, learn, rewrite, fsplit, fsplit3, fjoin, feq_i, feq_l, suffices, await}
use types.Part.{whole, sub}
use types.Run.{stop, fld, size_word, align_word, unit_lit, no_more, and_then, of_opd, bin, first, blocks, exec, returns, enter}
use types.ByLocal.{alloc_all, pass_all, free_all, look_at, get, get_in, is, sets, lands_last, env}
use denote.RattleType.{owns}
use denote.RawPtr.{Ptr, block_ptr}
use denote.Builtin.{RefOf}
use denote.Exit.{yes, no}
use denote.Signature.{plain, types_at}
use denote.Steps.{nothing, heard}
use denote.Triple.Call.{calls_at_last}
use denote.Triple.Walked.{Stays, stay_dropped, walk_of, Goes-dropped}
use Rattle.std.proofs.raw_atomic.Walks.{proved_at, leaves}
use Rattle.core.proofs.atomic.Steps.{fm}
use Rattle.core.proofs.mem.Param.{El, elτ}
use Rattle.core.proofs.alloc.Calls.{Al, token, Gives, at_gives, Gives-goes, Gives-Gives}
use Rattle.core.proofs.slots.Bodies.{after}
use Rattle.core.proofs.slots.Places.{sz}
use Rattle.core.proofs.slots.Opens.{row_val}
use Rattle.core.proofs.slots.Leases.{uncapped, block_ty, block_size, block_align, args, P}
use Rattle.hashbag_slots.proofs.Blocks.{Rr, Dr, deed_val, block_had, deed_had}
use Rattle.hashbag_slots.specs.contracts.block.release.{ended, clauses}
use Rattle.hashbag_slots.specs.contracts.block.release.Key.{name as #self}
use Rattle.hashbag_slots.proofs.block.release.Statement.{statement}
use Rattle.hashbag_slots.proofs.block.release.Code as code

pub release_spec : {M : Type 1} → statement M
release_spec 𝓤 𝓛 𝓜 𝓡 wired X Y LX LY g d dd met md =
    let E : El = record { row = X; laws = LX } in let Z : Al = record { row = Y; laws = LY; g = g; d = d; drops = dd } in
    let H = 𝓛.H in let 𝓣 = tables 𝓤 H 𝓜 𝓡 𝓡.env in
    let En₀ = ended X Y g d dd in let c = clauses X Y g d dd 𝓛 𝓜.mem 𝓡.returns in
    let inst : Args = args E Z in let here : Fn = inst_fn inst code.function in
    let hs : Stays En₀.signature.params En₀.kept = (stay_dropped (RefOf (0 ∷ []) tt (plain (λ _. P E Z)) (λ _. tt)) yes, (stay_dropped (plain (λ _. Rr E)) no, (stay_dropped (plain (λ _. Dr E Z)) no, tt))) in
    proved_at 𝓛 En₀ hs c 𝓜 𝓡 (Goes-dropped 𝓛 3 (RefOf (0 ∷ []) tt (plain (λ _. P E Z)) (λ _. tt)) yes (λ κs x f. refl), (Goes-dropped 𝓛 3 (plain (λ _. Rr E)) no (λ κs x f. refl), (Goes-dropped 𝓛 3 (plain (λ _. Dr E Z)) no (λ κs x f. refl), tt)))
    (#self inst) here (code.unfolded 𝓤 H 𝓜 𝓡 wired (X, (Y, tt)) d dd) (λ z are.
    let κ : Lft = z.0.0.0 in let κ₁ = z.0.0.1.0 in let κ₂ = z.0.0.1.1.0 in let q : Share = z.0.1.0 in let q₁ = z.0.1.1.0 in let q₂ = z.0.1.1.1.0 in
    let hp : ℕ × ℕ = z.0.3.0.ref_ptr in let a : Y.Denot = z.0.3.0.now in let r = z.0.3.1.0 in let u = z.0.3.1.1.0 in let vss = z.0.4 in
    let Post : Val → SProp 𝓤 = (walk_of 𝓛 En₀ hs c).post z in let Run : List Val → SProp 𝓤 = λ ws. WpFn 𝓤 H 𝓣.C 𝓣.Λ here ws Post in
    let Ok : Type 0 = (u.at ≡ r.ptr) × (u.len ≡ r.len) × (u.alloc ≡ a) in
    let n : ℕ = r.len in let s : ℕ = sz E in let al : ℕ = capped (align (elτ E)) in
    qed 𝓛 (((‵ (flft κ q) ⊛ ‵ (flft κ₁ q₁) ⊛ ‵ (flft κ₂ q₂) ⊛ ‵ ftrue) ⊛ ‵ (owns (types_at En₀.signature.params z.0.0) z.0.3 vss))
    ∷ (raw (fact 𝓤 (κ₁ ⊑ X.lives)) ⊛ raw (fact 𝓤 (κ₂ ⊑ Y.lives)) ⊛ raw (fact 𝓤 Ok)) ∷ []) ∵
    move ! (1 ∷ []) $ split ! $ drop ! $ split ! $ heard ! (κ₂ ⊑ Y.lives) (λ inZ. heard ! Ok (λ ok.
    split ! $ split ! $ move ! (2 ∷ []) $ fsplit3 ! $ fsplit ! $ feq_l ! (λ e₀. move ! (1 ∷ []) $ block_had E ! r vss.1.0 (λ b o at e₁ fn fit.
    let small : n * s < 2 ^ 64 = omega arith in
    move ! (2 ∷ []) $ fsplit ! $ deed_had E Z ! u vss.1.1.0 (λ e₂.
    rewrite ! 0 (λ (p : Ptr). ‵ (token Z u.alloc (block_ty E u.len) p)) (ok.0 ∙ at) refl $ rewrite ! 0 (λ (k : ℕ). ‵ (token Z u.alloc (block_ty E k) (block_ptr b o))) ok.1 refl $
    rewrite ! 0 (λ (w : Y.Denot). ‵ (token Z w (block_ty E n) (block_ptr b o))) ok.2 refl $ keep ! (2 ∷ 0 ∷ 3 ∷ 4 ∷ 5 ∷ []) $
    -- [the block; its deed; the handle; its token; the other tokens]
    let us : List Val = vptr hp.0 hp.1 ∷ row_val b o n ∷ deed_val ∷ [] in
    suffices ! (Run us) (subst (λ (ws : List Val). ent 𝓤 (Run us) (Run ws)) (sym (λ k. e₀ k ++ (e₁ k ++ (e₂ k ++ [])))) (id⊢ 𝓤 (Run us))) $
    enter ! 𝓣.C 𝓣.Λ here us Post $ alloc_all ! (λ l. pass_all ! refl ((tt, tt), ((tt, (tt, (record { fits = fn }, tt))), ((tt, (tt, tt)), tt))) $
    let En : Env 𝓤 H = env here.locals l in
    let y : (Gives Z 𝓛 𝓜.mem 𝓡.returns).Ghost = at_gives Z 𝓛 𝓜.mem 𝓡.returns κ q hp a b o (n * s) al (block_ty E n) in
    sets ! (of_opd ! (get_in ! (fld ! refl (stop !)) (sub ! 0 refl (whole !)))) refl (tt, tt) $
    sets ! (of_opd ! (get_in ! (fld ! refl (stop !)) (sub ! 1 refl (whole !)))) refl (tt, record { fits = fn }) $ first ! $ blocks ! $ sets ! (of_opd ! (get ! refl)) refl (tt, tt) $
    sets ! (is ! (bin ! (get ! refl) (size_word !) (record { fits = subst (λ (k : ℕ). k < 2 ^ 64) (sym (uncapped n s small)) small })) (ap (vint w64) (uncapped n s small))) refl (tt, record { fits = small }) $
    move ! (2 ∷ 3 ∷ []) $ join ! $ move ! (1 ∷ 2 ∷ 0 ∷ []) $ use3 𝓛 (raw ((Gives Z 𝓛 𝓜.mem 𝓡.returns).pre y))
    (Gives-goes Z 𝓛 𝓜.mem 𝓡.returns κ q hp a (base.Fml.Incl-trans z.0.2.0 inZ) b o (n * s) al (block_ty E n) (block_size E n small) (block_align E n) small (capped_fits (align (elτ E)))) $
    calls_at_last ! (fm 𝓛 𝓜 𝓡) (Gives Z 𝓛 𝓜.mem 𝓡.returns) (met.deallocate dd) y (and_then ! (get ! refl) (and_then ! (get ! refl) (and_then ! (get ! refl) (and_then ! (align_word !) (no_more !))))) (λ v.
    use1 𝓛 (later (given (v ≡ vunit) (‵ (flft κ q)))) (Gives-Gives Z 𝓛 𝓜.mem 𝓡.returns κ q hp a b o (n * s) al (block_ty E n) v) $ await ! tt $ learn ! (λ e.
    lands_last ! refl (subst (λ (w : Val). T (has_ty ty_unit w) × WT w) (sym e) (tt, tt)) $ exec ! 𝓣.C 𝓣.Λ En (after 3 here.body) (at_ret En Post) $
    sets ! (of_opd ! (unit_lit !)) refl (tt, tt) $
    move ! (0 ∷ 1 ∷ []) $ join ! $ feq_i ! (List Val) (vunit ∷ []) (vunit ∷ []) refl $ nothing ! $ nothing ! $ fjoin ! $ nothing ! $ fjoin ! $ nothing ! $ fjoin ! $ nothing ! $
    returns ! (look_at ! 0 refl) $ free_all ! refl $ keep ! (3 ∷ 1 ∷ 2 ∷ 0 ∷ []) $ by ! (leaves 𝓛 En₀ hs c z vunit tt (tt, (tt, (tt, tt))) (tt, (tt, (tt, tt)))))))))))))
