-- `into_raw` tests the pointer, and what the handle owns goes with it.
use Rattle.std.proofs.Common.{ℕ, List, [], ◌∷◌, ◌++◌, refl, sym, subst, lit<}
use seplogic.Ra.Ura.{Ura}
use mir.Val.{Val, vnull, vptr, vcons, vnil}
use base.Logic.{SProp, ent, emp, id⊢, via, fst∗, never, never_e}
use base.Fml.{ftrue, fsep}
use prog.Memory.{Memory}
use prog.Routine.{Routine}
use prog.Wp.{WpFn, Tables}
use types.Logic.{Logic, sem}
use contract.Monad.{Fun}
use contract.Running.{tables, tables_of}
use sound.WpLaws.{WpFn-mono}
use types.Kit.{Item, at_ret, given, learn, use0, ‵, raw, ◌⊛◌, ◌$◌, ◌∵◌, !, qed, by, move, drop, use1, join, split, fsplit, fjoin, suffices, done}
use types.Part.{whole, sub, agg}
use types.Run.{stop, fld, lit, bin, no_more, and_then, of_opd, first, branches, exec, returns, enter}
use types.ByLocal.{alloc_all, pass_all, free_all, look_at, get, get_in, sets, sets_last, env}
use types.Match.{live}
use denote.Exit.{yes}
use denote.RattleType.{RattleType}
use denote.RawPtr.{Ptr, block_ptr, null_ptr, ptr_val, tests_null, Testable}
use denote.Param.{layout}
use denote.Signature.{type_at, plain}
use denote.Steps.{nothing}
use denote.Triple.Spec.{triple_of}
use denote.Triple.Table.{entered}
use denote.Triple.Walked.{says, Stays, stay_dropped, walk_of, ends_at, Goes-dropped, walk_Meets}
use Rattle.core.proofs.alloc.Calls.{Fits}
use Rattle.core.proofs.alloc.Shapes.{after}
use Rattle.core.proofs.cell.Inside.{Good}
use Rattle.core.proofs.option.Made.{Some-of, none_of}
use Rattle.std.specs.declared.option.Option.{Option}
use Rattle.std.specs.declared.option.Option.TheVariants.{None, Some}
use Rattle.std_alloc.proofs.ResultValues.{and_tt}
use Rattle.std_alloc.proofs.BoxSteps.Form.{D, word, box_typed}
use Rattle.std_alloc.proofs.BoxSteps.Steps.{box_in}
use Rattle.std_alloc.specs.Box.Ownership.{box_owns}
use Rattle.std_heap.specs.contracts.Global as Heap
use Rattle.std_heap.specs.contracts.GlobalAllocator.TheImpl.{ghosts}
use Rattle.hashbag_c.specs.Own.{owned_left}
use Rattle.hashbag_c.specs.contracts.held.Left as Left
use Rattle.hashbag_c.specs.contracts.raw_box.RawBox as RawBox
use Rattle.hashbag_c.proofs.AsBox.{LeftE as E}
use Rattle.hashbag_c.proofs.HandleSteps.{Z, both, tested}
use Rattle.hashbag_c.proofs.WalkSteps.{Row, walk_out}
use Rattle.hashbag_c.specs.contracts.walk.Walk.into_raw as F
use Rattle.hashbag_c.specs.contracts.walk.Walk.into_raw.Key.{name as #self}
use Rattle.hashbag_c.proofs.walk.Walk.into_raw.Statement as stated
use Rattle.hashbag_c.proofs.walk.Walk.into_raw.Code as code

abbrev stayed : Stays (F.ended).signature.params (F.ended).kept
stayed = (stay_dropped (plain (λ _. Row)) yes, tt)

abbrev Lr : RattleType
Lr = RawBox.the_row Left.the_row Heap.the_row ghosts

module _ {M : Type 1} {𝓤 : Ura M} (𝓛 : Logic 𝓤) (at_mem : Memory → SProp 𝓤) (run : Routine → Fun 𝓤) (𝓣 : Tables 𝓤 𝓛.H) where
  open 𝓛 use {H}

  abbrev Ghost : Type 0
  Ghost = (walk_of 𝓛 F.ended stayed (F.clauses 𝓛 at_mem run)).Ghost

  abbrev bound : Ptr → Z.Denot → Option Left.the_row.Denot → List Val → Ghost
  bound p a x vs = ((tt, tt, tt, (record { at = p; alloc = a; left = x }, tt), (vs, tt)), tt)

  abbrev Post : Ghost → Val → SProp 𝓤
  Post z = (walk_of 𝓛 F.ended stayed (F.clauses 𝓛 at_mem run)).post z

  abbrev Runs : Ghost → List Val → SProp 𝓤
  Runs z us = WpFn 𝓤 H 𝓣.C 𝓣.Λ code.function (us ++ []) (Post z)

  module _ (a : Z.Denot) (h : Val) (fits : Fits E.al h) (vs : List Val) where
    at_null : ent 𝓤 (types.Kit.⋆ 𝓛 (‵ (Z.own_val a (h ∷ [])) ∷ [])) (Runs (bound null_ptr a None vs) (both vnull h ∷ []))
    at_null =
        let z = bound null_ptr a None vs in let Out = type_at (F.signature).result tt in
        qed 𝓛 (‵ (Z.own_val a (h ∷ [])) ∷ []) ∵ drop ! $ enter ! 𝓣.C 𝓣.Λ code.function (both vnull h ∷ []) _ $
        alloc_all ! (λ l. pass_all ! refl ((and_tt _ fits.0, (record { fits = lit< tt }, (fits.1, tt))), tt) $ let Ev = env code.function.locals l in
        sets ! (of_opd ! (get_in ! (fld ! refl (stop !)) (sub ! 0 refl (whole !)))) refl (tt, record { fits = lit< tt }) $ sets ! (of_opd ! (get_in ! (fld ! refl (stop !)) (sub ! 1 refl (whole !)))) refl fits $
        sets ! (bin ! (get ! refl) (lit ! tt) tt) refl (tt, tt) $ first ! $ branches ! (get ! refl)
        (λ _. sets_last ! (agg ! (and_then ! (lit ! tt) (no_more !))) refl (tt, (record { fits = lit< tt }, tt)) $ exec ! 𝓣.C 𝓣.Λ Ev (after 4 (code.function).body) (at_ret Ev (Post z)) $
        sets ! (of_opd ! (get ! refl)) refl (tt, (record { fits = lit< tt }, tt)) $ returns ! (look_at ! 0 refl) $ free_all ! refl $
        suffices ! _ (ends_at 𝓛 F.ended stayed (F.clauses 𝓛 at_mem run) z (live 0 vnil) None (tt, tt) (tt, tt)) $ says ! refl $
        use0 𝓛 (‵ (Out.own_val None (live 0 vnil ∷ []))) (none_of 𝓛 Lr) $ nothing ! $ nothing ! $ fjoin ! $ join ! $ nothing ! $ join ! $ done !)
        (λ wrong. absurd wrong))

    at_block : (b o : ℕ) (x : Left.the_row.Denot) → ent 𝓤 (types.Kit.⋆ 𝓛 (‵ (box_owns (ghosts.dealloc_token a) Left.the_row (block_ptr b o) x) ∷ ‵ (Z.own_val a (h ∷ [])) ∷ []))
        (Runs (bound (block_ptr b o) a (Some x) vs) (both (vptr b o) h ∷ []))
    at_block b o x =
        let p : Ptr = block_ptr b o in let z = bound p a (Some x) vs in let Out = type_at (F.signature).result tt in
        let Owned = box_owns (ghosts.dealloc_token a) Left.the_row p x in
        let w : Val = word E h b o in let typed = box_typed E h b o fits in let v₁ : Val = live 1 (vcons w vnil) in
        let d : D E = record { ptr = p; alloc = a; value = x } in let made : Lr.Denot = record { ptr = p; alloc = a; value = x } in
        let good : Good (layout Out) v₁ = (and_tt _ typed.0, (record { fits = lit< tt }, (typed.1, tt))) in
        qed 𝓛 (‵ Owned ∷ ‵ (Z.own_val a (h ∷ [])) ∷ []) ∵ use1 𝓛 (given (Testable p) (‵ Owned)) (tested 𝓛 Left.the_row a p x) $ learn ! (λ t. fsplit ! $
        box_in E ! d b o x refl refl $ use1 𝓛 (‵ (Lr.own_val made (w ∷ []))) (id⊢ 𝓤 _) $ use1 𝓛 (‵ (Out.own_val (Some made) (v₁ ∷ []))) (Some-of 𝓛 Lr made w) $
        enter ! 𝓣.C 𝓣.Λ code.function (w ∷ []) _ $
        alloc_all ! (λ l. pass_all ! refl (typed, tt) $ let Ev = env code.function.locals l in
        sets ! (of_opd ! (get_in ! (fld ! refl (stop !)) (sub ! 0 refl (whole !)))) refl (tt, tt) $ sets ! (of_opd ! (get_in ! (fld ! refl (stop !)) (sub ! 1 refl (whole !)))) refl fits $
        sets ! (bin ! (get ! refl) (lit ! tt) (tests_null p t)) refl (tt, tt) $ first ! $ branches ! (get ! refl) (λ wrong. absurd wrong)
        (λ _. sets ! (of_opd ! (get ! refl)) refl (tt, tt) $ sets ! (agg ! (and_then ! (get ! refl) (and_then ! (get ! refl) (no_more !)))) refl typed $
        sets_last ! (agg ! (and_then ! (lit ! tt) (and_then ! (get ! refl) (no_more !)))) refl good $
        exec ! 𝓣.C 𝓣.Λ Ev (after 4 (code.function).body) (at_ret Ev (Post z)) $ sets ! (of_opd ! (get ! refl)) refl good $ returns ! (look_at ! 0 refl) $ free_all ! refl $
        suffices ! _ (ends_at 𝓛 F.ended stayed (F.clauses 𝓛 at_mem run) z v₁ (Some made) (tt, tt) (tt, tt)) $ says ! refl $
        nothing ! $ nothing ! $ fjoin ! $ join ! $ nothing ! $ join ! $ done !)))

  walk_at : (p : Ptr) (a : Z.Denot) (x : Option Left.the_row.Denot) (vs : List Val) (h : Val) → Fits E.al h
      → ent 𝓤 (types.Kit.⋆ 𝓛 (‵ (owned_left a p x) ∷ ‵ (Z.own_val a (h ∷ [])) ∷ [])) (Runs (bound p a x vs) (both (ptr_val p) h ∷ []))
  walk_at null_ptr a None vs h fits = qed 𝓛 (‵ ftrue ∷ ‵ (Z.own_val a (h ∷ [])) ∷ []) ∵ drop ! $ by ! (at_null a h fits vs)
  walk_at null_ptr a (Some x) vs h fits = via 𝓤 (never 𝓤) (fst∗ 𝓤 (never 𝓤) (sem 𝓛 (Z.own_val a (h ∷ [])))) (never_e 𝓤 _)
  walk_at (block_ptr b o) a None vs h fits = via 𝓤 (never 𝓤) (fst∗ 𝓤 (never 𝓤) (sem 𝓛 (Z.own_val a (h ∷ [])))) (never_e 𝓤 _)
  walk_at (block_ptr b o) a (Some x) vs h fits = at_block a h fits vs b o x

  walk : (z : Ghost) → ent 𝓤 ((walk_of 𝓛 F.ended stayed (F.clauses 𝓛 at_mem run)).pre z) (Runs z z.0.4.0)
  walk z =
      qed 𝓛 ((‵ ftrue ⊛ ‵ (fsep (Row.own_val z.0.3.0 z.0.4.0) ftrue)) ∷ raw (emp 𝓤) ∷ []) ∵ split ! $ drop ! $ fsplit ! $
      walk_out ! z.0.3.0 z.0.4.0 (λ h e fits. move ! (2 ∷ 3 ∷ []) $ drop ! $ drop ! $
      let d = z.0.3.0 in let Γ : List (Item 𝓤) = ‵ (owned_left d.alloc d.at d.left) ∷ ‵ (Z.own_val d.alloc (h ∷ [])) ∷ [] in
      by ! (subst (λ (us : List Val). ent 𝓤 (types.Kit.⋆ 𝓛 Γ) (Runs z us)) (sym e) (walk_at d.at d.alloc d.left z.0.4.0 h fits)))

pub into_raw_spec : {M : Type 1} → stated.statement M
unfolding tables_of
into_raw_spec 𝓤 𝓛 𝓜 𝓡 wired =
    let 𝓣 : Tables 𝓤 𝓛.H = tables_of 𝓤 𝓛.H 𝓜 (tables 𝓤 𝓛.H 𝓜 𝓡 𝓡.env) in
    entered 𝓤 𝓛.H (triple_of 𝓛 F.signature (F.spec 𝓛 𝓜.mem 𝓡.returns)) 𝓣.C 𝓣.Λ #self code.function (code.unfolded 𝓤 𝓛.H 𝓜 𝓡 wired)
    (walk_Meets 𝓛 F.ended stayed (Goes-dropped 𝓛 0 (plain (λ _. Row)) yes (λ κs x f. refl), tt) (F.clauses 𝓛 𝓜.mem 𝓡.returns) (WpFn 𝓤 𝓛.H 𝓣.C 𝓣.Λ code.function) (WpFn-mono 𝓤 𝓛.H 𝓛.laws 𝓣 code.function)
    (walk 𝓛 𝓜.mem 𝓡.returns 𝓣))
