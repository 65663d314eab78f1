-- `none` puts a null pointer beside the allocator.
use Rattle.std.proofs.Common.{List, [], ◌∷◌, ◌++◌, refl, sym, subst, lit<}
use mir.Val.{Val, vnull}
use base.Logic.{ent, emp}
use base.Fml.{ftrue, fsep}
use prog.Wp.{WpFn}
use types.Kit.{Item, ‵, raw, ◌⊛◌, ◌$◌, ◌∵◌, !, qed, by, move, drop, join, split, fsplit, fjoin, suffices, done}
use types.Part.{agg}
use types.Run.{lit, no_more, and_then, returns, enter}
use types.ByLocal.{alloc_all, pass_all, free_all, look_at, get, sets}
use contract.Running.{tables}
use denote.Exit.{yes}
use denote.RawPtr.{null_ptr}
use denote.Signature.{plain}
use denote.Steps.{nothing}
use denote.Triple.Walked.{says, Stays, stay_dropped, walk_of, ends_at, Goes-dropped}
use Rattle.core.proofs.alloc.Calls.{handle_tells}
use Rattle.std.proofs.raw_atomic.Walks.{proved_at}
use Rattle.std.specs.declared.option.Option.TheVariants.{None}
use Rattle.std_alloc.proofs.ResultValues.{and_tt}
use Rattle.hashbag_c.proofs.AsBox.{LeftE as E}
use Rattle.hashbag_c.proofs.HandleSteps.{Z, both}
use Rattle.hashbag_c.proofs.WalkSteps.{Row, walk_in}
use Rattle.hashbag_c.specs.contracts.walk.Walk.none as F
use Rattle.hashbag_c.specs.contracts.walk.Walk.none.Key.{name as #self}
use Rattle.hashbag_c.proofs.walk.Walk.none.Statement.{statement}
use Rattle.hashbag_c.proofs.walk.Walk.none.Code as code

pub none_spec : {M : Type 1} → statement M
none_spec 𝓤 𝓛 𝓜 𝓡 wired =
    let H = 𝓛.H in let 𝓣 = tables 𝓤 H 𝓜 𝓡 𝓡.env in let c = F.clauses 𝓛 𝓜.mem 𝓡.returns in
    let hs : Stays (F.ended).signature.params (F.ended).kept = (stay_dropped (plain (λ _. Z)) yes, tt) in
    proved_at 𝓛 F.ended hs c 𝓜 𝓡 (Goes-dropped 𝓛 0 (plain (λ _. Z)) yes (λ κs x f. refl), tt) #self code.function (code.unfolded 𝓤 H 𝓜 𝓡 wired) (λ z are.
    let a = z.0.3.0 in let Post = (walk_of 𝓛 F.ended hs c).post z in
    qed 𝓛 ((‵ ftrue ⊛ ‵ (fsep (Z.own_val a z.0.4.0) ftrue)) ∷ raw (emp 𝓤) ∷ []) ∵ split ! $ drop ! $ fsplit ! $
    handle_tells E.al ! a z.0.4.0 (λ h eh fits. move ! (1 ∷ 2 ∷ []) $ drop ! $ drop ! $ nothing ! $ walk_in ! null_ptr h a None $
    let w : Val = both vnull h in let Γ : List (Item 𝓤) = ‵ (Row.own_val (record { at = null_ptr; alloc = a; left = None }) (w ∷ [])) ∷ [] in
    by ! (subst (λ (us : List Val). ent 𝓤 (types.Kit.⋆ 𝓛 Γ) (WpFn 𝓤 H 𝓣.C 𝓣.Λ code.function (us ++ []) Post)) (sym eh)
    (qed 𝓛 Γ ∵ enter ! 𝓣.C 𝓣.Λ code.function (h ∷ []) _ $ alloc_all ! (λ ls. pass_all ! refl (fits, tt) $
    sets ! (agg ! (and_then ! (lit ! tt) (and_then ! (get ! refl) (no_more !)))) refl (and_tt _ fits.0, (record { fits = lit< tt }, (fits.1, tt))) $ returns ! (look_at ! 0 refl) $ free_all ! refl $
    suffices ! _ (ends_at 𝓛 F.ended hs c z w (record { at = null_ptr; alloc = a; left = None }) (tt, tt) (tt, tt)) $ says ! refl $
    nothing ! $ nothing ! $ fjoin ! $ join ! $ nothing ! $ join ! $ done !)))))
