-- `try_take`, by hand: Rattle writes no proof of its `left`, since its result has a `T` beside a `&T`.
--
-- The body is two calls: `taken_or_lent(self.take_one(key), self, key)`. The walk is in the borrow checker's own rules,
-- and follows what Rattle writes where it covers such a clause. The bag is lent again to `take_one` for a lifetime that is
-- made for the call, and comes back. Then it is shared for all the time that the caller's loan has left, which says its
-- last value. That stays in the local of `self` until the function returns, and the clause is made of it. The key is
-- `Copy`: both calls are passed copies, and the function's own copy is dropped at the end.
--
-- What stands where, from the top:
--
-- 1. The types: of the bag (`R`), of the key (`pQ`), of what `take_one` returns (`Taken`) and of the answer (`Answer`), as the
--    logic holds them, and as the code writes them (`tA`, `tM` and so on). `taken_kind` and `answer_kind` are the two results as
--    kinds.
-- 2. What the walk owes of `self` (`owe`): nothing while the bag is lent, and then its last value. `key` is the key as a parameter.
-- 3. The locals before and after each statement, from `entry` to `leaving`. Each has six rows: the result, `self`, `key`, what
--    was taken, the bag lent again, the bag shared.
-- 4. Each statement as a step on the values in these locals: `lends`, `shortens`, `takes`, `comes`, `shares`, `answers`, `lands`,
--    `drops`, `lets_key`, `owes`. `Φ-10` down to `Φ-0` chain them, last statement first, like weakest preconditions: `Φ-0` is
--    what has to be proved of the values at entry.
-- 5. The code from each statement on, from `lends-s` to `lends-t`.
-- 6. The walk itself, for any lifetimes `κs` and shares `qs` of their tokens. First the tables of lifetimes: eight places, of the bag's
--    loan, of T, of S, of the hasher, of the key, the static one, the one made for the call, and what it has in common with those
--    of T and S. Then one context for each place in the code (`G-entry` to `G-leaving`). Then the proofs, the last
--    statement first: `returns`, `lets_go`, `gives_answer`, `shares_self`, `ends`, `takes_one`, `meets`, and `typed` for the whole body.
-- 7. What is owed gives the clause (`meaning`, `gives_left`, `owed`): the last value is the bag less one of what the key names.
-- 8. What is left to show of the values (`asked`): that both calls may be made, and at the return the clauses. This is all that is
--    particular to bags: it is `answer_named` of `AnswerLemmas`, by the clauses of `take_one` and `taken_or_lent`, and by the law that
--    a key names one value (`NamesOne`).
-- 9. The function meets its contract (`met`), and that under the names that other proofs use (`try_take_spec`).
--
-- A change of `take_one`'s or `taken_or_lent`'s clauses asks for a change of `asked` alone, and one of the body for 3 to 6.
use Rattle.hashbag_core.proofs.bag.HashBag.TheLaws.{the_within, the_row_laws}
use Rattle.hashbag_core.specs.contracts.bag.HashBag.{the_row}
use Rattle.std.specs.Cmp.{IsEquivalence}
use Rattle.hashbag_core.specs.Held.{HasFewer}
use Rattle.hashbag_core.proofs.AnswerLemmas.{answer_named}
use Rattle.hashbag_core.specs.contracts.bag.HashBag.try_take.Key.{name as symbol}
use Rattle.hashbag_core.proofs.bag.HashBag.try_take.Statement.{statement}
use Rattle.hashbag_core.proofs.bag.HashBag.try_take.Code as code
use Rattle.hashbag_core.proofs.bag.HashBag.try_take.Kinds as kinds
use Rattle.hashbag_core.proofs.bag.HashBag.try_take.Reads as reads
use Rattle.hashbag_core.proofs.bag.HashBag.try_take.Lts as lts
use Rattle.hashbag_core.proofs.bag.HashBag.try_take.Tie as tie
use Rattle.hashbag_core.proofs.bag.HashBag.take_one.Symbol.{name as #take-one}
use Rattle.hashbag_core.proofs.bag.HashBag.taken_or_lent.Symbol.{name as #taken-or-lent}
use Rattle.std.specs.contracts.result.Result as result_rows
use Rattle.std.proofs.result.Result.TheLaws as result_laws
use Rattle.hashbag_slots.specs.declared.key.Key.{Ghosts as KeyGhosts}
use Rattle.std.specs.declared.clone.Clone.{Ghosts as CloneGhosts}
use Rattle.std.specs.declared.cmp.Eq.{Ghosts as EqGhosts}
use Rattle.std.specs.declared.cmp.PartialEq.{Ghosts as PartialEqGhosts}
use Rattle.std.specs.declared.hash.Hash.{Ghosts as HashGhosts}
use Rattle.std.specs.declared.hash.BuildHasher.{Ghosts as BuildHasherGhosts}
use Rattle.std.specs.declared.hash.Hasher.{Ghosts as HasherGhosts}
use Prim.Native.Nat.{ℕ}
use mathlib.Core.List.{List, [], ◌∷◌, ◌++◌}
use mathlib.Core.Option.{Option, none, some}
use mathlib.Core.Bool.{true}
use mathlib.Core.Path.{◌≡◌, refl, subst}
use seplogic.Ra.Ura.{Ura}
use base.Fml.{Fml, GName, fres, ftrue, Lft, Incl}
use base.Fraction.{full_share}
use base.FractionLaws.{Common, common}
use base.Logic.{ent, ex_i, emp, id⊢}
use mir.Syntax.{Args, Dict, Dicts, dcons, dnil, a_type, Ty, ty_unit, Body, ty_ref, named, erased, mut, imm, assign, addr_of, place, deref, call, copy, return, seq}
use prog.Wp.{Env, Tables, WpFn}
use contract.Running.{tables_of}
use denote.Triple.Statement.{Triple}
use mir.MapTy.{inst_fn}
use types.Logic.{Logic, sem}
use contract.BorrowLft.{◌⊑◌, ⊑_trans, ⊑_meet, meet_⊑_left, meet_⊑_right}
use contract.Lifetimes.{Lfts, Shares as ShareList, AllOutlive}
use denote.Param.{param, copied, layout, read, bounded}
use denote.Param.Laws.{Laws, IsCopy, param_laws, copied_laws, copied_copy, copy_told, of_field}
use denote.Param.Mute.{Mute-still}
use denote.Param.Shared.{copy_shared}
use denote.RattleType.{RattleType, RowLaws}
use denote.Ref.{NamedLft}
use denote.Enum.Declared.{row}
use denote.Exit.{no}
use denote.Memory.{pointee}
use denote.Follow.{follows_so, such_by, follows_by}
use Rattle.std.specs.Prelude.{⊤}
use denote.Enum.Loose.{loose_lawful}
use denote.Shares.{Shares-less}
use denote.Struct.Field.{u64-field}
use denote.Struct.Laws.{u64-laws, u64-copy}
use borrow.Table.Own.{Told, Told-none}
use borrow.Table.Reads.{as_is, room_gone, reads_mref, reads_sref}
use borrow.Table.Row.{hd as head, Row, Entry, Life, Cx, Rho, off, lease, alive, dead, carved, lft, share_of, set_life}
use borrow.Table.Rows.{any_gone, mref, mref_owed, mleft, sref, whole}
use borrow.Table.Typed.{Mo, Gives, Both, Asks, TF, Outs, Typed, give, ask, both, pass, at_ret, s_seq, g_pre_lem, t_return}
use borrow.Fn.Args.{ArgsT}
use borrow.Fn.Call.{call_b, pin_lease, within_lease, sub_id}
use borrow.Fn.Enter.{tys_p}
use borrow.Fn.Frame.{EnvOf}
use borrow.Fn.Function.{Γin, Δret, init, plain_of}
use borrow.Fn.Kind.{ParamKind, ResultKind}
use borrow.Fn.Any.{want_q}
use borrow.Fn.Claims.{All-at}
use borrow.Fn.Kinds.{Dens, GoodsP, ty_r, os_r}
use borrow.Fn.Plain.{t_call_plain_by_Pin, t_fn_plain_given}
use borrow.Fn.Read.{all∗_one}
use borrow.Fn.Run.{Over}
use borrow.Fn.Written.{at_code}
use borrow.Fn.Result.{res_typed}
use borrow.Fn.World.{World}
use borrow.Follows.Closed.{Owed, Owing, close_follows}
use borrow.Follows.Home.{k_owing_here, g_owing_here}
use borrow.Follows.Kind.{Owes, owing_by}
use borrow.Follows.Lender.{Lender, of_ref, p_lends}
use borrow.Join.MeetSlot.{g_meet, g_unmeet, share, carve, to_share, to_whole, pin_carved}
use borrow.Join.Shorter.{Below, Told-Below, Told-bounds, mref_shorter}
use borrow.Kind.Owned.{Owned, Spares, r_owned, p_copied, reads_whole, Spares-whole}
use borrow.Kind.OwnedTo.{r_owned_to}
use borrow.Kind.ShrRef.{Spares-sref}
use borrow.Rule.AtSlots.{one_type, n_as_by, g_as_by}
use borrow.Rule.Labels.ValueAt.{val_at, of_slots_Val}
use borrow.Rule.Lifetime.{g_static, g_begin, g_end, g_forget}
use borrow.Rule.LifetimeAt.{t_pin_one, g_unpin_by}
use borrow.Rule.Local.{mem_whole, room_whole, g_drop_sref}
use borrow.Rule.Reborrow.{k_mref_relend, t_mref_relend, k_back_mref, g_Back_mref}
use borrow.Rule.Reshare.{n_mref_share}
use borrow.Rule.Scalar.{n_room, g_room}
use borrow.Rule.SharedLend.{t_mref_share_as}
use borrow.Rule.SharedParts.{Tokens, Tokens-also, Tokens-none}
use ghost.Rules.{Toks}
use borrow.Rule.Token.Open.{Takes-whole, Puts-whole}
use borrow.Rule.Way.{Told-and}

module _ (T S H Q : RattleType) (lT : Laws T) (lS : Laws S) (lH : Laws H) (lQ : Laws Q) (cQ : IsCopy Q) (e : EqGhosts T.Denot) (ed : Dict) (p : PartialEqGhosts T.Denot) (pd : Dict) (h : HashGhosts T.Denot) (hd : Dict)
    (b : BuildHasherGhosts S.Denot H.Denot) (bd : Dict) (s : HasherGhosts H.Denot) (sd : Dict) (dT : Dict) (dS : Dict) (dH : Dict)
    (k : KeyGhosts Q.Denot T.Denot) (kd : Dict) (c : CloneGhosts Q.Denot) (cd : Dict) (h' : HashGhosts Q.Denot) (hd' : Dict) (e' : EqGhosts Q.Denot) (ed' : Dict) (p' : PartialEqGhosts Q.Denot) (pd' : Dict) where
  -- ---- the types: of the bag, of the key, of what `take_one` and `try_take` return, and of the locals
  abbrev pT : RattleType
  pT = param 0 T

  abbrev pS : RattleType
  pS = param 1 S

  abbrev pH : RattleType
  pH = param 2 H

  abbrev pQ : RattleType
  pQ = copied 3 Q

  abbrev R : RattleType
  R = the_row pT pS pH p h b s

  abbrev Taken : RattleType
  Taken = row (result_rows.the_type pT u64-field.row)

  -- `Option<(&T, usize)>` at the lifetime κ
  abbrev at : Lft → NamedLft
  at κ = record { mir = named 0; lft = κ }

  abbrev Others : Lft → RattleType
  Others κ = lts.of-4 T S H Q lT lS lH lQ cQ e ed p pd h hd b bd s sd dT dS dH k kd c cd h' hd' e' ed' p' pd' (at κ)

  abbrev Answer : Lft → RattleType
  Answer κ = row (result_rows.the_type pT (Others κ))

  abbrev Value : Type 0
  Value = (result_rows.the_type pT (Others [])).D

  abbrev ps-0 : List (ParamKind 5)
  ps-0 = lts.ps-0 T S H Q lT lS lH lQ cQ e ed p pd h hd b bd s sd dT dS dH k kd c cd h' hd' e' ed' p' pd'

  abbrev r-0 : ResultKind 5
  r-0 = lts.r-0 T S H Q lT lS lH lQ cQ e ed p pd h hd b bd s sd dT dS dH k kd c cd h' hd' e' ed' p' pd'

  abbrev ps-1 : List (ParamKind 5)
  ps-1 = lts.ps-1 T S H Q lT lS lH lQ cQ e ed p pd h hd b bd s sd dT dS dH k kd c cd h' hd' e' ed' p' pd'

  abbrev r-1 : ResultKind 5
  r-1 = lts.r-1 T S H Q lT lS lH lQ cQ e ed p pd h hd b bd s sd dT dS dH k kd c cd h' hd' e' ed' p' pd'

  abbrev r : ResultKind 5
  r = lts.r T S H Q lT lS lH lQ cQ e ed p pd h hd b bd s sd dT dS dH k kd c cd h' hd' e' ed' p' pd'

  abbrev tA : Ty
  tA = ty_r r

  abbrev tM : Ty
  tM = ty_ref (named 0) mut (pointee R.written)

  abbrev tQ : Ty
  tQ = layout Q

  abbrev tK : Ty
  tK = ty_r r-0

  abbrev tE : Ty
  tE = ty_ref erased mut (pointee R.written)

  abbrev tS : Ty
  tS = ty_ref erased imm (pointee R.written)

  abbrev deep : Ty
  deep = head ty_unit R.mir

  -- what the two calls return, as kinds
  abbrev taken_kind : ResultKind 5
  taken_kind = r_owned Taken refl (λ M 𝓤 𝓛. loose_lawful (result_rows.the_type pT u64-field.row) (result_laws.the_loose pT u64-field.row (param_laws 0 T lT) (of_field u64-field u64-laws refl (copy_shared u64-field u64-copy))) tt 𝓛)

  abbrev answer_kind : ResultKind 5
  answer_kind = r_owned_to (record {
    keeps = no;
    F = λ κs. result_rows.the_field pT (Others κs.0);
    L = λ κs. result_laws.the_field_loose pT (Others κs.0) (param_laws 0 T lT) (lts.of-5 T S H Q lT lS lH lQ cQ e ed p pd h hd b bd s sd dT dS dH k kd c cd h' hd' e' ed' p' pd' (at κs.0));
    mir = tA;
    same = λ κs. refl;
    single = λ κs. tt;
    D = (result_rows.the_field pT (Others [])).Value;
    to = λ κs. (result_rows.the_field pT (Others κs.0)).into;
    one = λ κs. (result_rows.the_field pT (Others κs.0)).into_one;
    Vs = (result_rows.the_field pT (Others [])).row.Denot;
    ot = one_type 5 (result_rows.the_field pT (Others [])).row.Denot;
  })

  -- ---- what the walk owes of `self`: its last value
  abbrev owe : GName → Option R.Denot → Fml
  owe γ none = ftrue
  owe γ (some v) = fres γ (R.coded.code v)

  abbrev last : Owes R
  last = record { D = Option R.Denot; owed = owe; nothing = none }

  abbrev self : Lender 5 R
  self = of_ref R 0 tt

  abbrev key : Owned
  key = record { ty = pQ; one = refl; val = (copy_told pQ (copied_copy 3 Q cQ)).val; tells = (copy_told pQ (copied_copy 3 Q cQ)).tells }

  abbrev others : List (ParamKind 5)
  others = p_copied key no Mute-still (λ M 𝓤 𝓛. (copied_laws 3 Q lQ).lawful 𝓛) ∷ []

  abbrev ps : List (ParamKind 5)
  ps = p_lends R last self ∷ others

  -- ---- the locals: the result, `self`, `key`, what was taken, the bag lent again, the bag shared
  abbrev rows : Row → Row → Row → Row → Row → Row → List Entry
  rows result bag by taken lent shared = (0, result) ∷ (1, bag) ∷ (2, by) ∷ (3, taken) ∷ (4, lent) ∷ (5, shared) ∷ []

  abbrev entry : List Entry
  entry = rows (any_gone tA) (mref R tM 0) (whole pQ) (any_gone tK) (any_gone tE) (any_gone tS)

  abbrev lending : Life → ℕ → List Entry
  lending l slot = rows (any_gone tA) (mref_owed R tM 0 6 l) (whole pQ) (any_gone tK) (mref R tE slot) (any_gone tS)

  abbrev called : Life → List Entry
  called l = rows (any_gone tA) (mref_owed R tM 0 6 l) (whole pQ) (whole Taken) (mleft R tE) (any_gone tS)

  abbrev back : List Entry
  back = rows (any_gone tA) (mref R tM 0) (whole pQ) (whole Taken) (any_gone tE) (any_gone tS)

  abbrev sharing : List Entry
  sharing = rows (any_gone tA) (mleft R tM) (whole pQ) (whole Taken) (any_gone tE) (sref R tS 0)

  abbrev own : List ℕ
  own = 0 ∷ 1 ∷ 2 ∷ 3 ∷ 4 ∷ []

  abbrev lent : List ℕ
  lent = 7 ∷ 1 ∷ 2 ∷ 3 ∷ 4 ∷ []

  abbrev answered : List Entry
  answered = rows (val_at 5 (λ κs. Answer κs.0) Value (λ κs v. v) own tA) (mleft R tM) (whole pQ) (any_gone tK) (any_gone tE) (sref R tS 0)

  abbrev landed : Lft → List Entry
  landed κ = rows (whole (Answer κ)) (mleft R tM) (whole pQ) (any_gone tK) (any_gone tE) (sref R tS 0)

  abbrev dropped : Lft → List Entry
  dropped κ = rows (whole (Answer κ)) (mleft R tM) (whole pQ) (any_gone tK) (any_gone tE) (any_gone tS)

  abbrev keyless : Lft → List Entry
  keyless κ = rows (whole (Answer κ)) (mleft R tM) (any_gone tQ) (any_gone tK) (any_gone tE) (any_gone tS)

  abbrev leaving : Lft → List Entry
  leaving κ = rows (whole (Answer κ)) (owing_by R last tM) (any_gone tQ) (any_gone tK) (any_gone tE) (any_gone tS)

  -- ---- what each step makes of the values that the locals show
  abbrev cx : List Entry → Cx
  cx L = record { locals = L; slots = [] }

  abbrev Out : Outs
  Out = record { next = none; exits = []; returns = some (cx (leaving [])) }

  abbrev claims : lts.Claims T S H Q lT lS lH lQ cQ e ed p pd h hd b bd s sd dT dS dH k kd c cd h' hd' e' ed' p' pd'
  claims = tie.the-claims T S H Q lT lS lH lQ cQ e ed p pd h hd b bd s sd dT dS dH k kd c cd h' hd' e' ed' p' pd'

  abbrev Lives : Lfts 5 → Type 0
  Lives κs = (κs.1.0 ⊑ T.lives) × ((κs.1.1.0 ⊑ S.lives) × ((κs.1.1.1.0 ⊑ H.lives) × (κs.1.1.1.1.0 ⊑ Q.lives)))

  abbrev args-0 : (l : Life) → ArgsT ps-0 (lending l 7)
  args-0 l = (record { pos = 4; ty = tE; ref = λ x. x }, (record { pos = 2; at = λ x. x }, tt))

  abbrev args-1 : ArgsT ps-1 sharing
  args-1 = (record { pos = 3; at = λ x. x }, (record { pos = 5; ty = tS; ref = λ x. x }, (record { pos = 2; at = λ x. x }, tt)))

  abbrev lends : Gives (cx entry) (cx (lending off 6))
  lends = k_mref_relend (cx entry) 1 4 0 6 R tM tE off [] (λ x. x)

  abbrev shortens : Mo (cx (lending off 6)) → Mo (cx (lending off 7))
  shortens = n_as_by (cx (lending off 6)) 4 (mref R tE 7) (λ x. x)

  abbrev takes : Both (cx (lending off 7)) (cx (called off))
  takes = call_b ps-0 r-0 (λ κs a. Lives κs → claims.0 κs a) claims.1 (cx (lending off 7)) (args-0 off) 3 lent tK

  abbrev comes : Asks (cx (called off)) (cx back)
  comes = k_back_mref (cx (called off)) 4 1 0 R tM tE [] (λ x. x) (λ x. x)

  abbrev shares : Mo (cx back) → Mo (cx sharing)
  shares = n_mref_share (cx back) 1 5 0 R tM tS off (λ x. x)

  abbrev answers : Both (cx sharing) (cx answered)
  answers = call_b ps-1 r-1 (λ κs a. Lives κs → claims.2 κs a) claims.3 (cx sharing) args-1 0 own tA

  abbrev lands : Mo (cx answered) → Mo (cx (landed []))
  lands = n_as_by (cx answered) 0 (whole (Answer [])) (λ x. x)

  abbrev drops : Mo (cx (landed [])) → Mo (cx (dropped []))
  drops = n_room (cx (landed [])) 5 tS

  abbrev lets_key : Mo (cx (dropped [])) → Mo (cx (keyless []))
  lets_key = n_room (cx (dropped [])) 2 tQ

  abbrev owes : Mo (cx (keyless [])) → Mo (cx (leaving []))
  owes = k_owing_here (cx (keyless [])) 1 tM R last (λ x. (x, some x.now))

  abbrev Φ-10 : TF (cx (leaving [])) Out
  Φ-10 = at_ret Out

  abbrev Φ-9 : TF (cx (keyless [])) Out
  Φ-9 Ψ = pass (cx (keyless [])) (cx (leaving [])) owes (Φ-10 Ψ)

  abbrev Φ-8 : TF (cx (dropped [])) Out
  Φ-8 Ψ = pass (cx (dropped [])) (cx (keyless [])) lets_key (Φ-9 Ψ)

  abbrev Φ-7 : TF (cx (landed [])) Out
  Φ-7 Ψ = pass (cx (landed [])) (cx (dropped [])) drops (Φ-8 Ψ)

  abbrev Φ-6 : TF (cx answered) Out
  Φ-6 Ψ = pass (cx answered) (cx (landed [])) lands (Φ-7 Ψ)

  abbrev Φ-5 : TF (cx sharing) Out
  Φ-5 Ψ = both answers (Φ-6 Ψ)

  abbrev Φ-4 : TF (cx back) Out
  Φ-4 Ψ = pass (cx back) (cx sharing) shares (Φ-5 Ψ)

  abbrev Φ-3 : TF (cx (called off)) Out
  Φ-3 Ψ = ask comes (Φ-4 Ψ)

  abbrev Φ-2 : TF (cx (lending off 7)) Out
  Φ-2 Ψ = both takes (Φ-3 Ψ)

  abbrev Φ-1 : TF (cx (lending off 6)) Out
  Φ-1 Ψ = pass (cx (lending off 6)) (cx (lending off 7)) shortens (Φ-2 Ψ)

  abbrev Φ-0 : TF (cx entry) Out
  Φ-0 Ψ = give lends (Φ-1 Ψ)

  -- ---- the code, from each statement on
  abbrev lends-s : Body
  lends-s = assign (place 4 []) (addr_of (place 1 (deref deep ∷ [])))

  abbrev takes-s : Body
  takes-s = call (#take-one (lts.passed-0 T S H Q lT lS lH lQ cQ e ed p pd h hd b bd s sd dT dS dH k kd c cd h' hd' e' ed' p' pd')) (copy (place 4 []) ∷ copy (place 2 []) ∷ []) (place 3 [])

  abbrev shares-s : Body
  shares-s = assign (place 5 []) (addr_of (place 1 (deref deep ∷ [])))

  abbrev answers-s : Body
  answers-s = call (#taken-or-lent (lts.passed-1 T S H Q lT lS lH lQ cQ e ed p pd h hd b bd s sd dT dS dH k kd c cd h' hd' e' ed' p' pd')) (copy (place 3 []) ∷ copy (place 5 []) ∷ copy (place 2 []) ∷ []) (place 0 [])

  abbrev answers-t : Body
  answers-t = seq answers-s return

  abbrev shares-t : Body
  shares-t = seq shares-s answers-t

  abbrev takes-t : Body
  takes-t = seq takes-s shares-t

  abbrev lends-t : Body
  lends-t = seq lends-s takes-t

  -- ---- the walk. Each part is proved to the end of the function, so the last one comes first
  module _ (κs : Lfts 5) (qs : ShareList 5) where
    -- the lifetimes that T, S, the hasher and the key live for
    abbrev κT : Lft
    κT = κs.1.0

    abbrev κS : Lft
    κS = κs.1.1.0

    abbrev κH : Lft
    κH = κs.1.1.1.0

    abbrev κQ : Lft
    κQ = κs.1.1.1.1.0

    -- what the caller gives of the tokens: of the bag's loan, and those four
    abbrev l0 : Life
    l0 = lease κs.0 qs.0

    abbrev lT' : Life
    lT' = lease κT qs.1.0

    abbrev lS' : Life
    lS' = lease κS qs.1.1.0

    abbrev lH' : Life
    lH' = lease κH qs.1.1.1.0

    abbrev lQ' : Life
    lQ' = lease κQ qs.1.1.1.1.0

    abbrev static : Life
    static = lease [] full_share

    abbrev slots : Life → Life → Life → Life → Life → Life → List Life
    slots bag t s' static' new within = bag ∷ t ∷ s' ∷ lH' ∷ lQ' ∷ static' ∷ new ∷ within ∷ []

    abbrev at_start : List Life
    at_start = slots l0 lT' lS' off off off

    abbrev with_static : List Life
    with_static = slots l0 lT' lS' static off off

    -- the lifetime of the call, a, within those that T and S live for
    abbrev within : ℕ → Lft
    within a = κT ++ (κS ++ (a ∷ []))

    abbrev part : Common qs.1.0 qs.1.1.0
    part = common qs.1.0 qs.1.1.0

    abbrev in_call : ℕ → List Life
    in_call a = slots off (lease κT part.1) (lease κS part.2) static (carved (a ∷ []) part.0) (lease (within a) part.0)

    abbrev G-entry : Cx
    G-entry = record { locals = entry; slots = at_start }

    abbrev G-static : Cx
    G-static = record { locals = entry; slots = with_static }

    abbrev G-begun : Cx
    G-begun = record { locals = entry; slots = slots l0 lT' lS' static alive off }

    abbrev G-lent : Cx
    G-lent = record { locals = lending l0 6; slots = slots off lT' lS' static alive off }

    abbrev G-pinned : ℕ → Cx
    G-pinned a = record { locals = lending l0 6; slots = slots off lT' lS' static (lease (a ∷ []) full_share) off }

    abbrev G-met : ℕ → Cx
    G-met a = record { locals = lending l0 6; slots = in_call a }

    abbrev G-short : ℕ → Cx
    G-short a = record { locals = lending l0 7; slots = in_call a }

    abbrev G-called : ℕ → Cx
    G-called a = record { locals = called l0; slots = in_call a }

    abbrev G-apart : ℕ → Cx
    G-apart a = record { locals = called l0; slots = slots off lT' lS' static (lease (a ∷ []) full_share) off }

    abbrev G-alive : Cx
    G-alive = record { locals = called l0; slots = slots off lT' lS' static alive off }

    abbrev G-dead : Cx
    G-dead = record { locals = called l0; slots = slots off lT' lS' static dead off }

    abbrev G-back : Cx
    G-back = record { locals = back; slots = slots l0 lT' lS' static dead off }

    abbrev G-alone : Cx
    G-alone = record { locals = back; slots = with_static }

    abbrev G-shared : Cx
    G-shared = record { locals = sharing; slots = with_static }

    abbrev G-answered : Cx
    G-answered = record { locals = answered; slots = with_static }

    abbrev G-landed : Cx
    G-landed = record { locals = landed κs.0; slots = with_static }

    abbrev G-dropped : Cx
    G-dropped = record { locals = dropped κs.0; slots = with_static }

    abbrev G-keyless : Cx
    G-keyless = record { locals = keyless κs.0; slots = with_static }

    abbrev G-owing : Cx
    G-owing = record { locals = leaving κs.0; slots = with_static }

    abbrev G-leaving : Cx
    G-leaving = record { locals = leaving κs.0; slots = at_start }

    abbrev Δ : Outs
    Δ = record { next = none; exits = []; returns = some G-leaving }

    module _ {M : Type 1} {𝓤 : Ura M} (𝓛 : Logic 𝓤) (𝓣 : Tables 𝓤 𝓛.H) (take_one : lts.Known-0 T S H Q lT lS lH lQ cQ e ed p pd h hd b bd s sd dT dS dH k kd c cd h' hd' e' ed' p' pd' claims 𝓛 𝓣) (taken_or_lent : lts.Known-1 T S H Q lT lS lH lQ cQ e ed p pd h hd b bd s sd dT dS dH k kd c cd h' hd' e' ed' p' pd' claims 𝓛 𝓣)
        (lives : (κT ⊑ T.lives) × ((κS ⊑ S.lives) × ((κH ⊑ H.lives) × ((κQ ⊑ Q.lives) × Unit {0})))) (bs : List ℕ) (below : AllOutlive 5 (os_r r) κs) where
      abbrev E : Env 𝓤 𝓛.H
      E = EnvOf 𝓛 (ty_r r ∷ tys_p ps (lts.xs T S H Q lT lS lH lQ cQ e ed p pd h hd b bd s sd dT dS dH k kd c cd h' hd' e' ed' p' pd')) bs

      -- the key is let go, and the function returns with what is owed of `self`
      returns : Typed 𝓛 𝓣 E G-dropped return Δ Φ-8
      returns =
          g_pre_lem 𝓛 𝓣 E G-dropped G-keyless return Δ (pass (cx (dropped [])) (cx (keyless [])) lets_key) Φ-9 (g_room 𝓛 E G-dropped 2 tQ (room_whole 𝓛 pQ tQ refl))
          (g_pre_lem 𝓛 𝓣 E G-keyless G-owing return Δ (pass (cx (keyless [])) (cx (leaving [])) owes) Φ-10 (g_owing_here 𝓛 E G-keyless 1 tM R last (λ x. (x, some x.now)) (λ ρ x a. id⊢ 𝓤 _))
          (g_pre_lem 𝓛 𝓣 E G-owing G-leaving return Δ (λ Ψ. Ψ) Φ-10 (g_forget 𝓛 E G-owing 5 static refl) (t_return 𝓛 𝓣 E Δ tt)))

      -- the answer is in the result, and the shared bag is let go
      lets_go : Typed 𝓛 𝓣 E G-answered return Δ Φ-6
      lets_go =
          g_pre_lem 𝓛 𝓣 E G-answered G-landed return Δ (pass (cx answered) (cx (landed [])) lands) Φ-7
          (g_as_by 𝓛 E (λ ρ. lft ρ 0 ≡ κs.0) G-answered 0 (whole (Answer κs.0)) (λ x. x) (pin_lease 𝓛 0 with_static κs.0 qs.0 refl)
          (of_slots_Val 𝓛 5 Lft (λ ks. ks.0) Answer Value (λ c v. v) own κs.0 tA (Answer κs.0) refl refl (λ x. x) (λ x vs. id⊢ 𝓤 _)))
          (g_pre_lem 𝓛 𝓣 E G-landed G-dropped return Δ (pass (cx (landed [])) (cx (dropped [])) drops) Φ-8 (g_drop_sref 𝓛 E G-landed 5 0 R tS (λ x. x) (as_is 𝓛 (sref R tS 0))) returns)

      -- `taken_or_lent` is called
      lR : RowLaws R
      lR = (the_row_laws pT pS pH p h b s (param_laws 0 T lT) (param_laws 1 S lS) (param_laws 2 H lH)).shr_laws

      abbrev LivesIn : Rho → Type 0
      LivesIn ρ = (lft ρ 1 ⊑ T.lives) × ((lft ρ 2 ⊑ S.lives) × ((lft ρ 3 ⊑ H.lives) × (lft ρ 4 ⊑ Q.lives)))

      Q-lives : Told 𝓛 with_static LivesIn
      Q-lives = Told-and 𝓛 with_static (λ ρ. lft ρ 1 ⊑ T.lives) (λ ρ. (lft ρ 2 ⊑ S.lives) × ((lft ρ 3 ⊑ H.lives) × (lft ρ 4 ⊑ Q.lives))) (within_lease 𝓛 1 with_static κT qs.1.0 refl T.lives lives.0)
          (Told-and 𝓛 with_static (λ ρ. lft ρ 2 ⊑ S.lives) (λ ρ. (lft ρ 3 ⊑ H.lives) × (lft ρ 4 ⊑ Q.lives)) (within_lease 𝓛 2 with_static κS qs.1.1.0 refl S.lives lives.1.0)
          (Told-and 𝓛 with_static (λ ρ. lft ρ 3 ⊑ H.lives) (λ ρ. lft ρ 4 ⊑ Q.lives) (within_lease 𝓛 3 with_static κH qs.1.1.1.0 refl H.lives lives.1.1.0)
          (within_lease 𝓛 4 with_static κQ qs.1.1.1.1.0 refl Q.lives lives.1.1.1.0)))

      -- a copy of the key is passed, and the key stays
      spares_key : Spares 𝓛 key (whole pQ) (λ x. x)
      spares_key = Spares-whole 𝓛 key ((copied_copy 3 Q cQ).copies M 𝓤 𝓛)

      gives_answer : Typed 𝓛 𝓣 E G-shared answers-t Δ Φ-5
      gives_answer =
          s_seq 𝓛 𝓣 E G-shared G-answered answers-s return Δ (both answers) Φ-6
          (t_call_plain_by_Pin 𝓛 𝓣 5 ps-1 r-1 claims.2 claims.3 (#taken-or-lent (lts.passed-1 T S H Q lT lS lH lQ cQ e ed p pd h hd b bd s sd dT dS dH k kd c cd h' hd' e' ed' p' pd')) taken_or_lent Lives E (λ pos β. β) G-shared args-1 0 own Q-lives (sub_id 𝓛 with_static)
          (mem_whole 𝓛 Taken, refl, (lR, Spares-sref 𝓛 R lR tS 0, reads_sref 𝓛 R tS 0, refl, (spares_key, reads_whole 𝓛 key, refl, tt)))
          (room_gone 𝓛 tA) (tt, (tt, (tt, (tt, (tt, tt)))))
          (Told-bounds 𝓛 5 with_static own (os_r r-1)
          (Told-and 𝓛 with_static (Below 1 0) (λ ρ. Below 2 0 ρ × Unit {0}) (Told-Below 𝓛 with_static 1 0 κT κs.0 (pin_lease 𝓛 1 with_static κT qs.1.0 refl) (pin_lease 𝓛 0 with_static κs.0 qs.0 refl) below.0)
          (Told-and 𝓛 with_static (Below 2 0) (λ ρ. Unit {0}) (Told-Below 𝓛 with_static 2 0 κS κs.0 (pin_lease 𝓛 2 with_static κS qs.1.1.0 refl) (pin_lease 𝓛 0 with_static κs.0 qs.0 refl) below.1.0)
          (Told-none 𝓛 with_static))))
          refl (λ κs' x v i. res_typed 𝓛 5 κs' answer_kind x v i own tA refl))
          lets_go

      -- `self` is shared for all the time that its loan has left, with the tokens of all that a bag holds
      abbrev All : Lft
      All = κT ++ (κS ++ κH)

      abbrev Known : Rho → Type 0
      Known ρ = (lft ρ 1 ≡ κT) × ((lft ρ 2 ≡ κS) × (lft ρ 3 ≡ κH))

      known : Told 𝓛 with_static Known
      known = Told-and 𝓛 with_static (λ ρ. lft ρ 1 ≡ κT) (λ ρ. (lft ρ 2 ≡ κS) × (lft ρ 3 ≡ κH)) (pin_lease 𝓛 1 with_static κT qs.1.0 refl)
          (Told-and 𝓛 with_static (λ ρ. lft ρ 2 ≡ κS) (λ ρ. lft ρ 3 ≡ κH) (pin_lease 𝓛 2 with_static κS qs.1.1.0 refl) (pin_lease 𝓛 3 with_static κH qs.1.1.1.0 refl))

      All-lives : All ⊑ R.lives
      All-lives =
          the_within pT pS pH p h b s All (⊑_trans All κT T.lives (meet_⊑_left κT (κS ++ κH)) lives.0)
          (⊑_trans All κS S.lives (⊑_trans All (κS ++ κH) κS (meet_⊑_right κT (κS ++ κH)) (meet_⊑_left κS κH)) lives.1.0)
          (⊑_trans All κH H.lives (⊑_trans All (κS ++ κH) κH (meet_⊑_right κT (κS ++ κH)) (meet_⊑_right κS κH)) lives.1.1.0)

      -- the table of slots as the tokens are taken out of it, one by one
      abbrev S-0 : List Life
      S-0 = set_life 0 off with_static

      abbrev S-1 : List Life
      S-1 = set_life 1 off S-0

      abbrev S-2 : List Life
      S-2 = set_life 2 off S-1

      abbrev S-3 : List Life
      S-3 = set_life 3 off S-2

      abbrev toks-3 : Rho → Toks
      toks-3 ρ = (lft ρ 3, share_of lH') ∷ []

      abbrev toks-2 : Rho → Toks
      toks-2 ρ = (lft ρ 2, share_of lS') ∷ toks-3 ρ

      abbrev toks-1 : Rho → Toks
      toks-1 ρ = (lft ρ 1, share_of lT') ∷ toks-2 ρ

      abbrev toks-0 : Rho → Toks
      toks-0 ρ = (lft ρ 0, share_of l0) ∷ toks-1 ρ

      tokens : Tokens 𝓛 Known with_static toks-0 with_static
      tokens =
          Tokens-also 𝓛 Known 0 l0 with_static S-0 S-0 with_static toks-1 (Takes-whole 𝓛 0 with_static l0 refl tt)
          (Tokens-also 𝓛 Known 1 lT' S-0 S-1 S-1 S-0 toks-2 (Takes-whole 𝓛 1 S-0 lT' refl tt)
          (Tokens-also 𝓛 Known 2 lS' S-1 S-2 S-2 S-1 toks-3 (Takes-whole 𝓛 2 S-1 lS' refl tt)
          (Tokens-also 𝓛 Known 3 lH' S-2 S-3 S-3 S-2 (λ ρ. []) (Takes-whole 𝓛 3 S-2 lH' refl tt) (Tokens-none 𝓛 Known S-3) (Puts-whole 𝓛 3 lH' S-3 refl))
          (Puts-whole 𝓛 2 lS' S-2 refl)) (Puts-whole 𝓛 1 lT' S-1 refl)) (Puts-whole 𝓛 0 l0 S-0 refl)

      -- what their lifetimes have in common is within all of these
      abbrev from-2 : Rho → Lft
      from-2 ρ = lft ρ 2 ++ lft ρ 3

      abbrev from-1 : Rho → Lft
      from-1 ρ = lft ρ 1 ++ from-2 ρ

      abbrev from-0 : Rho → Lft
      from-0 ρ = lft ρ 0 ++ from-1 ρ

      past-0 : (ρ : Rho) → from-0 ρ ⊑ from-1 ρ
      past-0 ρ = meet_⊑_right (lft ρ 0) (from-1 ρ)

      past-1 : (ρ : Rho) → from-0 ρ ⊑ from-2 ρ
      past-1 ρ = ⊑_trans (from-0 ρ) (from-1 ρ) (from-2 ρ) (past-0 ρ) (meet_⊑_right (lft ρ 1) (from-2 ρ))

      all_within : (ρ : Rho) → Known ρ → from-0 ρ ⊑ All
      all_within ρ is =
          ⊑_meet (from-0 ρ) κT (κS ++ κH) (subst (Incl (from-0 ρ)) is.0 (⊑_trans (from-0 ρ) (from-1 ρ) (lft ρ 1) (past-0 ρ) (meet_⊑_left (lft ρ 1) (from-2 ρ))))
          (⊑_meet (from-0 ρ) κS κH (subst (Incl (from-0 ρ)) is.1.0 (⊑_trans (from-0 ρ) (from-2 ρ) (lft ρ 2) (past-1 ρ) (meet_⊑_left (lft ρ 2) (lft ρ 3))))
          (subst (Incl (from-0 ρ)) is.1.1 (⊑_trans (from-0 ρ) (from-2 ρ) (lft ρ 3) (past-1 ρ) (meet_⊑_right (lft ρ 2) (lft ρ 3)))))

      shares_self : Typed 𝓛 𝓣 E G-back shares-t Δ Φ-4
      shares_self =
          g_pre_lem 𝓛 𝓣 E G-back G-alone shares-t Δ (λ Ψ. Ψ) Φ-4 (g_forget 𝓛 E G-back 6 dead refl)
          (s_seq 𝓛 𝓣 E G-alone G-shared shares-s answers-t Δ (pass (cx back) (cx sharing) shares) Φ-5
          (t_mref_share_as 𝓛 E 𝓣 Known G-alone 1 5 0 R deep tM tS l0 (λ x. x) All toks-0 known
          (Shares-less 𝓛 R R.lives All All-lives ((the_row_laws pT pS pH p h b s (param_laws 0 T lT) (param_laws 1 S lS) (param_laws 2 H lH)).shares 𝓛))
          tokens all_within (λ ρ is. meet_⊑_left (lft ρ 0) (from-1 ρ)) (as_is 𝓛 (mref R tM 0)) (room_gone 𝓛 tS) refl refl (λ b' o. tt))
          gives_answer)

      -- the lifetime of the call ends, and `self` is back
      ends : (a : ℕ) → Typed 𝓛 𝓣 E (G-called a) shares-t Δ Φ-3
      ends a =
          g_pre_lem 𝓛 𝓣 E (G-called a) (G-apart a) shares-t Δ (λ Ψ. Ψ) Φ-3
          (g_unmeet 𝓛 E (G-called a) 7 part.0 (to_share 1 κT qs.1.0 part.0 part.1 part.3) (to_share 2 κS qs.1.1.0 part.0 part.2 part.4 ∷ to_whole 6 a ∷ []) refl ((refl, refl), ((refl, refl), (refl, tt))))
          (g_pre_lem 𝓛 𝓣 E (G-apart a) G-alive shares-t Δ (λ Ψ. Ψ) Φ-3 (g_unpin_by 𝓛 E (G-apart a) 6 a alive refl tt)
          (g_pre_lem 𝓛 𝓣 E G-alive G-dead shares-t Δ (λ Ψ. Ψ) Φ-3 (g_end 𝓛 E G-alive 6 refl)
          (g_pre_lem 𝓛 𝓣 E G-dead G-back shares-t Δ (ask comes) Φ-4
          (g_Back_mref 𝓛 E G-dead 4 1 0 6 R tM tE l0 (λ x. x) (λ x. x) (as_is 𝓛 (mleft R tE)) (as_is 𝓛 (mref_owed R tM 0 6 l0)) refl refl)
          shares_self)))

      -- `take_one` is called
      within-S : (a : ℕ) → within a ⊑ (κS ++ (a ∷ []))
      within-S a = meet_⊑_right κT (κS ++ (a ∷ []))

      lives_in_call : (a : ℕ) → Told 𝓛 (in_call a) LivesIn
      lives_in_call a =
          Told-and 𝓛 (in_call a) (λ ρ. lft ρ 1 ⊑ T.lives) (λ ρ. (lft ρ 2 ⊑ S.lives) × ((lft ρ 3 ⊑ H.lives) × (lft ρ 4 ⊑ Q.lives))) (within_lease 𝓛 1 (in_call a) κT part.1 refl T.lives lives.0)
          (Told-and 𝓛 (in_call a) (λ ρ. lft ρ 2 ⊑ S.lives) (λ ρ. (lft ρ 3 ⊑ H.lives) × (lft ρ 4 ⊑ Q.lives)) (within_lease 𝓛 2 (in_call a) κS part.2 refl S.lives lives.1.0)
          (Told-and 𝓛 (in_call a) (λ ρ. lft ρ 3 ⊑ H.lives) (λ ρ. lft ρ 4 ⊑ Q.lives) (within_lease 𝓛 3 (in_call a) κH qs.1.1.1.0 refl H.lives lives.1.1.0)
          (within_lease 𝓛 4 (in_call a) κQ qs.1.1.1.1.0 refl Q.lives lives.1.1.1.0)))

      takes_one : (a : ℕ) → Typed 𝓛 𝓣 E (G-short a) takes-t Δ Φ-2
      takes_one a =
          s_seq 𝓛 𝓣 E (G-short a) (G-called a) takes-s shares-t Δ (both takes) Φ-3
          (t_call_plain_by_Pin 𝓛 𝓣 5 ps-0 r-0 claims.0 claims.1 (#take-one (lts.passed-0 T S H Q lT lS lH lQ cQ e ed p pd h hd b bd s sd dT dS dH k kd c cd h' hd' e' ed' p' pd')) take_one Lives E (λ pos β. β) (G-short a) (args-0 l0) 3 lent (lives_in_call a) (sub_id 𝓛 (in_call a))
          (as_is 𝓛 (mref R tE 7), reads_mref 𝓛 R tE 7, refl, (spares_key, reads_whole 𝓛 key, refl, tt))
          (room_gone 𝓛 tK) (tt, (tt, (tt, (tt, (tt, tt)))))
          (Told-bounds 𝓛 5 (in_call a) lent (os_r r-0)
          (Told-and 𝓛 (in_call a) (Below 1 7) (λ ρ. Below 2 7 ρ × Unit {0})
          (Told-Below 𝓛 (in_call a) 1 7 κT (within a) (pin_lease 𝓛 1 (in_call a) κT part.1 refl) (pin_lease 𝓛 7 (in_call a) (within a) part.0 refl) (meet_⊑_left κT (κS ++ (a ∷ []))))
          (Told-and 𝓛 (in_call a) (Below 2 7) (λ ρ. Unit {0})
          (Told-Below 𝓛 (in_call a) 2 7 κS (within a) (pin_lease 𝓛 2 (in_call a) κS part.2 refl) (pin_lease 𝓛 7 (in_call a) (within a) part.0 refl)
          (⊑_trans (within a) (κS ++ (a ∷ [])) κS (within-S a) (meet_⊑_left κS (a ∷ []))))
          (Told-none 𝓛 (in_call a)))))
          refl (λ κs' x v i. res_typed 𝓛 5 κs' taken_kind x v i lent tK refl))
          (ends a)

      -- the loan is taken for a lifetime within those that T and S live for
      meets : (a : ℕ) → Typed 𝓛 𝓣 E (G-pinned a) takes-t Δ Φ-1
      meets a =
          g_pre_lem 𝓛 𝓣 E (G-pinned a) (G-met a) takes-t Δ (λ Ψ. Ψ) Φ-1
          (g_meet 𝓛 E (G-pinned a) 7 part.0 (share 1 κT qs.1.0 part.0 part.1 part.3) (share 2 κS qs.1.1.0 part.0 part.2 part.4 ∷ carve 6 a ∷ []) ((refl, refl), ((refl, refl), (refl, tt))) (tt, ((tt, tt), (tt, (tt, (tt, (tt, tt)))))))
          (g_pre_lem 𝓛 𝓣 E (G-met a) (G-short a) takes-t Δ (pass (cx (lending off 6)) (cx (lending off 7)) shortens) Φ-2
          (g_as_by 𝓛 E (Below 6 7) (G-met a) 4 (mref R tE 7) (λ x. x)
          (Told-Below 𝓛 (in_call a) 6 7 (a ∷ []) (within a) (pin_carved 𝓛 6 (in_call a) (a ∷ []) part.0 refl) (pin_lease 𝓛 7 (in_call a) (within a) part.0 refl)
          (⊑_trans (within a) (κS ++ (a ∷ [])) (a ∷ []) (within-S a) (meet_⊑_right κS (a ∷ []))))
          (mref_shorter 𝓛 R tE 6 7))
          (takes_one a))

      -- `self` is lent again for a new lifetime
      typed : Typed 𝓛 𝓣 E (Γin 5 ps r (lts.xs T S H Q lT lS lH lQ cQ e ed p pd h hd b bd s sd dT dS dH k kd c cd h' hd' e' ed' p' pd') (lts.m T S H Q lT lS lH lQ cQ e ed p pd h hd b bd s sd dT dS dH k kd c cd h' hd' e' ed' p' pd') κs qs) lends-t (Δret 5 ps r (lts.xs T S H Q lT lS lH lQ cQ e ed p pd h hd b bd s sd dT dS dH k kd c cd h' hd' e' ed' p' pd') (lts.m T S H Q lT lS lH lQ cQ e ed p pd h hd b bd s sd dT dS dH k kd c cd h' hd' e' ed' p' pd') κs qs) Φ-0
      typed =
          g_pre_lem 𝓛 𝓣 E G-entry G-static lends-t Δ (λ Ψ. Ψ) Φ-0 (g_static 𝓛 E G-entry 5 (tt, (tt, (tt, (tt, (tt, (tt, tt)))))))
          (g_pre_lem 𝓛 𝓣 E G-static G-begun lends-t Δ (λ Ψ. Ψ) Φ-0 (g_begin 𝓛 E G-static 6 (tt, (tt, (tt, (tt, (tt, (tt, tt)))))))
          (s_seq 𝓛 𝓣 E G-begun G-lent lends-s takes-t Δ (give lends) Φ-1
          (t_mref_relend 𝓛 E 𝓣 G-begun 1 4 0 6 R deep tM tE l0 (λ x. x) (as_is 𝓛 (mref R tM 0)) (room_gone 𝓛 tE) refl tt refl refl (λ b' o. tt))
          (t_pin_one 𝓛 E 𝓣 G-lent 6 alive takes-t Δ Φ-1 refl tt (λ a. meets a))))

  -- ---- what is owed gives the clause
  abbrev Left : R.Denot → Q.Denot → Option R.Denot → Type 0
  Left bag by none = ⊥
  Left bag by (some v) = HasFewer (read PartialEqGhosts.eq p) (read KeyGhosts.names k by) 1 bag v

  meaning : (w : World) (γ : GName) (P : R.Denot → Type 0) (v : R.Denot) → P v → ent w.𝓤 (sem w.𝓛 (fres γ (R.coded.code v))) (sem w.𝓛 (follows_so R R γ none (λ _ _. ⊤) P))
  unfolding such_by follows_by
  meaning w γ P v ends = ex_i w.𝓤 (λ (y : (f : (R.Denot → R.Denot) × R.Denot) × ((z : R.Denot) → ⊤) × P f.1). sem w.𝓛 (fres γ (R.coded.code y.0.1))) ((λ _. v, v), (λ _. tt), ends)

  gives_left : (w : World) (γ : GName) (bag : R.Denot) (by : Q.Denot) (t : Option R.Denot) → Left bag by t
      → ent w.𝓤 (sem w.𝓛 (owe γ t)) (sem w.𝓛 (follows_so R R γ none (λ _ _. ⊤) (HasFewer (read PartialEqGhosts.eq p) (read KeyGhosts.names k by) 1 bag)))
  gives_left w γ bag by none left = absurd left
  gives_left w γ bag by (some v) left = meaning w γ _ v left

  abbrev owed : Owed 5 R last self others (kinds.r T S H Q lT lS lH lQ cQ e ed p pd h hd b bd s sd dT dS dH k kd c cd h' hd' e' ed' p' pd')
  owed = record {
    X = λ κs a x e'. follows_so R R a.0.ghost_name none (λ _ _. ⊤) (HasFewer (read PartialEqGhosts.eq p) (read KeyGhosts.names k a.1.0) 1 a.0.now);
    Beside = λ κs a x e' t C. Left a.0.now a.1.0 t × C;
    claim = λ κs a x e' t C q. q.1;
    along = λ κs a x e' t C C' f q. (q.0, f q.1);
    gives = λ w κs a x e' t C q. gives_left w a.0.ghost_name a.0.now a.1.0 t q.0;
    free = λ w γ. id⊢ w.𝓤 (emp w.𝓤);
  }

  -- a key that names a value names all that are equal to it, and no other
  abbrev NamesOne : Type 0
  NamesOne = (by : Q.Denot) (v w : T.Denot) → k.names by v ≡ true → k.names by w ≡ p.eq w v

  -- what is left to show of the values: that both calls may be made, and at the return the clauses
  asked : IsEquivalence p.eq → NamesOne → (κs : Lfts 5) (qs : ShareList 5) (a : Dens κs ps) → GoodsP κs ps a → reads.Pre T S H Q lT lS lH lQ cQ e ed p pd h hd b bd s sd dT dS dH k kd c cd h' hd' e' ed' p' pd' κs a → (bs : List ℕ)
      → Φ-0 (want_q 5 ps r (lts.xs T S H Q lT lS lH lQ cQ e ed p pd h hd b bd s sd dT dS dH k kd c cd h' hd' e' ed' p' pd') (lts.m T S H Q lT lS lH lQ cQ e ed p pd h hd b bd s sd dT dS dH k kd c cd h' hd' e' ed' p' pd') κs qs a (Owing 5 R last self others r owed (reads.Post T S H Q lT lS lH lQ cQ e ed p pd h hd b bd s sd dT dS dH k kd c cd h' hd' e' ed' p' pd') κs a)) (init 5 ps r (lts.xs T S H Q lT lS lH lQ cQ e ed p pd h hd b bd s sd dT dS dH k kd c cd h' hd' e' ed' p' pd') (lts.m T S H Q lT lS lH lQ cQ e ed p pd h hd b bd s sd dT dS dH k kd c cd h' hd' e' ed' p' pd') κs qs a)
  asked laws one_named κs qs a good pre bs = λ new. (
    λ κs' l. l,
    λ taken. (
      refl,
      (
        λ κs' l. l,
        λ answered. (
          (refl, (tt, tt)),
          -- the clauses of the two calls, in the order of their contracts
          let one = taken.5 in
              let fewer : HasFewer (read PartialEqGhosts.eq p) (read KeyGhosts.names k a.1.0) 1 a.0.now taken.2.0 = one.0 in
              let last = one.1.1.0 in
              let several = one.1.1.1.0 in
              let bag = one.1.1.1.1 in
              let rest = answered.5 in
              (fewer, answer_named laws (read KeyGhosts.names k a.1.0) (one_named a.1.0) (λ f. (f.0.now, f.1)) a.0.now.items taken.2.0.items bag fewer.left.bag fewer.left.means taken.1 answered.1 last several rest.0 rest.1.0 rest.1.1),
        ),
      ),
    ),
  )

  met : IsEquivalence p.eq → NamesOne → {M : Type 1} {𝓤 : Ura M} (𝓛 : Logic 𝓤) (𝓣 : Tables 𝓤 𝓛.H) → lts.Known-0 T S H Q lT lS lH lQ cQ e ed p pd h hd b bd s sd dT dS dH k kd c cd h' hd' e' ed' p' pd' claims 𝓛 𝓣 → lts.Known-1 T S H Q lT lS lH lQ cQ e ed p pd h hd b bd s sd dT dS dH k kd c cd h' hd' e' ed' p' pd' claims 𝓛 𝓣
      → Triple 𝓤 (WpFn 𝓤 𝓛.H 𝓣.C 𝓣.Λ (lts.function T S H Q lT lS lH lQ cQ e ed p pd h hd b bd s sd dT dS dH k kd c cd h' hd' e' ed' p' pd')) (plain_of 𝓛 5 ps r (reads.Pre T S H Q lT lS lH lQ cQ e ed p pd h hd b bd s sd dT dS dH k kd c cd h' hd' e' ed' p' pd') (Owing 5 R last self others r owed (reads.Post T S H Q lT lS lH lQ cQ e ed p pd h hd b bd s sd dT dS dH k kd c cd h' hd' e' ed' p' pd')))
  met laws one_named 𝓛 𝓣 take_one taken_or_lent =
      t_fn_plain_given 𝓛 𝓣 5 ps r (lts.xs T S H Q lT lS lH lQ cQ e ed p pd h hd b bd s sd dT dS dH k kd c cd h' hd' e' ed' p' pd') (lts.m T S H Q lT lS lH lQ cQ e ed p pd h hd b bd s sd dT dS dH k kd c cd h' hd' e' ed' p' pd') (lts.hs T S H Q lT lS lH lQ cQ e ed p pd h hd b bd s sd dT dS dH k kd c cd h' hd' e' ed' p' pd') lends-t (λ κs qs bs. Φ-0) (λ κs. (κs.1.0 ⊑ T.lives) × ((κs.1.1.0 ⊑ S.lives) × ((κs.1.1.1.0 ⊑ H.lives) × ((κs.1.1.1.1.0 ⊑ Q.lives) × Unit {0}))))
      (λ κs qs bs below lives. typed κs qs 𝓛 𝓣 take_one taken_or_lent lives bs below) (reads.Pre T S H Q lT lS lH lQ cQ e ed p pd h hd b bd s sd dT dS dH k kd c cd h' hd' e' ed' p' pd') (Owing 5 R last self others r owed (reads.Post T S H Q lT lS lH lQ cQ e ed p pd h hd b bd s sd dT dS dH k kd c cd h' hd' e' ed' p' pd')) (λ κs a pre. let known = (reads.pre_read T S H Q lT lS lH lQ cQ e ed p pd h hd b bd s sd dT dS dH k kd c cd h' hd' e' ed' p' pd' κs a tt).tells in (All-at 0 known pre, (All-at 1 known pre, (All-at 2 known pre, (All-at 3 known pre, tt))))) (asked laws one_named)

pub try_take_spec : {M : Type 1} → statement M
unfolding tables_of such_by
try_take_spec {M = M} 𝓤 𝓛 𝓜 𝓡 wired T S H Q lT lS lH lQ cQ e ed p pd h hd b bd s sd dT dS dH k kd c cd h' hd' e' ed' p' pd' b1 b2 b3 b4 b5 b6 b7 b8 b9 b10 b11 b12 b13 =
    let world : World = record { M = M; 𝓤 = 𝓤; 𝓛 = 𝓛; 𝓜 = 𝓜; 𝓡 = 𝓡 } in
    let dicts : Dicts = dcons ed (dcons pd (dcons hd (dcons bd (dcons sd (dcons dT (dcons dS (dcons dH (dcons kd (dcons cd (dcons hd' (dcons ed' (dcons pd' dnil)))))))))))) in
    let types : Args = bounded (a_type ∷ a_type ∷ a_type ∷ a_type ∷ []) (T, (S, (H, (Q, tt)))) dicts in
    close_follows 5 (R T S H Q lT lS lH lQ cQ e ed p pd h hd b bd s sd dT dS dH k kd c cd h' hd' e' ed' p' pd') (last T S H Q lT lS lH lQ cQ e ed p pd h hd b bd s sd dT dS dH k kd c cd h' hd' e' ed' p' pd') (self T S H Q lT lS lH lQ cQ e ed p pd h hd b bd s sd dT dS dH k kd c cd h' hd' e' ed' p' pd') (others T S H Q lT lS lH lQ cQ e ed p pd h hd b bd s sd dT dS dH k kd c cd h' hd' e' ed' p' pd') (kinds.r T S H Q lT lS lH lQ cQ e ed p pd h hd b bd s sd dT dS dH k kd c cd h' hd' e' ed' p' pd') (owed T S H Q lT lS lH lQ cQ e ed p pd h hd b bd s sd dT dS dH k kd c cd h' hd' e' ed' p' pd') (reads.Ghost T S H Q lT lS lH lQ cQ e ed p pd h hd b bd s sd dT dS dH k kd c cd h' hd' e' ed' p' pd') (reads.requires T S H Q lT lS lH lQ cQ e ed p pd h hd b bd s sd dT dS dH k kd c cd h' hd' e' ed' p' pd') (reads.ensures T S H Q lT lS lH lQ cQ e ed p pd h hd b bd s sd dT dS dH k kd c cd h' hd' e' ed' p' pd') (reads.pre_read T S H Q lT lS lH lQ cQ e ed p pd h hd b bd s sd dT dS dH k kd c cd h' hd' e' ed' p' pd') (reads.Pinned T S H Q lT lS lH lQ cQ e ed p pd h hd b bd s sd dT dS dH k kd c cd h' hd' e' ed' p' pd') (reads.Owned T S H Q lT lS lH lQ cQ e ed p pd h hd b bd s sd dT dS dH k kd c cd h' hd' e' ed' p' pd') (reads.post_read T S H Q lT lS lH lQ cQ e ed p pd h hd b bd s sd dT dS dH k kd c cd h' hd' e' ed' p' pd') world 𝓡.env
    (symbol types) (inst_fn types code.function) (code.unfolded 𝓤 𝓛.H 𝓜 𝓡 wired (T, (S, (H, (Q, tt)))) ed pd hd bd sd dT dS dH kd cd hd' ed' pd') (λ κs a g. tt) (λ κs. reads.owns T S H Q lT lS lH lQ cQ e ed p pd h hd b bd s sd dT dS dH k kd c cd h' hd' e' ed' p' pd' κs world) (λ κs a g x e'. all∗_one world _)
    (λ g. at_code 𝓤 𝓛.H (Over 𝓛 𝓜 𝓡 𝓡.env).C (Over 𝓛 𝓜 𝓡 𝓡.env).Λ (lts.function T S H Q lT lS lH lQ cQ e ed p pd h hd b bd s sd dT dS dH k kd c cd h' hd' e' ed' p' pd') (inst_fn types code.function) (tie.same_locals T S H Q lT lS lH lQ cQ e ed p pd h hd b bd s sd dT dS dH k kd c cd h' hd' e' ed' p' pd') (tie.same_body T S H Q lT lS lH lQ cQ e ed p pd h hd b bd s sd dT dS dH k kd c cd h' hd' e' ed' p' pd')
    (plain_of 𝓛 5 (ps T S H Q lT lS lH lQ cQ e ed p pd h hd b bd s sd dT dS dH k kd c cd h' hd' e' ed' p' pd') (r T S H Q lT lS lH lQ cQ e ed p pd h hd b bd s sd dT dS dH k kd c cd h' hd' e' ed' p' pd') (reads.Pre T S H Q lT lS lH lQ cQ e ed p pd h hd b bd s sd dT dS dH k kd c cd h' hd' e' ed' p' pd') (Owing 5 (R T S H Q lT lS lH lQ cQ e ed p pd h hd b bd s sd dT dS dH k kd c cd h' hd' e' ed' p' pd') (last T S H Q lT lS lH lQ cQ e ed p pd h hd b bd s sd dT dS dH k kd c cd h' hd' e' ed' p' pd') (self T S H Q lT lS lH lQ cQ e ed p pd h hd b bd s sd dT dS dH k kd c cd h' hd' e' ed' p' pd') (others T S H Q lT lS lH lQ cQ e ed p pd h hd b bd s sd dT dS dH k kd c cd h' hd' e' ed' p' pd') (r T S H Q lT lS lH lQ cQ e ed p pd h hd b bd s sd dT dS dH k kd c cd h' hd' e' ed' p' pd') (owed T S H Q lT lS lH lQ cQ e ed p pd h hd b bd s sd dT dS dH k kd c cd h' hd' e' ed' p' pd') (reads.Post T S H Q lT lS lH lQ cQ e ed p pd h hd b bd s sd dT dS dH k kd c cd h' hd' e' ed' p' pd')))
    (met T S H Q lT lS lH lQ cQ e ed p pd h hd b bd s sd dT dS dH k kd c cd h' hd' e' ed' p' pd' b1.laws b9.names_one 𝓛 (Over 𝓛 𝓜 𝓡 𝓡.env) (tie.known-0 𝓤 𝓛 𝓜 𝓡 wired T S H Q lT lS lH lQ cQ e ed p pd h hd b bd s sd dT dS dH k kd c cd h' hd' e' ed' p' pd' b1 b2 b3 b4 b5 b6 b7 b8 b9 b10 b11 b12 b13) (tie.known-1 𝓤 𝓛 𝓜 𝓡 wired T S H Q lT lS lH lQ cQ e ed p pd h hd b bd s sd dT dS dH k kd c cd h' hd' e' ed' p' pd' b1 b2 b3 b4 b5 b6 b7 b8 b9 b10 b11 b12 b13)))
