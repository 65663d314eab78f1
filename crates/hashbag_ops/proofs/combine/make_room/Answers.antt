use Rattle.std.proofs.Common.{◌≡◌, ℕ, ◌≤◌, Bool, List, length, inl, inr, sym, subst, arith}
use Rattle.std.specs.Cmp.{IsEquivalence}
use Rattle.std.proofs.lemmas.List.Sorted.{IsPermutation-refl}
use Rattle.hashbag_core.specs.Bag.{Bag}
use Rattle.hashbag_core.specs.Joins.{IsNotIn}
use Rattle.hashbag_core.specs.JoinsLeft.{lacking}
use Rattle.hashbag_core.specs.Walks.{IsSetWalkOf}
use Rattle.hashbag_core.proofs.CallerLemmas.{count_kept}
use Rattle.hashbag_core.proofs.JoinLemmas.{length_lacking, not_in_from_walk}
use Rattle.hashbag_ops.proofs.combine.make_room.Goals as goal

-- as many as each list of what is in a bag and not in Y: as many as Y lacks of a walk over the bag
many_lacked : {T S : Type 0} {eq : T → T → Bool} (laws : IsEquivalence eq) (from : Bag T S) (Y : List T) (W : List (T × ℕ)) (k : ℕ) → IsSetWalkOf eq from W → ((M : List (T × ℕ)) → IsNotIn eq from.items Y M → k ≡ length M)
    → k ≡ length (lacking eq Y W)
many_lacked {eq = eq} laws from Y W k is all = all (lacking eq Y W) (not_in_from_walk laws from.items Y W (is.walk from.items (IsPermutation-refl from.items)))

pub returns-then-set_len-room-clause-room : goal.returns-then-set_len-room-clause-room
returns-then-set_len-room-clause-room g c = λ W is.
    let few = length_lacking g.T.PartialEq.eq c.args.into.now.items W in
    let distinct = is.distinct in
    omega (arith, few, distinct)

pub returns-clause-counts : goal.returns-clause-counts
returns-clause-counts g c = λ v. count_kept g.met.T.Eq.laws c.args.into.now c.reserve.new.self v c.in_ok-reserve.ensures.items

pub returns-clause-room : goal.returns-clause-room
returns-clause-room g c = λ W is.
    let enough = c.in_ok-reserve.ensures.room in
    omega (arith, enough, many_lacked g.met.T.Eq.laws c.args.from.now c.args.into.now.items W _ is c.lacked_by-lacked.ensures)

pub returns-clause-slots : goal.returns-clause-slots
returns-clause-slots g c = elim c.in_ok-reserve.ensures.reserves [
  | inl stays ↦ subst (λ t. length c.args.into.now.tables.newer ≤ length t.newer) (sym stays.1) (omega arith)
  | inr packs ↦ packs.1.least.from
]

pub returns-clause-enough : goal.returns-clause-enough
returns-clause-enough g c = λ W is enough.
    let many = many_lacked g.met.T.Eq.laws c.args.from.now c.args.into.now.items W _ is c.lacked_by-lacked.ensures in
    (c.reserve.ensures.enough (omega (arith, many, enough))).1
