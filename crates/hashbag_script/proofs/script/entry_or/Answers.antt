use Rattle.std.proofs.Common.{◌≡◌, ℕ, ◌+◌, ◌<◌, ◌≤◌, Bool, List, length, Result, Ok, sym, subst, arith, rules}
use Rattle.std.proofs.lemmas.Bool.{false≢true}
use Rattle.hashbag_core.specs.Occurrences.{count}
use Rattle.hashbag_core.proofs.ExtendLemmas.{may_fail_memory}
use Rattle.hashbag_script.proofs.RoomLemmas.{one_entered}
use Rattle.hashbag_script.proofs.StepLemmas.{SetsCountOf, sets_entered}
use Rattle.hashbag_core.specs.declared.bag.BagError.{BagError}
use Rattle.hashbag_core.specs.Bag.{Bag, IsBagOf}
use Rattle.hashbag_script.proofs.RowLemmas.{entry_or_done}
use Rattle.hashbag_script.proofs.script.entry_or.Goals.{In-Err-Memory}
use Rattle.hashbag_script.proofs.script.entry_or.Goals as goal

ok_is : (m n : ℕ) → (let r : Result ℕ BagError = Ok m in r) ≡ Ok n → m ≡ n
ok_is m n e = cc

pub returns-in-Ok-clause-reply : goal.returns-in-Ok-clause-reply
returns-in-Ok-clause-reply g c =
    let occupied = rw (c.entry.ensures.value, c.entry.ensures.unchanged) at c.in-Ok.ensures.occupied in
    let vacant = rw (c.entry.ensures.value, c.entry.ensures.unchanged) at c.in-Ok.ensures.vacant in
    (entry_or_done g.met.T.Eq.laws c.args.value c.args.n c.in-Ok.count c.args.bag.now c.or_insert_many.new.self.0 c.len-len.ensures.bag (λ some. (ok_is _ _ (occupied some).0, (occupied some).1)) (λ none. ((vacant none).0, (vacant none).1.added))).reply_is

-- the bag that came back is the one that the entry left
came_back : {T S : Type 0} {eq : T → T → Bool} {before : Bag T S} {X : List T} (after left : Bag T S) → after ≡ left → IsBagOf eq before X left → IsBagOf eq before X after
came_back {eq = eq} {before = before} {X = X} after left e h = subst (λ b. IsBagOf eq before X b) (sym e) h

pub returns-in-Ok-clause-left : goal.returns-in-Ok-clause-left
returns-in-Ok-clause-left g c =
    let occupied = rw (c.entry.ensures.value, c.entry.ensures.unchanged) at c.in-Ok.ensures.occupied in
    let vacant = rw (c.entry.ensures.value, c.entry.ensures.unchanged) at c.in-Ok.ensures.vacant in
    came_back _ c.or_insert_many.new.self.0 (search rules) (entry_or_done g.met.T.Eq.laws c.args.value c.args.n c.in-Ok.count c.args.bag.now c.or_insert_many.new.self.0 c.len-len.ensures.bag (λ some. (ok_is _ _ (occupied some).0, (occupied some).1)) (λ none. ((vacant none).0, (vacant none).1.added))).left

-- and so are its tables
sets_back : {T S : Type 0} {eq : T → T → Bool} {X : List T} (v : T) (before after left : Bag T S) → IsBagOf eq before X after → after ≡ left → SetsCountOf eq v before left → SetsCountOf eq v before after
sets_back {eq = eq} v before after left own e h = subst (λ b. SetsCountOf eq v before b) (sym e) h

pub returns-in-Ok-clause-tables : goal.returns-in-Ok-clause-tables
returns-in-Ok-clause-tables g c =
    let left = c.or_insert_many.new.self.0 in
    let occupied = rw (c.entry.ensures.value, c.entry.ensures.unchanged) at c.in-Ok.ensures.occupied in
    let vacant = rw (c.entry.ensures.value, c.entry.ensures.unchanged) at c.in-Ok.ensures.vacant in
    sets_back c.args.value c.args.bag.now _ left (returns-in-Ok-clause-left g c) (search rules)
    (sets_entered g.met.T.Eq.laws c.args.value c.args.bag.now left c.args.n (λ some. (occupied some).1) (λ none. (vacant none).1))

what_asks : (g : _) (c : In-Err-Memory g) → (length c.args.bag.now.items + c.args.n ≤ c.args.bag.now.most) × (0 < c.args.n) × (count g.T.PartialEq.eq c.args.value c.args.bag.now.items ≡ 0)
what_asks g c =
    let fails = rw (c.entry.ensures.value, c.entry.ensures.unchanged) at c.in-Err-Memory.ensures.fails in
    may_fail_memory g.met.T.Eq.laws c.args.bag.now.most c.args.bag.now.items c.args.value c.args.n c.in-Err-Memory.field-0 c.in-Err-Memory.field-0-is fails.why

pub returns-in-Err-Memory-clause-asked : goal.returns-in-Err-Memory-clause-asked
returns-in-Err-Memory-clause-asked g c =
    let asks = what_asks g (goal.at.returns-in-Err-Memory-clause-asked g c).In-Err-Memory in
    record { absent = asks.2; some = asks.1; fits = asks.0 }

pub returns-in-Err-Memory-clause-takes : goal.returns-in-Err-Memory-clause-takes
returns-in-Err-Memory-clause-takes g c = λ enough.
    let asks = what_asks g (goal.at.returns-in-Err-Memory-clause-takes g c).In-Err-Memory in
    let takes = rw c.entry.ensures.unchanged at c.in-Err-Memory.ensures.takes in
    let one = one_entered g.met.T.Eq.laws c.args.bag.now.most c.args.value c.args.n c.args.bag.now.items asks.2 asks.1 asks.0 in
    absurd (false≢true (takes asks.0 (omega (arith, one, enough))))
