use Rattle.std.proofs.Common.{◌≡◌, ℕ, ◌+◌, ◌-◌, cond, Bool, true, false, sum_by, refl, sym, ap, ◌∙◌, arith, rules}
use Rattle.std.proofs.lemmas.List.Sums.{sum_by-cons}
use Rattle.hashbag_core.specs.Bag.{occurrences}
use Rattle.hashbag_core.specs.Occurrences.{count}
use Rattle.hashbag_core.specs.EqualityLaws.{count_congr}
use Rattle.hashbag_core.proofs.CallerLemmas.{count_removed_any}
use Rattle.hashbag_core.proofs.OccurrenceLemmas.{count_rearranged}
use Rattle.hashbag_ops.proofs.ByCount.{answers_by_count, count_retained_by}
use Rattle.hashbag_ops.proofs.Sums.{count_written}
use Rattle.hashbag_ops.proofs.combine.take_away.Goals as goal

-- of c in a bag, n are removed, and s' more are still to come
still_to_come : (same : Bool) (c n s c' s' t : ℕ) → c' ≡ cond same (c - n) c → s ≡ cond same n 0 + s' → c - s ≡ t → c' - s' ≡ t
still_to_come true c n s c' s' t fewer sum is = omega (arith, fewer, sum, is)
still_to_come false c n s c' s' t same sum is = omega (arith, same, sum, is)

pub loop-value-init : goal.loop-value-init
loop-value-init g c =
    let eq = g.T.PartialEq.eq in
    let laws = g.met.T.Eq.laws in
    let W = c.set_iter-value-items.result in
    record {
      counts = λ v. rw c.into_iter-value-iterator.ensures.into_iter_gives
          (ap (λ k. count eq v c.args.bag.now.items - k) (sym (count_written laws v W) ∙ count_rearranged laws v (occurrences W) c.args.other.now.items c.set_iter-value-items.ensures.means));
      len = omega arith;
      limit = refl;
      hasher = refl;
      slots = refl;
      room = omega arith;
    }

pub loop-value-preserved : goal.loop-value-preserved
loop-value-preserved g c =
    let eq = g.T.PartialEq.eq in
    let laws = g.met.T.Eq.laws in
    let before = c.loop-value.bag in
    let after = c.remove_up_to.new.self in
    let x = c.in-Some.value.now in
    let n = c.in-Some.n in
    let rest = c.next.new.self in
    let so_far = c.loop-value.invariant in
    let fewer = c.remove_up_to.ensures.fewer in
    record {
      counts = λ v.
          let came = ap (λ l. sum_by (λ p. cond (eq v p.0) p.1 0) l) c.in-Some.ensures.steps ∙ sum_by-cons (λ p. cond (eq v p.0) p.1 0) (x, n) rest in
          still_to_come (eq v x) (count eq v before.items) n _ (count eq v after.items) (sum_by (λ p. cond (eq v p.0) p.1 0) rest) _
          (count_removed_any laws before after v x n fewer.left) came (so_far.counts v);
      len =
          let was = so_far.len in
          let long = c.remove_up_to.ensures.len in
          let left = c.remove_up_to.ensures.after in
          omega (arith, was, long, left);
      limit = fewer.left.limit ∙ so_far.limit;
      hasher = fewer.left.hasher ∙ so_far.hasher;
      slots = fewer.room.slots ∙ so_far.slots;
      room =
          let was = so_far.room in
          let less = fewer.room.room in
          omega (arith, was, less);
    }

-- the closure decides by the value and its count
pub returns-clause-counts : goal.returns-clause-counts
returns-clause-counts g c =
    let eq = g.T.PartialEq.eq in
    let laws = g.met.T.Eq.laws in
    let Y = c.args.other.now.items in
    let done = c.retain.ensures.retained in
    let answers = answers_by_count _ (λ p. p.0.now.items ≡ Y) (λ x n. n - count eq x Y) (λ p q x n a same t. search rules) _ done.walk done.returned done.last refl done.calls in
    λ v.
    let kept = count_retained_by laws (λ x n. n - count eq x Y) (λ u w n same. ap (λ (k : ℕ). n - k) (count_congr laws Y u w same)) _ _ c.args.bag.now c.retain.new.self done answers v in
    omega arith

pub returns-clause-limit : goal.returns-clause-limit
returns-clause-limit g c = c.retain.ensures.retained.left.limit

pub returns-clause-hasher : goal.returns-clause-hasher
returns-clause-hasher g c = c.retain.ensures.retained.left.hasher
