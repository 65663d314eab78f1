-- One movement that is entered into a bag.
use Rattle.std.proofs.Common.{◌≡◌, ℕ, ◌+◌, ◌-◌, ◌≤◌, Bool, true, false, cond, sym, ◌∙◌, subst, refl, arith}
use Rattle.std.specs.Cmp.{IsEquivalence}
use Rattle.hashbag_core.specs.Bag.{Bag, IsBagOf}
use Rattle.hashbag_core.specs.EqualityLaws.{count_congr}
use Rattle.hashbag_core.specs.Occurrences.{count, add, less}
use Rattle.hashbag_core.proofs.CallerLemmas.{count_means, count_inserted_any, count_less}
use Rattle.hashbag_ledger_lib.specs.declared.movements.Change.{Change}
use Rattle.hashbag_ledger_lib.specs.declared.movements.Change.TheVariants.{In, Out}
use Rattle.hashbag_ledger_lib.specs.declared.movements.Movement.{Movement}
use Rattle.hashbag_ledger_lib.specs.Ledger.{coming, going, stock_of, ChangesStock}

more_at : (b : Bool) (after before n : ℕ) → after ≡ before + cond b n 0 → after + cond b 0 0 ≡ before + cond b n 0
more_at true after before n h = omega arith
more_at false after before n h = omega arith

fewer_at : (b : Bool) (after before n : ℕ) → after ≡ cond b (before - n) before → (b ≡ true → n ≤ before) → after + cond b n 0 ≡ before + cond b 0 0
fewer_at true after before n h enough = let some = enough refl in omega arith
fewer_at false after before n h enough = omega arith

module _ {T S : Type 0} {eq : T → T → Bool} (laws : IsEquivalence eq) (m : Movement T) (n : ℕ) (before after : Bag T S) where
  pub brought_in : m.change ≡ In n → IsBagOf eq before (add eq m.article n before.items) after → ChangesStock eq m (stock_of eq before.items) (stock_of eq after.items)
  brought_in is h = record {
    enough = subst (λ (c : Change). going c ≤ count eq m.article before.items) (sym is) (omega arith);
    counts = λ v.
        subst (λ (c : Change). count eq v after.items + cond (eq v m.article) (going c) 0 ≡ count eq v before.items + cond (eq v m.article) (coming c) 0) (sym is)
        (more_at (eq v m.article) (count eq v after.items) (count eq v before.items) n (count_inserted_any laws before after v m.article n h));
  }

  pub taken_out : m.change ≡ Out n → n ≤ count eq m.article before.items → IsBagOf eq before (less eq m.article n before.items) after → ChangesStock eq m (stock_of eq before.items) (stock_of eq after.items)
  taken_out is enough h = record {
    enough = subst (λ (c : Change). going c ≤ count eq m.article before.items) (sym is) enough;
    counts = λ v.
        subst (λ (c : Change). count eq v after.items + cond (eq v m.article) (going c) 0 ≡ count eq v before.items + cond (eq v m.article) (coming c) 0) (sym is)
        (fewer_at (eq v m.article) (count eq v after.items) (count eq v before.items) n
        (count_means laws before after v (less eq m.article n before.items) h.means ∙ count_less laws v m.article n before.items)
        (λ same. subst (λ (k : ℕ). n ≤ k) (sym (count_congr laws before.items v m.article same)) enough));
  }
