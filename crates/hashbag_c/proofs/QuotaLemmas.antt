-- A bag that gets, from the last place of a list to the first, as many of each listed value as are allowed.
use Rattle.std.proofs.Common.{◌≡◌, ℕ, zero, suc, ◌+◌, ◌-◌, ◌<◌, ◌≤◌, min, Bool, true, false, cond, List, [], ◌∷◌, length, drop, get_or, refl, sym, ◌∙◌, ap, subst, arith}
use Rattle.std.specs.Cmp.{IsEquivalence}
use Rattle.std.specs.Cmp.Lexicographic.{nat_list_eq_equiv}
use Rattle.std.specs.List.{slice_range}
use Rattle.std.specs.Str.{bytes_eq}
use Rattle.std.proofs.lemmas.List.{drop_all, drop_more}
use Rattle.hashbag_core.specs.Bag.{Bag, IsBagOf}
use Rattle.hashbag_core.specs.EqualityLaws.{count_congr}
use Rattle.hashbag_core.specs.Occurrences.{count_named, count, recount}
use Rattle.hashbag_core.proofs.CallerLemmas.{count_means, count_put_instance, count_of_key, count_inserted_key, count_removed_any, less_of_key}
use Rattle.hashbag_c.specs.Pieces.{pieces_from}
use Rattle.hashbag_c.specs.Quotas.{quota}
use Rattle.hashbag_c.specs.Whole.{SetsNamed}
use Rattle.hashbag_c.proofs.PieceLemmas.{bytes_name_one}

module _ {T : Type 0} {eq : T → T → Bool} (laws : IsEquivalence eq) where
  no_numbers : (v : T) (us : List T) → quota eq v us [] ≡ 0
  no_numbers v [] = refl
  no_numbers v (u ∷ us) = refl

  -- behind the last place nothing is allowed
  pub quota_past : (v : T) (us : List T) (ns : List ℕ) (i : ℕ) → min (length us) (length ns) ≤ i → quota eq v (drop i us) (drop i ns) ≡ 0
  quota_past v us ns i past = by_values (length us - i) refl
    where
      by_values : (m : ℕ) → length us - i ≡ m → quota eq v (drop i us) (drop i ns) ≡ 0
      by_values zero e = ap (λ (l : List T). quota eq v l (drop i ns)) (drop_all i us (omega arith))
      by_values (suc m) e = ap (λ (l : List ℕ). quota eq v (drop i us) l) (drop_all i ns (omega arith)) ∙ no_numbers v (drop i us)

  -- the quota from a place on, from that from the next place on
  quota_more : (v : T) (us : List T) (ns : List ℕ) (i : ℕ) (d : T) → i < length us → i < length ns
      → quota eq v (drop i us) (drop i ns) ≡ cond (eq v (get_or us i d)) (get_or ns i 0) (quota eq v (drop (i + 1) us) (drop (i + 1) ns))
  quota_more v us ns i d a b =
      ap (λ (l : List T). quota eq v l (drop i ns)) (drop_more us i d a)
      ∙ ap (λ (l : List ℕ). quota eq v (get_or us i d ∷ drop (i + 1) us) l) (drop_more ns i 0 b)

  allowed_at : (v u : T) (X : List T) (c n q : ℕ) (b : Bool) → eq v u ≡ b → c ≡ min (count eq v X) q → cond b (min n (count eq u X)) c ≡ min (count eq v X) (cond b n q)
  allowed_at v u X c n q true same before = let equal = count_congr laws X v u same in omega arith
  allowed_at v u X c n q false other before = before

  -- one place more: the value u there is given the lesser of its quota and its count in X. `after` is the new count of v, c the old one, and
  -- k the place that was done
  pub allowed_more : (v : T) (X us : List T) (ns : List ℕ) (i k : ℕ) (u d : T) (after c : ℕ) → k ≡ i + 1 → i < length us → i < length ns → get_or us i d ≡ u
      → after ≡ cond (eq v u) (min (get_or ns i 0) (count eq u X)) c → c ≡ min (count eq v X) (quota eq v (drop k us) (drop k ns))
      → after ≡ min (count eq v X) (quota eq v (drop i us) (drop i ns))
  allowed_more v X us ns i k u d after c next a b is set before =
      let rest = quota eq v (drop (i + 1) us) (drop (i + 1) ns) in
      let old : c ≡ min (count eq v X) rest = subst (λ (m : ℕ). c ≡ min (count eq v X) (quota eq v (drop m us) (drop m ns))) next before in
      set ∙ allowed_at v u X c (get_or ns i 0) rest (eq v u) refl old
      ∙ ap (λ (w : T). min (count eq v X) (cond (eq v w) (get_or ns i 0) rest)) (sym is)
      ∙ ap (λ (q : ℕ). min (count eq v X) q) (sym (quota_more v us ns i d a b))

  -- after `set_count`, of every value
  pub count_set_any : {S : Type 0} (before after : Bag T S) (v x : T) (n : ℕ) → IsBagOf eq before (recount eq x n before.items) after → count eq v after.items ≡ cond (eq v x) n (count eq v before.items)
  count_set_any before after v x n h = count_means laws before after v (recount eq x n before.items) h.means ∙ count_put_instance laws v x n before.items

-- where a piece lies
pub piece_at : (bytes ends : List ℕ) (from i : ℕ) (d : List ℕ) → i < length ends → get_or (pieces_from from bytes ends) i d ≡ slice_range bytes (get_or (from ∷ ends) i 0) (get_or ends i 0)
piece_at bytes [] from i d below = absurd (omega arith)
piece_at bytes (end ∷ ends) from zero d below = refl
piece_at bytes (end ∷ ends) from (suc i) d below = piece_at bytes ends end i d (omega arith)

pub pieces_len : (bytes ends : List ℕ) (from : ℕ) → length (pieces_from from bytes ends) ≡ length ends
pieces_len bytes [] from = refl
pieces_len bytes (end ∷ ends) from = ap (λ (n : ℕ). suc n) (pieces_len bytes ends end)

-- what bytes name occurs as often as the byte string that has them
pub named_count : (k : List ℕ) (X : List (List ℕ)) → count_named (λ x. bytes_eq x k) X ≡ count bytes_eq k X
named_count k X = count_of_key nat_list_eq_equiv k (λ x. bytes_eq x k) (bytes_name_one k) (nat_list_eq_equiv.refl k) X

module _ {S : Type 0} (before after : Bag (List ℕ) S) (k : List ℕ) (n : ℕ) (v : List ℕ) where
  more_at : (b : Bool) (c named : ℕ) → bytes_eq v k ≡ b → named ≡ count bytes_eq k before.items → named < n → c ≡ count bytes_eq v before.items + cond b (n - named) 0 → c ≡ cond b n (count bytes_eq v before.items)
  more_at true c named same is fewer h = let equal = count_congr nat_list_eq_equiv before.items v k same in omega arith
  more_at false c named other is fewer h = omega arith

  fewer_at : (b : Bool) (c named : ℕ) → bytes_eq v k ≡ b → named ≡ count bytes_eq k before.items → n ≤ named → c ≡ cond b (count bytes_eq v before.items - (named - n)) (count bytes_eq v before.items) → c ≡ cond b n (count bytes_eq v before.items)
  fewer_at true c named same is more h = let equal = count_congr nat_list_eq_equiv before.items v k same in omega arith
  fewer_at false c named other is more h = h

  -- the same after n of a byte string are left or were inserted
  pub count_sets : SetsNamed bytes_eq (λ x. bytes_eq x k) n before after → count bytes_eq v after.items ≡ cond (bytes_eq v k) n (count bytes_eq v before.items)
  count_sets h = by_count (n - named) refl
    where
      names : List ℕ → Bool
      names x = bytes_eq x k

      named : ℕ
      named = count_named names before.items

      is_named : named ≡ count bytes_eq k before.items
      is_named = named_count k before.items

      by_count : (m : ℕ) → n - named ≡ m → count bytes_eq v after.items ≡ cond (bytes_eq v k) n (count bytes_eq v before.items)
      by_count zero e =
          let fewer = h.fewer (omega arith) in
          let left = subst (λ (X : List (List ℕ)). IsBagOf bytes_eq before X after) (less_of_key nat_list_eq_equiv k names (bytes_name_one k) (nat_list_eq_equiv.refl k) (named - n) before.items) fewer.left in
          fewer_at (bytes_eq v k) _ named refl is_named (omega arith) (count_removed_any nat_list_eq_equiv before after v k (named - n) left)
      by_count (suc m) e = more_at (bytes_eq v k) _ named refl is_named (omega arith) (count_inserted_key nat_list_eq_equiv before after v names (n - named) (bytes_name_one k) (h.more (omega arith)))
