use Rattle.std.proofs.Common.{◌≡◌, ◌+◌, ◌∷◌, ◌++◌, [], ℕ, List, All, Bor, take, get_or, sym, ◌∙◌, ap, subst, arith, rules}
use Rattle.std.proofs.lemmas.List.{map-append, take_all, take_more}
use Rattle.std.proofs.lemmas.List.Elements.{All-push}
use Rattle.std.specs.Map.{keys_of}
use Rattle.hashbag_ledger_lib.specs.declared.movements.Change.{Change}
use Rattle.hashbag_ledger_lib.specs.Dated.{IsNetOf}
use Rattle.hashbag_ledger_lib.proofs.dated.rows_of.Goals as goal

-- one more row
pub loop-entry-preserved : goal.loop-entry-preserved
loop-entry-preserved g c =
    let at = c.loop-entry in
    let all = c.args.articles.now in
    let e : Bor (List ℕ) × ℕ = get_or all at.entry-index (record { ref_ptr = (0, 0); now = [] }, 0) in
    let row : Bor (List ℕ) × Change = (e.0, c.net_of-number.result) in
    let is : c.push.new.self.items ≡ at.rows.items ++ row ∷ [] = c.in_ok-push.ensures.items in
    let next : take (at.entry-index + 1) all ≡ take at.entry-index all ++ e ∷ [] = take_more all at.entry-index _ c.loop-entry-test.true in
    let net : IsNetOf c.args.came.now.items c.args.went.now.items row = search rules in
    record {
      keys = ap (λ (l : List (Bor (List ℕ) × Change)). keys_of l) is ∙ map-append (λ r. r.0) at.rows.items (row ∷ []) ∙ ap (λ (l : List (Bor (List ℕ))). l ++ e.0 ∷ []) at.invariant.keys
          ∙ sym (map-append (λ r. r.0) (take at.entry-index all) (e ∷ [])) ∙ ap (λ (l : List (Bor (List ℕ) × ℕ)). keys_of l) (sym next);
      numbers = subst (λ (l : List (Bor (List ℕ) × Change)). All (IsNetOf c.args.came.now.items c.args.went.now.items) l) (sym is) (All-push (IsNetOf c.args.came.now.items c.args.went.now.items) at.rows.items row at.invariant.numbers net);
    }

-- all rows
pub returns-clause-keys : goal.returns-clause-keys
returns-clause-keys g c =
    let at = c.loop-entry in
    at.invariant.keys ∙ ap (λ (l : List (Bor (List ℕ) × ℕ)). keys_of l) (take_all at.entry-index c.args.articles.now (omega arith))
