-- What a seal is made of, one movement after the other; and the rows of batches, which have their seals.
use Rattle.std.proofs.Common.{◌≡◌, ℕ, ◌+◌, ◌<◌, List, [], ◌∷◌, ◌++◌, get_or, take, drop, length, String, refl, sym, ◌∙◌, ap, subst, arith}
use Rattle.std.proofs.lemmas.List.{length-take, take_min, drop_min, drop_more}
use Rattle.std.specs.Global.{Global}
use Rattle.hashbag_ledger_lib.specs.declared.extras.Extra.{Extra}
use Rattle.hashbag_ledger_lib.specs.declared.movements.Entry.{Entry}
use Rattle.hashbag_ledger_lib.specs.declared.once.Batch.{Batch}
use Rattle.hashbag_ledger_lib.specs.declared.sealing.Draft.{Draft}
use Rattle.hashbag_ledger_lib.specs.Seals.{with_movement, with_movements, with_extra, with_extras, seal_of, IsRowOf, AreRowsOf, AreSealed}

-- one more movement
pub movements_more : (m : List ℕ) (es : List (Entry (String Global))) (e : Entry (String Global)) → with_movements m (es ++ e ∷ []) ≡ with_movement (with_movements m es) e.movement
movements_more m [] e = refl
movements_more m (x ∷ es) e = movements_more (with_movement m x.movement) es e

-- one more date and note
pub extras_more : (m : List ℕ) (n : ℕ) (xs : List Extra) (x : Extra) → with_extras m n (xs ++ x ∷ []) ≡ with_extra (with_extras m n xs) (n + length xs) x
extras_more m n [] x = let same : n ≡ n + 0 = omega arith in ap (λ k. with_extra m k x) same
extras_more m n (y ∷ xs) x =
    let same : n + 1 + length xs ≡ n + length (y ∷ xs) = omega arith in
    extras_more (with_extra m n y) (n + 1) xs x ∙ ap (λ k. with_extra (with_extras (with_extra m n y) (n + 1) xs) k x) same

-- as many as there are of the first n
take_own : {X : Type 0} (n : ℕ) (xs : List X) → take (length (take n xs)) xs ≡ take n xs
take_own n xs = ap (λ k. take k xs) (length-take n xs) ∙ take_min n xs

drop_own : {X : Type 0} (n : ℕ) (xs : List X) → drop (length (take n xs)) xs ≡ drop n xs
drop_own n xs = ap (λ k. drop k xs) (length-take n xs) ∙ drop_min n xs

-- rows of batches have their seals
pub rows_are_sealed : (scale : ℕ) (ds : List Draft) (es : List (Entry (String Global))) (xs : List Extra) (bs : List Batch) → AreRowsOf scale ds es xs bs → AreSealed scale bs es xs
rows_are_sealed scale [] es xs [] are = tt
rows_are_sealed scale [] es xs (b ∷ bs) are = absurd are
rows_are_sealed scale (d ∷ ds) es xs [] are = tt
rows_are_sealed scale (d ∷ ds) es xs (b ∷ bs) are =
    let own : take b.movements es ≡ take d.movements es = ap (λ (n : ℕ). take n es) are.0.counts ∙ take_own d.movements es in
    let later : drop b.movements es ≡ drop d.movements es = ap (λ (n : ℕ). drop n es) are.0.counts ∙ drop_own d.movements es in
    let left = drop b.movements xs in (
      are.0.seal ∙ ap (λ (l : List (Entry (String Global))). seal_of scale b l (take b.movements xs)) (sym own),
      subst (λ (l : List (Entry (String Global))). AreSealed scale bs l left) (sym later) (rows_are_sealed scale ds (drop d.movements es) left bs are.1),
    )

-- the row of the next draft, before the rows of those after it
pub next_row : (scale : ℕ) (ds : List Draft) (i : ℕ) (d : Draft) (es own later : List (Entry (String Global))) (xs own_xs later_xs : List Extra) (row : Batch) (more : List Batch) → i < length ds
    → own ≡ take (get_or ds i d).movements es → later ≡ drop (get_or ds i d).movements es
    → own_xs ≡ take (length own) xs → later_xs ≡ drop (length own) xs
    → IsRowOf scale (get_or ds i d) own own_xs row → AreRowsOf scale (drop (i + 1) ds) later later_xs more → AreRowsOf scale (drop i ds) es xs (row ∷ more)
next_row scale ds i d es own later xs own_xs later_xs row more below is_own is_later is_own_xs is_later_xs is are =
    let taken : own_xs ≡ take row.movements xs = is_own_xs ∙ ap (λ (n : ℕ). take n xs) (sym is.counts) in
    let left : later_xs ≡ drop row.movements xs = is_later_xs ∙ ap (λ (n : ℕ). drop n xs) (sym is.counts) in
    let here : IsRowOf scale (get_or ds i d) (take (get_or ds i d).movements es) own_xs row = subst (λ (l : List (Entry (String Global))). IsRowOf scale (get_or ds i d) l own_xs row) is_own is in
    let then : AreRowsOf scale (drop (i + 1) ds) (drop (get_or ds i d).movements es) later_xs more = subst (λ (l : List (Entry (String Global))). AreRowsOf scale (drop (i + 1) ds) l later_xs more) is_later are in
    subst (λ (l : List Draft). AreRowsOf scale l es xs (row ∷ more)) (sym (drop_more ds i d below)) (
      subst (λ (l : List Extra). IsRowOf scale (get_or ds i d) (take (get_or ds i d).movements es) l row) taken here,
      subst (λ (l : List Extra). AreRowsOf scale (drop (i + 1) ds) (drop (get_or ds i d).movements es) l more) left then,
    )
