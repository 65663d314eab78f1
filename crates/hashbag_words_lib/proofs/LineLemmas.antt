-- The lines of an input that has a line feed, and of one that is split at a line end.
use Rattle.std.proofs.Common.{◌≡◌, ◌≢◌, ℕ, zero, suc, ◌+◌, ◌-◌, ◌<◌, ◌≤◌, Bool, true, false, eqb, ◌⊎◌, inl, inr, List, [], ◌∷◌, ◌++◌, length, get_or, refl, sym, ◌∙◌, ap, subst, arith, ne_eqb, length-append, append_assoc, All}
use borrow.Author.Tests.{eqb-true, eqb-false}
use Rattle.std.specs.List.{slice_split}
use Rattle.std.specs.Str.Lines.{lines, lines_of_parts, strip_carriage_return}
use Rattle.std.proofs.lemmas.List.{get_or-append_right}
use Rattle.std.proofs.lemmas.List.Elements.{All-nil, All-cons, All-get_or}
use Rattle.std.proofs.lemmas.List.Splits.{slice_split_at, length-slice_split}
use Rattle.hashbag_words_lib.specs.Counted.{NoLineFeed}
use Rattle.hashbag_words_lib.specs.LineEnds.{EndsLine}

-- the bytes before the first line feed and those after it, or there is no line feed
abbrev Cut : List ℕ → Type 0
Cut xs = ((front : List ℕ) × (rest : List ℕ) × (xs ≡ front ++ 10 ∷ rest) × NoLineFeed front) ⊎ NoLineFeed xs

cut_cons : (x : ℕ) (xs : List ℕ) (b : Bool) → eqb x 10 ≡ b → Cut xs → Cut (x ∷ xs)
cut_cons x xs true is later = inl ([], xs, ap (λ (y : ℕ). y ∷ xs) (eqb-true x 10 is), All-nil (λ y. y ≢ 10))
cut_cons x xs false is (inl h) = inl (x ∷ h.0, h.1, ap (λ (l : List ℕ). x ∷ l) h.2, All-cons (λ y. y ≢ 10) x h.0 (eqb-false x 10 is) h.3)
cut_cons x xs false is (inr h) = inr (All-cons (λ y. y ≢ 10) x xs (eqb-false x 10 is) h)

cut : (xs : List ℕ) → Cut xs
cut [] = inr (All-nil (λ y. y ≢ 10))
cut (x ∷ xs) = cut_cons x xs (eqb x 10) refl (cut xs)

others : (xs : List ℕ) → NoLineFeed xs → All (λ b. eqb b 10 ≡ false) xs
others xs h = λ k d l. ne_eqb (get_or xs k d) 10 (h k d l)

lines_of_parts-cons : (x : List ℕ) (parts : List (List ℕ)) → 0 < length parts → lines_of_parts (x ∷ parts) ≡ strip_carriage_return x ∷ lines_of_parts parts
lines_of_parts-cons x [] l = absurd (omega arith)
lines_of_parts-cons x (y ∷ more) l = refl

pub lines-cut : (front rest : List ℕ) → NoLineFeed front → lines (front ++ 10 ∷ rest) ≡ strip_carriage_return front ∷ lines rest
lines-cut front rest h =
    ap lines_of_parts (slice_split_at (λ b. eqb b 10) front 10 rest (others front h) refl)
    ∙ lines_of_parts-cons front (slice_split (λ b. eqb b 10) rest) (omega (arith, length-slice_split (λ b. eqb b 10) rest))

ends_rest : (front rest : List ℕ) → EndsLine (front ++ 10 ∷ rest) → EndsLine rest
ends_rest front rest ends some =
    let whole : length (front ++ 10 ∷ rest) ≡ length front + length (10 ∷ rest) = length-append front (10 ∷ rest) in
    let long : length (front ++ 10 ∷ []) ≡ length front + 1 = length-append front (10 ∷ []) in
    let place : length (front ++ 10 ∷ rest) - 1 - (length front + 1) ≡ length rest - 1 = omega arith in
    sym (ap (λ (l : List ℕ). get_or l (length (front ++ 10 ∷ rest) - 1) 0) (sym (append_assoc front (10 ∷ []) rest))
    ∙ get_or-append_right (front ++ 10 ∷ []) rest (length front + 1) (length (front ++ 10 ∷ rest) - 1) 0 long (omega arith)
    ∙ ap (λ (k : ℕ). get_or rest k 0) place)
    ∙ ends (omega arith)

joined_of_cut : (n : ℕ) (xs ys : List ℕ) → length xs ≤ suc n → EndsLine xs → 0 < length xs → Cut xs → ((zs : List ℕ) → length zs ≤ n → EndsLine zs → lines (zs ++ ys) ≡ lines zs ++ lines ys) → lines (xs ++ ys) ≡ lines xs ++ lines ys
joined_of_cut n xs ys fits ends some (inl h) later =
    let front = h.0 in
    let rest = h.1 in
    let whole : length xs ≡ length front + length (10 ∷ rest) = ap length h.2 ∙ length-append front (10 ∷ rest) in
    ap (λ (l : List ℕ). lines (l ++ ys)) h.2
    ∙ ap lines (append_assoc front (10 ∷ rest) ys)
    ∙ lines-cut front (rest ++ ys) h.3
    ∙ ap (λ (l : List (List ℕ)). strip_carriage_return front ∷ l) (later rest (omega arith) (ends_rest front rest (subst EndsLine h.2 ends)))
    ∙ ap (λ (l : List (List ℕ)). l ++ lines ys) (sym (ap lines h.2 ∙ lines-cut front rest h.3))
joined_of_cut n xs ys fits ends some (inr h) later = absurd (All-get_or (λ y. y ≢ 10) xs (length xs - 1) 0 (omega arith) h (ends some))

joined : (n : ℕ) (xs ys : List ℕ) → length xs ≤ n → EndsLine xs → lines (xs ++ ys) ≡ lines xs ++ lines ys
joined n [] ys fits ends = refl
joined zero (x ∷ xs) ys fits ends = absurd (omega arith)
joined (suc n) (x ∷ xs) ys fits ends = joined_of_cut n (x ∷ xs) ys fits ends (omega arith) (cut (x ∷ xs)) (λ zs few end. joined n zs ys few end)

-- the lines of an input that is split at a line end are those of its two parts
pub lines-append : (xs ys : List ℕ) → EndsLine xs → lines (xs ++ ys) ≡ lines xs ++ lines ys
lines-append xs ys ends = joined (length xs) xs ys (omega arith) ends
