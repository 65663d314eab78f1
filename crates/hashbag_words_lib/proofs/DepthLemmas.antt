-- Eight bytes of texts that agree before them: they order the texts, and rows by their tokens.
use Rattle.std.proofs.Common.{◌≡◌, ℕ, zero, suc, ◌+◌, ◌-◌, ◌*◌, ◌<◌, ◌≤◌, ltb, Bool, true, false, List, [], ◌∷◌, ◌++◌, length, get_or, take, drop, map, All, Ordering, Less, Equal, Greater, nat_cmp, is_lt, String, string_bytes, Global, refl, sym, ◌∙◌, ap, subst, arith}
use Rattle.std.specs.Borrow.{Bor}
use Rattle.std.specs.Cmp.{ranks}
use Rattle.std.specs.Cmp.Lexicographic.{slice_cmp}
use Rattle.std.specs.List.{AllWithin}
use Rattle.std.specs.List.Sorted.{IsNonDecreasingBy, IsPartitionPoint, IsPermutation, IsSorted, IsSortedBy}
use Rattle.std.specs.Ordering.{MatchOrdering, ordering_then, ordering_reverse}
use Rattle.std.proofs.lemmas.Bool.{false≢true}
use Rattle.std.proofs.lemmas.Cmp.{nat_list_cmp_total}
use Rattle.std.proofs.lemmas.List.{get_or_append_left, get_or-append_right, get_or-drop, get_or-take, length-append, length-drop, length-map, length-take-le, map-append, take-append-drop}
use Rattle.std.proofs.lemmas.List.Elements.{All-drop, All-map, All-take}
use Rattle.std.proofs.lemmas.List.Sorted.{All-permutation, IsNonDecreasingBy-drop, IsNonDecreasingBy-take, IsPermutation-append}
use Rattle.std.proofs.Math.ListN.{get_or-map}
use borrow.Author.Tests.{ltb-true, ltb-false}
use native.Mathlib.Nat.{mul_assoc, mul_comm}
use Rattle.hashbag_words_lib.specs.Prefix.{lead, bare_row, number_of, row_cmp, HasWord, SortsBlocks, Starts}
use Rattle.hashbag_words_lib.proofs.PrefixLemmas.{bound, lead_rises, AreBytes}

pub drop_none : (text : List ℕ) → drop 0 text ≡ text
drop_none [] = refl
drop_none (byte ∷ text) = refl

drop_past : (d : ℕ) → drop {A = ℕ} d [] ≡ []
drop_past zero = refl
drop_past (suc d) = refl

scaled : (c m : ℕ) → c * 256 * m ≡ c * (m * 256)
scaled c m = mul_assoc c 256 m ∙ ap (λ k. c * k) (mul_comm 256 m)

-- what is before a text adds to its number alike, whatever the text
lead_from : (n c a : ℕ) (text : List ℕ) → lead (c + a) n text ≡ c * bound n + lead a n text
lead_from zero c a text = let one : c * 1 ≡ c = omega arith in ap (λ m. m + a) (sym one)
lead_from (suc n) c a [] =
    let spread : (c + a) * 256 ≡ c * 256 + a * 256 = omega arith in
    ap (λ m. lead m n []) spread ∙ lead_from n (c * 256) (a * 256) [] ∙ ap (λ m. m + lead (a * 256) n []) (scaled c (bound n))
lead_from (suc n) c a (byte ∷ text) =
    let spread : (c + a) * 256 + byte ≡ c * 256 + (a * 256 + byte) = omega arith in
    ap (λ m. lead m n text) spread ∙ lead_from n (c * 256) (a * 256 + byte) text ∙ ap (λ m. m + lead (a * 256 + byte) n text) (scaled c (bound n))

eight_more : (d : ℕ) → suc d + 8 ≡ suc (d + 8)
eight_more d = omega arith

-- eight more bytes go behind the number of those before
lead_cut : (d number : ℕ) (text : List ℕ) → lead number (d + 8) text ≡ lead (lead number d text) 8 (drop d text)
lead_cut zero number text = ap (lead number 8) (sym (drop_none text))
lead_cut (suc d) number [] =
    ap (λ m. lead number m []) (eight_more d) ∙ lead_cut d (number * 256) [] ∙ ap (lead (lead (number * 256) d []) 8) (drop_past d)
lead_cut (suc d) number (byte ∷ text) =
    ap (λ m. lead number m (byte ∷ text)) (eight_more d) ∙ lead_cut d (number * 256 + byte) text

-- the number of some bytes and eight more
lead_word : (from number : ℕ) (text : List ℕ) → lead 0 from text ≡ number → lead 0 (from + 8) text ≡ number * bound 8 + lead 0 8 (drop from text)
lead_word from number text is =
    let none : number ≡ number + 0 = omega arith in
    lead_cut from 0 text ∙ ap (λ m. lead m 8 (drop from text)) (is ∙ none) ∙ lead_from 8 number 0 (drop from text)

adds : (p q r u v : ℕ) → p ≡ r + u → q ≡ r + v → u < v → p < q
adds p q r u v is_p is_q less = omega arith

-- of two texts that agree before a place, the one whose next eight bytes are less comes first
lesser_word : (from number : ℕ) (us vs : List ℕ) → AreBytes vs → lead 0 from us ≡ number → lead 0 from vs ≡ number → lead 0 8 (drop from us) < lead 0 8 (drop from vs) → slice_cmp nat_cmp us vs ≡ Less
lesser_word from number us vs bytes at_us at_vs less =
    lead_rises (from + 8) 0 us vs bytes (adds _ _ (number * bound 8) _ _ (lead_word from number us at_us) (lead_word from number vs at_vs) less)

-- a row, and one with a number before it
abbrev Row : Type 0
Row = Bor (String Global) × ℕ

abbrev Numbered : Type 0
Numbered = ℕ × Row

-- a row comes after another whose token comes before
later : (x y : Row) → slice_cmp nat_cmp (string_bytes x.0.now) (string_bytes y.0.now) ≡ Less → is_lt (row_cmp y x) ≡ false
later x y less =
    let s = string_bytes x.0.now in
    let t = string_bytes y.0.now in
    let is : slice_cmp nat_cmp t s ≡ Greater = nat_list_cmp_total.antisymm t s ∙ ap ordering_reverse less in
    ap (λ r. is_lt (ordering_then r (nat_cmp y.1 x.1))) is

-- the order by the number, then by the row
abbrev numbered_cmp : Numbered → Numbered → Ordering
numbered_cmp x y = ordering_then (nat_cmp x.0 y.0) (row_cmp x.1 y.1)

falls : (from number : ℕ) (x y : Numbered) → HasWord from x → HasWord from y → Starts from number x → Starts from number y → is_lt (numbered_cmp x y) ≡ false → is_lt (row_cmp x.1 y.1) ≡ false
falls from number x y has_x has_y at_x at_y up = by (nat_cmp x.0 y.0) (ranks x.0 y.0) up
  where
    by : (r : Ordering) → MatchOrdering r (x.0 < y.0) (x.0 ≡ y.0) (y.0 < x.0) → is_lt (ordering_then r (row_cmp x.1 y.1)) ≡ false → is_lt (row_cmp x.1 y.1) ≡ false
    by Less h up = absurd (false≢true (sym up))
    by Equal h up = up
    by Greater h up =
        let s = string_bytes x.1.0.now in
        let t = string_bytes y.1.0.now in
        later y.1 x.1 (lesser_word from number t s has_x.bytes at_y at_x (subst (λ k. k < lead 0 8 (drop from s)) has_y.value (subst (λ k. y.0 < k) has_x.value h)))

bare_low : (rows : List Numbered) (k : ℕ) → k + 1 < length (map bare_row rows) → k + 1 < length rows
bare_low rows k high = subst (λ n. k + 1 < n) (length-map rows bare_row) high

-- rows that agree before a place, and that a sort by the next eight bytes and by whole tokens left, are sorted
pub sorted_by_row : (from number : ℕ) (rows : List Numbered) → All (HasWord from) rows → All (Starts from number) rows → IsSorted numbered_cmp rows → IsSorted row_cmp (map bare_row rows)
sorted_by_row from number rows has starts up k d low high =
    let inside : k + 1 < length rows = bare_low rows k high in
    let e : Numbered = (0, d) in
    let before : k < length rows = omega arith in
    let here = get_or-map bare_row rows k e in
    let next = get_or-map bare_row rows (k + 1) e in
    ap (λ x. is_lt (row_cmp x (get_or (map bare_row rows) k d))) next ∙ ap (λ y. is_lt (row_cmp (get_or rows (k + 1) e).1 y)) here
    ∙ falls from number (get_or rows (k + 1) e) (get_or rows k e) (has (k + 1) e inside) (has k e before) (starts (k + 1) e inside) (starts k e before) (up k e low inside)

-- the bytes of the row's token before this place are the number
abbrev StartsRow : ℕ → ℕ → Row → Type 0
StartsRow from number r = lead 0 from (string_bytes r.0.now) ≡ number

-- what holds of the images holds of what they are made from
pub unmapped : {X Y : Type 0} (P : X → Type 0) (f : Y → X) (ys : List Y) → All P (map f ys) → All (λ y. P (f y)) ys
unmapped P f ys all k d h = subst P (get_or-map f ys k d) (all k (f d) (subst (λ n. k < n) (sym (length-map ys f)) h))

-- rows that only moved agree before a place as they did, whatever their numbers are
pub moved_starts : (from number : ℕ) (rows after : List Numbered) → IsPermutation (map bare_row rows) (map bare_row after) → All (Starts from number) rows → All (Starts from number) after
moved_starts from number rows after moved starts = unmapped (StartsRow from number) bare_row after (All-permutation (StartsRow from number) (map bare_row rows) (map bare_row after) moved (All-map (StartsRow from number) bare_row rows starts))

-- rows of one number agree in eight more bytes
pub run_starts : (from number first : ℕ) (rows : List Numbered) → All (HasWord from) rows → All (Starts from number) rows → All (λ p. p.0 ≡ first) rows → All (Starts (from + 8) (number * bound 8 + first)) rows
run_starts from number first rows has starts same k d h =
    lead_word from number (string_bytes (get_or rows k d).1.0.now) (starts k d h) ∙ ap (λ m. number * bound 8 + m) (sym (has k d h).value ∙ same k d h)

-- if the first and the last number are the same, all are
pub one_number : (first : ℕ) (rows : List Numbered) → IsNonDecreasingBy number_of rows → ((d : Numbered) → (get_or rows 0 d).0 ≡ first) → ((d : Numbered) → (get_or rows (length rows - 1) d).0 ≡ first) → All (λ p. p.0 ≡ first) rows
one_number first rows up at_first at_last k d h =
    let low : number_of (get_or rows 0 d) ≤ number_of (get_or rows k d) = up 0 k d (omega arith) h in
    let high : number_of (get_or rows k d) ≤ number_of (get_or rows (length rows - 1) d) = up k (length rows - 1) d (omega arith) (omega arith) in
    let is_first = at_first d in
    let is_last = at_last d in
    omega arith

-- what holds below a cut, and from it on
below_cut : {X : Type 0} (P : X → Type 0) (xs : List X) (cut : ℕ) → cut ≤ length xs → AllWithin P xs 0 cut → All P (take cut xs)
below_cut P xs cut fits all k d h =
    let below : k < cut = subst (λ n. k < n) (length-take-le cut xs fits) h in
    subst P (sym (get_or-take cut xs k d below)) (all k d (omega arith) below)

above_cut : {X : Type 0} (P : X → Type 0) (xs : List X) (cut : ℕ) → AllWithin P xs cut (length xs) → All P (drop cut xs)
above_cut P xs cut all k d h =
    let inside : k < length xs - cut = subst (λ n. k < n) (length-drop cut xs) h in
    subst P (sym (get_or-drop cut xs k d)) (all (cut + k) d (omega arith) (omega arith))

-- two sorted lists, none of the second before one of the first, are sorted one after the other
joined : {X : Type 0} (lt : X → X → Bool) (xs ys : List X) → IsSortedBy lt xs → IsSortedBy lt ys
    → ((i j : ℕ) (d : X) → i < length xs → j < length ys → lt (get_or ys j d) (get_or xs i d) ≡ false) → IsSortedBy lt (xs ++ ys)
joined lt xs ys up_xs up_ys apart k d low high = by (nat_cmp (k + 1) (length xs)) (ranks (k + 1) (length xs))
  where
    fits : k + 1 < length xs + length ys
    fits = subst (λ n. k + 1 < n) (length-append xs ys) high

    by : (r : Ordering) → MatchOrdering r (k + 1 < length xs) (k + 1 ≡ length xs) (length xs < k + 1) → lt (get_or (xs ++ ys) (k + 1) d) (get_or (xs ++ ys) k d) ≡ false
    by Less h =
        ap (λ x. lt x (get_or (xs ++ ys) k d)) (get_or_append_left xs ys d (k + 1) h) ∙ ap (λ y. lt (get_or xs (k + 1) d) y) (get_or_append_left xs ys d k (omega arith)) ∙ up_xs k d low h
    by Equal h =
        let all = fits in
        let inside : k < length xs = omega arith in
        let past : length xs ≤ k + 1 = omega arith in
        let there : k + 1 - length xs < length ys = omega arith in
        ap (λ x. lt x (get_or (xs ++ ys) k d)) (get_or-append_right xs ys (length xs) (k + 1) d refl past) ∙ ap (λ y. lt (get_or ys (k + 1 - length xs) d) y) (get_or_append_left xs ys d k inside) ∙ apart k (k + 1 - length xs) d inside there
    by Greater h =
        let all = fits in
        let past : length xs ≤ k = omega arith in
        let later_past : length xs ≤ k + 1 = omega arith in
        let next : k + 1 - length xs ≡ k - length xs + 1 = omega arith in
        let there : k - length xs + 1 < length ys = omega arith in
        ap (λ x. lt x (get_or (xs ++ ys) k d)) (get_or-append_right xs ys (length xs) (k + 1) d refl later_past ∙ ap (λ i. get_or ys i d) next)
        ∙ ap (λ y. lt (get_or ys (k - length xs + 1) d) y) (get_or-append_right xs ys (length xs) k d refl past) ∙ up_ys (k - length xs) d (omega arith) there

-- the row's bytes before `from` are the number, and the eight bytes from there on are below a number, or not
abbrev Below : ℕ → ℕ → ℕ → Row → Type 0
Below from number least r = (lead 0 from (string_bytes r.0.now) ≡ number) × (lead 0 8 (drop from (string_bytes r.0.now)) < least)

abbrev Above : ℕ → ℕ → ℕ → Row → Type 0
Above from number least r = AreBytes (string_bytes r.0.now) × (lead 0 from (string_bytes r.0.now) ≡ number) × (least ≤ lead 0 8 (drop from (string_bytes r.0.now)))

apart_by : (from number least : ℕ) (x y : Row) → Below from number least x → Above from number least y → is_lt (row_cmp y x) ≡ false
apart_by from number least x y below above =
    let less_x = below.1 in
    let above_y = above.2 in
    later x y (lesser_word from number (string_bytes x.0.now) (string_bytes y.0.now) above.0 below.0 above.1 (omega arith))

-- two parts of rows that agree before a place, the numbers of the first part below those of the second, and each part sorted
pub parts_sorted : (from number least cut : ℕ) (rows low high : List Numbered) → cut ≤ length rows → All (HasWord from) rows → All (Starts from number) rows
    → AllWithin (λ p. p.0 < least) rows 0 cut → AllWithin (λ p. least ≤ p.0) rows cut (length rows)
    → IsPermutation (map bare_row (take cut rows)) (map bare_row low) → IsPermutation (map bare_row (drop cut rows)) (map bare_row high)
    → IsSorted row_cmp (map bare_row low) → IsSorted row_cmp (map bare_row high) → IsSorted row_cmp (map bare_row (low ++ high))
parts_sorted from number least cut rows low high fits has starts under over same_low same_high up_low up_high =
    subst (IsSorted row_cmp) (sym (map-append bare_row low high))
    (joined (λ x y. is_lt (row_cmp x y)) (map bare_row low) (map bare_row high) up_low up_high (λ i j d in_low in_high.
    apart_by from number least (get_or (map bare_row low) i d) (get_or (map bare_row high) j d) (all_low i d in_low) (all_high j d in_high)))
  where
    within_low : AllWithin (λ p. Below from number least (bare_row p)) rows 0 cut
    within_low k d from_0 below = let inside : k < length rows = omega arith in (starts k d inside, subst (λ m. m < least) (has k d inside).value (under k d from_0 below))

    within_high : AllWithin (λ p. Above from number least (bare_row p)) rows cut (length rows)
    within_high k d past inside = ((has k d inside).bytes, starts k d inside, subst (λ m. least ≤ m) (has k d inside).value (over k d past inside))

    all_low : All (Below from number least) (map bare_row low)
    all_low = All-permutation (Below from number least) (map bare_row (take cut rows)) (map bare_row low) same_low (All-map (Below from number least) bare_row (take cut rows) (below_cut (λ p. Below from number least (bare_row p)) rows cut fits within_low))

    all_high : All (Above from number least) (map bare_row high)
    all_high = All-permutation (Above from number least) (map bare_row (drop cut rows)) (map bare_row high) same_high (All-map (Above from number least) bare_row (drop cut rows) (above_cut (λ p. Above from number least (bare_row p)) rows cut within_high))

-- the rows of two parts that only moved are those of the whole
pub parts_permuted : (rows low high after_low after_high : List Numbered) → rows ≡ low ++ high → IsPermutation (map bare_row low) (map bare_row after_low) → IsPermutation (map bare_row high) (map bare_row after_high)
    → IsPermutation (map bare_row rows) (map bare_row (after_low ++ after_high))
parts_permuted rows low high after_low after_high is same_low same_high =
    subst (λ l. IsPermutation (map bare_row l) (map bare_row (after_low ++ after_high))) (sym is)
    (subst (λ l. IsPermutation l (map bare_row (after_low ++ after_high))) (sym (map-append bare_row low high))
    (subst (IsPermutation (map bare_row low ++ map bare_row high)) (sym (map-append bare_row after_low after_high))
    (IsPermutation-append (map bare_row low) (map bare_row after_low) (map bare_row high) (map bare_row after_high) same_low same_high)))

-- fewer than two rows are sorted
pub short_sorted : (rows : List Numbered) → length rows < 2 → IsSorted row_cmp (map bare_row rows)
short_sorted rows few k d low high = absurd (omega (arith, bare_low rows k high))

-- rows whose numbers are below a number are sorted first, and then the others
pub cut_sorts : (from least cut : ℕ) (rows between after : List Numbered) → cut ≤ length rows → drop cut between ≡ drop cut rows → take cut after ≡ take cut between
    → SortsBlocks from (take cut rows) (take cut between) → SortsBlocks from (drop cut between) (drop cut after)
    → (IsNonDecreasingBy number_of rows → IsPartitionPoint (λ p. ltb p.0 least ≡ true) (λ p. ltb p.0 least ≡ false) rows cut) → SortsBlocks from rows after
cut_sorts from least cut rows between after fits same_rest same_first first rest parted = record {
  permutation = subst (λ l. IsPermutation (map bare_row rows) (map bare_row l)) (sym whole)
      (parts_permuted rows (take cut rows) (drop cut rows) (take cut between) (drop cut after) (sym (take-append-drop cut rows)) first.permutation others.permutation);
  sorted = λ number rising starts.
      let point = parted rising.1 in
      subst (λ l. IsSorted row_cmp (map bare_row l)) (sym whole)
      (parts_sorted from number least cut rows (take cut between) (drop cut after) fits rising.0 starts (λ k d a b. ltb-true _ _ (point.0 k d a b)) (λ k d a b. ltb-false _ _ (point.1 k d a b)) first.permutation others.permutation
      (first.sorted number (All-take (HasWord from) cut rows rising.0, IsNonDecreasingBy-take number_of cut rows rising.1) (All-take (Starts from number) cut rows starts))
      (others.sorted number (All-drop (HasWord from) cut rows rising.0, IsNonDecreasingBy-drop number_of cut rows rising.1) (All-drop (Starts from number) cut rows starts)));
}
  where
    whole : after ≡ take cut between ++ drop cut after
    whole = sym (take-append-drop cut after) ∙ ap (λ l. l ++ drop cut after) same_first

    others : SortsBlocks from (drop cut rows) (drop cut after)
    others = subst (λ l. SortsBlocks from l (drop cut after)) same_rest rest
