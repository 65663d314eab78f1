-- Rows of articles, and the text of them, by the bytes of their fields.
use Rattle.std.proofs.Common.{◌≡◌, ℕ, ◌+◌, ◌<◌, Bool, cond, not, List, [], ◌∷◌, map, sum_by, All, Ordering, String, inl, inr, refl, sym, ◌∙◌, ap, subst, arith}
use Rattle.std.specs.Borrow.{Bor}
use Rattle.std.specs.Global.{Global, Vec}
use Rattle.std.specs.Ordering.{nat_cmp, ordering_then}
use Rattle.std.specs.String.{string_bytes, string_cmp}
use Rattle.std.specs.Cmp.Lexicographic.{slice_cmp}
use Rattle.std.specs.List.{AllByRecursion, Contains}
use Rattle.std.specs.List.Sorted.{IsStrictlySortedBy}
use Rattle.std.specs.declared.cmp.Ordering.TheVariants.{Less, Equal, Greater}
use Rattle.std.proofs.lemmas.List.{length-map}
use Rattle.std.proofs.lemmas.List.Sums.{sum_by-cons}
use Rattle.std.proofs.lemmas.List.Elements.{All-contains, All-map}
use Rattle.hashbag_core.proofs.ContainsLemmas.{All-from_Contains, Contains-map, Contains-map_back}
use Rattle.hashbag_csv.specs.Articles.{same_article}
use Rattle.hashbag_csv.specs.FirstLines.{Carried}
use Rattle.hashbag_csv.specs.LineColumns.{line_bytes}
use Rattle.hashbag_csv.specs.Quantities.{quantity, times}
use Rattle.hashbag_csv.specs.Readers.{Record}
use Rattle.hashbag_match_lib.specs.Forms.{text_in}
use Rattle.hashbag_match_lib.specs.Matching.{AreRows, AreTotals, agrees, lent_rows, missing_of, surplus_of, totals_in}
use Rattle.hashbag_match_lib.specs.Asks.{Lines}
use Rattle.hashbag_match_lib.specs.Files.{AreMatchedFiles, Gives}
use Rattle.hashbag_match_lib.specs.Shown.{Entry, bytes_row, shown_rows, with_first}
use Rattle.hashbag_match_lib.specs.Texts.{AreRowsOfLines, IsTextOfLines, Rise, RiseAs, look_asked}
use Rattle.hashbag_match_lib.specs.Written.{Look}
use Rattle.hashbag_match_lib.specs.declared.ask.Ask.{Ask}
use Rattle.hashbag_match_lib.specs.declared.files.TwoFiles.{TwoFiles}
use Rattle.hashbag_match_lib.specs.declared.matching.Row.{Row}
use Rattle.hashbag_match_lib.specs.declared.texts.Findings.{Findings}
use Rattle.hashbag_match_lib.specs.declared.totals.Totals.{Totals}
use Rattle.hashbag_match_lib.proofs.ByteLemmas.{articles_decide, named_times, quantity_of, times_of}
use Rattle.hashbag_match_lib.proofs.RowLemmas.{lent_row}

-- a sum over a list that a function makes
sum_mapped : {X Y : Type 0} (f : Y → ℕ) (g : X → Y) (xs : List X) → sum_by (λ x. f (g x)) xs ≡ sum_by f (map g xs)
sum_mapped f g [] = refl
sum_mapped f g (x ∷ xs) = sum_by-cons (λ y. f (g y)) x xs ∙ ap (λ n. f (g x) + n) (sum_mapped f g xs) ∙ sym (sum_by-cons f (g x) (map g xs))

-- the sums of rows are those of the rows with the bytes of their fields
totals_by_bytes : {A : Type 0} (fields : A → Record) (rows : List (Row (Bor A))) (totals : Totals) → AreTotals rows totals → totals ≡ totals_in (map (bytes_row fields) rows)
totals_by_bytes fields rows totals are =
    λ i. record {
      articles = (are.articles ∙ sym (length-map rows (bytes_row fields))) i;
      differing = (are.differing ∙ sum_mapped (λ row. cond (not (agrees row)) 1 0) (bytes_row fields) rows) i;
      missing = (are.missing ∙ sum_mapped missing_of (bytes_row fields) rows) i;
      surplus = (are.surplus ∙ sum_mapped surplus_of (bytes_row fields) rows) i;
    }

module _ {A : Type 0} {eq : A → A → Bool} (cmp : A → A → Ordering) (fields : A → Record) (same : (x y : A) → eq x y ≡ same_article (fields x) (fields y)) (F G : List (A × ℕ)) (rows : List (Row (Bor A)))
    (h : AreRows eq cmp (λ v. times eq v F + times eq v G) (λ v. quantity eq v F) (λ v. quantity eq v G) (lent_rows rows)) where
  articles_are : (rows : List (Row (Bor A))) → map (λ row. row.article) (map (bytes_row fields) rows) ≡ map fields (map (λ row. row.article) (lent_rows rows))
  articles_are [] = refl
  articles_are (row ∷ rows) = λ i. fields row.article.now ∷ articles_are rows i

  abbrev lines : List (A × ℕ) → List (Record × ℕ)
  lines L = map (line_bytes fields) L

  abbrev Counts : Row A → Type 0
  Counts row = (row.ordered ≡ quantity eq row.article F) × (row.delivered ≡ quantity eq row.article G) × (0 < times eq row.article F + times eq row.article G)

  counts_at : (row : Row (Bor A)) → Contains rows row → Counts (lent_row row)
  counts_at row there = All-contains Counts (lent_rows rows) (lent_row row) h.counts (Contains-map lent_row row rows there)

  each_row : (P : Row Record → Type 0) → ((row : Row (Bor A)) → Counts (lent_row row) → P (bytes_row fields row)) → All P (map (bytes_row fields) rows)
  each_row P step = All-map P (bytes_row fields) rows (All-from_Contains (λ row. P (bytes_row fields row)) rows (λ row there. step row (counts_at row there)))

  -- an article that lines name has a row
  has_row : (w : A) → 0 < times same_article (fields w) (lines F) + times same_article (fields w) (lines G) → Contains (map (λ row. row.article) (map (bytes_row fields) rows)) (fields w)
  has_row w some =
      let in_F = times_of fields same articles_decide w F in
      let in_G = times_of fields same articles_decide w G in
      let found = h.each w (omega (arith, in_F, in_G, some)) in
      let lent = Contains-map_back lent_row found.0 rows found.1 in
      let alike : fields w ≡ fields lent.0.article.now = (articles_decide (fields w) (fields lent.0.article.now)).0 (sym (same w lent.0.article.now) ∙ ap (λ (row : Row A). eq w row.article) lent.2 ∙ found.2) in
      subst (λ v. Contains (map (λ row. row.article) (map (bytes_row fields) rows)) v) (sym alike)
      (Contains-map (λ (row : Row Record). row.article) (bytes_row fields lent.0) (map (bytes_row fields) rows) (Contains-map (bytes_row fields) lent.0 rows lent.1))

  each_article : (v : Record) → 0 < times same_article v (lines F) + times same_article v (lines G) → Contains (map (λ row. row.article) (map (bytes_row fields) rows)) v
  each_article v some = elim (named_times fields same articles_decide v F) [
    | inl w ↦ subst (λ k. Contains (map (λ row. row.article) (map (bytes_row fields) rows)) k) w.1 (has_row w.0 (subst (λ k. 0 < times same_article k (lines F) + times same_article k (lines G)) (sym w.1) some))
    | inr not_first ↦ elim (named_times fields same articles_decide v G) [
      | inl w ↦ subst (λ k. Contains (map (λ row. row.article) (map (bytes_row fields) rows)) k) w.1 (has_row w.0 (subst (λ k. 0 < times same_article k (lines F) + times same_article k (lines G)) (sym w.1) some))
      | inr neither ↦ absurd (omega (arith, some, not_first, neither))
    ]
  ]

  pub rows_by_bytes : AreRowsOfLines (RiseAs cmp fields) (lines F) (lines G) (map (bytes_row fields) rows)
  rows_by_bytes = record {
    rising = (map (λ row. row.article) (lent_rows rows), h.rising, articles_are rows);
    ordered = each_row (λ row. row.ordered ≡ quantity same_article row.article (lines F)) (λ row counts. counts.0 ∙ quantity_of fields same articles_decide row.article.now F);
    delivered = each_row (λ row. row.delivered ≡ quantity same_article row.article (lines G)) (λ row counts. counts.1 ∙ quantity_of fields same articles_decide row.article.now G);
    named = each_row (λ row. 0 < times same_article row.article (lines F) + times same_article row.article (lines G)) (λ row counts.
        let in_F = times_of fields same articles_decide row.article.now F in
        let in_G = times_of fields same articles_decide row.article.now G in
        let some = counts.2 in
        omega (arith, in_F, in_G, some));
    each = each_article;
  }

  -- the text of these rows
  pub text_by_bytes : (ask : Ask) (L M : Lines) (K : List Carried) (entries : List Entry) (look : Look) (totals : Totals) (text : List ℕ) → lines F ≡ L → lines G ≡ M
      → entries ≡ map (with_first K) (shown_rows ask.only (map (bytes_row fields) rows)) → look ≡ look_asked ask → AreTotals rows totals → text ≡ text_in ask.form look totals entries
      → IsTextOfLines (RiseAs cmp fields) ask L M K text
  text_by_bytes ask L M K entries look totals text first second shown asked sums is = record {
    rows = map (bytes_row fields) rows;
    are = subst (λ l. AreRowsOfLines (RiseAs cmp fields) l M (map (bytes_row fields) rows)) first
        (subst (λ m. AreRowsOfLines (RiseAs cmp fields) (lines F) m (map (bytes_row fields) rows)) second rows_by_bytes);
    is = is ∙ λ i. text_in ask.form (asked i) (totals_by_bytes fields rows totals sums i) (shown i);
  }

-- ---- the order of what articles are kept as

module _ {X Y : Type 0} (R : X → X → Ordering) (S : Y → Y → Ordering) (f : X → Y) (same : (x y : X) → R x y ≡ S (f x) (f y)) where
  all_less : (x : X) (ys : List X) → AllByRecursion (λ y. R x y ≡ Less) ys → AllByRecursion (λ z. S (f x) z ≡ Less) (map f ys)
  all_less x [] less = tt
  all_less x (y ∷ ys) less = (sym (same x y) ∙ less.0, all_less x ys less.1)

  pub strictly_mapped : (xs : List X) → IsStrictlySortedBy R xs → IsStrictlySortedBy S (map f xs)
  unfolding IsStrictlySortedBy
  strictly_mapped [] h = tt
  strictly_mapped (x ∷ xs) h = (all_less x xs h.0, strictly_mapped xs h.1)

then_equal : (o : Ordering) → ordering_then o Equal ≡ o
then_equal Less = refl
then_equal Equal = refl
then_equal Greater = refl

texts_alike : (x y : List (String Global)) → slice_cmp (string_cmp {Z = Global}) x y ≡ slice_cmp (slice_cmp nat_cmp) (map string_bytes x) (map string_bytes y)
texts_alike [] [] = refl
texts_alike [] (b ∷ ys) = refl
texts_alike (a ∷ xs) [] = refl
texts_alike (a ∷ xs) (b ∷ ys) = ap (λ o. ordering_then (slice_cmp nat_cmp (string_bytes a) (string_bytes b)) o) (texts_alike xs ys)

-- articles of one column
pub texts_rise : (articles : List Record) → RiseAs (string_cmp {Z = Global}) (λ s. string_bytes s ∷ []) articles → Rise articles
texts_rise articles h = subst Rise (sym h.2) (strictly_mapped (string_cmp {Z = Global}) (slice_cmp (slice_cmp nat_cmp)) (λ (s : String Global). string_bytes s ∷ []) (λ x y. sym (then_equal (slice_cmp nat_cmp (string_bytes x) (string_bytes y)))) h.0 h.1)

-- articles of several columns
pub lists_rise : (articles : List Record) → RiseAs (λ (x y : Vec (String Global)). slice_cmp (string_cmp {Z = Global}) x.items y.items) (λ v. map string_bytes v.items) articles → Rise articles
lists_rise articles h = subst Rise (sym h.2)
    (strictly_mapped (λ (x y : Vec (String Global)). slice_cmp (string_cmp {Z = Global}) x.items y.items) (slice_cmp (slice_cmp nat_cmp)) (λ (v : Vec (String Global)). map string_bytes v.items) (λ x y. texts_alike x.items y.items) h.0 h.1)

-- what was matched, in another order that articles are in too
pub matched_in_order : {R S : List Record → Type 0} {gives : Gives} {files : TwoFiles} {ask : Ask} {made : Vec ℕ × Findings} → ((articles : List Record) → R articles → S articles)
    → AreMatchedFiles R gives files ask made → AreMatchedFiles S gives files ask made
matched_in_order also m = record {
  first = m.first;
  second = m.second;
  given_first = m.given_first;
  given_second = m.given_second;
  readable_first = m.readable_first;
  readable_second = m.readable_second;
  status_is = m.status_is;
  text_is = record {
    rows = m.text_is.rows;
    are = record {
      rising = also _ m.text_is.are.rising;
      ordered = m.text_is.are.ordered;
      delivered = m.text_is.are.delivered;
      named = m.text_is.are.named;
      each = m.text_is.are.each;
    };
    is = m.text_is.is;
  };
}
