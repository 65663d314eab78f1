-- The text that shows the lines of two lists.
use Rattle.std.specs.Prelude.{◌≡◌, ℕ, ◌+◌, ◌<◌, Bool, List, ◌++◌, map, All}
use Rattle.std.specs.Cmp.Lexicographic.{slice_cmp}
use Rattle.std.specs.List.{Contains}
use Rattle.std.specs.List.Sorted.{IsStrictlySortedBy}
use Rattle.std.specs.Ordering.{nat_cmp}
use Rattle.std.specs.declared.cmp.Ordering.{Ordering}
use Rattle.hashbag_csv.specs.Articles.{same_article}
use Rattle.hashbag_csv.specs.FirstLines.{Carried, HasFirsts}
use Rattle.hashbag_csv.specs.Quantities.{quantity, times}
use Rattle.hashbag_csv.specs.Readers.{Record}
use Rattle.hashbag_match_lib.specs.Asks.{Lines, carried_along, delivered_in, names_of, ordered_in}
use Rattle.hashbag_match_lib.specs.Fields.{IsStatusOfLines, IsTallyOfLines}
use Rattle.hashbag_match_lib.specs.Forms.{text_in}
use Rattle.hashbag_match_lib.specs.Matching.{totals_in}
use Rattle.hashbag_match_lib.specs.Shown.{shown_rows, with_first}
use Rattle.hashbag_match_lib.specs.Written.{Look}
use Rattle.hashbag_match_lib.specs.declared.ask.Ask.{Ask}
use Rattle.hashbag_match_lib.specs.declared.matching.Row.{Row}
use Rattle.hashbag_match_lib.specs.declared.texts.Lists.{Lists}

-- articles, as bytes, are in ascending order: by their first fields that differ
abbrev pub Rise : List Record → Type 0
Rise articles = IsStrictlySortedBy (slice_cmp (slice_cmp nat_cmp)) articles

-- articles, as bytes, are in the ascending order `cmp` of the type A of articles
abbrev pub RiseAs : {A : Type 0} → (A → A → Ordering) → (A → Record) → List Record → Type 0
RiseAs {A} cmp fields articles = (kept : List A) × IsStrictlySortedBy cmp kept × (articles ≡ map fields kept)

module _ (Rising : List Record → Type 0) where
  -- the rows of the articles that lines of either list name: one row for each article, with its quantity in each list. `Rising` holds of the articles
  pub record AreRowsOfLines (L M : Lines) (rows : List (Row Record)) : Type 0 where
    pub rising : Rising (map (λ row. row.article) rows)
    pub ordered : All (λ row. row.ordered ≡ quantity same_article row.article L) rows
    pub delivered : All (λ row. row.delivered ≡ quantity same_article row.article M) rows
    pub named : All (λ row. 0 < times same_article row.article L + times same_article row.article M) rows
    pub each : (v : Record) → 0 < times same_article v L + times same_article v M → Contains (map (λ row. row.article) rows) v

-- how `ask` wants the rows to be written
abbrev pub look_asked : Ask → Look
look_asked ask = record {
  keys = names_of ask.ordered;
  carried = map (λ n. n.now) ask.carried.items;
  scale = ask.ordered.reading.scale;
  delimiter = ask.ordered.reading.delimiter;
}

module _ (Rising : List Record → Type 0) (ask : Ask) where
  -- `text` is the text of the rows of these lines, as `ask` wants it. Each row has the carried fields of the first line with its article. The sums
  -- are of all rows, also of rows that aren't written
  pub record IsTextOfLines (L M : Lines) (K : List Carried) (text : List ℕ) : Type 0 where
    pub rows : List (Row Record)
    pub are : AreRowsOfLines Rising L M rows
    pub is : text ≡ text_in ask.form (look_asked ask) (totals_in rows) (map (with_first K) (shown_rows ask.only rows))

  -- the same for the lines of two texts. For carried fields, the lines of what was ordered come first
  abbrev pub IsTextOfTexts : List ℕ → List ℕ → List ℕ → Type 0
  IsTextOfTexts ordered delivered text =
      IsTextOfLines (ordered_in ask ordered) (delivered_in ask delivered) (carried_along ask ask.ordered ordered ++ carried_along ask ask.delivered delivered) text

-- the status is 0 exactly if the lines of two lists, as bytes, name the same quantity of each article; else it is 1
abbrev pub IsStatusOfLists : {A S H : Type 0} → (A → A → Bool) → (A → Record) → Lists A S H → ℕ → Type 0
IsStatusOfLists eq fields lists status = IsStatusOfLines eq fields lists.ordered lists.delivered status

-- `text` is the text of the rows of two lists, whatever lines the lists were read from
abbrev pub IsTextOfLists : {A S H : Type 0} → (A → A → Bool) → (A → A → Ordering) → (A → Record) → Ask → Lists A S H → List ℕ → Type 0
IsTextOfLists eq cmp fields ask lists text =
    (L M : Lines) (K : List Carried) → IsTallyOfLines eq fields L lists.ordered.counts lists.ordered.zeros
    → IsTallyOfLines eq fields M lists.delivered.counts lists.delivered.zeros → HasFirsts eq fields K lists.firsts
    → IsTextOfLines (RiseAs cmp fields) ask L M K text
