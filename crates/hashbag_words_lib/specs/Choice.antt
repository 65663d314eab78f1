-- Which counts of a bag are shown, and in what order.
use Rattle.std.specs.Prelude.{◌≡◌, ℕ, Bool, false, not, List, take, nat_le, nat_lt, ◌&&◌, if◌then◌else◌, Option, None, Some, String}
use Rattle.std.specs.Borrow.{Bor}
use Rattle.std.specs.List.Sorted.{IsStrictlySortedBy}
use Rattle.std.specs.Map.{keys_of}
use Rattle.std.specs.String.{string_cmp, string_eq}
use Rattle.std.specs.Str.{bytes_eq}
use Rattle.std.specs.Global.{Global}
use Rattle.hashbag_core.specs.Bag.{Bag}
use Rattle.hashbag_core.specs.Occurrences.{count}
use Rattle.hashbag_core.specs.Walks.{IsSetWalkOf}
use Rattle.hashbag_ops.specs.Order.{rank}
use Rattle.hashbag_words_lib.specs.Counts.{texts_in}
use Rattle.hashbag_words_lib.specs.Shards.{is_in_shard}
use Rattle.hashbag_words_lib.specs.declared.choice.Choice.{Choice}
use Rattle.hashbag_words_lib.specs.declared.choice.Order.{Order}
use Rattle.hashbag_words_lib.specs.declared.choice.Order.TheVariants.{Ascending, MostCommon}

-- in this order, these pairs of the bag are shown. `Ascending`: each text once, with its count, in ascending order of bytes. `MostCommon k`: the
-- first k pairs of all texts with their counts, the most common first
abbrev pub AreChosen : {S : Type 0} → Order → Bag (String Global) S → List (String Global × ℕ) → Type 0
AreChosen Ascending bag pairs = IsSetWalkOf string_eq bag pairs × IsStrictlySortedBy string_cmp (keys_of pairs)
AreChosen (MostCommon k) bag pairs =
    (W : List (String Global × ℕ)) × IsSetWalkOf string_eq bag W × IsStrictlySortedBy (rank string_cmp) W × (pairs ≡ take k W)

-- the text is in the bag of texts that aren't shown, if there is such a bag. Then it isn't shown, whatever its count is
abbrev pub is_excepted : {S : Type 0} → Option (Bor (Bag (String Global) S)) → List ℕ → Bool
is_excepted None text = false
is_excepted (Some bag) text = nat_lt 0 (count bytes_eq text (texts_in bag.now))

-- whether a row is shown: its count is at least `least`, and its token is in the shard, if there is a shard, and isn't excepted
abbrev pub shows : Choice → List ℕ × ℕ → Bool
shows choice row =
    nat_le choice.least row.1 && is_in_shard choice.shard row.0 && not (is_excepted choice.except row.0)

-- how often a text that occurs n times is shown: n times, or not at all
abbrev pub shown_count : Choice → List ℕ → ℕ → ℕ
shown_count choice text n = if shows choice (text, n) then n else 0

-- the bag has each shown text of the list as often as the list has it, and no other text
abbrev pub KeepsShown : {S : Type 0} → Choice → List (List ℕ) → Bag (String Global) S → Type 0
KeepsShown choice texts bag = (text : List ℕ) → count bytes_eq text (texts_in bag) ≡ shown_count choice text (count bytes_eq text texts)
