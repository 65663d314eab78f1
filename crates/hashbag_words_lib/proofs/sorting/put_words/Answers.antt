use Rattle.std.proofs.Common.{◌<◌, length, map, set, sym, ◌∙◌, ap, subst, rules}
use Rattle.std.proofs.lemmas.List.{map-set, set-get_or}
use Rattle.std.proofs.lemmas.List.Elements.{AllWithin-more_set}
use Rattle.std.proofs.Math.ListN.{get_or-map}
use Rattle.hashbag_words_lib.specs.Prefix.{bare_row, HasWord, IsWordAt}
use Rattle.hashbag_words_lib.proofs.sorting.put_words.Goals as goal

-- one more row has its bytes before it, and no row is another
pub rows-preserved : goal.rows-preserved
rows-preserved c =
    let rows = c.rows.rows in
    let i = c.rows.i in
    let d = c.index-rows-i.result in
    let inside : i < length rows = search rules in (
      map-set bare_row rows i _ ∙ ap (set (map bare_row rows) i) (sym (get_or-map bare_row rows i d)) ∙ set-get_or (map bare_row rows) i d.1 ∙ c.rows.invariant.0,
      AllWithin-more_set rows i _ inside (HasWord c.args.from) c.rows.invariant.1 (subst (IsWordAt c.args.from c.word.result) c.as_str.ensures.value c.word.ensures),
    )
