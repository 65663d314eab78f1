use Rattle.std.proofs.Common.{◌≡◌, ℕ, ◌+◌, ◌<◌, List, Option, [], ◌∷◌, ◌++◌, map, nat_lt, flat_map, true, false, sym, ◌∙◌, ap, subst, arith}
use Rattle.std.proofs.lemmas.Bool.Decides.{nat_tests}
use Rattle.regex.specs.Locations.{location_count}
use Rattle.regex.specs.Patterns.{Match, Re, find_all_str}
use Rattle.regex.specs.Strings.{captures_left, group_count}
use Rattle.regex.specs.Writes.{group_of}
use Rattle.hashbag_words_lib.specs.Counts.{Takes}
use Rattle.hashbag_words_lib.specs.Tokens.{nonempty, part_of, token_of}
use Rattle.hashbag_words_lib.proofs.CountLemmas.{Takes-nil, Takes-append}
use Rattle.hashbag_words_lib.proofs.GroupLemmas.{all_groups, next_group, no_group, one_more}
use Rattle.hashbag_words_lib.proofs.counting.add_groups.Goals as goal

pub returns-then-index-saturating_sub : goal.returns-then-index-saturating_sub
returns-then-index-saturating_sub g c =
    let test : nat_lt (c.args.index + 1) (group_count c.args.pattern.now) ≡ false = grind (arith, nat_tests, c.if-index-saturating_sub.true, c.captures_len.ensures.count) in
    subst (λ (l : List (List ℕ)). Takes g.K.TokenSink.has c.args.sink.now c.args.sink.now (map (token_of c.args.fold) (nonempty l))) (no_group c.args.pattern.now (c.args.index + 1) c.args.line.now test)
    (Takes-nil g.K.TokenSink.has c.args.sink.now)

pub matches-init : goal.matches-init
matches-init g c =
    let found = c.captures_iter-matches.ensures.found ∙ ap (λ (re : Re). find_all_str re c.args.line.now) c.in_ok-matcher.ensures.pattern in
    ([], found, Takes-nil g.K.TokenSink.has c.args.sink.now, c.in_ok-locations.ensures.value)

pub matches-preserved : goal.matches-preserved
matches-preserved g c =
    let inv = c.matches.invariant in
    let n = c.args.index + 1 in
    let line = c.args.line.now in
    let found = c.in-Some.ensures.found in
    let m = found.0 in
    let tokens = λ (l : List (List ℕ)). map (token_of c.args.fold) (nonempty l) in
    let count : location_count c.next_read.new.locations ≡ group_count c.args.pattern.now = c.next_read.ensures.count ∙ inv.3 in
    let within : n < location_count c.next_read.new.locations = omega (arith, c.if-index-saturating_sub.false, c.captures_len.ensures.count, count) in
    let place : c.get.result ≡ group_of m n = c.get.ensures ∙ found.3.1 n (omega arith) within in
    let one : Takes g.K.TokenSink.has c.matches.sink c.add_part.new.sink (tokens (part_of line (group_of m n))) =
    subst (λ (p : Option (ℕ × ℕ)). Takes g.K.TokenSink.has c.matches.sink c.add_part.new.sink (tokens (part_of line p))) place c.in_ok-add_part.ensures in
    let both = Takes-append g.K.TokenSink.has c.args.sink.now c.matches.sink c.add_part.new.sink (tokens (flat_map (λ (x : Match). part_of line (group_of x n)) inv.0)) (tokens (part_of line (group_of m n))) inv.2 one in (
      inv.0 ++ m ∷ [],
      one_more inv.0 (captures_left c.matches.matches) (captures_left c.next_read.new.self) _ m _ found.1.first c.next_read.ensures.rest inv.1,
      subst (λ (l : List (List ℕ)). Takes g.K.TokenSink.has c.args.sink.now c.add_part.new.sink l) (sym (next_group c.args.fold line n inv.0 m)) both,
      count,
    )

pub returns : goal.returns
returns g c =
    let inv = c.matches.invariant in
    let test : nat_lt (c.args.index + 1) (group_count c.args.pattern.now) ≡ true = grind (arith, nat_tests, c.if-index-saturating_sub.false, c.captures_len.ensures.count) in
    subst (λ (l : List (List ℕ)). Takes g.K.TokenSink.has c.args.sink.now c.matches.sink (map (token_of c.args.fold) (nonempty l)))
    (all_groups c.args.pattern.now (c.args.index + 1) c.args.line.now inv.0 (captures_left c.matches.matches) test c.in_default.ensures.found inv.1) inv.2
