use Rattle.std.proofs.Common.{◌≡◌, ℕ, List, String, Global, Result, OnOk, map, sym, subst}
use Rattle.hashbag_words_lib.specs.Counts.{Takes}
use Rattle.hashbag_words_lib.specs.Tokens.{pieces_of, token_of, tokens_of_line, without_mark}
use Rattle.hashbag_words_lib.specs.declared.rule.Pieces.{Pieces}
use Rattle.hashbag_words_lib.specs.declared.rule.Pieces.TheVariants.{Words, UnicodeWords, Matches, Groups, Field}
use Rattle.hashbag_words_lib.specs.declared.rule.Rule.{Rule}
use Rattle.hashbag_words_lib.proofs.counting.add_line.Goals as goal

-- the pieces that the rule names, of the line without its mark
by_rule : {K E : Type 0} (has : K → List (List ℕ) → Type 0) (r : Result (Unit {0}) E) (old new : K) (rule : Rule) (pieces : Pieces) (line past : List ℕ) → rule.pieces ≡ pieces → past ≡ without_mark line
    → OnOk r (Takes has old new (map (token_of rule.fold) (pieces_of pieces past))) → OnOk r (Takes has old new (tokens_of_line rule line))
by_rule has r old new rule pieces line past is marked h =
    subst (λ (p : Pieces). OnOk r (Takes has old new (map (token_of rule.fold) (pieces_of p (without_mark line))))) (sym is)
    (subst (λ (l : List ℕ). OnOk r (Takes has old new (map (token_of rule.fold) (pieces_of pieces l)))) marked h)

pub returns-in-Words : goal.returns-in-Words
returns-in-Words g c =
    by_rule g.K.TokenSink.has c.add_words.result c.args.sink.now c.add_words.new.sink c.args.rule.now Words c.args.line.now c.past_mark-line.result.now c.in-Words.is c.past_mark-line.ensures c.add_words.ensures

pub returns-in-UnicodeWords : goal.returns-in-UnicodeWords
returns-in-UnicodeWords g c =
    by_rule g.K.TokenSink.has c.add_unicode_words.result c.args.sink.now c.add_unicode_words.new.sink c.args.rule.now UnicodeWords c.args.line.now c.past_mark-line.result.now c.in-UnicodeWords.is c.past_mark-line.ensures c.add_unicode_words.ensures

pub returns-in-Matches : goal.returns-in-Matches
returns-in-Matches g c =
    by_rule g.K.TokenSink.has c.add_matches.result c.args.sink.now c.add_matches.new.sink c.args.rule.now (Matches c.in-Matches.pattern) c.args.line.now c.past_mark-line.result.now c.in-Matches.is c.past_mark-line.ensures c.add_matches.ensures

pub returns-in-Groups : goal.returns-in-Groups
returns-in-Groups g c =
    by_rule g.K.TokenSink.has c.add_groups.result c.args.sink.now c.add_groups.new.sink c.args.rule.now (Groups c.in-Groups.pattern c.in-Groups.index) c.args.line.now c.past_mark-line.result.now c.in-Groups.is c.past_mark-line.ensures c.add_groups.ensures

pub returns-in-Field : goal.returns-in-Field
returns-in-Field g c =
    by_rule g.K.TokenSink.has c.add_field.result c.args.sink.now c.add_field.new.sink c.args.rule.now (Field c.in-Field.index c.in-Field.separator) c.args.line.now c.past_mark-line.result.now c.in-Field.is c.past_mark-line.ensures c.add_field.ensures
