-- What a line that ends, bytes that are kept, and the end of a text do to what is counted.
use Rattle.std.proofs.Common.{◌≡◌, ◌≢◌, ℕ, ◌+◌, ◌-◌, ◌^◌, ◌<◌, Bool, true, false, filter, map, cond, eqb, List, [], ◌∷◌, ◌++◌, length, take, drop, min, get_or, String, string_bytes, bytes_eq, sum_by, Option, None, Some, Result, Ok, Err, OnOk, IfErr, IsErrAnd, Global, refl, sym, ◌∙◌, ap, subst, arith, ne_eqb, eq-eqb, length-append, append_assoc}
use borrow.Author.Tests.{eqb-true, eqb-false}
use Rattle.std.specs.Str.Lines.{lines, lines_of_parts, strip_carriage_return}
use Rattle.std.proofs.lemmas.List.{append-nil, get_or_at, get_or_default, get_or-take, drop_more, take-append-drop, length-take-le}
use Rattle.std.proofs.lemmas.List.Elements.{All-nil, All-cons, All-append, filter-append}
use Rattle.std.proofs.lemmas.List.Splits.{slice_split_none}
use Rattle.hashbag_words_lib.specs.Counts.{Keeps, Takes}
use Rattle.hashbag_words_lib.specs.Counted.{how_many, Counted, IsFirstBad, IsReadingOf, NoLineFeed, NoneIsBad}
use Rattle.hashbag_words_lib.specs.LineEnds.{EndsLine}
use Rattle.hashbag_words_lib.specs.Tokens.{is_bad, is_replaced, tokens_of, tokens_of_lines}
use Rattle.hashbag_words_lib.specs.declared.errors.BadLine.{BadLine}
use Rattle.hashbag_words_lib.specs.declared.errors.InputFault.{InputFault}
use Rattle.hashbag_words_lib.specs.declared.errors.InputFault.TheVariants.{Line}
use Rattle.hashbag_words_lib.specs.declared.lines.BadLines.TheVariants.{Rejected}
use Rattle.hashbag_words_lib.specs.declared.lines.LinesRead.{LinesRead}
use Rattle.hashbag_words_lib.specs.declared.rule.Rule.{Rule}
use Rattle.hashbag_words_lib.proofs.LineLemmas.{lines-cut, lines-append}
use Rattle.hashbag_words_lib.proofs.ReadLemmas.{tokens_of_lines-append}
use Rattle.memchr.specs.Find.{IsFirstByte, Nowhere, NoneBefore, Passes, is_byte}

-- ---- lines of what is put together

pub ended_lines : (ended part : List ℕ) → EndsLine ended → NoLineFeed part → lines (ended ++ (part ++ 10 ∷ [])) ≡ lines ended ++ strip_carriage_return part ∷ []
ended_lines ended part ends none = lines-append ended (part ++ 10 ∷ []) ends ∙ ap (λ (l : List (List ℕ)). lines ended ++ l) (lines-cut part [] none)

pub last_lines : (ended part : List ℕ) → EndsLine ended → NoLineFeed part → 0 < length part → lines (ended ++ part) ≡ lines ended ++ part ∷ []
last_lines ended part ends none some =
    lines-append ended part ends
    ∙ ap (λ (l : List (List ℕ)). lines ended ++ l)
    (ap lines_of_parts (slice_split_none (λ b. eqb b 10) part (λ k d l. ne_eqb (get_or part k d) 10 (none k d l)))
    ∙ ap (λ (b : Bool). cond b [] (part ∷ [])) (ne_eqb (length part) 0 (λ z. omega arith)))

last_more : (ended partial line : List ℕ) → EndsLine ended → NoLineFeed partial → 0 < length partial → line ≡ partial → (text : List ℕ) → text ≡ ended ++ partial → lines text ≡ lines ended ++ line ∷ []
last_more ended partial line ends none some is text cut = ap lines cut ∙ last_lines ended partial ends none some ∙ ap (λ (l : List ℕ). lines ended ++ l ∷ []) (sym is)

pub ends_push : (xs : List ℕ) → EndsLine (xs ++ 10 ∷ [])
ends_push xs some = get_or_at xs 10 [] 0 (length (xs ++ 10 ∷ []) - 1) (omega (arith, length-append xs (10 ∷ [])))

-- ---- the first line feed

pub no_feed : (xs : List ℕ) → Nowhere (Passes (is_byte 10) xs) 0 (length xs) → NoLineFeed xs
no_feed xs h i d l is = h i (omega arith) l (eq-eqb (get_or xs i 0) 10 (get_or_default xs i 0 d l ∙ is))

pub no_feed_before : (xs : List ℕ) (k : ℕ) → NoneBefore (Passes (is_byte 10) xs) 0 (length xs) k → NoLineFeed (take k xs)
no_feed_before xs k h i d l is =
    let high : k < length xs = h.high in
    let long : length (take k xs) ≡ k = length-take-le k xs (omega arith) in
    let below : i < k = omega arith in
    let within : i < length xs = omega arith in
    h.before i (omega arith) below (eq-eqb (get_or xs i 0) 10 (get_or_default xs i 0 d within ∙ sym (get_or-take k xs i d below) ∙ is))

pub cut_at_feed : (xs : List ℕ) (k : ℕ) → k < length xs → Passes (is_byte 10) xs k → xs ≡ take k xs ++ 10 ∷ drop (k + 1) xs
cut_at_feed xs k high is =
    sym (take-append-drop k xs)
    ∙ ap (λ (l : List ℕ). take k xs ++ l) (drop_more xs k 0 high ∙ ap (λ (x : ℕ). x ∷ drop (k + 1) xs) (eqb-true (get_or xs k 0) 10 is))

-- what a search for a line feed answered
pub none_found : (r : Option ℕ) (xs : List ℕ) → r ≡ None → IsFirstByte (is_byte 10) xs r → NoLineFeed xs
none_found r xs is h = no_feed xs (subst (IsFirstByte (is_byte 10) xs) is h)

pub one_found : (r : Option ℕ) (k : ℕ) (xs : List ℕ) → r ≡ Some k → IsFirstByte (is_byte 10) xs r → NoLineFeed (take k xs) × (xs ≡ take k xs ++ 10 ∷ drop (k + 1) xs) × (k < length xs)
one_found r k xs is h = let at = subst (IsFirstByte (is_byte 10) xs) is h in (no_feed_before xs k at.0, cut_at_feed xs k at.0.high at.1, at.0.high)

-- what has no length is empty
pub nil_of : {X : Type 0} (xs : List X) → length xs ≡ 0 → xs ≡ []
nil_of [] is = refl
nil_of (x ∷ xs) is = absurd (omega arith)

pub nil_first : (xs ys : List ℕ) → [] ≡ xs ++ ys → xs ≡ []
nil_first [] ys is = refl
nil_first (x ∷ xs) ys is = absurd (cc)

pub some_of : {X : Type 0} (xs : List X) → (length xs ≡ 0 → ⊥) → 0 < length xs
some_of [] ne = absurd (ne refl)
some_of (x ∷ xs) ne = omega arith

-- what a test of the length shows
pub none_in : {X : Type 0} (xs : List X) {n : ℕ} {b : Bool} → n ≡ length xs → b ≡ eqb n 0 → b ≡ true → xs ≡ []
none_in xs long is holds = nil_of xs (sym long ∙ eqb-true _ 0 (sym is ∙ holds))

pub some_in : {X : Type 0} (xs : List X) {n : ℕ} {b : Bool} → n ≡ length xs → b ≡ eqb n 0 → b ≡ false → 0 < length xs
some_in xs long is fails = some_of xs (λ none. eqb-false _ 0 (sym is ∙ fails) (long ∙ none))

-- ---- how a line was read

-- what follows from what a clause says of a bad line
pub told : {X : Type 0} {P Q : Type 0} (r : Result X InputFault) → (P → Q) → IfErr r (λ e. (bad : BadLine) → e ≡ Line bad → P) → IfErr r (λ e. (bad : BadLine) → e ≡ Line bad → Q)
told (Ok x) f h = tt
told (Err e) f h = λ bad is. f (h bad is)

pub told_same : {X : Type 0} {Q : Type 0} (r : Result X InputFault) (given : InputFault) → IsErrAnd r (λ e. e ≡ given) → ((bad : BadLine) → given ≡ Line bad → Q) → IfErr r (λ e. (bad : BadLine) → e ≡ Line bad → Q)
told_same (Ok x) given same h = tt
told_same (Err e) given same h = λ bad is. h bad (sym same ∙ is)

-- what a line that was read does to the reading
pub record Read (rule : Rule) (before after : LinesRead) (bytes : List ℕ) : Type 0 where
  pub passed : before.bad_lines ≡ Rejected → is_bad rule bytes ≡ false
  pub kept : is_bad rule bytes ≡ false → after.skipped ≡ before.skipped
  pub skipped : is_bad rule bytes ≡ true → after.skipped ≡ min (before.skipped + 1) (2 ^ 64 - 1)
  pub plain : is_replaced rule bytes ≡ false → after.replaced ≡ before.replaced
  pub replaced : is_replaced rule bytes ≡ true → after.replaced ≡ min (before.replaced + 1) (2 ^ 64 - 1)
  pub bad_lines : after.bad_lines ≡ before.bad_lines
  pub line : after.line ≡ min (before.line + 1) (2 ^ 64 - 1)

-- the same from clauses one by one
pub read_ok : {X E : Type 0} (r : Result X E) (rule : Rule) (before after : LinesRead) (line : List ℕ) → OnOk r (before.bad_lines ≡ Rejected → is_bad rule line ≡ false)
    → (is_bad rule line ≡ false → after.skipped ≡ before.skipped) → (is_bad rule line ≡ true → OnOk r (after.skipped ≡ min (before.skipped + 1) (2 ^ 64 - 1)))
    → (is_replaced rule line ≡ false → after.replaced ≡ before.replaced) → (is_replaced rule line ≡ true → OnOk r (after.replaced ≡ min (before.replaced + 1) (2 ^ 64 - 1)))
    → after.bad_lines ≡ before.bad_lines → after.line ≡ min (before.line + 1) (2 ^ 64 - 1) → OnOk r (Read rule before after line)
read_ok (Ok x) rule before after line passed kept skipped plain replaced bad_lines number =
    record { passed = passed; kept = kept; skipped = skipped; plain = plain; replaced = replaced; bad_lines = bad_lines; line = number }
read_ok (Err e) rule before after line passed kept skipped plain replaced bad_lines number = tt

-- how many lines pass a test, with one more line
how_many-push : (test : List ℕ → Bool) (front : List (List ℕ)) (line : List ℕ) (b : Bool) → test line ≡ b → how_many test (front ++ line ∷ []) ≡ how_many test front + cond b 1 0
how_many-push test front line b is =
    ap length (filter-append test front (line ∷ [])) ∙ length-append (filter test front) (filter test (line ∷ [])) ∙ ap (λ (n : ℕ). how_many test front + n) (one b is)
  where
    one : (b : Bool) → test line ≡ b → how_many test (line ∷ []) ≡ cond b 1 0
    one true is = ap (λ (t : Bool). length (cond t (line ∷ []) [])) is
    one false is = ap (λ (t : Bool). length (cond t (line ∷ []) [])) is

count_more : (test : List ℕ → Bool) (old new : ℕ) (front : List (List ℕ)) (line : List ℕ) (b : Bool) → test line ≡ b → (test line ≡ false → new ≡ old) → (test line ≡ true → new ≡ min (old + 1) (2 ^ 64 - 1))
    → old ≡ min (how_many test front) (2 ^ 64 - 1) → new ≡ min (how_many test (front ++ line ∷ [])) (2 ^ 64 - 1)
count_more test old new front line true is same more so_far =
    let many : how_many test (front ++ line ∷ []) ≡ how_many test front + 1 = how_many-push test front line true is in
    omega (arith, many, more is, so_far)
count_more test old new front line false is same more so_far =
    let many : how_many test (front ++ line ∷ []) ≡ how_many test front + 0 = how_many-push test front line false is in
    omega (arith, many, same is, so_far)

-- one line more of a text was read
lines_read : (rule : Rule) (ended whole line : List ℕ) (before after : LinesRead) → lines whole ≡ lines ended ++ line ∷ [] → Read rule before after line → IsReadingOf rule ended before → IsReadingOf rule whole after
lines_read rule ended whole line before after both read h =
    let many : length (lines whole) ≡ length (lines ended) + length (line ∷ []) = ap length both ∙ length-append (lines ended) (line ∷ []) in
    let next : after.line ≡ min (before.line + 1) (2 ^ 64 - 1) = read.line in
    let so_far : before.line ≡ min (length (lines ended)) (2 ^ 64 - 1) = h.line in
    record {
      line = omega (arith, next, so_far, many);
      skipped = count_more (is_bad rule) before.skipped after.skipped (lines ended) line (is_bad rule line) refl read.kept read.skipped h.skipped
          ∙ ap (λ (l : List (List ℕ)). min (how_many (is_bad rule) l) (2 ^ 64 - 1)) (sym both);
      replaced = count_more (is_replaced rule) before.replaced after.replaced (lines ended) line (is_replaced rule line) refl read.plain read.replaced h.replaced
          ∙ ap (λ (l : List (List ℕ)). min (how_many (is_replaced rule) l) (2 ^ 64 - 1)) (sym both);
      passed = λ is. subst (NoneIsBad rule) (sym both)
          (All-append (λ t. is_bad rule t ≡ false) (lines ended) (line ∷ []) (h.passed (sym read.bad_lines ∙ is))
          (All-cons (λ t. is_bad rule t ≡ false) line [] (read.passed (sym read.bad_lines ∙ is)) (All-nil (λ t. is_bad rule t ≡ false))));
    }

-- nothing was read
nothing_read : (rule : Rule) (reading : LinesRead) → (reading.line ≡ 0) × (reading.skipped ≡ 0) × (reading.replaced ≡ 0) → IsReadingOf rule [] reading
nothing_read rule reading none = record {
  line = none.0 ∙ omega arith;
  skipped = none.1 ∙ omega arith;
  replaced = none.2 ∙ omega arith;
  passed = λ is. All-nil (λ t. is_bad rule t ≡ false);
}

-- what was kept, and a line that ends behind it
pub ended_with : (text ended partial rest : List ℕ) → text ≡ ended ++ partial → text ++ (rest ++ 10 ∷ []) ≡ ended ++ ((partial ++ rest) ++ 10 ∷ [])
ended_with text ended partial rest cut =
    ap (λ (l : List ℕ). l ++ (rest ++ 10 ∷ [])) cut ∙ append_assoc ended partial (rest ++ 10 ∷ []) ∙ ap (λ (l : List ℕ). ended ++ l) (sym (append_assoc partial rest (10 ∷ [])))

-- what was kept of a line, or was not, and the bytes up to its end
pub line_alone : (partial rest line : List ℕ) → partial ≡ [] → line ≡ strip_carriage_return rest → line ≡ strip_carriage_return (partial ++ rest)
line_alone partial rest line none is = is ∙ ap (λ (l : List ℕ). strip_carriage_return (l ++ rest)) (sym none)

pub line_joined : (partial rest line : List ℕ) {joined kept : List ℕ} → joined ≡ kept → kept ≡ partial ++ rest → line ≡ strip_carriage_return joined → line ≡ strip_carriage_return (partial ++ rest)
line_joined partial rest line all more is = is ∙ ap strip_carriage_return (all ∙ more)

pub none_kept : (kept : List ℕ) → kept ≡ [] → NoLineFeed kept
none_kept kept none = subst NoLineFeed (sym none) (All-nil (λ x. x ≢ 10))

-- the lines that have ended, with one more
abbrev pub with_line : List ℕ → List ℕ → List ℕ → List ℕ
with_line ended partial rest = ended ++ ((partial ++ rest) ++ 10 ∷ [])

module _ (ended partial rest line : List ℕ) (ends : EndsLine ended) (unended : NoLineFeed partial) (none : NoLineFeed rest) (is : line ≡ strip_carriage_return (partial ++ rest)) where
  pub line_ends : EndsLine (with_line ended partial rest)
  line_ends = subst EndsLine (append_assoc ended (partial ++ rest) (10 ∷ [])) (ends_push (ended ++ (partial ++ rest)))

  pub lines_more : lines (with_line ended partial rest) ≡ lines ended ++ line ∷ []
  lines_more = ended_lines ended (partial ++ rest) ends (All-append (λ x. x ≢ 10) partial rest unended none) ∙ ap (λ (l : List ℕ). lines ended ++ l ∷ []) (sym is)

  -- the text that has them, and bytes behind it
  module _ (text : List ℕ) (cut : text ≡ ended ++ partial) where
    pub text_more : (kept : List ℕ) → kept ≡ [] → text ++ (rest ++ 10 ∷ []) ≡ with_line ended partial rest ++ kept
    text_more kept empty = ended_with text ended partial rest cut ∙ sym (append-nil (with_line ended partial rest)) ∙ ap (λ (l : List ℕ). with_line ended partial rest ++ l) (sym empty)

    pub lines_then : (more : List ℕ) → lines ((text ++ (rest ++ 10 ∷ [])) ++ more) ≡ lines ended ++ line ∷ lines more
    lines_then more =
        ap (λ (l : List ℕ). lines (l ++ more)) (ended_with text ended partial rest cut)
        ∙ lines-append (with_line ended partial rest) more line_ends
        ∙ ap (λ (l : List (List ℕ)). l ++ lines more) lines_more
        ∙ append_assoc (lines ended) (line ∷ []) (lines more)

module _ {K : Type 0} (has : K → List (List ℕ) → Type 0) where
  -- the tokens of one line more were added
  tokens_more : (rule : Rule) (before : List (List ℕ)) (old new : K) (ended whole line : List ℕ) → lines whole ≡ lines ended ++ line ∷ []
      → Takes has old new (tokens_of_lines rule (line ∷ [])) → has old (before ++ tokens_of rule ended) → has new (before ++ tokens_of rule whole)
  tokens_more rule before old new ended whole line both adds h =
      subst (has new)
      (append_assoc before (tokens_of rule ended) (tokens_of_lines rule (line ∷ []))
      ∙ ap (λ (l : List (List ℕ)). before ++ l) (sym (ap (λ (l : List (List ℕ)). tokens_of_lines rule l) both ∙ tokens_of_lines-append rule (lines ended) (line ∷ []))))
      (adds (before ++ tokens_of rule ended) h)

  -- ---- the counter

  -- how the ended lines were read
  so_read : (rule : Rule) (before : List (List ℕ)) (sink : K) (partial : List ℕ) (reading : LinesRead) (text : List ℕ) (h : Counted has rule before sink partial reading text) → IsReadingOf rule h.ended reading
  so_read rule before sink partial reading text h = record { line = h.line; skipped = h.skipped; replaced = h.replaced; passed = h.passed }

  -- nothing was given
  pub Counted-nothing : (rule : Rule) (before : List (List ℕ)) (sink : K) (partial : List ℕ) (reading : LinesRead) → has sink before → partial ≡ []
      → (reading.line ≡ 0) × (reading.skipped ≡ 0) × (reading.replaced ≡ 0) → Counted has rule before sink partial reading []
  Counted-nothing rule before sink partial reading counts empty none =
      let read = nothing_read rule reading none in
      record {
        ended = [];
        cut = sym empty;
        ends = λ some. absurd (omega arith);
        unended = none_kept partial empty;
        counts = subst (has sink) (sym (append-nil before)) counts;
        line = read.line;
        skipped = read.skipped;
        replaced = read.replaced;
        passed = read.passed;
      }

  -- a line has ended, and was counted with what was kept of it
  Counted-line : (rule : Rule) (before : List (List ℕ)) (old new : K) (partial rest line kept : List ℕ) (first after : LinesRead) (text : List ℕ) → NoLineFeed rest
      → line ≡ strip_carriage_return (partial ++ rest) → kept ≡ [] → Takes has old new (tokens_of_lines rule (line ∷ [])) → Read rule first after line
      → Counted has rule before old partial first text → Counted has rule before new kept after (text ++ (rest ++ 10 ∷ []))
  Counted-line rule before old new partial rest line kept first after text none is empty adds read h =
      let whole = with_line h.ended partial rest in
      let both = lines_more h.ended partial rest line h.ends h.unended none is in
      let now : IsReadingOf rule whole after = lines_read rule h.ended whole line first after both read (so_read rule before old partial first text h) in
      record {
        ended = whole;
        cut = text_more h.ended partial rest line h.ends h.unended none is text h.cut kept empty;
        ends = line_ends h.ended partial rest line h.ends h.unended none is;
        unended = none_kept kept empty;
        counts = tokens_more rule before old new h.ended whole line both adds h.counts;
        line = now.line;
        skipped = now.skipped;
        replaced = now.replaced;
        passed = now.passed;
      }

  -- the same, where that may have been an error
  pub Counted-line-ok : {X E : Type 0} (r : Result X E) (rule : Rule) (old new : K) (partial rest line kept : List ℕ) (first after : LinesRead) → NoLineFeed rest
      → line ≡ strip_carriage_return (partial ++ rest) → kept ≡ [] → OnOk r (Takes has old new (tokens_of_lines rule (line ∷ []))) → OnOk r (Read rule first after line)
      → OnOk r ((before : List (List ℕ)) (text : List ℕ) → Counted has rule before old partial first text → Counted has rule before new kept after (text ++ (rest ++ 10 ∷ [])))
  Counted-line-ok (Ok x) rule old new partial rest line kept first after none is empty adds read =
      λ before text h. Counted-line rule before old new partial rest line kept first after text none is empty adds read h
  Counted-line-ok (Err e) rule old new partial rest line kept first after none is empty adds read = tt

  -- the line that ended is bad, and is rejected
  pub Counted-bad : (rule : Rule) (before : List (List ℕ)) (sink : K) (partial rest line : List ℕ) (first after : LinesRead) (text more : List ℕ) → NoLineFeed rest
      → line ≡ strip_carriage_return (partial ++ rest) → (first.bad_lines ≡ Rejected) × (is_bad rule line ≡ true) → after.bad_lines ≡ first.bad_lines → after.line ≡ min (first.line + 1) (2 ^ 64 - 1)
      → Counted has rule before sink partial first text → IsFirstBad rule ((text ++ (rest ++ 10 ∷ [])) ++ more) after
  Counted-bad rule before sink partial rest line first after text more none is bad same next h = record {
    front = lines h.ended;
    bad = line;
    rest = lines more;
    cut = lines_then h.ended partial rest line h.ends h.unended none is text h.cut more;
    good = h.passed bad.0;
    is = bad.1;
    line = omega (arith, next, h.line);
    rejected = same ∙ bad.0;
  }

  -- the last line is bad, and is rejected
  pub Counted-bad-last : (rule : Rule) (before : List (List ℕ)) (sink : K) (partial line : List ℕ) (first after : LinesRead) (text : List ℕ) → 0 < length partial
      → line ≡ partial → (first.bad_lines ≡ Rejected) × (is_bad rule line ≡ true) → after.bad_lines ≡ first.bad_lines → after.line ≡ min (first.line + 1) (2 ^ 64 - 1)
      → Counted has rule before sink partial first text → IsFirstBad rule text after
  Counted-bad-last rule before sink partial line first after text some is bad same next h = record {
    front = lines h.ended;
    bad = line;
    rest = [];
    cut = last_more h.ended partial line h.ends h.unended some is text h.cut;
    good = h.passed bad.0;
    is = bad.1;
    line = omega (arith, next, h.line);
    rejected = same ∙ bad.0;
  }

  -- bytes were kept
  pub Counted-rest : (rule : Rule) (before : List (List ℕ)) (sink : K) (partial rest : List ℕ) (reading : LinesRead) (text : List ℕ) → NoLineFeed rest
      → Counted has rule before sink partial reading text → Counted has rule before sink (partial ++ rest) reading (text ++ rest)
  Counted-rest rule before sink partial rest reading text none h = record {
    ended = h.ended;
    cut = ap (λ (l : List ℕ). l ++ rest) h.cut ∙ append_assoc h.ended partial rest;
    ends = h.ends;
    unended = All-append (λ x. x ≢ 10) partial rest h.unended none;
    counts = h.counts;
    line = h.line;
    skipped = h.skipped;
    replaced = h.replaced;
    passed = h.passed;
  }

  -- the sink has what it had
  pub Counted-kept : (rule : Rule) (before : List (List ℕ)) (old new : K) (partial : List ℕ) (reading : LinesRead) (text : List ℕ) → Keeps has old new
      → Counted has rule before old partial reading text → Counted has rule before new partial reading text
  Counted-kept rule before old new partial reading text keeps h = record {
    ended = h.ended;
    cut = h.cut;
    ends = h.ends;
    unended = h.unended;
    counts = keeps (before ++ tokens_of rule h.ended) h.counts;
    line = h.line;
    skipped = h.skipped;
    replaced = h.replaced;
    passed = h.passed;
  }

  -- no text was begun
  pub Counted-none : (rule : Rule) (before : List (List ℕ)) (sink : K) (partial : List ℕ) (reading : LinesRead) → Counted has rule before sink partial reading [] → has sink before
  Counted-none rule before sink partial reading h =
      subst (has sink) (ap (λ (l : List ℕ). before ++ tokens_of rule l) (nil_first h.ended partial h.cut) ∙ append-nil before) h.counts

  -- the text ends, and nothing is kept
  pub ended_whole : (rule : Rule) (before : List (List ℕ)) (sink : K) (partial : List ℕ) (reading : LinesRead) (text : List ℕ) → partial ≡ []
      → Counted has rule before sink partial reading text → has sink (before ++ tokens_of rule text) × IsReadingOf rule text reading
  ended_whole rule before sink partial reading text none h =
      let all : h.ended ≡ text = sym (h.cut ∙ ap (λ (l : List ℕ). h.ended ++ l) none ∙ append-nil h.ended) in (
        subst (λ (l : List ℕ). has sink (before ++ tokens_of rule l)) all h.counts,
        subst (λ (l : List ℕ). IsReadingOf rule l reading) all (so_read rule before sink partial reading text h),
      )

  -- the text ends, and what is kept is counted as its last line
  pub ended_last : (rule : Rule) (before : List (List ℕ)) (old new : K) (partial line : List ℕ) (first after : LinesRead) (text : List ℕ) → 0 < length partial → line ≡ partial
      → Takes has old new (tokens_of_lines rule (line ∷ [])) → Read rule first after line
      → Counted has rule before old partial first text → has new (before ++ tokens_of rule text) × IsReadingOf rule text after
  ended_last rule before old new partial line first after text some same adds read h =
      let both = last_more h.ended partial line h.ends h.unended some same text h.cut in (
        tokens_more rule before old new h.ended text line both adds h.counts,
        lines_read rule h.ended text line first after both read (so_read rule before old partial first text h),
      )

  -- the same of a last line, where that may have been an error
  pub ended_last-ok : {X E : Type 0} (r : Result X E) (rule : Rule) (old new : K) (partial line : List ℕ) (first after : LinesRead) → 0 < length partial → line ≡ partial
      → OnOk r (Takes has old new (tokens_of_lines rule (line ∷ []))) → OnOk r (Read rule first after line)
      → OnOk r ((before : List (List ℕ)) (text : List ℕ) → Counted has rule before old partial first text → has new (before ++ tokens_of rule text) × IsReadingOf rule text after)
  ended_last-ok (Ok x) rule old new partial line first after some same adds read = λ before text h. ended_last rule before old new partial line first after text some same adds read h
  ended_last-ok (Err e) rule old new partial line first after some same adds read = tt
