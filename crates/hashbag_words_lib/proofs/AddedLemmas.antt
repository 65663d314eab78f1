-- What a line that ends, bytes that are kept, and the end of a file do to the rows that are added.
use Rattle.std.proofs.Common.{◌≡◌, ◌≢◌, ℕ, ◌+◌, ◌-◌, ◌^◌, ◌<◌, Bool, true, false, cond, eqb, List, [], ◌∷◌, ◌++◌, length, get_or, min, Result, Ok, Err, OnOk, refl, sym, ◌∙◌, ap, subst, arith, ne_eqb, length-append, append_assoc}
use borrow.Author.Tests.{eqb-true, eqb-false}
use Rattle.std.specs.Str.Lines.{lines, strip_carriage_return}
use Rattle.std.proofs.lemmas.List.{append-nil, get_or-append_right}
use Rattle.std.proofs.lemmas.List.Elements.{All-append}
use Rattle.hashbag_words_lib.specs.Added.{line_at, unmarked, Added, AreReadAs, AreRowsOf, IsFirstNoRow, IsReadAs}
use Rattle.hashbag_words_lib.specs.Counted.{NoLineFeed}
use Rattle.hashbag_words_lib.specs.Counts.{KeepsRows, TakesRows}
use Rattle.hashbag_words_lib.specs.LineEnds.{EndsLine}
use Rattle.hashbag_words_lib.specs.Rows.{IsNoRow}
use Rattle.hashbag_words_lib.specs.Tokens.{without_mark}
use Rattle.hashbag_words_lib.specs.declared.lines.BadLines.{BadLines}
use Rattle.hashbag_words_lib.specs.declared.lines.BadLines.TheVariants.{Rejected, Skipped}
use Rattle.hashbag_words_lib.specs.declared.lines.LinesRead.{LinesRead}
use Rattle.hashbag_words_lib.specs.declared.rows.RowForm.{RowForm}
use Rattle.hashbag_words_lib.proofs.CountedLemmas.{line_ends, lines_more, lines_then, nil_first, none_kept, text_more, with_line}

-- ---- lines that are read as rows

pub read_none : (form : RowForm) (bad_lines : BadLines) → AreReadAs form bad_lines [] []
read_none form bad_lines = refl

-- one line more was read
read_push : (form : RowForm) (bad_lines : BadLines) (xs : List (List ℕ)) (line : List ℕ) (rows more : List (List ℕ × ℕ)) → AreReadAs form bad_lines xs rows → IsReadAs form bad_lines line more → AreReadAs form bad_lines (xs ++ line ∷ []) (rows ++ more)
read_push form bad_lines [] line rows more h one = (more, [], ap (λ (l : List (List ℕ × ℕ)). l ++ more) h ∙ sym (append-nil more), one, refl)
read_push form bad_lines (x ∷ xs) line rows more h one = (
  h.0,
  h.1 ++ more,
  ap (λ (l : List (List ℕ × ℕ)). l ++ more) h.2 ∙ append_assoc h.0 h.1 more,
  h.3,
  read_push form bad_lines xs line h.1 more h.4 one,
)

-- a line before which lines come
later_line : (n : ℕ) (line : List ℕ) → 0 < n → line_at n line ≡ line
later_line n line some = ap (λ (b : Bool). cond b (without_mark line) line) (ne_eqb n 0 (λ z. omega arith))

-- a line of a file, of which these come before
unmarked_middle : (xs : List (List ℕ)) (line : List ℕ) (rest : List (List ℕ)) → unmarked (xs ++ line ∷ rest) ≡ unmarked xs ++ line_at (length xs) line ∷ rest
unmarked_middle [] line rest = refl
unmarked_middle (x ∷ xs) line rest = ap (λ (l : List ℕ). unmarked (x ∷ xs) ++ l ∷ rest) (sym (later_line (length (x ∷ xs)) line (omega arith)))

long_unmarked : (xs : List (List ℕ)) → length (unmarked xs) ≡ length xs
long_unmarked [] = refl
long_unmarked (x ∷ xs) = refl

-- the number of lines that were read shows which line is the first, also if it can't count them all
at_number : (line n : ℕ) (bytes : List ℕ) → line ≡ min n (2 ^ 64 - 1) → line_at line bytes ≡ line_at n bytes
at_number line n bytes is = ap (λ (b : Bool). cond b (without_mark bytes) bytes) (both (eqb n 0) refl)
  where
    both : (b : Bool) → eqb n 0 ≡ b → eqb line 0 ≡ eqb n 0
    both true zero = let none : n ≡ 0 = eqb-true n 0 zero in let at : line ≡ 0 = omega (arith, is, none) in ap (λ (k : ℕ). eqb k 0) at ∙ sym zero
    both false some = ne_eqb line 0 (λ z. eqb-false n 0 some (omega (arith, is, z))) ∙ sym some

module _ {M K : Type 0} (has : M → K → List (List ℕ × ℕ) → Type 0) where
  -- a line that is no row was skipped, or rejected
  pub skipped_line : {X E : Type 0} (r : Result X E) (form : RowForm) (bad_lines before : BadLines) (line : List ℕ) (old new : K) → OnOk r (before ≡ Skipped) → before ≡ bad_lines → IsNoRow form line → new ≡ old
      → OnOk r ((rows : List (List ℕ × ℕ)) × IsReadAs form bad_lines line rows × TakesRows has old new rows)
  skipped_line (Ok x) form bad_lines before line old new is same none kept = ([], (sym same ∙ is, none), subst (λ (k : K). TakesRows has old k []) (sym kept) (λ shown rows h. subst (has shown old) (sym (append-nil rows)) h))
  skipped_line (Err e) form bad_lines before line old new is same none kept = tt

  -- rows were added
  have_more : (shown : M) (old new : K) (before rows more : List (List ℕ × ℕ)) → has shown old (before ++ rows) → TakesRows has old new more → has shown new (before ++ (rows ++ more))
  have_more shown old new before rows more h takes = subst (has shown new) (append_assoc before rows more) (takes shown (before ++ rows) h)

  -- ---- the counter

  -- nothing was given
  pub Added-nothing : (form : RowForm) (shown : M) (before : List (List ℕ × ℕ)) (sink : K) (partial : List ℕ) (reading : LinesRead) → has shown sink before → partial ≡ []
      → reading.line ≡ 0 → Added has form shown before sink partial reading []
  Added-nothing form shown before sink partial reading counts empty none = record {
    ended = [];
    cut = sym empty;
    ends = λ some. absurd (omega arith);
    unended = none_kept partial empty;
    rows = [];
    read = refl;
    counts = subst (has shown sink) (sym (append-nil before)) counts;
    line = none ∙ omega arith;
  }

  -- a line has ended, and was read with what was kept of it
  module _ (form : RowForm) (old new : K) (partial rest line kept : List ℕ) (first after : LinesRead) (none : NoLineFeed rest) (is : line ≡ strip_carriage_return (partial ++ rest)) (empty : kept ≡ [])
      (same : after.bad_lines ≡ first.bad_lines) (next : after.line ≡ min (first.line + 1) (2 ^ 64 - 1)) where
    Added-line : (shown : M) (before : List (List ℕ × ℕ)) (more : List (List ℕ × ℕ)) (text : List ℕ) → IsReadAs form first.bad_lines (line_at first.line line) more → TakesRows has old new more
        → Added has form shown before old partial first text → Added has form shown before new kept after (text ++ (rest ++ 10 ∷ []))
    Added-line shown before more text one adds h =
        let whole = with_line h.ended partial rest in
        let both : lines whole ≡ lines h.ended ++ line ∷ [] = lines_more h.ended partial rest line h.ends h.unended none is in
        let so_far : first.line ≡ min (length (lines h.ended)) (2 ^ 64 - 1) = h.line in
        let long : length (lines whole) ≡ length (lines h.ended) + 1 = ap length both ∙ length-append (lines h.ended) (line ∷ []) in
        record {
          ended = whole;
          cut = text_more h.ended partial rest line h.ends h.unended none is text h.cut kept empty;
          ends = line_ends h.ended partial rest line h.ends h.unended none is;
          unended = none_kept kept empty;
          rows = h.rows ++ more;
          read =
              subst (λ (b : BadLines). AreReadAs form b (unmarked (lines whole)) (h.rows ++ more)) (sym same)
              (subst (λ (l : List (List ℕ)). AreReadAs form first.bad_lines l (h.rows ++ more)) (sym (ap unmarked both ∙ unmarked_middle (lines h.ended) line []))
              (read_push form first.bad_lines (unmarked (lines h.ended)) (line_at (length (lines h.ended)) line) h.rows more h.read
              (subst (λ (l : List ℕ). IsReadAs form first.bad_lines l more) (at_number first.line (length (lines h.ended)) line h.line) one)));
          counts = have_more shown old new before h.rows more h.counts adds;
          line = omega (arith, next, so_far, long);
        }

    -- the same, where that may have been an error
    pub Added-line-ok : {X E : Type 0} (r : Result X E) → OnOk r ((rows : List (List ℕ × ℕ)) × IsReadAs form first.bad_lines (line_at first.line line) rows × TakesRows has old new rows)
        → OnOk r ((shown : M) (before : List (List ℕ × ℕ)) (text : List ℕ) → Added has form shown before old partial first text → Added has form shown before new kept after (text ++ (rest ++ 10 ∷ [])))
    Added-line-ok (Ok x) one = λ shown before text h. Added-line shown before one.0 text one.1 one.2 h
    Added-line-ok (Err e) one = tt

  -- the line that ended is no row, and bad lines are rejected
  pub Added-bad : (form : RowForm) (shown : M) (before : List (List ℕ × ℕ)) (sink : K) (partial rest line : List ℕ) (first after : LinesRead) (text more : List ℕ) → NoLineFeed rest
      → line ≡ strip_carriage_return (partial ++ rest) → (first.bad_lines ≡ Rejected) × IsNoRow form (line_at first.line line) → after.bad_lines ≡ first.bad_lines → after.line ≡ min (first.line + 1) (2 ^ 64 - 1)
      → Added has form shown before sink partial first text → IsFirstNoRow form ((text ++ (rest ++ 10 ∷ [])) ++ more) after
  Added-bad form shown before sink partial rest line first after text more none is bad same next h = record {
    front = unmarked (lines h.ended);
    bad = line_at (length (lines h.ended)) line;
    rest = lines more;
    rows = h.rows;
    cut = ap unmarked (lines_then h.ended partial rest line h.ends h.unended none is text h.cut more) ∙ unmarked_middle (lines h.ended) line (lines more);
    read = subst (λ (b : BadLines). AreReadAs form b (unmarked (lines h.ended)) h.rows) bad.0 h.read;
    is = subst (IsNoRow form) (at_number first.line (length (lines h.ended)) line h.line) bad.1;
    line = omega (arith, next, h.line, long_unmarked (lines h.ended));
    rejected = same ∙ bad.0;
  }

  -- bytes were kept
  pub Added-rest : (form : RowForm) (shown : M) (before : List (List ℕ × ℕ)) (sink : K) (partial rest : List ℕ) (reading : LinesRead) (text : List ℕ) → NoLineFeed rest
      → Added has form shown before sink partial reading text → Added has form shown before sink (partial ++ rest) reading (text ++ rest)
  Added-rest form shown before sink partial rest reading text none h = record {
    ended = h.ended;
    cut = ap (λ (l : List ℕ). l ++ rest) h.cut ∙ append_assoc h.ended partial rest;
    ends = h.ends;
    unended = All-append (λ x. x ≢ 10) partial rest h.unended none;
    rows = h.rows;
    read = h.read;
    counts = h.counts;
    line = h.line;
  }

  -- the sink has what it had
  pub Added-kept : (form : RowForm) (shown : M) (before : List (List ℕ × ℕ)) (old new : K) (partial : List ℕ) (reading : LinesRead) (text : List ℕ) → KeepsRows has old new
      → Added has form shown before old partial reading text → Added has form shown before new partial reading text
  Added-kept form shown before old new partial reading text keeps h = record {
    ended = h.ended;
    cut = h.cut;
    ends = h.ends;
    unended = h.unended;
    rows = h.rows;
    read = h.read;
    counts = keeps shown (before ++ h.rows) h.counts;
    line = h.line;
  }

  -- no file was begun
  pub Added-none : (form : RowForm) (shown : M) (before : List (List ℕ × ℕ)) (sink : K) (partial : List ℕ) (reading : LinesRead) → Added has form shown before sink partial reading [] → has shown sink before
  Added-none form shown before sink partial reading h =
      let none : lines h.ended ≡ [] = ap lines (nil_first h.ended partial h.cut) in
      let rows : h.rows ≡ [] = subst (λ (l : List (List ℕ)). AreReadAs form reading.bad_lines (unmarked l) h.rows) none h.read in
      subst (has shown sink) (ap (λ (l : List (List ℕ × ℕ)). before ++ l) rows ∙ append-nil before) h.counts

  -- the file ends, and what was kept was skipped
  pub Added-all : (form : RowForm) (shown : M) (before : List (List ℕ × ℕ)) (sink : K) (partial : List ℕ) (reading : LinesRead) (text : List ℕ) → (reading.bad_lines ≡ Rejected → partial ≡ [])
      → Added has form shown before sink partial reading text → (rows : List (List ℕ × ℕ)) × AreRowsOf form reading.bad_lines text rows × has shown sink (before ++ rows)
  Added-all form shown before sink partial reading text whole h = (
    h.rows,
    record {
      ended = h.ended;
      rest = partial;
      cut = h.cut;
      ends = h.ends;
      unended = h.unended;
      read = h.read;
      whole = whole;
    },
    h.counts,
  )

  -- what is kept is no line that has ended
  pub Added-cut : (form : RowForm) (shown : M) (before : List (List ℕ × ℕ)) (sink : K) (partial : List ℕ) (reading : LinesRead) (text : List ℕ) → 0 < length partial
      → Added has form shown before sink partial reading text → EndsLine text → ⊥
  Added-cut form shown before sink partial reading text some h ends = not_ended h.ended partial some h.unended (subst EndsLine h.cut ends)
    where
      not_ended : (ended part : List ℕ) → 0 < length part → NoLineFeed part → EndsLine (ended ++ part) → ⊥
      not_ended ended part some none ends =
          let whole : length (ended ++ part) ≡ length ended + length part = length-append ended part in
          let last = length (ended ++ part) - 1 in
          let place : last - length ended ≡ length part - 1 = omega arith in
          none (length part - 1) 0 (omega arith)
          (sym (get_or-append_right ended part (length ended) last 0 refl (omega arith) ∙ ap (λ (k : ℕ). get_or part k 0) place) ∙ ends (omega arith))
