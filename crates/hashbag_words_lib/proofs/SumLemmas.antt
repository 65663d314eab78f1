-- Sums of sorted rows, one row after the other.
use Rattle.std.proofs.Common.{◌≡◌, ◌≢◌, ℕ, ◌+◌, ◌<◌, Bool, true, false, cond, List, [], ◌∷◌, ◌++◌, All, filter, Ordering, Less, Equal, Greater, is_eq, String, string_bytes, bytes_eq, Global, Option, None, Some, refl, sym, ◌∙◌, ap, subst, arith, append_assoc}
use Rattle.std.specs.Cmp.Lexicographic.{bytes_decides, nat_list_cmp_total, texts_ties}
use Rattle.std.specs.List.{AllByRecursion}
use Rattle.std.specs.List.Sorted.{IsStrictlySortedBy}
use Rattle.std.specs.Map.{keys_of}
use Rattle.std.proofs.lemmas.Cmp.{tied_itself}
use Rattle.std.proofs.lemmas.List.{append-nil}
use Rattle.std.proofs.lemmas.List.Elements.{All-nil, All-append, All-cons, filter-append}
use Rattle.std.proofs.lemmas.List.Sums.{sum_by_push}
use Rattle.hashbag_words_lib.specs.Choice.{shows}
use Rattle.hashbag_words_lib.specs.Sorted.{of_row, row_of, text_cmp, times_in}
use Rattle.std.specs.Global.{Vec}
use Rattle.hashbag_words_lib.specs.Counts.{KeepsRows, TakesRows}
use Rattle.hashbag_words_lib.specs.Sums.{chosen_of, held_count, is_none, line_cmp, line_start, AreBefore, AreBuilt, AreSums, AreUpTo, EndsRow, EndsSumsIn, HasSums, HoldsLast, IsDone, IsHeld, IsSummed, IsTextOfSums}
use Rattle.hashbag_words_lib.specs.Writing.{comma, end_text, head_text, next_row_text, row_text, rows_text, text_of}
use Rattle.hashbag_words_lib.specs.declared.choice.Choice.{Choice}
use Rattle.hashbag_words_lib.specs.declared.sums.Sums.{Sums}
use Rattle.hashbag_words_lib.specs.declared.writing.Format.{Format}

-- ---- the text of rows

-- one row more behind others, none of which is the first of all
later_row : (format : Format) (rows : List (List ℕ × ℕ)) (r : List ℕ × ℕ)
    → rows_text format false (rows ++ r ∷ []) ≡ rows_text format false rows ++ (comma format false ++ row_text format r)
later_row format [] r = append-nil (comma format false ++ row_text format r)
later_row format (x ∷ rows) r =
    let more = comma format false ++ row_text format r in
    ap (λ (l : List ℕ). (comma format false ++ row_text format x) ++ l) (later_row format rows r)
    ∙ sym (append_assoc (comma format false ++ row_text format x) (rows_text format false rows) more)

-- one row more
row_more : (format : Format) (rows : List (List ℕ × ℕ)) (r : List ℕ × ℕ)
    → rows_text format true (rows ++ r ∷ []) ≡ rows_text format true rows ++ (comma format (is_none rows) ++ row_text format r)
row_more format [] r = append-nil (comma format true ++ row_text format r)
row_more format (x ∷ rows) r =
    let more = comma format false ++ row_text format r in
    ap (λ (l : List ℕ). (comma format true ++ row_text format x) ++ l) (later_row format rows r)
    ∙ sym (append_assoc (comma format true ++ row_text format x) (rows_text format false rows) more)

some_more : (rows : List (List ℕ × ℕ)) (r : List ℕ × ℕ) → false ≡ is_none (rows ++ r ∷ [])
some_more [] r = refl
some_more (x ∷ rows) r = refl

-- ---- the order of lines

before_is_up_to : (start : List ℕ) (rows : List (List ℕ × ℕ)) → AreBefore start rows → AreUpTo start rows
before_is_up_to start [] before = tt
before_is_up_to start (r ∷ rows) before = ((λ is. let both : Less ≡ Greater = sym before.0 ∙ is in absurd (cc)), before_is_up_to start rows before.1)

up_to_push : (start : List ℕ) (rows : List (List ℕ × ℕ)) (row : List ℕ × ℕ) → AreUpTo start rows → text_cmp (line_start row.0) start ≢ Greater → AreUpTo start (rows ++ row ∷ [])
up_to_push start [] row up last = (last, tt)
up_to_push start (r ∷ rows) row up last = (up.0, up_to_push start rows row up.1 last)

-- what doesn't come after a text comes before a later one
up_to_less : (x start next : List ℕ) → text_cmp x start ≢ Greater → text_cmp start next ≡ Less → text_cmp x next ≡ Less
up_to_less x start next up less = at (text_cmp x start) refl
  where
    at : (o : Ordering) → text_cmp x start ≡ o → text_cmp x next ≡ Less
    at Less is = nat_list_cmp_total.trans x start next is less
    at Equal is = subst (λ (t : List ℕ). text_cmp t next ≡ Less) (sym ((bytes_decides x start).0 (texts_ties x start ∙ ap is_eq is))) less
    at Greater is = absurd (up is)

all_before : (start next : List ℕ) (rows : List (List ℕ × ℕ)) → text_cmp start next ≡ Less → AreUpTo start rows → AreBefore next rows
all_before start next [] less up = tt
all_before start next (r ∷ rows) less up = (up_to_less (line_start r.0) start next up.0 less, all_before start next rows less up.1)

-- the tokens behind a token, with one more at the end
behind_push : (key : List ℕ) (rows : List (List ℕ × ℕ)) (row : List ℕ × ℕ) → AllByRecursion (λ k. line_cmp key k ≡ Less) (keys_of rows) → line_cmp key row.0 ≡ Less
    → AllByRecursion (λ k. line_cmp key k ≡ Less) (keys_of (rows ++ row ∷ []))
behind_push key [] row all up = (up, tt)
behind_push key (r ∷ rows) row all up = (all.0, behind_push key rows row all.1 up)

rises_nil : IsStrictlySortedBy line_cmp []
unfolding IsStrictlySortedBy
rises_nil = tt

rises_push : (rows : List (List ℕ × ℕ)) (row : List ℕ × ℕ) → IsStrictlySortedBy line_cmp (keys_of rows) → AreBefore (line_start row.0) rows → IsStrictlySortedBy line_cmp (keys_of (rows ++ row ∷ []))
unfolding IsStrictlySortedBy
rises_push [] row rises before = (tt, tt)
rises_push (r ∷ rows) row rises before = (behind_push r.0 rows row rises.0 before.0, rises_push rows row rises.1 before.1)

-- ---- what rows count

none_counted : (text : List ℕ) (row : List ℕ × ℕ) → row.1 ≡ 0 → of_row text row ≡ 0
none_counted text row none = at (bytes_eq text row.0)
  where
    at : (b : Bool) → cond b row.1 0 ≡ 0
    at true = none
    at false = refl

both_counted : (text token : List ℕ) (n count : ℕ) → of_row text (token, n + count) ≡ of_row text (token, n) + of_row text (token, count)
both_counted text token n count = at (bytes_eq text token)
  where
    at : (b : Bool) → cond b (n + count) 0 ≡ cond b n 0 + cond b count 0
    at true = refl
    at false = refl

-- ---- the rows that are shown

chosen_push : (choice : Choice) (rows : List (List ℕ × ℕ)) (row : List ℕ × ℕ) (b : Bool) → shows choice row ≡ b → chosen_of choice (rows ++ row ∷ []) ≡ chosen_of choice rows ++ cond b (row ∷ []) []
chosen_push choice rows row b is = filter-append (shows choice) rows (row ∷ []) ∙ ap (λ (s : Bool). chosen_of choice rows ++ cond s (row ∷ []) []) is

module _ (shown : Choice × Format) where
  -- nothing was given
  pub nothing_summed : (bytes start : List ℕ) → bytes ≡ head_text shown.1 → IsSummed shown bytes true None start []
  nothing_summed bytes start is = record {
    done = [];
    rises = rises_nil;
    some = All-nil (λ row. 0 < row.1);
    counts = λ text. refl;
    last = refl;
    are = record { built = is ∙ sym (append-nil (head_text shown.1)); none = refl };
  }

  module _ (bytes : List ℕ) (is_empty : Bool) (start : List ℕ) (rows : List (List ℕ × ℕ)) where
    -- a row of the held token
    pub count_added : (token : String Global) (n count : ℕ) (text : List ℕ) → string_bytes token ≡ text → IsSummed shown bytes is_empty (Some (token, n)) start rows
        → IsSummed shown bytes is_empty (Some (token, n + count)) start (rows ++ (text, count) ∷ [])
    count_added token n count text is h = record {
      done = h.done;
      rises = h.rises;
      some = h.some;
      counts = λ t.
          let was : times_in t h.done + of_row t (string_bytes token, n) ≡ times_in t rows = h.counts t in
          let more : of_row t (string_bytes token, n + count) ≡ of_row t (string_bytes token, n) + of_row t (string_bytes token, count) = both_counted t (string_bytes token) n count in
          let same : of_row t (string_bytes token, count) ≡ of_row t (text, count) = ap (λ (l : List ℕ). of_row t (l, count)) is in
          let all : times_in t (rows ++ (text, count) ∷ []) ≡ times_in t rows + of_row t (text, count) = sum_by_push (of_row t) rows (text, count) in
          omega (arith, was, more, same, all);
      last = h.last;
      are = h.are;
    }

    -- none was held
    pub none_done : IsSummed shown bytes is_empty None start rows → IsDone shown bytes is_empty start rows
    none_done h = record {
      done = h.done;
      sums_are = record {
        rises = h.rises;
        counts = λ text.
            let all : times_in text h.done + 0 ≡ times_in text rows = h.counts text in
            let same : times_in text h.done ≡ times_in text rows = omega (arith, all) in same;
        some = h.some;
      };
      up_to = subst (AreUpTo start) (sym h.last) tt;
      are = h.are;
    }

    module _ (row : String Global × ℕ) (h : IsSummed shown bytes is_empty (Some row) start rows) where
      -- the held token was given with the count 0
      pub zero_done : row.1 ≡ 0 → IsDone shown bytes is_empty start rows
      zero_done none = record {
        done = h.done;
        sums_are = record {
          rises = h.rises;
          counts = λ text.
              let all : times_in text h.done + of_row text (row_of row) ≡ times_in text rows = h.counts text in
              let zero : of_row text (row_of row) ≡ 0 = none_counted text (row_of row) none in
              let same : times_in text h.done ≡ times_in text rows = omega (arith, all, zero) in same;
          some = h.some;
        };
        up_to = before_is_up_to start h.done h.last.1;
        are = h.are;
      }

      more_sums : 0 < row.1 → AreSums rows (h.done ++ row_of row ∷ [])
      more_sums some = record {
        rises = rises_push h.done (row_of row) h.rises (subst (λ (l : List ℕ). AreBefore l h.done) h.last.0 h.last.1);
        counts = λ text.
            let all : times_in text h.done + of_row text (row_of row) ≡ times_in text rows = h.counts text in
            sum_by_push (of_row text) h.done (row_of row) ∙ all;
        some = All-append (λ r. 0 < r.1) h.done (row_of row ∷ []) h.some (All-cons (λ r. 0 < r.1) (row_of row) [] some (All-nil (λ r. 0 < r.1)));
      }

      more_up_to : AreUpTo start (h.done ++ row_of row ∷ [])
      more_up_to = up_to_push start h.done (row_of row) (before_is_up_to start h.done h.last.1)
          (λ is.
          let same : text_cmp (line_start (string_bytes row.0)) start ≡ Equal = ap (λ (l : List ℕ). text_cmp (line_start (string_bytes row.0)) l) h.last.0 ∙ tied_itself nat_list_cmp_total (line_start (string_bytes row.0)) in
          let both : Equal ≡ Greater = sym same ∙ is in absurd (cc))

      -- the held row isn't shown
      pub hidden_done : 0 < row.1 → shows shown.0 (row_of row) ≡ false → IsDone shown bytes is_empty start rows
      hidden_done some hidden =
          let same : chosen_of shown.0 (h.done ++ row_of row ∷ []) ≡ chosen_of shown.0 h.done = chosen_push shown.0 h.done (row_of row) false hidden ∙ append-nil (chosen_of shown.0 h.done) in
          record {
            done = h.done ++ row_of row ∷ [];
            sums_are = more_sums some;
            up_to = more_up_to;
            are = record {
              built = h.are.built ∙ ap (λ (l : List (List ℕ × ℕ)). head_text shown.1 ++ rows_text shown.1 true l) (sym same);
              none = h.are.none ∙ ap is_none (sym same);
            };
          }

      -- the held row is shown
      pub shown_done : (grown : List ℕ) → 0 < row.1 → shows shown.0 (row_of row) ≡ true → grown ≡ bytes ++ next_row_text shown.1 is_empty (row_of row) → IsDone shown grown false start rows
      shown_done grown some is grows =
          let chosen = chosen_of shown.0 h.done in
          let more : chosen_of shown.0 (h.done ++ row_of row ∷ []) ≡ chosen ++ row_of row ∷ [] = chosen_push shown.0 h.done (row_of row) true is in
          record {
            done = h.done ++ row_of row ∷ [];
            sums_are = more_sums some;
            up_to = more_up_to;
            are = record {
              built = grows
                  ∙ ap (λ (l : List ℕ). l ++ next_row_text shown.1 is_empty (row_of row)) h.are.built
                  ∙ append_assoc (head_text shown.1) (rows_text shown.1 true chosen) (next_row_text shown.1 is_empty (row_of row))
                  ∙ ap (λ (b : Bool). head_text shown.1 ++ (rows_text shown.1 true chosen ++ next_row_text shown.1 b (row_of row))) h.are.none
                  ∙ ap (λ (l : List ℕ). head_text shown.1 ++ l) (sym (row_more shown.1 chosen (row_of row)))
                  ∙ ap (λ (l : List (List ℕ × ℕ)). head_text shown.1 ++ rows_text shown.1 true l) (sym more);
              none = some_more chosen (row_of row) ∙ ap is_none (sym more);
            };
          }

    -- the row of a later token is held
    pub row_begun : (token : String Global) (count : ℕ) (next : List ℕ) → next ≡ line_start (string_bytes token) → text_cmp start next ≡ Less → IsDone shown bytes is_empty start rows
        → IsSummed shown bytes is_empty (Some (token, count)) next (rows ++ (string_bytes token, count) ∷ [])
    row_begun token count next is less h = record {
      done = h.done;
      rises = h.sums_are.rises;
      some = h.sums_are.some;
      counts = λ text.
          ap (λ (n : ℕ). n + of_row text (string_bytes token, count)) (h.sums_are.counts text) ∙ sym (sum_by_push (of_row text) rows (string_bytes token, count));
      last = (is, all_before start next h.done less h.up_to);
      are = h.are;
    }

    -- the text is whole
    pub text_is_whole : (whole : List ℕ) → whole ≡ bytes ++ end_text shown.1 → IsDone shown bytes is_empty start rows → IsTextOfSums shown rows whole
    text_is_whole whole is h = record {
      sums = h.done;
      sums_are = h.sums_are;
      is = is ∙ ap (λ (l : List ℕ). l ++ end_text shown.1) h.are.built ∙ append_assoc (head_text shown.1) (rows_text shown.1 true (chosen_of shown.0 h.done)) (end_text shown.1);
    }

-- ---- the sums themselves

pub not_held : (held : Option (String Global × ℕ)) (token : List ℕ) → held ≡ None → IsHeld held token → ⊥
not_held held token none is = subst (λ (o : Option (String Global × ℕ)). IsHeld o token) none is

module _ {W : Type 0} (written : W → List ℕ) (old : Sums W) where
  -- a row of the held token
  pub counted_more : (token : String Global) (n count sum : ℕ) (text : List ℕ) → old.held ≡ Some (token, n) → sum ≡ n + count → IsHeld old.held text
      → TakesRows (HasSums written) old (record old { held = Some (token, sum) }) ((text, count) ∷ [])
  counted_more token n count sum text is all held None rows h = h
  counted_more token n count sum text is all held (Some shown) rows h =
      let bytes = written old.to ++ old.part.items in
      let start = old.start.items in
      let was : IsSummed shown bytes old.is_empty (Some (token, n)) start rows = subst (λ (o : Option (String Global × ℕ)). IsSummed shown bytes old.is_empty o start rows) is h.2 in
      let same : string_bytes token ≡ text = subst (λ (o : Option (String Global × ℕ)). IsHeld o text) is held in (
        h.0,
        h.1,
        subst (λ (k : ℕ). IsSummed shown bytes old.is_empty (Some (token, k)) start (rows ++ (text, count) ∷ [])) (sym all) (count_added shown bytes old.is_empty start rows token n count text same was),
      )

  -- none is held
  pub ended_none : old.held ≡ None → EndsRow written old (record old { held = None })
  ended_none none None rows h = h
  ended_none none (Some shown) rows h =
      let bytes = written old.to ++ old.part.items in
      (h.0, h.1, none_done shown bytes old.is_empty old.start.items rows (subst (λ (o : Option (String Global × ℕ)). IsSummed shown bytes old.is_empty o old.start.items rows) none h.2))

  module _ (row : String Global × ℕ) (is : old.held ≡ Some row) where
    was_summed : (shown : Choice × Format) (rows : List (List ℕ × ℕ)) → IsSummed shown (written old.to ++ old.part.items) old.is_empty old.held old.start.items rows
        → IsSummed shown (written old.to ++ old.part.items) old.is_empty (Some row) old.start.items rows
    was_summed shown rows h = subst (λ (o : Option (String Global × ℕ)). IsSummed shown (written old.to ++ old.part.items) old.is_empty o old.start.items rows) is h

    -- the count is 0
    pub ended_zero : row.1 ≡ 0 → EndsRow written old (record old { held = None })
    ended_zero none None rows h = h
    ended_zero none (Some shown) rows h = (h.0, h.1, zero_done shown (written old.to ++ old.part.items) old.is_empty old.start.items rows row (was_summed shown rows h.2) none)

    -- the row isn't shown
    pub ended_hidden : 0 < row.1 → shows old.choice (row_of row) ≡ false → EndsRow written old (record old { held = None })
    ended_hidden some hidden None rows h = h
    ended_hidden some hidden (Some shown) rows h = (
      h.0,
      h.1,
      hidden_done shown (written old.to ++ old.part.items) old.is_empty old.start.items rows row (was_summed shown rows h.2) some (subst (λ (choice : Choice). shows choice (row_of row) ≡ false) h.0 hidden),
    )

    -- the row is shown
    pub ended_shown : (part : Vec ℕ) → 0 < row.1 → shows old.choice (row_of row) ≡ true → part.items ≡ old.part.items ++ next_row_text old.format old.is_empty (row_of row)
        → EndsRow written old (record old { held = None; part = part; is_empty = false })
    ended_shown part some is_shown grows None rows h = h
    ended_shown part some is_shown grows (Some shown) rows h =
        let bytes = written old.to ++ old.part.items in
        let text : Format → List ℕ = λ format. next_row_text format old.is_empty (row_of row) in (
          h.0,
          h.1,
          shown_done shown bytes old.is_empty old.start.items rows row (was_summed shown rows h.2) (written old.to ++ part.items) some (subst (λ (choice : Choice). shows choice (row_of row) ≡ true) h.0 is_shown)
              (ap (λ (l : List ℕ). written old.to ++ l) grows ∙ sym (append_assoc (written old.to) old.part.items (text old.format)) ∙ ap (λ (format : Format). bytes ++ text format) h.1),
        )

  -- a later token begins
  pub began_row : (done : Sums W) (next start : Vec ℕ) (token : String Global) (count : ℕ) → EndsRow written old done → next.items ≡ line_start (string_bytes token) → text_cmp done.start.items next.items ≡ Less
      → TakesRows (HasSums written) old (record done { held = Some (token, count); start = next; next = start }) ((string_bytes token, count) ∷ [])
  began_row done next start token count ends is less None rows h = h
  began_row done next start token count ends is less (Some shown) rows h =
      let did = ends (Some shown) rows h in
      (did.0, did.1, row_begun shown (written done.to ++ done.part.items) done.is_empty done.start.items rows token count next.items is less did.2)

  -- neither the room for the next token nor the total is a part of what the sums say
  pub ends_anyhow : (next : Vec ℕ) (done : Sums W) → EndsRow written (record old { next = next }) done → EndsRow written old done
  ends_anyhow next done ends None rows h = h
  ends_anyhow next done ends (Some shown) rows h = ends (Some shown) rows h

  pub takes_anyhow : (total : ℕ) (new : Sums W) (row : List (List ℕ × ℕ)) → TakesRows (HasSums written) (record old { total = total }) new row → TakesRows (HasSums written) old new row
  takes_anyhow total new row takes None rows h = h
  takes_anyhow total new row takes (Some shown) rows h = takes (Some shown) rows h

  -- what is built is written
  pub wrote : (new : W) (part : Vec ℕ) → written new ++ part.items ≡ written old.to ++ old.part.items → KeepsRows (HasSums written) old (record old { to = new; part = part })
  wrote new part same None rows h = h
  wrote new part same (Some shown) rows h = (h.0, h.1, subst (λ (bytes : List ℕ). IsSummed shown bytes old.is_empty old.held old.start.items rows) (sym same) h.2)

  -- the text ends
  pub ended_text : (done : Sums W) (to : W) → EndsRow written old done → written to ≡ written done.to ++ (done.part.items ++ end_text done.format) → EndsSumsIn written old to
  ended_text done to ends is shown rows h =
      let did = ends (Some shown) rows h in
      text_is_whole shown (written done.to ++ done.part.items) done.is_empty done.start.items rows (written to)
      (is ∙ sym (append_assoc (written done.to) done.part.items (end_text done.format)) ∙ ap (λ (format : Format). (written done.to ++ done.part.items) ++ end_text format) did.1) did.2
