-- The table of steps: how each call that a script may have changes the plain list X of a bag's occurrences, and what it replies.
use Rattle.std.specs.Prelude.{ℕ, ◌+◌, ◌-◌, min, nat_lt, ◌==◌, if◌then◌else◌, Bool, List, [], ◌∷◌, length, unwrap_or, find, option_map}
use Rattle.hashbag_script.specs.declared.script.Reply.{Reply}
use Rattle.hashbag_script.specs.declared.script.Reply.TheVariants.{Count, Left, Taken, Absent, Done, TooMany, BelowTotal}
use Rattle.hashbag_core.specs.Occurrences.{count, instance_or_itself, add, less, put}

module _ {T : Type 0} (eq : T → T → Bool) where
  -- insert, and insert_many: n more of v, unless the total would pass the limit `most`; the count before
  abbrev pub insert_row : ℕ → T → ℕ → List T → List T × Reply T
  insert_row most v n X =
      if nat_lt most (length X + n) then (X, TooMany)
      else (add eq v n X, Count (count eq v X))

  -- replace: v itself, once, in the place of all items that are equal to v, unless the total would pass the limit `most`; the count before
  abbrev pub replace_row : ℕ → T → List T → List T × Reply T
  replace_row most v X =
      if nat_lt most (length X - count eq v X + 1) then (X, TooMany)
      else (put eq v 1 X, Count (count eq v X))

  -- remove: one fewer of v; the count before
  abbrev pub remove_row : T → List T → List T × Reply T
  remove_row v X = (less eq v 1 X, Count (count eq v X))

  -- remove_up_to: q fewer of v, or none left if there were fewer than q; the count after
  abbrev pub remove_up_to_row : T → ℕ → List T → List T × Reply T
  remove_up_to_row v q X = (less eq v q X, Count (count eq v X - min q (count eq v X)))

  -- try_take: one fewer of v; the instance if it was the last, else how many there were
  abbrev pub try_take_row : T → List T → List T × Reply T
  try_take_row v X =
      if count eq v X == 0 then (X, Absent)
      else (if count eq v X == 1 then (less eq v 1 X, Taken (instance_or_itself eq v X) 1)
      else (less eq v 1 X, Left (count eq v X)))

  -- take_all: none of v; the instance with the count before
  abbrev pub take_all_row : T → List T → List T × Reply T
  take_all_row v X =
      if count eq v X == 0 then (X, Absent)
      else (less eq v (count eq v X) X, Taken (instance_or_itself eq v X) (count eq v X))

  -- the entry's and_modify, whose closure sets n: if v occurs, n of v's instance, unless the total would pass the limit `most`
  abbrev pub entry_set_row : ℕ → T → ℕ → List T → List T × Reply T
  entry_set_row most v n X =
      if count eq v X == 0 then (X, Absent)
      else (if nat_lt most (length X - count eq v X + n) then (X, TooMany)
      else (put eq (instance_or_itself eq v X) n X, Done))

  -- the entry's or_insert_many: if v doesn't occur, q of v, unless the total would pass the limit `most`; the count after
  abbrev pub entry_or_row : ℕ → T → ℕ → List T → List T × Reply T
  entry_or_row most v q X =
      if nat_lt 0 (count eq v X) then (X, Count (count eq v X))
      else (if nat_lt most (length X + q) then (X, TooMany)
      else (add eq v q X, Count q))

  -- the number of the first value of the list that is equal to u, 0 if there is none
  abbrev pub quota : List (T × ℕ) → T → ℕ
  quota list u = unwrap_or (option_map (λ p. p.1) (find (λ p. eq u p.0) list)) 0

  -- of each value u of X the lesser of its count and `many u`: an item is kept if fewer than `many u` later items are equal to it
  abbrev pub retained : (T → ℕ) → List T → List T
  retained many [] = []
  retained many (x ∷ X) = if nat_lt (count eq x X) (many x) then x ∷ retained many X else retained many X

  -- retain: of each value the lesser of its count and its quota
  abbrev pub retain_row : List (T × ℕ) → List T → List T × Reply T
  retain_row list X = (retained (quota list) X, Done)

  -- clear: nothing occurs any more
  abbrev pub clear_row : List T → List T × Reply T
  clear_row X = ([], Done)

  -- contains: the count
  abbrev pub count_row : T → List T → List T × Reply T
  count_row v X = (X, Count (count eq v X))

  -- reserve: the occurrences stay as they are
  abbrev pub reserve_row : ℕ → List T → List T × Reply T
  reserve_row n X = (X, Done)

  -- shrink_to_fit: the occurrences stay as they are
  abbrev pub shrink_to_fit_row : List T → List T × Reply T
  shrink_to_fit_row X = (X, Done)

  -- set_limit: the occurrences stay as they are; the limit can't go below the total
  abbrev pub limit_row : ℕ → List T → List T × Reply T
  limit_row n X = (X, if nat_lt n (length X) then BelowTotal else Done)
