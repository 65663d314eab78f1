-- Cells that are emptied place after place, while their tags stay.
use Rattle.std.proofs.Common.{◌≡◌, ℕ, ◌+◌, ◌%◌, ◌<◌, ◌≤◌, Bool, List, length, Option, None, get_or, sym, subst, ◌∙◌, arith, inl, inr, slice_set, replicate}
use Rattle.std.proofs.lemmas.Bool.{cases_lt}
use Rattle.std.proofs.lemmas.List.{length-set, get_or-set_other}
use Rattle.hashbag_slots.specs.Columns.{slots_of, Agree, AgreeFrom, IsColumns}
use Rattle.hashbag_slots.proofs.Reading.{length-slots_of, low_at, no_cell, none_cases}
use Rattle.hashbag_slots.proofs.Tables.{none_live}
use Rattle.hashbag_slots.proofs.WalkOrder.{sixteens}
use Rattle.hashbag_slots.proofs.Writing.{set_at, all_same}

module _ {T : Type 0} (ts : List ℕ) (cs : List (Option (T × ℕ))) where
  pub agree_from_first : Agree ts cs → AgreeFrom 0 ts cs
  agree_from_first agree = record {
    same_length = agree.same_length;
    filled = λ p _ high. agree.filled p high;
    tagged = λ p e cell. (omega arith, agree.tagged p e cell);
  }

  pub all_blank : Agree ts cs → ((p : ℕ) → get_or ts p 0 < 128) → cs ≡ replicate (length ts) None
  all_blank agree low = all_same cs (length ts) None None (sym agree.same_length) (λ q lt. no_cell ts cs agree q (low q))

  module _ (eq : T → T → Bool) (live removed : ℕ) (is : IsColumns eq ts cs live removed) where
    pub by_sixteens : length ts % 16 ≡ 0
    by_sixteens = subst (λ n. n % 16 ≡ 0) (length-slots_of ts cs is.agree.same_length) (sixteens (length (slots_of ts cs)) is.table.count)

    pub none_marked : live ≡ 0 → (p : ℕ) → get_or ts p 0 < 128
    none_marked none p = low_at ts cs is.agree p (none_live (slots_of ts cs) (sym is.table.live_is ∙ none) p)

  -- between two places no slot is Live
  pub none_after : (from to : ℕ) → AgreeFrom from ts cs → from ≤ to → ((p : ℕ) → from ≤ p → p < to → get_or ts p 0 < 128) → AgreeFrom to ts cs
  none_after from to agree le low = record {
    same_length = agree.same_length;
    filled = λ p beyond high. agree.filled p (omega arith) high;
    tagged = λ p e cell.
        let m = agree.tagged p e cell in let high = m.1 in
        elim (cases_lt p to) [
          | inl before ↦ absurd (let l = low p m.0 before in omega arith)
          | inr beyond ↦ (beyond, high)
        ];
  }

  -- the first Live one is taken out
  pub one_taken : (from place : ℕ) → AgreeFrom from ts cs → from ≤ place → place < length ts → ((p : ℕ) → from ≤ p → p < place → get_or ts p 0 < 128) → AgreeFrom (place + 1) ts (slice_set cs place None)
  one_taken from place agree le within low =
      let same = agree.same_length in
      record {
        same_length = same ∙ sym (length-set cs place None);
        filled = λ p beyond high.
            let c = agree.filled p (omega arith) high in
            (c.0, get_or-set_other cs place p None None (λ is. absurd (omega arith)) ∙ c.1);
        tagged = λ p e cell.
            elim (set_at cs place None None (omega arith) p) [
              | inl x ↦ absurd (let is = x.1 in cc)
              | inr x ↦
                  let m = agree.tagged p e (sym x.1 ∙ cell) in let high = m.1 in
                  elim (cases_lt p place) [
                    | inl before ↦ absurd (let l = low p m.0 before in omega arith)
                    | inr beyond ↦ (let other = x.0 in omega arith, high)
                  ]
            ];
      }

  pub none_left : (from : ℕ) → AgreeFrom from ts cs → length ts ≤ from → cs ≡ replicate (length ts) None
  none_left from agree le =
      all_same cs (length ts) None None (sym agree.same_length) (λ q lt.
      none_cases (get_or cs q None) (λ e h. let m = agree.tagged q e h in omega arith))
