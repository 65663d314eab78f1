-- What becomes of each movement, and what is read off it.
use Rattle.std.proofs.Common.{◌≡◌, ℕ, ◌+◌, ◌<◌, ◌≤◌, Bool, true, false, cond, List, [], ◌∷◌, ◌++◌, length, Ordering, String, string_bytes, bytes_eq, Global, refl, sym, ◌∙◌, ap, subst, arith}
use Rattle.std.specs.Cmp.{IsEquivalence}
use Rattle.std.specs.String.{string_eq, string_eq_equiv}
use Rattle.std.proofs.lemmas.Bool.{lt-ltb}
use Rattle.std.proofs.lemmas.List.{append_assoc, append-nil}
use Rattle.hashbag_core.specs.Bag.{Bag}
use Rattle.hashbag_core.specs.EqualityLaws.{count_congr}
use Rattle.hashbag_csv.specs.Quantities.{IsBalance}
use Rattle.hashbag_ledger_lib.specs.declared.movements.Entry.{Entry}
use Rattle.hashbag_ledger_lib.specs.declared.movements.Movement.{Movement}
use Rattle.hashbag_ledger_lib.specs.declared.movements.Outcome.{Outcome}
use Rattle.hashbag_ledger_lib.specs.declared.movements.Outcome.TheVariants.{Entered, Refused}
use Rattle.hashbag_ledger_lib.specs.declared.movements.Place.{Place}
use Rattle.hashbag_ledger_lib.specs.declared.movements.Refusal.{Refusal}
use Rattle.hashbag_ledger_lib.specs.Entries.{refusal_before, refusals_in, outcome_after, entries_after, entries_of, IsStockAfter, TakesNext, IsBooked}
use Rattle.hashbag_ledger_lib.specs.Ledger.{coming, going, stock_of, there, asks_too_much, entered_after, refused_after, refusal, entered_of, refused_of, ChangesStock, RefusesMovement, Leaves}
use Rattle.hashbag_ledger_lib.specs.Settled.{listed, IsAfter, IsPastWithin}
use Rattle.hashbag_ledger_lib.proofs.AfterLemmas.{after_entered, after_refused, past_later}
use Rattle.hashbag_ledger_lib.proofs.LedgerLemmas.{not_below, entered_more}

module _ {T : Type 0} (eq : T → T → Bool) where
  -- one more comes after these
  entries_more : (start : T → ℕ) (E gone : List (Movement T)) (m : Movement T) → entries_after eq start E (gone ++ m ∷ []) ≡ entries_after eq start E gone ++ entries_after eq start (entered_after eq start E gone) (m ∷ [])
  entries_more start E [] m = refl
  entries_more start E (x ∷ gone) m =
      ap (λ (l : List (Entry T)). (record { movement = x; outcome = outcome_after eq start E x }) ∷ l) (entries_more start (cond (asks_too_much eq start E x) E (E ++ x ∷ [])) gone m)

  -- the refusals are those of the entries
  refusals_after : (start : T → ℕ) (E ms : List (Movement T)) → refusals_in (entries_after eq start E ms) ≡ refused_after eq start E ms
  refusals_after start E [] = refl
  refusals_after start E (m ∷ ms) = by_case (asks_too_much eq start E m) (refusals_after start E ms) (refusals_after start (E ++ m ∷ []) ms)
    where
      by_case : (b : Bool) → refusals_in (entries_after eq start E ms) ≡ refused_after eq start E ms → refusals_in (entries_after eq start (E ++ m ∷ []) ms) ≡ refused_after eq start (E ++ m ∷ []) ms
          → refusal_before m (cond b (Refused (there eq start E m.article)) (Entered (there eq start (E ++ m ∷ []) m.article))) (refusals_in (entries_after eq start (cond b E (E ++ m ∷ [])) ms))
          ≡ cond b (refusal eq start E m ∷ refused_after eq start E ms) (refused_after eq start (E ++ m ∷ []) ms)
      by_case true refuses enters = ap (λ (l : List (Refusal T)). refusal eq start E m ∷ l) refuses
      by_case false refuses enters = enters

  pub refusals_are : (start : T → ℕ) (ms : List (Movement T)) → refusals_in (entries_of eq start ms) ≡ refused_of eq start ms
  refusals_are start ms = refusals_after start [] ms

  -- whatever the refusals were called, they are those of the movements
  own_refusals : {L : List (T × ℕ)} {ms : List (Movement T)} {refused : List (Refusal T)} {items : List T} {most : ℕ} → IsAfter eq L ms refused items most → IsAfter eq L ms (refused_of eq (listed eq L) ms) items most
  own_refusals h = record { leaves = h.leaves; refusals = refl; total = h.total; fit = h.fit }

  -- a movement whose article is another instance
  module _ (laws : IsEquivalence eq) (m : Movement T) (a : T) (same : eq m.article a ≡ true) where
    abbrev pub copy : Movement T
    copy = record { place = m.place; article = a; change = m.change }

    alike : (v : T) → eq v a ≡ eq v m.article
    alike v = laws.symm v a ∙ sym (laws.congr m.article a v same) ∙ laws.symm m.article v

    counts_alike : (X : List T) → stock_of eq X m.article ≡ stock_of eq X a
    counts_alike X = count_congr laws X m.article a same

    changes_too : (X Y : List T) → ChangesStock eq copy (stock_of eq X) (stock_of eq Y) → ChangesStock eq m (stock_of eq X) (stock_of eq Y)
    changes_too X Y h = record {
      enough = subst (λ (n : ℕ). going m.change ≤ n) (sym (counts_alike X)) h.enough;
      counts = λ v. subst (λ (b : Bool). stock_of eq Y v + cond b (going m.change) 0 ≡ stock_of eq X v + cond b (coming m.change) 0) (alike v) (h.counts v);
    }

  module _ {S : Type 0} (L : List (T × ℕ)) (ms : List (Movement T)) (m : Movement T) (before after : Bag T S) (h : IsStockAfter eq L ms before) where
    -- it is entered
    became_entered : ChangesStock eq m (stock_of eq before.items) (stock_of eq after.items) → IsStockAfter eq L (ms ++ m ∷ []) after → (n : ℕ) → n ≡ stock_of eq after.items m.article → TakesNext eq L ms m after (Entered n)
    became_entered changes left n is =
        let start = listed eq L in
        let E = entered_of eq start ms in
        let enough = changes.enough in
        let was = h.leaves.counts m.article in
        let fits : asks_too_much eq start E m ≡ false = not_below (there eq start E m.article) (going m.change) (omega arith) in
        let more : entered_of eq start (ms ++ m ∷ []) ≡ E ++ m ∷ [] = entered_more eq start [] ms m ∙ ap (λ (b : Bool). cond b E (E ++ m ∷ [])) fits in
        let number : n ≡ there eq start (E ++ m ∷ []) m.article = is ∙ left.leaves.counts m.article ∙ ap (λ (l : List (Movement T)). there eq start l m.article) more in
        record {
          left = left;
          became = ap (λ (k : ℕ). Entered k) number ∙ ap (λ (b : Bool). cond b (Refused (there eq start E m.article)) (Entered (there eq start (E ++ m ∷ []) m.article))) (sym fits);
        }

    -- it is refused
    became_refused : stock_of eq before.items m.article < going m.change → IsStockAfter eq L (ms ++ m ∷ []) after → (n : ℕ) → n ≡ stock_of eq before.items m.article → TakesNext eq L ms m after (Refused n)
    became_refused much left n is =
        let start = listed eq L in
        let E = entered_of eq start ms in
        let was = h.leaves.counts m.article in
        let too_much : asks_too_much eq start E m ≡ true = lt-ltb (there eq start E m.article) (going m.change) (omega arith) in
        record {
          left = left;
          became = ap (λ (k : ℕ). Refused k) (is ∙ was) ∙ ap (λ (b : Bool). cond b (Refused (there eq start E m.article)) (Entered (there eq start (E ++ m ∷ []) m.article))) (sym too_much);
        }

    pub takes_entered : (laws : IsEquivalence eq) (a : T) (same : eq m.article a ≡ true) → ChangesStock eq (copy laws m a same) (stock_of eq before.items) (stock_of eq after.items)
        → length after.items + going m.change ≡ length before.items + coming m.change → after.most ≡ before.most → length before.items + coming m.change ≤ before.most
        → (n : ℕ) → n ≡ stock_of eq after.items m.article → TakesNext eq L ms m after (Entered n)
    takes_entered laws a same changes long most within n is =
        let own = changes_too laws m a same before.items after.items changes in
        became_entered own
        (own_refusals (subst (λ (k : ℕ). IsAfter eq L (ms ++ m ∷ []) (refused_of eq (listed eq L) ms) after.items k) (sym most) (after_entered eq m h within own long))) n is

    pub takes_refused : (laws : IsEquivalence eq) (a : T) (same : eq m.article a ≡ true) (r : Refusal T) → RefusesMovement eq (copy laws m a same) (stock_of eq before.items) r → after ≡ before
        → length before.items + coming m.change ≤ before.most → TakesNext eq L ms m after (Refused r.there)
    takes_refused laws a same r refuses unchanged within =
        let alike = counts_alike laws m a same before.items in
        let much : stock_of eq before.items m.article < going m.change = subst (λ (n : ℕ). n < going m.change) (sym alike) refuses.too_much in
        let own : RefusesMovement eq m (stock_of eq before.items) (record { place = m.place; article = m.article; asked = going m.change; there = stock_of eq before.items m.article }) = record { too_much = much; is = refl } in
        became_refused much
        (subst (λ (b : Bag T S). IsStockAfter eq L (ms ++ m ∷ []) b) (sym unchanged) (own_refusals (after_refused eq m h within _ own)))
        r.there (ap (λ (x : Refusal T). x.there) refuses.is ∙ sym alike)

  -- of all movements these have come, and those are to come; what became of the first
  pub record BookedSoFar {S : Type 0} (L : List (T × ℕ)) (all left : List (Movement T)) (entries : List (Entry T)) (stock : Bag T S) : Type 0 where
    pub done : List (Movement T)
    pub in_turn : done ++ left ≡ all
    pub each : entries ≡ entries_of eq (listed eq L) done
    pub after : IsStockAfter eq L done stock

  pub booked_none : {S : Type 0} (L : List (T × ℕ)) (all : List (Movement T)) (stock : Bag T S) → IsStockAfter eq L [] stock → BookedSoFar L all all [] stock
  booked_none L all stock h = record { done = []; in_turn = refl; each = refl; after = h }

  pub booked_one : {S : Type 0} (L : List (T × ℕ)) {all left rest : List (Movement T)} (es : List (Entry T)) (stock stock' : Bag T S) (m : Movement T) (o : Outcome) → left ≡ m ∷ rest → (h : BookedSoFar L all left es stock)
      → ((ms : List (Movement T)) → IsStockAfter eq L ms stock → TakesNext eq L ms m stock' o) → BookedSoFar L all rest (es ++ (record { movement = m; outcome = o }) ∷ []) stock'
  booked_one L {all} {left} {rest} es stock stock' m o next h takes =
      let start = listed eq L in
      let taken = takes h.done h.after in
      record {
        done = h.done ++ m ∷ [];
        in_turn = append_assoc h.done (m ∷ []) rest ∙ (λ i. h.done ++ sym next i) ∙ h.in_turn;
        each = (λ i. h.each i ++ (record { movement = m; outcome = taken.became i }) ∷ []) ∙ sym (entries_more start [] h.done m);
        after = taken.left;
      }

  -- one of them would pass the most
  pub booked_past : {S : Type 0} (L : List (T × ℕ)) {all left rest : List (Movement T)} (es : List (Entry T)) (stock : Bag T S) (most : ℕ) (m : Movement T) (p : Place) → left ≡ m ∷ rest → stock.most ≡ most → (h : BookedSoFar L all left es stock)
      → ((ms : List (Movement T)) → IsStockAfter eq L ms stock → IsPastWithin eq stock.most L (ms ++ m ∷ []) p) → IsPastWithin eq most L all p
  booked_past L {all} {left} {rest} es stock most m p next same h past =
      let after : h.done ++ m ∷ rest ≡ all = (λ i. h.done ++ sym next i) ∙ h.in_turn in
      subst (λ (n : ℕ). IsPastWithin eq n L all p) same
      (subst (λ (l : List (Movement T)). IsPastWithin eq stock.most L l p) after (past_later eq L h.done rest m p (past h.done h.after)))

  -- all have come
  pub booked_all : {S : Type 0} (cmp : T → T → Ordering) (L : List (T × ℕ)) {all left movements : List (Movement T)} (es : List (Entry T)) (stock : Bag T S) (most : ℕ) (balance : List (T × ℕ)) → left ≡ [] → stock.most ≡ most → all ≡ movements
      → BookedSoFar L all left es stock → IsBalance eq cmp (stock_of eq stock.items) balance → ((v : T) → listed eq balance v ≡ stock_of eq stock.items v) → IsBooked eq cmp most L movements balance es
  booked_all cmp L {all} {left} {movements} es stock most balance none same is h rows quantities =
      let done : h.done ≡ movements = sym (append-nil h.done) ∙ (λ i. h.done ++ sym none i) ∙ h.in_turn ∙ is in
      let after : IsStockAfter eq L movements stock = subst (λ (l : List (Movement T)). IsStockAfter eq L l stock) done h.after in
      record {
        each = h.each ∙ ap (entries_of eq (listed eq L)) done;
        rows = subst (λ (there : T → ℕ). IsBalance eq cmp there balance) (λ i v. after.leaves.counts v i) rows;
        leaves = subst (λ (there : T → ℕ). Leaves eq (listed eq L) movements there) (λ i v. sym (quantities v) i) after.leaves;
        fit = λ p. subst (λ (n : ℕ). ¬ (IsPastWithin eq n L movements p)) same (after.fit p);
      }

-- the refusals of a list in two parts
pub refusals_first : {T : Type 0} (e : Entry T) (es : List (Entry T)) → refusals_in (e ∷ es) ≡ refusals_in (e ∷ []) ++ refusals_in es
refusals_first e es = elim e.outcome as (λ o. refusal_before e.movement o (refusals_in es) ≡ refusal_before e.movement o [] ++ refusals_in es) [ Entered n ↦ refl | Refused n ↦ refl ]

pub refusals_more : {T : Type 0} (es : List (Entry T)) (e : Entry T) → refusals_in (es ++ e ∷ []) ≡ refusals_in es ++ refusals_in (e ∷ [])
refusals_more [] e = refl
refusals_more {T} (x ∷ es) e =
    ap (λ (l : List (Refusal T)). refusal_before x.movement x.outcome l) (refusals_more es e)
    ∙ (elim x.outcome as (λ o. refusal_before x.movement o (refusals_in es ++ refusals_in (e ∷ [])) ≡ refusal_before x.movement o (refusals_in es) ++ refusals_in (e ∷ [])) [ Entered n ↦ refl | Refused n ↦ refl ])

-- a copy of a text equals it
pub text_same : (x y : String Global) → string_bytes y ≡ string_bytes x → string_eq x y ≡ true
text_same x y is = subst (λ (bs : List ℕ). bytes_eq (string_bytes x) bs ≡ true) (sym is) (string_eq_equiv.refl x)
