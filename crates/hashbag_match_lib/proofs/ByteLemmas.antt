-- Articles by the bytes of their fields.
use Rattle.std.proofs.Common.{◌≡◌, ℕ, ◌+◌, ◌↔◌, ◌⊎◌, Bool, cond, List, [], ◌∷◌, map, IsTrue, inl, inr, refl, sym, ◌∙◌, subst}
use Rattle.std.specs.Bool.{Decides}
use Rattle.std.specs.Map.{keys_of}
use Rattle.std.proofs.lemmas.Bool.{cases_Bool}
use Rattle.std.proofs.lemmas.List.Sums.{sum_by-cons}
use Rattle.std.proofs.lemmas.Slice.Eq.{bytes_eq-Decides, slice_eq-Decides}
use Rattle.hashbag_csv.specs.Articles.{same_article}
use Rattle.hashbag_csv.specs.LineColumns.{line_bytes}
use Rattle.hashbag_csv.specs.Quantities.{quantity, times}
use Rattle.hashbag_csv.specs.Readers.{Record}
use Rattle.hashbag_match_lib.specs.Matched.{HaveSameQuantities, IsStatusOf}

module _ {T K : Type 0} {eq : T → T → Bool} {eq' : K → K → Bool} (f : T → K) (same : (x y : T) → eq x y ≡ eq' (f x) (f y)) (decides : (x y : K) → Decides (eq' x y) (x ≡ y)) where
  abbrev entry : T × ℕ → K × ℕ
  entry e = (f e.0, e.1)

  -- ---- what a list names

  pub quantity_of : (v : T) (L : List (T × ℕ)) → quantity eq v L ≡ quantity eq' (f v) (map entry L)
  quantity_of v [] = refl
  quantity_of v (e ∷ L) =
      sum_by-cons (λ (p : T × ℕ). cond (eq v p.0) p.1 0) e L
      ∙ (λ i. cond (same v e.0 i) e.1 0 + quantity_of v L i)
      ∙ sym (sum_by-cons (λ (p : K × ℕ). cond (eq' (f v) p.0) p.1 0) (entry e) (map entry L))

  -- a list names a key as the bytes of an article, or not at all
  named : (k : K) (L : List (T × ℕ)) → ((v : T) × (f v ≡ k)) ⊎ (quantity eq' k (map entry L) ≡ 0)
  named k [] = inr refl
  named k (e ∷ L) = elim (cases_Bool (eq' k (f e.0))) [
    | inl y ↦ inl (e.0, sym ((decides k (f e.0)).0 y))
    | inr n ↦ elim (named k L) [
      | inl v ↦ inl v
      | inr none ↦ inr (sum_by-cons (λ (p : K × ℕ). cond (eq' k p.0) p.1 0) (entry e) (map entry L) ∙ (λ i. cond (n i) e.1 0 + none i))
    ]
  ]

  pub times_of : (v : T) (L : List (T × ℕ)) → times eq v L ≡ times eq' (f v) (map entry L)
  times_of v [] = refl
  times_of v (e ∷ L) =
      sum_by-cons (λ (x : T). cond {A = ℕ} (eq v x) 1 0) e.0 (keys_of L)
      ∙ (λ i. cond {A = ℕ} (same v e.0 i) 1 0 + times_of v L i)
      ∙ sym (sum_by-cons (λ (x : K). cond {A = ℕ} (eq' (f v) x) 1 0) (f e.0) (keys_of (map entry L)))

  -- an entry has a key as the bytes of its article, or none has it
  pub named_times : (k : K) (L : List (T × ℕ)) → ((v : T) × (f v ≡ k)) ⊎ (times eq' k (map entry L) ≡ 0)
  named_times k [] = inr refl
  named_times k (e ∷ L) = elim (cases_Bool (eq' k (f e.0))) [
    | inl y ↦ inl (e.0, sym ((decides k (f e.0)).0 y))
    | inr n ↦ elim (named_times k L) [
      | inl v ↦ inl v
      | inr none ↦ inr (sum_by-cons (λ (x : K). cond {A = ℕ} (eq' k x) 1 0) (f e.0) (keys_of (map entry L)) ∙ (λ i. cond {A = ℕ} (n i) 1 0 + none i))
    ]
  ]

  -- lists agree on articles if they do on keys
  pub agree_of : (L M : List (T × ℕ)) → ((v : T) → quantity eq v L ≡ quantity eq v M) ↔ ((k : K) → quantity eq' k (map entry L) ≡ quantity eq' k (map entry M))
  agree_of L M = (
    (λ agree k. elim (named k L) [
      | inl x ↦ subst (λ j. quantity eq' j (map entry L) ≡ quantity eq' j (map entry M)) x.1 (sym (quantity_of x.0 L) ∙ agree x.0 ∙ quantity_of x.0 M)
      | inr none ↦ elim (named k M) [
        | inl x ↦ subst (λ j. quantity eq' j (map entry L) ≡ quantity eq' j (map entry M)) x.1 (sym (quantity_of x.0 L) ∙ agree x.0 ∙ quantity_of x.0 M)
        | inr neither ↦ none ∙ sym neither
      ]
    ]),
    (λ agree v. quantity_of v L ∙ agree (f v) ∙ sym (quantity_of v M)),
  )

-- ---- articles, as the bytes of their fields

pub articles_decide : (x y : Record) → Decides (same_article x y) (x ≡ y)
articles_decide x y = slice_eq-Decides bytes_eq-Decides x y (same_article x y) refl

-- lists agree on articles exactly if they do on the bytes of their fields
pub agree_by_bytes : {A : Type 0} (eq : A → A → Bool) (fields : A → Record) (same : (x y : A) → eq x y ≡ same_article (fields x) (fields y)) (L M : List (Record × ℕ)) (F G : List (A × ℕ)) (b : Bool)
    → map (line_bytes fields) F ≡ L → map (line_bytes fields) G ≡ M → (IsTrue b ↔ ((v : A) → quantity eq v F ≡ quantity eq v G)) → (IsTrue b ↔ HaveSameQuantities L M)
agree_by_bytes eq fields same L M F G b first second agree =
    let both = agree_of fields same articles_decide F G in
    subst (λ l. IsTrue b ↔ HaveSameQuantities l M) first
    (subst (λ m. IsTrue b ↔ HaveSameQuantities (map (line_bytes fields) F) m) second (λ yes. both.0 (agree.0 yes), λ all. agree.1 (both.1 all)))

-- the status of a test is that of what the test decides
pub status_by : {Agrees Agrees' : Type 0} {status : ℕ} → IsStatusOf Agrees status → (Agrees ↔ Agrees') → IsStatusOf Agrees' status
status_by s same = ((λ zero. same.0 (s.0.0 zero), λ agrees. s.0.1 (same.1 agrees)), s.1)
