-- Blocks that were fed one after the other.
use Rattle.std.proofs.Common.{◌≡◌, ℕ, List, [], ◌∷◌, ◌++◌, sym, subst, append_assoc}
use Rattle.std.proofs.lemmas.List.{append-nil}
use Rattle.hashbag_words_lib.specs.Feeding.{AddsFed, CountsTexts, EndsText, How}

module _ {C : Type 0} (has : How → C → List (List ℕ) → List ℕ → Type 0) where
  -- nothing was fed
  pub fed_none : (c : C) → AddsFed has c c []
  fed_none c how texts text h = subst (has how c texts) (sym (append-nil text)) h

  -- bytes were fed behind others
  pub fed_more : (old then new : C) (xs ys : List ℕ) → AddsFed has old then xs → AddsFed has then new ys → AddsFed has old new (xs ++ ys)
  fed_more old then new xs ys f s how texts text h = subst (has how new texts) (append_assoc text xs ys) (s how texts (text ++ xs) (f how texts text h))

  -- no text was counted
  pub counted_none : (c : C) → CountsTexts has c c []
  counted_none c how texts h = subst (λ (t : List (List ℕ)). has how c t []) (sym (append-nil texts)) h

  -- a text was fed and ended
  pub counted_one : (old then new : C) (text : List ℕ) → AddsFed has old then text → EndsText has then new → CountsTexts has old new (text ∷ [])
  counted_one old then new text f s how texts h = s how texts text (f how texts [] h)

  -- texts were counted behind others
  pub counted_more : (old then new : C) (xs ys : List (List ℕ)) → CountsTexts has old then xs → CountsTexts has then new ys → CountsTexts has old new (xs ++ ys)
  counted_more old then new xs ys f s how texts h = subst (λ (t : List (List ℕ)). has how new t []) (append_assoc texts xs ys) (s how (texts ++ xs) (f how texts h))
