-- The words of a command line, by how many there are.
use Rattle.std.proofs.Common.{◌≡◌, ℕ, List, [], ◌∷◌, map, length, get_or, refl, arith}

module _ {A : Type 0} (f : A → List ℕ) where
  pub no_words : (ws : List A) → length ws ≡ 0 → map f ws ≡ []
  no_words [] h = refl
  no_words (w ∷ ws) h = absurd (omega arith)

  pub one_word : (ws : List A) (v : A) → length ws ≡ 1 → v ≡ get_or ws 0 v → map f ws ≡ f v ∷ []
  one_word [] v h p = absurd (omega arith)
  one_word (x ∷ []) v h p = cc
  one_word (x ∷ y ∷ ws) v h p = absurd (omega arith)

  pub two_words : (ws : List A) (v w : A) → length ws ≡ 2 → v ≡ get_or ws 0 v → w ≡ get_or ws 1 w → map f ws ≡ f v ∷ f w ∷ []
  two_words [] v w h p q = absurd (omega arith)
  two_words (x ∷ []) v w h p q = absurd (omega arith)
  two_words (x ∷ y ∷ []) v w h p q = cc
  two_words (x ∷ y ∷ z ∷ ws) v w h p q = absurd (omega arith)
