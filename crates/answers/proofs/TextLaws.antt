-- Text that is written piece by piece
use Rattle.std.proofs.Common.{◌≡◌, ℕ, List, ◌++◌, ◌∙◌, ap, append_assoc}

-- six pieces one behind the other
pub six_pieces : (start p q r s t done a b c d e f : List ℕ) → p ≡ start ++ a → q ≡ p ++ b → r ≡ q ++ c → s ≡ r ++ d → t ≡ s ++ e → done ≡ t ++ f
    → done ≡ start ++ (a ++ (b ++ (c ++ (d ++ (e ++ f)))))
six_pieces start p q r s t done a b c d e f g h i j k l =
    l ∙ ap (λ x. x ++ f) (k ∙ ap (λ x. x ++ e) (j ∙ ap (λ x. x ++ d) (i ∙ ap (λ x. x ++ c) (h ∙ ap (λ x. x ++ b) g))))
    ∙ simp append_assoc
