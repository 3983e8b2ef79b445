-- Texts that are appended one behind the other.
use Rattle.std.proofs.Common.{◌≡◌, ℕ, List, ◌++◌, ap, ◌∙◌, append_assoc}

pub four_appended : (o a b c d x y z w : List ℕ) → x ≡ o ++ a → y ≡ x ++ b → z ≡ y ++ c → w ≡ z ++ d → w ≡ o ++ (((a ++ b) ++ c) ++ d)
four_appended o a b c d x y z w first second third last =
    last ∙ ap (λ (l : List ℕ). l ++ d) (third ∙ ap (λ (l : List ℕ). l ++ c) (second ∙ ap (λ (l : List ℕ). l ++ b) first))
    ∙ ap (λ (l : List ℕ). (l ++ c) ++ d) (append_assoc o a b) ∙ ap (λ (l : List ℕ). l ++ d) (append_assoc o (a ++ b) c) ∙ append_assoc o ((a ++ b) ++ c) d
