-- What is appended in steps.
use Rattle.std.proofs.Common.{◌≡◌, ℕ, List, [], ◌++◌, ◌∙◌, sym, ap, append_assoc}
use Rattle.std.proofs.lemmas.List.{append-nil}

-- what was appended, and then more
pub further : (old text middle more new : List ℕ) → middle ≡ old ++ text → new ≡ middle ++ more → new ≡ old ++ (text ++ more)
further old text middle more new p q = q ∙ ap (λ l. l ++ more) p ∙ append_assoc old text more

-- the same, and nothing more
pub stayed : (old text middle new : List ℕ) → middle ≡ old ++ text → new ≡ middle → (more : List ℕ) × (new ≡ old ++ more)
stayed old text middle new p e = (text, e ∙ p)

pub nothing : (old new : List ℕ) → new ≡ old → (more : List ℕ) × (new ≡ old ++ more)
nothing old new e = ([], e ∙ sym (append-nil old))
