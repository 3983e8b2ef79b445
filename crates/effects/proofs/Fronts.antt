-- What is appended part by part.
use Rattle.std.proofs.Common.{◌≡◌, ℕ, List, [], ◌++◌, ap, sym, ◌∙◌, append_assoc, append-nil}

-- so much was appended since the text was that
pub record HasMore (before more text : List ℕ) : Type 0 where
  pub is : text ≡ before ++ more

pub begun : (o p : List ℕ) {t : List ℕ} → t ≡ o ++ p → HasMore o p t
begun o p e = record { is = e }

pub more_after : (q : List ℕ) {o p t u : List ℕ} → HasMore o p t → u ≡ t ++ q → HasMore o (p ++ q) u
more_after q {o} {p} e f = record { is = f ∙ ap (λ l. l ++ q) e.is ∙ append_assoc o p q }

-- where the next part was appended, or a front of it, or nothing
pub front_of : {o p t : List ℕ} → HasMore o p t → (more : List ℕ) × (t ≡ o ++ more)
front_of {o} {p} e = (p, e.is)

pub front_after : {o p t u : List ℕ} → HasMore o p t → (more : List ℕ) × (u ≡ t ++ more) → (more : List ℕ) × (u ≡ o ++ more)
front_after {o} {p} e f = (p ++ f.0, f.1 ∙ ap (λ l. l ++ f.0) e.is ∙ append_assoc o p f.0)

pub still_after : {o p t u : List ℕ} → HasMore o p t → u ≡ t → (more : List ℕ) × (u ≡ o ++ more)
still_after {o} {p} e f = (p, f ∙ e.is)

pub nothing_after : (o : List ℕ) {t : List ℕ} → t ≡ o → (more : List ℕ) × (t ≡ o ++ more)
nothing_after o e = ([], e ∙ sym (append-nil o))
