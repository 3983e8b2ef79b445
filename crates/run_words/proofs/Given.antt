-- What a parse gives, as the definitions say it.
use Rattle.std.proofs.Common.{◌≡◌, ◌∙◌, List, [], ◌∷◌, None, Some, Bool, true, false, ap, refl, sym, inl, inr}
use Rattle.std.specs.Prelude.{◌&&◌}
use Rattle.clap.specs.Kinds.{HasKind, Kinds}
use Rattle.clap.specs.Faults.{is_free_app}
use Rattle.clap.specs.Words.{App, Row, Text, built, fault_of, is_simple, is_simple_and_free, kind_of, matches_of}
use Rattle.clap.specs.declared.error.Error.{Error}
use Rattle.clap.specs.declared.error.kind.ErrorKind.TheVariants.{OutOfMemory}
use Rattle.run_words.specs.Commands.{given_by, unless}

first_true : (a b : Bool) → (a && b) ≡ true → a ≡ true
first_true true b e = refl
first_true false b e = e

pub is_simple_app : (app : App) → is_simple_and_free app ≡ true → is_simple app ≡ true
is_simple_app app e = first_true (is_simple app) (is_free_app (built app)) e

pub gives : (app : App) (words : List Text) (rows : List Row) → fault_of app words ≡ [] → rows ≡ matches_of app words → given_by app words ≡ Some rows
gives app words rows none are = ap (λ kinds. unless kinds (matches_of app words)) none ∙ ap Some (sym are)

refuses : (kinds : Kinds) (e : Error) (rows : List Row) → HasKind kinds e → (kind_of e ≡ OutOfMemory → ⊥) → unless kinds rows ≡ None
refuses [] e rows (inl h) enough = absurd (enough h)
refuses [] e rows (inr h) enough = absurd h
refuses (k ∷ ks) e rows h enough = refl

pub gives_none : (app : App) (words : List Text) (e : Error) → HasKind (fault_of app words) e → (kind_of e ≡ OutOfMemory → ⊥) → given_by app words ≡ None
gives_none app words e h enough = refuses (fault_of app words) e (matches_of app words) h enough
