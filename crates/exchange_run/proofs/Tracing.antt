-- Words that ask for nothing that reads the source.
use Rattle.std.proofs.Common.{◌≡◌, ◌||◌, List, ℕ, Bool, true, false, refl, sym}
use Rattle.std.proofs.lemmas.Bool.{false≢true}
use Rattle.exchange_run.specs.Run.{asks_audit, asks_which, names_try, words_of}

-- neither is asked where none of them is
first_of_both : (a b : Bool) → (a || b) ≡ false → a ≡ false
first_of_both true b e = e
first_of_both false b e = refl

second_of_both : (a b : Bool) → (a || b) ≡ false → b ≡ false
second_of_both true b e = absurd (false≢true (sym e))
second_of_both false b e = e

pub no_which : (words : List (List ℕ)) → (names_try words || (asks_which (words_of words) || asks_audit (words_of words))) ≡ false → asks_which (words_of words) ≡ false
no_which words none = first_of_both (asks_which (words_of words)) (asks_audit (words_of words)) (second_of_both (names_try words) _ none)

pub no_audit : (words : List (List ℕ)) → (names_try words || (asks_which (words_of words) || asks_audit (words_of words))) ≡ false → asks_audit (words_of words) ≡ false
no_audit words none = second_of_both (asks_which (words_of words)) _ (second_of_both (names_try words) _ none)
