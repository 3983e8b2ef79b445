-- A number's digits stand in a string as they are.
use Rattle.std.proofs.Common.{◌≡◌, ℕ, ◌+◌, ◌%◌, ◌^◌, ◌<◌, ◌≤◌, List, [], ◌∷◌, ◌++◌, Result, Ok, Err, OnOk, OnErr, sym, ap, ◌∙◌, arith, append_assoc, append-nil}
use Rattle.std.specs.Fmt.{decimal}
use Rattle.std.specs.List.{flat_map}
use Rattle.std.proofs.lemmas.Bool.Decides.{nat_tests}
use Rattle.std.proofs.lemmas.Fmt.{decimal_by_steps}
use Rattle.std.proofs.lemmas.List.Concat.{flat_map-append}
use Rattle.json_out.specs.Strings.{escape, string_text}

digit : (n : ℕ) → n < 10 → escape (48 + n) ≡ (48 + n) ∷ []
digit n h = grind (arith, nat_tests)

one_digit : (n : ℕ) → n < 10 → flat_map escape ((48 + n) ∷ []) ≡ (48 + n) ∷ []
one_digit n h = ap (λ l. l ++ []) (digit n h)

digit_more : (n : ℕ) (ds : List ℕ) → 10 ≤ n → flat_map escape ds ≡ ds → flat_map escape (ds ++ (48 + n % 10) ∷ []) ≡ ds ++ (48 + n % 10) ∷ []
digit_more n ds h before =
    flat_map-append escape ds ((48 + n % 10) ∷ []) ∙ ap (λ l. l ++ flat_map escape ((48 + n % 10) ∷ [])) before ∙ ap (λ l. ds ++ l) (one_digit (n % 10) (omega arith))

pub plain_digits : (n : ℕ) → n < 2 ^ 64 → flat_map escape (decimal n) ≡ decimal n
plain_digits n h = decimal_by_steps (λ k ds. flat_map escape ds ≡ ds) one_digit digit_more n h

pub string_of_digits : (o : List ℕ) (n : ℕ) → n < 2 ^ 64 → ((o ++ 34 ∷ []) ++ decimal n) ++ 34 ∷ [] ≡ o ++ string_text (decimal n)
string_of_digits o n h =
    append_assoc (o ++ 34 ∷ []) (decimal n) (34 ∷ [])
    ∙ append_assoc o (34 ∷ []) (decimal n ++ 34 ∷ [])
    ∙ ap (λ l. o ++ 34 ∷ (l ++ 34 ∷ [])) (sym (plain_digits n h))

plain_numbered : (s t : List ℕ) (n : ℕ) → n < 2 ^ 64 → flat_map escape s ++ (flat_map escape t ++ decimal n) ≡ flat_map escape ((s ++ t) ++ decimal n)
plain_numbered s t n h =
    ap (λ l. flat_map escape s ++ (flat_map escape t ++ l)) (sym (plain_digits n h))
    ∙ sym (append_assoc (flat_map escape s) (flat_map escape t) (flat_map escape (decimal n)))
    ∙ sym (flat_map-append escape (s ++ t) (decimal n) ∙ ap (λ l. l ++ flat_map escape (decimal n)) (flat_map-append escape s t))

pub regrouped : (o p a b e d : List ℕ) → ((((o ++ p) ++ a) ++ b) ++ e) ++ d ≡ o ++ (p ++ (a ++ (b ++ (e ++ d))))
regrouped o p a b e d =
    append_assoc (((o ++ p) ++ a) ++ b) e d ∙ append_assoc ((o ++ p) ++ a) b (e ++ d) ∙ append_assoc (o ++ p) a (b ++ (e ++ d)) ∙ append_assoc o p (a ++ (b ++ (e ++ d)))

pub string_of_numbered : (o s t : List ℕ) (n : ℕ) → n < 2 ^ 64
    → ((((o ++ 34 ∷ []) ++ flat_map escape s) ++ flat_map escape t) ++ decimal n) ++ 34 ∷ [] ≡ o ++ string_text ((s ++ t) ++ decimal n)
string_of_numbered o s t n h =
    let a = flat_map escape s in
    let b = flat_map escape t in
    regrouped o (34 ∷ []) a b (decimal n) (34 ∷ [])
    ∙ ap (λ l. o ++ 34 ∷ (a ++ l)) (sym (append_assoc b (decimal n) (34 ∷ [])))
    ∙ ap (λ l. o ++ 34 ∷ l) (sym (append_assoc a (b ++ decimal n) (34 ∷ [])))
    ∙ ap (λ l. o ++ 34 ∷ (l ++ 34 ∷ [])) (plain_numbered s t n h)

-- what was appended, or nothing
pub appended : {A E : Type 0} (r : Result A E) (new old piece : List ℕ) → OnOk r (new ≡ old ++ piece) → OnErr r (new ≡ old) → (more : List ℕ) × (new ≡ old ++ more)
appended (Ok a) new old piece ok err = (piece, ok)
appended (Err e) new old piece ok err = ([], err ∙ sym (append-nil old))
