-- What is written of a string.
use Rattle.std.proofs.Common.{◌≡◌, ℕ, ◌+◌, ◌<◌, ◌≤◌, List, [], ◌∷◌, ◌++◌, length, take, drop, get_or, sym, ap, ◌∙◌, arith, append_assoc}
use Rattle.std.specs.List.{flat_map}
use Rattle.std.proofs.lemmas.Bool.Decides.{nat_tests}
use Rattle.std.proofs.lemmas.List.{take_more, take-append-drop}
use Rattle.std.proofs.lemmas.List.Concat.{flat_map-append}
use Rattle.json_out.specs.Strings.{escape}

as_it_is : (c : ℕ) → 32 ≤ c → (c ≡ 34 → ⊥) → (c ≡ 92 → ⊥) → escape c ≡ c ∷ []
as_it_is c h q b = grind (arith, nat_tests)

-- one byte more that stands as it is
pub plain_more : (s : List ℕ) (i c : ℕ) → i < length s → c ≡ get_or s i 0 → 32 ≤ c → (c ≡ 34 → ⊥) → (c ≡ 92 → ⊥) → flat_map escape (take i s) ≡ take i s → flat_map escape (take (i + 1) s) ≡ take (i + 1) s
plain_more s i c lt e h q b before =
    let more : take (i + 1) s ≡ take i s ++ c ∷ [] = take_more s i 0 lt ∙ ap (λ d. take i s ++ d ∷ []) (sym e) in
    ap (flat_map escape) more
    ∙ flat_map-append escape (take i s) (c ∷ [])
    ∙ ap (λ l. l ++ (escape c ++ [])) before
    ∙ ap (λ l. take i s ++ (l ++ [])) (as_it_is c h q b)
    ∙ sym more

regrouped : (o p e r : List ℕ) → ((o ++ p) ++ e) ++ r ≡ o ++ (p ++ (e ++ r))
regrouped o p e r = append_assoc (o ++ p) e r ∙ append_assoc o p (e ++ r)

-- A run that stands as it is, and the byte behind it.
pub run_moved : (o rest behind after_run after_byte : List ℕ) (n byte : ℕ) → after_run ≡ o ++ take n rest → after_byte ≡ after_run ++ escape byte → drop n rest ≡ byte ∷ behind → flat_map escape (take n rest) ≡ take n rest
    → after_byte ++ flat_map escape behind ≡ o ++ flat_map escape rest
run_moved o rest behind after_run after_byte n byte run one split plain =
    ap (λ l. l ++ flat_map escape behind) (one ∙ ap (λ l. l ++ escape byte) run)
    ∙ regrouped o (take n rest) (escape byte) (flat_map escape behind)
    ∙ ap (λ l. o ++ (l ++ flat_map escape (byte ∷ behind))) (sym plain)
    ∙ ap (λ l. o ++ l) (sym (flat_map-append escape (take n rest) (byte ∷ behind)))
    ∙ ap (λ l. o ++ flat_map escape (take n rest ++ l)) (sym split)
    ∙ ap (λ l. o ++ flat_map escape l) (take-append-drop n rest)
