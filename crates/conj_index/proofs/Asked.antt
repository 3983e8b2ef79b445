-- Asking one campaign more, for the loop.
use Rattle.std.proofs.Common.{◌≡◌, ℕ, ◌+◌, ◌≤◌, ◌<◌, List, [], ◌∷◌, ◌++◌, Bool, true, false, cond, map, length, take, drop, get_or, refl, sym, ◌∙◌, ap, arith}
use Rattle.std.proofs.lemmas.List.{take-append-drop, map-append, length-append}
use Rattle.std.proofs.lemmas.List.Concat.{flat_map-append}
use Rattle.std.proofs.lemmas.List.Elements.{filter_more}
use Rattle.conj_index.proofs.BuildLoops.{expression_more}
use Rattle.target_expr.specs.declared.attr.Attr.{Attr}
use Rattle.target_expr.specs.declared.pred.Pred.{Pred}
use Rattle.target_expr.specs.Truth.{holds, tests_in}
use Rattle.conj_index.specs.Campaigns.{Campaigns, conjunctions_in, expression_of}
use Rattle.conj_index.specs.Find.{true_under}

map_cond : {X Y : Type 0} (f : X → Y) (x : X) (b : Bool) → map f (cond b (x ∷ []) []) ≡ cond b (f x ∷ []) []
map_cond f x true = refl
map_cond f x false = refl

pub asked_more : (a : List (Attr × List ℕ)) (xs : Campaigns) (i : ℕ) (d : ℕ × List (List Pred)) → i < length xs
    → true_under a (take (i + 1) xs) ≡ true_under a (take i xs) ++ cond (holds a (get_or xs i d).1) ((get_or xs i d).0 ∷ []) []
asked_more a xs i d h =
    let number = λ (p : ℕ × List (List Pred)). p.0 in
    let is_so = λ (p : ℕ × List (List Pred)). holds a p.1 in
    ap (map number) (filter_more is_so xs i d h) ∙ map-append number _ _
    ∙ ap (λ l. true_under a (take i xs) ++ l) (map_cond number (get_or xs i d) (is_so (get_or xs i d)))

pub asked_step : (a : List (Attr × List ℕ)) (xs : Campaigns) (i : ℕ) (d : ℕ × List (List Pred)) (old new : List ℕ) (b : Bool) → i < length xs → d ≡ get_or xs i d
    → old ≡ true_under a (take i xs) → new ≡ old ++ cond b (d.0 ∷ []) [] → b ≡ holds a d.1 → new ≡ true_under a (take (i + 1) xs)
asked_step a xs i d old new b h at was pushed is =
    let given = λ (p : ℕ × List (List Pred)). true_under a (take i xs) ++ cond (holds a p.1) (p.0 ∷ []) [] in
    pushed ∙ ap (λ l. l ++ cond b (d.0 ∷ []) []) was ∙ ap (λ (v : Bool). true_under a (take i xs) ++ cond v (d.0 ∷ []) []) is
    ∙ ap given at ∙ sym (asked_more a xs i d h)

-- the conjunctions that one campaign more has looked at
pub cost_step : (a : List (Attr × List ℕ)) (xs : Campaigns) (i : ℕ) (d : ℕ × List (List Pred)) (start old new : ℕ) → i < length xs
    → old ≤ start + conjunctions_in (take i xs) → new ≡ old + tests_in a (get_or xs i d).1 → new ≤ start + conjunctions_in (take (i + 1) xs)
cost_step a xs i d start old new h was looked =
    let more = ap length (expression_more xs i d h) ∙ length-append (expression_of (take i xs)) (get_or xs i d).1 in
    omega (arith, more, looked, was)

-- the first campaigns have at most the conjunctions of all
pub cost_within : (xs : Campaigns) (i start steps : ℕ) → steps ≤ start + conjunctions_in (take i xs) → steps ≤ start + conjunctions_in xs
cost_within xs i start steps h =
    let conjunctions = λ (p : ℕ × List (List Pred)). p.1 in
    let cut = ap length (sym (ap expression_of (take-append-drop i xs)) ∙ flat_map-append conjunctions (take i xs) (drop i xs))
    ∙ length-append (expression_of (take i xs)) (expression_of (drop i xs)) in
    omega (arith, cut, h)
