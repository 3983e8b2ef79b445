-- What the limits of a kept expression say of its parts.
use Rattle.std.proofs.Common.{◌≡◌, ℕ, ◌*◌, ◌<◌, ◌≤◌, List, [], ◌∷◌, length, get_or, Bool, true, arith, sum_by, leb, zero, suc}
use Rattle.std.specs.List.{list_all}
use Rattle.std.proofs.lemmas.Bool.{and_parts, leb-true}
use Rattle.std.proofs.lemmas.List.Sums.{sum_by-cons}
use Rattle.target_expr.specs.declared.pred.Pred.{Pred}
use Rattle.target_expr.specs.Kept.{is_kept, is_kept_conjunction, is_kept_pred}
use Rattle.target_expr.specs.Pairs.{values_in, bytes_in, values_of, text_bytes_of}

-- the item at a place passes what all pass
pub passes_at : {X : Type 0} (p : X → Bool) (xs : List X) (i : ℕ) (d : X) → i < length xs → list_all p xs ≡ true → p (get_or xs i d) ≡ true
passes_at p [] i d h all = absurd (omega arith)
passes_at p (x ∷ xs) zero d h all = (and_parts (p x) (list_all p xs) all).0
passes_at p (x ∷ xs) (suc i) d h all = passes_at p xs i d (omega arith) (and_parts (p x) (list_all p xs) all).1

-- a sum of terms that are each at most m
pub sum_within : {X : Type 0} (p : X → Bool) (f : X → ℕ) (m : ℕ) → ((x : X) → p x ≡ true → f x ≤ m) → (xs : List X) → list_all p xs ≡ true → sum_by f xs ≤ length xs * m
sum_within p f m each [] all = omega arith
sum_within p f m each (x ∷ xs) all =
    let parts = and_parts (p x) (list_all p xs) all in
    let one : f x ≤ m = each x parts.0 in
    let rest : sum_by f xs ≤ length xs * m = sum_within p f m each xs parts.1 in
    omega (arith, sum_by-cons f x xs)

pub pred_values : (p : Pred) → is_kept_pred p ≡ true → length p.values ≤ 256
pred_values p h = leb-true _ _ (and_parts _ _ (and_parts _ _ (and_parts _ _ h).0).0).1

pub pred_bytes : (p : Pred) → is_kept_pred p ≡ true → sum_by length p.values ≤ 65280
pred_bytes p h =
    let most : length p.values ≤ 256 = pred_values p h in
    let sum : sum_by length p.values ≤ length p.values * 255 = sum_within (λ (v : List ℕ). leb (length v) 255) length 255 (λ v e. leb-true (length v) 255 e) p.values (and_parts _ _ (and_parts _ _ h).0).1 in
    omega arith

pub conjunction_length : (c : List Pred) → is_kept_conjunction c ≡ true → length c ≤ 16
conjunction_length c h = leb-true _ _ (and_parts _ _ (and_parts _ _ h).0).0

pub conjunction_preds : (c : List Pred) → is_kept_conjunction c ≡ true → list_all is_kept_pred c ≡ true
conjunction_preds c h = (and_parts _ _ (and_parts _ _ h).0).1

pub conjunction_values : (c : List Pred) → is_kept_conjunction c ≡ true → values_in c ≤ 4096
conjunction_values c h =
    let most : length c ≤ 16 = conjunction_length c h in
    let sum : values_in c ≤ length c * 256 = sum_within is_kept_pred (λ (p : Pred). length p.values) 256 pred_values c (conjunction_preds c h) in
    omega arith

pub conjunction_bytes : (c : List Pred) → is_kept_conjunction c ≡ true → bytes_in c ≤ 1044480
conjunction_bytes c h =
    let most : length c ≤ 16 = conjunction_length c h in
    let sum : bytes_in c ≤ length c * 65280 = sum_within is_kept_pred (λ (p : Pred). sum_by length p.values) 65280 pred_bytes c (conjunction_preds c h) in
    omega arith

pub expr_length : (e : List (List Pred)) → is_kept e ≡ true → length e ≤ 64
expr_length e h = leb-true _ _ (and_parts _ _ (and_parts _ _ h).0).1

pub expr_conjunctions : (e : List (List Pred)) → is_kept e ≡ true → list_all is_kept_conjunction e ≡ true
expr_conjunctions e h = (and_parts _ _ h).1

pub expr_values : (e : List (List Pred)) → is_kept e ≡ true → values_of e ≤ 262144
expr_values e h =
    let most : length e ≤ 64 = expr_length e h in
    let sum : values_of e ≤ length e * 4096 = sum_within is_kept_conjunction values_in 4096 conjunction_values e (expr_conjunctions e h) in
    omega arith

pub expr_bytes : (e : List (List Pred)) → is_kept e ≡ true → text_bytes_of e ≤ 66846720
expr_bytes e h =
    let most : length e ≤ 64 = expr_length e h in
    let sum : text_bytes_of e ≤ length e * 1044480 = sum_within is_kept_conjunction bytes_in 1044480 conjunction_bytes e (expr_conjunctions e h) in
    omega arith
