-- Items are sold one after the other, each with a key of its user.
use Rattle.std.proofs.Common.{◌≡◌, ℕ, ◌<◌, ◌&&◌, Bool, true, false, cond, List, [], ◌∷◌, ◌++◌, length, map, refl, sym, ◌∙◌, ap, arith, Option, Some, None, option_to_list}
use Rattle.std.specs.Prelude.{IsSome, is_some}
use Rattle.std.proofs.lemmas.Bool.{false≢true}
use Rattle.std.proofs.lemmas.List.{length-append}
use Rattle.auction_core.specs.Putting.{keys_for}
use Rattle.plain_exchange.specs.declared.changes.SoldItem.{SoldItem}
use Rattle.plain_exchange.specs.Effects.{can_pay, has_room, sale_by, with_items}
use Rattle.plain_exchange.specs.State.{State, with_sales}

fit_first : (b : Bool) (o w : Option State) → cond b o None ≡ w → is_some w ≡ true → o ≡ w
fit_first true o w e f = e
fit_first false o w e f = absurd (false≢true (ap is_some e ∙ f))

-- once the first is sold, the rest lead to the same
pub sold_first : (m : ℕ) (user key : Option (List ℕ)) (rest : List SoldItem) (item : SoldItem) (more : List SoldItem) (s t : State) (w : Option State) → rest ≡ item ∷ more → with_items m user rest s ≡ w → is_some w ≡ true → key ≡ user
    → t ≡ with_sales s (sale_by m key item ∷ []) → with_items m user more t ≡ w
sold_first m user key rest item more s t w front sold fits to is =
    ap (with_items m user more) (is ∙ ap (λ k. with_sales s (sale_by m k item ∷ [])) to)
    ∙ fit_first (can_pay s item.campaign item.price && has_room s) (with_items m user more (with_sales s (sale_by m user item ∷ []))) w (sym (ap (λ l. with_items m user l s) front) ∙ sold) fits

-- ---- keys that are all alike

abbrev first_of : {A : Type 0} → A → List A → A
first_of d [] = d
first_of d (x ∷ xs) = x

abbrev behind : {A : Type 0} → List A → List A
behind [] = []
behind (x ∷ xs) = xs

abbrev same : List ℕ → List SoldItem → List (List ℕ)
same user items = map (λ (item : SoldItem). user) items

last_same : (user : List ℕ) (item : SoldItem) (more : List SoldItem) (keys : List (List ℕ)) (key : List ℕ) → same user (item ∷ more) ≡ keys ++ key ∷ [] → (key ≡ user) × (keys ≡ same user more)
last_same user item [] [] key e = (sym (ap (first_of user) e), refl)
last_same user item (x ∷ more) [] key e = absurd (let h = ap length e in omega (arith, h))
last_same user item [] (k ∷ keys) key e = absurd (let h = ap length e in let n = length-append keys (key ∷ []) in omega (arith, h, n))
last_same user item (x ∷ more) (k ∷ keys) key e =
    let (one, rest) = last_same user x more keys key (ap behind e) in
    (one, ap (λ u. u ∷ keys) (sym (ap (first_of user) e)) ∙ ap (λ l. user ∷ l) rest)

none_left : (keys : List (List ℕ)) (key : Option (List ℕ)) → [] ≡ keys ++ option_to_list key → (key ≡ None) × (keys ≡ [])
none_left [] None e = (refl, refl)
none_left [] (Some k) e = absurd (let h = ap length e in omega (arith, h))
none_left (k ∷ keys) key e = absurd (let h = ap length e in omega (arith, h))

by_key : (user : List ℕ) (item : SoldItem) (more : List SoldItem) (keys : List (List ℕ)) (key : Option (List ℕ)) → same user (item ∷ more) ≡ keys ++ option_to_list key → IsSome key → (key ≡ Some user) × (keys ≡ same user more)
by_key user item more keys None e some = absurd (false≢true some)
by_key user item more keys (Some k) e some = let (one, rest) = last_same user item more keys k e in (ap Some one, rest)

-- the key that is taken is that of the user, and the others are those of the rest
pub key_taken : (user : Option (List ℕ)) (rest : List SoldItem) (item : SoldItem) (more : List SoldItem) (old keys : List (List ℕ)) (key : Option (List ℕ)) (n : ℕ) → rest ≡ item ∷ more → old ≡ keys_for user rest → old ≡ keys ++ option_to_list key → length old ≡ n → (0 < n → IsSome key)
    → (key ≡ user) × (keys ≡ keys_for user more)
key_taken None rest item more old keys key n front all taken count some = none_left keys key (sym all ∙ taken)
key_taken (Some user) rest item more old keys key n front all taken count some =
    let is : old ≡ same user (item ∷ more) = all ∙ ap (same user) front in
    by_key user item more keys key (sym is ∙ taken) (some (let first = ap length is in omega (arith, first, count)))
