-- Effects that fit, and what they lead to.
use Rattle.std.proofs.Common.{◌≡◌, ℕ, ◌+◌, ◌-◌, ◌^◌, ◌<◌, ◌≤◌, ◌&&◌, ◌||◌, min, cond, eqb, Bool, true, false, List, [], ◌∷◌, ◌++◌, length, take, drop, map, get_or, refl, sym, ◌∙◌, ap, subst, arith, append-nil, append_assoc, Option, Some, None}
use Rattle.std.specs.Prelude.{is_some, nat_le, option_and_then, option_map, sum_by}
use Rattle.std.specs.Option.{option_map_or}
use Rattle.std.proofs.lemmas.Bool.{and_parts, false≢true, ltb-true}
use Rattle.std.proofs.lemmas.List.{length-append, length-map, map-append, take-append-drop, take_more}
use Rattle.std.proofs.lemmas.List.Sums.{sum_by-append, sum_by-cons}
use Rattle.auction_core.specs.Applying.{items_cost, with_sold}
use Rattle.budget_book.specs.declared.sales.Gone.{Gone}
use Rattle.budget_book.specs.declared.sales.SaleRow.{SaleRow}
use Rattle.budget_book.specs.Sales.{are_settled, committed_of, expired_at, is_billed_of, is_held_of, most_forgotten}
use Rattle.plain_exchange.specs.declared.changes.SoldItem.{SoldItem}
use Rattle.plain_exchange.specs.Effects.{can_pay, has_room, only_if, sale_by, with_forgotten, with_items}
use Rattle.plain_exchange.specs.State.{Campaign, State, campaign_at, forget_first, forgotten, free, most_sales, swept, with_sales}
use Rattle.plain_exchange.proofs.Each.{none_some, some_same}
use Rattle.plain_exchange.proofs.Keeping.{chosen}

pub fit : (b : Bool) (s : State) → b ≡ true → only_if b s ≡ Some s
fit b s e = ap (λ c. only_if c s) e

-- ---- sales of an auction

pub sold_more : (m : ℕ) (user : Option (List ℕ)) (item : SoldItem) (items : List SoldItem) (s : State) → with_sold m user items (with_sales s (sale_by m user item ∷ [])) ≡ with_sold m user (item ∷ items) s
sold_more m user item items s = ap (λ rows. record s { sales = rows }) (append_assoc s.sales (sale_by m user item ∷ []) (map (sale_by m user) items))

pub items_are : (m : ℕ) (user : Option (List ℕ)) (items : List SoldItem) (s u : State) → with_items m user items s ≡ Some u → with_sold m user items s ≡ u
items_are m user [] s u e = ap (λ rows. record s { sales = rows }) (append-nil s.sales) ∙ some_same s u e
items_are m user (item ∷ items) s u e =
    let picked = chosen (can_pay s item.campaign item.price && has_room s) (with_items m user items (with_sales s (sale_by m user item ∷ []))) u e in
    sym (sold_more m user item items s) ∙ items_are m user items (with_sales s (sale_by m user item ∷ [])) u picked.1

chosen_then : (f : State → Option State) (b : Bool) (o : Option State) → option_and_then f (cond b o None) ≡ cond b (option_and_then f o) None
chosen_then f true o = refl
chosen_then f false o = refl

pub items_both : (m : ℕ) (user : Option (List ℕ)) (before rest : List SoldItem) (s : State) → with_items m user (before ++ rest) s ≡ option_and_then (with_items m user rest) (with_items m user before s)
items_both m user [] rest s = refl
items_both m user (item ∷ before) rest s =
    let t = with_sales s (sale_by m user item ∷ []) in
    let b = can_pay s item.campaign item.price && has_room s in
    ap (λ o. cond b o None) (items_both m user before rest t) ∙ sym (chosen_then (with_items m user rest) b (with_items m user before t))

-- once those before are sold it depends on the next one, and on those behind it
pub items_next : (m : ℕ) (user : Option (List ℕ)) (before : List SoldItem) (item : SoldItem) (rest : List SoldItem) (s : State) → with_items m user before s ≡ Some (with_sold m user before s)
    → with_items m user (before ++ item ∷ rest) s ≡ cond (can_pay (with_sold m user before s) item.campaign item.price && has_room (with_sold m user before s)) (with_items m user rest (with_sales (with_sold m user before s) (sale_by m user item ∷ []))) None
items_next m user before item rest s e = items_both m user before (item ∷ rest) s ∙ ap (option_and_then (with_items m user (item ∷ rest))) e

pub sold_behind : (m : ℕ) (user : Option (List ℕ)) (before : List SoldItem) (item : SoldItem) (s : State) → with_sales (with_sold m user before s) (sale_by m user item ∷ []) ≡ with_sold m user (before ++ item ∷ []) s
sold_behind m user before item s = ap (λ rows. record s { sales = rows }) (append_assoc s.sales (map (sale_by m user) before) (sale_by m user item ∷ []) ∙ ap (λ rows. s.sales ++ rows) (sym (map-append (sale_by m user) before (item ∷ []))))

pub items_sold_next : (m : ℕ) (user : Option (List ℕ)) (before : List SoldItem) (item : SoldItem) (s : State) → with_items m user before s ≡ Some (with_sold m user before s)
    → (can_pay (with_sold m user before s) item.campaign item.price && has_room (with_sold m user before s)) ≡ true → with_items m user (before ++ item ∷ []) s ≡ Some (with_sold m user (before ++ item ∷ []) s)
items_sold_next m user before item s e h =
    items_next m user before item [] s e
    ∙ ap (λ b. cond b (Some (with_sales (with_sold m user before s) (sale_by m user item ∷ []))) None) h
    ∙ ap Some (sold_behind m user before item s)

pub items_unsold : (m : ℕ) (user : Option (List ℕ)) (before : List SoldItem) (item : SoldItem) (rest : List SoldItem) (s : State) → with_items m user before s ≡ Some (with_sold m user before s)
    → (can_pay (with_sold m user before s) item.campaign item.price && has_room (with_sold m user before s)) ≡ false → with_items m user (before ++ item ∷ rest) s ≡ None
items_unsold m user before item rest s e h =
    items_next m user before item rest s e
    ∙ ap (λ b. cond b (with_items m user rest (with_sales (with_sold m user before s) (sale_by m user item ∷ []))) None) h

pub items_few : (m : ℕ) (user : Option (List ℕ)) (items : List SoldItem) (s u : State) → with_items m user items s ≡ Some u → length s.sales ≤ most_sales → length s.sales + length items ≤ most_sales
items_few m user [] s u e few = omega (arith, few)
items_few m user (item ∷ items) s u e few =
    let t = with_sales s (sale_by m user item ∷ []) in
    let picked = chosen (can_pay s item.campaign item.price && has_room s) (with_items m user items t) u e in
    let parts = and_parts (can_pay s item.campaign item.price) (has_room s) picked.0 in
    let below : length s.sales < most_sales = ltb-true (length s.sales) most_sales parts.1 in
    let many : length t.sales ≡ length s.sales + 1 = length-append s.sales (sale_by m user item ∷ []) in
    let rest : length t.sales + length items ≤ most_sales = items_few m user items t u picked.1 (omega (arith, below, many)) in
    omega (arith, rest, many)

pub items_few_at_all : (m : ℕ) (user : Option (List ℕ)) (items : List SoldItem) (s u : State) → with_items m user items s ≡ Some u → length items ≤ most_sales
items_few_at_all m user [] s u e = omega arith
items_few_at_all m user (item ∷ items) s u e =
    let picked = chosen (can_pay s item.campaign item.price && has_room s) (with_items m user items (with_sales s (sale_by m user item ∷ []))) u e in
    let parts = and_parts (can_pay s item.campaign item.price) (has_room s) picked.0 in
    let below : length s.sales < most_sales = ltb-true (length s.sales) most_sales parts.1 in
    let all : length s.sales + length (item ∷ items) ≤ most_sales = items_few m user (item ∷ items) s u e (omega (arith, below)) in
    omega (arith, all)

-- ---- what is free beside items

abbrev pick : Bool → ℕ → ℕ → ℕ
pick b x y = cond b x y

abbrev taken : ℕ → SaleRow → ℕ
taken n s = pick (is_held_of n s || is_billed_of n s) s.price 0

abbrev paid : ℕ → SoldItem → ℕ
paid n item = pick (eqb item.campaign n) item.price 0

own_price : (b : Bool) (p : ℕ) → pick ((b && true) || (b && false)) p 0 ≡ pick b p 0
own_price true p = refl
own_price false p = refl

drawn_sold : (m : ℕ) (user : Option (List ℕ)) (n : ℕ) (items : List SoldItem) → sum_by (taken n) (map (sale_by m user) items) ≡ sum_by (paid n) items
drawn_sold m user n [] = refl
drawn_sold m user n (item ∷ items) =
    let one : taken n (sale_by m user item) ≡ paid n item = own_price (eqb item.campaign n) item.price in
    omega (arith, one, sum_by-cons (taken n) (sale_by m user item) (map (sale_by m user) items), sum_by-cons (paid n) item items, drawn_sold m user n items)

committed_sold : (m : ℕ) (user : Option (List ℕ)) (n : ℕ) (gone : Gone) (sales : List SaleRow) (items : List SoldItem) → committed_of n gone (sales ++ map (sale_by m user) items) ≡ committed_of n gone sales + items_cost n items
committed_sold m user n gone sales items = omega (arith, sum_by-append (taken n) sales (map (sale_by m user) items), drawn_sold m user n items)

pub free_sold : (m : ℕ) (user : Option (List ℕ)) (n : ℕ) (s : State) (c : Campaign) (items : List SoldItem) → free (with_sold m user items s) n c ≡ free s n c - items_cost n items
free_sold m user n s c items = omega (arith, committed_sold m user n c.gone s.sales items)

-- ---- a test of what is there

pub tested_there : {A : Type 0} (test : A → Bool) (o : Option A) (b : Bool) → is_some o ≡ true → ((x : A) → o ≡ Some x → b ≡ test x) → b ≡ option_map_or test o false
tested_there test None b e h = absurd (false≢true e)
tested_there test (Some x) b e h = h x refl

pub mapped_same : {A B : Type 0} (k : B) (o : Option A) (y : B) → option_map (λ (x : A). k) o ≡ Some y → (y ≡ k) × (is_some o ≡ true)
mapped_same k None y e = absurd (none_some y e)
mapped_same k (Some x) y e = (sym (some_same k y e), refl)

-- ---- all items, one after the other

pub some_if : (b : Bool) (s : State) → is_some (only_if b s) ≡ b
some_if true s = refl
some_if false s = refl

-- what an effect of a forgetting that fits takes is settled
pub trimmed_fits : (n : ℕ) (s : State) → is_some (with_forgotten n s) ≡ true → (nat_le n most_forgotten ≡ true) × (are_settled (n - forgotten s) s.sales ≡ true)
trimmed_fits n s h = and_parts (nat_le n most_forgotten) (are_settled (n - forgotten s) s.sales) (sym (some_if (nat_le n most_forgotten && are_settled (n - forgotten s) s.sales) (forget_first (n - forgotten s) s)) ∙ h)

pub some_of : {A : Type 0} (o : Option A) → is_some o ≡ true → (x : A) × (o ≡ Some x)
some_of None e = absurd (false≢true e)
some_of (Some x) e = (x, refl)

pub nothing_sold : (m : ℕ) (user : Option (List ℕ)) (s : State) → with_items m user [] s ≡ Some (with_sold m user [] s)
nothing_sold m user s = ap (λ rows. Some (record s { sales = rows })) (sym (append-nil s.sales))

pub sold_further : (m : ℕ) (user : Option (List ℕ)) (items : List SoldItem) (k : ℕ) (item : SoldItem) (s : State) → k < length items → get_or items k item ≡ item
    → with_items m user (take k items) s ≡ Some (with_sold m user (take k items) s)
    → (can_pay (with_sold m user (take k items) s) item.campaign item.price && has_room (with_sold m user (take k items) s)) ≡ true
    → with_items m user (take (k + 1) items) s ≡ Some (with_sold m user (take (k + 1) items) s)
sold_further m user items k item s inside at sold test =
    let more : take (k + 1) items ≡ take k items ++ item ∷ [] = take_more items k item inside ∙ ap (λ x. take k items ++ x ∷ []) at in
    subst (λ front. with_items m user front s ≡ Some (with_sold m user front s)) (sym more) (items_sold_next m user (take k items) item s sold test)

pub unsold_further : (m : ℕ) (user : Option (List ℕ)) (items : List SoldItem) (k : ℕ) (item : SoldItem) (s : State) → k < length items → get_or items k item ≡ item
    → with_items m user (take k items) s ≡ Some (with_sold m user (take k items) s)
    → (can_pay (with_sold m user (take k items) s) item.campaign item.price && has_room (with_sold m user (take k items) s)) ≡ false
    → false ≡ is_some (with_items m user items s)
unsold_further m user items k item s inside at sold test =
    let more : take (k + 1) items ≡ take k items ++ item ∷ [] = take_more items k item inside ∙ ap (λ x. take k items ++ x ∷ []) at in
    let split : items ≡ take k items ++ item ∷ drop (k + 1) items =
    sym (take-append-drop (k + 1) items) ∙ ap (λ front. front ++ drop (k + 1) items) more ∙ append_assoc (take k items) (item ∷ []) (drop (k + 1) items) in
    sym (ap is_some (ap (λ all. with_items m user all s) split ∙ items_unsold m user (take k items) item (drop (k + 1) items) s sold test))

-- ---- one item

pub less_most : (free drawn : ℕ) → free ≤ 10 ^ 15 → free - min drawn (2 ^ 64 - 1) ≡ free - drawn
less_most free drawn h = omega (arith, h)

pub pays_live : (s : State) (n price : ℕ) (c : Campaign) (b : Bool) → campaign_at s n ≡ Some c → c.live ≡ true → b ≡ nat_le price (free s n c) → b ≡ can_pay s n price
pays_live s n price c b at live e =
    e ∙ sym (ap (λ o. option_map_or (λ (x : Campaign). x.live && nat_le price (free s n x)) o false) at ∙ ap (λ l. l && nat_le price (free s n c)) live)

pub many_sold : (m : ℕ) (user : Option (List ℕ)) (items : List SoldItem) (s : State) → length (with_sold m user items (swept m s)).sales ≡ length s.sales + length items
many_sold m user items s = omega (arith, length-append (swept m s).sales (map (sale_by m user) items), length-map s.sales (expired_at m), length-map items (sale_by m user))
