-- The live campaigns among the first ones of a table, and what they hold.
use Rattle.std.proofs.Common.{◌≡◌, ℕ, zero, suc, ◌+◌, ◌-◌, ◌<◌, ◌≤◌, ◌==◌, List, [], ◌∷◌, ◌++◌, length, take, get_or, Bool, true, false, cond, nat_lt, Option, None, Some, option_map, refl, ap, ◌∙◌, arith, length-append, append-nil}
use Rattle.std.specs.Prelude.{slice_get, sum_by}
use Rattle.std.specs.List.{All, enumerate_from, flat_map}
use Rattle.std.proofs.lemmas.Bool.Decides.{nat_tests}
use Rattle.std.proofs.lemmas.List.{take_all, take_more}
use Rattle.std.proofs.lemmas.List.Concat.{flat_map-append}
use Rattle.std.proofs.lemmas.List.FromFn.{get_or-enumerate_from, length-enumerate_from}
use Rattle.std.proofs.lemmas.List.Sums.{sum_by-cons}
use Rattle.std.proofs.lemmas.Option.{get_or_from_slice_get}
use Rattle.campaign_store.specs.Limits.{passed_limit}
use Rattle.campaign_store.specs.Table.{campaign_at, entries_of}
use Rattle.campaign_store.specs.declared.listed.Listed.{Listed}
use Rattle.campaign_store.specs.declared.record.Record.{Record}
use Rattle.conj_index.specs.Campaigns.{Campaigns, conjunctions_in, expression_of}
use Rattle.target_expr.specs.declared.pred.Pred.{Pred}
use Rattle.live_index.specs.Reached.{live_expression, live_expressions}

-- those among the first so many
abbrev pub first_live : ℕ → List Listed → Campaigns
first_live k cs = flat_map live_expression (take k (enumerate_from 1 cs))

-- one campaign more
pub one_more : (cs : List Listed) (k : ℕ) (c : Listed) → k < length cs → slice_get cs k ≡ Some c → first_live (k + 1) cs ≡ first_live k cs ++ live_expression (k + 1, c)
one_more cs k c inside at =
    let within : k < length (enumerate_from 1 cs) = omega (arith, length-enumerate_from 1 cs) in
    let place : 1 + k ≡ k + 1 = omega arith in
    let item : get_or (enumerate_from 1 cs) k (k, c) ≡ (k + 1, c) = get_or-enumerate_from 1 cs k (k, c) inside ∙ ap (λ n. (n, get_or cs k c)) place ∙ ap (λ (x : Listed). (k + 1, x)) (get_or_from_slice_get cs k c c at) in
    ap (flat_map live_expression) (take_more (enumerate_from 1 cs) k (k, c) within)
    ∙ flat_map-append live_expression (take k (enumerate_from 1 cs)) (get_or (enumerate_from 1 cs) k (k, c) ∷ [])
    ∙ ap (λ l. first_live k cs ++ l) (append-nil (live_expression (get_or (enumerate_from 1 cs) k (k, c))) ∙ ap live_expression item)

pub all_of_them : (cs : List Listed) (k : ℕ) → length cs ≤ k → first_live k cs ≡ live_expressions cs
all_of_them cs k whole = ap (flat_map live_expression) (take_all k (enumerate_from 1 cs) (omega (arith, length-enumerate_from 1 cs)))

-- ---- their numbers are below the next

Each : {X : Type 0} → (X → Type 0) → List X → Type 0
Each P [] = Unit {0}
Each P (x ∷ xs) = P x × Each P xs

all_of : {X : Type 0} (P : X → Type 0) (xs : List X) → Each P xs → All P xs
unfolding Each
all_of P [] e k d lt = absurd (omega arith)
all_of P (x ∷ xs) e zero d lt = e.0
all_of P (x ∷ xs) e (suc k) d lt = all_of P xs e.1 k d (omega arith)

abbrev IsBelow : ℕ → ℕ × List (List Pred) → Type 0
IsBelow b p = p.0 < b

before : (b n : ℕ) (c : Listed) (rest : Campaigns) → n < b → Each (IsBelow b) rest → Each (IsBelow b) (live_expression (n, c) ++ rest)
unfolding Each
before b n c rest lt e = by c.live
  where
    by : (live : Bool) → Each (IsBelow b) (cond live ((n, c.entry.expr) ∷ []) [] ++ rest)
    by true = (lt, e)
    by false = e

below : (n k b : ℕ) (cs : List Listed) → n + k ≤ b → Each (IsBelow b) (flat_map live_expression (take k (enumerate_from n cs)))
unfolding Each
below n zero b cs le = tt
below n (suc k) b [] le = tt
below n (suc k) b (c ∷ cs) le = before b n c (flat_map live_expression (take k (enumerate_from (n + 1) cs))) (omega arith) (below (n + 1) k b cs (omega arith))

pub above : (cs : List Listed) (k : ℕ) → All (λ (p : ℕ × List (List Pred)). p.0 < k + 1) (first_live k cs)
above cs k = all_of (λ (p : ℕ × List (List Pred)). p.0 < k + 1) (first_live k cs) (below 1 k (k + 1) cs (omega arith))

-- ---- there is room for the next

abbrev conjunctions : Record → ℕ
conjunctions r = length r.expr

abbrev expr_of : ℕ × List (List Pred) → List (List Pred)
expr_of p = p.1

held : (n : ℕ) (c : Listed) (rest : Campaigns) → length (flat_map expr_of (live_expression (n, c) ++ rest)) ≤ length c.entry.expr + length (flat_map expr_of rest)
held n c rest = by c.live
  where
    by : (live : Bool) → length (flat_map expr_of (cond live ((n, c.entry.expr) ∷ []) [] ++ rest)) ≤ length c.entry.expr + length (flat_map expr_of rest)
    by true = omega (arith, length-append c.entry.expr (flat_map expr_of rest))
    by false = omega arith

counted : (n k : ℕ) (cs : List Listed) (c : Listed) → slice_get cs k ≡ Some c
    → length (flat_map expr_of (flat_map live_expression (take k (enumerate_from n cs)))) + length c.entry.expr ≤ sum_by conjunctions (entries_of cs)
counted n k [] c at = cc
counted n zero (d ∷ cs) c at =
    let same : d ≡ c = cc in
    omega (arith, sum_by-cons conjunctions d.entry (entries_of cs), ap (λ (x : Listed). length x.entry.expr) same)
counted n (suc k) (d ∷ cs) c at =
    let later = counted (n + 1) k cs c at in
    omega (arith, sum_by-cons conjunctions d.entry (entries_of cs), held n d (flat_map live_expression (take k (enumerate_from (n + 1) cs))), later)

not_over : {X Y : Type 0} (f : X → Y) (a b : Bool) (x y : X) (rest : Option X) → option_map f (cond a (Some x) (cond b (Some y) rest)) ≡ None → b ≡ false
not_over f true b x y rest e = cc
not_over f false true x y rest e = cc
not_over f false false x y rest e = refl

at_most : (n : ℕ) → nat_lt 1000000 n ≡ false → n ≤ 1000000
at_most n e = grind (arith, nat_tests)

within : (rs : List Record) → passed_limit rs ≡ None → sum_by conjunctions rs ≤ 1000000
within rs none = at_most (sum_by conjunctions rs) (not_over _ (nat_lt 65536 (length rs)) (nat_lt 1000000 (sum_by conjunctions rs)) _ _ _ none)

pub room : (cs : List Listed) (k n : ℕ) (c : Listed) → passed_limit (entries_of cs) ≡ None → slice_get cs k ≡ Some c → conjunctions_in (first_live k cs ++ (n, c.entry.expr) ∷ []) ≤ 1000000
room cs k n c none at =
    let few : sum_by conjunctions (entries_of cs) ≤ 1000000 = within (entries_of cs) none in
    let enough : length (flat_map expr_of (first_live k cs)) + length c.entry.expr ≤ sum_by conjunctions (entries_of cs) = counted 1 k cs c at in
    let split : length (expression_of (first_live k cs ++ (n, c.entry.expr) ∷ [])) ≡ length (flat_map expr_of (first_live k cs)) + length c.entry.expr =
    ap length (flat_map-append expr_of (first_live k cs) ((n, c.entry.expr) ∷ []))
    ∙ length-append (flat_map expr_of (first_live k cs)) (c.entry.expr ++ [])
    ∙ ap (λ (e : List (List Pred)). length (flat_map expr_of (first_live k cs)) + length e) (append-nil c.entry.expr) in
    omega (arith, split, few, enough)

-- campaign k + 1 stands at place k
pub numbered : (cs : List Listed) (k : ℕ) → campaign_at cs (k + 1) ≡ slice_get cs k
numbered cs k =
    let some : (k + 1 == 0) ≡ false = grind (arith, nat_tests) in
    let place : k + 1 - 1 ≡ k = omega arith in
    ap (λ b. cond b None (slice_get cs (k + 1 - 1))) some ∙ ap (slice_get cs) place

pub item_at : {A : Type 0} (cs : List A) (k : ℕ) → k < length cs → (c : A) × (slice_get cs k ≡ Some c)
item_at [] k lt = absurd (omega arith)
item_at (c ∷ cs) zero lt = (c, refl)
item_at (c ∷ cs) (suc k) lt = item_at cs k (omega arith)
