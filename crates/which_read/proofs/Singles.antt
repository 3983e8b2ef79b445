-- No attribute stands twice in an assignment, since the attributes rise by number.
use Rattle.std.proofs.Common.{◌≡◌, ℕ, zero, suc, ◌+◌, ◌<◌, ◌≤◌, ◌==◌, ◌&&◌, ◌||◌, not, nat_lt, List, [], ◌∷◌, ◌++◌, take, Bool, true, false, length, get_or, Option, None, Some, option_map, option_and_then, refl, sym, ◌∙◌, ap, arith}
use Rattle.std.specs.List.{cons_option, filter_map, list_any}
use Rattle.std.specs.Option.{option_to_list}
use Rattle.std.proofs.lemmas.List.{take_all, take_more}
use Rattle.std.proofs.lemmas.Bool.{false≢true}
use Rattle.std.proofs.lemmas.Bool.Decides.{nat_tests}
use Rattle.std.proofs.lemmas.List.Elements.{filter_map-append}
use Rattle.exact_json.specs.Tree.{Tree}
use Rattle.json_fields.specs.Answers.{value_or}
use Rattle.json_fields.specs.Fields.{as_text, optional, present}
use Rattle.target_expr.specs.declared.attr.Attr.{Attr}
use Rattle.target_expr.specs.declared.attr.Attr.TheVariants.{Domain}
use Rattle.target_expr.proofs.Attributes.{in_table}
use Rattle.target_expr.specs.Attributes.{attr_numbered, attributes, name_of, number_of}
use Rattle.target_expr.specs.Truth.{are_single, same_attr}
use Rattle.which_read.specs.Assigned.{pair_of, pairs_from}
use Rattle.which_read.specs.Numbered.{pair_numbered}

abbrev paired : (Attr → Option (List ℕ)) → Attr → Option (Attr × List ℕ)
paired g a = option_map (λ v. (a, v)) (g a)

-- each number is above n, and above the one before
rise_from : ℕ → List Attr → Bool
rise_from n [] = true
rise_from n (a ∷ rest) = nat_lt n (number_of a) && rise_from (number_of a) rest

left : (a b : Bool) → (a && b) ≡ true → a ≡ true
left true b h = refl
left false b h = absurd (false≢true h)

right : (a b : Bool) → (a && b) ≡ true → b ≡ true
right true b h = h
right false b h = absurd (false≢true h)

other : (m n k : ℕ) → m ≤ n → nat_lt n k ≡ true → (k == m) ≡ false
other m n k le h = grind (arith, nat_tests)

higher : (m n k : ℕ) → m ≤ n → nat_lt n k ≡ true → m ≤ k
higher m n k le h = grind (arith, nat_tests)

itself : (k : ℕ) → k ≤ k
itself k = omega arith

abbrev stands_in : Attr → List (Attr × List ℕ) → Bool
stands_in a ps = list_any (λ (q : Attr × List ℕ). same_attr q.0 a) ps

none_same : (g : Attr → Option (List ℕ)) (a : Attr) (n : ℕ) (rest : List Attr) → number_of a ≤ n → rise_from n rest ≡ true → stands_in a (filter_map (paired g) rest) ≡ false
unfolding rise_from
none_same g a n [] le h = refl
none_same g a n (b ∷ rest) le h =
    let first = left (nat_lt n (number_of b)) (rise_from (number_of b) rest) h in
    let later = none_same g a (number_of b) rest (higher (number_of a) n (number_of b) le first) (right (nat_lt n (number_of b)) (rise_from (number_of b) rest) h) in
    elim (g b) as (λ o. stands_in a (cons_option (option_map (λ (v : List ℕ). (b, v)) o) (filter_map (paired g) rest)) ≡ false) [
      | None ↦ later
      | Some v ↦ ap (λ c. c || stands_in a (filter_map (paired g) rest)) (other (number_of a) n (number_of b) le first) ∙ later
    ]

single : (g : Attr → Option (List ℕ)) (n : ℕ) (rest : List Attr) → rise_from n rest ≡ true → are_single (filter_map (paired g) rest) ≡ true
unfolding rise_from
single g n [] h = refl
single g n (b ∷ rest) h =
    let later = right (nat_lt n (number_of b)) (rise_from (number_of b) rest) h in
    let others = single g (number_of b) rest later in
    elim (g b) as (λ o. are_single (cons_option (option_map (λ (v : List ℕ). (b, v)) o) (filter_map (paired g) rest)) ≡ true) [
      | None ↦ others
      | Some v ↦ ap (λ c. not c && are_single (filter_map (paired g) rest)) (none_same g b (number_of b) rest (itself (number_of b)) later) ∙ others
    ]

all_rise : rise_from 0 attributes ≡ true
unfolding rise_from
all_rise = refl

pub pairs_single : (t : Tree) → are_single (pairs_from t) ≡ true
unfolding pairs_from
pairs_single t = single (λ a. value_or None (optional as_text (present (name_of a) t))) 0 attributes all_rise

-- ---- the pairs by number

-- the numbers are n, n + 1 and so on
count_from : ℕ → List Attr → Bool
count_from n [] = true
count_from n (a ∷ rest) = (number_of a == n) && count_from (n + 1) rest

same : (m n : ℕ) → (m == n) ≡ true → m ≡ n
same m n e = grind (arith, nat_tests)

at_place : (n : ℕ) (rest : List Attr) (k : ℕ) (d : Attr) → count_from n rest ≡ true → k < length rest → number_of (get_or rest k d) ≡ n + k
unfolding count_from
at_place n [] k d e h = absurd (omega (arith, h))
at_place n (a ∷ rest) zero d e h = let first = same (number_of a) n (left (number_of a == n) (count_from (n + 1) rest) e) in omega (arith, first)
at_place n (a ∷ rest) (suc k) d e h =
    let later = at_place (n + 1) rest k d (right (number_of a == n) (count_from (n + 1) rest) e) (omega (arith, h)) in omega (arith, later)

all_count : count_from 1 attributes ≡ true
unfolding count_from
all_count = refl

numbered : (k : ℕ) → k < 22 → attr_numbered (k + 1) ≡ Some (get_or attributes k Domain)
numbered k h =
    let is : number_of (get_or attributes k Domain) ≡ k + 1 = at_place 1 attributes k Domain all_count h ∙ add_one k in
    sym (ap attr_numbered is) ∙ (in_table (get_or attributes k Domain)).again
  where
    add_one : (k : ℕ) → 1 + k ≡ k + 1
    add_one k = omega arith

one : {X Y : Type 0} (h : X → Option Y) (x : X) → option_to_list (h x) ≡ filter_map h (x ∷ [])
one h x = elim (h x) as (λ o. option_to_list o ≡ cons_option o []) [ None ↦ refl | Some y ↦ refl ]

-- the one of the next number is appended
pub pairs_more : (t : Tree) (k : ℕ) (ps qs : List (Attr × List ℕ)) → k < 22 → ps ≡ filter_map (pair_of t) (take k attributes) → qs ≡ ps ++ option_to_list (pair_numbered t (k + 1))
    → qs ≡ filter_map (pair_of t) (take (k + 1) attributes)
pairs_more t k ps qs h before after =
    let a = get_or attributes k Domain in
    after ∙ ap (λ o. ps ++ option_to_list (option_and_then (pair_of t) o)) (numbered k h) ∙ ap (λ l. l ++ option_to_list (pair_of t a)) before
    ∙ ap (λ l. filter_map (pair_of t) (take k attributes) ++ l) (one (pair_of t) a)
    ∙ sym (filter_map-append (pair_of t) (take k attributes) (a ∷ []))
    ∙ ap (filter_map (pair_of t)) (sym (take_more attributes k Domain h))

pub all_pairs : (t : Tree) (k : ℕ) (ps : List (Attr × List ℕ)) → 22 ≤ k → ps ≡ filter_map (pair_of t) (take k attributes) → ps ≡ pairs_from t
unfolding pairs_from
all_pairs t k ps h e = e ∙ ap (filter_map (pair_of t)) (take_all k attributes h)
