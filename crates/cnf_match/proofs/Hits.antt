-- How often the lists of keys speak of one clause: as often as its predicates name the keys.
use Rattle.std.proofs.Common.{◌≡◌, ℕ, zero, suc, ◌+◌, ◌*◌, ◌<◌, ◌≤◌, ◌==◌, ◌&&◌, not, nat_le, List, [], ◌∷◌, ◌++◌, Bool, true, false, cond, Option, Some, None, IsTrue, All, count_by, length, slice_get, refl, sym, ◌∙◌, ap, arith}
use Rattle.std.specs.List.{cons_option, enumerate_from, filter_map, flat_map, list_all, sum_by}
use Rattle.std.specs.Option.{option_map_or}
use Rattle.std.proofs.lemmas.Bool.{and_parts, eq-eqb, leb-true, ne_eqb}
use Rattle.std.proofs.lemmas.List.Elements.{All-head, All-tail}
use Rattle.std.proofs.lemmas.List.Sums.{sum_by-cons}
use Rattle.target_expr.specs.declared.attr.Attr.{Attr}
use Rattle.target_expr.specs.declared.pred.Pred.{Pred}
use Rattle.target_expr.specs.Truth.{are_single, is_in}
use Rattle.cnf_match.specs.declared.index.Entry.{Entry}
use Rattle.cnf_match.specs.declared.index.Key.{Key}
use Rattle.cnf_match.specs.Conjunctive.{Cnf, are_kept_clauses, is_kept_clause}
use Rattle.cnf_match.specs.Content.{AreKept, clause_entries, entries_of, entry_under, expression_entries, names}
use Rattle.cnf_match.specs.Find.{key_of}
use Rattle.cnf_match.proofs.Marks.{hits, hits_more, is_hit}
use Rattle.cnf_match.proofs.Single.{counted, in_once, named_by}

abbrev Pairs : Type 0
Pairs = List (Attr × List ℕ)

-- the predicate is negated or not
abbrev pub is_of_sign : Bool → Pred → Bool
is_of_sign negated p = cond negated p.negated (not p.negated)

-- how many predicates of that sign name the key
abbrev pub namers : Bool → Key → List Pred → ℕ
namers negated key c = count_by (λ (p : Pred). names key p && is_of_sign negated p) c

-- ---- the entries of one clause

clause_hits : (b : Bool) (key : Key) (m j : ℕ) (c : List Pred) → hits b (m * 16 + j) (clause_entries key m (j, c)) ≡ namers b key c
clause_hits b key m j [] = refl
clause_hits b key m j (p ∷ c) =
    by (names key p)
    ∙ ap (λ n. cond (names key p && is_of_sign b p) 1 0 + n) (clause_hits b key m j c)
    ∙ sym (counted (λ (r : Pred). names key r && is_of_sign b r) p c)
  where
    rest : List Entry
    rest = clause_entries key m (j, c)

    by : (t : Bool) → hits b (m * 16 + j) (cons_option (cond t (Some (record { expression = m; clause = j; negated = p.negated })) None) rest)
        ≡ cond (t && is_of_sign b p) 1 0 + hits b (m * 16 + j) rest
    by true =
        counted (is_hit b (m * 16 + j)) (record { expression = m; clause = j; negated = p.negated }) rest
        ∙ ap (λ t. cond (t && is_of_sign b p) 1 0 + hits b (m * 16 + j) rest) (eq-eqb (m * 16 + j) (m * 16 + j) refl)
    by false = omega arith

other_hits : (b : Bool) (k : ℕ) (key : Key) (m j : ℕ) (c : List Pred) → (m * 16 + j ≡ k → ⊥) → hits b k (clause_entries key m (j, c)) ≡ 0
other_hits b k key m j [] other = refl
other_hits b k key m j (p ∷ c) other = by (names key p) (other_hits b k key m j c other)
  where
    rest : List Entry
    rest = clause_entries key m (j, c)

    by : (t : Bool) → hits b k rest ≡ 0 → hits b k (cons_option (cond t (Some (record { expression = m; clause = j; negated = p.negated })) None) rest) ≡ 0
    by true later =
        counted (is_hit b k) (record { expression = m; clause = j; negated = p.negated }) rest
        ∙ ap (λ t. cond (t && is_of_sign b p) 1 0 + hits b k rest) (ne_eqb (m * 16 + j) k other)
        ∙ ap (λ n. 0 + n) later
    by false later = later

-- ---- the entries of one expression, at the clause i of the expression n

module _ (b : Bool) (key : Key) (n i : ℕ) (within : i < 16) where
  abbrev k : ℕ
  k = n * 16 + i

  split : (m j : ℕ) (cs : List (List Pred)) (c : List Pred)
      → hits b k (flat_map (clause_entries key m) (enumerate_from j (c ∷ cs))) ≡ hits b k (clause_entries key m (j, c)) + hits b k (flat_map (clause_entries key m) (enumerate_from (j + 1) cs))
  split m j cs c = hits_more b k (clause_entries key m (j, c)) (flat_map (clause_entries key m) (enumerate_from (j + 1) cs))

  of_others : (m j : ℕ) (cs : List (List Pred)) → j + length cs ≤ 16 → (m ≡ n → ⊥) → hits b k (flat_map (clause_entries key m) (enumerate_from j cs)) ≡ 0
  of_others m j [] few other = refl
  of_others m j (c ∷ cs) few other =
      let first : hits b k (clause_entries key m (j, c)) ≡ 0 = other_hits b k key m j c (λ same. other (one m j same (omega (arith, few)))) in
      let later : hits b k (flat_map (clause_entries key m) (enumerate_from (j + 1) cs)) ≡ 0 = of_others m (j + 1) cs (omega (arith, few)) other in
      omega (arith, split m j cs c, first, later)
    where
      one : (m j : ℕ) → m * 16 + j ≡ n * 16 + i → j < 16 → m ≡ n
      one m j same low = omega (arith, same, low, within)

  past : (j : ℕ) (cs : List (List Pred)) → i < j → hits b k (flat_map (clause_entries key n) (enumerate_from j cs)) ≡ 0
  past j [] h = refl
  past j (c ∷ cs) h =
      let first : hits b k (clause_entries key n (j, c)) ≡ 0 = other_hits b k key n j c (λ same. absurd (omega (arith, same, h))) in
      let later : hits b k (flat_map (clause_entries key n) (enumerate_from (j + 1) cs)) ≡ 0 = past (j + 1) cs (omega (arith, h)) in
      omega (arith, split n j cs c, first, later)

  at : (j t : ℕ) (cs : List (List Pred)) → j + t ≡ i → hits b k (flat_map (clause_entries key n) (enumerate_from j cs)) ≡ option_map_or (namers b key) (slice_get cs t) 0
  at j t [] is = refl
  at j zero (c ∷ cs) is =
      let same : j ≡ i = omega (arith, is) in
      let first : hits b k (clause_entries key n (j, c)) ≡ namers b key c = ap (λ x. hits b k (clause_entries key n (x, c))) same ∙ clause_hits b key n i c in
      let later : hits b k (flat_map (clause_entries key n) (enumerate_from (j + 1) cs)) ≡ 0 = past (j + 1) cs (omega (arith, is)) in
      omega (arith, split n j cs c, first, later)
  at j (suc t) (c ∷ cs) is =
      let first : hits b k (clause_entries key n (j, c)) ≡ 0 = other_hits b k key n j c (λ same. absurd (omega (arith, same, is))) in
      let later : hits b k (flat_map (clause_entries key n) (enumerate_from (j + 1) cs)) ≡ option_map_or (namers b key) (slice_get cs t) 0 = at (j + 1) t cs (omega (arith, is)) in
      omega (arith, split n j cs c, first, later)

  -- ---- the entries of all expressions

  split_all : (m : ℕ) (es : List Cnf) (e : Cnf)
      → hits b k (flat_map (expression_entries key) (enumerate_from m (e ∷ es))) ≡ hits b k (expression_entries key (m, e)) + hits b k (flat_map (expression_entries key) (enumerate_from (m + 1) es))
  split_all m es e = hits_more b k (expression_entries key (m, e)) (flat_map (expression_entries key) (enumerate_from (m + 1) es))

  few_clauses : (e : Cnf) → IsTrue (are_kept_clauses e.clauses) → length e.clauses ≤ 16
  few_clauses e kept = leb-true (length e.clauses) 16 (and_parts (nat_le (length e.clauses) 16) (list_all is_kept_clause e.clauses) kept).0

  abbrev Kept : Cnf → Type 0
  Kept e = IsTrue (are_kept_clauses e.clauses)

  of_other : (m : ℕ) (e : Cnf) → Kept e → (m ≡ n → ⊥) → hits b k (expression_entries key (m, e)) ≡ 0
  of_other m e kept other = of_others m 0 e.clauses (omega (arith, few_clauses e kept)) other

  all_past : (m : ℕ) (es : List Cnf) → AreKept es → n < m → hits b k (flat_map (expression_entries key) (enumerate_from m es)) ≡ 0
  all_past m [] kept h = refl
  all_past m (e ∷ es) kept h =
      let first : hits b k (expression_entries key (m, e)) ≡ 0 = of_other m e (All-head Kept e es kept) (λ same. absurd (omega (arith, same, h))) in
      let later : hits b k (flat_map (expression_entries key) (enumerate_from (m + 1) es)) ≡ 0 = all_past (m + 1) es (All-tail Kept e es kept) (omega (arith, h)) in
      omega (arith, split_all m es e, first, later)

  abbrev of_expression : Cnf → ℕ
  of_expression e = option_map_or (namers b key) (slice_get e.clauses i) 0

  all_at : (m t : ℕ) (es : List Cnf) → AreKept es → m + t ≡ n → hits b k (flat_map (expression_entries key) (enumerate_from m es)) ≡ option_map_or of_expression (slice_get es t) 0
  all_at m t [] kept is = refl
  all_at m zero (e ∷ es) kept is =
      let same : m ≡ n = omega (arith, is) in
      let first : hits b k (expression_entries key (m, e)) ≡ of_expression e = ap (λ x. hits b k (expression_entries key (x, e))) same ∙ at 0 i e.clauses (omega arith) in
      let later : hits b k (flat_map (expression_entries key) (enumerate_from (m + 1) es)) ≡ 0 = all_past (m + 1) es (All-tail Kept e es kept) (omega (arith, is)) in
      omega (arith, split_all m es e, first, later)
  all_at m (suc t) (e ∷ es) kept is =
      let first : hits b k (expression_entries key (m, e)) ≡ 0 = of_other m e (All-head Kept e es kept) (λ same. absurd (omega (arith, same, is))) in
      let later : hits b k (flat_map (expression_entries key) (enumerate_from (m + 1) es)) ≡ option_map_or of_expression (slice_get es t) 0 = all_at (m + 1) t es (All-tail Kept e es kept) (omega (arith, is)) in
      omega (arith, split_all m es e, first, later)

  pub list_hits : (es : List Cnf) → AreKept es → hits b k (entries_of es key) ≡ option_map_or of_expression (slice_get es n) 0
  unfolding entries_of
  list_hits es kept = all_at 0 n es kept (omega arith)

-- ---- the lists of an assignment's pairs

abbrev pub entries_for : List Cnf → List (Attr × List ℕ) → List Entry
entries_for es a = flat_map (λ (q : Attr × List ℕ). entries_of es (key_of q)) a

each_list : (b : Bool) (k : ℕ) (es : List Cnf) (a : Pairs) → hits b k (entries_for es a) ≡ sum_by (λ (q : Attr × List ℕ). hits b k (entries_of es (key_of q))) a
each_list b k es [] = refl
each_list b k es (q ∷ a) =
    let later : hits b k (entries_for es a) ≡ sum_by (λ (r : Attr × List ℕ). hits b k (entries_of es (key_of r))) a = each_list b k es a in
    omega (arith, hits_more b k (entries_of es (key_of q)) (entries_for es a), later, sum_by-cons (λ (r : Attr × List ℕ). hits b k (entries_of es (key_of r))) q a)

sums_agree : {X : Type 0} (f g : X → ℕ) → ((x : X) → f x ≡ g x) → (xs : List X) → sum_by f xs ≡ sum_by g xs
sums_agree f g same [] = refl
sums_agree f g same (x ∷ xs) = omega (arith, sum_by-cons f x xs, sum_by-cons g x xs, same x, sums_agree f g same xs)

sums_both : {X : Type 0} (f g h : X → ℕ) → ((x : X) → f x ≡ g x + h x) → (xs : List X) → sum_by f xs ≡ sum_by g xs + sum_by h xs
sums_both f g h same [] = omega arith
sums_both f g h same (x ∷ xs) = omega (arith, sum_by-cons f x xs, sum_by-cons g x xs, sum_by-cons h x xs, same x, sums_both f g h same xs)

sum_nothing : {X : Type 0} (xs : List X) → sum_by (λ _. 0) xs ≡ 0
sum_nothing [] = refl
sum_nothing {X} (x ∷ xs) = omega (arith, sum_by-cons (λ (_ : X). 0) x xs, sum_nothing xs)

-- one predicate is named by as many pairs as make it true as an "in"
one_named : (p : Pred) (s : Bool) (a : Pairs) → are_single a ≡ true → sum_by (λ (q : Attr × List ℕ). cond (names (key_of q) p && s) 1 0) a ≡ cond (is_in a p && s) 1 0
one_named p true a single = sums_agree (λ (q : Attr × List ℕ). cond (named_by p q && true) 1 0) (λ (q : Attr × List ℕ). cond (named_by p q) 1 0) (λ q. as_it_is (named_by p q)) a ∙ in_once p a single ∙ sym (as_it_is (is_in a p))
  where
    as_it_is : (t : Bool) → cond {A = ℕ} (t && true) 1 0 ≡ cond {A = ℕ} t 1 0
    as_it_is true = refl
    as_it_is false = refl
one_named p false a single = sums_agree (λ (q : Attr × List ℕ). cond (named_by p q && false) 1 0) (λ _. 0) (λ q. nothing (named_by p q)) a ∙ sum_nothing a ∙ sym (nothing (is_in a p))
  where
    nothing : (t : Bool) → cond {A = ℕ} (t && false) 1 0 ≡ 0
    nothing true = refl
    nothing false = refl

-- how many predicates of that sign have their "in" true
abbrev pub true_ins : Bool → List (Attr × List ℕ) → List Pred → ℕ
true_ins negated a c = count_by (λ (p : Pred). is_in a p && is_of_sign negated p) c

clause_found : (b : Bool) (a : Pairs) (c : List Pred) → are_single a ≡ true → sum_by (λ (q : Attr × List ℕ). namers b (key_of q) c) a ≡ true_ins b a c
clause_found b a [] single = sum_nothing a
clause_found b a (p ∷ c) single =
    let s = is_of_sign b p in
    let both : sum_by (λ (q : Attr × List ℕ). namers b (key_of q) (p ∷ c)) a ≡ sum_by (λ (q : Attr × List ℕ). cond (names (key_of q) p && s) 1 0) a + sum_by (λ (q : Attr × List ℕ). namers b (key_of q) c) a =
    sums_both (λ (q : Attr × List ℕ). namers b (key_of q) (p ∷ c)) (λ (q : Attr × List ℕ). cond (names (key_of q) p && s) 1 0) (λ (q : Attr × List ℕ). namers b (key_of q) c)
    (λ q. counted (λ (r : Pred). names (key_of q) r && is_of_sign b r) p c) a in
    omega (arith, both, one_named p s a single, clause_found b a c single, counted (λ (r : Pred). is_in a r && is_of_sign b r) p c)

-- what the lists say of the clause i of the expression n
pub found_hits : (b : Bool) (a : Pairs) (es : List Cnf) (n i : ℕ) (e : Cnf) → AreKept es → are_single a ≡ true → i < 16 → slice_get es n ≡ Some e
    → hits b (n * 16 + i) (entries_for es a) ≡ option_map_or (true_ins b a) (slice_get e.clauses i) 0
found_hits b a es n i e kept single within there =
    each_list b (n * 16 + i) es a
    ∙ sums_agree (λ (q : Attr × List ℕ). hits b (n * 16 + i) (entries_of es (key_of q))) (λ (q : Attr × List ℕ). option_map_or (namers b (key_of q)) (slice_get e.clauses i) 0)
    (λ q. list_hits b (key_of q) n i within es kept ∙ ap (λ (o : Option Cnf). option_map_or (λ (x : Cnf). option_map_or (namers b (key_of q)) (slice_get x.clauses i) 0) o 0) there) a
    ∙ by (slice_get e.clauses i)
  where
    by : (o : Option (List Pred)) → sum_by (λ (q : Attr × List ℕ). option_map_or (namers b (key_of q)) o 0) a ≡ option_map_or (true_ins b a) o 0
    by None = sum_nothing a
    by (Some c) = clause_found b a c single
