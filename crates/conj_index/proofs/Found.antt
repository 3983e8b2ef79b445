-- The lists that are found for an assignment match exactly the conjunctions that are true under it.
use Rattle.std.proofs.Common.{◌≡◌, ℕ, zero, suc, ◌+◌, ◌≤◌, ◌==◌, ◌&&◌, ◌||◌, not, max, nat_le, List, [], ◌∷◌, ◌++◌, Bool, true, false, cond, count_by, Option, Some, None, length, refl, sym, ◌∙◌, ap, arith}
use Rattle.std.specs.List.{cons_option, filter_map, list_any}
use Rattle.std.specs.Option.{option_map_or}
use Rattle.std.proofs.lemmas.Bool.Decides.{nat_tests}
use Rattle.std.proofs.lemmas.List.Folds.{list_any-append}
use Rattle.conj_match.specs.Matching.{has_negated, has_plain, is_match}
use Rattle.postings.specs.declared.entry.Entry.{Entry}
use Rattle.target_expr.specs.declared.attr.Attr.{Attr}
use Rattle.target_expr.specs.declared.pred.Pred.{Pred}
use Rattle.target_expr.specs.Pairs.{size_of}
use Rattle.target_expr.specs.Truth.{are_single, conjunction_holds}
use Rattle.conj_index.specs.Content.{Listed, entries_of, zero_entries, zero_lists}
use Rattle.conj_index.proofs.Matches.{are_apart, asked, counted, excluded, is_negated, is_plain, key_of, true_where, under}
use Rattle.conj_index.proofs.Entries.{has, none_past, one_at, shows, zero_at, zero_past, zeros}

-- ---- lists that are found or not

pub any_found : {Q X : Type 0} (g : Q → Option X) (f : X → Bool) (h : Q → Bool) (a : List Q) → ((q : Q) → option_map_or f (g q) false ≡ h q) → list_any f (filter_map g a) ≡ list_any h a
any_found g f h [] same = refl
any_found {Q} {X} g f h (q ∷ a) same = one (g q) (filter_map g a) ∙ ap (λ b. b || list_any f (filter_map g a)) (same q) ∙ ap (λ b. h q || b) (any_found g f h a same)
  where
    one : (o : Option X) (rest : List X) → list_any f (cons_option o rest) ≡ (option_map_or f o false || list_any f rest)
    one None rest = refl
    one (Some x) rest = refl

pub count_found : {Q X : Type 0} (g : Q → Option X) (f : X → Bool) (h : Q → Bool) (a : List Q) → ((q : Q) → option_map_or f (g q) false ≡ h q) → count_by f (filter_map g a) ≡ count_by h a
count_found g f h [] same = refl
count_found {Q} {X} g f h (q ∷ a) same =
    let first : cond (option_map_or f (g q) false) 1 0 ≡ cond (h q) 1 0 = ap (λ b. cond {A = ℕ} b 1 0) (same q) in
    let rest : count_by f (filter_map g a) ≡ count_by h a = count_found g f h a same in
    omega (arith, one (g q) (filter_map g a), first, rest, counted h q a)
  where
    one : (o : Option X) (rest : List X) → count_by f (cons_option o rest) ≡ cond (option_map_or f o false) 1 0 + count_by f rest
    one None rest = omega arith
    one (Some x) rest = counted f x rest

pub count_append : {X : Type 0} (f : X → Bool) (xs ys : List X) → count_by f (xs ++ ys) ≡ count_by f xs + count_by f ys
count_append f [] ys = omega arith
count_append f (x ∷ xs) ys = omega (arith, counted f x (xs ++ ys), counted f x xs, count_append f xs ys)

-- ---- a conjunction of that size, by what the pairs show

abbrev pub Pairs : Type 0
Pairs = List (Attr × List ℕ)

-- the lists that serve a part: of the pairs, and then the zero list
pub record Serves (k : ℕ) (cs : List Listed) (a : Pairs) (lists : List (List Entry)) : Type 0 where
  pub found : Attr × List ℕ → Option (List Entry)
  pub are : lists ≡ filter_map found a ++ zero_lists k cs
  pub same : (kind : Bool → Bool) (id : ℕ) (q : Attr × List ℕ) → option_map_or (has kind id) (found q) false ≡ has kind id (entries_of k cs (key_of q))

abbrev itself : Bool → Bool
itself b = b

any_same : {Q : Type 0} (f g : Q → Bool) (a : List Q) → ((q : Q) → f q ≡ g q) → list_any f a ≡ list_any g a
any_same f g [] h = refl
any_same f g (q ∷ a) h = ap (λ b. b || list_any f a) (h q) ∙ ap (λ b. g q || b) (any_same f g a h)

count_same : {Q : Type 0} (f g : Q → Bool) (a : List Q) → ((q : Q) → f q ≡ g q) → count_by f a ≡ count_by g a
count_same f g [] h = refl
count_same f g (q ∷ a) h =
    let first : cond (f q) 1 0 ≡ cond (g q) 1 0 = ap (λ b. cond {A = ℕ} b 1 0) (h q) in
    omega (arith, counted f q a, counted g q a, first, count_same f g a h)

-- whether some found list has such an entry of the conjunction
pub any_of : (kind : Bool → Bool) (k : ℕ) (cs : List Listed) (a : Pairs) (lists : List (List Entry)) → Serves k cs a lists → (id : ℕ)
    → list_any (has kind id) lists ≡ (list_any (λ q. has kind id (entries_of k cs (key_of q))) a || list_any (has kind id) (zero_lists k cs))
any_of kind k cs a lists s id =
    ap (list_any (has kind id)) s.are ∙ list_any-append (has kind id) (filter_map s.found a) (zero_lists k cs)
    ∙ ap (λ b. b || list_any (has kind id) (zero_lists k cs)) (any_found s.found (has kind id) (λ q. has kind id (entries_of k cs (key_of q))) a (s.same kind id))

-- how many have
pub count_of : (kind : Bool → Bool) (k : ℕ) (cs : List Listed) (a : Pairs) (lists : List (List Entry)) → Serves k cs a lists → (id : ℕ)
    → count_by (has kind id) lists ≡ count_by (λ q. has kind id (entries_of k cs (key_of q))) a + count_by (has kind id) (zero_lists k cs)
count_of kind k cs a lists s id =
    ap (count_by (has kind id)) s.are ∙ count_append (has kind id) (filter_map s.found a) (zero_lists k cs)
    ∙ ap (λ n. n + count_by (has kind id) (zero_lists k cs)) (count_found s.found (has kind id) (λ q. has kind id (entries_of k cs (key_of q))) a (s.same kind id))

-- ---- one conjunction

abbrev pub pair_shows : (Bool → Bool) → ℕ → Listed → Attr × List ℕ → Bool
pair_shows kind k c q = shows kind k (key_of q) c

at_id : (kind : Bool → Bool) (k : ℕ) (front : List Listed) (c : Listed) (back : List Listed) (q : Attr × List ℕ) → has kind (length front) (entries_of k (front ++ c ∷ back) (key_of q)) ≡ pair_shows kind k c q
unfolding entries_of
at_id kind k front c back q = one_at kind 0 k (key_of q) front c back (length front) (omega arith)

zero_of : (kind : Bool → Bool) (k : ℕ) (front : List Listed) (c : Listed) (back : List Listed) → list_any (has kind (length front)) (zero_lists k (front ++ c ∷ back)) ≡ ((k == 0) && ((size_of c.preds == 0) && kind false))
unfolding zero_entries
zero_of kind k front c back = by (k == 0)
  where
    or_none : (b : Bool) → (b || false) ≡ b
    or_none true = refl
    or_none false = refl

    by : (b : Bool) → list_any (has kind (length front)) (cond b (zeros 0 (front ++ c ∷ back) ∷ []) []) ≡ (b && ((size_of c.preds == 0) && kind false))
    by true = or_none (has kind (length front) (zeros 0 (front ++ c ∷ back))) ∙ zero_at kind 0 front c back (length front) (omega arith)
    by false = refl

zeros_of : (kind : Bool → Bool) (k : ℕ) (front : List Listed) (c : Listed) (back : List Listed) → count_by (has kind (length front)) (zero_lists k (front ++ c ∷ back)) ≡ cond ((k == 0) && ((size_of c.preds == 0) && kind false)) 1 0
unfolding zero_entries
zeros_of kind k front c back = by (k == 0)
  where
    by : (b : Bool) → count_by (has kind (length front)) (cond b (zeros 0 (front ++ c ∷ back) ∷ []) []) ≡ cond (b && ((size_of c.preds == 0) && kind false)) 1 0
    by true =
        let one : cond (has kind (length front) (zeros 0 (front ++ c ∷ back))) 1 0 ≡ cond ((size_of c.preds == 0) && kind false) 1 0 = ap (λ b. cond {A = ℕ} b 1 0) (zero_at kind 0 front c back (length front) (omega arith)) in
        omega (arith, counted (has kind (length front)) (zeros 0 (front ++ c ∷ back)) [], one)
    by false = refl

-- what the pairs show of a conjunction of that size is what excludes it and what asks for it
of_that_size : (kind : Bool → Bool) (c : Listed) (q : Attr × List ℕ) → pair_shows kind (size_of c.preds) c q ≡ option_map_or (λ (p : Pred). kind p.negated) (under c.preds q) false
of_that_size kind c q = ap (λ b. b && option_map_or (λ (p : Pred). kind p.negated) (under c.preds q) false) (same (size_of c.preds))
  where
    same : (n : ℕ) → (n == n) ≡ true
    same n = grind (arith, nat_tests)

of_other_size : (kind : Bool → Bool) (k : ℕ) (c : Listed) (q : Attr × List ℕ) → (size_of c.preds ≡ k → ⊥) → pair_shows kind k c q ≡ false
of_other_size kind k c q h = ap (λ b. b && option_map_or (λ (p : Pred). kind p.negated) (under c.preds q) false) (other (size_of c.preds) k h)
  where
    other : (m n : ℕ) → (m ≡ n → ⊥) → (m == n) ≡ false
    other m n h = grind (arith, nat_tests, h)

no_count : {Q : Type 0} (a : List Q) → count_by (λ (q : Q). false) a ≡ 0
no_count [] = refl
no_count {Q} (q ∷ a) = omega (arith, counted (λ (r : Q). false) q a, no_count a)

-- a conjunction of another size is no match
pub no_match : (k : ℕ) (front : List Listed) (c : Listed) (back : List Listed) (a : Pairs) (lists : List (List Entry)) → Serves k (front ++ c ∷ back) a lists → (size_of c.preds ≡ k → ⊥)
    → is_match lists (max k 1) (length front) ≡ false
no_match k front c back a lists s h =
    let pairs : count_by (λ q. has not (length front) (entries_of k (front ++ c ∷ back) (key_of q))) a ≡ 0 =
    count_same (λ q. has not (length front) (entries_of k (front ++ c ∷ back) (key_of q))) (λ q. false) a (λ q. at_id not k front c back q ∙ of_other_size not k c q h) ∙ no_count a in
    let zero : count_by (has not (length front)) (zero_lists k (front ++ c ∷ back)) ≡ 0 = zeros_of not k front c back ∙ ap (λ b. cond {A = ℕ} b 1 0) (no_zero k (size_of c.preds) h) in
    let none : count_by (has_plain (length front)) lists ≡ 0 = omega (arith, count_of not k (front ++ c ∷ back) a lists s (length front), pairs, zero) in
    ap (λ b. not (list_any (has_negated (length front)) lists) && b) (ap (nat_le (max k 1)) none ∙ too_few k) ∙ never (not (list_any (has_negated (length front)) lists))
  where
    no_zero : (k n : ℕ) → (n ≡ k → ⊥) → ((k == 0) && ((n == 0) && true)) ≡ false
    no_zero k n h = grind (arith, nat_tests, h)

    too_few : (k : ℕ) → nat_le (max k 1) 0 ≡ false
    too_few k = grind (arith, nat_tests)

    never : (b : Bool) → (b && false) ≡ false
    never true = refl
    never false = refl

-- a conjunction of that size is a match exactly where it is true
pub match_is_true : (k : ℕ) (front : List Listed) (c : Listed) (back : List Listed) (a : Pairs) (lists : List (List Entry)) → Serves k (front ++ c ∷ back) a lists → size_of c.preds ≡ k
    → are_apart c.preds ≡ true → are_single a ≡ true → is_match lists (max k 1) (length front) ≡ conjunction_holds a c.preds
match_is_true k front c back a lists s size apart single =
    let cs = front ++ c ∷ back in
    let id = length front in
    let out : list_any (has_negated id) lists ≡ excluded c.preds a =
    any_of itself k cs a lists s id
    ∙ ap (λ b. b || list_any (has itself id) (zero_lists k cs)) (any_same (λ q. has itself id (entries_of k cs (key_of q))) (λ q. is_negated (under c.preds q)) a (λ q. at_id itself k front c back q ∙ sized itself q))
    ∙ ap (λ b. excluded c.preds a || b) (zero_of itself k front c back ∙ never_zero (k == 0) (size_of c.preds == 0)) ∙ or_none (excluded c.preds a) in
    let pairs : count_by (λ q. has not id (entries_of k cs (key_of q))) a ≡ asked c.preds a =
    count_same (λ q. has not id (entries_of k cs (key_of q))) (λ q. is_plain (under c.preds q)) a (λ q. at_id not k front c back q ∙ sized not q) in
    let zero : count_by (has not id) (zero_lists k cs) ≡ cond ((k == 0) && ((size_of c.preds == 0) && true)) 1 0 = zeros_of not k front c back in
    let all : count_by (has_plain id) lists ≡ asked c.preds a + cond ((k == 0) && ((size_of c.preds == 0) && true)) 1 0 = omega (arith, count_of not k cs a lists s id, pairs, zero) in
    ap (λ b. not b && nat_le (max k 1) (count_by (has_plain id) lists)) out
    ∙ ap (λ b. not (excluded c.preds a) && b) (ap (nat_le (max k 1)) all ∙ enough (asked c.preds a) (size_of c.preds) k size)
    ∙ sym (true_where c.preds a apart single)
  where
    sized : (kind : Bool → Bool) (q : Attr × List ℕ) → pair_shows kind k c q ≡ option_map_or (λ (p : Pred). kind p.negated) (under c.preds q) false
    sized kind q = ap (λ n. pair_shows kind n c q) (sym size) ∙ of_that_size kind c q

    never_zero : (b d : Bool) → (b && (d && false)) ≡ false
    never_zero true true = refl
    never_zero true false = refl
    never_zero false d = refl

    or_none : (b : Bool) → (b || false) ≡ b
    or_none true = refl
    or_none false = refl

    enough : (n m k : ℕ) → m ≡ k → nat_le (max k 1) (n + cond ((k == 0) && ((m == 0) && true)) 1 0) ≡ nat_le m n
    enough n m zero e = grind (arith, nat_tests, e)
    enough n m (suc k) e = grind (arith, nat_tests, e)

zero_past_of : (k : ℕ) (cs : List Listed) (id : ℕ) → length cs ≤ id → count_by (has not id) (zero_lists k cs) ≡ 0
unfolding zero_entries
zero_past_of k cs id le = by (k == 0)
  where
    by : (b : Bool) → count_by (has not id) (cond b (zeros 0 cs ∷ []) []) ≡ 0
    by true =
        let one : cond (has not id (zeros 0 cs)) 1 0 ≡ 0 = ap (λ b. cond {A = ℕ} b 1 0) (zero_past not id 0 cs (omega (arith, le))) in
        omega (arith, counted (has not id) (zeros 0 cs) [], one)
    by false = refl

past_of : (k : ℕ) (cs : List Listed) (id : ℕ) (q : Attr × List ℕ) → length cs ≤ id → has not id (entries_of k cs (key_of q)) ≡ false
unfolding entries_of
past_of k cs id q le = none_past not id 0 k (key_of q) cs (omega (arith, le))

-- a number past the last conjunction is no match
pub no_match_past : (k : ℕ) (cs : List Listed) (a : Pairs) (lists : List (List Entry)) → Serves k cs a lists → (id : ℕ) → length cs ≤ id → is_match lists (max k 1) id ≡ false
no_match_past k cs a lists s id le =
    let pairs : count_by (λ q. has not id (entries_of k cs (key_of q))) a ≡ 0 = count_same (λ q. has not id (entries_of k cs (key_of q))) (λ q. false) a (λ q. past_of k cs id q le) ∙ no_count a in
    let none : count_by (has_plain id) lists ≡ 0 = omega (arith, count_of not k cs a lists s id, pairs, zero_past_of k cs id le) in
    ap (λ b. not (list_any (has_negated id) lists) && b) (ap (nat_le (max k 1)) none ∙ too_few k) ∙ never (not (list_any (has_negated id) lists))
  where
    too_few : (k : ℕ) → nat_le (max k 1) 0 ≡ false
    too_few k = grind (arith, nat_tests)

    never : (b : Bool) → (b && false) ≡ false
    never true = refl
    never false = refl
