-- What the posting lists of a part have of one conjunction.
use Rattle.std.proofs.Common.{◌≡◌, ℕ, ◌+◌, ◌≤◌, ◌<◌, ◌==◌, ◌&&◌, ◌||◌, List, [], ◌∷◌, ◌++◌, Bool, true, false, cond, Option, Some, None, find, length, map, refl, sym, ◌∙◌, ap, arith}
use Rattle.std.specs.Prelude.{option_map}
use Rattle.std.specs.List.{cons_option, enumerate_from, filter_map, list_any}
use Rattle.std.specs.Option.{option_map_or}
use Rattle.std.proofs.lemmas.Bool.Decides.{nat_tests}
use Rattle.postings.specs.declared.entry.Entry.{Entry}
use Rattle.target_expr.specs.declared.pred.Pred.{Pred}
use Rattle.target_expr.specs.Pairs.{size_of}
use Rattle.conj_index.specs.declared.key.Key.{Key}
use Rattle.conj_index.specs.Content.{Listed, entry_under, names, of_size}

-- the list has an entry of the conjunction of the kind that is asked for
abbrev pub has : (Bool → Bool) → ℕ → List Entry → Bool
has kind id es = list_any (λ (e : Entry). (e.id == id) && kind e.negated) es

-- the entries under the key, of conjunctions that are numbered from n
abbrev pub numbered : ℕ → ℕ → Key → List Listed → List Entry
numbered n k key cs = filter_map (entry_under key) (of_size k (enumerate_from n cs))

-- what the conjunction has under the key, where it is of that size
abbrev pub shows : (Bool → Bool) → ℕ → Key → Listed → Bool
shows kind k key c = (size_of c.preds == k) && option_map_or (λ (p : Pred). kind p.negated) (find (names key) c.preds) false

unlike : (m n : ℕ) (b : Bool) → (m ≡ n → ⊥) → ((m == n) && b) ≡ false
unlike m n b h = grind (arith, nat_tests, h)

alike : (m n : ℕ) (b : Bool) → m ≡ n → ((m == n) && b) ≡ b
alike m n b h = grind (arith, nat_tests, h)

or_false : (b : Bool) → (b || false) ≡ b
or_false true = refl
or_false false = refl

-- the entry that a conjunction has at its number, before those behind it
one_there : (kind : Bool → Bool) (id n : ℕ) (o : Option Pred) (rest : List Entry)
    → has kind id (cons_option (option_map (λ (p : Pred). record { id = n; negated = p.negated }) o) rest) ≡ (((n == id) && option_map_or (λ (p : Pred). kind p.negated) o false) || has kind id rest)
one_there kind id n (Some p) rest = refl
one_there kind id n None rest = ap (λ b. b || has kind id rest) (sym (never (n == id)))
  where
    never : (b : Bool) → (b && false) ≡ false
    never true = refl
    never false = refl

first_numbered : (kind : Bool → Bool) (id n k : ℕ) (key : Key) (c : Listed) (cs : List Listed)
    → has kind id (numbered n k key (c ∷ cs)) ≡ (((n == id) && shows kind k key c) || has kind id (numbered (n + 1) k key cs))
first_numbered kind id n k key c cs = by_size (size_of c.preds == k)
  where
    by_size : (b : Bool) → has kind id (filter_map (entry_under key) (cond b ((n, c) ∷ of_size k (enumerate_from (n + 1) cs)) (of_size k (enumerate_from (n + 1) cs))))
        ≡ (((n == id) && (b && option_map_or (λ (p : Pred). kind p.negated) (find (names key) c.preds) false)) || has kind id (numbered (n + 1) k key cs))
    by_size true = one_there kind id n (find (names key) c.preds) (numbered (n + 1) k key cs)
    by_size false = sym (ap (λ b. b || has kind id (numbered (n + 1) k key cs)) (never (n == id)))
      where
        never : (b : Bool) → (b && false) ≡ false
        never true = refl
        never false = refl

-- no entry of a lower number
pub none_below : (kind : Bool → Bool) (id n k : ℕ) (key : Key) (cs : List Listed) → id < n → has kind id (numbered n k key cs) ≡ false
none_below kind id n k key [] lt = refl
none_below kind id n k key (c ∷ cs) lt =
    first_numbered kind id n k key c cs
    ∙ ap (λ b. b || has kind id (numbered (n + 1) k key cs)) (unlike n id (shows kind k key c) (λ e. omega (arith, e)))
    ∙ none_below kind id (n + 1) k key cs (omega arith)

-- none past the last
pub none_past : (kind : Bool → Bool) (id n k : ℕ) (key : Key) (cs : List Listed) → n + length cs ≤ id → has kind id (numbered n k key cs) ≡ false
none_past kind id n k key [] le = refl
none_past kind id n k key (c ∷ cs) le =
    first_numbered kind id n k key c cs
    ∙ ap (λ b. b || has kind id (numbered (n + 1) k key cs)) (unlike n id (shows kind k key c) (λ e. omega (arith, e, le)))
    ∙ none_past kind id (n + 1) k key cs (omega (arith, le))

-- that of the conjunction itself
pub one_at : (kind : Bool → Bool) (n k : ℕ) (key : Key) (front : List Listed) (c : Listed) (back : List Listed) (id : ℕ) → id ≡ n + length front → has kind id (numbered n k key (front ++ c ∷ back)) ≡ shows kind k key c
one_at kind n k key [] c back id e =
    first_numbered kind id n k key c back
    ∙ ap (λ b. ((n == id) && shows kind k key c) || b) (none_below kind id (n + 1) k key back (omega (arith, e)))
    ∙ or_false ((n == id) && shows kind k key c) ∙ alike n id (shows kind k key c) (omega (arith, e))
one_at kind n k key (d ∷ front) c back id e =
    first_numbered kind id n k key d (front ++ c ∷ back)
    ∙ ap (λ b. b || has kind id (numbered (n + 1) k key (front ++ c ∷ back))) (unlike n id (shows kind k key d) (λ f. omega (arith, e, f)))
    ∙ one_at kind (n + 1) k key front c back id (omega (arith, e))

-- ---- the zero list

abbrev pub zeros : ℕ → List Listed → List Entry
zeros n cs = map (λ (q : ℕ × Listed). record { id = q.0; negated = false }) (of_size 0 (enumerate_from n cs))

first_zero : (kind : Bool → Bool) (id n : ℕ) (c : Listed) (cs : List Listed) → has kind id (zeros n (c ∷ cs)) ≡ (((n == id) && ((size_of c.preds == 0) && kind false)) || has kind id (zeros (n + 1) cs))
first_zero kind id n c cs = by_size (size_of c.preds == 0)
  where
    by_size : (b : Bool) → has kind id (map (λ (q : ℕ × Listed). record { id = q.0; negated = false }) (cond b ((n, c) ∷ of_size 0 (enumerate_from (n + 1) cs)) (of_size 0 (enumerate_from (n + 1) cs))))
        ≡ (((n == id) && (b && kind false)) || has kind id (zeros (n + 1) cs))
    by_size true = refl
    by_size false = sym (ap (λ b. b || has kind id (zeros (n + 1) cs)) (never (n == id)))
      where
        never : (b : Bool) → (b && false) ≡ false
        never true = refl
        never false = refl

pub zero_below : (kind : Bool → Bool) (id n : ℕ) (cs : List Listed) → id < n → has kind id (zeros n cs) ≡ false
zero_below kind id n [] lt = refl
zero_below kind id n (c ∷ cs) lt =
    first_zero kind id n c cs ∙ ap (λ b. b || has kind id (zeros (n + 1) cs)) (unlike n id ((size_of c.preds == 0) && kind false) (λ e. omega (arith, e))) ∙ zero_below kind id (n + 1) cs (omega arith)

pub zero_past : (kind : Bool → Bool) (id n : ℕ) (cs : List Listed) → n + length cs ≤ id → has kind id (zeros n cs) ≡ false
zero_past kind id n [] le = refl
zero_past kind id n (c ∷ cs) le =
    first_zero kind id n c cs ∙ ap (λ b. b || has kind id (zeros (n + 1) cs)) (unlike n id ((size_of c.preds == 0) && kind false) (λ e. omega (arith, e, le))) ∙ zero_past kind id (n + 1) cs (omega (arith, le))

pub zero_at : (kind : Bool → Bool) (n : ℕ) (front : List Listed) (c : Listed) (back : List Listed) (id : ℕ) → id ≡ n + length front → has kind id (zeros n (front ++ c ∷ back)) ≡ ((size_of c.preds == 0) && kind false)
zero_at kind n [] c back id e =
    first_zero kind id n c back ∙ ap (λ b. ((n == id) && ((size_of c.preds == 0) && kind false)) || b) (zero_below kind id (n + 1) back (omega (arith, e)))
    ∙ or_false ((n == id) && ((size_of c.preds == 0) && kind false)) ∙ alike n id ((size_of c.preds == 0) && kind false) (omega (arith, e))
zero_at kind n (d ∷ front) c back id e =
    first_zero kind id n d (front ++ c ∷ back)
    ∙ ap (λ b. b || has kind id (zeros (n + 1) (front ++ c ∷ back))) (unlike n id ((size_of d.preds == 0) && kind false) (λ f. omega (arith, e, f)))
    ∙ zero_at kind (n + 1) front c back id (omega (arith, e))
