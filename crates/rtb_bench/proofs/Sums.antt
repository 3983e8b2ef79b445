-- What is in a value is less than what is in its array, and what is in a member less than what is in its object.
use Rattle.std.proofs.Common.{◌≡◌, ℕ, ◌+◌, ◌*◌, ◌≤◌, ◌<◌, List, [], ◌∷◌, length, get_or, zero, suc, arith}
use Rattle.exact_json.specs.Tree.{Tree, null, boolean, number, string, array, object, Trees, no_trees, tree, Pairs, no_pairs, pair}
use Rattle.exact_json.specs.declared.value.Member.{Member}
use Rattle.exact_json.specs.declared.value.Value.{Value}
use Rattle.exact_json.specs.View.{pair_of, tree_of, trees_of, pairs_of}

-- how many values there are: each null, boolean, number, string, array and object is one
abbrev mutual
  pub values_in : Tree → ℕ
  values_in null = 1
  values_in (boolean b) = 1
  values_in (number s) = 1
  values_in (string s) = 1
  values_in (array ts) = 1 + trees_values ts
  values_in (object ps) = 1 + pairs_values ps

  pub trees_values : Trees → ℕ
  trees_values no_trees = 0
  trees_values (tree t ts) = values_in t + trees_values ts

  pub pairs_values : Pairs → ℕ
  pairs_values no_pairs = 0
  pairs_values (pair k t ps) = values_in t + pairs_values ps

pub below : (vs : List Value) (i : ℕ) (d : Value) → i < length vs → 3 * values_in (tree_of (get_or vs i d)) < 3 * trees_values (trees_of vs) + 2
below [] i d h = omega arith
below (v ∷ vs) zero d h = omega arith
below (v ∷ vs) (suc i) d h = omega (arith, below vs i d (omega arith))

pub pair_below : (ms : List Member) (i : ℕ) (d : Member) (t : ℕ) → i < length ms → t ≡ 3 * pairs_values (pairs_of ms) + 2 → 3 * values_in (pair_of (get_or ms i d)).1 + 1 < t
pair_below ms i d t h is = omega (arith, inside ms i d h, is)
  where
    inside : (ms : List Member) (i : ℕ) (d : Member) → i < length ms → values_in (pair_of (get_or ms i d)).1 ≤ pairs_values (pairs_of ms)
    inside [] i d h = omega arith
    inside (m ∷ ms) zero d h = omega arith
    inside (m ∷ ms) (suc i) d h = omega (arith, inside ms i d (omega arith))
