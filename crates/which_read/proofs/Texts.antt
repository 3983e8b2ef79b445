-- The texts of an array, as a list of texts is read.
use Rattle.std.proofs.Common.{◌≡◌, ℕ, ◌+◌, List, [], ◌∷◌, ◌++◌, map, refl, ap, ◌∙◌}
use Rattle.std.specs.List.{enumerate_from, flat_map}
use Rattle.exact_json.specs.Tree.{Tree, null, boolean, number, string, array, object}
use Rattle.exact_json.specs.View.{tree_of}
use Rattle.exact_json.specs.declared.value.Value.{Value}
use Rattle.json_fields.specs.Fields.{as_text}
use Rattle.json_fields.specs.Items.{item_at, items_in}
use Rattle.json_fields.specs.Readings.{each_at, each_in}
use Rattle.cnf_match.specs.Listed.{text_of, texts_of}

text_there : (n : ℕ) (t : Tree) → (item_at [] as_text n t).value ≡ text_of t
unfolding item_at as_text text_of
text_there n null = refl
text_there n (boolean b) = refl
text_there n (number s) = refl
text_there n (string s) = refl
text_there n (array ts) = refl
text_there n (object ps) = refl

texts_there : (n : ℕ) (ts : List Tree) → flat_map (λ (p : ℕ × Tree). (item_at [] as_text p.0 p.1).value ∷ []) (enumerate_from n ts) ≡ map text_of ts
texts_there n [] = refl
texts_there n (t ∷ ts) = ap (λ x. x ∷ flat_map (λ (p : ℕ × Tree). (item_at [] as_text p.0 p.1).value ∷ []) (enumerate_from (n + 1) ts)) (text_there n t) ∙ ap (λ xs. text_of t ∷ xs) (texts_there (n + 1) ts)

seen : (vs : List Value) → map text_of (map tree_of vs) ≡ texts_of vs
seen [] = refl
seen (v ∷ vs) = ap (λ xs. text_of (tree_of v) ∷ xs) (seen vs)

pub texts_read : (vs : List Value) → (items_in [] as_text (map tree_of vs)).value ≡ texts_of vs
unfolding each_in each_at
texts_read vs = texts_there 0 (map tree_of vs) ∙ seen vs
