-- The texts that an array of a message has.
use Rattle.std.specs.Prelude.{ℕ, List, [], map}
use Rattle.exact_json.specs.Tree.{Tree, null, boolean, number, string, array, object}
use Rattle.exact_json.specs.View.{tree_of}
use Rattle.exact_json.specs.declared.value.Value.{Value}

-- the text, and the empty one of what is none
unfoldable pub text_of : Tree → List ℕ
text_of null = []
text_of (boolean b) = []
text_of (number s) = []
text_of (string s) = s
text_of (array ts) = []
text_of (object ps) = []

abbrev pub texts_of : List Value → List (List ℕ)
texts_of vs = map (λ v. text_of (tree_of v)) vs
