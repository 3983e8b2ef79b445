-- The fields of a request for the best expressions: their names, and how the path of one is written.
use Rattle.std.specs.Prelude.{ℕ, List, ◌++◌, codes}
use Rattle.rtb_num.specs.Paths.{place}
use Rattle.which_read.specs.declared.field.WhichField.{WhichField}

-- the name that a field has as a member of its object; an entry of a list has that of the list
abbrev pub member_name : WhichField → List ℕ
member_name WhichField.N = codes "n"
member_name WhichField.Assignment = codes "assignment"
member_name WhichField.Expressions = codes "expressions"
member_name (WhichField.Expression i) = codes "expressions"
member_name (WhichField.All i) = codes "all"
member_name (WhichField.Clause i j) = codes "all"
member_name (WhichField.Predicate i j k) = codes "all"
member_name (WhichField.PredicateAttr i j k) = codes "attr"
member_name (WhichField.In i j k) = codes "in"
member_name (WhichField.InItem i j k l) = codes "in"
member_name (WhichField.Not i j k) = codes "not"
member_name (WhichField.NotItem i j k l) = codes "not"
member_name (WhichField.Weights i) = codes "weights"
member_name (WhichField.Weight i j) = codes "weights"
member_name (WhichField.WeightAttr i j) = codes "attr"
member_name (WhichField.WeightValue i j) = codes "value"
member_name (WhichField.WeightNumber i j) = codes "weight"

-- the element at a place of a list of values
abbrev pub item_of : WhichField → ℕ → WhichField
item_of (WhichField.In i j k) l = WhichField.InItem i j k l
item_of (WhichField.Not i j k) l = WhichField.NotItem i j k l
item_of field l = field

-- an expression, a member of it, and an entry of that
abbrev pub expression_path : ℕ → List ℕ
expression_path i = codes "expressions" ++ place i

abbrev pub inside : ℕ → List ℕ → List ℕ
inside i name = expression_path i ++ codes "." ++ name

abbrev pub entry_path : ℕ → List ℕ → ℕ → List ℕ
entry_path i name j = inside i name ++ place j

-- a predicate, and a member of it
abbrev pub predicate_path : ℕ → ℕ → ℕ → List ℕ
predicate_path i j k = entry_path i (codes "all") j ++ place k

abbrev pub in_predicate : ℕ → ℕ → ℕ → List ℕ → List ℕ
in_predicate i j k name = predicate_path i j k ++ codes "." ++ name

-- a member of a weight
abbrev pub in_weight : ℕ → ℕ → List ℕ → List ℕ
in_weight i j name = entry_path i (codes "weights") j ++ codes "." ++ name

abbrev pub which_path : WhichField → List ℕ
which_path WhichField.N = codes "n"
which_path WhichField.Assignment = codes "assignment"
which_path WhichField.Expressions = codes "expressions"
which_path (WhichField.Expression i) = expression_path i
which_path (WhichField.All i) = inside i (codes "all")
which_path (WhichField.Clause i j) = entry_path i (codes "all") j
which_path (WhichField.Predicate i j k) = predicate_path i j k
which_path (WhichField.PredicateAttr i j k) = in_predicate i j k (codes "attr")
which_path (WhichField.In i j k) = in_predicate i j k (codes "in")
which_path (WhichField.InItem i j k l) = in_predicate i j k (codes "in") ++ place l
which_path (WhichField.Not i j k) = in_predicate i j k (codes "not")
which_path (WhichField.NotItem i j k l) = in_predicate i j k (codes "not") ++ place l
which_path (WhichField.Weights i) = inside i (codes "weights")
which_path (WhichField.Weight i j) = entry_path i (codes "weights") j
which_path (WhichField.WeightAttr i j) = in_weight i j (codes "attr")
which_path (WhichField.WeightValue i j) = in_weight i j (codes "value")
which_path (WhichField.WeightNumber i j) = in_weight i j (codes "weight")
