-- What one more element adds to an array that is written.
use Rattle.std.proofs.Common.{◌≡◌, ℕ, ◌+◌, ◌<◌, ◌≤◌, List, [], ◌∷◌, ◌++◌, map, take, length, get_or, sym, ap, ◌∙◌}
use Rattle.std.proofs.lemmas.List.{map_push, take_all, take_more}
use Rattle.json_out.specs.Inside.{in_array}
use Rattle.json_out.specs.Texts.{array_text}
use Rattle.json_out.specs.Writer.{Written, end, put_value}
use Rattle.json_out.proofs.Objects.{array_ends, element_more}

pub one_more : {V : Type 0} (f : V → List ℕ) (start before after : Written) (vs : List V) (k : ℕ) (d x : V) → k < length vs → x ≡ get_or vs k d
    → before ≡ in_array start (map f (take k vs)) → after ≡ put_value before (f x) → after ≡ in_array start (map f (take (k + 1) vs))
one_more f start before after vs k d x h is so_far put =
    put ∙ ap (λ w. put_value w (f x)) so_far ∙ element_more start (map f (take k vs)) (f x)
    ∙ ap (in_array start) (sym (ap (map f) (take_more vs k d h ∙ ap (λ y. take k vs ++ y ∷ []) (sym is)) ∙ map_push f (take k vs) x))

pub all_put : {V : Type 0} (f : V → List ℕ) (start last after : Written) (vs : List V) (k : ℕ) → length vs ≤ k → last ≡ in_array start (map f (take k vs)) → after ≡ end last
    → after ≡ put_value start (array_text (map f vs))
all_put f start last after vs k h so_far ended =
    ended ∙ ap end so_far ∙ array_ends start (map f (take k vs)) ∙ ap (λ l. put_value start (array_text (map f l))) (take_all k vs h)
