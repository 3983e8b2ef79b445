-- Pieces that are written one after the other are those of an object and of an array.
use Rattle.std.proofs.Common.{◌≡◌, ℕ, List, [], ◌∷◌, ◌++◌, Bool, true, false, cond, sym, ap, ◌∙◌, append-nil}
use Rattle.json_out.specs.Inside.{in_array, put_members}
use Rattle.json_out.specs.Texts.{Member}
use Rattle.json_out.specs.Writer.{Written, put_value}
use Rattle.json_out.proofs.Objects.{element_more, put_members-append}

pub five_joined : (w : Written) (a b c d e : List Member)
    → put_members (put_members (put_members (put_members (put_members w a) b) c) d) e ≡ put_members w (a ++ (b ++ (c ++ (d ++ e))))
five_joined w a b c d e =
    let wa = put_members w a in
    let wb = put_members wa b in
    sym (put_members-append w a (b ++ (c ++ (d ++ e)))
    ∙ put_members-append wa b (c ++ (d ++ e))
    ∙ put_members-append wb c (d ++ e)
    ∙ put_members-append (put_members wb c) d e)

-- an element more where the test is true, and where it is false
pub element_if : (w : Written) (vs : List (List ℕ)) (b : Bool) (v : List ℕ) → cond b (put_value (in_array w vs) v) (in_array w vs) ≡ in_array w (vs ++ cond b (v ∷ []) [])
element_if w vs true v = element_more w vs v
element_if w vs false v = ap (in_array w) (sym (append-nil vs))

pub element_unless : (w : Written) (vs : List (List ℕ)) (b : Bool) (v : List ℕ) → cond b (in_array w vs) (put_value (in_array w vs) v) ≡ in_array w (vs ++ cond b [] (v ∷ []))
element_unless w vs true v = ap (in_array w) (sym (append-nil vs))
element_unless w vs false v = element_more w vs v
