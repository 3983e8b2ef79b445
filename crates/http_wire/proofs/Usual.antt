-- How most write the name of the length of a body.
use Rattle.std.proofs.Common.{◌≡◌, ℕ, Bool, true, List, codes, bytes_eq, refl, sym, ap, ◌∙◌}
use Rattle.std.proofs.lemmas.Slice.Eq.{bytes_eq-Decides}
use Rattle.http_wire.specs.Rules.{Field, is_named, same_word}

same_usual : same_word (codes "Content-Length") (codes "content-length") ≡ true
unfolding same_word
same_usual = refl

pub usual_name : (name : List ℕ) (field : Field) → field.0 ≡ name → bytes_eq name (codes "Content-Length") ≡ true → is_named (codes "content-length") field ≡ true
usual_name name field same e =
    let is = (bytes_eq-Decides name (codes "Content-Length")).0 e in
    ap (λ n. same_word n (codes "content-length")) (same ∙ is) ∙ same_usual
