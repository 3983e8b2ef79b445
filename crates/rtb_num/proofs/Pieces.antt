-- What one more piece appends.
use Rattle.std.proofs.Common.{◌≡◌, ℕ, ◌+◌, ◌<◌, List, [], ◌∷◌, ◌++◌, length, take, get_or, map, sym, ap, ◌∙◌, append_assoc, append-nil}
use Rattle.std.specs.List.{concat}
use Rattle.std.specs.Borrow.{Bor}
use Rattle.std.proofs.lemmas.List.{map_push, take_more}
use Rattle.std.proofs.lemmas.List.Folds.{concat-append}

pub one_piece : (o : List ℕ) (ps : List (Bor (List ℕ))) (k : ℕ) (d : Bor (List ℕ)) → k < length ps → (o ++ concat (map (λ p. p.now) (take k ps))) ++ (get_or ps k d).now ≡ o ++ concat (map (λ p. p.now) (take (k + 1) ps))
one_piece o ps k d lt =
    let p = get_or ps k d in
    let before = map (λ (q : Bor (List ℕ)). q.now) (take k ps) in
    let front : map (λ (q : Bor (List ℕ)). q.now) (take (k + 1) ps) ≡ before ++ p.now ∷ [] =
    ap (map (λ (q : Bor (List ℕ)). q.now)) (take_more ps k d lt) ∙ map_push (λ (q : Bor (List ℕ)). q.now) (take k ps) p in
    append_assoc o (concat before) p.now
    ∙ ap (λ l. o ++ l) (ap (λ l. concat before ++ l) (sym (append-nil p.now)) ∙ sym (concat-append before (p.now ∷ [])) ∙ ap concat (sym front))
