-- What a list is with one item more, for the loops.
use Rattle.std.proofs.Common.{◌≡◌, ℕ, ◌+◌, ◌<◌, List, [], ◌∷◌, ◌++◌, Option, map, length, take, get_or, sym, ◌∙◌, ap, append_assoc}
use Rattle.std.specs.List.{cons_option, filter_map}
use Rattle.std.proofs.lemmas.List.{take_more, map-append}
use Rattle.std.proofs.lemmas.List.Elements.{filter_map-append}

pub found_more : {Q X : Type 0} (f : Q → Option X) (qs : List Q) (i : ℕ) (d : Q) → i < length qs → filter_map f (take (i + 1) qs) ≡ filter_map f (take i qs) ++ cons_option (f (get_or qs i d)) []
found_more f qs i d h = ap (filter_map f) (take_more qs i d h) ∙ filter_map-append f (take i qs) (get_or qs i d ∷ [])

pub mapped_more : {Q X : Type 0} (f : Q → X) (qs : List Q) (i : ℕ) (d : Q) → i < length qs → map f (take (i + 1) qs) ≡ map f (take i qs) ++ f (get_or qs i d) ∷ []
mapped_more f qs i d h = ap (map f) (take_more qs i d h) ∙ map-append f (take i qs) (get_or qs i d ∷ [])

-- a turn that appends what there is of the next item
pub found_step : {Q X : Type 0} (f : Q → Option X) (qs : List Q) (before old new : List X) (i : ℕ) (d : Q) (o : Option X)
    → i < length qs → new ≡ old ++ cons_option o [] → old ≡ before ++ filter_map f (take i qs) → o ≡ f (get_or qs i d) → new ≡ before ++ filter_map f (take (i + 1) qs)
found_step {Q} {X} f qs before old new i d o h pushed was is =
    pushed ∙ ap (λ l. l ++ cons_option o []) was ∙ append_assoc before (filter_map f (take i qs)) (cons_option o [])
    ∙ ap (λ l. before ++ l) (ap (λ (p : Option X). filter_map f (take i qs) ++ cons_option p []) is ∙ sym (found_more f qs i d h))
