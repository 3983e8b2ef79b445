-- Two disks that a world handed out one after the other.
use Rattle.std.proofs.Common.{◌≡◌, ◌∙◌, List, [], ◌∷◌, Option, None, Some, ap, subst}
use Rattle.link_door.specs.Worlds.{HandsOut}

pub hands_two : {Item : Type 0} (disks left left' : Option (List Item)) (x y : Item) → HandsOut disks left (x ∷ []) → HandsOut left left' (y ∷ []) → HandsOut disks left' (x ∷ y ∷ [])
hands_two None left left' x y first second = tt
hands_two (Some old) left left' x y first second =
    let next = subst (λ l. HandsOut l left' (y ∷ [])) first.2 second in
    (next.0, first.1 ∙ ap (λ l. x ∷ l) next.1, next.2)
