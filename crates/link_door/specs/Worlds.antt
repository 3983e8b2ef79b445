-- What a world hands out, where it is told what it has, and what it was asked for.
use Rattle.std.specs.Prelude.{◌≡◌, ◌⊎◌, List, [], ◌∷◌, ◌++◌, Option, None, Some, Result, Ok, Err, ⊤}
use Rattle.link_door.specs.declared.asked.Asked.{Asked}

-- the first of what was left
abbrev pub HandsOut : {Item : Type 0} → Option (List Item) → Option (List Item) → List Item → Type 0
HandsOut None new given = ⊤
HandsOut {Item} (Some old) new given = (rest : List Item) × (old ≡ given ++ rest) × (new ≡ Some rest)

-- it was asked for this and for nothing else, or for nothing: memory for the note of it may be refused
abbrev pub AsksAtMost : List Asked → List Asked → Asked → Type 0
AsksAtMost old new what = (new ≡ old) ⊎ (new ≡ old ++ what ∷ [])

-- a call that asks for this: where it hands something out it was asked for this
abbrev pub Asks : {T E : Type 0} → List Asked → List Asked → Asked → Result T E → Type 0
Asks old new what (Ok given) = new ≡ old ++ what ∷ []
Asks old new what (Err fault) = AsksAtMost old new what

-- The same of a call that hands nothing out as long as it would have to wait. That leaves no note, so that what is asked for
-- again and again stands there once.
abbrev pub AsksAgain : {T E : Type 0} → List Asked → List Asked → Asked → Result (Option T) E → Type 0
AsksAgain old new what (Ok None) = new ≡ old
AsksAgain old new what (Ok (Some given)) = new ≡ old ++ what ∷ []
AsksAgain old new what (Err fault) = AsksAtMost old new what
