-- One call more.
use Rattle.std.specs.Prelude.{◌≡◌, List, [], ◌∷◌, ◌++◌, map}
use Rattle.std.proofs.Common.{ap, ◌∙◌}
use Rattle.std.proofs.lemmas.List.{map-append}
use Rattle.follow_cases.specs.Saw.{shown_of}
use Rattle.follow_cases.specs.declared.growing_disk.Saw.{Saw}

pub one_kept : (old new : List Saw) (one : Saw) → new ≡ old ++ one ∷ [] → map shown_of new ≡ map shown_of old ++ shown_of one ∷ []
one_kept old new one is = ap (map shown_of) is ∙ map-append shown_of old (one ∷ [])
