use Rattle.std.proofs.Common.{◌++◌, ◌∷◌, [], ℕ, List, subst}
use Rattle.std.specs.Prelude.{OnOk}
use Rattle.http_wire.specs.declared.message.Message.{Message}
use Rattle.made_run.specs.Standing.{IsSoFar}
use Rattle.made_run.proofs.gathering.Gathering.take_campaign.Goals as goal

pub returns-clause-one : goal.returns-clause-one
returns-clause-one g c =
    subst
    (λ (p : ℕ × Message). OnOk c.take-taken.result ((posts : List (ℕ × Message)) → IsSoFar posts c.args.self.now → IsSoFar (posts ++ p ∷ []) c.take-taken.new.self))
    c.entry_of-entry.ensures
    c.take-taken.ensures.one
