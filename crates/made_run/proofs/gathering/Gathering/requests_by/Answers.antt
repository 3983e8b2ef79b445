use Rattle.std.proofs.Common.{ℕ, subst, sym}
use Rattle.std.specs.Prelude.{codes}
use Rattle.http_wire.specs.declared.message.Message.{Message}
use Rattle.made_run.specs.Standing.{IsPostTo}
use Rattle.made_run.proofs.gathering.Gathering.requests_by.Goals as goal

pub requests_over-gathered-requires-clause-post : goal.requests_over-gathered-requires-clause-post
requests_over-gathered-requires-clause-post g c =
    subst (λ (p : ℕ × Message). IsPostTo (codes "/openrtb2/auction") p.1) (sym c.entry_of-entry.ensures) c.in_ok-message.ensures
