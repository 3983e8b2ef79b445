use Rattle.session.proofs.Served.{none_served}
use Rattle.session.proofs.serve.serve_link_in.Goals as goal

pub returns-in-Err-clause-served : goal.returns-in-Err-clause-served
returns-in-Err-clause-served g c = none_served g.S.Service.answers _ _ _ _
