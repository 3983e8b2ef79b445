use Rattle.std.proofs.Common.{ap, refl}
use Rattle.auction_core.specs.Core.{CoreState}
use Rattle.made_run.proofs.SoFar.{header_for, kept_header, none_yet}
use Rattle.made_run.proofs.gathering.begin.Goals as goal

pub returns-clause-ready : goal.returns-clause-ready
returns-clause-ready c = record { header_is = header_for c.in_ok-public.ensures; keys_are = c.none.ensures; settings = ap (λ (x : CoreState). x.settings) c.new.ensures }

pub returns-clause-none : goal.returns-clause-none
returns-clause-none c = none_yet _ (ap (λ (x : CoreState). x.state) c.new.ensures) (kept_header _ c.in_ok-public.ensures c.in_ok-trace.ensures) refl refl
