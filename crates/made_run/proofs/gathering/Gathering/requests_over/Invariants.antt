use Rattle.std.proofs.Common.{◌≡◌, ◌++◌, ℕ, List}
use Rattle.std.specs.Prelude.{codes}
use Rattle.http_wire.specs.declared.message.Message.{Message}
use Rattle.made_run.specs.Runs.{requests_from}
use Rattle.made_run.specs.Standing.{IsPostTo, IsReady, IsSoFar}
use Rattle.auction_core.specs.Core.{listed}
use Rattle.conj_index.specs.Content.{IsIndexOf}
use Rattle.live_index.specs.Reached.{live_expressions}
use Rattle.made_run.proofs.Posts.{behind_requests}
use Rattle.made_run.proofs.gathering.Gathering.requests_over.Given as goal

abbrev pub invariant-loop-done : goal.invariant-loop-done
invariant-loop-done g l = record {
  ready : IsReady l.self;
  fits : IsIndexOf (live_expressions (listed l.self.core.state)) l.fn.index;
  post : IsPostTo (codes "/openrtb2/auction") l.entry.message;
  so_far : (posts : List (ℕ × Message)) → IsSoFar posts l.fn.self → IsSoFar (posts ++ requests_from l.fn.drawn 1 l.done) l.self;
  drawn : l.drawn ≡ behind_requests l.fn.drawn l.done;
}
