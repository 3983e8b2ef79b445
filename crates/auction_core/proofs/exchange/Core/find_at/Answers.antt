use Rattle.std.proofs.Common.{◌∙◌, ap}
use Rattle.std.proofs.lemmas.Option.{get_or_from_slice_get}
use Rattle.assign.specs.Rows.{pairs_of}
use Rattle.auction_core.specs.Scan.{open_to}
use Rattle.auction_core.proofs.exchange.Core.find_at.Goals as goal

pub returns : goal.returns
returns g c = λ i at.
    let r = c.args.request.now in
    c.in_ok-numbers.ensures
    ∙ ap (λ vs. open_to vs c.args.self.now.state) (c.in_ok-assignment.ensures i ∙ ap (pairs_of r) (get_or_from_slice_get r.imps c.args.imp i i at))
