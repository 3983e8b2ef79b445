use Rattle.std.proofs.Common.{◌≡◌, ◌+◌, ◌<◌, ◌≤◌, ◌++◌, [], ◌∷◌, cond, length, sym, ◌∙◌, ap, arith, Some}
use Rattle.plain_exchange.specs.State.{campaign_at}
use Rattle.plain_exchange.proofs.Paying.{found_at}
use Rattle.auction_core.proofs.Auctioning.{some_there}
use Rattle.auction_core.proofs.Scanning.{all_open, first_open, numbers_more}
use Rattle.auction_core.proofs.exchange.Core.open_to.Goals as goal

pub loop-place-preserved : goal.loop-place-preserved
loop-place-preserved g c =
    let s = c.args.self.now.state in
    let values = c.args.values.now in
    let k = c.loop-place.place in
    let inside : k < length s.campaigns = omega (arith, c.campaigns-place-end.ensures.value) in
    let (d, at) = some_there s.campaigns k inside in
    let place : 1 + k ≡ k + 1 = omega arith in
    let there : campaign_at s (k + 1) ≡ Some d = ap (campaign_at s) (sym place) ∙ found_at s k d at in
    c.in_ok-push_where.ensures
    ∙ ap (λ l. l ++ cond c.is_open_to-open.result ((k + 1) ∷ []) []) c.loop-place.invariant
    ∙ ap (λ b. first_open values s k ++ cond b ((k + 1) ∷ []) []) (c.is_open_to-open.ensures d there)
    ∙ sym (numbers_more values s k d inside at)

pub returns : goal.returns
returns g c =
    let s = c.args.self.now.state in
    let k = c.loop-place.place in
    let whole : length s.campaigns ≤ k = omega (arith, c.campaigns-place-end.ensures.value) in
    c.loop-place.invariant ∙ all_open c.args.values.now s k whole
