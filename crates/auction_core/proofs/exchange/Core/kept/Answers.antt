use Rattle.std.proofs.Common.{◌≡◌, ◌-◌, ◌<◌, ◌≤◌, ◌∙◌, length, ap, arith, subst}
use Rattle.std.specs.Prelude.{IfOk, option_map, slice_get}
use Rattle.plain_exchange.specs.Effects.{kept_sale}
use Rattle.auction_core.proofs.Keeping.{kept_behind, kept_front}
use Rattle.auction_core.proofs.exchange.Core.kept.Goals as goal

pub returns-then-place-campaigns : goal.returns-then-place-campaigns
returns-then-place-campaigns c =
    let s = c.args.self.now.state in
    let inside : c.args.place < length s.campaigns = omega (arith, c.if-place-campaigns.true, c.campaigns-campaigns.ensures.value) in
    kept_front s c.args.place c.in_ok-effect.effect inside c.in_ok-effect.ensures

pub returns : goal.returns
returns c =
    let s = c.args.self.now.state in
    let behind : length s.campaigns ≤ c.args.place = omega (arith, c.if-place-campaigns.false, c.campaigns-campaigns.ensures.value) in
    subst (λ o. IfOk c.kept_sale.result (λ e. e ≡ o)) (ap (λ k. option_map kept_sale (slice_get s.sales (c.args.place - k))) c.campaigns-campaigns.ensures.value ∙ kept_behind s c.args.place behind) c.kept_sale.ensures
