use Rattle.std.proofs.Common.{◌+◌, ◌∙◌, ◌∷◌, [], false, true, ap, length, refl}
use Rattle.std.specs.Option.{option_map_or}
use Rattle.auction_core.specs.Putting.{changed_at}
use Rattle.plain_exchange.specs.Effects.{campaign_of}
use Rattle.plain_exchange.specs.State.{Campaign, State, campaign_at, with_campaigns}
use Rattle.plain_exchange.specs.Step.{with_live}
use Rattle.auction_core.proofs.Keeping.{kept_as, kept_either, last_live, last_paused}
use Rattle.auction_core.proofs.exchange.Core.keep_paused.Goals as goal

pub keep_live-n-requires-clause-fits : goal.keep_live-n-requires-clause-fits
keep_live-n-requires-clause-fits c = kept_either c.args.self.now.state true false c.args.entry c.args.gone ∙ c.requires.fits

pub pause-requires-clause-live : goal.pause-requires-clause-live
pause-requires-clause-live c =
    let s = c.args.self.now.state in
    let d = campaign_of (kept_as true c.args.entry c.args.gone) in
    ap (λ (t : State). option_map_or (λ (d : Campaign). d.live) (campaign_at t c.keep_live-n.result) false) c.keep_live-n.ensures.state
    ∙ ap (λ i. option_map_or (λ (d : Campaign). d.live) (campaign_at (with_campaigns s (d ∷ [])) i) false) c.keep_live-n.ensures.number
    ∙ last_live s d refl

pub returns-clause-state : goal.returns-clause-state
returns-clause-state c =
    let s = c.args.self.now.state in
    c.pause.ensures.state
    ∙ ap (λ i. changed_at i (with_live false) c.keep_live-n.new.self.state) c.keep_live-n.ensures.number
    ∙ ap (changed_at (length s.campaigns + 1) (with_live false)) c.keep_live-n.ensures.state
    ∙ last_paused s (campaign_of (kept_as true c.args.entry c.args.gone))
