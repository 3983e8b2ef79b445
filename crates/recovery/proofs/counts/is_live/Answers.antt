use Rattle.std.proofs.Common.{◌∙◌, ap, ◌+◌, ◌≡◌, Some}
use Rattle.std.specs.Prelude.{option_map}
use Rattle.campaign_store.specs.Table as tabled
use Rattle.campaign_store.specs.declared.listed.Listed.{Listed}
use Rattle.recovery.proofs.Summing.{live_at}
use Rattle.recovery.proofs.counts.is_live.Goals as goal

pub returns-in-Some : goal.returns-in-Some
returns-in-Some c = λ x e.
    let is = live_at c.args.core.now.state.campaigns c.args.place x e in
    let all = ap (option_map (λ (l : Listed). l.live)) (ap (λ cs. tabled.campaign_at cs (c.args.place + 1)) c.table.ensures.campaigns ∙ is) in
    let found : Some c.in-Some.live ≡ Some x.live = c.in-Some.ensures ∙ all in
    cc

pub returns-in-None : goal.returns-in-None
returns-in-None c = λ x e.
    let is = live_at c.args.core.now.state.campaigns c.args.place x e in
    let all = ap (option_map (λ (l : Listed). l.live)) (ap (λ cs. tabled.campaign_at cs (c.args.place + 1)) c.table.ensures.campaigns ∙ is) in
    absurd (cc (c.in-None.ensures, all))
