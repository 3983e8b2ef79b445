use Rattle.std.proofs.Common.{◌∙◌, inr}
use Rattle.exchange_shared.proofs.Opening.{if_err_then, originates, said}
use Rattle.exchange_state.specs.Settling.{opened_with}
use Rattle.exchange_shared.proofs.start.open.Goals as goal

pub put_under_lock-requires : goal.put_under_lock-requires
put_under_lock-requires g c =
    let e = c.in-Ok-start.ensures.opened in
    let h = c.in-Ok.ensures in
    let o = opened_with e.effects (record { ttl = c.args.ttl; limit = c.args.limit }) c.in-Ok.reading in
    (o, c.requires.names o (originates _ _ _ c.in-Ok.reading c.in-Ok-start.state e h.synced h.told h.cause), e.stands)

pub returns-in-Ok-start-clause-any_moment : goal.returns-in-Ok-start-clause-any_moment
returns-in-Ok-start-clause-any_moment g c = λ told effects text.
    let h = c.in-Ok.ensures in
    if_err_then _ _ c.put_under_lock.result
    (λ e same. inr (said _ _ c.in-Ok.reading c.in-Ok-start.state (h.synced told) same effects text (λ more says. c.in-Ok-start.ensures.any_moment (h.told ∙ told) more says)))
    c.put_under_lock.ensures.same

pub returns-in-Ok-start-clause-quiet : goal.returns-in-Ok-start-clause-quiet
returns-in-Ok-start-clause-quiet g c =
    let e = c.in-Ok-start.ensures.opened in
    let o = opened_with e.effects (record { ttl = c.args.ttl; limit = c.args.limit }) c.in-Ok.reading in
    if_err_then _ _ c.put_under_lock.result (λ x same other. same o e.stands ∙ c.in-Ok.ensures.cause) c.put_under_lock.ensures.quiet
