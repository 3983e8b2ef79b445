use Rattle.std.proofs.Common.{◌≡◌, OnOk, subst}
use Rattle.loadgen.proofs.Digits.{with_cents}
use Rattle.loadgen.proofs.request.put_cents.Goals as goal

pub returns : goal.returns
returns c =
    subst
    (λ t. OnOk c.extend.result (c.extend.new.self ≡ t))
    (with_cents c.args.cents c.digit.result c.digit-2.result c.shown.result c.args.body.now c.requires c.digit.ensures c.digit-2.ensures c.shown.ensures)
    c.extend.ensures.ok
