use Rattle.std.proofs.Common.{◌≡◌, OnOk, subst}
use Rattle.loadgen.proofs.Digits.{with_both}
use Rattle.loadgen.proofs.request.put_both.Goals as goal

pub returns : goal.returns
returns c =
    subst
    (λ t. OnOk c.extend.result (c.extend.new.self ≡ t))
    (with_both c.args.country c.args.system c.digit.result c.digit-2.result c.args.body.now c.requires.country c.requires.system c.digit.ensures c.digit-2.ensures)
    c.extend.ensures.ok
