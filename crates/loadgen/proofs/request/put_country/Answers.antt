use Rattle.std.proofs.Common.{◌≡◌, OnOk, subst}
use Rattle.loadgen.proofs.Digits.{with_country}
use Rattle.loadgen.proofs.request.put_country.Goals as goal

pub returns : goal.returns
returns c =
    subst (λ t. OnOk c.extend.result (c.extend.new.self ≡ t)) (with_country c.args.country c.digit.result c.args.body.now c.requires.country c.digit.ensures) c.extend.ensures.ok
