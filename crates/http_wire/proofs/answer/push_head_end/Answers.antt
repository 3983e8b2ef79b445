use Rattle.std.proofs.Common.{◌≡◌, ◌++◌, subst, OnOk}
use Rattle.http_wire.proofs.Commons.{ended}
use Rattle.http_wire.proofs.answer.push_head_end.Goals as goal

pub returns-clause-ok : goal.returns-clause-ok
returns-clause-ok c =
    let is = ended c.args.length _ _ _ _ _ c.requires.least c.requires.most
    c.digit.ensures c.digit-2.ensures c.digit-3.ensures c.digit-4.ensures c.zeros_before.ensures in
    subst (λ t. OnOk c.extend.result (c.extend.new.self ≡ c.args.out.now ++ t)) is c.extend.ensures.ok
