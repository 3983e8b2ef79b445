use Rattle.std.proofs.lemmas.List.{take_rest}
use Rattle.http_wire.proofs.Cuts.{goes_to, no_line}
use Rattle.http_wire.proofs.head.behind_line.Goals as goal

pub returns-in-Some-clause-found : goal.returns-in-Some-clause-found
returns-in-Some-clause-found c =
    goes_to c.args.bytes.now c.args.at c.in-Some.n _ (take_rest c.args.bytes.now c.args.at) c.requires c.in-Some.ensures

pub returns-in-None-clause-none : goal.returns-in-None-clause-none
returns-in-None-clause-none c =
    no_line c.args.bytes.now c.args.at _ (take_rest c.args.bytes.now c.args.at) c.in-None.ensures
