use Rattle.std.proofs.Common.{refl}
use Rattle.cnf_match.specs.declared.growing.Growing.{Growing}
use Rattle.cnf_match.specs.declared.index.Key.{Key}
use Rattle.cnf_match.proofs.Entering.{enters_there, on_ok}
use Rattle.cnf_match.proofs.growing.Growing.enter.Goals as goal

pub returns-then-is_at : goal.returns-then-is_at
returns-then-is_at c =
    let key : Key = record { attr = c.args.attr; value = c.args.value.now } in
    let old : Growing = c.args.self.now in
    let new : Growing = record { keys = old.keys; lists = c.put.new.lists; seats = old.seats } in
    on_ok c.put.result (enters_there key c.args.entry old new c.place_in-likely.result (c.is_at.ensures c.if-is_at.true) refl) c.put.ensures
