use Rattle.std.specs.Prelude.{codes}
use Rattle.made_run.proofs.Lines.{four_appended}
use Rattle.made_run.proofs.SoFar.{on_ok}
use Rattle.made_run.specs.Runs.{numbered, reserved_text}
use Rattle.made_run.proofs.run.put_counts.Goals as goal

pub returns : goal.returns
returns c =
    let out = c.args.out.now in
    let made = c.args.made.now in
    let requests = numbered (codes "campaigns=100 requests=") c.args.requests in
    let sold = numbered (codes " sold=") made.sold in
    let no_bid = numbered (codes " nobid=") made.no_bid in
    let whole = four_appended out requests sold no_bid (reserved_text made.reserved) c.put_number.new.out c.put_number-2.new.out c.put_number-3.new.out c.put_reserved.new.out in
    let front = whole c.in_ok-put_number.ensures c.in_ok-put_number-2.ensures c.in_ok-put_number-3.ensures in
    record { ok = on_ok c.put_reserved.result _ _ c.put_reserved.ensures front }
