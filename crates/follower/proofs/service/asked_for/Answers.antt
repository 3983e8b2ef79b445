use Rattle.follower.proofs.Asking.{asks_by, refused_by}
use Rattle.follower.proofs.service.asked_for.Goals as goal

pub returns-in-Ok : goal.returns-in-Ok
returns-in-Ok c = asks_by c.none-keys.result c.none-keys.ensures c.args.message.now _ _ c.message_has_one_reading.ensures c.in-Ok.ensures.read c.report_in-asked.ensures

pub returns-in-Err-Refused : goal.returns-in-Err-Refused
returns-in-Err-Refused c =
    let read = rw c.in-Err-Refused.field-0-is at c.in-Err-Refused.ensures.read in
    refused_by c.none-keys.result c.none-keys.ensures c.args.message.now _ c.message_has_one_reading.ensures read
