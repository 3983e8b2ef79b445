use Rattle.command_read.proofs.Once.{one_reading}
use Rattle.command_read.proofs.read.message_has_one_reading.Goals as goal

pub returns : goal.returns
returns c =
    one_reading c.args.keys.now c.args.message.now c.as_bytes-body.result.now c.as_bytes-body.ensures.value
    (record { tree = c.text_has_one_tree.ensures; fault = c.bytes_have_one_fault.ensures.one; neither = c.bytes_have_one_fault.ensures.none })
