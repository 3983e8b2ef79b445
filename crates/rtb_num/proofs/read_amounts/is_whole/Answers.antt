use Rattle.rtb_num.specs.Numbers.{number_in}
use Rattle.rtb_num.proofs.Millionths.{whole_is}
use Rattle.rtb_num.proofs.read_amounts.is_whole.Goals as goal

pub returns : goal.returns
returns c = whole_is (number_in c.args.text.now) c.scale.result.finer c.scale.ensures.finer
