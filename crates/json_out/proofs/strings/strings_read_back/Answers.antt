use Rattle.json_out.proofs.Read.{reads_back, says_one}
use Rattle.json_out.proofs.strings.strings_read_back.Goals as goal

pub returns-clause-back : goal.returns-clause-back
returns-clause-back c = reads_back

pub returns-clause-one : goal.returns-clause-one
returns-clause-one c = says_one
