use Rattle.campaign.proofs.Decoding.{int_code}
use Rattle.campaign.proofs.decode.get_ints.Goals as goal

pub get_list-requires : goal.get_list-requires
get_list-requires c = record { code = int_code }
