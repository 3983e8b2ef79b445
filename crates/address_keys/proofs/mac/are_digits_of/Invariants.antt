use Rattle.address_keys.proofs.Comparing.{Tells}
use Rattle.address_keys.proofs.mac.are_digits_of.Given as goal

abbrev pub invariant-bytes : goal.invariant-bytes
invariant-bytes l = Tells l.differing l.i l.digits l.token
