use Rattle.std.proofs.Common.{◌≡◌, length}
use Rattle.run_words.specs.Addresses.{has_port_0}
use Rattle.run_words.proofs.address.has_port_0.Given as goal

-- what is left has the port where the address has it
abbrev pub invariant-loop-rest : goal.invariant-loop-rest
invariant-loop-rest l = has_port_0 l.rest ≡ has_port_0 l.address

abbrev pub decreases-loop-rest : goal.decreases-loop-rest
decreases-loop-rest l = length l.rest
