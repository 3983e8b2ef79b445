-- By which messages sales are settled, where addresses are signed.
use Rattle.std.specs.Prelude.{◌≡◌, ℕ, ◌++◌, Some, codes, decimal, option_map}
use Rattle.address_keys.specs.declared.keys.Keys.{Keys}
use Rattle.command_read.specs.Signed.{HasTokenOf}
use Rattle.door_worker.specs.Answers.{Answered}
use Rattle.plain_exchange.specs.declared.commands.Act.TheVariants as act
use Rattle.plain_exchange.specs.declared.commands.Command.TheVariants as command

-- a message that led to the call that bills a sale, or loses it, has the token of just that in its path
pub record IsByToken (keys : Keys) (a : Answered) : Type 0 where
  pub bill : (n : ℕ) → option_map (λ call. call.command) a.call ≡ Some (command.Act (act.Bill n)) → HasTokenOf keys a.turn.message (codes "/bill/" ++ decimal n)
  pub lose : (n : ℕ) → option_map (λ call. call.command) a.call ≡ Some (command.Act (act.Lose n)) → HasTokenOf keys a.turn.message (codes "/lose/" ++ decimal n)
