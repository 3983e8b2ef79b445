-- What the tokens are for, where addresses are signed.
use Rattle.std.specs.Prelude.{ℕ, ◌&&◌, ◌++◌, not, List, Bool, false, Ok, IsTrue, is_some, codes, decimal}
use Rattle.std.specs.Option.{option_and_then, option_map_or}
use Rattle.address_keys.specs.Tokens.{is_signed}
use Rattle.address_keys.specs.declared.keys.Keys.{Keys}
use Rattle.command_read.specs.Commands.{IsCommandOf}
use Rattle.command_read.specs.Paths.{before_token, has_token, path_of, route_of, signed_path, token_of}
use Rattle.http_wire.specs.declared.message.Message.{Message}
use Rattle.plain_exchange.specs.declared.commands.Act.TheVariants as act
use Rattle.plain_exchange.specs.declared.commands.Command.TheVariants as command

-- the message's path ends in the token of this path, by the key or by the former one
pub record HasTokenOf (keys : Keys) (message : Message) (path : List ℕ) : Type 0 where
  pub has : IsTrue (has_token (path_of message.target))
  pub signed : IsTrue (is_signed keys path (token_of (path_of message.target)))

-- who asks to bill a sale, or to lose it, has the token of just that
pub record AreNoticesSigned (keys : Keys) (message : Message) : Type 0 where
  pub bill : (n : ℕ) → IsCommandOf keys message (Ok (command.Act (act.Bill n))) → HasTokenOf keys message (codes "/bill/" ++ decimal n)
  pub lose : (n : ℕ) → IsCommandOf keys message (Ok (command.Act (act.Lose n))) → HasTokenOf keys message (codes "/lose/" ++ decimal n)

-- a token stands behind a listed path, and it is not that of the path that opens it
abbrev pub has_wrong_token : Keys → List ℕ → Bool
has_wrong_token keys path =
    is_some keys.key && has_token path
    && option_map_or (λ p. not (is_signed keys p (token_of path))) (option_and_then signed_path (route_of (before_token path))) false
