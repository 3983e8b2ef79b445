-- Histories: commands in their order, with their moments and replies. Moments may fall from one command to
-- the next.
use Rattle.std.specs.Prelude.{◌≡◌, ℕ, List, [], ◌∷◌, ◌++◌, fold, option_to_list}
use Rattle.plain_exchange.specs.declared.changes.Effect.{Effect}
use Rattle.plain_exchange.specs.declared.commands.Command.{Command}
use Rattle.plain_exchange.specs.declared.commands.Reply.{Reply}
use Rattle.plain_exchange.specs.declared.settings.Settings.{Settings}
use Rattle.plain_exchange.specs.State.{State}
use Rattle.plain_exchange.specs.Step.{effect_of, step}

-- a worker's command, its moment, and its reply
pub record Call : Type 0 where
  pub worker : ℕ
  pub command : Command
  pub moment : ℕ
  pub reply : Reply

-- the state after one call, and after all
abbrev pub next : Settings → State → Call → State
next settings s call = (step settings call.moment s call.command).after

abbrev pub replay : Settings → State → List Call → State
replay settings s calls = fold (next settings) s calls

-- each reply is the one that the step gives at its place
abbrev pub IsLegal : Settings → State → List Call → Type 0
IsLegal settings s [] = Unit {0}
IsLegal settings s (call ∷ calls) = (call.reply ≡ (step settings call.moment s call.command).reply) × IsLegal settings (next settings s call) calls

-- the effects, at most one a call
abbrev pub effects : Settings → State → List Call → List Effect
effects settings s [] = []
effects settings s (call ∷ calls) = option_to_list (effect_of settings call.moment s call.command) ++ effects settings (next settings s call) calls
