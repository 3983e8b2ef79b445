-- Only private clauses cite this file. A change that is written before it is carried out.
use Rattle.std.specs.Prelude.{◌≡◌, ℕ, ◌++◌, ◌==◌, ◌&&◌, not, List, [], ◌∷◌, Bool, false, Option, Some, option_map, option_to_list}
use Rattle.std.specs.Option.{option_map_or}
use Rattle.effects.specs.Bytes.{effects_bytes}
use Rattle.exchange_state.specs.declared.state.ExchangeState.{ExchangeState}
use Rattle.exchange_state.specs.declared.state.Settled.{Settled}
use Rattle.exchange_state.specs.Placing.{Places}
use Rattle.journal_file.specs.Standing.{is_broken}
use Rattle.journal_file.specs.declared.journal.Journal.{Journal}
use Rattle.plain_exchange.specs.declared.changes.Effect.{Effect}
use Rattle.plain_exchange.specs.declared.commands.Command.{Command}
use Rattle.plain_exchange.specs.Step.{effect_of, step}
use Rattle.rtb_disk.specs.declared.disk.Disk.{Ghosts}

-- the block of one effect, where there is one
abbrev pub block_with : Option Effect → Option (List ℕ)
block_with effect = option_map (λ (e : Effect). effects_bytes (e ∷ [])) effect

module _ {D : Type 0} {G : Ghosts D} where
  -- the journal is home and whole, and all effects are durable
  abbrev pub is_idle : ExchangeState D G → Bool
  is_idle x = option_map_or (λ (j : Journal D G). not (is_broken j) && (x.durable == x.placed)) x.journal false

  -- The command is carried out at the moment. It has an effect, whose bytes stand in the block that is out.
  pub record CarriesAhead (command : Command) (moment : ℕ) (old new : ExchangeState D G) (s : Settled) : Type 0 where
    pub effect : Effect
    pub has : effect_of old.core.settings moment old.core.state command ≡ Some effect
    pub state : new.core.state ≡ (step old.core.settings moment old.core.state command).after
    pub reply : s.reply ≡ (step old.core.settings moment old.core.state command).reply
    pub upto : s.upto ≡ new.placed
    pub durable : s.durable ≡ new.durable
    -- but for what is pending, and where that begins, it is placed as any other
    pub places : Places (effect_of old.core.settings moment old.core.state command) old
        (record new { pending = old.pending ++ effects_bytes (option_to_list (effect_of old.core.settings moment old.core.state command)); upto = old.upto })
    pub none_left : new.pending ≡ []
    pub end : new.upto ≡ new.placed
