-- What a draft of a command says, and when it can be carried out.
use Rattle.std.specs.Prelude.{◌≡◌, ℕ, ◌≤◌, ◌&&◌, List, [], map, filter, Bool, true, IfSome, IsTrue, Option}
use Rattle.std.specs.List.{enumerate_from}
use Rattle.std.specs.Option.{option_map_or}
use Rattle.assign.specs.Rows.{pairs_of}
use Rattle.auction_core.specs.Core.{CoreState}
use Rattle.auction_core.specs.declared.draft.Answer.{Answer}
use Rattle.auction_core.specs.declared.draft.Answer.TheVariants as answer
use Rattle.auction_core.specs.declared.draft.Draft.{Draft}
use Rattle.auction_core.specs.declared.draft.Memory.{Memory}
use Rattle.plain_exchange.specs.declared.settings.Settings.{Settings}
use Rattle.plain_exchange.specs.declared.commands.Command.{Command}
use Rattle.plain_exchange.specs.declared.commands.Command.TheVariants as command
use Rattle.plain_exchange.specs.declared.commands.Reply.{Reply}
use Rattle.plain_exchange.specs.declared.changes.Effect.{Effect}
use Rattle.auction_core.specs.Putting.{HasRoom, memory_of}
use Rattle.plain_exchange.specs.Effects.{edits_in, fits}
use Rattle.plain_exchange.specs.State.{Campaign, State}
use Rattle.plain_exchange.specs.Step.{effect_of, step, told}
use Rattle.rtb_types.specs.declared.request.BidRequest.{BidRequest}
use Rattle.rtb_types.specs.declared.request.Imp.{Imp}
use Rattle.rtb_types.specs.Valid.{is_valid}
use Rattle.target_expr.specs.Truth.{holds}

-- ---- which campaigns an auction looks at

-- the campaign is live, and its expression is true of the impression
abbrev pub is_reached : BidRequest → Imp → ℕ × Campaign → Bool
is_reached r imp p = p.1.live && holds (pairs_of r imp) p.1.expr

-- the numbers of those campaigns, rising
abbrev pub found_for : State → BidRequest → Imp → List ℕ
found_for s r imp = map (λ (p : ℕ × Campaign). p.0) (filter (is_reached r imp) (enumerate_from 1 s.campaigns))

-- for each impression of an auction; an act has none
abbrev pub found_of : State → Command → List (List ℕ)
found_of s (command.Auction r) = map (found_for s r) r.imps
found_of s (command.Act a) = []

-- the request of an auction is valid
abbrev pub is_valid_command : Command → Bool
is_valid_command (command.Auction r) = is_valid r
is_valid_command (command.Act a) = true

-- ---- what a draft answers and changes

-- the reply in the state after it
abbrev pub answered : Answer → State → Reply
answered (answer.Told reply) s = reply
answered (answer.Look l) s = told s l

-- how many edits of the table an effect is, where there is one
abbrev pub effect_edits : Option Effect → ℕ
effect_edits effect = option_map_or (λ (e : Effect). edits_in e.change) effect 0

abbrev pub edits_made : Draft → ℕ
edits_made d = effect_edits d.effect

-- the effect can be carried out on the exchange as it is, with this memory, and is one edit at most
pub record CanPut (e : Effect) (memory : Memory) (core : CoreState) : Type 0 where
  pub fit : IsTrue (fits e core.state)
  pub memory_is : memory ≡ memory_of e.change
  pub room : HasRoom e.change core
  pub few : edits_in e.change ≤ 1

abbrev pub IsReady : Draft → CoreState → Type 0
IsReady d core = IfSome d.effect (λ e. CanPut e d.memory core)

-- the draft is that of the command at the moment
pub record IsDraftOf (settings : Settings) (s : State) (command : Command) (moment : ℕ) (d : Draft) : Type 0 where
  pub reply : answered d.answer (step settings moment s command).after ≡ (step settings moment s command).reply
  pub effect : d.effect ≡ effect_of settings moment s command
  pub edits_are : edits_made d ≡ effect_edits d.effect
