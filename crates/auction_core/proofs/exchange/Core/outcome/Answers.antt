use Rattle.std.proofs.Common.{subst, sym}
use Rattle.std.specs.Prelude.{IfOk}
use Rattle.auction_core.specs.Outcomes.{IsOutcome}
use Rattle.plain_exchange.specs.declared.commands.Act.{Act}
use Rattle.plain_exchange.specs.declared.commands.Command.TheVariants as command
use Rattle.plain_exchange.specs.Step.{step}
use Rattle.auction_core.proofs.exchange.Core.outcome.Goals as goal

pub returns-in-Add : goal.returns-in-Add
returns-in-Add c =
    let m = c.args.moment in
    let s = c.args.self.now.state in
    subst (λ (k : Act). IfOk c.add_outcome.result (λ o. IsOutcome (step c.args.self.now.settings m s (command.Act k)) o)) (sym c.in-Add.is) (c.add_outcome.ensures m)

pub returns-in-Pause : goal.returns-in-Pause
returns-in-Pause c =
    let m = c.args.moment in
    let s = c.args.self.now.state in
    subst (λ (k : Act). IsOutcome (step c.args.self.now.settings m s (command.Act k)) c.pause_outcome.result) (sym c.in-Pause.is) (c.pause_outcome.ensures m)

pub returns-in-Resume : goal.returns-in-Resume
returns-in-Resume c =
    let m = c.args.moment in
    let s = c.args.self.now.state in
    subst (λ (k : Act). IsOutcome (step c.args.self.now.settings m s (command.Act k)) c.resume_outcome.result) (sym c.in-Resume.is) (c.resume_outcome.ensures m)

pub returns-in-Look : goal.returns-in-Look
returns-in-Look c =
    let m = c.args.moment in
    let s = c.args.self.now.state in
    subst (λ (k : Act). IsOutcome (step c.args.self.now.settings m s (command.Act k)) c.look_outcome.result) (sym c.in-Look.is) (c.look_outcome.ensures m s)
