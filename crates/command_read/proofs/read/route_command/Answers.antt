use Rattle.std.proofs.Common.{subst, sym}
use Rattle.command_read.specs.Commands.{IsOfRoute}
use Rattle.command_read.specs.Memory.{UnlessMemory}
use Rattle.command_read.specs.declared.paths.Route.TheVariants as route
use Rattle.command_read.proofs.read.route_command.Goals as goal

pub returns-in-Campaigns : goal.returns-in-Campaigns
returns-in-Campaigns c = subst (λ r. UnlessMemory (IsOfRoute r c.args.method c.args.body.now) c.campaign_command.result) (sym c.in-Campaigns.is) c.campaign_command.ensures

pub returns-in-Post : goal.returns-in-Post
returns-in-Post c =
    subst (λ r. UnlessMemory (IsOfRoute r c.args.method c.args.body.now) c.campaign_command-in-Post.result) (sym c.in-Campaign.is)
    (subst (λ m. UnlessMemory (IsOfRoute (route.Campaign c.in-Campaign.n) m c.args.body.now) c.campaign_command-in-Post.result) (sym c.in-Post.is) c.campaign_command-in-Post.ensures)
