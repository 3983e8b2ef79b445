use Rattle.std.proofs.Common.{Bool, ◌+◌, ap, sym, ◌∙◌}
use Rattle.std.specs.Prelude.{if◌then◌else◌}
use Rattle.audit.specs.Accounts.{settings_of}
use Rattle.made_run.proofs.SoFar.{on_ok, one_more}
use Rattle.made_run.proofs.gathering.Gathering.put.Goals as goal

pub judge-requires-clause-settings : goal.judge-requires-clause-settings
judge-requires-clause-settings c = c.requires.ready.settings ∙ ap settings_of (sym c.requires.ready.header_is)

pub returns-clause-one : goal.returns-clause-one
returns-clause-one c =
    let sold = c.in_ok-self.ensures ∙ ap (λ (b : Bool). c.args.self.now.sold + (if b then 1 else 0)) c.has_status.ensures in
    let no_bid = c.in_ok-self-2.ensures ∙ ap (λ (b : Bool). c.args.self.now.no_bid + (if b then 1 else 0)) c.has_status-2.ensures in
    let judged = c.in_ok-judge.ensures in
    on_ok c.keep.result _ _ c.keep.ensures (λ trace. one_more c.args.self.now _ c.args.entry.now c.requires.ready judged.leads judged.answered trace sold no_bid)
