use Rattle.std.proofs.Common.{◌+◌, ◌∙◌, ℕ, ap, option_map, arith}
use Rattle.exchange_run.specs.Words.{Campaign}
use Rattle.exchange_run.proofs.Additions.{added, fits, on_ok, one_edit}
use Rattle.exchange_run.proofs.opening.add.Goals as goal

pub carry_out-carried-requires : goal.carry_out-carried-requires
carry_out-carried-requires c =
    let one : Campaign = record { bid = c.args.bid; domain = option_map (λ d. d.now) c.args.domain } in
    record {
      fits = fits c.args.core.now.state c.args.number one c.in_ok-addition.addition c.in_ok-addition.ensures c.requires.room;
      few = omega (arith, one_edit c.args.number one c.in_ok-addition.addition c.in_ok-addition.ensures, c.requires.few);
    }

pub returns-clause-state : goal.returns-clause-state
returns-clause-state c =
    on_ok c.carry_out-carried.result _ _ (added c.args.core.now.state c.carry_out-carried.new.core.state c.args.number (record { bid = c.args.bid; domain = option_map (λ d. d.now) c.args.domain }) c.in_ok-addition.addition c.in_ok-addition.ensures) c.carry_out-carried.ensures.state

pub returns-clause-edits : goal.returns-clause-edits
returns-clause-edits c =
    on_ok c.carry_out-carried.result _ _ (λ e. e ∙ ap (λ (n : ℕ). c.args.core.now.edits + n) (one_edit c.args.number (record { bid = c.args.bid; domain = option_map (λ d. d.now) c.args.domain }) c.in_ok-addition.addition c.in_ok-addition.ensures)) c.carry_out-carried.ensures.edits
