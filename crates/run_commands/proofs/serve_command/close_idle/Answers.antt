use Rattle.std.proofs.Common.{◌∙◌, ap}
use Rattle.exchange_state.specs.Views.{calls, out}
use Rattle.run_commands.proofs.serve_command.close_idle.Goals as goal

pub close-requires : goal.close-requires
close-requires g c = record {
  seat = c.requires.seat;
  last = (ap (λ s. s.worker) c.requires.first, ap (λ s. s.out) c.requires.first);
  home = ap (λ s. out s.seen) c.requires.first;
}

pub returns : goal.returns
returns g c =
    let h = c.close.ensures in
    let past = c.close.result.1 in
    record {
      origin = h.past.0;
      untouched = h.past.1 ∙ ap (λ s. s.seen) c.requires.first;
      order = h.order;
      legal = h.legal;
      budgets = c.budgets_hold_at_each_place.ensures past.origin (calls past.seen);
      crash = h.images;
      since = h.since;
      faults = h.faults;
      failed = h.counted;
    }
