use Rattle.std.proofs.Common.{◌≡◌, ◌≤◌, ◌<◌, ◌+◌, ℕ, count_by, get_or, length, take}
use Rattle.std.specs.List.{list_any}
use Rattle.conj_match.specs.Merge.{IsLeast, Passed, left_in, shows_negated, shows_plain}
use Rattle.conj_match.specs.Place.{Place, number_of}
use Rattle.conj_match.proofs.merging.pass_all.Given as goal

abbrev pub invariant-loop-i : goal.invariant-loop-i
invariant-loop-i g l = record {
  all : length l.cursors.items ≡ length l.fn.cursors.items;
  done : (j : ℕ) (d : Place) → j < l.i → Passed l.id (get_or l.fn.cursors.items j d) (get_or l.cursors.items j d);
  ahead : (j : ℕ) (d : Place) → l.i ≤ j → get_or l.cursors.items j d ≡ get_or l.fn.cursors.items j d;
  few : l.turn.plain ≤ l.i;
  excluded : l.turn.is_excluded ≡ list_any (shows_negated l.id) (take l.i l.fn.cursors.items);
  plain : l.turn.plain ≡ count_by (shows_plain l.id) (take l.i l.fn.cursors.items);
  least : IsLeast (take l.i l.cursors.items) (number_of l.turn.least);
  cost : l.steps + left_in l.cursors.items ≤ l.fn.steps + left_in l.fn.cursors.items;
}
