use Rattle.std.proofs.Common.{◌≡◌}
use Rattle.journal_file.specs.Readings.{HasNotFailed, faults_read, store_read}
use Rattle.recovery.specs.Openings.{IsLed, IsMadeBy}
use Rattle.recovery.specs.Turns.{IsWithin}
use Rattle.recovery.proofs.opening.apply_blocks.Given as goal

abbrev pub invariant-loop : goal.invariant-loop
invariant-loop g l = record {
  made : IsMadeBy (IsWithin l.fn.reading) l.fn.core → IsMadeBy (IsWithin l.reading) l.core;
  led : IsLed l.fn.core → IsLed l.core;
  same : store_read l.reading ≡ store_read l.fn.reading;
  settings : l.core.settings ≡ l.fn.core.settings;
  well : HasNotFailed l.fn.reading → HasNotFailed l.reading × (faults_read l.reading ≡ faults_read l.fn.reading);
}
