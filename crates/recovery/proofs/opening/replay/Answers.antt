use Rattle.std.proofs.Common.{◌≡◌, ◌∙◌, ap, sym, Some}
use Rattle.auction_core.specs.Core.{CoreState}
use Rattle.journal_file.specs.Readings.{reads_of}
use Rattle.recovery.specs.Openings.{IsAtEnd, IsLed, IsMadeBy, Opens}
use Rattle.recovery.proofs.Joining.{led_empty}
use Rattle.recovery.proofs.Walking.{always_ok, handed, handed_cause, handed_ended, handed_whole, made_empty}
use Rattle.recovery.proofs.opening.replay.Goals as goal

pub returns-clause-opened : goal.returns-clause-opened
returns-clause-opened g c = λ start.
    let made = made_empty c.args.reading.now c.new-core.result start (ap (λ (k : CoreState). Some k.state) (sym c.new-core.ensures)) (ap (λ (k : CoreState). k.edits) c.new-core.ensures) in
    handed c.apply_blocks-done.new.core (Opens (reads_of c.args.reading.now)) c.apply_blocks-done.result c.unless_faulty.result c.unless_faulty.ensures (c.apply_blocks-done.ensures.opened made)

pub returns-clause-made : goal.returns-clause-made
returns-clause-made g c = λ start.
    let made = made_empty c.args.reading.now c.new-core.result start (ap (λ (k : CoreState). Some k.state) (sym c.new-core.ensures)) (ap (λ (k : CoreState). k.edits) c.new-core.ensures) in
    handed_whole c.apply_blocks-done.new.core (IsMadeBy (IsAtEnd c.apply_blocks-done.new.reading)) c.apply_blocks-done.result c.unless_faulty.result c.unless_faulty.ensures (c.apply_blocks-done.ensures.made made)

pub returns-clause-ended : goal.returns-clause-ended
returns-clause-ended g c = handed_ended c.apply_blocks-done.new.core _ c.apply_blocks-done.result c.unless_faulty.result c.unless_faulty.ensures c.apply_blocks-done.ensures.ended

pub returns-clause-settings : goal.returns-clause-settings
returns-clause-settings g c =
    handed_whole c.apply_blocks-done.new.core (λ (k : CoreState). k.settings ≡ record { ttl = c.args.ttl; limit = c.args.limit }) c.apply_blocks-done.result c.unless_faulty.result c.unless_faulty.ensures
    (always_ok _ c.apply_blocks-done.result (c.apply_blocks-done.ensures.settings ∙ ap (λ (k : CoreState). k.settings) c.new-core.ensures))

pub returns-clause-cause : goal.returns-clause-cause
returns-clause-cause g c = λ well. handed_cause c.apply_blocks-done.new.core c.apply_blocks-done.result c.unless_faulty.result _ _ c.unless_faulty.ensures (c.apply_blocks-done.ensures.cause well)

pub returns-clause-led : goal.returns-clause-led
returns-clause-led g c =
    handed_whole c.apply_blocks-done.new.core IsLed c.apply_blocks-done.result c.unless_faulty.result c.unless_faulty.ensures
    (c.apply_blocks-done.ensures.led (led_empty c.new-core.result (ap (λ (k : CoreState). k.state) c.new-core.ensures) (ap (λ (k : CoreState). k.edits) c.new-core.ensures)))
