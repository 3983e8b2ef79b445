use Rattle.std.proofs.Common.{◌<◌, ◌∙◌, ◌++◌, List, ℕ, Ok, take, length, ap, arith, length-append}
use Rattle.std.proofs.lemmas.List.{length-take-le}
use Rattle.journal_file.proofs.GateLemmas.{payload_there, rest_long, whole_block}
use Rattle.std.proofs.Common.{subst, sym, ◌≡◌, ◌+◌, refl}
use Rattle.std.specs.Prelude.{Bool}
use Rattle.journal_file.proofs.Shown.{cut_back, shown_so}
use Rattle.journal_file.specs.Showing.{ArePayloadShown}
use Rattle.journal_file.proofs.at_gates.payload_behind.Goals as goal

pub returns-in-Ok-true-clause-block : goal.returns-in-Ok-true-clause-block
returns-in-Ok-true-clause-block g c = λ told rest e.
    let image = (g.D.Disk.store c.args.disk.now).reads in
    let n = c.args.size in
    let lt : n < length rest = rest_long image rest c.args.gate n e (c.requires.inside told) in (
      take n rest,
      whole_block n rest lt,
      omega (arith, length-take-le n rest (omega (arith, lt))),
      c.in-Ok-true.ensures.whole told (ap Ok c.in-Ok-true.field-0-test) ∙ ap (λ (l : List ℕ). c.args.out.now ++ take n l) (payload_there image rest c.args.gate n e),
    )

pub returns-in-Ok-true-clause-appended : goal.returns-in-Ok-true-clause-appended
returns-in-Ok-true-clause-appended g c =
    let front = c.in-Ok-true.ensures.front in
    (front.0, front.1, omega (arith, c.in-Ok-true.ensures.long (ap Ok c.in-Ok-true.field-0-test), ap length front.1, length-append c.args.out.now front.0))

pub returns-in-Ok-true-clause-cause : goal.returns-in-Ok-true-clause-cause
returns-in-Ok-true-clause-cause g c = (c.in-Ok-true.ensures.no_less, λ e. absurd (cc e), λ _. c.in-Ok-true.ensures.quiet (λ e. cc))

pub returns-in-Ok-true-clause-shows : goal.returns-in-Ok-true-clause-shows
returns-in-Ok-true-clause-shows g c =
    shown_so _ _ c.in-Ok-true.ensures.shows (λ more s.
    let there = subst (λ (b : Bool). ArePayloadShown (c.args.gate + 9) c.args.size more c.args.out.now c.read_payload.new.out (Ok b)) c.in-Ok-true.field-0-test s in
    let all = there.0 in
    let long : length all.0 ≡ c.args.size = omega (arith, c.in-Ok-true.ensures.long (ap Ok c.in-Ok-true.field-0-test), ap length all.2, length-append c.args.out.now all.0) in
    (all.0, all.1, long, ap (λ n. c.args.gate + 9 + n) (sym long), all.2, there.1))

pub returns-in-Ok-false-clause-shows : goal.returns-in-Ok-false-clause-shows
returns-in-Ok-false-clause-shows g c =
    shown_so _ _ c.in-Ok-false.ensures.shows (λ more s.
    (subst (λ (b : Bool). ArePayloadShown (c.args.gate + 9) c.args.size more c.args.out.now c.read_payload.new.out (Ok b)) c.in-Ok-false.field-0-test s, refl, cut_back c.args.out.now c.in-Ok-false.ensures.front.0 c.read_payload.new.out _ _ c.in-Ok-false.ensures.front.1 c.len-before.ensures c.truncate.ensures))

pub returns-in-Err-Failed-clause-shows : goal.returns-in-Err-Failed-clause-shows
returns-in-Err-Failed-clause-shows g c = shown_so _ _ c.in-Err-Failed.ensures.shows (λ more some. (some, cut_back c.args.out.now c.in-Err-Failed.ensures.front.0 c.read_payload.new.out _ _ c.in-Err-Failed.ensures.front.1 c.len-before.ensures c.truncate-in-Err-Failed.ensures))

pub returns-in-Err-Memory-clause-shows : goal.returns-in-Err-Memory-clause-shows
returns-in-Err-Memory-clause-shows g c = shown_so _ _ c.in-Err-Memory.ensures.shows (λ more some. (some, cut_back c.args.out.now c.in-Err-Memory.ensures.front.0 c.read_payload.new.out _ _ c.in-Err-Memory.ensures.front.1 c.len-before.ensures c.truncate-in-Err-Memory.ensures))
