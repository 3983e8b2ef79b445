use Rattle.std.proofs.Common.{◌∙◌, ap, subst, sym, take}
use Rattle.std.specs.Prelude.{Ok}
use Rattle.compaction.specs.Gathering.{Gathers}
use Rattle.journal_file.specs.Compaction.{store_written}
use Rattle.journal_file.specs.Unfinished.{IsUnfinished}
use Rattle.plain_exchange.specs.Effects.{kept_effects}
use Rattle.rtb_disk.proofs.Moments.{always_then}
use Rattle.compaction.proofs.Gathered.{no_more, one_more}
use Rattle.compaction.proofs.blocks.put_all.Goals as goal

pub returns-in_err-more-clause-any_moment : goal.returns-in_err-more-clause-any_moment
returns-in_err-more-clause-any_moment g c = λ start.
    let inv = c.loop-place.invariant in
    let before = take c.loop-place.place (kept_effects c.args.core.now.state) in
    always_then IsUnfinished (store_written c.args.file.now) (store_written c.loop-place.file) (store_written c.put_next.new.file) (inv.any_moment start) (c.in_err-more.ensures.any_moment before (inv.gathers start))

pub returns-then-not-more-clause-holds : goal.returns-then-not-more-clause-holds
returns-then-not-more-clause-holds g c = λ start.
    let all = kept_effects c.args.core.now.state in
    let ended = c.in_ok-more.ensures.ended (ap Ok c.if-not-more.true) in
    let old = c.loop-place.invariant.gathers start in
    let whole = subst (λ es. Gathers es c.loop-place.file c.loop-place.block) (no_more all c.loop-place.place ended.0) old in
    let there = subst (λ file. Gathers all file c.loop-place.block) (sym ended.1) whole in
    c.put_rest.ensures.put all (subst (λ block. Gathers all c.put_next.new.file block) (sym ended.2) there)

pub returns-then-not-more-clause-any_moment : goal.returns-then-not-more-clause-any_moment
returns-then-not-more-clause-any_moment g c = λ start.
    let all = kept_effects c.args.core.now.state in
    let ended = c.in_ok-more.ensures.ended (ap Ok c.if-not-more.true) in
    let old = c.loop-place.invariant.gathers start in
    let whole = subst (λ es. Gathers es c.loop-place.file c.loop-place.block) (no_more all c.loop-place.place ended.0) old in
    let there = subst (λ file. Gathers all file c.loop-place.block) (sym ended.1) whole in
    let here = subst (λ block. Gathers all c.put_next.new.file block) (sym ended.2) there in
    let next = always_then IsUnfinished (store_written c.args.file.now) (store_written c.loop-place.file) (store_written c.put_next.new.file) (c.loop-place.invariant.any_moment start) (c.in_ok-more.ensures.any_moment (take c.loop-place.place all) old) in
    always_then IsUnfinished (store_written c.args.file.now) (store_written c.put_next.new.file) (store_written c.put_rest.new.file) next (c.put_rest.ensures.any_moment all here)

pub loop-place-preserved : goal.loop-place-preserved
loop-place-preserved g c =
    let all = kept_effects c.args.core.now.state in
    let inv = c.loop-place.invariant in
    let h = c.in_ok-more.ensures in
    let put = h.put (ap Ok c.if-not-more.false) in
    record {
      gathers = λ start. subst (λ es. Gathers es c.put_next.new.file c.put_next.new.block) (one_more all c.loop-place.place put.0 put.1) (put.2 (take c.loop-place.place all) (inv.gathers start));
      any_moment = λ start. always_then IsUnfinished (store_written c.args.file.now) (store_written c.loop-place.file) (store_written c.put_next.new.file) (inv.any_moment start) (h.any_moment (take c.loop-place.place all) (inv.gathers start));
      whole = h.whole;
      faults = h.cause.2 (λ e. absurd (cc e)) ∙ inv.faults;
    }
