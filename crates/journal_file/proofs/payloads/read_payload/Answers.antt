use Rattle.std.proofs.Common.{◌≡◌, ◌<◌, ◌+◌, ◌-◌, ◌++◌, ℕ, List, length, take, drop, arith, ◌∙◌, ap, append_assoc, length-append}
use Rattle.std.proofs.lemmas.List.{length-take, take-append-le}
use Rattle.rtb_disk.specs.Stores.{Store}
use Rattle.journal_file.proofs.PayloadLemmas.{one_more}
use Rattle.std.proofs.Common.{subst, length-drop}
use Rattle.rtb_base.specs.Faults.{Rose}
use Rattle.std.proofs.Common.{[], refl, sym}
use Rattle.std.proofs.lemmas.List.{append-nil, length-take-le}
use Rattle.journal_file.proofs.Shown.{payload_failed, piece_more, shown_none, shown_so, shown_still, shown_up_to, shows_none, some_more, was_last}
use Rattle.journal_file.proofs.payloads.read_payload.Goals as goal

pub loop-left-preserved : goal.loop-left-preserved
loop-left-preserved g c =
    let inv = c.loop-left.invariant in
    let n = c.in_ok-n.n in
    let piece = take n (c.read.new.out ++ drop c.min-want.result c.loop-left.piece) in
    let front : piece ≡ take n c.read.new.out = take-append-le n c.read.new.out (drop c.min-want.result c.loop-left.piece) c.in_ok-n.ensures.bound in
    let some : 0 < length (take n c.read.new.out) = omega (arith, c.if-n-eq0.false, c.in_ok-n.ensures.bound, length-take n c.read.new.out) in
    record {
      place = omega (arith, inv.place, c.in_ok-n.ensures.bound, c.read.auto.out, length-take c.min-want.result c.loop-left.piece);
      from = omega arith;
      store = c.in_ok-n.ensures.same ∙ inv.store;
      faults = c.in_ok-n.ensures.cause ∙ inv.faults;
      out = λ told.
          let there = front ∙ c.in_ok-n.ensures.bytes (ap (λ (s : Store). s.told) inv.store ∙ told) ∙ ap (λ (s : Store). take n (drop c.loop-left.at s.reads)) inv.store in
          c.in_ok-extend.ensures.ok ∙ one_more c.args.out.now (g.D.Disk.store c.args.disk.now).reads c.loop-left.out piece c.args.place c.loop-left.at n inv.from (inv.out told) there;
      shows = shown_up_to _ _ _ _ inv.shows c.in_ok-n.ensures.shows (λ more s.
          let all = piece_more more c.args.place c.loop-left.at _ _ c.args.out.now c.loop-left.out _ (take n c.read.new.out) (s.0, s.1, s.2, s.3) (c.in_ok-extend.ensures.ok ∙ ap (λ (l : List ℕ). c.loop-left.out ++ l) front) (ap (λ k. c.loop-left.at + k) (sym (length-take-le n c.read.new.out c.in_ok-n.ensures.bound))) in
          (all.0, all.1, all.2, all.3, some_more c.args.place c.loop-left.at _ (take n c.read.new.out) more inv.from some s.4));
      long = omega (arith, inv.long, inv.from, ap length c.in_ok-extend.ensures.ok, length-append c.loop-left.out piece, ap length front, c.in_ok-n.ensures.bound, length-take n c.read.new.out);
      more = (inv.more.0 ++ piece, c.in_ok-extend.ensures.ok ∙ ap (λ (l : List ℕ). l ++ piece) inv.more.1 ∙ append_assoc c.args.out.now inv.more.0 piece);
    }

pub returns-clause-whole : goal.returns-clause-whole
returns-clause-whole g c = λ told is.
    let all : c.loop-left.at - c.args.place ≡ c.args.count = omega arith in
    c.loop-left.invariant.out told ∙ ap (λ n. c.args.out.now ++ take n (drop c.args.place (g.D.Disk.store c.args.disk.now).reads)) all

pub returns-then-n-eq0-clause-short : goal.returns-then-n-eq0-clause-short
returns-then-n-eq0-clause-short g c = λ told is.
    let inv = c.loop-left.invariant in
    let reads = (g.D.Disk.store c.loop-left.disk).reads in
    let same : length reads ≡ length (g.D.Disk.store c.args.disk.now).reads = ap (λ (s : Store). length s.reads) inv.store in
    let count = c.in_ok-n.ensures.count (ap (λ (s : Store). s.told) inv.store ∙ told) in
    omega (arith, count, same, length-take c.min-want.result c.loop-left.piece, length-drop c.loop-left.at reads)

pub returns-in_err-extend-clause-front : goal.returns-in_err-extend-clause-front
returns-in_err-extend-clause-front g c = (c.loop-left.invariant.more.0, c.in_err-extend.ensures.err ∙ c.loop-left.invariant.more.1)

pub returns-in_err-n-clause-failed : goal.returns-in_err-n-clause-failed
returns-in_err-n-clause-failed g c = λ is. subst (λ n. Rose n (g.D.Disk.faults c.read.new.self)) c.loop-left.invariant.faults c.in_err-n.ensures.cause.1

pub loop-left-init : goal.loop-left-init
loop-left-init g c =
    let zero : 0 ≡ c.args.place - c.args.place = omega arith in
    record {
      place = refl;
      from = omega arith;
      store = refl;
      faults = refl;
      out = λ told. sym (append-nil c.args.out.now) ∙ ap (λ n. c.args.out.now ++ take n (drop c.args.place (g.D.Disk.store c.args.disk.now).reads)) zero;
      more = ([], sym (append-nil c.args.out.now));
      shows = shown_none _ _ refl ([], shows_none [] c.args.place, sym (append-nil c.args.out.now), omega arith, tt);
      long = omega arith;
    }

pub returns-clause-shows : goal.returns-clause-shows
returns-clause-shows g c = shown_so _ _ c.loop-left.invariant.shows (λ more s. ((s.0, s.1, s.2), s.4))

pub returns-then-n-eq0-clause-shows : goal.returns-then-n-eq0-clause-shows
returns-then-n-eq0-clause-shows g c =
    shown_up_to _ _ _ _ c.loop-left.invariant.shows c.in_ok-n.ensures.shows (λ more s. (c.loop-left.at, omega (arith, c.loop-left.invariant.place), was_last more c.loop-left.at _ c.in_ok-n.n c.read.new.out (omega (arith, length-take c.min-want.result c.loop-left.piece)) c.if-n-eq0.true))

pub returns-in_err-n-clause-shows : goal.returns-in_err-n-clause-shows
returns-in_err-n-clause-shows g c = shown_still _ _ _ c.loop-left.invariant.shows c.in_err-n.ensures.silent (λ more s. payload_failed c.args.place c.args.count more c.args.out.now c.loop-left.out c.from_residual.result c.from_residual.ensures.0 s.4)

pub returns-in_err-extend-clause-shows : goal.returns-in_err-extend-clause-shows
returns-in_err-extend-clause-shows g c =
    let n = c.in_ok-n.n in
    let some : 0 < length (take n c.read.new.out) = omega (arith, c.if-n-eq0.false, c.in_ok-n.ensures.bound, length-take n c.read.new.out) in
    shown_up_to _ _ _ _ c.loop-left.invariant.shows c.in_ok-n.ensures.shows (λ more s.
    payload_failed c.args.place c.args.count _ c.args.out.now c.extend.new.self c.from_residual-in_err-extend.result c.from_residual-in_err-extend.ensures.0 (some_more c.args.place c.loop-left.at _ (take n c.read.new.out) more c.loop-left.invariant.from some s.4))
