use Rattle.std.proofs.Common.{◌≡◌, ◌<◌, ◌^◌, ◌∙◌, true, length, arith, subst, Ok}
use Rattle.rtb_disk.specs.Stores.{Store}
use Rattle.follower.specs.Following.{StandsIn}
use Rattle.follower.specs.Passing.{TurnsIn}
use Rattle.follower.proofs.Standing.{goes_then, inside}
use Rattle.std.proofs.Common.{[], ◌++◌, Err, ap, false, inl, inr, refl, sym}
use Rattle.std.specs.Prelude.{MatchResult, Result, ◌⊎◌, ◌≤◌}
use Rattle.std.proofs.lemmas.Result.{err_from_is_err_and}
use Rattle.follower.specs.Moving.{IsRefused, IsTurn, Passes, spot}
use Rattle.follower.proofs.Seen.{moves_passed, passes_none, passes_then, refused_then, turn_then}
use Rattle.follower.proofs.Standing.{goes_none}
use Rattle.journal_file.proofs.Shown.{shown_none, shown_so, shown_then}
use Rattle.journal_file.specs.Shows.{ShowsShut}
use Rattle.journal_file.specs.declared.faults.JournalFault.{JournalFault}
use Rattle.follower.proofs.follower.Follower.pass_blocks.Goals as goal

pub returns-clause-turns : goal.returns-clause-turns
returns-clause-turns g c = λ told size within.
    let i = c.loop-self.invariant in
    let f = c.loop-self.self in
    absurd (omega (arith, size, inside (g.D.Disk.store c.args.self.now.disk).reads f.core.state f.count f.gate f.done i.begun (i.within told (omega (arith, size, c.ranges.size.fits)) within)))

pub returns-in_err-more-clause-goes : goal.returns-in_err-more-clause-goes
returns-in_err-more-clause-goes g c = goes_then c.args.self.now c.loop-self.self c.pass_piece.new.self c.loop-self.invariant.goes c.pass_piece.ensures.goes

pub returns-then-not-more-clause-goes : goal.returns-then-not-more-clause-goes
returns-then-not-more-clause-goes g c = goes_then c.args.self.now c.loop-self.self c.pass_piece.new.self c.loop-self.invariant.goes c.pass_piece.ensures.goes

pub loop-self-preserved : goal.loop-self-preserved
loop-self-preserved g c =
    let i = c.loop-self.invariant in
    let one = c.in_ok-more.ensures in
    let f = c.loop-self.self in
    let new = c.pass_piece.new.self in
    let turns = subst (λ (store : Store). store.told ≡ true → length store.reads < 2 ^ 64 → StandsIn store.reads f.core.state f.count f.gate f.done → TurnsIn store.reads new.core.state new.count new.gate new.done (Ok c.in_ok-more.more)) i.same one.turns in
    record {
      begun = c.pass_piece.ensures.begun;
      goes = goes_then c.args.self.now c.loop-self.self new i.goes c.pass_piece.ensures.goes;
      same = c.pass_piece.ensures.same ∙ i.same;
      faults = one.cause.2 (λ e. absurd (cc e)) ∙ i.faults;
      shows = shown_then _ _ _ i.shows one.shows (λ s t a b. passes_then s t (spot c.args.self.now) (spot f) (spot new) a (subst (λ more. IsTurn t (spot f) (spot new) (Ok more)) c.if-not-more.false b));
      within = λ told small w. subst (λ more. TurnsIn (g.D.Disk.store c.args.self.now.disk).reads new.core.state new.count new.gate new.done (Ok more)) c.if-not-more.false (turns told small (i.within told small w));
    }

pub loop-self-init : goal.loop-self-init
loop-self-init g c = record {
  begun = c.requires.begun;
  goes = goes_none c.args.self.now;
  same = refl;
  faults = refl;
  shows = shown_none _ _ refl (passes_none [] (spot c.args.self.now));
  within = λ told small w. w;
}

pub returns-then-not-more-clause-shows : goal.returns-then-not-more-clause-shows
returns-then-not-more-clause-shows g c =
    let old = spot c.args.self.now in
    let f = spot c.loop-self.self in
    let new = spot c.pass_piece.new.self in
    shown_then _ _ _ c.loop-self.invariant.shows c.in_ok-more.ensures.shows (λ s t a b.
    let all : IsTurn (s ++ t) old new (Ok false) = turn_then s t old f new (Ok false) a (subst (λ more. IsTurn t f new (Ok more)) c.if-not-more.true b) in
    (all.0, inl all.1))

pub returns-in_err-more-clause-shows : goal.returns-in_err-more-clause-shows
returns-in_err-more-clause-shows g c =
    let old = spot c.args.self.now in
    let f = spot c.loop-self.self in
    let new = spot c.pass_piece.new.self in
    let p = err_from_is_err_and c.from_residual.result c.from_residual.ensures.1 in
    let is = p.1 ∙ ap Err p.2 in
    shown_then _ _ _ c.loop-self.invariant.shows c.in_err-more.ensures.shows (λ s t a b.
    subst (λ (r : Result Unit JournalFault). MatchResult r (λ _. Passes (s ++ t) old new × (ShowsShut new.gate (s ++ t) ⊎ (c.args.size ≤ new.gate))) (IsRefused (s ++ t) old new)) (sym is) (refused_then s t old f new _ a b))

pub returns-clause-shows : goal.returns-clause-shows
returns-clause-shows g c =
    let low : c.args.size ≤ c.loop-self.self.gate = omega arith in
    shown_so _ _ c.loop-self.invariant.shows (λ s a. (a, inr low))
