use Rattle.std.proofs.Common.{◌∙◌, ap, subst, sym, Err}
use Rattle.std.specs.Prelude.{Bool, Result}
use Rattle.std.proofs.lemmas.Result.{err_from_is_err_and}
use Rattle.follower.specs.Passing.{TurnsIn}
use Rattle.follower.proofs.Pieces.{block_there, next_low, next_there, read_ends}
use Rattle.follower.proofs.Standing.{goes_then}
use Rattle.journal_file.specs.declared.faults.JournalFault.{JournalFault}
use Rattle.std.proofs.Common.{[], ◌∷◌, arith, refl}
use Rattle.follower.specs.Moving.{IsTurn, spot}
use Rattle.follower.proofs.Seen.{block_in, next_in, passes_more, passes_none, read_turn, refused_more}
use Rattle.follower.proofs.Standing.{goes_none}
use Rattle.rtb_disk.specs.Showing.{bytes_from}
use Rattle.follower.proofs.follower.Follower.pass_read.Goals as goal

pub returns-in_err-pass_payload-clause-goes : goal.returns-in_err-pass_payload-clause-goes
returns-in_err-pass_payload-clause-goes g c = goes_then c.args.self.now c.loop-payload.self c.pass_payload.new.self c.loop-payload.invariant.goes c.pass_payload.ensures.goes

pub returns-in_err-pass_payload-clause-turns : goal.returns-in_err-pass_payload-clause-turns
returns-in_err-pass_payload-clause-turns g c = λ reads small begins within.
    let i = c.loop-payload.invariant in
    let new = c.pass_payload.new.self in
    let p = err_from_is_err_and c.from_residual.result c.from_residual.ensures.1 in
    let is = p.1 ∙ ap Err p.2 in
    let has = block_there c.loop-payload.self.gate c.in-Some.payload.now c.loop-payload.rest.now reads (i.begins reads begins) c.in-Some.ensures.block in
    subst (λ (r : Result Bool JournalFault). TurnsIn reads new.core.state new.count new.gate new.done r) (sym is)
    (c.in_err-pass_payload.ensures.turns reads small has (i.within reads small begins within))

pub loop-payload-preserved : goal.loop-payload-preserved
loop-payload-preserved g c =
    let i = c.loop-payload.invariant in
    let f = c.loop-payload.self in
    let rest = c.loop-payload.rest.now in
    let payload = c.in-Some.payload.now in
    let new = c.pass_payload.new.self in
    let one = c.in_ok-pass_payload.ensures in
    record {
      begun = c.pass_payload.ensures.begun;
      low = next_low f.gate new.gate payload rest one.place c.in-Some.ensures.inside i.low;
      goes = goes_then c.args.self.now f new i.goes c.pass_payload.ensures.goes;
      disk = c.pass_payload.ensures.disk ∙ i.disk;
      lies = next_in c.args.self.now.gate 0 f.gate c.args.read.now i.lies.0 rest i.lies.1 i.lies.2 new.gate payload one.place c.in-Some.ensures.inside;
      passes = λ asked.
          let piece = bytes_from c.args.self.now.gate asked c.args.read.now ∷ [] in
          let there = block_in c.args.self.now.gate asked f.gate c.args.read.now i.lies.0 rest i.lies.1 i.lies.2 payload c.in-Some.ensures.block in
          passes_more piece (spot c.args.self.now) (spot f) (spot new) (i.passes asked) (one.shows piece there);
      begins = λ reads b. next_there f.gate new.gate payload rest reads one.place c.in-Some.ensures.inside (i.begins reads b);
      within = λ reads small b w. one.turns reads small (block_there f.gate payload rest reads (i.begins reads b) c.in-Some.ensures.block) (i.within reads small b w);
    }

pub returns-clause-turns : goal.returns-clause-turns
returns-clause-turns g c = λ reads small begins within.
    let i = c.loop-payload.invariant in
    let f = c.loop-payload.self in
    read_ends reads f.core.state f.count f.gate f.done c.loop-payload.rest.now c.is_shut.result i.begun (i.within reads small begins within) (i.begins reads begins) c.is_shut.ensures

pub loop-payload-init : goal.loop-payload-init
loop-payload-init g c = record {
  begun = c.requires.begun;
  low = c.requires.low;
  goes = goes_none c.args.self.now;
  disk = refl;
  lies = ([], refl, omega arith);
  passes = λ asked. passes_none (bytes_from c.args.self.now.gate asked c.args.read.now ∷ []) (spot c.args.self.now);
  begins = λ reads b. b;
  within = λ reads small b w. w;
}

pub returns-in_err-pass_payload-clause-shows : goal.returns-in_err-pass_payload-clause-shows
returns-in_err-pass_payload-clause-shows g c = λ asked.
    let i = c.loop-payload.invariant in
    let f = c.loop-payload.self in
    let new = c.pass_payload.new.self in
    let p = err_from_is_err_and c.from_residual.result c.from_residual.ensures.1 in
    let is = p.1 ∙ ap Err p.2 in
    let piece = bytes_from c.args.self.now.gate asked c.args.read.now ∷ [] in
    let there = block_in c.args.self.now.gate asked f.gate c.args.read.now i.lies.0 c.loop-payload.rest.now i.lies.1 i.lies.2 c.in-Some.payload.now c.in-Some.ensures.block in
    subst (λ (r : Result Bool JournalFault). IsTurn piece (spot c.args.self.now) (spot new) r) (sym is)
    (refused_more piece (spot c.args.self.now) (spot f) (spot new) _ (i.passes asked) (c.in_err-pass_payload.ensures.shows piece there))

pub returns-clause-shows : goal.returns-clause-shows
returns-clause-shows g c = λ asked.
    let i = c.loop-payload.invariant in
    read_turn c.args.self.now.gate asked c.args.read.now i.lies.0 c.loop-payload.rest.now (spot c.args.self.now) (spot c.loop-payload.self) c.is_shut.result i.lies.1 i.lies.2 c.is_shut.ensures (i.passes asked)

pub returns-clause-on : goal.returns-clause-on
returns-clause-on g c = omega (arith, c.loop-payload.invariant.lies.2)
