use Rattle.std.proofs.Common.{◌+◌, ◌≤◌, ◌∙◌, ap, sym, [], ◌∷◌, length, arith}
use Rattle.rtb_disk.proofs.Moments.{always_same}
use Rattle.journal_file.specs.Unfinished.{BeginsZero}
use Rattle.journal_file.proofs.CompactLemmas.{block_reads, zero_fails, zero_goes_on}
use Rattle.journal_file.proofs.Reaching.{changed_reaches}
use Rattle.journal_file.proofs.Writing.{changed_longer, fails_longer}
use Rattle.byte_fields.proofs.Numbers.{length-eight}
use Rattle.journal_file.proofs.compaction.add_block.Goals as goal

pub returns-in_err-write_at-clause-any_moment : goal.returns-in_err-write_at-clause-any_moment
returns-in_err-write_at-clause-any_moment g c = λ told here.
    zero_fails c.args.end _ c.requires.first _ _ _ (always_same BeginsZero _ here) (c.in_err-write_at.ensures.failed told)

pub returns-in_err-write_at-2-clause-any_moment : goal.returns-in_err-write_at-2-clause-any_moment
returns-in_err-write_at-2-clause-any_moment g c = λ told here.
    let one = zero_goes_on c.args.end _ c.requires.first _ _ _ _ (always_same BeginsZero _ here) (c.in_ok-write_at.ensures.done told) in
    zero_fails (c.args.end + 1) _ (omega arith) _ _ _ one (c.in_err-write_at-2.ensures.failed (c.in_ok-write_at.ensures.told ∙ told))

pub returns-in_err-write_at-3-clause-any_moment : goal.returns-in_err-write_at-3-clause-any_moment
returns-in_err-write_at-3-clause-any_moment g c = λ told here.
    let told1 = c.in_ok-write_at.ensures.told ∙ told in
    let told2 = c.in_ok-write_at-2.ensures.told ∙ told1 in
    let one = zero_goes_on c.args.end _ c.requires.first _ _ _ _ (always_same BeginsZero _ here) (c.in_ok-write_at.ensures.done told) in
    let two = zero_goes_on (c.args.end + 1) _ (omega arith) _ _ _ _ one (c.in_ok-write_at-2.ensures.done told1) in
    zero_fails (c.args.end + 9) _ (omega arith) _ _ _ two (c.in_err-write_at-3.ensures.failed told2)

pub returns-clause-any_moment : goal.returns-clause-any_moment
returns-clause-any_moment g c = λ told here.
    let told1 = c.in_ok-write_at.ensures.told ∙ told in
    let told2 = c.in_ok-write_at-2.ensures.told ∙ told1 in
    let one = zero_goes_on c.args.end _ c.requires.first _ _ _ _ (always_same BeginsZero _ here) (c.in_ok-write_at.ensures.done told) in
    let two = zero_goes_on (c.args.end + 1) _ (omega arith) _ _ _ _ one (c.in_ok-write_at-2.ensures.done told1) in
    zero_goes_on (c.args.end + 9) _ (omega arith) _ _ _ _ two (c.in_ok-write_at-3.ensures.done told2)

pub returns-clause-added : goal.returns-clause-added
returns-clause-added g c = λ told is.
    let told1 = c.in_ok-write_at.ensures.told ∙ told in
    let told2 = c.in_ok-write_at-2.ensures.told ∙ told1 in
    block_reads c.args.block.now c.size_bytes.result c.args.end _ _ _ _ _ _ _ is c.size_bytes.ensures (c.in_ok-write_at.ensures.done told) (c.in_ok-write_at-2.ensures.done told1) (c.in_ok-write_at-3.ensures.done told2)

pub write_at-requires-2 : goal.write_at-requires-2
write_at-requires-2 g c = record {
  inside = λ told1.
      let told = sym c.in_ok-write_at.ensures.told ∙ told1 in
      changed_reaches _ (1 ∷ []) c.args.end _ _ (c.requires.inside told) (c.in_ok-write_at.ensures.done told);
}

pub write_at-requires-3 : goal.write_at-requires-3
write_at-requires-3 g c = record {
  inside = λ told2.
      let told1 = sym c.in_ok-write_at-2.ensures.told ∙ told2 in
      let told = sym c.in_ok-write_at.ensures.told ∙ told1 in
      let one = changed_reaches _ (1 ∷ []) c.args.end _ _ (c.requires.inside told) (c.in_ok-write_at.ensures.done told) in
      let two = changed_reaches _ c.size_bytes.result (c.args.end + 1) _ _ one (c.in_ok-write_at-2.ensures.done told1) in
      omega (arith, two, ap length c.size_bytes.ensures, length-eight (length c.args.block.now));
}

pub returns-in_err-write_at-clause-longer : goal.returns-in_err-write_at-clause-longer
returns-in_err-write_at-clause-longer g c = λ told1.
    fails_longer _ _ _ _ (c.in_err-write_at.ensures.failed (sym c.in_err-write_at.ensures.told ∙ told1))

pub returns-in_err-write_at-2-clause-longer : goal.returns-in_err-write_at-2-clause-longer
returns-in_err-write_at-2-clause-longer g c = λ told2.
    let told1 = sym c.in_err-write_at-2.ensures.told ∙ told2 in
    let told = sym c.in_ok-write_at.ensures.told ∙ told1 in
    let one = changed_longer _ (1 ∷ []) c.args.end _ _ (c.in_ok-write_at.ensures.done told) in
    let two = fails_longer _ _ _ _ (c.in_err-write_at-2.ensures.failed told1) in
    omega (arith, one, two)

pub returns-in_err-write_at-3-clause-longer : goal.returns-in_err-write_at-3-clause-longer
returns-in_err-write_at-3-clause-longer g c = λ told3.
    let told2 = sym c.in_err-write_at-3.ensures.told ∙ told3 in
    let told1 = sym c.in_ok-write_at-2.ensures.told ∙ told2 in
    let told = sym c.in_ok-write_at.ensures.told ∙ told1 in
    let one = changed_longer _ (1 ∷ []) c.args.end _ _ (c.in_ok-write_at.ensures.done told) in
    let two = changed_longer _ c.size_bytes.result (c.args.end + 1) _ _ (c.in_ok-write_at-2.ensures.done told1) in
    let three = fails_longer _ _ _ _ (c.in_err-write_at-3.ensures.failed told2) in
    omega (arith, one, two, three)

pub returns-clause-longer : goal.returns-clause-longer
returns-clause-longer g c = λ told3.
    let told2 = sym c.in_ok-write_at-3.ensures.told ∙ told3 in
    let told1 = sym c.in_ok-write_at-2.ensures.told ∙ told2 in
    let told = sym c.in_ok-write_at.ensures.told ∙ told1 in
    let one = changed_longer _ (1 ∷ []) c.args.end _ _ (c.in_ok-write_at.ensures.done told) in
    let two = changed_longer _ c.size_bytes.result (c.args.end + 1) _ _ (c.in_ok-write_at-2.ensures.done told1) in
    let three = changed_longer _ c.args.block.now (c.args.end + 9) _ _ (c.in_ok-write_at-3.ensures.done told2) in
    omega (arith, one, two, three)

pub returns-clause-long : goal.returns-clause-long
returns-clause-long g c = λ told3.
    let told2 = sym c.in_ok-write_at-3.ensures.told ∙ told3 in
    let told1 = sym c.in_ok-write_at-2.ensures.told ∙ told2 in
    let told = sym c.in_ok-write_at.ensures.told ∙ told1 in
    let one = changed_reaches _ (1 ∷ []) c.args.end _ _ (c.requires.inside told) (c.in_ok-write_at.ensures.done told) in
    let two = changed_reaches _ c.size_bytes.result (c.args.end + 1) _ _ one (c.in_ok-write_at-2.ensures.done told1) in
    let nine : c.args.end + 9 ≤ length (g.D.Disk.store c.write_at-2.new.self).reads = omega (arith, two, ap length c.size_bytes.ensures, length-eight (length c.args.block.now)) in
    changed_reaches _ c.args.block.now (c.args.end + 9) _ _ nine (c.in_ok-write_at-3.ensures.done told2)

pub returns-clause-bound : goal.returns-clause-bound
returns-clause-bound g c = c.in_ok-write_at-3.ensures.bound
