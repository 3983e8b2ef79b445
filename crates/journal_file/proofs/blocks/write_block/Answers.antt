use Rattle.std.proofs.Common.{◌+◌, ◌≤◌, ◌∙◌, sym, length, arith}
use Rattle.rtb_disk.proofs.Moments.{always_same}
use Rattle.journal_file.proofs.Writing.{behind_now, block_parts, fails_longer, fails_there, parts_long, syncs_on, synced_longer}
use Rattle.journal_file.proofs.Reaching.{synced_reaches}
use Rattle.journal_file.proofs.blocks.write_block.Goals as goal

pub write_parts_synced-requires : goal.write_parts_synced-requires
write_parts_synced-requires g c = record {
  inside = λ told. omega (arith, c.requires.inside told);
}

pub returns-in_err-write_parts_synced-clause-kept : goal.returns-in_err-write_parts_synced-clause-kept
returns-in_err-write_parts_synced-clause-kept g c = λ told names payloads is here.
    fails_there names payloads (c.args.gate + 1) _ (omega (arith, is)) _ _ _ (always_same _ _ here) (c.in_err-write_parts_synced.ensures.failed told)

pub returns-in_err-write_parts_synced-clause-longer : goal.returns-in_err-write_parts_synced-clause-longer
returns-in_err-write_parts_synced-clause-longer g c = λ told.
    fails_longer _ _ _ _ (c.in_err-write_parts_synced.ensures.failed (sym c.in_err-write_parts_synced.ensures.told ∙ told))

pub returns-clause-longer : goal.returns-clause-longer
returns-clause-longer g c = λ told.
    synced_longer _ (block_parts c.size_bytes.result c.args.block.now) (c.args.gate + 1) _ _ (c.in_ok-write_parts_synced.ensures.done (sym c.in_ok-write_parts_synced.ensures.told ∙ told))

pub returns-clause-kept : goal.returns-clause-kept
returns-clause-kept g c = λ told names payloads is here.
    syncs_on names payloads (c.args.gate + 1) (block_parts c.size_bytes.result c.args.block.now) (omega (arith, is)) _ _ _ (always_same _ _ here) (g.met.D.Disk.stands c.args.disk.now told) (c.in_ok-write_parts_synced.ensures.done told)

pub returns-clause-behind : goal.returns-clause-behind
returns-clause-behind g c = λ told names payloads is here.
    behind_now names payloads c.args.block.now c.size_bytes.result c.args.gate _ _ _ is c.size_bytes.ensures (here _ (g.met.D.Disk.stands c.args.disk.now told)) (c.in_ok-write_parts_synced.ensures.done told)

pub returns-clause-long : goal.returns-clause-long
returns-clause-long g c = λ told.
    let first : c.args.gate + 1 ≤ length (g.D.Disk.store c.args.disk.now).reads = omega (arith, c.requires.inside told) in
    let there = synced_reaches _ (block_parts c.size_bytes.result c.args.block.now) (c.args.gate + 1) _ _ first (c.in_ok-write_parts_synced.ensures.done told) in
    omega (arith, there, parts_long c.size_bytes.result c.args.block.now c.size_bytes.ensures)

pub returns-clause-bound : goal.returns-clause-bound
returns-clause-bound g c = omega (arith, c.in_ok-write_parts_synced.ensures.bound, parts_long c.size_bytes.result c.args.block.now c.size_bytes.ensures)
