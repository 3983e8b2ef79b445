use Rattle.std.proofs.Common.{[], ◌∷◌, ◌++◌, arith}
use Rattle.rtb_disk.specs.Stores.{overwritten, write}
use Rattle.rtb_disk.specs.Images.{torn_part}
use Rattle.rtb_disk.proofs.Moments.{always_failed}
use Rattle.journal_file.specs.Blocks.{HasBehind, HasBlocks}
use Rattle.journal_file.proofs.CreationLemmas.{always_synced, each_synced}
use Rattle.journal_file.proofs.Writing.{gate_keeps, opened_reads}
use Rattle.journal_file.proofs.blocks.open_gate.Goals as goal

pub returns-in_err-write_synced-clause-kept : goal.returns-in_err-write_synced-clause-kept
returns-in_err-write_synced-clause-kept g c = λ told names payloads block is here.
    always_failed _ _ _ _ (gate_keeps names payloads block c.args.gate is) here (c.in_err-write_synced.ensures.failed told)

pub returns-clause-kept : goal.returns-clause-kept
returns-clause-kept g c = λ told names payloads block is here.
    let old = (g.D.Disk.store c.args.disk.now).reads in
    let keeps = gate_keeps names payloads block c.args.gate is in
    let there = keeps old (overwritten old c.args.gate (1 ∷ [])) (here old (g.met.D.Disk.stands c.args.disk.now told)) (torn_part old (1 ∷ []) c.args.gate 1 (omega arith)) in
    always_synced (HasBehind names payloads block) (HasBehind names payloads block) (write c.args.gate 1) _ _ _ keeps (λ image has. has) here there (c.in_ok-write_synced.ensures.done told)

pub returns-clause-opened : goal.returns-clause-opened
returns-clause-opened g c = λ told names payloads block is here.
    let old = (g.D.Disk.store c.args.disk.now).reads in
    let opened = opened_reads names payloads block old c.args.gate is (here old (g.met.D.Disk.stands c.args.disk.now told)) in
    each_synced (HasBlocks names (payloads ++ block ∷ [])) (write c.args.gate 1) (g.D.Disk.store c.args.disk.now) (g.D.Disk.store c.write_synced.new.disk) _ opened (c.in_ok-write_synced.ensures.done told)
