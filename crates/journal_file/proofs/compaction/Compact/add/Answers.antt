use Rattle.std.proofs.Common.{◌+◌, ◌∙◌, ap, ℕ, length}
use Rattle.rtb_disk.proofs.Moments.{always_map}
use Rattle.journal_file.specs.Unfinished.{BeginsZero, IsUnfinished}
use Rattle.journal_file.proofs.CompactLemmas.{added_end, added_reads, begins_unfinished}
use Rattle.journal_file.proofs.Writing.{blocks_push, end_push}
use Rattle.journal_file.proofs.compaction.Compact.add.Goals as goal

pub returns-in_err-add_block-clause-any_moment : goal.returns-in_err-add_block-clause-any_moment
returns-in_err-add_block-clause-any_moment g c = λ payloads a.
    always_map BeginsZero IsUnfinished begins_unfinished _ _ (c.in_err-add_block.ensures.any_moment a.told a.images)

pub returns-clause-added : goal.returns-clause-added
returns-clause-added g c = λ payloads a.
    record {
      told = c.in_ok-add_block.ensures.told ∙ a.told;
      end = ap (λ (n : ℕ). n + 9 + length c.args.block.now) a.end ∙ end_push payloads c.args.block.now;
      reads = c.in_ok-add_block.ensures.added a.told (added_end payloads _ c.args.self.now.end a.end a.reads) ∙ added_reads payloads c.args.block.now _ a.reads (blocks_push payloads c.args.block.now);
      images = (c.in_ok-add_block.ensures.any_moment a.told a.images).last;
    }

pub returns-clause-any_moment : goal.returns-clause-any_moment
returns-clause-any_moment g c = λ payloads a.
    always_map BeginsZero IsUnfinished begins_unfinished _ _ (c.in_ok-add_block.ensures.any_moment a.told a.images)
