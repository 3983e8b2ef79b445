use Rattle.std.proofs.Common.{◌+◌, ◌∙◌, ap, inl, length, ℕ}
use Rattle.rtb_disk.proofs.Moments.{always_map}
use Rattle.journal_file.specs.Blocks.{HasBlocks}
use Rattle.journal_file.specs.Standing.{IsBeforeOrAfter}
use Rattle.journal_file.proofs.Stopping.{at_block, stays_at_block}
use Rattle.journal_file.proofs.Writing.{end_push}
use Rattle.journal_file.proofs.journal.Journal.place.Goals as goal

pub returns-in_err-write_block-clause-any_moment : goal.returns-in_err-write_block-clause-any_moment
returns-in_err-write_block-clause-any_moment g c = λ names payloads b.
    let run = c.in_err-write_block.ensures.kept b.told names payloads b.end (at_block names payloads c.args.block.now _ _ c.requires.stage b.images) in
    always_map (HasBlocks names payloads) (IsBeforeOrAfter names payloads c.args.block.now) (λ image has. inl has) _ _ run

pub returns-clause-any_moment : goal.returns-clause-any_moment
returns-clause-any_moment g c = λ names payloads b.
    let run = c.in_ok-write_block.ensures.kept b.told names payloads b.end (at_block names payloads c.args.block.now _ _ c.requires.stage b.images) in
    always_map (HasBlocks names payloads) (IsBeforeOrAfter names payloads c.args.block.now) (λ image has. inl has) _ _ run

pub returns-clause-broken : goal.returns-clause-broken
returns-clause-broken g c = λ names payloads b.
    record {
      told = c.in_ok-write_block.ensures.told ∙ b.told;
      end = b.end;
      next = λ is. ap (λ (n : ℕ). n + 9 + length c.args.block.now) b.end ∙ end_push payloads c.args.block.now;
      images = c.in_ok-write_block.ensures.behind b.told names payloads b.end (at_block names payloads c.args.block.now _ _ c.requires.stage b.images);
    }

pub returns-in_err-write_block-clause-broken : goal.returns-in_err-write_block-clause-broken
returns-in_err-write_block-clause-broken g c = λ names payloads b.
    let run = c.in_err-write_block.ensures.kept b.told names payloads b.end (at_block names payloads c.args.block.now _ _ c.requires.stage b.images) in
    record {
      told = c.in_err-write_block.ensures.told ∙ b.told;
      end = b.end;
      next = b.next;
      images = stays_at_block names payloads c.args.block.now _ _ c.requires.stage run.last;
    }
