-- What an image is at each stage.
use Rattle.std.proofs.Common.{◌≡◌, ℕ, List, Result, Ok, Err, OnErr, sym, subst}
use Rattle.rtb_disk.specs.Stores.{Moment, EachImage}
use Rattle.journal_file.specs.Blocks.{HasBlocks, HasBehind}
use Rattle.journal_file.specs.Standing.{StoppedAt}
use Rattle.journal_file.specs.declared.journal.Stage.{Stage}
use Rattle.journal_file.specs.declared.journal.Stage.TheVariants.{Block, Gate}

pub on_err : {T E : Type 0} (r : Result T E) (P : Type 0) → P → OnErr r P
on_err (Ok x) P p = tt
on_err (Err e) P p = p

module _ (names payloads : List (List ℕ)) (block : List ℕ) (stage : Stage) (m : Moment) where
  pub at_block : stage ≡ Block → EachImage (StoppedAt stage names payloads block) m → EachImage (HasBlocks names payloads) m
  at_block is images = subst (λ s. EachImage (StoppedAt s names payloads block) m) is images

  pub at_gate : stage ≡ Gate → EachImage (StoppedAt stage names payloads block) m → EachImage (HasBehind names payloads block) m
  at_gate is images = subst (λ s. EachImage (StoppedAt s names payloads block) m) is images

  pub stays_at_gate : stage ≡ Gate → EachImage (HasBehind names payloads block) m → EachImage (StoppedAt stage names payloads block) m
  stays_at_gate is images = subst (λ s. EachImage (StoppedAt s names payloads block) m) (sym is) images

  pub stays_at_block : stage ≡ Block → EachImage (HasBlocks names payloads) m → EachImage (StoppedAt stage names payloads block) m
  stays_at_block is images = subst (λ s. EachImage (StoppedAt s names payloads block) m) (sym is) images
