use Rattle.std.proofs.Common.{[], inl, refl}
use Rattle.http_wire.proofs.opened.read_head.Goals as goal

pub returns-in-Err : goal.returns-in-Err
returns-in-Err c = inl (λ h accepted. c.in-Err.ensures.found h [] accepted.reads accepted.few, refl)

pub returns-in-Ok-Partial : goal.returns-in-Ok-Partial
returns-in-Ok-Partial c = inl (λ h accepted. rw c.in-Ok-Partial.field-0-is at (c.in-Ok-Partial.ensures.found h [] accepted.reads accepted.few), refl)
