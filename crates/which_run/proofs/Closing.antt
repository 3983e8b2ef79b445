-- An object with further members that is ended is a whole text.
use Rattle.std.proofs.Common.{◌≡◌, ◌∙◌, List, ap, ◌++◌}
use Rattle.json_out.specs.Inside.{in_object, put_members}
use Rattle.json_out.specs.Texts.{Member}
use Rattle.json_out.specs.Writer.{Written, blank}
use Rattle.json_out.proofs.Objects.{Closes, closes, members_are}

pub closes_with : (ms ns : List Member) (w v : Written) → w ≡ in_object blank ms → v ≡ put_members w ns → Closes v (ms ++ ns)
closes_with ms ns w v a b = closes v (ms ++ ns) (b ∙ ap (λ u. put_members u ns) a ∙ members_are blank ms ns)
