-- An object with one, two or three members that is ended is a whole text.
use Rattle.std.proofs.Common.{◌≡◌, ◌∙◌, ap, [], ◌∷◌}
use Rattle.json_out.specs.Inside.{in_object, put_member}
use Rattle.json_out.specs.Texts.{Member}
use Rattle.json_out.specs.Writer.{Written, blank}
use Rattle.json_out.proofs.Objects.{Closes, closes, member_more}

pub closes_one : (e m : Member) (w v : Written) → w ≡ in_object blank (e ∷ []) → v ≡ put_member w m → Closes v (e ∷ m ∷ [])
closes_one e m w v a b = closes v (e ∷ m ∷ []) (b ∙ ap (λ u. put_member u m) a ∙ member_more blank (e ∷ []) m)

pub closes_two : (e m n : Member) (w v u : Written) → w ≡ in_object blank (e ∷ []) → v ≡ put_member w m → u ≡ put_member v n → Closes u (e ∷ m ∷ n ∷ [])
closes_two e m n w v u a b d =
    closes u (e ∷ m ∷ n ∷ []) (d ∙ ap (λ t. put_member t n) (b ∙ ap (λ t. put_member t m) a ∙ member_more blank (e ∷ []) m) ∙ member_more blank (e ∷ m ∷ []) n)
