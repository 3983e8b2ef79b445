use Rattle.clearing.proofs.Members.{outcome_same}
use Rattle.clearing.proofs.order_is_free.Goals as goal

pub returns : goal.returns
returns c = λ terms xs ys same. outcome_same terms xs ys (λ o. (same o).1) (λ o. (same o).0)
