-- What a list ends as, once a `&mut` to one of its items has ended.
use Rattle.std.specs.Prelude.{ℕ, List, Option, slice_set}
use Rattle.std.specs.Borrow.{LendsIf, Fml, RattleType, MutBor}
use Rattle.rtb_num.specs.Spare.{SpareItems}
use Rattle.rtb_num.specs.contracts.lists.List.{the_row as list_row}
use Rattle.rtb_num.specs.contracts.spare.SpareList.{the_row as spare_row}

-- the item at the place is the last value written through r, and at `None` the list stays as it is
module _ (T : RattleType) (l : MutBor (List T.Denot)) where
  abbrev pub lends_item : ℕ → Option (MutBor T.Denot) → Fml
  lends_item i r = LendsIf (list_row T) T l r (slice_set l.now i) l.now

module _ (T : RattleType) (l : MutBor (SpareItems T.Denot)) where
  abbrev pub lends_spare_item : ℕ → Option (MutBor T.Denot) → Fml
  lends_spare_item i r = LendsIf (spare_row T) T l r (λ w. record { items = slice_set l.now.items i w; spare = l.now.spare }) l.now
