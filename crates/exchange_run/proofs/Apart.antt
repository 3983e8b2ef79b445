-- A run that was handed out nothing.
use Rattle.std.proofs.Common.{◌≡◌, ◌∙◌, List, [], Option, None, ap, refl}
use Rattle.worker_pool.specs.Pools.{History}
use Rattle.exchange_run.specs.Run.{Back, IsApart}

pub apart : {World Door Disk : Type 0} (w : World) (doors : List Door) (disk second last : Option Disk) (past : Option History) → doors ≡ [] → disk ≡ None → second ≡ None → last ≡ None → past ≡ None
    → IsApart w w (record { doors = doors; disk = disk; other = second; last = last; past = past })
apart {World} {Door} {Disk} w doors disk second last past e f g h i =
    let back : List Door → Option Disk → Option Disk → Option Disk → Option History → Back Door Disk = λ a b c d p. record { doors = a; disk = b; other = c; last = d; past = p } in
    record { world = refl; none = ap (λ x. back x disk second last past) e ∙ ap (λ x. back [] x second last past) f ∙ ap (λ x. back [] None x last past) g ∙ ap (λ x. back [] None None x past) h ∙ ap (λ x. back [] None None None x) i }
