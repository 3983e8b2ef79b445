-- A whole number that has to be there, by way of one that may be absent.
use Rattle.std.proofs.Common.{◌≡◌, Option, Some, None, Result, Ok, Err, refl}
use Rattle.json_fields.specs.Answers.{map_ok}
use Rattle.json_fields.specs.Fields.{optional, required}
use Rattle.json_fields.specs.declared.flaw.Flaw.{Flaw}
use Rattle.exact_json.specs.Tree.{Tree}

got : {A F : Type 0} (r : Result A F) (x : A) → Ok (Some x) ≡ map_ok Some r → Ok x ≡ r
got (Ok y) x e = cc
got (Err f) x e = cc

not_none : {A F : Type 0} {P : Type 0} (r : Result A F) → ◌≡◌ {A = Result (Option A) F} (Ok None) (map_ok Some r) → P
not_none (Ok y) e = cc
not_none (Err f) e = cc

failed : {A F : Type 0} (r : Result A F) (f : F) → ◌≡◌ {A = Result (Option A) F} (Err f) (map_ok Some r) → Err f ≡ r
failed (Ok y) f e = cc
failed (Err g) f e = cc

pub there : {A : Type 0} (read : Tree → Result A Flaw) (t : Option Tree) (x : A) → Ok (Some x) ≡ optional read t → Ok x ≡ required read t
unfolding optional required
there read None x e = cc
there read (Some t) x e = got (read t) x e

pub absent : {A : Type 0} (read : Tree → Result A Flaw) (t : Option Tree) → Ok None ≡ optional read t → Err Flaw.Missing ≡ required read t
unfolding optional required
absent read None e = refl
absent read (Some t) e = not_none (read t) e

pub flawed : {A : Type 0} (read : Tree → Result A Flaw) (t : Option Tree) (f : Flaw) → Err f ≡ optional read t → Err f ≡ required read t
unfolding optional required
flawed read None f e = cc
flawed read (Some t) f e = failed (read t) f e
