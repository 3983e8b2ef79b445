-- A change as its tag and the plain pairs that its bytes are read as.
use Rattle.std.proofs.Common.{◌≡◌, ℕ, ◌+◌, ◌≤◌, List, [], ◌++◌, length, Option, Some, None, Result, Ok, Err, IfOk, Bool, refl, sym, ap, subst, ◌∙◌, append_assoc, append-nil}
use Rattle.std.proofs.lemmas.Option.{same_Some}
use Rattle.rtb_num.proofs.Plain.{heads, tails}
use Rattle.budget_book.specs.declared.sales.Gone.{Gone}
use Rattle.budget_book.specs.declared.sales.SaleState.{SaleState}
use Rattle.byte_fields.specs.Codes.{BeginsAt, IsReadAt, IsCode, BothValid, both_bytes}
use Rattle.byte_fields.specs.Encodings.{FitsFour, four_bytes, FitsEight, eight_bytes, IsFlag, flag_bytes, IsOptionOf, option_bytes, text_bytes}
use Rattle.byte_fields.proofs.Codes.{begins_as, begins_both, begins_empty, begins_first, begins_second, both_code, flag_code, one_reading, option_code, three_code}
use Rattle.byte_fields.proofs.Numbers.{four_code, eight_code}
use Rattle.campaign.specs.Caps.{CapTerms}
use Rattle.campaign.specs.Encoding.{facts_bytes}
use Rattle.campaign.specs.Kept.{IsEncodable as IsUncapped, IsKept, with_cap, without_cap}
use Rattle.campaign.specs.declared.parts.FactParts.{FactParts}
use Rattle.campaign.proofs.Decoding.{encodable_code as uncapped_code, same_bytes}
use Rattle.campaign.proofs.Rules.{encodable}
use Rattle.effects.specs.Bodies.{IsState, IsTag, IsTagged, row_from, state_bytes, tag_bytes}
use Rattle.effects.specs.Bytes.{AreItems, IsAmount, IsCap, IsChange, IsGone, IsRecord, IsUser, body_bytes, cap_bytes, change_bytes, gone_bytes, items_bytes, record_bytes, terms_bytes}
use Rattle.effects.specs.Tags.{by_cap, number_of, tag_numbered, tag_of}
use Rattle.effects.specs.declared.tag.Tag.{Tag}
use Rattle.effects.proofs.PartCodes.{amount_code, gone_code, items_code, numbered_again, state_code, terms_code, user_code}
use Rattle.plain_exchange.specs.declared.changes.Change.{Change}
use Rattle.plain_exchange.specs.declared.changes.SoldItem.{SoldItem}
use Rattle.target_expr.specs.Bytes.{IsEncodable as IsExpr, expr_bytes}
use Rattle.target_expr.specs.declared.pred.Pred.{Pred}
use Rattle.target_expr.proofs.Encoding.{expr_code}

abbrev pub Expr : Type 0
Expr = List (List Pred)

-- ---- the pairs of each tag, their ranges and bytes, and the change that they make

abbrev pub Body : Tag → Type 0
Body Tag.Swept = Unit {0}
Body Tag.Sold = List SoldItem
Body Tag.Added = FactParts × Expr
Body Tag.Changed = (ℕ × FactParts) × Expr
Body Tag.Paused = ℕ
Body Tag.Resumed = ℕ
Body Tag.Billed = ℕ
Body Tag.Forgot = ℕ
Body Tag.Lost = ℕ
Body Tag.SoldTo = List ℕ × List SoldItem
Body Tag.CappedAdded = (FactParts × CapTerms) × Expr
Body Tag.CappedChanged = ((ℕ × FactParts) × CapTerms) × Expr
Body Tag.Kept = (((Bool × FactParts) × Option CapTerms) × Expr) × Gone
Body Tag.KeptSale = ((((ℕ × ℕ) × ℕ) × ℕ) × SaleState) × Option (List ℕ)

abbrev pub IsBody : (t : Tag) → Body t → Type 0
IsBody Tag.Swept = λ b. Unit {0}
IsBody Tag.Sold = AreItems
IsBody Tag.Added = BothValid IsUncapped IsExpr
IsBody Tag.Changed = BothValid (BothValid FitsFour IsUncapped) IsExpr
IsBody Tag.Paused = FitsFour
IsBody Tag.Resumed = FitsFour
IsBody Tag.Billed = FitsEight
IsBody Tag.Forgot = FitsEight
IsBody Tag.Lost = FitsEight
IsBody Tag.SoldTo = BothValid IsUser AreItems
IsBody Tag.CappedAdded = BothValid (BothValid IsUncapped IsCap) IsExpr
IsBody Tag.CappedChanged = BothValid (BothValid (BothValid FitsFour IsUncapped) IsCap) IsExpr
IsBody Tag.Kept = BothValid (BothValid (BothValid (BothValid IsFlag IsUncapped) (IsOptionOf IsCap)) IsExpr) IsGone
IsBody Tag.KeptSale = BothValid (BothValid (BothValid (BothValid (BothValid FitsFour IsAmount) FitsEight) FitsEight) IsState) (IsOptionOf IsUser)

abbrev pub bytes_of : (t : Tag) → Body t → List ℕ
bytes_of Tag.Swept = λ b. []
bytes_of Tag.Sold = items_bytes
bytes_of Tag.Added = both_bytes facts_bytes expr_bytes
bytes_of Tag.Changed = both_bytes (both_bytes four_bytes facts_bytes) expr_bytes
bytes_of Tag.Paused = four_bytes
bytes_of Tag.Resumed = four_bytes
bytes_of Tag.Billed = eight_bytes
bytes_of Tag.Forgot = eight_bytes
bytes_of Tag.Lost = eight_bytes
bytes_of Tag.SoldTo = both_bytes text_bytes items_bytes
bytes_of Tag.CappedAdded = both_bytes (both_bytes facts_bytes terms_bytes) expr_bytes
bytes_of Tag.CappedChanged = both_bytes (both_bytes (both_bytes four_bytes facts_bytes) terms_bytes) expr_bytes
bytes_of Tag.Kept = both_bytes (both_bytes (both_bytes (both_bytes flag_bytes facts_bytes) (option_bytes terms_bytes)) expr_bytes) gone_bytes
bytes_of Tag.KeptSale = both_bytes (both_bytes (both_bytes (both_bytes (both_bytes four_bytes eight_bytes) eight_bytes) eight_bytes) state_bytes) (option_bytes text_bytes)

abbrev pub make : (t : Tag) → Body t → Change
make Tag.Swept = λ b. Change.Swept
make Tag.Sold = λ b. Change.Sold b
make Tag.Added = λ b. Change.Added b.0 b.1
make Tag.Changed = λ b. Change.Changed b.0.0 b.0.1 b.1
make Tag.Paused = λ b. Change.Paused b
make Tag.Resumed = λ b. Change.Resumed b
make Tag.Billed = λ b. Change.Billed b
make Tag.Forgot = λ b. Change.Forgot b
make Tag.Lost = λ b. Change.Lost b
make Tag.SoldTo = λ b. Change.SoldTo b.0 b.1
make Tag.CappedAdded = λ b. Change.Added (with_cap (Some b.0.1) b.0.0) b.1
make Tag.CappedChanged = λ b. Change.Changed b.0.0.0 (with_cap (Some b.0.1) b.0.0.1) b.1
make Tag.Kept = λ b. Change.Kept (record { live = b.0.0.0.0; facts = with_cap b.0.0.1 b.0.0.0.1; expr = b.0.1; gone = b.1 })
make Tag.KeptSale = λ b. Change.KeptSale (row_from b.0 b.1)

-- ---- they are codes

pub code : (t : Tag) → IsCode (IsBody t) (bytes_of t)
code Tag.Swept = record { unique = λ x y s t v w h. (refl, h) }
code Tag.Sold = items_code
code Tag.Added = both_code IsUncapped facts_bytes IsExpr expr_bytes uncapped_code expr_code
code Tag.Changed = three_code FitsFour four_bytes IsUncapped facts_bytes IsExpr expr_bytes four_code uncapped_code expr_code
code Tag.Paused = four_code
code Tag.Resumed = four_code
code Tag.Billed = eight_code
code Tag.Forgot = eight_code
code Tag.Lost = eight_code
code Tag.SoldTo = both_code IsUser text_bytes AreItems items_bytes user_code items_code
code Tag.CappedAdded = three_code IsUncapped facts_bytes IsCap terms_bytes IsExpr expr_bytes uncapped_code terms_code expr_code
code Tag.CappedChanged = both_code (BothValid (BothValid FitsFour IsUncapped) IsCap) (both_bytes (both_bytes four_bytes facts_bytes) terms_bytes) IsExpr expr_bytes
    (three_code FitsFour four_bytes IsUncapped facts_bytes IsCap terms_bytes four_code uncapped_code terms_code) expr_code
code Tag.Kept = three_code (BothValid (BothValid IsFlag IsUncapped) (IsOptionOf IsCap)) (both_bytes (both_bytes flag_bytes facts_bytes) (option_bytes terms_bytes)) IsExpr expr_bytes IsGone gone_bytes
    (three_code IsFlag flag_bytes IsUncapped facts_bytes (IsOptionOf IsCap) (option_bytes terms_bytes) flag_code uncapped_code (option_code IsCap terms_bytes terms_code)) expr_code gone_code
code Tag.KeptSale = both_code (BothValid (BothValid (BothValid (BothValid FitsFour IsAmount) FitsEight) FitsEight) IsState) (both_bytes (both_bytes (both_bytes (both_bytes four_bytes eight_bytes) eight_bytes) eight_bytes) state_bytes) (IsOptionOf IsUser) (option_bytes text_bytes)
    (three_code (BothValid (BothValid FitsFour IsAmount) FitsEight) (both_bytes (both_bytes four_bytes eight_bytes) eight_bytes) FitsEight eight_bytes IsState state_bytes (three_code FitsFour four_bytes IsAmount eight_bytes FitsEight eight_bytes four_code amount_code eight_code) eight_code state_code)
    (option_code IsUser text_bytes user_code)

-- ---- and every change is made of one

abbrev pub added_body : (cap : Option CapTerms) → FactParts → Expr → Body (by_cap Tag.Added Tag.CappedAdded cap)
added_body None f e = (without_cap f, e)
added_body (Some c) f e = ((without_cap f, c), e)

abbrev pub changed_body : (cap : Option CapTerms) → ℕ → FactParts → Expr → Body (by_cap Tag.Changed Tag.CappedChanged cap)
changed_body None n f e = ((n, without_cap f), e)
changed_body (Some c) n f e = (((n, without_cap f), c), e)

abbrev pub body_of : (x : Change) → Body (tag_of x)
body_of Change.Swept = tt
body_of (Change.Sold items) = items
body_of (Change.Added f e) = added_body f.cap f e
body_of (Change.Changed n f e) = changed_body f.cap n f e
body_of (Change.Paused n) = n
body_of (Change.Resumed n) = n
body_of (Change.Billed n) = n
body_of (Change.Forgot n) = n
body_of (Change.Lost n) = n
body_of (Change.SoldTo user items) = (user, items)
body_of (Change.Kept k) = ((((k.live, without_cap k.facts), k.facts.cap), k.expr), k.gone)
body_of (Change.KeptSale r) = (((((r.campaign, r.price), r.moment), r.due), r.state), r.user)

added_valid : (cap : Option CapTerms) (f : FactParts) (e : Expr) → f.cap ≡ cap → IsRecord f e → IsBody (by_cap Tag.Added Tag.CappedAdded cap) (added_body cap f e)
added_valid None f e is v = (encodable f v.facts_kept, v.expr_kept)
added_valid (Some c) f e is v = ((encodable f v.facts_kept, subst (IsOptionOf IsCap) is v.cap), v.expr_kept)

changed_valid : (cap : Option CapTerms) (n : ℕ) (f : FactParts) (e : Expr) → f.cap ≡ cap → FitsFour n → IsRecord f e → IsBody (by_cap Tag.Changed Tag.CappedChanged cap) (changed_body cap n f e)
changed_valid None n f e is fits v = ((fits, encodable f v.facts_kept), v.expr_kept)
changed_valid (Some c) n f e is fits v = (((fits, encodable f v.facts_kept), subst (IsOptionOf IsCap) is v.cap), v.expr_kept)

pub body_valid : (x : Change) → IsChange x → IsBody (tag_of x) (body_of x)
body_valid Change.Swept v = tt
body_valid (Change.Sold items) v = v
body_valid (Change.Added f e) v = added_valid f.cap f e refl v
body_valid (Change.Changed n f e) v = changed_valid f.cap n f e refl v.0 v.1
body_valid (Change.Paused n) v = v
body_valid (Change.Resumed n) v = v
body_valid (Change.Billed n) v = v
body_valid (Change.Forgot n) v = v
body_valid (Change.Lost n) v = v
body_valid (Change.SoldTo user items) v = v
body_valid (Change.Kept k) v = ((((tt, encodable k.facts v.0.facts_kept), v.0.cap), v.0.expr_kept), v.1)
body_valid (Change.KeptSale r) v = (((((v.campaign, v.price), v.moment), v.due), tt), v.user)

-- its bytes are the body's
record_parts : (cap : Option CapTerms) (f : FactParts) (e : Expr) → f.cap ≡ cap → record_bytes f e ≡ (facts_bytes (without_cap f) ++ cap_bytes cap) ++ expr_bytes e
record_parts cap f e is = ap (λ k. (facts_bytes f ++ cap_bytes k) ++ expr_bytes e) is ∙ ap (λ l. (l ++ cap_bytes cap) ++ expr_bytes e) (sym (same_bytes f))

added_bytes : (cap : Option CapTerms) (f : FactParts) (e : Expr) → f.cap ≡ cap → record_bytes f e ≡ bytes_of (by_cap Tag.Added Tag.CappedAdded cap) (added_body cap f e)
added_bytes None f e is = record_parts None f e is ∙ ap (λ l. l ++ expr_bytes e) (append-nil (facts_bytes (without_cap f)))
added_bytes (Some c) f e is = record_parts (Some c) f e is

changed_bytes : (cap : Option CapTerms) (n : ℕ) (f : FactParts) (e : Expr) → f.cap ≡ cap → four_bytes n ++ record_bytes f e ≡ bytes_of (by_cap Tag.Changed Tag.CappedChanged cap) (changed_body cap n f e)
changed_bytes None n f e is =
    ap (λ l. four_bytes n ++ l) (record_parts None f e is ∙ ap (λ l. l ++ expr_bytes e) (append-nil (facts_bytes (without_cap f))))
    ∙ sym (append_assoc (four_bytes n) (facts_bytes (without_cap f)) (expr_bytes e))
changed_bytes (Some c) n f e is =
    ap (λ l. four_bytes n ++ l) (record_parts (Some c) f e is)
    ∙ sym (append_assoc (four_bytes n) (facts_bytes (without_cap f) ++ terms_bytes c) (expr_bytes e))
    ∙ ap (λ l. l ++ expr_bytes e) (sym (append_assoc (four_bytes n) (facts_bytes (without_cap f)) (terms_bytes c)))

kept_parts : (l f g h i : List ℕ) (k : List ℕ) → f ≡ g → (((l ++ f) ++ h) ++ i) ++ k ≡ (((l ++ g) ++ h) ++ i) ++ k
kept_parts l f g h i k e = ap (λ x. (((l ++ x) ++ h) ++ i) ++ k) e

pub same_body : (x : Change) → body_bytes x ≡ bytes_of (tag_of x) (body_of x)
same_body Change.Swept = refl
same_body (Change.Sold items) = refl
same_body (Change.Added f e) = added_bytes f.cap f e refl
same_body (Change.Changed n f e) = changed_bytes f.cap n f e refl
same_body (Change.Paused n) = refl
same_body (Change.Resumed n) = refl
same_body (Change.Billed n) = refl
same_body (Change.Forgot n) = refl
same_body (Change.Lost n) = refl
same_body (Change.SoldTo user items) = refl
same_body (Change.Kept k) = kept_parts (flag_bytes k.live) (facts_bytes k.facts) (facts_bytes (without_cap k.facts)) (option_bytes terms_bytes k.facts.cap) (expr_bytes k.expr) (gone_bytes k.gone) (sym (same_bytes k.facts))
same_body (Change.KeptSale r) = refl

-- and it is made of the body again
added_made : (cap : Option CapTerms) (f : FactParts) (e : Expr) → f.cap ≡ cap → make (by_cap Tag.Added Tag.CappedAdded cap) (added_body cap f e) ≡ Change.Added f e
added_made None f e is = ap (λ k. Change.Added (with_cap k f) e) (sym is)
added_made (Some c) f e is = ap (λ k. Change.Added (with_cap k f) e) (sym is)

changed_made : (cap : Option CapTerms) (n : ℕ) (f : FactParts) (e : Expr) → f.cap ≡ cap → make (by_cap Tag.Changed Tag.CappedChanged cap) (changed_body cap n f e) ≡ Change.Changed n f e
changed_made None n f e is = ap (λ k. Change.Changed n (with_cap k f) e) (sym is)
changed_made (Some c) n f e is = ap (λ k. Change.Changed n (with_cap k f) e) (sym is)

pub made_again : (x : Change) → make (tag_of x) (body_of x) ≡ x
made_again Change.Swept = refl
made_again (Change.Sold items) = refl
made_again (Change.Added f e) = added_made f.cap f e refl
made_again (Change.Changed n f e) = changed_made f.cap n f e refl
made_again (Change.Paused n) = refl
made_again (Change.Resumed n) = refl
made_again (Change.Billed n) = refl
made_again (Change.Forgot n) = refl
made_again (Change.Lost n) = refl
made_again (Change.SoldTo user items) = refl
made_again (Change.Kept k) = refl
made_again (Change.KeptSale r) = refl

-- ---- so changes are a code

same_tag : (t u : Tag) → number_of t ≡ number_of u → t ≡ u
same_tag t u e = same_Some t u (sym (numbered_again t) ∙ ap tag_numbered e ∙ numbered_again u)

pub tag_code : IsCode IsTag tag_bytes
tag_code = record { unique = λ a b s t v w h. (same_tag a b (heads (number_of a) (number_of b) s t h), tails (number_of a) (number_of b) s t h) }

bodies_unique : (k : Tag) (b : Body k) (s t : List ℕ) → IsBody k b → (j : Tag) → k ≡ j → (d : Body j) → IsBody j d → bytes_of k b ++ s ≡ bytes_of j d ++ t → (make k b ≡ make j d) × (s ≡ t)
bodies_unique k b s t v j same =
    subst (λ j. (d : Body j) → IsBody j d → bytes_of k b ++ s ≡ bytes_of j d ++ t → (make k b ≡ make j d) × (s ≡ t)) same
    (λ d w h. let one = (code k).unique b d s t v w h in (ap (make k) one.0, one.1))

pub change_code : IsCode IsChange change_bytes
change_code = record {
  unique = λ x y s t v w h.
      let tags = tag_code.unique (tag_of x) (tag_of y) (body_bytes x ++ s) (body_bytes y ++ t) tt tt h in
      let bodies = bodies_unique (tag_of x) (body_of x) s t (body_valid x v) (tag_of y) tags.0 (body_of y) (body_valid y w)
      (ap (λ l. l ++ s) (sym (same_body x)) ∙ tags.1 ∙ ap (λ l. l ++ t) (same_body y)) in
      (sym (made_again x) ∙ bodies.0 ∙ made_again y, bodies.1);
}

-- ---- bodies that are read

pub no_body : (t : Tag) (bytes : List ℕ) (place : ℕ) → IsReadAt (IsBody t) (bytes_of t) bytes place None → IsReadAt (IsTagged t) body_bytes bytes place None
no_body t bytes place none = λ x m v a.
    let none_there : IsReadAt (IsBody (tag_of x)) (bytes_of (tag_of x)) bytes place None = subst (λ u. IsReadAt (IsBody u) (bytes_of u) bytes place None) (sym v.1) none in
    none_there (body_of x) m (body_valid x v.0) (begins_as bytes (body_bytes x) (bytes_of (tag_of x) (body_of x)) place m m (same_body x) refl a)

-- what is read as pairs makes a change of that tag
kept_with : (cap : Option CapTerms) (f : FactParts) → IsKept f → IsKept (with_cap cap f)
kept_with cap f k = record { faultless = k.faultless; whole_micros = k.whole_micros; in_range = record { bid_range = k.in_range.bid_range; budget_range = k.in_range.budget_range; attr_range = k.in_range.attr_range } }

record_with : (cap : Option CapTerms) (f : FactParts) (e : Expr) → IsKept f → IsOptionOf IsCap cap → IsExpr e → IsRecord (with_cap cap f) e
record_with cap f e k c x = record { facts_kept = kept_with cap f k; cap = c; expr_kept = x }

record_without : (f : FactParts) (e : Expr) → IsUncapped f → IsExpr e → IsRecord f e
record_without f e u x = record { facts_kept = u.kept; cap = subst (IsOptionOf IsCap) (sym u.uncapped) tt; expr_kept = x }

pub made_tagged : (t : Tag) (b : Body t) → IsBody t b → IsTagged t (make t b)
made_tagged Tag.Swept b v = (tt, refl)
made_tagged Tag.Sold b v = (v, refl)
made_tagged Tag.Added b v = (record_without b.0 b.1 v.0 v.1, ap (by_cap Tag.Added Tag.CappedAdded) v.0.uncapped)
made_tagged Tag.Changed b v = ((v.0.0, record_without b.0.1 b.1 v.0.1 v.1), ap (by_cap Tag.Changed Tag.CappedChanged) v.0.1.uncapped)
made_tagged Tag.Paused b v = (v, refl)
made_tagged Tag.Resumed b v = (v, refl)
made_tagged Tag.Billed b v = (v, refl)
made_tagged Tag.Forgot b v = (v, refl)
made_tagged Tag.Lost b v = (v, refl)
made_tagged Tag.SoldTo b v = (v, refl)
made_tagged Tag.CappedAdded b v = (record_with (Some b.0.1) b.0.0 b.1 v.0.0.kept v.0.1 v.1, refl)
made_tagged Tag.CappedChanged b v = ((v.0.0.0, record_with (Some b.0.1) b.0.0.1 b.1 v.0.0.1.kept v.0.1 v.1), refl)
made_tagged Tag.Kept b v = ((record_with b.0.0.1 b.0.0.0.1 b.0.1 v.0.0.0.1.kept v.0.0.1 v.0.1, v.1), refl)
made_tagged Tag.KeptSale b v = (record { campaign = v.0.0.0.0.0; price = v.0.0.0.0.1; moment = v.0.0.0.1; due = v.0.0.1; user = v.1 }, refl)

with_bytes : (cap : Option CapTerms) (f : FactParts) → facts_bytes (with_cap cap f) ≡ facts_bytes f
with_bytes cap f = sym (same_bytes (with_cap cap f)) ∙ same_bytes f

pub made_bytes : (t : Tag) (b : Body t) → IsBody t b → body_bytes (make t b) ≡ bytes_of t b
made_bytes Tag.Swept b v = refl
made_bytes Tag.Sold b v = refl
made_bytes Tag.Added b v = added_bytes None b.0 b.1 v.0.uncapped ∙ ap (λ l. l ++ expr_bytes b.1) (same_bytes b.0)
made_bytes Tag.Changed b v = changed_bytes None b.0.0 b.0.1 b.1 v.0.1.uncapped ∙ ap (λ l. (four_bytes b.0.0 ++ l) ++ expr_bytes b.1) (same_bytes b.0.1)
made_bytes Tag.Paused b v = refl
made_bytes Tag.Resumed b v = refl
made_bytes Tag.Billed b v = refl
made_bytes Tag.Forgot b v = refl
made_bytes Tag.Lost b v = refl
made_bytes Tag.SoldTo b v = refl
made_bytes Tag.CappedAdded b v = ap (λ l. (l ++ terms_bytes b.0.1) ++ expr_bytes b.1) (with_bytes (Some b.0.1) b.0.0)
made_bytes Tag.CappedChanged b v =
    changed_bytes (Some b.0.1) b.0.0.0 (with_cap (Some b.0.1) b.0.0.1) b.1 refl
    ∙ ap (λ l. ((four_bytes b.0.0.0 ++ l) ++ terms_bytes b.0.1) ++ expr_bytes b.1) (same_bytes b.0.0.1)
made_bytes Tag.Kept b v = kept_parts (flag_bytes b.0.0.0.0) (facts_bytes (with_cap b.0.0.1 b.0.0.0.1)) (facts_bytes b.0.0.0.1) (option_bytes terms_bytes b.0.0.1) (expr_bytes b.0.1) (gone_bytes b.1) (with_bytes b.0.0.1 b.0.0.0.1)
made_bytes Tag.KeptSale b v = refl

pub some_body : (t : Tag) (bytes : List ℕ) (place : ℕ) (b : Body t) (n : ℕ) → IsReadAt (IsBody t) (bytes_of t) bytes place (Some (b, n)) → IsReadAt (IsTagged t) body_bytes bytes place (Some (make t b, n))
some_body t bytes place b n r = (made_tagged t b r.0, begins_as bytes (bytes_of t b) (body_bytes (make t b)) place n n (sym (made_bytes t b r.0)) refl r.1)

pub swept_body : (bytes : List ℕ) (place : ℕ) → place ≤ length bytes → IsReadAt (IsTagged Tag.Swept) body_bytes bytes place (Some (Change.Swept, place))
swept_body bytes place le = ((tt, refl), begins_empty bytes place le)

-- ---- a change is its tag and its body

pub change_no_tag : (bytes : List ℕ) (place : ℕ) → IsReadAt IsTag tag_bytes bytes place None → IsReadAt IsChange change_bytes bytes place None
change_no_tag bytes place none = λ x m v a. none (tag_of x) (place + length (tag_bytes (tag_of x))) tt (begins_first bytes (tag_bytes (tag_of x)) (body_bytes x) place m a)

pub change_read : (bytes : List ℕ) (place n : ℕ) (t : Tag) (found : Option (Change × ℕ)) → IsReadAt IsTag tag_bytes bytes place (Some (t, n)) → IsReadAt (IsTagged t) body_bytes bytes n found → IsReadAt IsChange change_bytes bytes place found
change_read bytes place n t None tag none = λ x m v a.
    let same = one_reading IsTag tag_bytes tag_code bytes place t (tag_of x) n (place + length (tag_bytes (tag_of x))) tt tt tag.1 (begins_first bytes (tag_bytes (tag_of x)) (body_bytes x) place m a) in
    none x m (v, sym same.0) (subst (λ k. BeginsAt bytes k (body_bytes x) m) (sym same.1) (begins_second bytes (tag_bytes (tag_of x)) (body_bytes x) place m a))
change_read bytes place n t (Some p) tag body =
    let there = subst (λ u. BeginsAt bytes place (tag_bytes u) n) (sym body.0.1) tag.1 in
    (body.0.0, begins_both bytes (tag_bytes (tag_of p.0)) (body_bytes p.0) place n p.1 there body.1)

pub change_found : {E : Type 0} (bytes : List ℕ) (place n : ℕ) (t : Tag) (found : Result (Option (Change × ℕ)) E) → IsReadAt IsTag tag_bytes bytes place (Some (t, n)) → IfOk found (IsReadAt (IsTagged t) body_bytes bytes n) → IfOk found (IsReadAt IsChange change_bytes bytes place)
change_found bytes place n t (Ok found) tag body = change_read bytes place n t found tag body
change_found bytes place n t (Err e) tag body = body
