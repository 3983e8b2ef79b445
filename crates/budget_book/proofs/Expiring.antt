-- Sales expire one after the other.
use Rattle.std.proofs.Common.{◌≡◌, ℕ, ◌+◌, ◌<◌, ◌≤◌, ◌&&◌, inl, inr, cond, true, false, List, ◌∷◌, length, get_or, set, refl, sym, ◌∙◌, ap, subst, arith}
use Rattle.std.specs.Prelude.{nat_le, IsPermutation, MatchOption}
use Rattle.std.specs.BinaryHeap.{IsHeap}
use Rattle.std.specs.Option.{option_map_or}
use Rattle.std.proofs.lemmas.Bool.{cases_eq, le-leb, false≢true}
use Rattle.std.proofs.lemmas.List.{get_or-set_same, get_or-set_other, length-set, map-set, set-get_or, get_or-map}
use Rattle.budget_book.specs.declared.dues.Due.{Due}
use Rattle.budget_book.specs.declared.sales.SaleRow.{SaleRow}
use Rattle.budget_book.specs.declared.sales.SaleState.{SaleState}
use Rattle.budget_book.specs.declared.sales.SaleState.TheVariants.{Held, Billed, Lost, Expired}
use Rattle.budget_book.specs.Book.{AreKnown}
use Rattle.budget_book.specs.Dues.{IsDueOf, AreDues, due_cmp}
use Rattle.budget_book.specs.Expiry.{IsExpiry}
use Rattle.budget_book.specs.Sales.{is_held, is_due, in_state}
use Rattle.budget_book.specs.Users.{sale_place, places_of}
use Rattle.budget_book.proofs.Waiting.{dues_moved, dues_popped, expired_moved, due_count_moved, sale_in, sale_forgotten}

pub held_state : (st : SaleState) → is_held st ≡ true → st ≡ Held
held_state Held h = refl
held_state Billed h = absurd (false≢true h)
held_state Lost h = absurd (false≢true h)
held_state Expired h = absurd (false≢true h)

pub expiry_none : (m : ℕ) (rows : List SaleRow) → IsExpiry m rows rows 0
expiry_none m rows = record { same = refl; counted = omega arith; places = refl; many = refl; known = λ n h. h }

pub expiry_then : (m : ℕ) (a b c : List SaleRow) (n k : ℕ) → IsExpiry m a b n → IsExpiry m b c k → IsExpiry m a c (n + k)
expiry_then m a b c n k p q = record {
  same = q.same ∙ p.same;
  counted = omega (arith, p.counted, q.counted);
  places = q.places ∙ p.places;
  many = q.many ∙ p.many;
  known = λ j h. q.known j (p.known j h);
}

-- a change of states alone keeps the places
pub same_places : (rows : List SaleRow) (i : ℕ) (x : SaleRow) (to : SaleState) → i < length rows → get_or rows i x ≡ x → places_of (set rows i (in_state to x)) ≡ places_of rows
same_places rows i x to l at =
    map-set sale_place rows i (in_state to x)
    ∙ ap (set (places_of rows) i) (ap sale_place (sym at) ∙ sym (get_or-map sale_place rows i x (sale_place x) l))
    ∙ set-get_or (places_of rows) i (sale_place x)

pub same_known : (n : ℕ) (rows : List SaleRow) (i : ℕ) (x : SaleRow) (to : SaleState) → i < length rows → get_or rows i x ≡ x → AreKnown n rows → AreKnown n (set rows i (in_state to x))
same_known n rows i x to l at h k d w =
    let inside : k < length rows = omega (arith, w, length-set rows i (in_state to x)) in
    elim (cases_eq k i) [
      | inl same ↦
          let here : (get_or (set rows i (in_state to x)) k d).campaign ≡ x.campaign = ap (λ (s : SaleRow). s.campaign) (ap (λ j. get_or (set rows i (in_state to x)) j d) same ∙ get_or-set_same rows i (in_state to x) d l) in
          let was : (get_or rows i x).campaign ≡ x.campaign = ap (λ (s : SaleRow). s.campaign) at in
          let old = h i x l in
          (omega (arith, here, was, old), omega (arith, here, was, old))
      | inr other ↦
          let here : (get_or (set rows i (in_state to x)) k d).campaign ≡ (get_or rows k d).campaign = ap (λ (s : SaleRow). s.campaign) (get_or-set_other rows i k (in_state to x) d other) in
          let old = h k d inside in
          (omega (arith, here, old), omega (arith, here, old))
    ]

pub expiry_one : (m : ℕ) (rows : List SaleRow) (i : ℕ) (x : SaleRow) → i < length rows → get_or rows i x ≡ x → is_due m x ≡ true → IsExpiry m rows (set rows i (in_state Expired x)) 1
expiry_one m rows i x l at due = record {
  same = expired_moved m rows i x l at due;
  counted = omega (arith, due_count_moved m rows i x l at due);
  places = same_places rows i x Expired l at;
  many = length-set rows i (in_state Expired x);
  known = λ n h. same_known n rows i x Expired l at h;
}

-- the sale of an entry that is due is due, where it is held
pub entry_due : (f m : ℕ) (rows : List SaleRow) (e : Due) (i : ℕ) (x : SaleRow) → e.number ≡ f + i + 1 → i < length rows → get_or rows i x ≡ x → x.state ≡ Held → e.due.0 ≤ m → IsDueOf f rows e → is_due m x ≡ true
entry_due f m rows e i x number l at held before (some, few, is) =
    let due : (get_or rows i x).due ≡ e.due.0 = subst (λ o. MatchOption o (Unit {0}) (λ (s : SaleRow). s.due ≡ e.due.0)) (sale_in f rows e.number i x number l) is in
    let same : x.due ≡ e.due.0 = sym (ap (λ (s : SaleRow). s.due) at) ∙ due in
    ap (λ st. is_held st && nat_le x.due m) held ∙ le-leb x.due m (omega (arith, same))

-- an entry goes whose sale is forgotten, or not held
pub popped_forgotten : (f : ℕ) (rows : List SaleRow) (e : Due) (old dues : List Due) → e.number ≤ f → IsPermutation old (e ∷ dues) → IsHeap due_cmp dues → AreDues f rows old → AreDues f rows dues
popped_forgotten f rows e old dues gone moved ordered h =
    dues_popped f rows e old dues moved ordered (λ w. ap (λ o. option_map_or (λ (s : SaleRow). cond (is_held s.state) (w e.number s) 0) o 0) (sale_forgotten f rows e.number gone)) h

pub popped_other : (f : ℕ) (rows : List SaleRow) (e : Due) (old dues : List Due) (i : ℕ) (d : SaleRow) → e.number ≡ f + i + 1 → i < length rows → is_held (get_or rows i d).state ≡ false
    → IsPermutation old (e ∷ dues) → IsHeap due_cmp dues → AreDues f rows old → AreDues f rows dues
popped_other f rows e old dues i d number l q moved ordered h =
    dues_popped f rows e old dues moved ordered (λ w. ap (λ o. option_map_or (λ (s : SaleRow). cond (is_held s.state) (w e.number s) 0) o 0) (sale_in f rows e.number i d number l)
    ∙ ap (λ b. cond b (w e.number (get_or rows i d)) 0) q) h

-- an entry goes whose sale expired
pub popped_expired : (f : ℕ) (rows : List SaleRow) (e : Due) (old dues : List Due) (i : ℕ) (x : SaleRow) → e.number ≡ f + i + 1 → i < length rows → get_or rows i x ≡ x
    → IsPermutation old (e ∷ dues) → IsHeap due_cmp dues → AreDues f rows old → AreDues f (set rows i (in_state Expired x)) dues
popped_expired f rows e old dues i x number l at moved ordered h =
    let y = in_state Expired x in
    let same : y.due ≡ (get_or rows i x).due = sym (ap (λ (s : SaleRow). s.due) at) in
    let here : get_or (set rows i y) i x ≡ y = get_or-set_same rows i y x l in
    let gone : is_held (get_or (set rows i y) i x).state ≡ false = ap (λ (s : SaleRow). is_held s.state) here in
    let inside : i < length (set rows i y) = omega (arith, length-set rows i y) in
    popped_other f (set rows i y) e old dues i x number inside gone moved ordered (dues_moved f rows old i y x l refl same h)
