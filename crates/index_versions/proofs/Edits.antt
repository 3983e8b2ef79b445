-- An edit touches the campaign of its number alone, and the edits that are remembered keep their order.
use Rattle.std.proofs.Common.{◌≡◌, ◌≢◌, ℕ, zero, suc, ◌+◌, ◌-◌, ◌≤◌, inl, inr, List, [], ◌∷◌, ◌++◌, length, drop, set, slice_get, false, Option, Some, None, refl, sym, ◌∙◌, ap, arith}
use Rattle.std.specs.Option.{option_map_or}
use Rattle.std.proofs.lemmas.Bool.{cases_Bool, false≢true}
use Rattle.std.proofs.lemmas.List.{drop-append-le, drop-drop}
use Rattle.campaign_store.specs.Table.{campaign_at, with_changed}
use Rattle.campaign_store.specs.declared.listed.Listed.{Listed}
use Rattle.conj_index.proofs.Members.{has_left, has_right}
use Rattle.conj_index.specs.Find.{true_under}
use Rattle.index_versions.specs.Fixed.{DifferAtMostIn, Pairs, WereFound, is_among}
use Rattle.index_versions.specs.Recent.{RecentEdits, newest, touched_after}
use Rattle.index_versions.specs.Versions.{live_in}
use Rattle.index_versions.proofs.Present.{among_has, counted_from_one, has_among}

-- ---- the campaigns that an edit leaves as they were

get_other : {X : Type 0} (xs : List X) (i j : ℕ) (x : X) → j ≢ i → slice_get (set xs i x) j ≡ slice_get xs j
get_other [] i j x apart = refl
get_other (y ∷ xs) zero zero x apart = absurd (apart refl)
get_other (y ∷ xs) zero (suc j) x apart = refl
get_other (y ∷ xs) (suc i) zero x apart = refl
get_other (y ∷ xs) (suc i) (suc j) x apart = get_other xs i j x (λ e. apart (ap suc e))

get_before : {X : Type 0} (xs : List X) (j : ℕ) (x : X) → j ≢ length xs → slice_get (xs ++ x ∷ []) j ≡ slice_get xs j
get_before [] zero x apart = absurd (apart refl)
get_before [] (suc j) x apart = refl
get_before (y ∷ xs) zero x apart = refl
get_before (y ∷ xs) (suc j) x apart = get_before xs j x (λ e. apart (ap suc e))

changed_elsewhere : (change : Listed → Listed) (n m : ℕ) (cs : List Listed) → m ≢ n → campaign_at (with_changed change n cs) m ≡ campaign_at cs m
changed_elsewhere change n zero cs apart = refl
changed_elsewhere change zero (suc j) cs apart = refl
changed_elsewhere change (suc k) (suc j) cs apart = by (campaign_at cs (suc k))
  where
    place : j ≢ suc k - 1
    place e = apart (omega (arith, e))

    by : (at : Option Listed) → campaign_at (option_map_or (λ (c : Listed). set cs (suc k - 1) (change c)) at cs) (suc j) ≡ campaign_at cs (suc j)
    by None = refl
    by (Some c) = counted_from_one (set cs (suc k - 1) (change c)) j ∙ get_other cs (suc k - 1) j (change c) place ∙ sym (counted_from_one cs j)

added_elsewhere : (m : ℕ) (cs : List Listed) (c : Listed) → m ≢ length cs + 1 → campaign_at (cs ++ c ∷ []) m ≡ campaign_at cs m
added_elsewhere zero cs c apart = refl
added_elsewhere (suc j) cs c apart =
    counted_from_one (cs ++ c ∷ []) j ∙ get_before cs j c (λ e. apart (omega (arith, e))) ∙ sym (counted_from_one cs j)

-- ---- what was found can be corrected after one edit more

not_touched_before : (touched : List ℕ) (n m : ℕ) → is_among (touched ++ n ∷ []) m ≡ false → is_among touched m ≡ false
not_touched_before touched n m out =
    elim (cases_Bool (is_among touched m)) [
      | inl e ↦ absurd (false≢true (sym out ∙ has_among (touched ++ n ∷ []) m (has_left touched (n ∷ []) m (among_has touched m e))))
      | inr e ↦ e
    ]

not_the_last : (touched : List ℕ) (n m : ℕ) → is_among (touched ++ n ∷ []) m ≡ false → m ≢ n
not_the_last touched n m out e = false≢true (sym out ∙ has_among (touched ++ n ∷ []) m (has_right touched (n ∷ []) m (inl e)))

one_more : (touched : List ℕ) (before now next : List Listed) (n : ℕ) → ((m : ℕ) → m ≢ n → campaign_at next m ≡ campaign_at now m) → DifferAtMostIn touched before now → DifferAtMostIn (touched ++ n ∷ []) before next
one_more touched before now next n elsewhere differ = λ m out. differ m (not_touched_before touched n m out) ∙ sym (elsewhere m (not_the_last touched n m out))

pub differ_at_once : (now : List Listed) → DifferAtMostIn [] now now
differ_at_once now = λ n out. refl

pub differ_changed : (touched : List ℕ) (before now : List Listed) (change : Listed → Listed) (n : ℕ) → DifferAtMostIn touched before now → DifferAtMostIn (touched ++ n ∷ []) before (with_changed change n now)
differ_changed touched before now change n = one_more touched before now (with_changed change n now) n (λ m apart. changed_elsewhere change n m now apart)

pub differ_added : (touched : List ℕ) (before now : List Listed) (c : Listed) → DifferAtMostIn touched before now → DifferAtMostIn (touched ++ (length now + 1) ∷ []) before (now ++ c ∷ [])
differ_added touched before now c = one_more touched before now (now ++ c ∷ []) (length now + 1) (λ m apart. added_elsewhere m now c apart)

pub found_at_once : (a : Pairs) (now : List Listed) → WereFound a (true_under a (live_in now)) [] now
found_at_once a now = record { before = now; differ = differ_at_once now; true_then = refl }

pub found_before_change : (a : Pairs) (found touched : List ℕ) (now : List Listed) (change : Listed → Listed) (n : ℕ) → WereFound a found touched now
    → WereFound a found (touched ++ n ∷ []) (with_changed change n now)
found_before_change a found touched now change n were =
    record { before = were.before; differ = differ_changed touched were.before now change n were.differ; true_then = were.true_then }

pub found_before_added : (a : Pairs) (found touched : List ℕ) (now : List Listed) (c : Listed) → WereFound a found touched now
    → WereFound a found (touched ++ (length now + 1) ∷ []) (now ++ c ∷ [])
found_before_added a found touched now c were =
    record { before = were.before; differ = differ_added touched were.before now c were.differ; true_then = were.true_then }

-- ---- the edits that are remembered

pub noted_last : (recent : RecentEdits) (edit n spare : ℕ) → edit ≤ newest recent
    → touched_after edit (record { oldest = recent.oldest; touched = recent.touched ++ n ∷ []; spare = spare }) ≡ touched_after edit recent ++ n ∷ []
noted_last recent edit n spare known = drop-append-le (edit - recent.oldest) recent.touched (n ∷ []) (omega (arith, known))

pub kept_after : (recent left : RecentEdits) (edit to : ℕ) → recent.oldest ≤ to → to ≤ edit → left.oldest ≡ to → left.touched ≡ touched_after to recent
    → touched_after edit left ≡ touched_after edit recent
kept_after recent left edit to from later starts stays =
    let gone : (to - recent.oldest) + (edit - left.oldest) ≡ edit - recent.oldest = omega (arith, from, later, starts) in
    ap (drop (edit - left.oldest)) stays ∙ drop-drop (edit - left.oldest) (to - recent.oldest) recent.touched ∙ ap (λ k. drop k recent.touched) gone
