-- One cursor in a turn of the merge.
use Rattle.std.proofs.Common.{◌≡◌, ◌≢◌, ℕ, ◌+◌, ◌-◌, ◌^◌, ◌<◌, ◌≤◌, ◌||◌, inl, inr, List, Bool, true, false, cond, min, Option, Some, None, count_by, get_or, length, set, take, sym, ◌∙◌, ap, subst, arith}
use Rattle.std.specs.List.{list_any}
use Rattle.std.proofs.lemmas.Bool.{cases_Bool, cases_lt, le-ltb, lt-ltb}
use Rattle.std.proofs.lemmas.List.{get_or-set_other, get_or-set_same, get_or_default, length-set, take-set}
use Rattle.std.proofs.lemmas.List.Folds.{list_any_more}
use Rattle.std.proofs.lemmas.List.Sums.{count_by_more_no, count_by_more_yes, sum_by-set}
use Rattle.conj_match.specs.Merge.{IsLeast, Passed, left_in, lesser, current_id, shows_negated, shows_plain}
use Rattle.conj_match.specs.Place.{Place, head_of, number_of}
use Rattle.conj_match.proofs.Merge.{least_more}

-- the cursors from `i` on are as they were
abbrev pub Ahead : ℕ → List Place → List Place → Type 0
Ahead i old now = (j : ℕ) (d : Place) → i ≤ j → get_or now j d ≡ get_or old j d

pub any_after : (id : ℕ) (old now : List Place) (i : ℕ) (c : Place) (x y : Bool) → i < length old → c ≡ get_or now i c → Ahead i old now
    → x ≡ list_any (shows_negated id) (take i old) → y ≡ (x || shows_negated id c) → y ≡ list_any (shows_negated id) (take (i + 1) old)
any_after id old now i c x y within is ahead before step =
    let same : c ≡ get_or old i c = is ∙ ahead i c (omega arith) in
    step
    ∙ ap (λ v. v || shows_negated id c) before
    ∙ ap (λ e. list_any (shows_negated id) (take i old) || shows_negated id e) same
    ∙ sym (list_any_more (shows_negated id) old i c within)

pub count_after : (id : ℕ) (old now : List Place) (i : ℕ) (c : Place) (x y : ℕ) → i < length old → c ≡ get_or now i c → Ahead i old now
    → x ≡ count_by (shows_plain id) (take i old) → y ≡ x + cond (shows_plain id c) 1 0 → y ≡ count_by (shows_plain id) (take (i + 1) old)
count_after id old now i c x y within is ahead before step =
    let same : c ≡ get_or old i c = is ∙ ahead i c (omega arith) in
    elim (cases_Bool (shows_plain id c)) [
      | inl shows ↦
          let one : y ≡ x + 1 = step ∙ ap (λ b. x + cond b 1 0) shows in
          one ∙ ap (λ k. k + 1) before ∙ sym (count_by_more_yes (shows_plain id) old i c within (sym (ap (shows_plain id) same) ∙ shows))
      | inr lacks ↦
          let more : y ≡ x + 0 = step ∙ ap (λ b. x + cond b 1 0) lacks in
          let still : y ≡ x = omega arith in
          still ∙ before ∙ sym (count_by_more_no (shows_plain id) old i c within (sym (ap (shows_plain id) same) ∙ lacks))
    ]

pub least_after : (now : List Place) (i : ℕ) (c : Place) (least : Option ℕ) → i < length now → IsLeast (take i now) least → IsLeast (take (i + 1) (set now i c)) (lesser least (current_id c))
least_after now i c least within h =
    let there : i < length (set now i c) = omega (arith, length-set now i c) in
    least_more (set now i c) i c least there (sym (get_or-set_same now i c c within)) (subst (λ l. IsLeast l least) (sym (take-set now i c)) h)

pub at_most_one : (b : Bool) → cond b 1 0 ≤ 1
at_most_one true = omega arith
at_most_one false = omega arith

pub passed_after : (id : ℕ) (old now : List Place) (i : ℕ) (c new : Place) → i < length now → c ≡ get_or now i c → Ahead i old now → Passed id c new
    → ((j : ℕ) (d : Place) → j < i → Passed id (get_or old j d) (get_or now j d)) → (j : ℕ) (d : Place) → j < i + 1 → Passed id (get_or old j d) (get_or (set now i new) j d)
passed_after id old now i c new within is ahead here done j d h =
    elim (cases_lt j i) [
      | inl lt ↦
          let other : j ≢ i = omega arith in
          subst (Passed id (get_or old j d)) (sym (get_or-set_other now i j new d other)) (done j d lt)
      | inr ge ↦
          let there : j ≡ i = omega arith in
          let was : c ≡ get_or old j d = is ∙ get_or_default now i c d within ∙ ahead i d (omega arith) ∙ ap (λ n. get_or old n d) (sym there) in
          let now_new : new ≡ get_or (set now i new) j d = sym (get_or-set_same now i new d within) ∙ ap (λ n. get_or (set now i new) n d) (sym there) in
          subst (λ p. Passed id p (get_or (set now i new) j d)) was (subst (Passed id c) now_new here)
    ]

pub cost_after : (id : ℕ) (now : List Place) (i : ℕ) (c new : Place) (before after : ℕ) → i < length now → c ≡ get_or now i c → Passed id c new
    → after ≤ before + (new.place - c.place) → after + left_in (set now i new) ≤ before + left_in now
cost_after id now i c new before after within is p step =
    let lengths : length new.entries ≡ length c.entries = ap length p.entries in
    let from : c.place ≤ new.place = p.first.0 in
    let to : new.place ≤ length c.entries = p.first.1 in
    let moved : left_in (set now i new) + (length (get_or now i c).entries - (get_or now i c).place) ≡ left_in now + (length new.entries - new.place) =
    sum_by-set (λ (x : Place). length x.entries - x.place) now i new c within
    in
    let here : left_in (set now i new) + (length c.entries - c.place) ≡ left_in now + (length new.entries - new.place) =
    subst (λ (x : Place). left_in (set now i new) + (length x.entries - x.place) ≡ left_in now + (length new.entries - new.place)) (sym is) moved
    in
    omega arith

-- of two heads the lesser stands for the lesser number
below_past : (a : ℕ) → a < 2 ^ 32 → number_of a ≡ Some a
below_past a h = ap (λ b. cond b (Some a) None) (lt-ltb a (2 ^ 32) h)

at_past : (a : ℕ) → 2 ^ 32 ≤ a → number_of a ≡ None
at_past a h = ap (λ b. cond b (Some a) None) (le-ltb a (2 ^ 32) h)

lesser_min : (a b : ℕ) → lesser (number_of a) (number_of b) ≡ number_of (min a b)
lesser_min a b =
    elim (cases_lt a (2 ^ 32)) [
      | inl low ↦ elim (cases_lt b (2 ^ 32)) [
        | inl also ↦ ap (λ x. lesser x (number_of b)) (below_past a low) ∙ ap (lesser (Some a)) (below_past b also) ∙ sym (below_past (min a b) (omega arith))
        | inr past ↦
            let same : a ≡ min a b = omega arith in
            ap (λ x. lesser x (number_of b)) (below_past a low) ∙ ap (lesser (Some a)) (at_past b past) ∙ sym (below_past a low) ∙ ap number_of same
      ]
      | inr high ↦ elim (cases_lt b (2 ^ 32)) [
        | inl low ↦
            let same : b ≡ min a b = omega arith in
            ap (λ x. lesser x (number_of b)) (at_past a high) ∙ ap number_of same
        | inr past ↦ ap (λ x. lesser x (number_of b)) (at_past a high) ∙ at_past b past ∙ sym (at_past (min a b) (omega arith))
      ]
    ]

pub least_is : (before after : ℕ) (c : Place) → number_of (head_of c) ≡ current_id c → after ≡ min before (head_of c) → lesser (number_of before) (current_id c) ≡ number_of after
least_is before after c number is = ap (lesser (number_of before)) (sym number) ∙ lesser_min before (head_of c) ∙ ap number_of (sym is)
