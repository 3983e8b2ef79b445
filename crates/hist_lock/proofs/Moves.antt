-- What is the same for all steps: where one seat moves, what the rule still says of the others.
use Rattle.std.proofs.Common.{◌≡◌, ◌≢◌, ◌⊎◌, ℕ, zero, suc, ◌<◌, ◌≤◌, Bool, List, [], ◌∷◌, length, get_or, set, refl, sym, ap, ◌∙◌, subst, ⊎_elim, arith, ne_eqb, eq-eqb}
use Rattle.std.specs.Prelude.{Option, if◌then◌else◌, ◌==◌}
use mathlib.Core.Logic.{dite}
use mathlib.Core.Option.{some, none, some-injective, some-ne-none}
use mathlib.Core.Option as maybe
use native.Mathlib.Decide.{ℕ_discrete}
use lib.ListN.{get_elem?}
use lib.Seq.{set-get_or}
use Rattle.atomic_table.specs.Table.{State, Me, keeps, stepped}
use Rattle.atomic_table.proofs.Lists.{at_set, set_again, set_else}
use Rattle.hist_lock.specs.declared.view.View.{View}
use Rattle.hist_lock.specs.declared.view.Stage.{Stage}
use Rattle.hist_lock.specs.declared.view.Stage.TheVariants.{Fresh, Filling, Idle, Waiting, Holding, Committed, Joining, Spent}
use Rattle.hist_lock.specs.Entries.{entries_of}
use Rattle.hist_lock.specs.Rule.{weight, turn_weight, Auxiliary, Placed, Serves, Agrees, AtHome, Away, Ended, Running, Starting, LockRule}
use Rattle.hist_lock.proofs.Logs.{set_at, live-set}

-- g, with x at k
abbrev pub put : (ℕ → ℕ) → ℕ → ℕ → ℕ → ℕ
put g k x n = if n == k then x else g n

pub put_here : (g : ℕ → ℕ) (k x n : ℕ) → n ≡ k → put g k x n ≡ x
put_here g k x n is = ap (λ (b : Bool). if b then x else g n) (eq-eqb n k is)

pub put_else : (g : ℕ → ℕ) (k x n : ℕ) → n ≢ k → put g k x n ≡ g n
put_else g k x n ne = ap (λ (b : Bool). if b then x else g n) (ne_eqb n k ne)

pub only_at : {A : Type 0} (x v : A) (id : ℕ) → get_elem? (x ∷ []) id ≡ some v → x ≡ v
only_at x v zero e = some-injective x v e
only_at x v (suc id) e = absurd (some-ne-none v (sym e))

pub only_set : {A : Type 0} (x v w : A) (id : ℕ) → get_elem? (x ∷ []) id ≡ some v → set (x ∷ []) id w ≡ w ∷ []
only_set x v w zero e = refl
only_set x v w (suc id) e = absurd (some-ne-none v (sym e))

-- the lock with another list, other words and other owners of tickets
abbrev pub next : {O E : Type 0} → Auxiliary O E → List E → ℕ → ℕ → (ℕ → ℕ) → Auxiliary O E
next f log drawn served seat_of_ticket = record { origin = f.origin; log = log; drawn = drawn; served = served; made = f.made; out = f.out; ended = f.ended; seat_of_ticket = seat_of_ticket; seat_of_worker = f.seat_of_worker }

module _ {S O E : Type 0} (stands : O → S → List E → Type 0) (worker : E → ℕ) where
  abbrev V : Type 0
  V = View O E

  abbrev St : Type 0
  St = State (Option S) V

  abbrev H : Type 0
  H = List (maybe.Option (Option S))

  abbrev M : Type 0
  M = Me (Option S) V

  abbrev F : Type 0
  F = Auxiliary O E

  abbrev Run : St → Type 0
  Run = Running stands worker

  abbrev Rule : St → Type 0
  Rule = LockRule stands worker

  starting_view : (s : St) → Starting stands worker s → (id : ℕ) (v : V) → get_elem? s.views id ≡ some v → weight v.stage ≡ 0
  starting_view s b id v at =
      let same : b.0 ≡ v = only_at b.0 v id (subst (λ (vs : List V). get_elem? vs id ≡ some v) b.2 at) in
      let none : weight b.0.stage ≡ 0 = ⊎_elim (λ t. ap weight t.0) (λ t. ap weight t.0) b.3 in
      ap (λ (u : V). weight u.stage) (sym same) ∙ none

  pub running : (s : St) → Rule s → (id : ℕ) (v : V) → get_elem? s.views id ≡ some v → weight v.stage ≡ 1 → Run s
  running s k id v at one = ⊎_elim (λ (b : Starting stands worker s). let none = starting_view s b id v at in absurd (omega arith)) (λ (r : Run s). r) k

  -- a step that changes nothing
  pub stays : (s : St) → Rule s → (i id : ℕ) (me : M) → get_elem? s.views id ≡ some me.0 → Rule (stepped s i (get_or s.words i 0) id me.1 me.0 keeps)
  stays s k i id me at = subst Rule (λ j. record { words = sym (set-get_or s.words i 0) j; homes = s.homes; views = sym (set_again s.views id me.0 at) j }) k

  pub placed : (f : F) (homes : H) (i : ℕ) (v : V) (st : Stage) → weight st ≡ 1 → Agrees worker f homes i v st → Placed worker f i v
  placed f homes i v Fresh one fit = absurd fit
  placed f homes i v Filling one fit = absurd fit
  placed f homes i v Idle one fit = fit.0
  placed f homes i v Waiting one fit = fit.0
  placed f homes i v Holding one fit = fit.0
  placed f homes i v Committed one fit = fit.0
  placed f homes i v Joining one fit = fit.0
  placed f homes i v Spent one fit = absurd (omega arith)

  -- what is known of a seat that has the turn
  pub record Turned (f : F) (homes : H) (i : ℕ) (v : V) : Type 0 where
    pub ticket : v.ticket ≡ f.served
    pub before : f.served < f.drawn
    pub seat_of_ticket : f.seat_of_ticket f.served ≡ i
    pub seen : v.seen ≡ f.log
    pub out : homes ≡ none ∷ []
    pub short : length f.log ≤ suc f.served

  turned : (f : F) (homes : H) (i : ℕ) (v : V) (late : ℕ) → late ≤ 1 → Serves worker f homes i v late → Turned f homes i v
  turned f homes i v late le t = let n = t.5 in record { ticket = t.0; before = t.1; seat_of_ticket = t.2; seen = t.3; out = t.4; short = omega arith }

  pub has : (f : F) (homes : H) (i : ℕ) (v : V) (st : Stage) → turn_weight st ≡ 1 → Agrees worker f homes i v st → Turned f homes i v
  has f homes i v Fresh one fit = absurd fit
  has f homes i v Filling one fit = absurd fit
  has f homes i v Idle one fit = absurd (omega arith)
  has f homes i v Waiting one fit = absurd (omega arith)
  has f homes i v Holding one fit = turned f homes i v 0 (omega arith) fit.2
  has f homes i v Committed one fit = turned f homes i v 1 (omega arith) fit.2
  has f homes i v Joining one fit = absurd (omega arith)
  has f homes i v Spent one fit = absurd (omega arith)

  pub apart : (vs : List V) (i j : ℕ) (v u : V) → get_elem? vs i ≡ some v → get_elem? vs j ≡ some u → weight v.stage ≡ 1 → u.stage ≡ Spent → j ≢ i
  apart vs i j v u a b one spent same =
      let e : u ≡ v = some-injective u v (sym b ∙ (ap (get_elem? vs) same ∙ a)) in
      let z : weight v.stage ≡ 0 = ap (λ (x : V). weight x.stage) (sym e) ∙ ap weight spent in omega arith

  pub no_turn : (vs : List V) (i j : ℕ) (v u : V) → get_elem? vs i ≡ some v → get_elem? vs j ≡ some u → turn_weight v.stage ≡ 0 → turn_weight u.stage ≡ 1 → j ≢ i
  no_turn vs i j v u a b idle one same =
      let e : u ≡ v = some-injective u v (sym b ∙ (ap (get_elem? vs) same ∙ a)) in
      let z : turn_weight v.stage ≡ turn_weight u.stage = ap (λ (x : V). turn_weight x.stage) (sym e) in omega arith

  -- one live seat's view becomes w, which is live, and the numbers of the first seat stay
  pub moved : (s : St) (r : Run s) (id : ℕ) (v w : V) (log : List E) (drawn served : ℕ) (seat_of_ticket : ℕ → ℕ) (words : List ℕ) (homes : H)
      → get_elem? s.views id ≡ some v → weight v.stage ≡ 1 → weight w.stage ≡ 1 → words ≡ length log ∷ drawn ∷ served ∷ [] → drawn ≤ 4611686018427387904 → served ≤ drawn
      → (AtHome stands worker (next r.f log drawn served seat_of_ticket) homes ⊎ Away stands worker (next r.f log drawn served seat_of_ticket) homes (set s.views id w))
      → ((j : ℕ) (u : V) → j ≢ id → Agrees worker r.f s.homes j u u.stage → Agrees worker (next r.f log drawn served seat_of_ticket) homes j u u.stage)
      → Agrees worker (next r.f log drawn served seat_of_ticket) homes id w w.stage
      → ((i : ℕ) × (u : V) × (get_elem? (set s.views id w) i ≡ some u) × (weight u.stage ≡ 1) × (u.seen ≡ log))
      → ((k : ℕ) → r.f.made ≤ k → entries_of worker k log ≡ [])
      → ((p : ℕ × List E) → Ended worker r.f s.views p → entries_of worker p.0 log ≡ p.1)
      → Run record { words = words; homes = homes; views = set s.views id w }
  moved s r id v w log drawn served seat_of_ticket words homes at one one' is few behind value others own known named ended = record {
    f = next r.f log drawn served seat_of_ticket;
    words = is;
    few = few;
    behind = behind;
    value = value;
    each_seat = λ j u e. ⊎_elim (λ (t : (j ≡ id) × (w ≡ u)). subst (λ (z : ℕ × V). Agrees worker (next r.f log drawn served seat_of_ticket) homes z.0 z.1 z.1.stage) (λ i. (sym t.0 i, t.1 i)) own)
        (λ (t : (j ≢ id) × (get_elem? s.views j ≡ some u)). others j u t.0 (r.each_seat j u t.1)) (at_set s.views id j w u e);
    all_out = let k = live-set s.views id v w at in let n = r.all_out in omega arith;
    known = known;
    named = named;
    each_ended = λ k p e. let d = r.each_ended k p e in (d.0, ended p d, (d.2.0, set_else s.views id (r.f.seat_of_worker p.0) w (apart s.views id (r.f.seat_of_worker p.0) v d.2.0 at d.2.1 one d.2.2) ∙ d.2.1, d.2.2));
    once = r.once;
  }

  -- who knew the whole list still does, where the one seat that moves knows no less
  pub still_known : (s : St) (r : Run s) (id : ℕ) (v w : V) → get_elem? s.views id ≡ some v → weight w.stage ≡ 1 → (v.seen ≡ r.f.log → w.seen ≡ r.f.log)
      → (i : ℕ) × (u : V) × (get_elem? (set s.views id w) i ≡ some u) × (weight u.stage ≡ 1) × (u.seen ≡ r.f.log)
  still_known s r id v w at one more = let k = r.known in dite (ℕ_discrete k.0 id)
      (λ same. let e : k.1 ≡ v = some-injective k.1 v (sym k.2 ∙ (ap (get_elem? s.views) same ∙ at)) in (id, w, set_at s.views id v w at, one, more (ap (λ (u : V). u.seen) (sym e) ∙ k.4)))
      (λ other. (k.0, k.1, set_else s.views id k.0 w other ∙ k.2, k.3, k.4))

  -- the seat that has the turn keeps it, where another moves
  pub still_away : (f f' : F) (homes : H) (vs : List V) (id : ℕ) (v w : V) → get_elem? vs id ≡ some v → turn_weight v.stage ≡ 0 → Away stands worker f homes vs → f'.seat_of_ticket f'.served ≡ f.seat_of_ticket f.served → Away stands worker f' homes (set vs id w)
  still_away f f' homes vs id v w at idle a same =
      let u = a.1.0 in let e = set_else vs id (f.seat_of_ticket f.served) w (no_turn vs id (f.seat_of_ticket f.served) v u at a.1.1 idle a.1.2) in
      (a.0, (u, ap (get_elem? (set vs id w)) same ∙ (e ∙ a.1.1), a.1.2))
