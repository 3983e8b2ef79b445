-- What an open seat is, of which the view is known.
use Rattle.std.proofs.Common.{◌≡◌, true, false, true≢false, List, [], ◌∷◌, sym, ap, ◌∙◌, subst, ⊎_elim}
use Rattle.std.specs.Prelude.{Option, Some, None}
use Rattle.atomic_table.specs.declared.shared.Seat.{Seat}
use Rattle.hist_lock.specs.declared.view.View.{View}
use Rattle.hist_lock.specs.declared.view.Stage.TheVariants.{Idle, Holding}
use Rattle.hist_lock.specs.Rule.{StandsFrom}
use Rattle.hist_lock.specs.Views.{SeatView, is_begun, begun_at, holds_turn, view_of, IsWhole}

module _ {S O E : Type 0} where
  -- a seat without the turn
  pub is_free : (p : Seat (Option S) (View O E)) → IsWhole p → holds_turn p.me.0.stage ≡ false → (p.me.0.stage ≡ Idle) × (p.me.1 ≡ [])
  is_free p w none = ⊎_elim (λ t. t) (λ (t : (p.me.0.stage ≡ Holding) × (p.me.1 ≡ (0, None) ∷ [])). absurd (true≢false (sym (ap holds_turn t.0) ∙ none))) w

  pub free_view : (p : Seat (Option S) (View O E)) (b : is_begun p.me.0.origin ≡ true) (v : SeatView O E) → IsWhole p → view_of p b ≡ v → v.turn ≡ false → (p.me.0.stage ≡ Idle) × (p.me.1 ≡ [])
  free_view p b v w is none = is_free p w (ap (λ (x : SeatView O E). x.turn) is ∙ none)

  pub meets_at : (stands : O → S → List E → Type 0) (o : Option O) (b : is_begun o ≡ true) (x : S) (h : List E) → StandsFrom stands o x h → stands (begun_at o b) x h
  meets_at stands None b x h m = absurd m
  meets_at stands (Some o) b x h m = m

  pub meets_as : (stands : O → S → List E → Type 0) (o o' : Option O) (b : is_begun o ≡ true) (x x' : S) (h h' : List E) → o ≡ o' → x' ≡ x → h ≡ h' → StandsFrom stands o' x' h' → stands (begun_at o b) x h
  meets_as stands o o' b x x' h h' is same all m = meets_at stands o b x h (subst (λ (z : Option O × S × List E). StandsFrom stands z.0 z.1 z.2) (λ i. (sym is i, same i, sym all i)) m)
