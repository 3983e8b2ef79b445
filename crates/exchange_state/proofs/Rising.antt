-- Along the list of a lock, what its marks tell does not fall.
use Rattle.std.proofs.Common.{◌≡◌, ℕ, ◌≤◌, Bool, List, [], ◌∷◌, ◌++◌, refl, sym, ◌∙◌, ap, subst, arith, Option, Some, None}
use Rattle.std.specs.Prelude.{fold}
use Rattle.exchange_state.specs.declared.entries.Entry.{Entry}
use Rattle.exchange_state.specs.declared.entries.Event.{Event}
use Rattle.exchange_state.specs.declared.entries.Event.TheVariants as event
use Rattle.exchange_state.specs.declared.entries.Origin.{Origin}
use Rattle.exchange_state.specs.Views.{DoNotFall, IsRising, Window, called, durable_of, edition_of, faults_of, faults_told, kept, last_told, published, published_at, put, stable, taken, told_or, window, window_by}
use Rattle.exchange_state.proofs.Marks.{told_then}
use Rattle.plain_exchange.specs.declared.commands.Command.{Command}
use Rattle.plain_exchange.specs.declared.commands.Reply.{Reply}
use Rattle.plain_exchange.specs.Effects.{edits}

-- ---- one word that marks tell

-- one entry more, which tells no less
pub fall_then : (tell : Entry → Option ℕ) (first : ℕ) (l : List Entry) (e : Entry) → DoNotFall tell first l → last_told tell first l ≤ told_or tell (last_told tell first l) e → DoNotFall tell first (l ++ e ∷ [])
fall_then tell first [] e d le = (le, tt)
fall_then tell first (x ∷ l) e d le = (d.0, fall_then tell (told_or tell first x) l e d.1 le)

from_first : (tell : Entry → Option ℕ) (first : ℕ) (l : List Entry) → DoNotFall tell first l → first ≤ last_told tell first l
from_first tell first [] d = omega arith
from_first tell first (x ∷ l) d = let a = d.0 in let b = from_first tell (told_or tell first x) l d.1 in omega (arith, a, b)

-- a list says no less than each of its fronts
pub from_front : (tell : Entry → Option ℕ) (first : ℕ) (front more : List Entry) → DoNotFall tell first (front ++ more) → last_told tell first front ≤ last_told tell first (front ++ more)
from_front tell first [] more d = from_first tell first more d
from_front tell first (x ∷ front) more d = from_front tell (told_or tell first x) front more d.1

-- each front of a list that does not fall is one
pub fall_front : (tell : Entry → Option ℕ) (first : ℕ) (front more : List Entry) → DoNotFall tell first (front ++ more) → DoNotFall tell first front
fall_front tell first [] more d = tt
fall_front tell first (x ∷ front) more d = (d.0, fall_front tell (told_or tell first x) front more d.1)

-- ---- the present version is the one that the last mark of a version tells

window_told : (l : List Entry) (w : Window) → (fold window_by w l).published ≡ last_told edition_of w.published l
window_told [] w = refl
window_told (e ∷ l) w = window_told l (window_by w e) ∙ ap (λ n. last_told edition_of n l) (by_event e.event)
  where
    by_event : (v : Event) → (window_by w (record { worker = e.worker; event = v })).published ≡ told_or edition_of w.published (record { worker = e.worker; event = v })
    by_event (event.Called command moment reply) = refl
    by_event (event.Taken upto again faults) = refl
    by_event (event.Put written durable faults) = refl
    by_event (event.Published edit) = refl

pub published_told : (o : Origin) (l : List Entry) → published o l ≡ last_told edition_of (edits o.effects) l
published_told o l = window_told l (record { kept = edits o.effects; published = edits o.effects })

-- ---- one entry more

pub none_rising : (o : Origin) → IsRising o []
none_rising o = record { faults_rise = tt; stable_rises = tt; published_rises = tt }

-- an entry that tells no less of each of the three
rising_then : (o : Origin) (l : List Entry) (e : Entry) → IsRising o l → faults_told o l ≤ told_or faults_of (faults_told o l) e → stable l ≤ told_or durable_of (stable l) e
    → last_told edition_of (edits o.effects) l ≤ told_or edition_of (last_told edition_of (edits o.effects) l) e → IsRising o (l ++ e ∷ [])
rising_then o l e r faults durable edition = record {
  faults_rise = fall_then faults_of o.faults l e r.faults_rise faults;
  stable_rises = fall_then durable_of 0 l e r.stable_rises durable;
  published_rises = fall_then edition_of (edits o.effects) l e r.published_rises edition;
}

pub called_rising : (o : Origin) (l : List Entry) (w : ℕ) (command : Command) (moment : ℕ) (reply : Reply) → IsRising o l → IsRising o (l ++ called w command moment reply ∷ [])
called_rising o l w command moment reply r = rising_then o l (called w command moment reply) r (omega arith) (omega arith) (omega arith)

pub taken_rising : (o : Origin) (l : List Entry) (w upto : ℕ) (again : Bool) (faults : ℕ) → IsRising o l → faults_told o l ≤ faults → IsRising o (l ++ taken w upto again faults ∷ [])
taken_rising o l w upto again faults r le = rising_then o l (taken w upto again faults) r le (omega arith) (omega arith)

pub put_rising : (o : Origin) (l : List Entry) (w : ℕ) (written : Bool) (durable faults : ℕ) → IsRising o l → stable l ≤ durable → faults_told o l ≤ faults → IsRising o (l ++ put w written durable faults ∷ [])
put_rising o l w written durable faults r above le = rising_then o l (put w written durable faults) r le above (omega arith)

pub published_rising : (o : Origin) (l : List Entry) (w edit : ℕ) → IsRising o l → published o l ≤ edit → IsRising o (l ++ published_at w edit ∷ [])
published_rising o l w edit r le = rising_then o l (published_at w edit) r (omega arith) (omega arith) (subst (λ n. n ≤ edit) (published_told o l) le)

-- ---- what a longer list tells

pub faults_later : (o : Origin) (l more : List Entry) → IsRising o (l ++ more) → faults_told o l ≤ faults_told o (l ++ more)
faults_later o l more r = from_front faults_of o.faults l more r.faults_rise

pub stable_later : (o : Origin) (l more : List Entry) → IsRising o (l ++ more) → stable l ≤ stable (l ++ more)
stable_later o l more r = from_front durable_of 0 l more r.stable_rises

pub published_later : (o : Origin) (l more : List Entry) → IsRising o (l ++ more) → published o l ≤ published o (l ++ more)
published_later o l more r = subst (λ n. n ≤ published o (l ++ more)) (sym (published_told o l)) (subst (λ n. last_told edition_of (edits o.effects) l ≤ n) (sym (published_told o (l ++ more)))
    (from_front edition_of (edits o.effects) l more r.published_rises))

pub rising_front : (o : Origin) (l more : List Entry) → IsRising o (l ++ more) → IsRising o l
rising_front o l more r = record {
  faults_rise = fall_front faults_of o.faults l more r.faults_rise;
  stable_rises = fall_front durable_of 0 l more r.stable_rises;
  published_rises = fall_front edition_of (edits o.effects) l more r.published_rises;
}
