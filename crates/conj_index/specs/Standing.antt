-- What stands in a posting list (Whang et al. 2009, section 4), beside the definition of its entries.
use Rattle.std.specs.Prelude.{ℕ, ◌≡◌, ◌<◌, ◌↔◌, List, length, slice_get, true, Some, Contains}
use Rattle.postings.specs.declared.entry.Entry.{Entry}
use Rattle.postings.specs.Order.{entry_at}
use Rattle.target_expr.specs.declared.pred.Pred.{Pred}
use Rattle.target_expr.specs.Pairs.{size_of}
use Rattle.conj_index.specs.declared.key.Key.{Key}
use Rattle.conj_index.specs.Campaigns.{Campaigns}
use Rattle.conj_index.specs.Content.{Listed, conjunctions_of, entries_of, names}

-- the entry's number is that of a conjunction of size k, and a predicate of it names the key and is
-- negated where the entry is
pub record IsEntryUnder (k : ℕ) (cs : List Listed) (key : Key) (e : Entry) : Type 0 where
  pub conjunction : Listed
  pub numbered : slice_get cs e.id ≡ Some conjunction
  pub size : size_of conjunction.preds ≡ k
  pub pred : Pred
  pub stands : Contains conjunction.preds pred
  pub naming : names key pred ≡ true
  pub negated : e.negated ≡ pred.negated

-- those entries stand in the key's posting list, and no others
abbrev pub StandWhereNamed : Campaigns → Type 0
StandWhereNamed added = (k : ℕ) (key : Key) (e : Entry) → Contains (entries_of k (conjunctions_of added) key) e ↔ IsEntryUnder k (conjunctions_of added) key e

-- each conjunction has at most one entry: of two entries the later one has the greater number
abbrev pub StandOnce : List Entry → Type 0
StandOnce es = (i j : ℕ) → i < j → j < length es → (entry_at es i).id < (entry_at es j).id
