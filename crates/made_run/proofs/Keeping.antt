-- An auction leaves the campaigns as they are.
use Rattle.std.proofs.Common.{◌≡◌, ◌∙◌, ℕ, ◌+◌, Bool, true, false, ◌||◌, List, [], ◌∷◌, length, Option, Some, None, refl, ap, sym, subst}
use Rattle.std.specs.Prelude.{IfOk, Result, Ok, Err, if◌then◌else◌, nat_lt}
use Rattle.address_keys.specs.declared.keys.Keys.{Keys}
use Rattle.auction_core.specs.Core.{listed}
use Rattle.audit.specs.Accounts.{account, answer_at, passes, settings_of, state_behind, tells, tells_failure}
use Rattle.conj_index.specs.Content.{IsIndexOf}
use Rattle.conj_index.specs.declared.index.Index.{Index}
use Rattle.http_wire.specs.Answers.{memory_answer}
use Rattle.live_index.specs.Reached.{live_expressions}
use Rattle.made_run.specs.Standing.{Fits}
use Rattle.plain_exchange.specs.Auction.{Award, awards_of}
use Rattle.plain_exchange.specs.State.{State, limit_of, swept}
use Rattle.plain_exchange.specs.Step.{Transition, auction}
use Rattle.plain_exchange.specs.declared.commands.Command.{Command}
use Rattle.plain_exchange.specs.declared.commands.Command.TheVariants as command
use Rattle.plain_exchange.specs.declared.settings.Settings.{Settings}
use Rattle.rtb_types.specs.declared.request.BidRequest.{BidRequest}
use Rattle.trace.specs.declared.entry.Entry.{Entry}
use Rattle.trace.specs.declared.header.Header.{Header}

same_by : (b : Bool) (x y : Transition) (s : State) → listed x.after ≡ listed s → listed y.after ≡ listed s → listed (if b then x else y).after ≡ listed s
same_by true x y s first second = first
same_by false x y s first second = second

auction_keeps : (settings : Settings) (moment : ℕ) (r : BidRequest) (s : State) (awards : List Award) → listed (auction settings moment r s awards).after ≡ listed s
auction_keeps settings moment r s [] = refl
auction_keeps settings moment r s (a ∷ awards) = same_by (nat_lt (limit_of settings) (length s.sales + length (a ∷ awards))) _ _ s refl refl

some_is : (x y : State) → Some x ≡ Some y → x ≡ y
some_is x y e = cc

kept_by : (x after s : State) (b : Bool) → listed x ≡ listed s → (if b then Some x else None) ≡ Some after → listed after ≡ listed s
kept_by x after s true kept is = ap listed (sym (some_is x after is)) ∙ kept
kept_by x after s false kept is = cc

account_keeps : (keys : Keys) (h : Header) (s after : State) (e : Entry) (r : BidRequest) → account keys h s e (Ok (command.Auction r)) ≡ Some after → listed after ≡ listed s
unfolding state_behind
account_keeps keys h s after e r is =
    kept_by (state_behind h s e.moment (command.Auction r)) after s (tells_failure e || tells e (answer_at keys h s e.moment (command.Auction r)))
    (auction_keeps (settings_of h) e.moment r (swept e.moment s) (awards_of (settings_of h) e.moment r (swept e.moment s))) is

pub all_keep : {E : Type 0} (keys : Keys) (h : Header) (s after : State) (e : Entry) (c : Command) (r : BidRequest) (found : Result Bool E) → c ≡ command.Auction r
    → IfOk found (λ accounts. account keys h s e (Ok c) ≡ (if accounts then Some after else None)) → IfOk found (λ accounts. accounts ≡ true → listed after ≡ listed s)
all_keep keys h s after e c r (Ok true) is leads = λ holds. account_keeps keys h s after e r (subst (λ (d : Command). account keys h s e (Ok d) ≡ Some after) is leads)
all_keep keys h s after e c r (Ok false) is leads = λ holds. absurd (cc holds)
all_keep keys h s after e c r (Err fault) is leads = leads

-- so an index of them stays one
pub fits_on : {E : Type 0} (index : Index) (s after : State) (found : Result Bool E) → Fits (Some index) s → IfOk found (λ accounts. accounts ≡ true → listed after ≡ listed s) → IfOk found (λ accounts. accounts ≡ true → Fits (Some index) after)
fits_on index s after (Ok accounts) fits kept = λ holds. subst (λ l. IsIndexOf (live_expressions l) index) (sym (kept holds)) fits
fits_on index s after (Err fault) fits kept = kept

pub none_fits : {E : Type 0} (after : State) (found : Result Bool E) → IfOk found (λ accounts. accounts ≡ true → Fits None after)
none_fits after (Ok accounts) = λ holds. tt
none_fits after (Err fault) = tt

-- what does not pass does not tell that memory was wanting before
pub not_undone : (e : Entry) → passes e ≡ false → tells e (memory_answer false) ≡ false
not_undone e answered = first_false (tells e (memory_answer false)) (tells_failure e) answered
  where
    first_false : (a b : Bool) → (a || b) ≡ false → a ≡ false
    first_false true b is = is
    first_false false b is = refl
