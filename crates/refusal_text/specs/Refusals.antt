-- The bodies of refusals: an object whose member `error` names what is wrong, and further members that say
-- where.
use Rattle.std.specs.Prelude.{ℕ, List, [], ◌∷◌, codes, decimal}
use Rattle.exact_json.specs.declared.fault.JsonFault.{JsonFault}
use Rattle.exact_json.specs.declared.fault.JsonFault.TheVariants as json
use Rattle.campaign.specs.declared.parts.FactFault.{FactFault}
use Rattle.campaign.specs.Paths.{camp_path}
use Rattle.campaign_read.specs.declared.fault.CampFault.{CampFault}
use Rattle.rtb_num.specs.declared.read_amounts.PriceFault.{PriceFault}
use Rattle.target_expr.specs.declared.fault.ExprFault.{ExprFault}
use Rattle.json_out.specs.Strings.{string_text}
use Rattle.json_out.specs.Texts.{Member, object_text}
use Rattle.rtb_types.specs.Paths.{path}
use Rattle.rtb_read.specs.declared.fault.ReqFault.{ReqFault}

-- the word of what is wrong, and further members
abbrev pub error_with : List ℕ → List Member → List ℕ
error_with word ms = object_text ((codes "error", string_text word) ∷ ms)

abbrev pub error_text : List ℕ → List ℕ
error_text word = error_with word []

-- with the offset in the bytes
abbrev pub at_text : List ℕ → ℕ → List ℕ
at_text word at = error_with word ((codes "at", decimal at) ∷ [])

-- with the path of the field
abbrev pub field_text : List ℕ → List ℕ → List ℕ
field_text word field = error_with word ((codes "field", string_text field) ∷ [])

abbrev pub price_word : PriceFault → List ℕ
price_word PriceFault.Negative = codes "negative"
price_word PriceFault.TooLarge = codes "too-large"
price_word PriceFault.TooFine = codes "too-fine"

abbrev pub price_text : List ℕ → PriceFault → List ℕ
price_text field fault = error_with (codes "price") ((codes "field", string_text field) ∷ (codes "fault", string_text (price_word fault)) ∷ [])

-- an array of more than 64 impressions
abbrev pub count_text : ℕ → List ℕ
count_text count = error_with (codes "too-many-imps") ((codes "count", decimal count) ∷ [])

-- two impressions with one id, by their places
abbrev pub duplicate_text : ℕ → ℕ → List ℕ
duplicate_text first second = error_with (codes "duplicate-imp") ((codes "first", decimal first) ∷ (codes "second", decimal second) ∷ [])

-- bytes that are no JSON text; want of memory has no text
abbrev pub json_fault_text : JsonFault → List ℕ
json_fault_text json.Memory = []
json_fault_text (json.Utf8 at) = at_text (codes "json-utf8") at
json_fault_text (json.Syntax at) = at_text (codes "json-syntax") at
json_fault_text (json.Ended at) = at_text (codes "json-ended") at
json_fault_text (json.Deep at) = at_text (codes "json-deep") at

-- a JSON text that is no bid request
abbrev pub request_fault_text : ReqFault → List ℕ
request_fault_text ReqFault.NotObject = error_text (codes "not-object")
request_fault_text (ReqFault.Missing field) = field_text (codes "missing") (path field)
request_fault_text (ReqFault.WrongType field) = field_text (codes "wrong-type") (path field)
request_fault_text (ReqFault.Range field) = field_text (codes "range") (path field)
request_fault_text (ReqFault.Price field fault) = price_text (path field) fault
request_fault_text (ReqFault.AuctionType field) = field_text (codes "auction-type") (path field)
request_fault_text ReqFault.NoImps = error_text (codes "no-imps")
request_fault_text (ReqFault.TooManyImps count) = count_text count
request_fault_text (ReqFault.DuplicateImp first second) = duplicate_text first second
request_fault_text ReqFault.Memory = []

-- a campaign's target that is no expression, by the places of the conjunction and of its predicate from 0
abbrev pub target_text : List ℕ → ℕ → ℕ → List ℕ
target_text word i j = error_with word ((codes "conjunction", decimal i) ∷ (codes "predicate", decimal j) ∷ [])

abbrev pub target_fault_text : ExprFault → List ℕ
target_fault_text ExprFault.NoConjunction = error_text (codes "no-conjunction")
target_fault_text (ExprFault.EmptyList i j) = target_text (codes "empty-list") i j
target_fault_text (ExprFault.AttrTwice i j) = target_text (codes "attr-twice") i j
target_fault_text (ExprFault.TooMany i j) = target_text (codes "too-many") i j
target_fault_text (ExprFault.UnknownAttr i j) = target_text (codes "unknown-attr") i j
target_fault_text ExprFault.Memory = []

-- what a campaign states and is past a limit
abbrev pub fact_fault_text : FactFault → List ℕ
fact_fault_text (FactFault.TextLength field) = field_text (codes "text-length") (camp_path field)
fact_fault_text (FactFault.ListLength field) = field_text (codes "list-length") (camp_path field)
fact_fault_text FactFault.BidZero = error_text (codes "bid-zero")
fact_fault_text FactFault.Size = error_text (codes "size")

-- a JSON text that is no campaign
abbrev pub campaign_fault_text : CampFault → List ℕ
campaign_fault_text CampFault.NotObject = error_text (codes "not-object")
campaign_fault_text (CampFault.Missing field) = field_text (codes "missing") (camp_path field)
campaign_fault_text (CampFault.WrongType field) = field_text (codes "wrong-type") (camp_path field)
campaign_fault_text (CampFault.Range field) = field_text (codes "range") (camp_path field)
campaign_fault_text (CampFault.Price field fault) = price_text (camp_path field) fault
campaign_fault_text (CampFault.Fact fault) = fact_fault_text fault
campaign_fault_text (CampFault.Target fault) = target_fault_text fault
campaign_fault_text CampFault.Memory = []
