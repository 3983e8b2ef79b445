-- What `recover` tells of a state. Sales that were forgotten count too.
use Rattle.std.specs.Prelude.{ℕ, ◌+◌, List, ◌++◌, codes, count_by, decimal, length, sum_by}
use Rattle.budget_book.specs.declared.sales.SaleRow.{SaleRow}
use Rattle.budget_book.specs.Sales.{is_billed, is_expired, is_held, is_lost}
use Rattle.plain_exchange.specs.State.{Campaign, State, forgotten}
use Rattle.recovery.specs.declared.counts.Counts.{Counts}

abbrev pub counts_of : State → Counts
counts_of s = record {
  campaigns = length s.campaigns;
  live = count_by (λ (c : Campaign). c.live) s.campaigns;
  sales = forgotten s + length s.sales;
  held = count_by (λ (sale : SaleRow). is_held sale.state) s.sales;
  billed = sum_by (λ (c : Campaign). c.gone.billed) s.campaigns + count_by (λ (sale : SaleRow). is_billed sale.state) s.sales;
  lost = sum_by (λ (c : Campaign). c.gone.lost) s.campaigns + count_by (λ (sale : SaleRow). is_lost sale.state) s.sales;
  expired = sum_by (λ (c : Campaign). c.gone.expired) s.campaigns + count_by (λ (sale : SaleRow). is_expired sale.state) s.sales;
}

-- a name and a number
unfoldable pub count_text : List ℕ → ℕ → List ℕ
count_text name n = name ++ decimal n

abbrev pub campaigns_text : Counts → List ℕ
campaigns_text n = count_text (codes "campaigns=") n.campaigns ++ count_text (codes " live=") n.live

abbrev pub sales_text : Counts → List ℕ
sales_text n = count_text (codes " sales=") n.sales ++ count_text (codes " held=") n.held ++ count_text (codes " billed=") n.billed ++ count_text (codes " lost=") n.lost ++ count_text (codes " expired=") n.expired

-- the line, with its line feed
abbrev pub counts_text : Counts → List ℕ
counts_text n = campaigns_text n ++ sales_text n ++ codes "\n"

abbrev pub recover_text : State → List ℕ
recover_text s = counts_text (counts_of s)
