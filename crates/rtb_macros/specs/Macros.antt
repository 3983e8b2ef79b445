-- Macros in markup (OpenRTB 2.5, section 4.4), and what becomes of them.
use Rattle.std.specs.Prelude.{ℕ, zero, suc, ◌-◌, ◌==◌, not, List, [], ◌∷◌, length, take, Bool, Option, Some, None, find, codes, nat_eq}
use Rattle.std.specs.List.{flat_map}
use Rattle.std.specs.Cmp.Lexicographic.{pointwise}
use Rattle.rtb_macros.specs.declared.macros.Macro.{Macro}
use Rattle.rtb_macros.specs.declared.macros.Macro.TheVariants.{AuctionId, BidId, ImpId, SeatId, AdId, Price, Currency}
use Rattle.rtb_macros.specs.declared.filling.MacroValues.{MacroValues}

abbrev pub all_macros : List Macro
all_macros = AuctionId ∷ BidId ∷ ImpId ∷ SeatId ∷ AdId ∷ Price ∷ Currency ∷ []

-- how a macro is written
abbrev pub name_of : Macro → List ℕ
name_of AuctionId = codes "${AUCTION_ID}"
name_of BidId = codes "${AUCTION_BID_ID}"
name_of ImpId = codes "${AUCTION_IMP_ID}"
name_of SeatId = codes "${AUCTION_SEAT_ID}"
name_of AdId = codes "${AUCTION_AD_ID}"
name_of Price = codes "${AUCTION_PRICE}"
name_of Currency = codes "${AUCTION_CURRENCY}"

abbrev pub text_or_nothing : Option (List ℕ) → List ℕ
text_or_nothing None = []
text_or_nothing (Some text) = text

-- what stands for it
abbrev pub value_of : MacroValues → Macro → List ℕ
value_of v AuctionId = v.auction
value_of v BidId = v.bid
value_of v ImpId = v.imp
value_of v SeatId = v.seat
value_of v AdId = text_or_nothing v.ad
value_of v Price = v.price
value_of v Currency = codes "USD"

abbrev pub begins_with : List ℕ → Macro → Bool
begins_with text m = pointwise nat_eq (name_of m) (take (length (name_of m)) text)

-- the macro that the text begins with
abbrev pub macro_at : List ℕ → Option Macro
macro_at text = find (begins_with text) all_macros

-- no macro begins with the byte
abbrev pub is_plain : ℕ → Bool
is_plain c = not (c == 36)

-- Markup in pieces: a macro, or a byte that stays as it is.
pub data Piece : Type 0 where
  macro : Macro → Piece
  byte : ℕ → Piece

abbrev pub piece_or : Option Macro → List Piece → (Macro → List Piece) → List Piece
piece_or None plain met = plain
piece_or (Some m) plain met = met m

-- the pieces of a text from left to right, of which the first n bytes belong to a macro before it
unfoldable pub pieces_behind : ℕ → List ℕ → List Piece
pieces_behind n [] = []
pieces_behind (suc n) (c ∷ s) = pieces_behind n s
pieces_behind zero (c ∷ s) = piece_or (macro_at (c ∷ s)) (byte c ∷ pieces_behind 0 s) (λ m. macro m ∷ pieces_behind (length (name_of m) - 1) s)

abbrev pub pieces_of : List ℕ → List Piece
pieces_of text = pieces_behind 0 text

abbrev pub text_of : MacroValues → Piece → List ℕ
text_of v (macro m) = value_of v m
text_of v (byte c) = c ∷ []

-- what the markup becomes
abbrev pub filled_in : MacroValues → List ℕ → List ℕ
filled_in v markup = flat_map (text_of v) (pieces_of markup)
