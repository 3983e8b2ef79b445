-- Where the head of a message stands (RFC 9112, sections 2.1 and 2.2). A line ends in LF, and a CR
-- before it belongs to its end.
use Rattle.std.specs.Prelude.{◌≡◌, ℕ, ◌+◌, ◌≤◌, ◌==◌, ◌&&◌, nat_lt, Bool, false, if◌then◌else◌, List, [], ◌∷◌, ◌++◌, length, Option, Some, None, option_map, count_by}
use Rattle.httparse.specs.Grammar.{LineEnd, print_blank}

-- the most bytes that a head may have, with the empty lines before it
abbrev pub most_head : ℕ
most_head = 8192

abbrev pub begins_lf : List ℕ → Bool
begins_lf [] = false
begins_lf (b ∷ s) = b == 10

-- how many bytes the empty line at the front has, LF or CR LF: none where there is no such line
unfoldable pub empty_line : List ℕ → ℕ
empty_line [] = 0
empty_line (b ∷ s) = if b == 10 then 1 else (if (b == 13) && begins_lf s then 2 else 0)

-- where the head ends: behind the first empty line that directly follows an LF
unfoldable pub head_end : List ℕ → Option ℕ
head_end [] = None
head_end (b ∷ s) = if (b == 10) && nat_lt 0 (empty_line s) then Some (1 + empty_line s) else option_map (λ n. 1 + n) (head_end s)

-- the lines of a head, the empty one that ends it included
abbrev pub lines_in : List ℕ → ℕ
lines_in head = count_by (λ b. b == 10) head

-- Empty lines are passed over, and the head ends with its first empty line. All of these bytes count.
pub record HasHead (bytes : List ℕ) (blank : List LineEnd) (head rest : List ℕ) : Type 0 where
  pub parts : bytes ≡ print_blank blank ++ (head ++ rest)
  pub begins : empty_line head ≡ 0
  pub ends : head_end head ≡ Some (length head)
  pub fits : length (print_blank blank) + length head ≤ most_head

abbrev pub HasNoHead : List ℕ → Type 0
HasNoHead bytes = (blank : List LineEnd) (head rest : List ℕ) → HasHead bytes blank head rest → ⊥
