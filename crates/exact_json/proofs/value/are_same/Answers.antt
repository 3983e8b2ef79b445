use Rattle.std.proofs.Common.{◌≡◌, ◌∙◌, ◌≤◌, ℕ, List, length, take, true, sym, subst}
use Rattle.std.specs.Str.{bytes_eq}
use Rattle.std.proofs.lemmas.List.{take_all}
use Rattle.std.proofs.lemmas.Slice.Eq.{bytes_eq-Decides}
use Rattle.exact_json.proofs.value.are_same.Goals as goal

all_bytes : (a b : List ℕ) (i : ℕ) → length a ≤ i → length a ≡ length b → take i a ≡ take i b → true ≡ bytes_eq a b
all_bytes a b i h same e = sym ((bytes_eq-Decides a b).1 (sym (take_all i a h) ∙ e ∙ take_all i b (subst (λ n. n ≤ i) same h)))

pub returns : goal.returns
returns c = all_bytes c.args.a.now c.args.b.now c.loop-i.i c.loop-i-test.false c.if-a-b.false c.loop-i.invariant
