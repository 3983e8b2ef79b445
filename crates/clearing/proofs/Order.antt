-- `beats` is a strict order in which no two different offers tie.
use Rattle.std.proofs.Common.{◌≡◌, true, false, arith}
use Rattle.std.proofs.lemmas.Bool.Decides.{nat_tests}
use Rattle.clearing.specs.declared.Offer.{Offer}
use Rattle.clearing.specs.Clearing.{beats}

pub beats-asymmetric : (a b : Offer) → beats a b ≡ true → beats b a ≡ false
beats-asymmetric a b h = grind (arith, nat_tests)

pub beats-shared : (a b c : Offer) → beats a c ≡ true → beats b c ≡ false → beats a b ≡ true
beats-shared a b c h k = grind (arith, nat_tests)

pub beats-total : (a b : Offer) → beats a b ≡ false → beats b a ≡ false → a ≡ b
beats-total a b h k = grind (arith, nat_tests)

pub beats-irreflexive : (a : Offer) → beats a a ≡ false
beats-irreflexive a = grind (arith, nat_tests)
