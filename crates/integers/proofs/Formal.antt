-- Fractions of ring expressions, with the operations of fractions of numbers. Over a list of numbers they compute to those, so that `ring`
-- shows that two fractions are equal.
use mathlib.Core.List.{List}
use lib.Dec.{T}
use lib.IntN.{ℤ}
use Rattle.integers.specs.Fractions.{Fraction, ◌/ᶠ◌, ◌≡ᶠ◌}
use Rattle.integers.proofs.Ring.{Expression, ◌:+◌, ◌:-◌, ◌:*◌, #, value, multiplied_out, is_zero, ring}

pub record Formal : Type 0 where
  pub num : Expression
  pub den : Expression

infixl 65 ◌+ᵉ◌ ◌-ᵉ◌
infixl 70 ◌*ᵉ◌ ◌÷ᵉ◌
infix 75 ◌/ᵉ◌
abbrev pub ◌/ᵉ◌ : Expression → Expression → Formal
n /ᵉ d = record { num = n; den = d }

abbrev pub wholeᵉ : Expression → Formal
wholeᵉ n = n /ᵉ # 1

abbrev pub ◌+ᵉ◌ : Formal → Formal → Formal
a +ᵉ b = (a.num :* b.den :+ b.num :* a.den) /ᵉ (a.den :* b.den)

abbrev pub ◌-ᵉ◌ : Formal → Formal → Formal
a -ᵉ b = (a.num :* b.den :- b.num :* a.den) /ᵉ (a.den :* b.den)

abbrev pub ◌*ᵉ◌ : Formal → Formal → Formal
a *ᵉ b = (a.num :* b.num) /ᵉ (a.den :* b.den)

abbrev pub ◌÷ᵉ◌ : Formal → Formal → Formal
a ÷ᵉ b = (a.num :* b.den) /ᵉ (a.den :* b.num)

abbrev pub fraction : Formal → List ℤ → Fraction
fraction a ρ = value a.num ρ /ᶠ value a.den ρ

pub same_fraction : (ρ : List ℤ) (a b : Formal) → T (is_zero (multiplied_out (a.num :* b.den :- b.num :* a.den))) → fraction a ρ ≡ᶠ fraction b ρ
same_fraction ρ a b t = ring ρ (a.num :* b.den) (b.num :* a.den) t
