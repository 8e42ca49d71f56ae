-- `round` meets its contract: its tests are those of the definition. One more than the floor is taken only where at least half of b is left, so
-- that b is at least 2 and it fits.
use Rattle.std.proofs.Common.{arith, ◌≡◌, pos, ◌+ℤ◌, ◌-ℤ◌, ◌*ℤ◌, ◌<ℤ◌, ◌≤ℤ◌, ℤ, FitsSigned, w64, [], ◌∷◌, true, false, cond, ap, sym, ◌∙◌}
use Rattle.std.proofs.lemmas.Int.{to_z-of_z, ints}
use Rattle.integers.specs.Rounding.{floor, is_even, r}
use Rattle.integers.proofs.Ring.{◌:+◌, ◌:*◌, opp, #, v0, v1, v2}
use Rattle.integers.proofs.Certificate.{◌:≤◌, hyp, nat, ◌⊕◌, ◌⊗◌, le_by}
use Rattle.integers.proofs.Machine.{range_fits, fits_low, fits_high, floor_fits}
use Rattle.integers.proofs.Floor.{floor_low, rest_low, rest_high}
use Rattle.integers.proofs.Nearest.{r_is_floor, r_above_floor, r_midway}
use Rattle.integers.proofs.round.Goals as goal

abbrev Past : ℤ → ℤ → ℤ
Past a b = a -ℤ b *ℤ floor a b

module _ (a b : ℤ) where
  one_more_fits : pos 0 <ℤ b → FitsSigned w64 a → (b -ℤ Past a b) ≤ℤ Past a b → FitsSigned w64 (floor a b +ℤ pos 1)
  one_more_fits p f h =
      let high = rest_high a p in
      let two : pos 2 ≤ℤ b = omega (arith, ints) in
      range_fits
      (le_by ((floor a b) ∷ []) ((opp (# 9223372036854775808) :≤ v0) ∷ []) (opp (# 9223372036854775808)) (v0 :+ # 1) (hyp 0 ⊕ hyp 1) tt (fits_low (floor_fits b f)))
      (le_by (a ∷ b ∷ (floor a b) ∷ []) ((# 2 :≤ v1) ∷ (v1 :* v2 :≤ v0) ∷ (v0 :≤ # 9223372036854775807) ∷ []) (v2 :+ # 1) (# 9223372036854775807) (nat 2 ⊗ hyp 0 ⊕ nat 9223372036854775807 ⊗ hyp 1 ⊕ hyp 2 ⊕ hyp 3 ⊕ hyp 0 ⊗ hyp 1) tt two (floor_low a p) (fits_high f))

  even_midway : Past a b ≡ b -ℤ Past a b → is_even (floor a b) ≡ true → floor a b ≡ r a b
  even_midway half even = ap (λ t. cond t (floor a b) (floor a b +ℤ pos 1)) (sym even) ∙ r_midway a b half

  odd_midway : Past a b ≡ b -ℤ Past a b → is_even (floor a b) ≡ false → floor a b +ℤ pos 1 ≡ r a b
  odd_midway half odd = ap (λ t. cond t (floor a b) (floor a b +ℤ pos 1)) (sym odd) ∙ r_midway a b half

pub overflow_sub-short : goal.overflow_sub-short
overflow_sub-short c =
    grind (arith, ints, to_z-of_z, rest_low c.args.a c.requires, rest_high c.args.a c.requires)

pub returns-then-past-short : goal.returns-then-past-short
returns-then-past-short c =
    grind (arith, ints, to_z-of_z, rest_low c.args.a c.requires, rest_high c.args.a c.requires, r_is_floor)

pub overflow_add-result : goal.overflow_add-result
overflow_add-result c =
    grind (arith, ints, to_z-of_z, rest_low c.args.a c.requires, rest_high c.args.a c.requires, one_more_fits)

pub returns-then-short-past : goal.returns-then-short-past
returns-then-short-past c =
    grind (arith, ints, to_z-of_z, rest_low c.args.a c.requires, rest_high c.args.a c.requires, one_more_fits, r_above_floor)

pub returns-then-is_even : goal.returns-then-is_even
returns-then-is_even c =
    grind (arith, ints, to_z-of_z, rest_low c.args.a c.requires, rest_high c.args.a c.requires, even_midway)

pub overflow_add-result-2 : goal.overflow_add-result-2
overflow_add-result-2 c =
    grind (arith, ints, to_z-of_z, rest_low c.args.a c.requires, rest_high c.args.a c.requires, one_more_fits)

pub returns : goal.returns
returns c =
    grind (arith, ints, to_z-of_z, rest_low c.args.a c.requires, rest_high c.args.a c.requires, one_more_fits, odd_midway)
