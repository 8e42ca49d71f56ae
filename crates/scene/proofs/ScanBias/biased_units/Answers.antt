-- `scene::ScanBias::biased_units` meets its contract: T and the two numbers are natural, their product is below 2^38, and with the offset and
-- the last bit of its own quotient it is divided as `r_of_naturals` does it; with c0 it is from 1 to 16,777,215.
use Prim.Native.Nat.{ℕ, ◌+◌, ◌*◌, ◌/◌, ◌%◌, ◌≤◌}
use native.Mathlib.Omega.{arith}
use mathlib.Core.Path.{◌≡◌, sym, ap, ◌∙◌}
use mathlib.Core.List.{[], ◌∷◌}
use Rattle.std.proofs.Common.{rules}
use lib.IntN.{ℤ, pos, nat_abs, ◌+ℤ◌, ◌-ℤ◌, ◌*ℤ◌}
use lib.Signed.{◌≤ℤ◌, yes_non_neg, pos-nat_abs}
use mir.Syntax.{w32}
use mir.Val.{Fits, SFits, to_z}
use mir.ValLaws.{to_z_pos}
use Rattle.integers.specs.Rounding.{r}
use Rattle.integers.proofs.Ring.{◌:+◌, ◌:-◌, ring, #, v0, v1}
use Rattle.integers.proofs.Naturals.{natural_at_most, at_most_natural}
use Rattle.integers.proofs.Order.{at_most_trans}
use Rattle.integers.proofs.Machine.{small_fits, reads_back}
use Rattle.integers.proofs.Nearest.{r_of_naturals}
use Rattle.scene.specs.Temperature.{biased}
use Rattle.scene.specs.Steps.{c0_of, e_of, BiasNumbers}
use Rattle.scene.proofs.Delivered.{WithinGuard}
use Rattle.scene.proofs.BiasRange.{product_bounded, biased_within}
use Rattle.scene.proofs.ScanBias.biased_units.Goals as goal

-- ---- on natural numbers
quotient_is_rounding : (a : ℕ) → pos ((a + 32767 + a / 65536 % 2) / 65536) ≡ r (pos a) (pos 65536)
quotient_is_rounding a = r_of_naturals a 32768 (omega arith)

quotient_parts : (p offset : ℕ) → offset % 65536 ≡ 32767 → (p + offset + p / 65536 % 2) / 65536 ≡ offset / 65536 + (p + 32767 + p / 65536 % 2) / 65536
quotient_parts p offset below_half = omega arith

-- ---- what the contract gives
module _ {t : ℤ} {factor offset : ℕ} (low : pos 11166 ≤ℤ t) (high : t ≤ℤ pos 1832984) (numbers : BiasNumbers factor offset) (fits : Fits w32 offset) where
  abbrev product : ℕ
  product = factor * nat_abs t

  abbrev quotient : ℕ
  quotient = (product + offset + product / 65536 % 2) / 65536

  product_is : (pos 65536 +ℤ e_of factor) *ℤ t ≡ pos product
  product_is =
      ap (λ z. z *ℤ t) (ring (pos factor ∷ []) (# 65536 :+ (v0 :- # 65536)) v0 tt)
      ∙ ap (λ z. pos factor *ℤ z) (sym (pos-nat_abs t (yes_non_neg (at_most_trans (natural_at_most (omega arith)) low))))

  quotient_small : quotient ≤ 2815011
  quotient_small =
      let small : product ≤ 180189659136 = at_most_natural (rw product_is at (product_bounded numbers.c0 numbers.e low high).high) in
      omega arith

  quotient_reads_back : to_z w32 quotient ≡ pos quotient
  quotient_reads_back = to_z_pos w32 quotient (omega (arith, quotient_small))

  delivered_is : pos quotient -ℤ pos 32768 ≡ biased (c0_of offset) (e_of factor) t
  unfolding biased
  delivered_is =
      let over = pos (offset / 65536) in
      let rounded = r (pos product) (pos 65536) in
      ap (λ (n : ℕ). pos n -ℤ pos 32768) (quotient_parts product offset numbers.below_half)
      ∙ ap (λ z. over +ℤ z -ℤ pos 32768) (quotient_is_rounding product)
      ∙ ring (over ∷ rounded ∷ []) (v0 :+ v1 :- # 32768) (v0 :- # 32768 :+ v1) tt
      ∙ ap (λ z. c0_of offset +ℤ r z (pos 65536)) (sym product_is)

  delivered_fits : SFits w32 (pos quotient -ℤ pos 32768)
  delivered_fits =
      let delivered : WithinGuard (biased (c0_of offset) (e_of factor) t) = biased_within numbers.c0 numbers.e low high in
      rw delivered_is (small_fits _ (omega (arith, delivered.high)))

pub returns : goal.returns
returns c =
    let low = c.requires.0 in
    let high = c.requires.1 in
    let bias = c.args.self.range in
    let offset : Fits w32 c.args.self.offset = search rules in
    rw (c.from.ensures, c.from-2.ensures, reads_back c.ranges.t, quotient_reads_back low high bias offset, reads_back (delivered_fits low high bias offset)) (delivered_is low high bias offset)
