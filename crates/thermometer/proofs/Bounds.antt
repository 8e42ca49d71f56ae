-- How large each number of the rule is, for t in its range and coefficients in theirs. So each fits an i64.
use Prim.Native.Nat.{ℕ, ◌≤◌}
use mathlib.Core.Bool.{Bool, true, false, cond}
use lib.Dec.{T, ltb, lit<}
use lib.IntN.{ℤ, pos, ◌-ℤ◌, ◌*ℤ◌}
use lib.Signed.{le_z, lt_z, le_z_yes, lt_z_yes}
use mir.Syntax.{w64}
use mir.Val.{SFits}
use Rattle.integers.specs.Rounding.{floor}
use Rattle.integers.specs.Bounds.{Bounded}
use Rattle.integers.proofs.Bounds.{bounded_sum, bounded_difference, bounded_product, bounded_weaker, natural_bounded, number_bounded}
use Rattle.integers.proofs.Naturals.{natural_not_negative}
use Rattle.integers.proofs.Machine.{bounded_fits}
use Rattle.integers.proofs.Floor.{floor_bounded}
use Rattle.thermometer.specs.Rule.{one, q, s1, y, w, h, s2, F, InRange}
use Rattle.thermometer.specs.Ranges.{Admissible}

-- what F multiplies by alpha
abbrev pub bracket : (delta beta : ℕ) → ℤ → ℤ
bracket delta beta t = pos 256 *ℤ t -ℤ s1 delta t -ℤ s2 beta t

-- a floor is at most n where n times the divisor is at least the bound of what is divided
floor_at_most : (n : ℕ) (a b : ℤ) {m : ℤ} → T (lt_z (pos 0) b) → T (le_z m (pos n *ℤ b)) → Bounded a m → Bounded (floor a b) (pos n)
floor_at_most n a b above enough k = floor_bounded a (lt_z_yes above) (bounded_weaker k (le_z_yes enough))

or_zero_bounded : (b : Bool) {x : ℤ} {n : ℕ} → Bounded x (pos n) → Bounded (cond b x (pos 0)) (pos n)
or_zero_bounded true k = k
or_zero_bounded false {n = n} k = bounded_weaker (number_bounded 0) (natural_not_negative n)

module _ {t : ℤ} (range : InRange t) where
  pub t_bounded : Bounded t (pos 245760)
  t_bounded = record { low = range.low; high = range.high }

  pub t_less_bounded : Bounded (t -ℤ pos 409600) (pos 655360)
  t_less_bounded = bounded_difference t_bounded (number_bounded 409600)

  pub q_bounded : Bounded (q t) (pos 161061273600)
  unfolding q
  q_bounded = bounded_product t_bounded t_less_bounded

  pub y_bounded : Bounded (y t) (pos 16106128)
  unfolding y
  y_bounded = floor_at_most 16106128 (q t) (pos 10000) tt tt q_bounded

  pub square_bounded : Bounded (t *ℤ t) (pos 60397977600)
  square_bounded = bounded_product t_bounded t_bounded

  pub w_bounded : Bounded (w t) (pos 6039798)
  unfolding w
  w_bounded = floor_at_most 6039798 (t *ℤ t) (pos 10000) tt tt square_bounded

  pub yw_bounded : Bounded (y t *ℤ w t) (pos 97277759682144)
  yw_bounded = bounded_product y_bounded w_bounded

  pub h_bounded : Bounded (h t) (pos 5798207)
  unfolding h
  h_bounded = floor_at_most 5798207 (y t *ℤ w t) one tt tt yw_bounded

  pub 256t_bounded : Bounded (pos 256 *ℤ t) (pos 62914560)
  256t_bounded = bounded_product (number_bounded 256) t_bounded

  module _ {delta : ℕ} (delta_high : delta ≤ 2000000) where
    pub delta_q_bounded : Bounded (pos delta *ℤ q t) (pos 322122547200000000)
    delta_q_bounded = bounded_product (natural_bounded delta_high) q_bounded

    pub s1_bounded : Bounded (s1 delta t) (pos 2013266)
    unfolding s1
    s1_bounded = floor_at_most 2013266 (pos delta *ℤ q t) (pos 160000000000) tt tt delta_q_bounded

  module _ {beta : ℕ} (beta_high : beta ≤ 500000) where
    pub beta_h_bounded : Bounded (pos beta *ℤ h t) (pos 2899103500000)
    beta_h_bounded = bounded_product (natural_bounded beta_high) h_bounded

    pub s2_bounded : Bounded (s2 beta t) (pos 181194)
    unfolding s2
    s2_bounded =
        or_zero_bounded (lt_z t (pos 0)) (floor_at_most 181194 (pos beta *ℤ h t) (pos 16000000) tt tt beta_h_bounded)

  module _ {alpha delta beta : ℕ} (admissible : Admissible alpha delta beta) where
    pub 256t_less_s1_bounded : Bounded (pos 256 *ℤ t -ℤ s1 delta t) (pos 64927826)
    256t_less_s1_bounded = bounded_difference 256t_bounded (s1_bounded admissible.delta_high)

    pub bracket_bounded : Bounded (bracket delta beta t) (pos 65109020)
    bracket_bounded = bounded_difference 256t_less_s1_bounded (s2_bounded admissible.beta_high)

    pub alpha_bracket_bounded : Bounded (pos alpha *ℤ bracket delta beta t) (pos 325545100000000)
    alpha_bracket_bounded = bounded_product (natural_bounded admissible.alpha_high) bracket_bounded

    pub F_bounded : Bounded (F alpha delta beta t) (pos 21985938)
    unfolding F
    F_bounded =
        bounded_sum (number_bounded 16777216)
        (floor_at_most 5208722 (pos alpha *ℤ bracket delta beta t) (pos 62500000) tt tt alpha_bracket_bounded)

-- ---- each fits an i64
pub fits : {x : ℤ} {m : ℕ} → Bounded x (pos m) → T (ltb m 9223372036854775808) → SFits w64 x
fits k small = bounded_fits k (lit< small)

module _ {t : ℤ} (range : InRange t) where
  pub t_fits : SFits w64 t
  t_fits = fits (t_bounded range) tt

  pub t_less_fits : SFits w64 (t -ℤ pos 409600)
  t_less_fits = fits (t_less_bounded range) tt

  pub q_fits : SFits w64 (q t)
  q_fits = fits (q_bounded range) tt

  pub delta_q_fits : {delta : ℕ} → delta ≤ 2000000 → SFits w64 (pos delta *ℤ q t)
  delta_q_fits delta_high = fits (delta_q_bounded range delta_high) tt

-- the products on the way to s2
pub record QuarticFits (beta : ℕ) (t : ℤ) : Type 0 where
  pub square : SFits w64 (t *ℤ t)
  pub yw : SFits w64 (y t *ℤ w t)
  pub by_beta : SFits w64 (pos beta *ℤ h t)

pub quartic_fits : {beta : ℕ} {t : ℤ} → InRange t → beta ≤ 500000 → QuarticFits beta t
quartic_fits range beta_high = record {
  square = fits (square_bounded range) tt;
  yw = fits (yw_bounded range) tt;
  by_beta = fits (beta_h_bounded range beta_high) tt;
}

-- the numbers on the way to F, and F
pub record RatioFits (alpha delta beta : ℕ) (t : ℤ) : Type 0 where
  pub times_256 : SFits w64 (pos 256 *ℤ t)
  pub less_s1 : SFits w64 (pos 256 *ℤ t -ℤ s1 delta t)
  pub less_s2 : SFits w64 (bracket delta beta t)
  pub by_alpha : SFits w64 (pos alpha *ℤ bracket delta beta t)
  pub ratio : SFits w64 (F alpha delta beta t)

pub ratio_fits : {alpha delta beta : ℕ} {t : ℤ} → InRange t → Admissible alpha delta beta → RatioFits alpha delta beta t
ratio_fits range admissible = record {
  times_256 = fits (256t_bounded range) tt;
  less_s1 = fits (256t_less_s1_bounded range admissible) tt;
  less_s2 = fits (bracket_bounded range admissible) tt;
  by_alpha = fits (alpha_bracket_bounded range admissible) tt;
  ratio = fits (F_bounded range admissible) tt;
}
