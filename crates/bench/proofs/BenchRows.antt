-- The rows of document 01's bench scan: N, D and T of its scenes, from what the bench table and the bench scan give; and the rows of scan
-- bias and of the interpolation. Closed numbers compute.
use Prim.Native.Nat.{ℕ, ◌+◌, ◌<◌}
use mathlib.Core.Path.{◌≡◌, refl, ap, ap₂, ◌∙◌}
use mathlib.Core.Bool.{true, false}
use lib.IntN.{ℤ, pos, ◌+ℤ◌, ◌-ℤ◌}
use Rattle.integers.specs.Rounding.{floor, r}
use Rattle.thermometer.proofs.Bench as T
use Rattle.instrument.specs.declared.Target.{Target}
use Rattle.instrument.specs.declared.Target.TheVariants.{Kav, Wg}
use Rattle.table.specs.declared.Corrections.{Corrections}
use Rattle.instrument.specs.Instrument.{channels, target_of, positions}
use Rattle.acceptance.proofs.Bench as A
use Rattle.window.specs.declared.Means.{Means}
use Rattle.nonlinearity.specs.Interpolation.{above_pair, unrounded_tnl, tnl_of}
use Rattle.window.specs.Means.{D}
use Rattle.scene.specs.Temperature.{N, outside, temperature, biased}
use Rattle.promise.specs.Moments.{tnl_at}
use Rattle.bench.specs.Bench.{bench_settings, bench_moment, bench_d, bench_n, bench_t, AllOutside, AllAt, Rows, RoundingRows, BiasRows, InterpolationRows}
use Rattle.bench.proofs.BenchScan.{bench_row_lem, bench_means_lem, bench_row, bench_means, bench_tnl, earth_count}

-- N of a count, and T of an N
abbrev n_of : ℕ → ℤ
n_of count = N (pos 1) (pos 1) (pos 120000) (pos count)

abbrev t_of : ℤ → ℤ
t_of n = temperature (pos 11166) (pos 1107656) (pos 400) (pos 120000) n

-- Tc, and Tw - Tc, of what a channel is corrected by
abbrev pub tc_of : Corrections → ℤ
tc_of k = pos (11166 + k.rj + k.sl)

abbrev pub rise_of : Means → Corrections → ℤ
rise_of m k = r (pos m.sumVPT) (pos m.sumVP) +ℤ k.b -ℤ tc_of k

-- Tw is the same for both targets
pub rise_of_target : (target : Target) → rise_of (bench_means_lem target) bench_row_lem ≡ pos 1107656
unfolding r floor
rise_of_target Kav = refl
rise_of_target Wg = refl

module _ (earth c i : ℕ) (below : c < channels) (inside : i < positions) where
  d_is : bench_d earth c i ≡ pos 120000
  d_is = ap D (bench_means earth c below)

  n_is : bench_n earth c i ≡ n_of earth
  n_is =
      ap₂ (λ (m : Means) (count : ℕ). N (pos m.Ww) (pos m.Wc) (pos m.Ac) (pos count))
      (bench_means earth c below) (earth_count earth c i below inside)

  t_is : bench_t earth c i ≡ t_of (n_of earth)
  t_is =
      ap₂ (λ (m : Means) (k : Corrections). temperature (tc_of k) (rise_of m k) (tnl_at bench_settings (bench_moment earth) c) (D m) (bench_n earth c i))
      (bench_means earth c below) (bench_row c below)
      ∙ ap (λ (tnl : ℤ). temperature (pos 11166) (rise_of (bench_means_lem (target_of c)) bench_row_lem) tnl (pos 120000) (bench_n earth c i)) (bench_tnl earth c below)
      ∙ ap₂ (λ (rise n : ℤ). temperature (pos 11166) rise (pos 400) (pos 120000) n) (rise_of_target (target_of c)) n_is

all_outside : (earth : ℕ) → outside (n_of earth) (pos 120000) ≡ true → AllOutside earth
all_outside earth is-outside c i below inside = ap₂ outside (n_is earth c i below inside) (d_is earth c i below inside) ∙ is-outside

all_at : (earth t : ℕ) → outside (n_of earth) (pos 120000) ≡ false → t_of (n_of earth) ≡ pos t → AllAt earth t
all_at earth t is-inside is c i below inside =
    (ap₂ outside (n_is earth c i below inside) (d_is earth c i below inside) ∙ is-inside, t_is earth c i below inside ∙ is)

pub rows : Rows
unfolding temperature r floor
rows = record {
  H1 = T.H1;
  H2 = T.H2;
  H3 = T.H3;
  H4 = all_at 15000 565394 refl refl;
  H5 = all_at 10000 11166 refl refl;
  H6 = all_outside 9999 refl;
  H7 = all_at 22500 1395236 refl refl;
  H8 = all_outside 22501 refl;
  H9 = all_at 10001 11277 refl refl;
  H10_fourth = A.h10_fourth_bad;
  H10_value = A.h10_scan_value;
  H11 = A.h11_side_bad;
  H12 = A.h12_both_bad;
}

-- H6 and H8 are rows of every scene
pub outside_rows_say : (c i : ℕ) → c < 22 → i < 96 → (outside (bench_n 9999 c i) (bench_d 9999 c i) ≡ true) × (outside (bench_n 22501 c i) (bench_d 22501 c i) ≡ true)
outside_rows_say c i below inside = (rows.H6 c i below inside, rows.H8 c i below inside)

pub rounding_rows : RoundingRows
unfolding r floor
rounding_rows = record {
  half = refl;
  three_halves = refl;
  five_halves = refl;
  half_below_zero = refl;
  three_halves_below_zero = refl;
  five_halves_below_zero = refl;
  above_half = refl;
  below_three_halves = refl;
  above_half_below_zero = refl;
  above_three_halves_below_zero = refl;
}

pub bias_rows : BiasRows
unfolding biased r floor
bias_rows = record { no_bias = refl; least_e = refl; greatest_e = refl; half_more = refl; half_less = refl }

pub interpolation_rows : InterpolationRows
unfolding tnl_of unrounded_tnl above_pair r floor
interpolation_rows = record {
  least = refl;
  below_first = refl;
  at_first = refl;
  half_below = refl;
  at_second = refl;
  half_to_zero = refl;
  half_above = refl;
  third_of_the_way = refl;
  third_of_the_way_unrounded = refl;
  two_thirds_of_the_way = refl;
  at_last = refl;
  above_last = refl;
  greatest = refl;
}
