-- Document 01, "Bench scan": rows H1 to H3, and what its thermometers read. The bench coefficients are alpha 3,850,000, delta 1,500,000
-- and beta 0.
use Prim.Native.Nat.{ℕ, ◌+◌, ◌<◌}
use mathlib.Core.Path.{◌≡◌, refl, sym, ap, subst}
use native.Mathlib.Omega.{arith}
use lib.IntN.{ℤ, pos}
use lib.Signed.{◌≤ℤ◌, ◌<ℤ◌, le_z_yes, lt_z_yes}
use Rattle.integers.specs.Rounding.{floor}
use Rattle.thermometer.specs.Rule.{M, q, s1, y, w, h, s2, F, units_at_place, answer}
use Rattle.thermometer.specs.Ranges.{Admissible}
use Rattle.thermometer.specs.Reading.{units, reading}
use Rattle.thermometer.proofs.Answer.{reached_before, answer_is}

pub H1 : F 3850000 1500000 0 (pos 0) ≡ pos 16777216
unfolding F s1 s2 h w y q floor
H1 = refl

pub H2 : F 3850000 1500000 0 (pos 4096) ≡ pos 16842767
unfolding F s1 s2 h w y q floor
H2 = refl

F_at_4095 : F 3850000 1500000 0 (pos 4095) ≡ pos 16842751
unfolding F s1 s2 h w y q floor
F_at_4095 = refl

admissible : Admissible 3850000 1500000 0
admissible = omega arith

-- place k is reached and the next is not
pub answer_at_place : (k : ℕ) (m : ℤ) {here next : ℤ} → k < 491520 → F 3850000 1500000 0 (units_at_place k) ≡ here → F 3850000 1500000 0 (units_at_place (k + 1)) ≡ next
    → here ≤ℤ m → m <ℤ next → answer 3850000 1500000 0 m ≡ units_at_place k
answer_at_place k m inside is-here is-next reached not_reached =
    answer_is 3850000 1500000 0 m {k = k} (omega arith)
    (subst (λ f. f ≤ℤ m) (sym is-here) reached)
    (λ j h also. omega (arith, reached_before admissible (k + 1) (omega arith) (subst (λ f. m <ℤ f) (sym is-next) not_reached) j h also))

-- 4,095 is at place 249,855
pub H3 : answer 3850000 1500000 0 (pos 16842766) ≡ pos 4095
H3 = answer_at_place 249855 (pos 16842766) (omega arith) F_at_4095 H2 (le_z_yes tt) (lt_z_yes tt)

F_at_1 : F 3850000 1500000 0 (pos 1) ≡ pos 16777232
unfolding F s1 s2 h w y q floor
F_at_1 = refl

-- 0 is at place 245,760
answer_at_one : answer 3850000 1500000 0 (pos 16777216) ≡ pos 0
answer_at_one = answer_at_place 245760 (pos 16777216) (omega arith) H1 F_at_1 (le_z_yes tt) (lt_z_yes tt)

-- PAM and the thermometer count 20,000, offset 0, all R 2,000,000
pub bench_reading : reading 2000000 2000000 3850000 1500000 0 20000 0 20000 ≡ units (pos 0)
unfolding reading M F s1 s2 h w y q floor
bench_reading = ap units answer_at_one
