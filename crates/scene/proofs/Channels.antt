-- The numbers of flags are those from 1 to 4, and no two flags have the same; a channel with a flag has that flag, and with flag 0 its constants.
use Prim.Native.Nat.{ℕ, ◌≤◌}
use native.Mathlib.Omega.{arith}
use mathlib.Core.Path.{◌≡◌, refl, sym, ap, ◌∙◌}
use mathlib.Core.Bool.{Bool, true, false, cond}
use lib.Dec.{eqb}
use borrow.Author.Tests.{eqb-true, eq-eqb, ne_eqb, eqb-false}
use Rattle.std.specs.Prelude.{Result, Ok, Err}
use Rattle.scene.specs.declared.Constants.{Constants}
use Rattle.scene.specs.declared.Flag.{Flag}
use Rattle.scene.specs.declared.Flag.TheVariants.{ThermometersMissing, WarmMissing, ColdMissing, WarmNotAbove}
use Rattle.scene.specs.Channel.{Channel, channel_flag, channel_with}

-- the flag with a number from 1 to 4
abbrev pub flag_numbered : ℕ → Flag
flag_numbered n = cond (eqb n 1) ThermometersMissing (cond (eqb n 2) WarmMissing (cond (eqb n 3) ColdMissing WarmNotAbove))

-- and the number of a flag
abbrev flag_number : Flag → ℕ
flag_number flag = channel_flag (Err flag)

flag_of_its_number : (flag : Flag) → flag_numbered (flag_number flag) ≡ flag
flag_of_its_number ThermometersMissing = refl
flag_of_its_number WarmMissing = refl
flag_of_its_number ColdMissing = refl
flag_of_its_number WarmNotAbove = refl

pub flag_low : (flag : Flag) → 1 ≤ channel_flag (Err flag)
flag_low ThermometersMissing = omega arith
flag_low WarmMissing = omega arith
flag_low ColdMissing = omega arith
flag_low WarmNotAbove = omega arith

pub flag_high : (flag : Flag) → channel_flag (Err flag) ≤ 4
flag_high ThermometersMissing = omega arith
flag_high WarmMissing = omega arith
flag_high ColdMissing = omega arith
flag_high WarmNotAbove = omega arith

number_of_its_flag : (n : ℕ) → 1 ≤ n → n ≤ 4 → flag_number (flag_numbered n) ≡ n
number_of_its_flag n low high = by_tests (eqb n 1) refl (eqb n 2) refl (eqb n 3) refl
  where
    by_tests : (a : Bool) → eqb n 1 ≡ a → (b : Bool) → eqb n 2 ≡ b → (c : Bool) → eqb n 3 ≡ c
        → flag_number (cond a ThermometersMissing (cond b WarmMissing (cond c ColdMissing WarmNotAbove))) ≡ n
    by_tests true one b two c three = sym (eqb-true n 1 one)
    by_tests false not_one true two c three = sym (eqb-true n 2 two)
    by_tests false not_one false not_two true three = sym (eqb-true n 3 three)
    by_tests false not_one false not_two false not_three = omega (arith, eqb-false n 1 not_one, eqb-false n 2 not_two, eqb-false n 3 not_three)

module _ (flag : ℕ) (k : Constants) where
  pub channel_unflagged : flag ≡ 0 → channel_with flag k ≡ Ok k
  unfolding channel_with
  channel_unflagged zero_flag = rw (eq-eqb flag 0 zero_flag)

  pub channel_flagged : eqb flag 0 ≡ false → channel_with flag k ≡ Err (flag_numbered flag)
  unfolding channel_with
  channel_flagged other = rw other

  pub channel_has_flag : (is : Flag) → channel_flag (Err is) ≡ flag → channel_with flag k ≡ Err is
  unfolding channel_with
  channel_has_flag is numbered =
      rw (sym numbered) (rw (ne_eqb (flag_number is) 0 (λ none. omega (arith, flag_low is))) (ap Err (flag_of_its_number is)))

  pub constants_of_channel : (other : Constants) → channel_with flag k ≡ Ok other → (flag ≡ 0) × (k ≡ other)
  unfolding channel_with
  constants_of_channel other is = by_test (eqb flag 0) refl is
    where
      by_test : (b : Bool) → eqb flag 0 ≡ b → cond b (Ok k) (Err (flag_numbered flag)) ≡ Ok other → (flag ≡ 0) × (k ≡ other)
      by_test true zero_flag e = let same : k ≡ other = cc in (eqb-true flag 0 zero_flag, same)
      by_test false some e = let clash : ◌≡◌ {A = ℕ} 0 1 = cc in absurd (omega arith)

  pub flag_of_channel : flag ≤ 4 → channel_flag (channel_with flag k) ≡ flag
  unfolding channel_with
  flag_of_channel high = by_test (eqb flag 0) refl
    where
      by_test : (b : Bool) → eqb flag 0 ≡ b → channel_flag (cond b (Ok k) (Err (flag_numbered flag))) ≡ flag
      by_test true zero_flag = sym (eqb-true flag 0 zero_flag)
      by_test false other = number_of_its_flag flag (omega (arith, eqb-false flag 0 other)) high
