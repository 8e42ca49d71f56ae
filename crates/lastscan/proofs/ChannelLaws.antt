-- One channel and its nine numbers: a channel in its ranges is read back and passes the test, and numbers that pass it are a channel in its ranges.
use Prim.Native.Nat.{ℕ, suc, ◌+◌, ◌-◌, ◌*◌, ◌%◌, ◌<◌, ◌≤◌}
use native.Mathlib.Decide.{dec_lt}
use native.Mathlib.Omega.{arith}
use mathlib.Core.Path.{◌≡◌, refl, sym, ap, subst, ◌∙◌}
use mathlib.Core.List.{List, [], ◌∷◌}
use mathlib.Core.Logic.{◌⊎◌, inl, inr, ⊎_elim}
use mathlib.Core.Bool.{Bool, true, false, and-eq-true_iff}
use lib.Dec.{eqb, leb}
use lib.IntN.{ℤ, pos, negsuc, nat_abs, ◌*ℤ◌}
use lib.ListN.{length, get_or, drop, get_or-eq_default}
use lib.Seq.{get_or-drop}
use lib.Signed.{◌≤ℤ◌, le_z_yes, pos-nat_abs, yes_non_neg}
use borrow.Author.Tests.{ne_eqb, eqb-true, le-leb, leb-true}
use Rattle.integers.specs.Bounds.{Bounded}
use Rattle.integers.proofs.Linear.{order, difference_from}
use Rattle.integers.proofs.Naturals.{natural_at_most, at_most_natural, natural_below, natural_not_negative}
use Rattle.integers.proofs.Order.{at_most_test, at_most_trans, below_at_most}
use Rattle.integers.proofs.Bounds.{bounded_size, bounded_not_negative}
use Rattle.std.specs.Prelude.{Ok, Err}
use Rattle.lists.specs.Count.{every}
use Rattle.lists.proofs.Every.{each_of_every, each_of_all}
use Rattle.fields.specs.Numbers.{signed}
use Rattle.fields.proofs.NumberLaws.{signed_when_low, signed_when_high}
use Rattle.thermometer.specs.Reading.{from_to}
use Rattle.table.specs.Ranges.{size_to}
use Rattle.table.proofs.Ranges.{in_between, bounded}
use Rattle.scene.specs.declared.Constants.{Constants}
use Rattle.scene.specs.Channel.{Channel, channel_flag}
use Rattle.scene.specs.Ranges.{ConstantsRange}
use Rattle.scene.proofs.Channels.{channel_unflagged, channel_flagged, channel_has_flag, flag_low, flag_high}
use Rattle.product.specs.Ranges.{ChannelRange}
use Rattle.lastscan.specs.Numbers.{channel_numbers, high_half, low_half, complement, numbers_of_channel, wide, constants_by, channel_by, constants_inside, all_zero, channel_numbers_inside, SmallPart}

-- ---- a number and its halves, and two's complement

natural_read_back : {x : ℤ} → pos 0 ≤ℤ x → pos (nat_abs x) ≡ x
natural_read_back {x} not_negative = pos-nat_abs x (yes_non_neg not_negative)

halves_read_back : (x : ℤ) → wide (high_half x) (low_half x) ≡ nat_abs x
halves_read_back x = omega arith

complement_read_back : {x : ℤ} → Bounded x (pos 8192) → signed 0x8000_0000 (complement x) ≡ x
complement_read_back {x = pos n} within =
    let small : n ≤ 8192 = bounded_size within in
    let same : (n + 4294967296) % 4294967296 ≡ n = omega arith in
    rw same (signed_when_low 0x8000_0000 n (omega arith))
complement_read_back {x = negsuc n} within =
    let small : n < 8192 = bounded_size within in
    let m = 4294967296 - suc n in
    let same : m % 4294967296 ≡ m = omega arith in
    rw (difference_from 4294967296 (suc n) (omega arith), same) (signed_when_high 0x8000_0000 m (omega arith) (omega arith) ∙ ap negsuc (omega arith))

pub channel_read_back : (channel : Channel) → ChannelRange channel → channel_by (numbers_of_channel channel) ≡ channel
channel_read_back (Ok k) range =
    let tc_low = at_most_trans (le_z_yes tt) range.tc_low in
    let rise_low = at_most_trans (le_z_yes tt) range.rise_low in
    let read : constants_by (numbers_of_channel (Ok k)) ≡ k =
    rw (halves_read_back k.d, halves_read_back k.base, complement_read_back range.tnl, natural_read_back tc_low, natural_read_back rise_low, natural_read_back (below_at_most range.d_low), natural_read_back range.slope_low, natural_read_back range.base_low) in
    channel_unflagged 0 _ refl ∙ ap Ok read
channel_read_back (Err flag) range = channel_has_flag (channel_flag (Err flag)) _ flag refl

-- ---- a channel in its ranges passes the test

between_is_inside : {low high : ℕ} {x : ℤ} → pos low ≤ℤ x → x ≤ℤ pos high → from_to low high (nat_abs x) ≡ true
between_is_inside {low} {high} {x = pos n} above below = rw (le-leb low n (at_most_natural above), le-leb n high (at_most_natural below))
between_is_inside {x = negsuc n} above below = absurd above.le

constants_are_inside : (k : Constants) → ConstantsRange k → constants_inside (numbers_of_channel (Ok k)) ≡ true
unfolding constants_inside
constants_are_inside k range =
    let reach : k.d ≤ℤ pos (65535 * nat_abs k.slope) = subst (λ slope. k.d ≤ℤ (pos 65535 *ℤ slope)) (sym (natural_read_back range.slope_low)) range.reach in
    let above_zero : pos 1 ≤ℤ k.d = omega (arith, order, range.d_low) in
    let slope-small : nat_abs k.slope ≤ 780300 = bounded_size (bounded_not_negative range.slope_low range.slope_high) in
    let base-small : nat_abs k.base ≤ 51136960500 = bounded_size (bounded_not_negative range.base_low range.base_high) in
    rw (halves_read_back k.d, halves_read_back k.base, complement_read_back range.tnl, between_is_inside range.tc_low range.tc_high, between_is_inside range.rise_low range.rise_high, at_most_test range.tnl.low, at_most_test range.tnl.high, between_is_inside above_zero reach, le-leb _ _ slope-small, le-leb _ _ base-small)

pub length_channel_numbers : (channel : Channel) → length (numbers_of_channel channel) ≡ channel_numbers
length_channel_numbers (Ok k) = refl
length_channel_numbers (Err flag) = refl

pub channel_is_inside : (channel : Channel) → ChannelRange channel → channel_numbers_inside (numbers_of_channel channel) ≡ true
unfolding channel_numbers_inside all_zero every
channel_is_inside (Ok k) range = constants_are_inside k range
channel_is_inside (Err flag) range =
    let some : (channel_flag (Err flag)) ≡ 0 → ⊥ = λ none. omega (arith, flag_low flag) in
    rw (ne_eqb (channel_flag (Err flag)) 0 some, le-leb (channel_flag (Err flag)) 4 (flag_high flag))

-- ---- numbers that pass it are a channel in its ranges

abbrev is_zero : List ℕ → ℕ → Bool
is_zero numbers i = eqb (get_or numbers i 0) 0

pub each_is_zero : (numbers : List ℕ) → all_zero numbers ≡ true → (i : ℕ) → get_or numbers i 0 ≡ 0
unfolding all_zero
each_is_zero numbers all i = by_place (dec_lt i (length numbers))
  where
    by_place : Dec (i < length numbers) → get_or numbers i 0 ≡ 0
    by_place (yes inside) = eqb-true (get_or numbers i 0) 0 (each_of_every (is_zero numbers) (length numbers) i all inside)
    by_place (no outside) = get_or-eq_default numbers 0 {n = i} (omega arith)

module _ (part : List ℕ) where
  abbrev at : ℕ → ℕ
  at k = get_or part k 0

  pub zeros_are_small : ((i : ℕ) → at i ≡ 0) → SmallPart part
  zeros_are_small zeros = record { d = omega (arith, zeros 4); base = omega (arith, zeros 7) }

  abbrev constant_tests : List Bool
  constant_tests =
      from_to 11166 43934 (at 1) ∷ from_to 825032 1357512 (at 2) ∷ size_to 8192 (signed 0x8000_0000 (at 3))
      ∷ from_to 1 (65535 * at 6) (wide (at 4) (at 5)) ∷ leb (at 6) 780300 ∷ leb (wide (at 7) (at 8)) 51136960500 ∷ []

  module _ (inside : constants_inside part ≡ true) where
    test : (i : ℕ) → get_or constant_tests i true ≡ true
    unfolding constants_inside
    test = each_of_all constant_tests inside

    d_between : (1 ≤ wide (at 4) (at 5)) × (wide (at 4) (at 5) ≤ 65535 * at 6)
    d_between = in_between (test 3)

    slope_at_most : at 6 ≤ 780300
    slope_at_most = leb-true _ _ (test 4)

    base_at_most : wide (at 7) (at 8) ≤ 51136960500
    base_at_most = leb-true _ _ (test 5)

    constants_in_range : ConstantsRange (constants_by part)
    constants_in_range =
        let tc : (11166 ≤ at 1) × (at 1 ≤ 43934) = in_between (test 0) in
        let rise : (825032 ≤ at 2) × (at 2 ≤ 1357512) = in_between (test 1) in
        record {
          tc_low = natural_at_most tc.0;
          tc_high = natural_at_most tc.1;
          rise_low = natural_at_most rise.0;
          rise_high = natural_at_most rise.1;
          tnl = bounded (test 2);
          d_low = natural_below d_between.0;
          d_high = natural_at_most (omega (arith, d_between, slope_at_most));
          slope_low = natural_not_negative (at 6);
          slope_high = natural_at_most slope_at_most;
          base_low = natural_not_negative (wide (at 7) (at 8));
          base_high = natural_at_most base_at_most;
          reach = natural_at_most d_between.1;
        }

  -- what the test says of a part that passes it
  abbrev Passed : Type 0
  Passed = ((at 0 ≡ 0) × (constants_inside part ≡ true)) ⊎ ((eqb (at 0) 0 ≡ false) × ((i : ℕ) → at (1 + i) ≡ 0))

  passed : channel_numbers_inside part ≡ true → Passed
  unfolding channel_numbers_inside
  passed inside = by_flag (eqb (at 0) 0) refl
    where
      by_flag : (b : Bool) → eqb (at 0) 0 ≡ b → Passed
      by_flag true zero = inl (eqb-true (at 0) 0 zero, rw zero at inside)
      by_flag false flagged =
          let tests = (and-eq-true_iff (leb (at 0) 4) (all_zero (drop 1 part))).0 (rw flagged at inside) in
          inr (flagged, λ i. sym (get_or-drop 1 part i 0) ∙ each_is_zero (drop 1 part) tests.1 i)

  pub inside_in_channel_range : channel_numbers_inside part ≡ true → ChannelRange (channel_by part)
  inside_in_channel_range inside =
      ⊎_elim
      (λ plain. subst ChannelRange (sym (channel_unflagged (at 0) (constants_by part) plain.0)) (constants_in_range plain.1))
      (λ flagged. subst ChannelRange (sym (channel_flagged (at 0) (constants_by part) flagged.0)) tt)
      (passed inside)

  pub inside_is_small_part : channel_numbers_inside part ≡ true → SmallPart part
  inside_is_small_part inside =
      ⊎_elim
      (λ plain. record { d = omega (arith, d_between plain.1, slope_at_most plain.1); base = omega (arith, base_at_most plain.1) })
      (λ flagged. record { d = omega (arith, flagged.1 3); base = omega (arith, flagged.1 6) })
      (passed inside)
