-- The guess is in the range and below the highest t, and each number on the way to it fits an i64; whatever the guess, the two ends that
-- F confirms enclose the answer.
use mathlib.Core.Path.{◌≡◌, refl}
use mathlib.Core.List.{[], ◌∷◌}
use mathlib.Core.Bool.{Bool, true, false, cond}
use Prim.Native.Nat.{ℕ, ◌+◌, ◌≤◌}
use native.Mathlib.Omega.{arith}
use lib.Dec.{ltb}
use lib.IntN.{ℤ, pos, ◌+ℤ◌, ◌-ℤ◌, ◌*ℤ◌}
use lib.Signed.{◌≤ℤ◌, ◌<ℤ◌, le_z, lt_z, le_z_yes, ≤ℤ_refl}
use mir.Syntax.{w64}
use mir.Val.{SFits}
use borrow.Author.Tests.{ltb-false}
use Rattle.integers.specs.Rounding.{floor}
use Rattle.integers.specs.Bounds.{Bounded}
use Rattle.integers.proofs.Ring.{◌:-◌, ◌:*◌, #, v0, v1}
use Rattle.integers.proofs.Linear.{order, sum_parts}
use Rattle.integers.proofs.Naturals.{natural_not_negative}
use Rattle.integers.proofs.Order.{at_most_trans, le_z_true, lt_z_true, lt_z_false}
use Rattle.integers.proofs.Certificate.{◌:≤◌, ◌:<◌, hyp, ◌⊕◌, ◌⊗◌, le_by, lt_by}
use Rattle.integers.proofs.Bounds.{bounded_sum, bounded_difference, bounded_product, bounded_weaker, number_bounded}
use Rattle.integers.proofs.Floor.{floor_bounded}
use Rattle.thermometer.specs.Rule.{one, F, lowest_units, units_at_place, InRange}
use Rattle.thermometer.specs.Ranges.{Admissible}
use Rattle.thermometer.specs.Steps.{held_between, on_line_through_zero, on_chord, nearby_units, reached_at, past_at, AllReachedBefore, Encloses}
use Rattle.thermometer.proofs.Bounds.{fits, t_bounded, t_fits, F_bounded}
use Rattle.thermometer.proofs.Rises.{rises_strictly}
use Rattle.thermometer.proofs.Places.{place_before_last}
use Rattle.thermometer.proofs.Answer.{reached_before}

-- ---- where the guess is
abbrev Inside : (low high t : ℤ) → Type 0
Inside low high t = (low ≤ℤ t) × (t ≤ℤ high)

high_or : (low high t : ℤ) (beyond : Bool) → lt_z high t ≡ beyond → low ≤ℤ high → low ≤ℤ t → Inside low high (cond beyond high t)
high_or low high t true e h k = (h, ≤ℤ_refl high)
high_or low high t false e h k = (k, lt_z_false e)

low_or : (low high t : ℤ) (beyond : Bool) → lt_z t low ≡ beyond → low ≤ℤ high → Inside low high (cond beyond low (cond (lt_z high t) high t))
low_or low high t true e h = (≤ℤ_refl low, h)
low_or low high t false e h = high_or low high t (lt_z high t) refl h (lt_z_false e)

held_inside : (low high t : ℤ) → low ≤ℤ high → Inside low high (held_between low high t)
unfolding held_between
held_inside low high t h = low_or low high t (lt_z t low) refl h

lowest_in_range : InRange lowest_units
lowest_in_range = record { low = le_z_yes tt; high = le_z_yes tt }

module _ (alpha : ℕ) (m : ℤ) where
  line_inside : Inside lowest_units (pos 243712) (on_line_through_zero alpha m)
  unfolding on_line_through_zero
  line_inside = held_inside lowest_units (pos 243712) (floor ((m -ℤ one) *ℤ pos 240000) (pos alpha)) (le_z_yes tt)

  pub line_in_range : InRange (on_line_through_zero alpha m)
  line_in_range = let h = line_inside in record { low = h.0; high = omega (arith, order) }

  pub chord_end_in_range : InRange (on_line_through_zero alpha m +ℤ pos 2048)
  chord_end_in_range =
      let h = line_inside in
      record { low = omega (arith, order, sum_parts (on_line_through_zero alpha m) (pos 2048)); high = omega (arith, order, sum_parts (on_line_through_zero alpha m) (pos 2048)) }

module _ (alpha delta beta : ℕ) (m : ℤ) where
  chord_inside : (t : ℤ) → Inside lowest_units (pos 245759) (on_chord alpha delta beta m t)
  unfolding on_chord
  chord_inside t =
      let f = F alpha delta beta t in
      held_inside lowest_units (pos 245759) (t +ℤ floor ((m -ℤ f) *ℤ pos 2048) (F alpha delta beta (t +ℤ pos 2048) -ℤ f)) (le_z_yes tt)

  pub chord_in_range : (t : ℤ) → InRange (on_chord alpha delta beta m t)
  chord_in_range t = let h = chord_inside t in record { low = h.0; high = at_most_trans h.1 (le_z_yes tt) }

  last_or : (b : Bool) {t : ℤ} → t ≤ℤ pos 245759 → cond b (pos 245759) t ≤ℤ pos 245759
  last_or true h = le_z_yes tt
  last_or false h = h

  nearby_before_highest : nearby_units alpha delta beta m ≤ℤ pos 245759
  unfolding nearby_units
  nearby_before_highest = last_or (lt_z (pos 22000000) m) (chord_inside (on_line_through_zero alpha m)).1

  pub guess_before_last : (near : ℕ) → units_at_place near ≡ nearby_units alpha delta beta m → near + 1 ≤ 491520
  guess_before_last near e = place_before_last near (rw e nearby_before_highest)

-- ---- each number fits an i64
-- a floor is no larger than what is divided
floor_no_larger : (a : ℤ) {b : ℤ} {n : ℕ} → pos 0 <ℤ b → Bounded a (pos n) → Bounded (floor a b) (pos n)
floor_no_larger a {b} {n} above h = floor_bounded a above (bounded_weaker h (le_by (b ∷ (pos n) ∷ []) ((# 0 :< v0) ∷ (# 0 :≤ v1) ∷ []) v1 (v1 :* v0) (hyp 0 ⊕ hyp 1 ⊗ hyp 2) tt above (natural_not_negative n)))

pub small_measured : {alpha delta beta : ℕ} {m : ℤ} → Admissible alpha delta beta → F alpha delta beta lowest_units ≤ℤ m → m ≤ℤ pos 22000000 → Bounded m (pos 22000000)
small_measured admissible low high =
    let lowest-F = F_bounded lowest_in_range admissible in
    record { low = at_most_trans (le_z_yes tt) (at_most_trans lowest-F.low low); high = high }

module _ {m : ℤ} (small : Bounded m (pos 22000000)) where
  above_one_bounded : Bounded (m -ℤ one) (pos 38777216)
  above_one_bounded = bounded_difference small (number_bounded 16777216)

  pub above_one_fits : SFits w64 (m -ℤ one)
  above_one_fits = fits above_one_bounded tt

  pub line_numerator_fits : SFits w64 ((m -ℤ one) *ℤ pos 240000)
  line_numerator_fits = fits (bounded_product above_one_bounded (number_bounded 240000)) tt

-- the numbers on the way to where the chord of F from t comes to m; what is divided by is above 0
pub record ChordFits (alpha delta beta : ℕ) (m t : ℤ) : Type 0 where
  pub end : SFits w64 (t +ℤ pos 2048)
  pub missing : SFits w64 (m -ℤ F alpha delta beta t)
  pub numerator : SFits w64 ((m -ℤ F alpha delta beta t) *ℤ pos 2048)
  pub rise : SFits w64 (F alpha delta beta (t +ℤ pos 2048) -ℤ F alpha delta beta t)
  pub rises : pos 0 <ℤ (F alpha delta beta (t +ℤ pos 2048) -ℤ F alpha delta beta t)
  pub sum : SFits w64 (t +ℤ floor ((m -ℤ F alpha delta beta t) *ℤ pos 2048) (F alpha delta beta (t +ℤ pos 2048) -ℤ F alpha delta beta t))

module _ {alpha delta beta : ℕ} (admissible : Admissible alpha delta beta) {t : ℤ} (from : InRange t) (to : InRange (t +ℤ pos 2048)) where
  chord_rises : pos 0 <ℤ (F alpha delta beta (t +ℤ pos 2048) -ℤ F alpha delta beta t)
  chord_rises =
      let further : t <ℤ (t +ℤ pos 2048) = omega (arith, order, sum_parts t (pos 2048)) in
      (lt_by ((F alpha delta beta t) ∷ (F alpha delta beta (t +ℤ pos 2048)) ∷ []) ((v0 :< v1) ∷ []) (# 0) (v1 :- v0) (hyp 0 ⊕ hyp 1) tt (rises_strictly admissible from to further))

  module _ {m : ℤ} (small : Bounded m (pos 22000000)) where
    missing_bounded : Bounded (m -ℤ F alpha delta beta t) (pos 43985938)
    missing_bounded = bounded_difference small (F_bounded from admissible)

    numerator_bounded : Bounded ((m -ℤ F alpha delta beta t) *ℤ pos 2048) (pos 90083201024)
    numerator_bounded = bounded_product missing_bounded (number_bounded 2048)

    quotient_bounded : Bounded (floor ((m -ℤ F alpha delta beta t) *ℤ pos 2048) (F alpha delta beta (t +ℤ pos 2048) -ℤ F alpha delta beta t)) (pos 90083201024)
    quotient_bounded = floor_no_larger ((m -ℤ F alpha delta beta t) *ℤ pos 2048) chord_rises numerator_bounded

    pub chord_fits : ChordFits alpha delta beta m t
    chord_fits = record {
      end = t_fits to;
      missing = fits missing_bounded tt;
      numerator = fits numerator_bounded tt;
      rise = fits (bounded_difference (F_bounded to admissible) (F_bounded from admissible)) tt;
      rises = chord_rises;
      sum = fits (bounded_sum (t_bounded from) quotient_bounded) tt;
    }

-- ---- the ends enclose the answer
module _ {alpha delta beta : ℕ} (admissible : Admissible alpha delta beta) (m : ℤ) where
  near_or_first : (near : ℕ) (b : Bool) → le_z (F alpha delta beta (units_at_place near)) m ≡ b → near ≤ 491520 → F alpha delta beta lowest_units ≤ℤ m
      → (cond b near 0 ≤ 491520) × (F alpha delta beta (units_at_place (cond b near 0)) ≤ℤ m)
  near_or_first near true e inside low = (inside, le_z_true e)
  near_or_first near false e inside low = (omega arith, low)

  -- no place is after 491,520
  all_places : AllReachedBefore alpha delta beta m 491521
  all_places j h reached = omega arith

  after_or_end : (past : ℕ) (b : Bool) → lt_z m (F alpha delta beta (units_at_place past)) ≡ b → past ≤ 491520
      → (cond b past 491521 ≤ 491521) × AllReachedBefore alpha delta beta m (cond b past 491521)
  after_or_end past true e inside = (omega arith, reached_before admissible past inside (lt_z_true e))
  after_or_end past false e inside = (omega arith, all_places)

  end_or_after : (near : ℕ) (b : Bool) → ltb 491518 near ≡ b
      → let past = cond b 491521 (cond (lt_z m (F alpha delta beta (units_at_place (near + 2)))) (near + 2) 491521) in (past ≤ 491521) × AllReachedBefore alpha delta beta m past
  end_or_after near true e = (omega arith, all_places)
  end_or_after near false e = after_or_end (near + 2) (lt_z m (F alpha delta beta (units_at_place (near + 2)))) refl (omega (arith, ltb-false 491518 near e))

  -- the place after `near` is one end, whichever it is
  module _ (near : ℕ) (inside : near + 1 ≤ 491520) where
    pub enclosed_after : F alpha delta beta (units_at_place (near + 1)) ≤ℤ m → Encloses alpha delta beta m (near + 1) (past_at alpha delta beta m near)
    unfolding past_at
    enclosed_after reached =
        let past = end_or_after near (ltb 491518 near) refl in
        record { reached_inside = inside; is_reached = reached; past_inside = past.0; all_before = past.1 }

    pub enclosed_before : F alpha delta beta lowest_units ≤ℤ m → m <ℤ F alpha delta beta (units_at_place (near + 1))
        → Encloses alpha delta beta m (reached_at alpha delta beta m near) (near + 1)
    unfolding reached_at
    enclosed_before low past =
        let reached = near_or_first near (le_z (F alpha delta beta (units_at_place near)) m) refl (omega arith) low in
        record { reached_inside = reached.0; is_reached = reached.1; past_inside = omega arith; all_before = reached_before admissible (near + 1) inside past }
