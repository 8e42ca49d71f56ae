-- The test of a window's numbers and their ranges: each follows from the other.
use Prim.Native.Nat.{ℕ, zero, suc, ◌<◌, ◌≤◌, ◌*◌}
use native.Mathlib.Decide.{dec_lt}
use native.Mathlib.Omega.{arith}
use mathlib.Core.Path.{◌≡◌, refl, sym, ◌∙◌}
use mathlib.Core.List.{List, [], ◌∷◌}
use mathlib.Core.Bool.{Bool, true, false, ◌&&◌, ◌||◌, and-eq-true_iff, or-true}
use mathlib.Core.Logic.{◌⊎◌, inl, inr, ⊎_elim}
use lib.Dec.{eqb, ltb, leb}
use lib.ListN.{length, get_or, get_or-eq_default}
use borrow.Author.Tests.{eqb-true, leb-true, le-leb, lt-ltb, eq-eqb}
use Rattle.lists.proofs.Every.{every_when_each, each_of_every, each_of_all}
use Rattle.instrument.specs.Instrument.{channels, thermometers}
use Rattle.thermometer.specs.Reading.{from_to}
use Rattle.acceptance.specs.Kept.{most_kept, least_kelvin, most_kelvin}
use Rattle.window.specs.declared.Window.{Window}
use Rattle.window.specs.Ranges.{WindowRange}
use Rattle.state.specs.State.{ages_reached, numbers_inside, window_inside}

-- 0, or from low to high
abbrev pub NoneOr : ℕ → ℕ → ℕ → Type 0
NoneOr low high x = (x ≡ 0) ⊎ ((low ≤ x) × (x ≤ high))

module _ (reached low high : ℕ) (numbers : List ℕ) where
  abbrev number : ℕ → ℕ
  number i = get_or numbers i 0

  abbrev holds_at_lem : ℕ → Bool
  holds_at_lem i = eqb (number i) 0 || (ltb i reached && from_to low high (number i))

  -- ---- from the test
  range_at : (i : ℕ) (none within : Bool) → eqb (number i) 0 ≡ none → ltb i reached ≡ within → holds_at_lem i ≡ true → NoneOr low high (number i)
  range_at i true within none there holds = inl (eqb-true (number i) 0 none)
  range_at i false within none there holds =
      let later : (eqb (number i) 0 || (ltb i reached && from_to low high (number i))) ≡ (ltb i reached && from_to low high (number i)) = rw none in
      let ends = (and-eq-true_iff (leb low (number i)) (leb (number i) high)).0 ((and-eq-true_iff (ltb i reached) (from_to low high (number i))).0 (sym later ∙ holds)).1 in
      inr (leb-true low (number i) ends.0, leb-true (number i) high ends.1)

  pub each_in_range : numbers_inside reached low high numbers ≡ true → (i : ℕ) → NoneOr low high (number i)
  unfolding numbers_inside
  each_in_range all i = by_place (dec_lt i (length numbers))
    where
      by_place : Dec (i < length numbers) → NoneOr low high (number i)
      by_place (yes inside) = range_at i (eqb (number i) 0) (ltb i reached) refl refl (each_of_every holds_at_lem (length numbers) i all inside)
      by_place (no outside) = inl (get_or-eq_default numbers 0 {n = i} (omega arith))

  -- ---- to the test
  holds_at : (i : ℕ) → NoneOr low high (number i) → (reached ≤ i → number i ≡ 0) → holds_at_lem i ≡ true
  holds_at i range past = by_place (dec_lt i reached)
    where
      none_holds : number i ≡ 0 → holds_at_lem i ≡ true
      none_holds none = rw (eq-eqb (number i) 0 none)

      by_place : Dec (i < reached) → holds_at_lem i ≡ true
      by_place (no behind) = none_holds (past (omega arith))
      by_place (yes inside) =
          ⊎_elim none_holds
          (λ between. rw (lt-ltb i reached inside, le-leb low (number i) between.0, le-leb (number i) high between.1) (or-true (eqb (number i) 0)))
          range

  pub inside_when_each : ((i : ℕ) → NoneOr low high (number i)) → ((i : ℕ) → reached ≤ i → number i ≡ 0) → numbers_inside reached low high numbers ≡ true
  unfolding numbers_inside
  inside_when_each ranges past = every_when_each holds_at_lem (length numbers) (λ i below. holds_at i (ranges i) (past i))

-- ---- a whole window

at_most : {most x : ℕ} → NoneOr 1 most x → x ≤ most
at_most = ⊎_elim (λ none. omega (arith, none)) (λ between. between.1)

none_or_at_most : {most : ℕ} (x : ℕ) → x ≤ most → NoneOr 1 most x
none_or_at_most zero within = inl refl
none_or_at_most (suc x) within = inr (omega arith, within)

pub window_in_range : {w : Window} → window_inside w ≡ true → WindowRange w
unfolding window_inside
window_in_range {w} inside =
    let reached = ages_reached w.last in
    let counts = channels * reached in
    let kelvins = thermometers * reached in
    let tests = numbers_inside counts 1 most_kept w.warm ∷ numbers_inside counts 1 most_kept w.cold ∷ numbers_inside kelvins least_kelvin most_kelvin w.kelvin ∷ [] in
    record {
      warm = λ i. at_most (each_in_range counts 1 most_kept w.warm (each_of_all tests inside 0) i);
      cold = λ i. at_most (each_in_range counts 1 most_kept w.cold (each_of_all tests inside 1) i);
      kelvin = each_in_range kelvins least_kelvin most_kelvin w.kelvin (each_of_all tests inside 2);
    }

-- a number stands only at an age that an accepted scan can have
pub record ReachedOnly (w : Window) : Type 0 where
  pub warm : (i : ℕ) → channels * ages_reached w.last ≤ i → get_or w.warm i 0 ≡ 0
  pub cold : (i : ℕ) → channels * ages_reached w.last ≤ i → get_or w.cold i 0 ≡ 0
  pub kelvin : (i : ℕ) → thermometers * ages_reached w.last ≤ i → get_or w.kelvin i 0 ≡ 0

all_three : {a b c : Bool} → a ≡ true → b ≡ true → c ≡ true → (a && (b && (c && true))) ≡ true
all_three first second third = rw (first, second, third)

pub window_is_inside : {w : Window} → WindowRange w → ReachedOnly w → window_inside w ≡ true
unfolding window_inside
window_is_inside {w} range only =
    let reached = ages_reached w.last in
    let counts = channels * reached in
    let kelvins = thermometers * reached in
    all_three
    (inside_when_each counts 1 most_kept w.warm (λ i. none_or_at_most _ (range.warm i)) only.warm)
    (inside_when_each counts 1 most_kept w.cold (λ i. none_or_at_most _ (range.cold i)) only.cold)
    (inside_when_each kelvins least_kelvin most_kelvin w.kelvin range.kelvin only.kelvin)
