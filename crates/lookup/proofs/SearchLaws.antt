-- What the search through all counts finds: a count that fits, and none only where none fits.
use Prim.Native.Nat.{ℕ, zero, suc, ◌<◌}
use native.Mathlib.Decide.{dec_lt}
use native.Mathlib.Omega.{arith}
use mathlib.Core.Path.{◌≡◌, refl, sym, ap, ◌∙◌}
use mathlib.Core.Bool.{Bool, true, false, cond, false≢true}
use Rattle.lookup.specs.Lookup.{found_count, no_count, count_that}

pub not_both : {A : Type 0} {b : Bool} → b ≡ true → b ≡ false → A
not_both holds fails = absurd (false≢true (sym fails ∙ holds))

module _ (fits : ℕ → Bool) where
  pub none_fits : (n : ℕ) → ((count : ℕ) → count < n → fits count ≡ false) → count_that fits n ≡ no_count
  unfolding count_that
  none_fits zero none = refl
  none_fits (suc n) none = rw (none n (omega arith)) (none_fits n (λ count below. none count (omega arith)))

  -- the last count decides, or those before it do
  only_by_last : (n c : ℕ) (b : Bool) → fits n ≡ b → fits c ≡ true → c < suc n → (fits n ≡ true → n ≡ c) → (c < n → count_that fits n ≡ found_count c)
      → cond b (found_count n) (count_that fits n) ≡ found_count c
  only_by_last n c true e fit below only before = ap found_count (only e)
  only_by_last n c false e fit below only before = by_place (dec_lt c n)
    where
      by_place : Dec (c < n) → count_that fits n ≡ found_count c
      by_place (yes less) = before less
      by_place (no not-less) = let same : c ≡ n = omega arith in not_both fit (ap fits same ∙ e)

  pub only_one_fits : (n c : ℕ) → c < n → fits c ≡ true → ((count : ℕ) → count < n → fits count ≡ true → count ≡ c) → count_that fits n ≡ found_count c
  unfolding count_that
  only_one_fits zero c below fit only = absurd (omega arith)
  only_one_fits (suc n) c below fit only =
      only_by_last n c (fits n) refl fit below (only n (omega arith)) (λ less. only_one_fits n c less fit (λ count before. only count (omega arith)))

  found_by_last : (n c : ℕ) (b : Bool) → fits n ≡ b → (count_that fits n ≡ found_count c → (c < n) × (fits c ≡ true))
      → cond b (found_count n) (count_that fits n) ≡ found_count c → (c < suc n) × (fits c ≡ true)
  found_by_last n c true fit before is = let same : n ≡ c = cc in (omega arith, ap fits (sym same) ∙ fit)
  found_by_last n c false unfit before is = let older = before is in (omega arith, older.1)

  pub found_fits : (n c : ℕ) → count_that fits n ≡ found_count c → (c < n) × (fits c ≡ true)
  unfolding count_that
  found_fits zero c e = let clash : ◌≡◌ {A = ℕ} 0 1 = cc in absurd (omega arith)
  found_fits (suc n) c e = found_by_last n c (fits n) refl (found_fits n c) e

  none_by_last : (n count : ℕ) (b : Bool) → fits n ≡ b → count < suc n → (count_that fits n ≡ no_count → count < n → fits count ≡ false)
      → cond b (found_count n) (count_that fits n) ≡ no_count → fits count ≡ false
  none_by_last n count true fit below before is = let clash : ◌≡◌ {A = ℕ} 0 1 = cc in absurd (omega arith)
  none_by_last n count false unfit below before is = by_place (dec_lt count n)
    where
      by_place : Dec (count < n) → fits count ≡ false
      by_place (yes less) = before is less
      by_place (no not-less) = let same : count ≡ n = omega arith in ap fits same ∙ unfit

  pub none_found : (n : ℕ) → count_that fits n ≡ no_count → (count : ℕ) → count < n → fits count ≡ false
  unfolding count_that
  none_found zero e count below = absurd (omega arith)
  none_found (suc n) e count below = none_by_last n count (fits n) refl below (λ none less. none_found n none count less) e
