-- The elements of a list: whatever would stand past its end; what holds of each of them and of the default behind the end.
use Prim.Native.Nat.{ℕ, zero, suc, ◌+◌, ◌-◌, ◌<◌}
use native.Mathlib.Decide.{dec_lt}
use native.Mathlib.Omega.{arith}
use mathlib.Core.Path.{◌≡◌, refl, sym, subst}
use mathlib.Core.List.{List, [], ◌∷◌, ◌++◌}
use lib.ListN.{length, get_or, take, drop, replicate, length-take, get_or-append, get_or-eq_default}
use lib.Seq.{get_or-take, get_or-drop, get_or-append-add}
use Rattle.lists.specs.Build.{tabulate}
use Rattle.lists.proofs.Tabulate.{length_tabulate, get_d_tabulate}

pub any_default : {A : Type 0} (l : List A) (i : ℕ) (d e : A) → i < length l → get_or l i d ≡ get_or l i e
any_default [] i d e below = absurd (omega arith)
any_default (x ∷ l) zero d e below = refl
any_default (x ∷ l) (suc i) d e below = any_default l i d e (omega arith)

pub zero_of_zeros : (n i : ℕ) → ◌≡◌ {A = ℕ} (get_or (replicate n 0) i 0) 0
zero_of_zeros zero i = refl
zero_of_zeros (suc n) zero = refl
zero_of_zeros (suc n) (suc i) = zero_of_zeros n i

-- ---- what holds of each element of a list, and of the default behind its end

module _ {A : Type 0} (d : A) (Holds : A → Type 0) (past : Holds d) where
  pub each_tabulated : (f : ℕ → A) (n : ℕ) → ((i : ℕ) → i < n → Holds (f i)) → (i : ℕ) → Holds (get_or (tabulate f n) i d)
  each_tabulated f n each i = by_order (dec_lt i n)
    where
      by_order : Dec (i < n) → Holds (get_or (tabulate f n) i d)
      by_order (yes inside) = subst Holds (sym (get_d_tabulate f n i d inside)) (each i inside)
      by_order (no outside) =
          subst Holds (sym (get_or-eq_default (tabulate f n) d {n = i} (omega (arith, length_tabulate f n)))) past

  pub each_appended : (xs ys : List A) → ((i : ℕ) → Holds (get_or xs i d)) → ((i : ℕ) → Holds (get_or ys i d)) → (i : ℕ) → Holds (get_or (xs ++ ys) i d)
  each_appended xs ys first second i = by_order (dec_lt i (length xs))
    where
      by_order : Dec (i < length xs) → Holds (get_or (xs ++ ys) i d)
      by_order (yes inside) = subst Holds (sym (get_or-append xs ys d i inside)) (first i)
      by_order (no behind) =
          let place : length xs + (i - length xs) ≡ i = omega arith in
          subst (λ (k : ℕ). Holds (get_or (xs ++ ys) k d)) place
          (subst Holds (sym (get_or-append-add xs ys (i - length xs) d)) (second (i - length xs)))

  pub each_of_drop : (n : ℕ) (l : List A) → ((i : ℕ) → Holds (get_or l i d)) → (i : ℕ) → Holds (get_or (drop n l) i d)
  each_of_drop n l each i = subst Holds (sym (get_or-drop n l i d)) (each (n + i))

  pub each_of_take : (n : ℕ) (l : List A) → ((i : ℕ) → Holds (get_or l i d)) → (i : ℕ) → Holds (get_or (take n l) i d)
  each_of_take n l each i = by_order (dec_lt i n)
    where
      by_order : Dec (i < n) → Holds (get_or (take n l) i d)
      by_order (yes inside) = subst Holds (sym (get_or-take n l i d inside)) (each i)
      by_order (no outside) = subst Holds (sym (get_or-eq_default (take n l) d {n = i} (omega (arith, length-take n l)))) past
