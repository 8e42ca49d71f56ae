-- Laws of `tabulate`, and of a list that is filled from the front, an element at a time.
use Prim.Native.Nat.{ℕ, zero, suc, ◌+◌, ◌<◌, ◌≤◌}
use native.Mathlib.Decide.{dec_lt}
use native.Mathlib.Nat.{le_refl}
use native.Mathlib.Numerals.{add-one}
use native.Mathlib.Omega.{arith}
use mathlib.Core.Path.{◌≡◌, refl, sym, ap, ap₂, ◌∙◌}
use mathlib.Core.List.{List, [], ◌∷◌, ◌++◌, append_assoc, append-nil}
use lib.ListN.{length, get_or, set, drop, length-append, drop_of_length-le, get_or-append}
use lib.Seq.{drop-cons, set_at, get_or_at}
use Rattle.lists.specs.Build.{tabulate}

module _ {A : Type 0} (f : ℕ → A) where
  pub length_tabulate : (n : ℕ) → length (tabulate f n) ≡ n
  unfolding tabulate
  length_tabulate zero = refl
  length_tabulate (suc n) =
      length-append (tabulate f n) (f n ∷ []) ∙ ap (λ (k : ℕ). k + 1) (length_tabulate n) ∙ add-one n

  pub get_d_tabulate : (n i : ℕ) (d : A) → i < n → get_or (tabulate f n) i d ≡ f i
  unfolding tabulate
  get_d_tabulate zero i d below = absurd (omega arith)
  get_d_tabulate (suc n) i d below = by_order (dec_lt i n) (get_d_tabulate n i d)
    where
      by_order : Dec (i < n) → (i < n → get_or (tabulate f n) i d ≡ f i) → get_or (tabulate f n ++ (f n ∷ [])) i d ≡ f i
      by_order (yes less) before = get_or-append (tabulate f n) (f n ∷ []) d i (rw (length_tabulate n) less) ∙ before less
      by_order (no not-less) before =
          let last : i ≡ n = omega arith in
          rw last (get_or_at (tabulate f n) (f n) [] d n (length_tabulate n))

  pub tabulated_none : (b : List A) → b ≡ tabulate f 0 ++ drop 0 b
  unfolding tabulate
  tabulated_none b = refl

  pub tabulated_more : (n : ℕ) (b : List A) → n < length b → set (tabulate f n ++ drop n b) n (f n) ≡ tabulate f (n + 1) ++ drop (n + 1) b
  unfolding tabulate
  tabulated_more n b room =
      ap (λ (l : List A). set (tabulate f n ++ l) n (f n)) (drop-cons b n (f n) room)
      ∙ set_at (tabulate f n) _ (drop (suc n) b) (f n) n (length_tabulate n)
      ∙ sym (append_assoc (tabulate f n) (f n ∷ []) (drop (suc n) b))
      ∙ ap (λ (k : ℕ). tabulate f k ++ drop k b) (sym (add-one n))

  pub tabulated_all : (n : ℕ) (b : List A) → length b ≤ n → tabulate f n ++ drop n b ≡ tabulate f n
  tabulated_all n b full = rw (drop_of_length-le b full) (append-nil (tabulate f n))

-- at the end of a loop that fills: i has reached n
pub tabulated_to_end : {A : Type 0} (f : ℕ → A) (n : ℕ) (b : List A) {out : List A} {i : ℕ} → i ≡ n → length b ≤ n → out ≡ tabulate f i ++ drop i b
    → out ≡ tabulate f n
tabulated_to_end f n b end full is = is ∙ ap (λ (i : ℕ). tabulate f i ++ drop i b) end ∙ tabulated_all f n b full

pub tabulate_same : {A : Type 0} (f g : ℕ → A) (n : ℕ) → ((i : ℕ) → i < n → f i ≡ g i) → tabulate f n ≡ tabulate g n
unfolding tabulate
tabulate_same f g zero same = refl
tabulate_same {A} f g (suc n) same =
    ap₂ (λ (l : List A) (x : A). l ++ (x ∷ [])) (tabulate_same f g n (λ i below. same i (omega arith))) (same n (le_refl (suc n)))

-- two rules with the same list agree at each of its places
pub each_of_same : {A : Type 0} (f g : ℕ → A) (n : ℕ) → tabulate f n ≡ tabulate g n → (i : ℕ) → i < n → f i ≡ g i
each_of_same {A} f g n same i below =
    sym (get_d_tabulate f n i (g i) below) ∙ ap (λ (l : List A). get_or l i (g i)) same ∙ get_d_tabulate g n i (g i) below

-- a list that is filled from the front by stores: the store of element i fills one place more
pub filled_by_store : {A : Type 0} (f : ℕ → A) (b : List A) {out : List A} {v : A} (i : ℕ) → i < length b
    → out ≡ tabulate f i ++ drop i b → v ≡ f i → set out i v ≡ tabulate f (i + 1) ++ drop (i + 1) b
filled_by_store f b i room filled is-element = rw (is-element, filled) (tabulated_more f i b room)
