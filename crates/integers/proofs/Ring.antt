-- Ring equations by reflection: `ring ρ a b tt` shows that two expressions have the same value over the list ρ of numbers.
-- Both are multiplied out to a Horner tree, which is unique enough: the test is that a - b has no coefficient but 0.
use mathlib.Core.Path.{◌≡◌, refl, sym, ◌∙◌, ap, ap₂}
use mathlib.Core.List.{List, [], ◌∷◌}
use mathlib.Core.Bool.{Bool, true, false}
use Prim.Native.Nat.{ℕ, zero, suc}
use lib.Dec.{T}
use lib.IntN.{ℤ, pos, negsuc, neg_ℤ, ◌+ℤ◌, ◌-ℤ◌, ◌*ℤ◌, +ℤ_comm, +ℤ_assoc, +ℤ_idl, +ℤ_idr, neg_ℤ-neg_ℤ, zero-*ℤ, *ℤ-zero}
use Rattle.integers.proofs.Arithmetic.{mul-one, one_mul, add_interchange, add_mul, mul-add, neg_unique, neg_mul, mul_assoc, mul_left_comm}

infixl 65 ◌:+◌ ◌:-◌
infixl 70 ◌:*◌
-- `var i` is the i-th number of the list
pub data Expression : Type 0 where
  var : ℕ → Expression
  num : ℤ → Expression
  ◌:+◌ : Expression → Expression → Expression
  ◌:-◌ : Expression → Expression → Expression
  ◌:*◌ : Expression → Expression → Expression
  opp : Expression → Expression

abbrev pub head : List ℤ → ℤ
head [] = pos 0
head (x ∷ ρ) = x

abbrev pub tail : List ℤ → List ℤ
tail [] = []
tail (x ∷ ρ) = ρ

abbrev pub at : List ℤ → ℕ → ℤ
at ρ zero = head ρ
at ρ (suc i) = at (tail ρ) i

abbrev pub value : Expression → List ℤ → ℤ
value (var i) ρ = at ρ i
value (num k) ρ = k
value (a :+ b) ρ = value a ρ +ℤ value b ρ
value (a :- b) ρ = value a ρ -ℤ value b ρ
value (a :* b) ρ = value a ρ *ℤ value b ρ
value (opp a) ρ = neg_ℤ (value a ρ)

-- ---- Horner trees: `pol p q` over x ∷ ρ is p over ρ, plus x times q over x ∷ ρ
pub data Horner : Type 0 where
  con : ℤ → Horner
  pol : Horner → Horner → Horner

abbrev pub horner_value : Horner → List ℤ → ℤ
horner_value (con k) ρ = k
horner_value (pol p q) ρ = horner_value p (tail ρ) +ℤ head ρ *ℤ horner_value q ρ

-- `pol p q`, or p alone where both are numbers and q is 0
abbrev join_numbers : ℤ → ℤ → Horner
join_numbers a (pos zero) = con a
join_numbers a (pos (suc n)) = pol (con a) (con (pos (suc n)))
join_numbers a (negsuc n) = pol (con a) (con (negsuc n))

abbrev join : Horner → Horner → Horner
join (con a) (con b) = join_numbers a b
join (con a) (pol p q) = pol (con a) (pol p q)
join (pol p q) s = pol (pol p q) s

abbrev add_number : ℤ → Horner → Horner
add_number k (con b) = con (k +ℤ b)
add_number k (pol p q) = pol (add_number k p) q

abbrev add : Horner → Horner → Horner
add (con a) s = add_number a s
add (pol p q) (con b) = pol (add_number b p) q
add (pol p q) (pol s t) = join (add p s) (add q t)

abbrev times_number : ℤ → Horner → Horner
times_number k (con b) = con (k *ℤ b)
times_number k (pol p q) = pol (times_number k p) (times_number k q)

-- the same, with 0 as a number where k is 0
abbrev times : ℤ → Horner → Horner
times (pos zero) s = con (pos 0)
times (pos (suc n)) s = times_number (pos (suc n)) s
times (negsuc n) s = times_number (negsuc n) s

abbrev each_coefficient : (Horner → Horner) → Horner → Horner
each_coefficient f (con b) = join (f (con b)) (con (pos 0))
each_coefficient f (pol s t) = join (f s) (each_coefficient f t)

abbrev multiply : Horner → Horner → Horner
multiply (con a) s = times a s
multiply (pol p q) s = add (each_coefficient (multiply p) s) (join (con (pos 0)) (multiply q s))

abbrev variable : ℕ → Horner
variable zero = pol (con (pos 0)) (con (pos 1))
variable (suc i) = pol (variable i) (con (pos 0))

abbrev pub multiplied_out : Expression → Horner
multiplied_out (var i) = variable i
multiplied_out (num k) = con k
multiplied_out (a :+ b) = add (multiplied_out a) (multiplied_out b)
multiplied_out (a :- b) = add (multiplied_out a) (times_number (negsuc 0) (multiplied_out b))
multiplied_out (a :* b) = multiply (multiplied_out a) (multiplied_out b)
multiplied_out (opp a) = times_number (negsuc 0) (multiplied_out a)

-- ---- multiplying out keeps the value
minus_one : (a : ℤ) → negsuc 0 *ℤ a ≡ neg_ℤ a
minus_one a = neg_mul (pos 1) a ∙ ap neg_ℤ (one_mul a)

value_join_numbers : (a b : ℤ) (ρ : List ℤ) → horner_value (join_numbers a b) ρ ≡ a +ℤ head ρ *ℤ b
value_join_numbers a (pos zero) ρ = sym (ap (λ t. a +ℤ t) (*ℤ-zero (head ρ)) ∙ +ℤ_idr a)
value_join_numbers a (pos (suc n)) ρ = refl
value_join_numbers a (negsuc n) ρ = refl

value_join : (p q : Horner) (ρ : List ℤ) → horner_value (join p q) ρ ≡ horner_value p (tail ρ) +ℤ head ρ *ℤ horner_value q ρ
value_join (con a) (con b) ρ = value_join_numbers a b ρ
value_join (con a) (pol p q) ρ = refl
value_join (pol p q) s ρ = refl

value_add_number : (k : ℤ) (p : Horner) (ρ : List ℤ) → horner_value (add_number k p) ρ ≡ k +ℤ horner_value p ρ
value_add_number k (con b) ρ = refl
value_add_number k (pol p q) ρ = ap (λ t. t +ℤ head ρ *ℤ horner_value q ρ) (value_add_number k p (tail ρ)) ∙ +ℤ_assoc k (horner_value p (tail ρ)) (head ρ *ℤ horner_value q ρ)

add_step : (a b c d x : ℤ) → (a +ℤ b) +ℤ x *ℤ (c +ℤ d) ≡ (a +ℤ x *ℤ c) +ℤ (b +ℤ x *ℤ d)
add_step a b c d x = ap (λ t. (a +ℤ b) +ℤ t) (mul-add x c d) ∙ add_interchange a b (x *ℤ c) (x *ℤ d)

value_add : (p s : Horner) (ρ : List ℤ) → horner_value (add p s) ρ ≡ horner_value p ρ +ℤ horner_value s ρ
value_add (con a) s ρ = value_add_number a s ρ
value_add (pol p q) (con b) ρ =
    ap (λ t. t +ℤ head ρ *ℤ horner_value q ρ) (value_add_number b p (tail ρ))
    ∙ +ℤ_assoc b (horner_value p (tail ρ)) (head ρ *ℤ horner_value q ρ)
    ∙ +ℤ_comm b (horner_value p (tail ρ) +ℤ head ρ *ℤ horner_value q ρ)
value_add (pol p q) (pol s t) ρ =
    value_join (add p s) (add q t) ρ
    ∙ ap₂ (λ u w. u +ℤ head ρ *ℤ w) (value_add p s (tail ρ)) (value_add q t ρ)
    ∙ add_step (horner_value p (tail ρ)) (horner_value s (tail ρ)) (horner_value q ρ) (horner_value t ρ) (head ρ)

times_step : (k a b x : ℤ) → k *ℤ a +ℤ x *ℤ (k *ℤ b) ≡ k *ℤ (a +ℤ x *ℤ b)
times_step k a b x = ap (λ t. k *ℤ a +ℤ t) (mul_left_comm x k b) ∙ sym (mul-add k a (x *ℤ b))

value_times_number : (k : ℤ) (p : Horner) (ρ : List ℤ) → horner_value (times_number k p) ρ ≡ k *ℤ horner_value p ρ
value_times_number k (con b) ρ = refl
value_times_number k (pol p q) ρ =
    ap₂ (λ t u. t +ℤ head ρ *ℤ u) (value_times_number k p (tail ρ)) (value_times_number k q ρ)
    ∙ times_step k (horner_value p (tail ρ)) (horner_value q ρ) (head ρ)

value_times : (k : ℤ) (p : Horner) (ρ : List ℤ) → horner_value (times k p) ρ ≡ k *ℤ horner_value p ρ
value_times (pos zero) p ρ = sym (zero-*ℤ (horner_value p ρ))
value_times (pos (suc n)) p ρ = value_times_number (pos (suc n)) p ρ
value_times (negsuc n) p ρ = value_times_number (negsuc n) p ρ

value_each_coefficient : (f : Horner → Horner) (c : ℤ) (ρ : List ℤ)
    → ((s : Horner) → horner_value (f s) (tail ρ) ≡ c *ℤ horner_value s (tail ρ))
    → (s : Horner) → horner_value (each_coefficient f s) ρ ≡ c *ℤ horner_value s ρ
value_each_coefficient f c ρ h (con b) = value_join (f (con b)) (con (pos 0)) ρ ∙ ap₂ ◌+ℤ◌ (h (con b)) (*ℤ-zero (head ρ)) ∙ +ℤ_idr (c *ℤ b)
value_each_coefficient f c ρ h (pol s t) =
    value_join (f s) (each_coefficient f t) ρ
    ∙ ap₂ (λ u w. u +ℤ head ρ *ℤ w) (h s) (value_each_coefficient f c ρ h t)
    ∙ times_step c (horner_value s (tail ρ)) (horner_value t ρ) (head ρ)

multiply_step : (a b s x : ℤ) → a *ℤ s +ℤ (pos 0 +ℤ x *ℤ (b *ℤ s)) ≡ (a +ℤ x *ℤ b) *ℤ s
multiply_step a b s x = ap (λ t. a *ℤ s +ℤ t) (+ℤ_idl (x *ℤ (b *ℤ s)) ∙ sym (mul_assoc x b s)) ∙ sym (add_mul a (x *ℤ b) s)

value_multiply : (p s : Horner) (ρ : List ℤ) → horner_value (multiply p s) ρ ≡ horner_value p ρ *ℤ horner_value s ρ
value_multiply (con a) s ρ = value_times a s ρ
value_multiply (pol p q) s ρ =
    value_add (each_coefficient (multiply p) s) (join (con (pos 0)) (multiply q s)) ρ
    ∙ ap₂ ◌+ℤ◌ (value_each_coefficient (multiply p) (horner_value p (tail ρ)) ρ (λ t. value_multiply p t (tail ρ)) s)
    (value_join (con (pos 0)) (multiply q s) ρ ∙ ap (λ t. pos 0 +ℤ head ρ *ℤ t) (value_multiply q s ρ))
    ∙ multiply_step (horner_value p (tail ρ)) (horner_value q ρ) (horner_value s ρ) (head ρ)

value_variable : (i : ℕ) (ρ : List ℤ) → at ρ i ≡ horner_value (variable i) ρ
value_variable zero ρ = sym (+ℤ_idl (head ρ *ℤ pos 1) ∙ mul-one (head ρ))
value_variable (suc i) ρ =
    value_variable i (tail ρ)
    ∙ sym (ap (λ t. horner_value (variable i) (tail ρ) +ℤ t) (*ℤ-zero (head ρ)) ∙ +ℤ_idr (horner_value (variable i) (tail ρ)))

value_opposite : (p : Horner) (ρ : List ℤ) → neg_ℤ (horner_value p ρ) ≡ horner_value (times_number (negsuc 0) p) ρ
value_opposite p ρ = sym (minus_one (horner_value p ρ)) ∙ sym (value_times_number (negsuc 0) p ρ)

pub same_value : (e : Expression) (ρ : List ℤ) → value e ρ ≡ horner_value (multiplied_out e) ρ
same_value (var i) ρ = value_variable i ρ
same_value (num k) ρ = refl
same_value (a :+ b) ρ = ap₂ ◌+ℤ◌ (same_value a ρ) (same_value b ρ) ∙ sym (value_add (multiplied_out a) (multiplied_out b) ρ)
same_value (a :- b) ρ =
    ap₂ (λ t u. t +ℤ neg_ℤ u) (same_value a ρ) (same_value b ρ)
    ∙ ap (λ t. horner_value (multiplied_out a) ρ +ℤ t) (value_opposite (multiplied_out b) ρ)
    ∙ sym (value_add (multiplied_out a) (times_number (negsuc 0) (multiplied_out b)) ρ)
same_value (a :* b) ρ = ap₂ ◌*ℤ◌ (same_value a ρ) (same_value b ρ) ∙ sym (value_multiply (multiplied_out a) (multiplied_out b) ρ)
same_value (opp a) ρ = ap neg_ℤ (same_value a ρ) ∙ value_opposite (multiplied_out a) ρ

-- ---- the test
abbrev pub both : Bool → Bool → Bool
both true c = c
both false c = false

pub both_left : (b c : Bool) → T (both b c) → T b
both_left true c t = tt
both_left false c t = t

pub both_right : (b c : Bool) → T (both b c) → T c
both_right true c t = t
both_right false c t = absurd t

abbrev is_zero_number : ℤ → Bool
is_zero_number (pos zero) = true
is_zero_number (pos (suc n)) = false
is_zero_number (negsuc n) = false

abbrev pub is_zero : Horner → Bool
is_zero (con k) = is_zero_number k
is_zero (pol p q) = both (is_zero p) (is_zero q)

is_zero_number_zero : (k : ℤ) → T (is_zero_number k) → k ≡ pos 0
is_zero_number_zero (pos zero) t = refl
is_zero_number_zero (pos (suc n)) t = absurd t
is_zero_number_zero (negsuc n) t = absurd t

pub is_zero_zero : (p : Horner) (ρ : List ℤ) → T (is_zero p) → horner_value p ρ ≡ pos 0
is_zero_zero (con k) ρ t = is_zero_number_zero k t
is_zero_zero (pol p q) ρ t =
    ap₂ (λ u w. u +ℤ head ρ *ℤ w) (is_zero_zero p (tail ρ) (both_left (is_zero p) (is_zero q) t)) (is_zero_zero q ρ (both_right (is_zero p) (is_zero q) t))
    ∙ ap (λ u. pos 0 +ℤ u) (*ℤ-zero (head ρ))

difference_zero : (a b : ℤ) → a -ℤ b ≡ pos 0 → a ≡ b
difference_zero a b h = sym (neg_ℤ-neg_ℤ a) ∙ ap neg_ℤ (sym (neg_unique a (neg_ℤ b) h)) ∙ neg_ℤ-neg_ℤ b

pub ring : (ρ : List ℤ) (a b : Expression) → T (is_zero (multiplied_out (a :- b))) → value a ρ ≡ value b ρ
ring ρ a b t = difference_zero (value a ρ) (value b ρ) (same_value (a :- b) ρ ∙ is_zero_zero (multiplied_out (a :- b)) ρ t)

-- ---- short names for what certificates are made of
abbrev pub # : ℕ → Expression
# n = num (pos n)

abbrev pub v0 : Expression
v0 = var 0

abbrev pub v1 : Expression
v1 = var 1

abbrev pub v2 : Expression
v2 = var 2

abbrev pub v3 : Expression
v3 = var 3

abbrev pub v4 : Expression
v4 = var 4

abbrev pub v5 : Expression
v5 = var 5

abbrev pub v6 : Expression
v6 = var 6

abbrev pub v7 : Expression
v7 = var 7

abbrev pub v8 : Expression
v8 = var 8

abbrev pub v9 : Expression
v9 = var 9
