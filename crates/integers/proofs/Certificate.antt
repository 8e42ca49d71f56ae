-- Orders by certificate: from facts, each an order or an equation between expressions, `le_by` and `lt_by` show an order.
-- A certificate names something that the facts and the negated goal make not negative, and that, multiplied out, is a number below 0.
-- docs/CERTIFICATES.md says how one is read; tools/certificate.py finds them, and nothing in what it writes is trusted.
use mathlib.Core.Path.{◌≡◌, sym, ◌∙◌, ap, subst}
use mathlib.Core.List.{List, [], ◌∷◌}
use mathlib.Core.Bool.{Bool, true, false}
use mathlib.Core.Logic.{⊎_elim}
use Prim.Native.Nat.{ℕ, zero, suc}
use lib.Dec.{T}
use lib.IntN.{ℤ, pos, negsuc, ◌+ℤ◌, ◌-ℤ◌, ◌*ℤ◌, +ℤ_idr, *ℤ-zero}
use lib.Signed.{◌≤ℤ◌, ◌<ℤ◌}
use Rattle.integers.proofs.Ring.{Expression, ◌:+◌, ◌:-◌, ◌:*◌, value, multiplied_out, ring, #, v0, v1, Horner, con, pol, horner_value, head, tail, is_zero, is_zero_zero, same_value, both, both_left, both_right}
use Rattle.integers.proofs.Naturals.{natural_not_negative}
use Rattle.integers.proofs.Order.{at_most_equal, at_most_or_above, sum_not_negative, product_not_negative, square_not_negative, gap, strict_gap}

infix 50 ◌:≤◌ ◌:<◌ ◌:≡◌
pub data Fact : Type 0 where
  ◌:≤◌ : Expression → Expression → Fact
  ◌:<◌ : Expression → Expression → Fact
  ◌:≡◌ : Expression → Expression → Fact

abbrev pub Means : List ℤ → Fact → Type 0
Means ρ (a :≤ b) = value a ρ ≤ℤ value b ρ
Means ρ (a :< b) = value a ρ <ℤ value b ρ
Means ρ (a :≡ b) = value a ρ ≡ value b ρ

-- `Implies ρ facts G`: a function from proofs of the facts, in order, to G
abbrev pub Implies : List ℤ → List Fact → Type 0 → Type 0
Implies ρ [] G = G
Implies ρ (f ∷ fs) G = Means ρ f → Implies ρ fs G

abbrev All : List ℤ → List Fact → Type 0
All ρ [] = Unit {0}
All ρ (f ∷ fs) = Means ρ f × All ρ fs

-- what is not negative: the gap of fact i, a natural, a square, any multiple of the gap of an equation, sums and products of these
infixl 65 ◌⊕◌
infixl 70 ◌⊗◌
pub data Certificate : Type 0 where
  hyp : ℕ → Certificate
  nat : ℕ → Certificate
  sqr : Expression → Certificate
  tim : Expression → ℕ → Certificate
  ◌⊕◌ : Certificate → Certificate → Certificate
  ◌⊗◌ : Certificate → Certificate → Certificate

abbrev gap_of : Fact → Expression
gap_of (a :≤ b) = b :- a
gap_of (a :< b) = b :- a :- # 1
gap_of (a :≡ b) = b :- a

abbrev gap_at_lem : List Fact → ℕ → Expression
gap_at_lem [] i = # 0
gap_at_lem (f ∷ fs) zero = gap_of f
gap_at_lem (f ∷ fs) (suc i) = gap_at_lem fs i

abbrev multiple_of : Expression → Fact → Expression
multiple_of e (a :≤ b) = # 0
multiple_of e (a :< b) = # 0
multiple_of e (a :≡ b) = e :* (b :- a)

abbrev multiple_at_lem : Expression → List Fact → ℕ → Expression
multiple_at_lem e [] i = # 0
multiple_at_lem e (f ∷ fs) zero = multiple_of e f
multiple_at_lem e (f ∷ fs) (suc i) = multiple_at_lem e fs i

abbrev pub expression : List Fact → Certificate → Expression
expression fs (hyp i) = gap_at_lem fs i
expression fs (nat n) = # n
expression fs (sqr e) = e :* e
expression fs (tim e i) = multiple_at_lem e fs i
expression fs (c ⊕ d) = expression fs c :+ expression fs d
expression fs (c ⊗ d) = expression fs c :* expression fs d

-- ---- what a certificate names is not negative
gap_fact : (ρ : List ℤ) (f : Fact) → Means ρ f → pos 0 ≤ℤ value (gap_of f) ρ
gap_fact ρ (a :≤ b) h = gap h
gap_fact ρ (a :< b) h = strict_gap h
gap_fact ρ (a :≡ b) h = gap (at_most_equal h)

gap_at : (ρ : List ℤ) (fs : List Fact) (i : ℕ) → All ρ fs → pos 0 ≤ℤ value (gap_at_lem fs i) ρ
gap_at ρ [] i h = natural_not_negative 0
gap_at ρ (f ∷ fs) zero h = gap_fact ρ f h.0
gap_at ρ (f ∷ fs) (suc i) h = gap_at ρ fs i h.1

equal_gap : (x a b : ℤ) → a ≡ b → x *ℤ (b -ℤ a) ≡ pos 0
equal_gap x a b e = ap (λ t. x *ℤ (b -ℤ t)) e ∙ ring (x ∷ b ∷ []) (v0 :* (v1 :- v1)) (# 0) tt

multiple_fact : (ρ : List ℤ) (e : Expression) (f : Fact) → Means ρ f → pos 0 ≤ℤ value (multiple_of e f) ρ
multiple_fact ρ e (a :≤ b) h = natural_not_negative 0
multiple_fact ρ e (a :< b) h = natural_not_negative 0
multiple_fact ρ e (a :≡ b) h = at_most_equal (sym (equal_gap (value e ρ) (value a ρ) (value b ρ) h))

multiple_at : (ρ : List ℤ) (e : Expression) (fs : List Fact) (i : ℕ) → All ρ fs → pos 0 ≤ℤ value (multiple_at_lem e fs i) ρ
multiple_at ρ e [] i h = natural_not_negative 0
multiple_at ρ e (f ∷ fs) zero h = multiple_fact ρ e f h.0
multiple_at ρ e (f ∷ fs) (suc i) h = multiple_at ρ e fs i h.1

not_negative : (ρ : List ℤ) (fs : List Fact) (c : Certificate) → All ρ fs → pos 0 ≤ℤ value (expression fs c) ρ
not_negative ρ fs (hyp i) h = gap_at ρ fs i h
not_negative ρ fs (nat n) h = natural_not_negative n
not_negative ρ fs (sqr e) h = square_not_negative (value e ρ)
not_negative ρ fs (tim e i) h = multiple_at ρ e fs i h
not_negative ρ fs (c ⊕ d) h = sum_not_negative (not_negative ρ fs c h) (not_negative ρ fs d h)
not_negative ρ fs (c ⊗ d) h = product_not_negative (not_negative ρ fs c h) (not_negative ρ fs d h)

-- ---- a Horner tree that is a number below 0
abbrev is_negative_number : ℤ → Bool
is_negative_number (pos n) = false
is_negative_number (negsuc n) = true

abbrev pub is_negative : Horner → Bool
is_negative (con k) = is_negative_number k
is_negative (pol p q) = both (is_negative p) (is_zero q)

negative_number_clash : (k : ℤ) → T (is_negative_number k) → pos 0 ≤ℤ k → ⊥
negative_number_clash (pos n) t h = absurd t
negative_number_clash (negsuc n) t h = absurd h.le

negative_clash : (p : Horner) (ρ : List ℤ) → T (is_negative p) → pos 0 ≤ℤ horner_value p ρ → ⊥
negative_clash (con k) ρ t h = negative_number_clash k t h
negative_clash (pol p q) ρ t h =
    negative_clash p (tail ρ) (both_left (is_negative p) (is_zero q) t)
    (subst (λ z. pos 0 ≤ℤ z) (ap (λ w. horner_value p (tail ρ) +ℤ head ρ *ℤ w) (is_zero_zero q ρ (both_right (is_negative p) (is_zero q) t)) ∙ ap (λ w. horner_value p (tail ρ) +ℤ w) (*ℤ-zero (head ρ)) ∙ +ℤ_idr (horner_value p (tail ρ))) h)

-- the test of a certificate
abbrev pub Valid : List Fact → Certificate → Type 0
Valid fs c = T (is_negative (multiplied_out (expression fs c)))

clash : (ρ : List ℤ) (fs : List Fact) (c : Certificate) → Valid fs c → All ρ fs → ⊥
clash ρ fs c t h = negative_clash (multiplied_out (expression fs c)) ρ t (subst (λ z. pos 0 ≤ℤ z) (same_value (expression fs c) ρ) (not_negative ρ fs c h))

curry : (ρ : List ℤ) (fs : List Fact) (G : Type 0) → (All ρ fs → G) → Implies ρ fs G
curry ρ [] G f = f tt
curry ρ (h ∷ hs) G f = λ p. curry ρ hs G (λ ps. f (p, ps))

-- ---- the three theorems. The facts are numbered from 1 in `le_by` and `lt_by`, whose `hyp 0` is the negated goal.
pub clash_by : (ρ : List ℤ) (fs : List Fact) (c : Certificate) → Valid fs c → Implies ρ fs ⊥
clash_by ρ fs c t = curry ρ fs ⊥ (clash ρ fs c t)

pub le_by : (ρ : List ℤ) (fs : List Fact) (a b : Expression) (c : Certificate) → Valid ((b :< a) ∷ fs) c → Implies ρ fs (value a ρ ≤ℤ value b ρ)
le_by ρ fs a b c t = curry ρ fs (value a ρ ≤ℤ value b ρ) (λ h. ⊎_elim (λ p. p) (λ k. absurd (clash ρ ((b :< a) ∷ fs) c t (k, h))) (at_most_or_above (value a ρ) (value b ρ)))

pub lt_by : (ρ : List ℤ) (fs : List Fact) (a b : Expression) (c : Certificate) → Valid ((b :≤ a) ∷ fs) c → Implies ρ fs (value a ρ <ℤ value b ρ)
lt_by ρ fs a b c t = curry ρ fs (value a ρ <ℤ value b ρ) (λ h. ⊎_elim (λ k. absurd (clash ρ ((b :≤ a) ∷ fs) c t (k, h))) (λ p. p) (at_most_or_above (value b ρ) (value a ρ)))
