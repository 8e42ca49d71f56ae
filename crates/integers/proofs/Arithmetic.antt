-- Laws of + and * on ℤ that lib.IntN does not have: * is associative and distributes over +.
use mathlib.Core.Path.{◌≡◌, sym, ◌∙◌, ap, ap₂}
use Prim.Native.Nat.{zero, suc}
use lib.IntN.{ℤ, pos, negsuc, suc_ℤ, pred_ℤ, neg_ℤ, ◌+ℤ◌, ◌*ℤ◌, +ℤ_comm, +ℤ_assoc, +ℤ_idl, +ℤ_idr, +ℤ_invr, +ℤ_invl, +ℤ-suc_ℤ, +ℤ-pred_ℤ, *ℤ_comm, *ℤ-one, zero-*ℤ, suc_ℤ-*ℤ, pred_ℤ-*ℤ, one}

-- what holds of 0 and of each neighbour of a number it holds of, holds of every number
ind : (P : ℤ → Type 0) → P (pos 0) → ((k : ℤ) → P k → P (suc_ℤ k)) → ((k : ℤ) → P k → P (pred_ℤ k)) → (k : ℤ) → P k
ind P z s p (pos zero) = z
ind P z s p (pos (suc n)) = s (pos n) (ind P z s p (pos n))
ind P z s p (negsuc zero) = p (pos 0) z
ind P z s p (negsuc (suc n)) = p (negsuc n) (ind P z s p (negsuc n))

pub mul-one : (a : ℤ) → a *ℤ pos 1 ≡ a
unfolding one
mul-one a = *ℤ-one a

pub one_mul : (a : ℤ) → pos 1 *ℤ a ≡ a
one_mul a = *ℤ_comm (pos 1) a ∙ mul-one a

pub add_left_comm : (a b c : ℤ) → a +ℤ (b +ℤ c) ≡ b +ℤ (a +ℤ c)
add_left_comm a b c = sym (+ℤ_assoc a b c) ∙ ap (λ t. t +ℤ c) (+ℤ_comm a b) ∙ +ℤ_assoc b a c

pub add_interchange : (a b c d : ℤ) → (a +ℤ b) +ℤ (c +ℤ d) ≡ (a +ℤ c) +ℤ (b +ℤ d)
add_interchange a b c d = +ℤ_assoc a b (c +ℤ d) ∙ ap (λ t. a +ℤ t) (add_left_comm b c d) ∙ sym (+ℤ_assoc a c (b +ℤ d))

pub add_mul : (a b c : ℤ) → (a +ℤ b) *ℤ c ≡ a *ℤ c +ℤ b *ℤ c
add_mul a b c = ind (λ k. (a +ℤ k) *ℤ c ≡ a *ℤ c +ℤ k *ℤ c) base step back b
  where
    base : (a +ℤ pos 0) *ℤ c ≡ a *ℤ c +ℤ pos 0 *ℤ c
    base = ap (λ t. t *ℤ c) (+ℤ_idr a) ∙ sym (+ℤ_idr (a *ℤ c)) ∙ ap (λ t. a *ℤ c +ℤ t) (sym (zero-*ℤ c))

    step : (k : ℤ) → (a +ℤ k) *ℤ c ≡ a *ℤ c +ℤ k *ℤ c → (a +ℤ suc_ℤ k) *ℤ c ≡ a *ℤ c +ℤ suc_ℤ k *ℤ c
    step k h = ap (λ t. t *ℤ c) (+ℤ-suc_ℤ a k) ∙ suc_ℤ-*ℤ (a +ℤ k) c ∙ ap (λ t. t +ℤ c) h ∙ +ℤ_assoc (a *ℤ c) (k *ℤ c) c ∙ ap (λ t. a *ℤ c +ℤ t) (sym (suc_ℤ-*ℤ k c))

    back : (k : ℤ) → (a +ℤ k) *ℤ c ≡ a *ℤ c +ℤ k *ℤ c → (a +ℤ pred_ℤ k) *ℤ c ≡ a *ℤ c +ℤ pred_ℤ k *ℤ c
    back k h = ap (λ t. t *ℤ c) (+ℤ-pred_ℤ a k) ∙ pred_ℤ-*ℤ (a +ℤ k) c ∙ ap (λ t. t +ℤ neg_ℤ c) h ∙ +ℤ_assoc (a *ℤ c) (k *ℤ c) (neg_ℤ c) ∙ ap (λ t. a *ℤ c +ℤ t) (sym (pred_ℤ-*ℤ k c))

pub mul-add : (a b c : ℤ) → a *ℤ (b +ℤ c) ≡ a *ℤ b +ℤ a *ℤ c
mul-add a b c = *ℤ_comm a (b +ℤ c) ∙ add_mul b c a ∙ ap₂ ◌+ℤ◌ (*ℤ_comm b a) (*ℤ_comm c a)

-- what gives 0 when it is added to a is -a
pub neg_unique : (a b : ℤ) → a +ℤ b ≡ pos 0 → b ≡ neg_ℤ a
neg_unique a b h = sym (+ℤ_idl b) ∙ ap (λ t. t +ℤ b) (sym (+ℤ_invl a)) ∙ +ℤ_assoc (neg_ℤ a) a b ∙ ap (λ t. neg_ℤ a +ℤ t) h ∙ +ℤ_idr (neg_ℤ a)

pub neg_mul : (a b : ℤ) → neg_ℤ a *ℤ b ≡ neg_ℤ (a *ℤ b)
neg_mul a b = neg_unique (a *ℤ b) (neg_ℤ a *ℤ b) (sym (add_mul a (neg_ℤ a) b) ∙ ap (λ t. t *ℤ b) (+ℤ_invr a) ∙ zero-*ℤ b)

pub mul_assoc : (a b c : ℤ) → (a *ℤ b) *ℤ c ≡ a *ℤ (b *ℤ c)
mul_assoc a b c = ind (λ k. (k *ℤ b) *ℤ c ≡ k *ℤ (b *ℤ c)) base step back a
  where
    base : (pos 0 *ℤ b) *ℤ c ≡ pos 0 *ℤ (b *ℤ c)
    base = ap (λ t. t *ℤ c) (zero-*ℤ b) ∙ zero-*ℤ c ∙ sym (zero-*ℤ (b *ℤ c))

    step : (k : ℤ) → (k *ℤ b) *ℤ c ≡ k *ℤ (b *ℤ c) → (suc_ℤ k *ℤ b) *ℤ c ≡ suc_ℤ k *ℤ (b *ℤ c)
    step k h = ap (λ t. t *ℤ c) (suc_ℤ-*ℤ k b) ∙ add_mul (k *ℤ b) b c ∙ ap (λ t. t +ℤ b *ℤ c) h ∙ sym (suc_ℤ-*ℤ k (b *ℤ c))

    back : (k : ℤ) → (k *ℤ b) *ℤ c ≡ k *ℤ (b *ℤ c) → (pred_ℤ k *ℤ b) *ℤ c ≡ pred_ℤ k *ℤ (b *ℤ c)
    back k h = ap (λ t. t *ℤ c) (pred_ℤ-*ℤ k b) ∙ add_mul (k *ℤ b) (neg_ℤ b) c ∙ ap₂ ◌+ℤ◌ h (neg_mul b c) ∙ sym (pred_ℤ-*ℤ k (b *ℤ c))

pub mul_left_comm : (a b c : ℤ) → a *ℤ (b *ℤ c) ≡ b *ℤ (a *ℤ c)
mul_left_comm a b c = sym (mul_assoc a b c) ∙ ap (λ t. t *ℤ c) (*ℤ_comm a b) ∙ mul_assoc b a c
