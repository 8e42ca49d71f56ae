-- What an accepted bias file is; that the bytes beside a refusal are no accepted one; what opening a table and then a bias file answers.
use Prim.Native.Nat.{ℕ}
use native.Mathlib.Omega.{arith}
use mathlib.Core.Path.{◌≡◌, refl, sym, ap, ◌∙◌}
use mathlib.Core.List.{List, [], ◌∷◌}
use lib.ListN.{length, replicate}
use Rattle.lists.specs.Tests.{Verdict, passes, fails, number_of, and_then}
use Rattle.fields.specs.Fields.{field}
use Rattle.table.specs.Opening.{opening}
use Rattle.table.proofs.OpeningLaws.{PassedTests, passed_tests, first_tag}
use Rattle.bias.specs.declared.TheConstants.{LAYOUT}
use Rattle.bias.specs.Bias.{bias_layout, bias_size}
use Rattle.bias.specs.Opening.{bias_inside, bias_opening, AcceptedBias, both_opening}

-- the constant that `open` lends is the layout, here in numbers
pub lent_layout : (LAYOUT ≡ bias_layout) × (bias_layout ≡ field 0x13 8448 ∷ [])
lent_layout = (refl, refl)

-- ---- an accepted file

module _ {bias : List ℕ} (file : AcceptedBias bias) where
  pub accepted_bias_tests : PassedTests bias_layout (bias_inside bias) bias
  unfolding bias_opening
  accepted_bias_tests = passed_tests bias_layout (bias_inside bias) bias file.accepted

  pub accepted_bias_length : length bias ≡ bias_size
  accepted_bias_length = accepted_bias_tests.long

-- ---- the bytes beside a refusal

pub no_bias_refused : AcceptedBias (replicate bias_size 0) → ⊥
no_bias_refused file = omega (arith, first_tag (replicate bias_size 0) _ _ (accepted_bias_tests file).right)

-- ---- the table, then the bias file

-- a first verdict that is a refusal decides
first_decides : (first second : Verdict) → (number_of first ≡ 0 → ⊥) → and_then first second ≡ first
first_decides passes second some = absurd (some refl)
first_decides (fails n) second some = refl

module _ (table bias : List ℕ) where
  -- the number of a refused table is that of both
  pub both_by_table : {n : ℕ} → n ≡ number_of (opening table) → (n ≡ 0 → ⊥) → n ≡ number_of (both_opening table bias)
  both_by_table is some = is ∙ sym (ap number_of (first_decides (opening table) (bias_opening bias) (λ none. some (is ∙ none))))

  module _ (passed : opening table ≡ passes) where
    under_passed : both_opening table bias ≡ bias_opening bias
    under_passed = ap (λ (v : Verdict). and_then v (bias_opening bias)) passed

    -- under an accepted table that of the bias file is
    pub both_by_bias : {n : ℕ} → n ≡ number_of (bias_opening bias) → n ≡ number_of (both_opening table bias)
    both_by_bias is = is ∙ sym (ap number_of under_passed)

    pub both_pass : bias_opening bias ≡ passes → both_opening table bias ≡ passes
    both_pass also = under_passed ∙ also
