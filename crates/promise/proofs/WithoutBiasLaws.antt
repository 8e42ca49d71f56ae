-- A bias file of zeros delivers T itself at every position, so that every outcome is the one without scan bias.
use Prim.Native.Nat.{ℕ}
use mathlib.Core.Path.{◌≡◌, ap, ap₂, fun_ext, ◌∙◌}
use mathlib.Core.List.{[]}
use lib.IntN.{ℤ}
use Rattle.table.specs.Settings.{settings_of}
use Rattle.table.specs.Opening.{ages}
use Rattle.bias.specs.Bias.{zero_bias}
use Rattle.bias.proofs.Zeros.{zero_c0, zero_e}
use Rattle.scene.specs.Temperature.{biased}
use Rattle.scene.proofs.BiasRange.{biased_by_zeros}
use Rattle.product.specs.Scenes.{Deliver, without_bias, by_bias}
use Rattle.promise.specs.Restart.{rolled_by}
use Rattle.promise.specs.Outcomes.{outcome_at}
use Rattle.promise.specs.WithoutBias.{WithoutBias}
use Rattle.promise.proofs.RestartLaws.{left_by_lem}

pub by_zero_bias : by_bias zero_bias ≡ (λ c. without_bias)
by_zero_bias = fun_ext (λ c. fun_ext (λ i. fun_ext (λ t. ap₂ (λ (c0 e : ℤ). biased c0 e t) (zero_c0 c i) (zero_e c i) ∙ biased_by_zeros t)))

pub without_bias_lem : WithoutBias
without_bias_lem table before feed =
    left_by_lem table (record { bytes = zero_bias }) before feed
    ∙ ap (λ (deliver : ℕ → Deliver). outcome_at (settings_of ages table.bytes) deliver (rolled_by [] before) feed) by_zero_bias
