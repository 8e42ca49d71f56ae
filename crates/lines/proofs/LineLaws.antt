-- What the lent buffer of the product held changes neither the calibrator nor the answer of a record's feed.
use Prim.Native.Nat.{ℕ}
use mathlib.Core.Path.{◌≡◌, refl, sym, ap, ◌∙◌}
use mathlib.Core.List.{List}
use lib.ListN.{length, length-replicate}
use Rattle.lists.specs.Tests.{Verdict, passes, fails}
use Rattle.product.specs.Product.{product_size}
use Rattle.calibrator.specs.declared.Calibrator.{Calibrator}
use Rattle.calibrator.specs.Refusals.{verdict}
use Rattle.calibrator.specs.Feeding.{Feed, verdict_in, step_by, step}
use Rattle.lines.specs.Steps.{empty_product, record_fed}

module _ (c : Calibrator) (scan buffer : List ℕ) where
  abbrev in_buffer : List ℕ → Feed
  in_buffer b = record { scan = scan; buffer = b }

  same_by : (v : Verdict) → ((step_by v c (in_buffer buffer)).calibrator ≡ (step_by v c (in_buffer empty_product)).calibrator) × ((step_by v c (in_buffer buffer)).outcome.reply ≡ (step_by v c (in_buffer empty_product)).outcome.reply)
  unfolding step_by
  same_by passes = (refl, refl)
  same_by (fails n) = (refl, refl)

  module _ (long : length buffer ≡ product_size) where
    same_verdict : verdict_in c (in_buffer buffer) ≡ verdict_in c (in_buffer empty_product)
    unfolding empty_product
    same_verdict = ap (verdict c.window.last scan) (long ∙ sym (length-replicate {A = ℕ} product_size 0))

    pub same_calibrator : (step c (in_buffer buffer)).calibrator ≡ (record_fed c scan).calibrator
    same_calibrator = ap (λ v. (step_by v c (in_buffer buffer)).calibrator) same_verdict ∙ (same_by (verdict_in c (in_buffer empty_product))).0

    pub same_reply : (step c (in_buffer buffer)).outcome.reply ≡ (record_fed c scan).outcome.reply
    same_reply = ap (λ v. (step_by v c (in_buffer buffer)).outcome.reply) same_verdict ∙ (same_by (verdict_in c (in_buffer empty_product))).1
