-- Demand 3, entire: for every accepted table, every accepted bias file, every list of feeds and every second list. After any list of feeds
-- the calibrator is an equation of the plain roll, so that each step leaves what the roll says.
use Prim.Native.Nat.{ℕ}
use mathlib.Core.Path.{◌≡◌, refl, sym, ap, subst, subst₂, ◌∙◌}
use mathlib.Core.List.{List, [], ◌∷◌}
use lib.ListN.{drop}
use lib.Seq.{take_at, drop_at}
use Rattle.lists.specs.Tests.{Verdict, passes, fails}
use Rattle.table.specs.declared.Table.{Table}
use Rattle.table.specs.Settings.{Settings, settings_of}
use Rattle.table.specs.ValueRanges.{SettingsRange}
use Rattle.table.specs.Opening.{ages, AcceptedTable}
use Rattle.table.proofs.OpeningLaws.{accepted_ranges}
use Rattle.bias.specs.declared.Bias.{Bias}
use Rattle.bias.specs.Opening.{AcceptedBias}
use Rattle.product.specs.Scenes.{Deliver, by_bias}
use Rattle.product.proofs.Bytes.{length_product}
use Rattle.calibrator.specs.declared.Calibrator.{Calibrator}
use Rattle.calibrator.specs.Refusals.{delivered, refused}
use Rattle.calibrator.specs.Feeding.{Feed, Outcome, Stepped, step}
use Rattle.lists.proofs.Tests.{passes_is_no_failure, failure_number}
use Rattle.product.specs.Product.{product_size}
use Rattle.promise.specs.Roll.{Roll, verdict_at, joined_by, joined}
use Rattle.promise.specs.Moments.{Moment, current_number, channels_at, product_at}
use Rattle.record.specs.Record.{earth_counts}
use Rattle.promise.specs.Promise.{AcceptedClaim, FeedClaim, Each, Alike, SameOutcome, SameProducts, DemandThree}
use Rattle.promise.proofs.RollLaws.{NumbersToLast}
use Rattle.promise.proofs.SceneClaims.{scene_claim, delivered_in_lem}
use Rattle.promise.specs.Outcomes.{fed_moment, written_at, outcome_by}
use Rattle.promise.proofs.AlikeLaws.{SameRolls, same_rolls, same_outcome}
use Rattle.promise.proofs.HistoryLaws.{calibrator_of, numbers_joined, calibrator_after_lem, outcome_after_lem, fresh_is_empty_roll}

-- ---- one feed
module _ (s : Settings) (range : SettingsRange s) {bias : List ℕ} (file : AcceptedBias bias) where
  accepted_claim : (m : Moment) (feed : Feed) (c : Calibrator) → AcceptedClaim s bias m feed (record { calibrator = c; outcome = written_at s (by_bias bias) m feed.buffer })
  accepted_claim m feed c =
      let long = length_product (by_bias bias) (current_number m) (channels_at s m) (earth_counts m.scan) in
      let rest = drop product_size feed.buffer in
      record {
        product = take_at (product_at s m (by_bias bias)) rest product_size long;
        rest = drop_at (product_at s m (by_bias bias)) rest product_size long;
        reply = ap delivered (delivered_in_lem s bias m range file rest);
        scenes = λ c i below inside. scene_claim s bias m c i range file below inside rest;
      }

module _ (table : Table) (accepted : AcceptedTable table.bytes) (bias : Bias) (file : AcceptedBias bias.bytes) where
  abbrev s : Settings
  s = settings_of ages table.bytes

  abbrev deliver : ℕ → Deliver
  deliver = by_bias bias.bytes

  -- a feed that leaves what the roll says meets the claim
  claim_by : (v : Verdict) (roll : Roll) (feed : Feed) (after : Stepped) → verdict_at roll feed ≡ v → after.calibrator ≡ calibrator_of table bias (joined_by v roll feed)
      → after.outcome ≡ outcome_by s deliver v roll feed → FeedClaim s bias.bytes roll (calibrator_of table bias roll) feed after
  claim_by passes roll feed after is handed left =
      let m = fed_moment roll feed.scan in
      record {
        accepts = λ passed. subst (λ (o : Outcome). AcceptedClaim s bias.bytes m feed (record { calibrator = after.calibrator; outcome = o })) (sym left) (accepted_claim s (accepted_ranges accepted) file m feed after.calibrator);
        refuses = λ n failed. absurd (passes_is_no_failure n (sym is ∙ failed));
      }
  claim_by (fails n) roll feed after is handed left = record {
    accepts = λ passed. absurd (passes_is_no_failure n (sym passed ∙ is));
    refuses = λ k failed. record {
      reply = ap (λ (o : Outcome). o.reply) left ∙ ap refused (failure_number (sym is ∙ failed));
      calibrator = handed;
      buffer = ap (λ (o : Outcome). o.buffer) left;
    };
  }

  -- ---- a list of feeds
  each_from : (feeds : List Feed) (roll : Roll) → NumbersToLast roll → Each (FeedClaim s bias.bytes) roll (calibrator_of table bias roll) feeds
  unfolding Each
  each_from [] roll numbers = tt
  each_from (feed ∷ more) roll numbers =
      let handed = calibrator_after_lem table bias roll feed numbers in (
        claim_by (verdict_at roll feed) roll feed (step (calibrator_of table bias roll) feed) refl handed (outcome_after_lem table bias roll feed numbers),
        subst (λ (c : Calibrator). Each (FeedClaim s bias.bytes) (joined roll feed) c more) (sym handed) (each_from more (joined roll feed) (numbers_joined (verdict_at roll feed) roll feed refl numbers)),
      )

  alike_from : (feeds others : List Feed) (roll rolled : Roll) → NumbersToLast roll → NumbersToLast rolled → SameRolls s roll rolled
      → Alike s roll rolled feeds others → SameProducts (calibrator_of table bias roll) (calibrator_of table bias rolled) feeds others
  unfolding Alike SameProducts
  alike_from [] [] roll rolled numbers others same e = tt
  alike_from [] (other ∷ rest) roll rolled numbers others same e = absurd e
  alike_from (feed ∷ more) [] roll rolled numbers others same e = absurd e
  alike_from (feed ∷ more) (other ∷ rest) roll rolled numbers others same e =
      let outcomes = same_outcome s deliver (verdict_at roll feed) roll rolled feed other e.0.scans same in
      let verdicts = e.0.verdicts in
      let rolls = subst (λ (v : Verdict). SameRolls s (joined roll feed) (joined_by v rolled other)) verdicts (same_rolls s (verdict_at roll feed) roll rolled feed other e.0.scans same) in (
        subst₂ SameOutcome (sym (outcome_after_lem table bias roll feed numbers))
            (ap (λ (v : Verdict). outcome_by s deliver v rolled other) verdicts ∙ sym (outcome_after_lem table bias rolled other others)) outcomes,
        subst₂ (λ (c d : Calibrator). SameProducts c d more rest) (sym (calibrator_after_lem table bias roll feed numbers)) (sym (calibrator_after_lem table bias rolled other others))
            (alike_from more rest (joined roll feed) (joined rolled other)
            (numbers_joined (verdict_at roll feed) roll feed refl numbers) (numbers_joined (verdict_at rolled other) rolled other refl others) rolls e.1),
      )

pub demand_three : DemandThree
demand_three table accepted bias file feeds others =
    let s = settings_of ages table.bytes in
    let fresh = sym (fresh_is_empty_roll table bias) in
    record {
      each = subst (λ (c : Calibrator). Each (FeedClaim s bias.bytes) [] c feeds) fresh (each_from table accepted bias file feeds [] tt);
      alike = λ e. subst (λ (c : Calibrator). SameProducts c c feeds others) fresh (alike_from table accepted bias file feeds others [] [] tt tt (record { last = refl; scans = refl; kept = refl }) e);
    }
