-- `compared_kept` meets its contract: each return is the value of the scan that `accepted_scan` ensures, at the place that the tests found.
use borrow.Author.Tests.{lt-ltb, le-ltb}
use lib.ListN.{get_or}
use Rattle.std.proofs.Common.{◌≡◌, ◌∙◌, ℕ, ◌-◌, ◌*◌, ◌<◌, ◌≤◌, ap, rules}
use Rattle.table.specs.Settings.{settings_of}
use Rattle.table.specs.Opening.{ages}
use Rattle.instrument.specs.Instrument.{channels}
use Rattle.acceptance.specs.declared.Scan.{Scan}
use Rattle.acceptance.specs.Accepted.{accepted_samples}
use Rattle.acceptance.specs.Kept.{kept_scan}
use Rattle.comparison.specs.KeptValues.{kept_at}
use Rattle.comparison.proofs.compared_kept.Goals as goal

warm_at : (scan : Scan) (k : ℕ) → k < channels → get_or scan.warm k 0 ≡ kept_at scan k
warm_at scan k h = rw (lt-ltb k channels h)

cold_at : (scan : Scan) (k : ℕ) → channels ≤ k → k < 2 * channels → get_or scan.cold (k - channels) 0 ≡ kept_at scan k
cold_at scan k h l = rw (le-ltb k channels h, lt-ltb k (2 * channels) l)

kelvin_at : (scan : Scan) (k : ℕ) → channels ≤ k → 2 * channels ≤ k → get_or scan.kelvin (k - 2 * channels) 0 ≡ kept_at scan k
kelvin_at scan k h l = rw (le-ltb k channels h, le-ltb k (2 * channels) l)

pub returns-then-k-lt-CHANNELS : goal.returns-then-k-lt-CHANNELS
returns-then-k-lt-CHANNELS c =
    let same : c.accepted_scan-kept.result ≡ kept_scan (accepted_samples (settings_of ages c.args.table.now) c.args.scan.now) = search rules in
    warm_at c.accepted_scan-kept.result c.args.k c.if-k-lt-CHANNELS.true ∙ ap (λ (s : Scan). kept_at s c.args.k) same

pub returns-then-k-lt-SIDES : goal.returns-then-k-lt-SIDES
returns-then-k-lt-SIDES c =
    let same : c.accepted_scan-kept.result ≡ kept_scan (accepted_samples (settings_of ages c.args.table.now) c.args.scan.now) = search rules in
    cold_at c.accepted_scan-kept.result c.args.k c.if-k-lt-CHANNELS.false c.if-k-lt-SIDES.true ∙ ap (λ (s : Scan). kept_at s c.args.k) same

pub returns : goal.returns
returns c =
    let same : c.accepted_scan-kept.result ≡ kept_scan (accepted_samples (settings_of ages c.args.table.now) c.args.scan.now) = search rules in
    kelvin_at c.accepted_scan-kept.result c.args.k c.if-k-lt-CHANNELS.false c.if-k-lt-SIDES.false ∙ ap (λ (s : Scan). kept_at s c.args.k) same
