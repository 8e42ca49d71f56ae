-- `open` meets its contract: the first two tests decide by the layout, and the third by the values of the same bytes.
use Rattle.std.proofs.Common.{sym, ap}
use Rattle.table.specs.Opening.{opened_by}
use Rattle.std.proofs.lemmas.Result.{err_from_is_err_and}
use Rattle.table.proofs.OpeningLaws.{refused_before_values, values_refuse, values_pass}
use Rattle.bias.specs.Bias.{bias_layout, bias_size}
use Rattle.bias.specs.Opening.{bias_inside, bias_opening}
use Rattle.bias.proofs.open.Goals as goal

pub returns-in_err-bytes-clause-verdict : goal.returns-in_err-bytes-clause-verdict
unfolding bias_opening
returns-in_err-bytes-clause-verdict c =
    let p = err_from_is_err_and c.from_residual.result c.from_residual.ensures.1 in
    rw (p.1, p.2) (refused_before_values bias_layout _ c.args.bytes.now c.in_err-bytes.ensures.verdict)

pub returns-then-not-values_inside-clause-verdict : goal.returns-then-not-values_inside-clause-verdict
unfolding bias_opening
returns-then-not-values_inside-clause-verdict c =
    values_refuse bias_layout bias_inside c.args.bytes.now c.in_ok-bytes.ensures.verdict c.in_ok-bytes.ensures.bytes c.values_inside.ensures c.if-not-values_inside.true

pub invariant_of-result : goal.invariant_of-result
unfolding bias_opening
invariant_of-result c =
    rw c.in_ok-bytes.ensures.bytes (record {
      accepted = sym (values_pass bias_layout bias_inside c.args.bytes.now c.in_ok-bytes.ensures.verdict c.in_ok-bytes.ensures.bytes c.values_inside.ensures c.if-not-values_inside.false);
      bytes = λ k. (c.type_inv.bytes k).fits;
    })

pub returns-clause-verdict : goal.returns-clause-verdict
unfolding bias_opening
returns-clause-verdict c =
    values_pass bias_layout bias_inside c.args.bytes.now c.in_ok-bytes.ensures.verdict c.in_ok-bytes.ensures.bytes c.values_inside.ensures c.if-not-values_inside.false

pub returns-clause-opened : goal.returns-clause-opened
unfolding bias_opening
returns-clause-opened c =
    let passed = values_pass bias_layout bias_inside c.args.bytes.now c.in_ok-bytes.ensures.verdict c.in_ok-bytes.ensures.bytes c.values_inside.ensures c.if-not-values_inside.false in
    rw c.in_ok-bytes.ensures.bytes (ap (λ v. opened_by bias_size v c.args.bytes.now) passed)
