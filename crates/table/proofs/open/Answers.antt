-- `open` meets its contract: the first two tests decide by the layout, and the third by the values of the same bytes.
use Rattle.std.proofs.Common.{ℕ, Bool, List, sym, ap}
use Rattle.std.proofs.lemmas.Result.{err_from_is_err_and}
use Rattle.table.specs.Settings.{table_layout, settings_of}
use Rattle.table.specs.Ranges.{values_inside}
use Rattle.table.specs.Opening.{ages, table_size, opening, opened_by}
use Rattle.table.proofs.OpeningLaws.{refused_before_values, values_refuse, values_pass}
use Rattle.table.proofs.open.Goals as goal

abbrev inside : List ℕ → Bool
inside bytes = values_inside (settings_of ages bytes)

pub returns-in_err-bytes-clause-verdict : goal.returns-in_err-bytes-clause-verdict
unfolding opening
returns-in_err-bytes-clause-verdict c =
    let p = err_from_is_err_and c.from_residual.result c.from_residual.ensures.1 in
    rw (p.1, p.2) (refused_before_values (table_layout ages) _ c.args.bytes.now c.in_err-bytes.ensures.verdict)

pub returns-then-not-values_inside-clause-verdict : goal.returns-then-not-values_inside-clause-verdict
unfolding opening
returns-then-not-values_inside-clause-verdict c =
    values_refuse (table_layout ages) inside c.args.bytes.now c.in_ok-bytes.ensures.verdict c.in_ok-bytes.ensures.bytes c.values_inside.ensures c.if-not-values_inside.true

pub invariant_of-result : goal.invariant_of-result
unfolding opening
invariant_of-result c =
    rw c.in_ok-bytes.ensures.bytes (record {
      accepted = sym (values_pass (table_layout ages) inside c.args.bytes.now c.in_ok-bytes.ensures.verdict c.in_ok-bytes.ensures.bytes c.values_inside.ensures c.if-not-values_inside.false);
    })

pub returns-clause-verdict : goal.returns-clause-verdict
unfolding opening
returns-clause-verdict c =
    values_pass (table_layout ages) inside c.args.bytes.now c.in_ok-bytes.ensures.verdict c.in_ok-bytes.ensures.bytes c.values_inside.ensures c.if-not-values_inside.false

pub returns-clause-opened : goal.returns-clause-opened
unfolding opening
returns-clause-opened c =
    let passed = values_pass (table_layout ages) inside c.args.bytes.now c.in_ok-bytes.ensures.verdict c.in_ok-bytes.ensures.bytes c.values_inside.ensures c.if-not-values_inside.false in
    rw c.in_ok-bytes.ensures.bytes (ap (λ v. opened_by table_size v c.args.bytes.now) passed)
