-- `feed_with` meets its contract: the tests decide as the verdict does, a refusal hands back what came in, and an accepted feed is `accepted`'s.
use Rattle.std.proofs.Common.{List, ℕ, subst, Err, None}
use Rattle.lists.specs.Tests.{Verdict, passes}
use Rattle.calibrator.specs.Feeding.{Feed, Stepped, step_by, Leaves}
use Rattle.calibrator.specs.Steps.{calibrator_of}
use Rattle.calibrator.proofs.StepLaws.{leaves_when_refused, kept_is_replaced}
use Rattle.calibrator.proofs.feed_with.Goals as goal

pub returns-in-Err-clause-step : goal.returns-in-Err-clause-step
returns-in-Err-clause-step c =
    let a = c.args in
    let before = calibrator_of a.table.now a.pairs.now.bias.now a.window a.last in
    let feed : Feed = record { scan = a.scan.now; buffer = a.buffer.now } in
    subst (λ (v : Verdict). Leaves (step_by v before feed) before (Err c.in-Err.refusal) a.buffer.now) c.in-Err.ensures.verdict (leaves_when_refused before feed c.in-Err.refusal)

pub returns-in-Ok-clause-step : goal.returns-in-Ok-clause-step
returns-in-Ok-clause-step c =
    let a = c.args in
    let fed = c.accepted in
    let table = a.table.now in
    let bias = a.pairs.now.bias.now in
    let feed : Feed = record { scan = a.scan.now; buffer = a.buffer.now } in
    let next = calibrator_of table bias fed.result.window fed.result.last in
    let left = fed.new.buffer in
    let of_scan = subst (λ (scan : List ℕ). Leaves (step_by passes (calibrator_of table bias a.window None) (record { scan = scan; buffer = a.buffer.now })) next fed.result.answer left) c.in-Ok.ensures.record fed.ensures.step in
    subst (λ (v : Verdict). Leaves (step_by v (calibrator_of table bias a.window a.last) feed) next fed.result.answer left) c.in-Ok.ensures.verdict
    (subst (λ (stepped : Stepped). Leaves stepped next fed.result.answer left) (kept_is_replaced table bias a.window None a.last feed) of_scan)
