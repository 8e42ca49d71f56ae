-- Every record has its accepted thermometers bracketed, so every record on the roll has.
use Prim.Native.Nat.{ℕ}
use mathlib.Core.List.{List, []}
use Rattle.lists.proofs.All.{all_of_any}
use Rattle.instrument.specs.declared.Target.TheVariants.{Kav, Wg}
use Rattle.table.specs.Settings.{Settings, settings_of}
use Rattle.table.specs.Opening.{ages}
use Rattle.acceptance.specs.Accepted.{accepted_samples}
use Rattle.acceptance.proofs.Bracketed.{accepted_bracketed}
use Rattle.promise.specs.Restart.{rolled_by}
use Rattle.promise.specs.Thermometers.{ThermometersBracketed, FedThermometersBracketed}

thermometers_bracketed : (s : Settings) (scan : List ℕ) → ThermometersBracketed s scan
unfolding accepted_samples
thermometers_bracketed s scan Kav = accepted_bracketed s scan Kav
thermometers_bracketed s scan Wg = accepted_bracketed s scan Wg

pub fed_thermometers_bracketed : FedThermometersBracketed
fed_thermometers_bracketed table feeds =
    let s = settings_of ages table.bytes in
    all_of_any (ThermometersBracketed s) (thermometers_bracketed s) (rolled_by [] feeds)
