-- What a scan keeps, value by value, for compare/.
use Rattle.std.specs.Prelude.{ℕ, ◌-◌, ◌*◌, cond, ltb, get_or}
use Rattle.instrument.specs.Instrument.{channels}
use Rattle.acceptance.specs.declared.Scan.{Scan}

-- value k of what a scan keeps: the warm sides, the cold, the thermometers
abbrev pub kept_at : Scan → ℕ → ℕ
kept_at scan k =
    cond (ltb k channels) (get_or scan.warm k 0)
    (cond (ltb k (2 * channels)) (get_or scan.cold (k - channels) 0) (get_or scan.kelvin (k - 2 * channels) 0))
