-- What the C functions leave behind their pointers.
use Rattle.std.specs.Prelude.{ℕ, List, length, ℤ}
use Rattle.lists.specs.Build.{tabulate}
use Rattle.lists.specs.Tests.{Verdict, passes, fails}
use Rattle.thermometer.specs.Reading.{Result, units, not_read}
use Rattle.calibrator.specs.declared.Calibrator.{Calibrator}
use Rattle.calibrator.specs.Feeding.{fresh_of}
use Rattle.feeds.specs.FeedList.{Lent, answer_at, buffers_at}

-- version 6.1.0
abbrev pub library_version : ℕ
library_version = 60100

-- t, or what stood there before where there is none
abbrev pub units_or : Result → ℤ → ℤ
units_or (units t) before = t
units_or (not_read n) before = before

-- ---- a list fed to a fresh calibrator under this table and this bias file; a refusal of either writes nothing
abbrev pub fresh_under : (table bias : List ℕ) → Calibrator
fresh_under table bias = fresh_of (record { bytes = table }) (record { bytes = bias })

abbrev pub answers_by : Verdict → (table bias : List ℕ) → Lent → (answers : List ℕ) → List ℕ
answers_by passes table bias lent answers = tabulate (answer_at (fresh_under table bias) lent) (length answers)
answers_by (fails number) table bias lent answers = answers

abbrev pub buffers_by : Verdict → (table bias : List ℕ) → Lent → ℕ → List ℕ
buffers_by passes table bias lent n = buffers_at (fresh_under table bias) lent n
buffers_by (fails number) table bias lent n = lent.buffers
