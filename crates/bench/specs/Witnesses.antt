-- Concrete scans, lists of feeds and their answers, with which demand 3 is seen to hold of something.
use Rattle.std.specs.Prelude.{ℕ, List, [], ◌∷◌, ◌++◌, replicate}
use Rattle.lists.specs.Build.{cells, put}
use Rattle.fields.specs.Fields.{value_start}
use Rattle.instrument.specs.Instrument.{channels}
use Rattle.record.specs.Record.{record_layout, record_size}
use Rattle.fields.specs.Numbers.{u16_bytes, u32_bytes}
use Rattle.calibrator.specs.declared.Calibrator.{Calibrator}
use Rattle.calibrator.specs.Refusals.{Reply}
use Rattle.calibrator.specs.Feeding.{Feed, step}
use Rattle.bench.specs.Bench.{per_channel, bench_scan}

-- ---- scans

-- the bench scan with these warm counts, the value of field 0x03
abbrev pub with_warm : List ℕ → ℕ → List ℕ
with_warm warm earth = put (bench_scan earth) (value_start record_layout 2) warm

-- in every channel three warm counts are 20,000, and the fourth is this one
unfoldable pub rejected_scan : ℕ → List ℕ
unfolding cells bench_scan
rejected_scan fourth = with_warm (cells (λ c. cells (λ i. u16_bytes 20000) 3 ++ u16_bytes fourth) channels) 15000

-- warm and cold all 10,000
unfoldable pub flagged_scan : List ℕ
unfolding per_channel bench_scan
flagged_scan = with_warm (per_channel 4 10000) 15000

-- the bench scan with this number
unfoldable pub numbered_scan : (number earth : ℕ) → List ℕ
unfolding bench_scan
numbered_scan number earth = put (bench_scan earth) (value_start record_layout 0) (u32_bytes number)

-- no tag
unfoldable pub zeros : List ℕ
zeros = replicate record_size 0

-- ---- lists of feeds

-- a short record, and a scan with a rejected count
abbrev pub rejected_list : List ℕ → ℕ → List ℕ → List Feed
rejected_list short fourth buffer = record { scan = short; buffer = [] } ∷ record { scan = rejected_scan fourth; buffer = buffer } ∷ []

-- a feed for each refusal, and one that is accepted, after which the same record isn't above the last
abbrev pub one_of_each : List ℕ → List Feed
one_of_each buffer =
    record { scan = []; buffer = buffer }
    ∷ record { scan = zeros; buffer = buffer }
    ∷ record { scan = bench_scan 15000; buffer = [] }
    ∷ record { scan = bench_scan 15000; buffer = buffer }
    ∷ record { scan = bench_scan 15000; buffer = buffer }
    ∷ []

-- what is fed before the bench scan: a record that is refused, and the scan with the number before
abbrev pub feeds_before : (earth : ℕ) (buffer : List ℕ) → List Feed
feeds_before earth buffer = record { scan = zeros; buffer = buffer } ∷ record { scan = numbered_scan 6 earth; buffer = buffer } ∷ []

-- the answers of a run
unfoldable pub replies : Calibrator → List Feed → List Reply
replies c [] = []
replies c (feed ∷ more) = (step c feed).outcome.reply ∷ replies (step c feed).calibrator more
