-- Document 01, "Lists of feeds": a plain roll says which records count, from the records and the buffer lengths alone.
use Rattle.std.specs.Prelude.{ℕ, List, [], ◌∷◌, length, Option, None, Some}
use Rattle.lists.specs.Tests.{Verdict, passes, fails}
use Rattle.record.specs.Record.{scan_number}
use Rattle.calibrator.specs.Refusals.{verdict}
use Rattle.calibrator.specs.Feeding.{Feed}

-- a plain roll: the records that count, the newest first. It begins empty.
abbrev pub Roll : Type 0
Roll = List (List ℕ)

-- the number of the roll's last record, if it has one
abbrev pub last_number : Roll → Option ℕ
last_number [] = None
last_number (scan ∷ roll) = Some (scan_number scan)

-- a feed meets 4 to 7 in order, 6 against the number of the roll's last record, and never while the roll is empty
abbrev pub verdict_at : Roll → Feed → Verdict
verdict_at roll feed = verdict (last_number roll) feed.scan (length feed.buffer)

-- if none applies, its record joins the roll's end; else the roll stays
abbrev pub joined_by : Verdict → Roll → Feed → Roll
joined_by passes roll feed = feed.scan ∷ roll
joined_by (fails n) roll feed = roll

abbrev pub joined : Roll → Feed → Roll
joined roll feed = joined_by (verdict_at roll feed) roll feed
