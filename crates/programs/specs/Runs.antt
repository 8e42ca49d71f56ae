-- The run of a program: which calibrator it begins with, by the verdicts on the two files, and that the calibrator after each turn is the one
-- after the records read so far. No contract can say which bytes a call of std has read: it is said that there are such records.
use Rattle.std.specs.Prelude.{ℕ, ◌<◌, ◌≤◌, ◌≡◌, Bool, ◌⊎◌, List, length, take}
use Rattle.lists.specs.All.{All}
use Rattle.lists.specs.Tests.{Verdict, passes, fails}
use Rattle.table.specs.declared.Table.{Table}
use Rattle.table.specs.Opening.{opening}
use Rattle.bias.specs.Opening.{bias_opening}
use Rattle.record.specs.Record.{record_size}
use Rattle.calibrator.specs.declared.Calibrator.{Calibrator}
use Rattle.calibrator.specs.Feeding.{Feed, fresh_of, calibrator_after}
use Rattle.lines.specs.declared.Stop.TheVariants.{InputUnread}
use Rattle.lines.specs.Steps.{empty_product}
use Rattle.programs.specs.declared.Next.{Next}
use Rattle.programs.specs.declared.Next.TheVariants.{More, Ended, Stopped}
use Rattle.programs.specs.declared.Turned.{Turned}
use Rattle.programs.specs.Steps.{next_after, turned_of}

-- how many bytes were read, by what comes after them: a whole record or a shorter rest
abbrev pub ReadTo : ℕ → Next → Type 0
ReadTo size More = size ≡ record_size
ReadTo size Ended = size < record_size
ReadTo size (Stopped stop) = (size < record_size) × (stop ≡ InputUnread)

-- ---- one turn

-- the turn of calibrator c with bytes that were read, whether standard output took all or not
pub record TurnOf (c : Calibrator) (scan : List ℕ) (next : Next) (t : Turned) : Type 0 where
  pub complete : Bool
  pub turned_is : t ≡ turned_of c scan next complete

-- the same with what was read into the front of a buffer
pub record TurnIn (c : Calibrator) (buffer : List ℕ) (t : Turned) : Type 0 where
  pub size : ℕ
  pub next : Next
  pub fits : size ≤ length buffer
  pub read : ReadTo size next
  pub turn : TurnOf c (take size buffer) next t

-- ---- a run

-- a whole record, with the program's own buffer
pub record WholeFeed (feed : Feed) : Type 0 where
  pub whole : length feed.scan ≡ record_size
  pub buffer_is : feed.buffer ≡ empty_product

-- how many turns a run has at most: no stream has as many records
abbrev pub most_turns : ℕ
most_turns = 18446744073709551615

-- n turns that were not the last, from the calibrator `first` to the calibrator c: as many whole records were fed
pub record Reached (first : Calibrator) (n : ℕ) (c : Calibrator) : Type 0 where
  pub feeds : List Feed
  pub many : length feeds ≡ n
  pub whole : All WholeFeed feeds
  pub calibrator_is : c ≡ calibrator_after first feeds

-- the last turn
pub record LastTurn (c : Calibrator) (t : Turned) : Type 0 where
  pub buffer : List ℕ
  pub turn : TurnIn c buffer t
  pub ends : t.next ≡ More → ⊥

-- a whole run: turns, and then the last one; or as many turns as a run has
pub record Ran (first : Calibrator) (t : Turned) : Type 0 where
  pub turns : ℕ
  pub before : Calibrator
  pub reached : Reached first turns before
  pub last : LastTurn before t ⊎ ((turns ≡ most_turns) × (t ≡ record { next = More; calibrator = before }))

-- ---- by the verdicts on the files

-- nothing was fed: the line of a refused file alone
abbrev pub Unfed : Next → Type 0
Unfed next = (complete : Bool) × (next ≡ next_after Ended complete)

-- under an accepted table: a bias file of these bytes, and how the program ends
abbrev pub UnderBias : Verdict → (table : Table) → (bias : List ℕ) → Next → Type 0
UnderBias passes table bias next = (c : Calibrator) × Ran (fresh_of table (record { bytes = bias })) (record { next = next; calibrator = c })
UnderBias (fails n) table bias next = Unfed next

-- a table of these bytes; only under an accepted one a bias file is read
abbrev pub UnderTable : Verdict → (table : List ℕ) → Next → Type 0
UnderTable passes table next = (bias : List ℕ) × UnderBias (bias_opening bias) (record { bytes = table }) bias next
UnderTable (fails n) table next = Unfed next

-- some bytes are read as the table
abbrev pub UnderFiles : Next → Type 0
UnderFiles next = (table : List ℕ) × UnderTable (opening table) table next
