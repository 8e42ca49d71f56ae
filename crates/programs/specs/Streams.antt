-- Where each program writes. A product goes to standard output, and the last line of a program that ends early to standard error.
use Rattle.std.specs.Prelude.{Bool, true}
use Rattle.programs.specs.declared.Program.{Program}
use Rattle.programs.specs.declared.Program.TheVariants.{Listing, Calibrate}
use Rattle.programs.specs.declared.Stream.{Stream}
use Rattle.programs.specs.declared.Stream.TheVariants.{Output, Errors}

-- the line of a record, of a refused table or of a refused bias file
abbrev pub lines_to : Program → Stream
lines_to Listing = Output
lines_to Calibrate = Errors

-- whether standard output took all that was for it, by whether what went to a stream was written
abbrev pub output_took : Stream → (taken : Bool) → Bool
output_took Output taken = taken
output_took Errors taken = true
