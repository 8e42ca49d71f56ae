-- Document 01, "Listing program", and request W1: the lines as lists of bytes. For each record one line, `scan 7 delivered 2112 flags
-- 0000000000000000000000` (number, delivered scenes, 22 flags) or `refused 6`; for a refused table or bias file only `refused` and its number.
-- Each line ends in a line feed (decision 29).
use Prim.Native.Char.{code}
use Prim.Native.String as text
use Rattle.std.specs.Prelude.{ℕ, ◌+◌, ◌%◌, ◌^◌, List, [], ◌∷◌, ◌++◌, leb, get_or}
use Rattle.io.specs.Digits.{last_digits}
use Rattle.lists.specs.Build.{tabulate}
use Rattle.lists.specs.Count.{count}
use Rattle.lists.specs.Tests.{Verdict, passes, fails}
use Rattle.fields.specs.Numbers.{u32_at}
use Rattle.fields.specs.Fields.{value_start, value_in}
use Rattle.instrument.specs.Instrument.{channels}
use Rattle.product.specs.Product.{product_layout}
use Rattle.calibrator.specs.Refusals.{Reply, delivered, refused}
use Rattle.lines.specs.declared.Stop.{Stop}
use Rattle.lines.specs.declared.Stop.TheVariants.{InputUnread, OutputUnwritten}

-- the bytes of a text in ASCII: each character's number
abbrev pub ascii : text.String → List ℕ
ascii text.[] = []
ascii (text.◌∷◌ character more) = code character ∷ ascii more

-- how many decimal digits n takes: one, and one more for each of the powers 10, 100, 1,000 and so on that is at most n
unfoldable pub places : ℕ → ℕ
places n = 1 + count (λ k. leb (10 ^ (k + 1)) n) n

-- n's decimal digits, the most significant first
unfoldable pub decimal : ℕ → List ℕ
decimal n = last_digits 10 (places n) n

unfoldable pub refused_line : ℕ → List ℕ
refused_line number = ascii "refused " ++ decimal number ++ ascii "\n"

-- The flags of a product are 0 to 4 (decision 18), which are their own digits. The line of any other bytes shows their last digits.
unfoldable pub flag_digits : List ℕ → List ℕ
flag_digits flags = tabulate (λ c. 48 + get_or flags c 0 % 10) channels

unfoldable pub scan_line : ℕ → ℕ → List ℕ → List ℕ
scan_line number count flags =
    ascii "scan " ++ decimal number ++ ascii " delivered " ++ decimal count ++ ascii " flags " ++ flag_digits flags ++ ascii "\n"

-- of a product: the value of field 0x20 as a number, and the value of field 0x21
abbrev pub number_in : List ℕ → ℕ
number_in product = u32_at product (value_start product_layout 0)

abbrev pub flags_in : List ℕ → List ℕ
flags_in product = value_in product_layout 1 product

-- the line of a feed's answer and the product that it left
unfoldable pub reply_line : Reply → List ℕ → List ℕ
reply_line (delivered n) product = scan_line (number_in product) n (flags_in product)
reply_line (refused n) product = refused_line n

-- the line of an opening, of a table or of a bias file; an accepted one has none
unfoldable pub opening_line : Verdict → List ℕ
opening_line passes = []
opening_line (fails number) = refused_line number

-- the last line of a program that ends early, on standard error
unfoldable pub stop_line : Stop → List ℕ
stop_line InputUnread = ascii "stopped: standard input cannot be read\n"
stop_line OutputUnwritten = ascii "stopped: standard output cannot be written\n"
