-- The lines that document 01 shows.
use Prim.Native.Nat.{ℕ, ◌+◌, ◌%◌, ◌<◌, ◌≤◌}
use native.Mathlib.Omega.{arith}
use mathlib.Core.Path.{◌≡◌, sym, ap, ap₂, ◌∙◌}
use mathlib.Core.List.{List, ◌++◌}
use lib.ListN.{length, get_or, drop, replicate, length-replicate, get_or-replicate}
use lib.Seq.{get_or-take, get_or-drop}
use Rattle.lists.specs.Build.{tabulate}
use Rattle.lists.proofs.Tabulate.{tabulate_same}
use Rattle.instrument.specs.Instrument.{channels}
use Rattle.scene.specs.Channel.{channel_flag}
use Rattle.product.specs.Scenes.{no_channel}
use Rattle.product.specs.Product.{product_of, product_size}
use Rattle.product.proofs.Bytes.{number_in_product, flag_in_product}
use Rattle.record.specs.Record.{earth_counts}
use Rattle.calibrator.specs.Feeding.{Outcome}
use Rattle.bench.specs.Bench.{bench_scan, bench_calibrator, bench_channel}
use Rattle.bench.proofs.FirstFeed.{delivers_t}
use Rattle.bench.proofs.BenchFeed.{bench_outcome, bench_reply}
use Rattle.lines.specs.Lines.{ascii, decimal, flag_digits, refused_line, scan_line, number_in, flags_in, reply_line}
use Rattle.lines.specs.Steps.{empty_product, listed_line}
use Rattle.lines.proofs.DecimalLaws.{digits_are_decimal}

six : decimal 6 ≡ ascii "6"
six = sym (digits_are_decimal 6 1 (omega arith, omega arith, λ more. absurd (omega arith)))

seven : decimal 7 ≡ ascii "7"
seven = sym (digits_are_decimal 7 1 (omega arith, omega arith, λ more. absurd (omega arith)))

all_delivered : decimal 2112 ≡ ascii "2112"
all_delivered = sym (digits_are_decimal 2112 4 (omega arith, omega arith, λ more. omega arith))

pub refused_six : refused_line 6 ≡ ascii "refused 6\n"
unfolding refused_line
refused_six = ap (λ (digits : List ℕ). ascii "refused " ++ digits ++ ascii "\n") six

flags_zero : (flags : List ℕ) → ((c : ℕ) → c < channels → get_or flags c 0 ≡ 0) → flag_digits flags ≡ ascii "0000000000000000000000"
unfolding flag_digits tabulate
flags_zero flags zeros = tabulate_same (λ c. 48 + get_or flags c 0 % 10) (λ c. 48) channels (λ c below. ap (λ (flag : ℕ). 48 + flag % 10) (zeros c below))

bench_line : (flags : List ℕ) → ((c : ℕ) → c < channels → get_or flags c 0 ≡ 0)
    → scan_line 7 2112 flags ≡ ascii "scan 7 delivered 2112 flags 0000000000000000000000\n"
unfolding scan_line
bench_line flags zeros =
    ap₂ (λ (number delivered : List ℕ). ascii "scan " ++ number ++ ascii " delivered " ++ delivered ++ ascii " flags " ++ flag_digits flags ++ ascii "\n")
    seven all_delivered
    ∙ ap (λ (digits : List ℕ). ascii "scan 7 delivered 2112 flags " ++ digits ++ ascii "\n") (flags_zero flags zeros)

-- ---- the bench scan

-- its product, and what comes behind
abbrev bench_product : List ℕ
bench_product = product_of delivers_t 7 (replicate channels bench_channel) (earth_counts (bench_scan 15000)) ++ drop product_size empty_product

number_listed : number_in bench_product ≡ 7
number_listed = number_in_product delivers_t 7 _ _ _

flag_listed : (c : ℕ) → c < channels → get_or (flags_in bench_product) c 0 ≡ 0
flag_listed c below =
    get_or-take channels (drop 10 bench_product) c 0 below
    ∙ get_or-drop 10 bench_product c 0
    ∙ flag_in_product delivers_t 7 _ _ _ c below
    ∙ ap channel_flag (get_or-replicate channels c bench_channel no_channel below)

pub bench_listing : listed_line bench_calibrator (bench_scan 15000) ≡ ascii "scan 7 delivered 2112 flags 0000000000000000000000\n"
unfolding listed_line empty_product reply_line
bench_listing =
    let room : product_size ≤ length empty_product = omega (arith, length-replicate {A = ℕ} product_size 0) in
    ap₂ reply_line (bench_reply empty_product room) (ap (λ (o : Outcome). o.buffer) (bench_outcome 15000 empty_product room))
    ∙ ap (λ (number : ℕ). scan_line number 2112 (flags_in bench_product)) number_listed
    ∙ bench_line (flags_in bench_product) flag_listed
