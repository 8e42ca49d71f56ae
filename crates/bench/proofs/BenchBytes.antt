-- The bench scan is of bytes, and so are the scans of the witnesses.
use Prim.Native.Nat.{ℕ, zero, suc, ◌+◌, ◌<◌, ◌≤◌}
use native.Mathlib.Omega.{arith}
use mathlib.Core.List.{List, ◌∷◌, ◌++◌}
use lib.Dec.{lit<, lit≤}
use lib.ListN.{get_or, take, drop}
use Rattle.lists.specs.Build.{cells}
use Rattle.lists.proofs.Elements.{zero_of_zeros, each_appended, each_of_take, each_of_drop}
use Rattle.fields.specs.Numbers.{u16_bytes, u32_bytes}
use Rattle.fields.specs.declared.Field.{Field}
use Rattle.fields.specs.Fields.{field_at, field_bytes, value_start}
use Rattle.instrument.specs.Instrument.{channels, positions, thermometers}
use Rattle.record.specs.Record.{record_layout, record_size, shelves_size}
use Rattle.bench.specs.Bench.{per_channel, instrument_bytes, shelf_bytes, bench_scan}
use Rattle.bench.specs.Witnesses.{numbered_scan, zeros}

abbrev IsByte : ℕ → Type 0
IsByte n = n < 256

abbrev AreBytes : List ℕ → Type 0
AreBytes l = (k : ℕ) → get_or l k 0 < 256

both_bytes : (xs ys : List ℕ) → AreBytes xs → AreBytes ys → AreBytes (xs ++ ys)
both_bytes xs ys first second = each_appended 0 IsByte (lit< tt) xs ys first second

u16_bytes_lem : (n : ℕ) → n ≤ 65535 → AreBytes (u16_bytes n)
u16_bytes_lem n small zero = omega arith
u16_bytes_lem n small (suc zero) = omega arith
u16_bytes_lem n small (suc (suc k)) = omega arith

u32_bytes_lem : (n : ℕ) → n < 0x1_0000_0000 → AreBytes (u32_bytes n)
u32_bytes_lem n small zero = omega arith
u32_bytes_lem n small (suc zero) = omega arith
u32_bytes_lem n small (suc (suc zero)) = omega arith
u32_bytes_lem n small (suc (suc (suc zero))) = omega arith
u32_bytes_lem n small (suc (suc (suc (suc k)))) = omega arith

field_bytes_lem : (f : Field) (value : List ℕ) → f.tag < 256 → f.size ≤ 65535 → AreBytes value → AreBytes (field_bytes f value)
field_bytes_lem f value tag size bytes = both_bytes (f.tag ∷ u16_bytes f.size) value head bytes
  where
    head : AreBytes (f.tag ∷ u16_bytes f.size)
    head zero = tag
    head (suc k) = u16_bytes_lem f.size size k

cells_bytes : (value : List ℕ) → AreBytes value → (n : ℕ) → AreBytes (cells (λ c. value) n)
unfolding cells
cells_bytes value bytes zero k = omega arith
cells_bytes value bytes (suc n) k = both_bytes (cells (λ c. value) n) value (cells_bytes value bytes n) bytes k

shelf_bytes_lem : AreBytes shelf_bytes
unfolding shelf_bytes
shelf_bytes_lem k = omega (arith, zero_of_zeros shelves_size k)

instrument_bytes_lem : AreBytes instrument_bytes
unfolding instrument_bytes
instrument_bytes_lem =
    both_bytes (u16_bytes 20000) (u16_bytes 0 ++ cells (λ i. u16_bytes 20000) thermometers) (u16_bytes_lem 20000 (lit≤ tt))
    (both_bytes (u16_bytes 0) (cells (λ i. u16_bytes 20000) thermometers) (u16_bytes_lem 0 (lit≤ tt)) (cells_bytes (u16_bytes 20000) (u16_bytes_lem 20000 (lit≤ tt)) thermometers))

per_channel_bytes : (n count : ℕ) → count ≤ 65535 → AreBytes (per_channel n count)
unfolding per_channel
per_channel_bytes n count small = cells_bytes (cells (λ i. u16_bytes count) n) (cells_bytes (u16_bytes count) (u16_bytes_lem count small) n) channels

-- field k of the record
abbrev field_of : ℕ → List ℕ → List ℕ
field_of k value = field_bytes (field_at record_layout k) value

pub bench_scan_bytes : (earth : ℕ) → earth ≤ 65535 → AreBytes (bench_scan earth)
unfolding bench_scan
bench_scan_bytes earth small =
    let shelves = field_of 5 shelf_bytes in
    let earths = field_of 4 (per_channel positions earth) in
    let cold = field_of 3 (per_channel 4 10000) in
    let warm = field_of 2 (per_channel 4 20000) in
    let instrument = field_of 1 instrument_bytes in
    both_bytes (field_of 0 (u32_bytes 7)) (instrument ++ (warm ++ (cold ++ (earths ++ shelves))))
    (field_bytes_lem (field_at record_layout 0) (u32_bytes 7) (lit< tt) (lit≤ tt) (u32_bytes_lem 7 (lit< tt)))
    (both_bytes instrument (warm ++ (cold ++ (earths ++ shelves))) (field_bytes_lem (field_at record_layout 1) instrument_bytes (lit< tt) (lit≤ tt) instrument_bytes_lem)
    (both_bytes warm (cold ++ (earths ++ shelves)) (field_bytes_lem (field_at record_layout 2) (per_channel 4 20000) (lit< tt) (lit≤ tt) (per_channel_bytes 4 20000 (lit≤ tt)))
    (both_bytes cold (earths ++ shelves) (field_bytes_lem (field_at record_layout 3) (per_channel 4 10000) (lit< tt) (lit≤ tt) (per_channel_bytes 4 10000 (lit≤ tt)))
    (both_bytes earths shelves (field_bytes_lem (field_at record_layout 4) (per_channel positions earth) (lit< tt) (lit≤ tt) (per_channel_bytes positions earth small))
    (field_bytes_lem (field_at record_layout 5) shelf_bytes (lit< tt) (lit≤ tt) shelf_bytes_lem)))))

pub numbered_bytes : (number earth : ℕ) → number < 0x1_0000_0000 → earth ≤ 65535 → AreBytes (numbered_scan number earth)
unfolding numbered_scan
numbered_bytes number earth low small =
    let at = value_start record_layout 0 in
    let rest = drop (at + 4) (bench_scan earth) in
    both_bytes (take at (bench_scan earth)) (u32_bytes number ++ rest)
    (each_of_take 0 IsByte (lit< tt) at (bench_scan earth) (bench_scan_bytes earth small))
    (both_bytes (u32_bytes number) rest (u32_bytes_lem number low) (each_of_drop 0 IsByte (lit< tt) (at + 4) (bench_scan earth) (bench_scan_bytes earth small)))

pub zeros_bytes : AreBytes zeros
unfolding zeros
zeros_bytes k = omega (arith, zero_of_zeros record_size k)
