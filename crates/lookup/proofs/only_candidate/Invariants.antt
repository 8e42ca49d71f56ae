-- A count that fits is among 2^(16 - counter) counts from `first` on, of which `half` are half.
use Rattle.std.proofs.Common.{◌≡◌, ℕ, ◌+◌, ◌-◌, ◌/◌, ◌^◌, ◌<◌, ◌≤◌, true}
use Rattle.scene.specs.declared.Constants.{Constants}
use Rattle.scene.specs.BeforeBias.{before_bias}
use Rattle.lookup.specs.Lookup.{delivered_with}
use Rattle.lookup.proofs.only_candidate.Given as goal

-- every count that fits is one of `width` counts from `first` on
abbrev pub AmongFrom : Constants → (wanted first width : ℕ) → Type 0
AmongFrom k wanted first width = (count : ℕ) → count ≤ 65535 → delivered_with wanted (before_bias k count) ≡ true → (first ≤ count) × (count < first + width)

abbrev pub invariant-loop : goal.invariant-loop
invariant-loop l = record {
  half : l.half ≡ 2 ^ (16 - l.counter) / 2;
  room : l.first + 2 ^ (16 - l.counter) ≤ 65536;
  among : AmongFrom l.curve.constants l.wanted l.first (2 ^ (16 - l.counter));
}
