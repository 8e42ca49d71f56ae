-- The numbers up to channel c are those of the scan.
use Rattle.std.proofs.Common.{◌≡◌, ◌+◌, ◌*◌, ◌∷◌, length, take}
use Rattle.lists.specs.Build.{cells}
use Rattle.lastscan.specs.Numbers.{channel_numbers, last_numbers}
use Rattle.lastscan.proofs.NumberLaws.{numbers_at}
use Rattle.lastscan.proofs.numbers_of.Given as goal

abbrev pub invariant-loop-c : goal.invariant-loop-c
invariant-loop-c l = record {
  long : length l.out ≡ last_numbers;
  numbers : take (1 + channel_numbers * l.c) l.out ≡ (1 ∷ cells (numbers_at l.channel-items) l.c);
}
