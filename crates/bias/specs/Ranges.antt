-- What an accepted bias file keeps to. A reader of the promises can leave this out.
use Rattle.std.specs.Prelude.{ℕ, ◌<◌, List, pos, neg_ℤ, ◌≤ℤ◌}
use Rattle.integers.specs.Bounds.{Bounded}
use Rattle.instrument.specs.Instrument.{positions}
use Rattle.bias.specs.Bias.{c0_in, e_in}

-- c0 is from -4,096 to 4,096, and e from -32,768 to 32,767
pub record PairRange (part : List ℕ) (i : ℕ) : Type 0 where
  pub c0 : Bounded (c0_in part i) (pos 4096)
  pub e_low : neg_ℤ (pos 32768) ≤ℤ e_in part i
  pub e_high : e_in part i ≤ℤ pos 32767

abbrev pub PartRange : List ℕ → Type 0
PartRange part = (i : ℕ) → i < positions → PairRange part i
