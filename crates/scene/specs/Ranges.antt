-- Document 01, "Scenes": the ranges that the functions keep to. A reader of the promises can leave this out.
use Rattle.std.specs.Prelude.{pos, ◌*ℤ◌, ◌≤ℤ◌, ◌<ℤ◌}
use Rattle.integers.specs.Bounds.{Bounded}
use Rattle.scene.specs.declared.Constants.{Constants}

-- what the constants of a channel with flag 0 under an accepted table keep to
pub record ConstantsRange (k : Constants) : Type 0 where
  pub tc_low : pos 11166 ≤ℤ k.tc
  pub tc_high : k.tc ≤ℤ pos 43934
  pub rise_low : pos 825032 ≤ℤ k.rise
  pub rise_high : k.rise ≤ℤ pos 1357512
  pub tnl : Bounded k.tnl (pos 8192)
  pub d_low : pos 0 <ℤ k.d
  pub d_high : k.d ≤ℤ pos 51136960500
  pub slope_low : pos 0 ≤ℤ k.slope
  pub slope_high : k.slope ≤ℤ pos 780300
  pub base_low : pos 0 ≤ℤ k.base
  pub base_high : k.base ≤ℤ pos 51136960500
  -- the mean warm count is at most 65,535 above the mean cold count
  pub reach : k.d ≤ℤ (pos 65535 *ℤ k.slope)
