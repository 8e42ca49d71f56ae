-- What serves each channel, and in which order values stand, in document 01's own numbers: channel n is counted from 1, so that it is place n - 1.
use Prim.Native.Nat.{ℕ, ◌-◌, ◌≤◌}
use native.Mathlib.Omega.{arith}
use mathlib.Core.Path.{◌≡◌, refl}
use borrow.Author.Tests.{lt-ltb, le-ltb}
use Rattle.instrument.specs.declared.Side.TheVariants.{Warm, Cold}
use Rattle.instrument.specs.declared.Target.TheVariants.{Kav, Wg}
use Rattle.instrument.specs.declared.Shelf.TheVariants.{KkaShelf, VShelf, WShelf, GShelf}
use Rattle.instrument.specs.Instrument.{size_of, first_of, target_of, shelf_of, side_place, target_place, shelf_place}

-- thermometers 1..8 are KAV, 9..15 WG
pub thermometers_of_targets : (first_of Kav ≡ 0) × (size_of Kav ≡ 8) × (first_of Wg ≡ 8) × (size_of Wg ≡ 7)
thermometers_of_targets = (refl, refl, refl, refl)

module _ (n : ℕ) where
  pub kav_serves : 1 ≤ n → n ≤ 15 → target_of (n - 1) ≡ Kav
  kav_serves low high = rw (lt-ltb (n - 1) 15 (omega arith))

  pub wg_serves : 16 ≤ n → target_of (n - 1) ≡ Wg
  wg_serves low = rw (le-ltb (n - 1) 15 (omega arith))

  pub kka_of_channel : 1 ≤ n → n ≤ 2 → shelf_of (n - 1) ≡ KkaShelf
  kka_of_channel low high = rw (lt-ltb (n - 1) 2 (omega arith))

  pub v_of_channel : 3 ≤ n → n ≤ 15 → shelf_of (n - 1) ≡ VShelf
  v_of_channel low high = rw (le-ltb (n - 1) 2 (omega arith), lt-ltb (n - 1) 15 (omega arith))

  pub g_of_channel : 17 ≤ n → shelf_of (n - 1) ≡ GShelf
  g_of_channel low = rw (le-ltb (n - 1) 2 (omega arith), le-ltb (n - 1) 15 (omega arith), le-ltb (n - 1) 16 (omega arith))

pub w_of_channel : shelf_of (16 - 1) ≡ WShelf
w_of_channel = refl

pub places_in_order : (side_place Warm ≡ 0) × (side_place Cold ≡ 1) × (target_place Kav ≡ 0) × (target_place Wg ≡ 1)
    × (shelf_place KkaShelf ≡ 0) × (shelf_place VShelf ≡ 1) × (shelf_place WShelf ≡ 2) × (shelf_place GShelf ≡ 3)
places_in_order = (refl, refl, refl, refl, refl, refl, refl, refl)
