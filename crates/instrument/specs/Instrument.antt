-- Document 01, "The table" and "The scan record": what the instrument has. Thermometers, channels and positions are counted from 0 here:
-- thermometer i is document 01's number i + 1, and so is channel c.
use Rattle.std.specs.Prelude.{ℕ, cond, ltb}
use Rattle.instrument.specs.declared.Side.{Side}
use Rattle.instrument.specs.declared.Side.TheVariants.{Warm, Cold}
use Rattle.instrument.specs.declared.Target.{Target}
use Rattle.instrument.specs.declared.Target.TheVariants.{Kav, Wg}
use Rattle.instrument.specs.declared.Shelf.{Shelf}
use Rattle.instrument.specs.declared.Shelf.TheVariants.{KkaShelf, VShelf, WShelf, GShelf}

abbrev pub thermometers : ℕ
thermometers = 15

abbrev pub channels : ℕ
channels = 22

-- the scenes of a channel in one scan
abbrev pub positions : ℕ
positions = 96

-- thermometers 1..8 are KAV and 9..15 are WG: how many a target has, and the first of them
abbrev pub size_of : Target → ℕ
size_of Kav = 8
size_of Wg = 7

abbrev pub first_of : Target → ℕ
first_of Kav = 0
first_of Wg = size_of Kav

-- KAV serves channels 1..15, WG 16..22
abbrev pub kav_channels : ℕ
kav_channels = 15

abbrev pub target_of : ℕ → Target
target_of c = cond (ltb c kav_channels) Kav Wg

-- Request W4: the receiver shelves; channels 1 and 2 use KKA, 3 to 15 V, 16 W, 17 to 22 G
abbrev pub shelves : ℕ
shelves = 4

abbrev pub shelf_of : ℕ → Shelf
shelf_of c = cond (ltb c 2) KkaShelf (cond (ltb c 15) VShelf (cond (ltb c 16) WShelf GShelf))

-- where both have a value, warm stands before cold, and KAV before WG; the shelves stand in the order KKA, V, W, G
abbrev pub side_place : Side → ℕ
side_place Warm = 0
side_place Cold = 1

abbrev pub target_place : Target → ℕ
target_place Kav = 0
target_place Wg = 1

abbrev pub shelf_place : Shelf → ℕ
shelf_place KkaShelf = 0
shelf_place VShelf = 1
shelf_place WShelf = 2
shelf_place GShelf = 3
