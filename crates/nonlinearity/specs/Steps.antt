-- What the private function keeps to. A reader of the promises can leave this out.
use Rattle.std.specs.Prelude.{pos}
use Rattle.integers.specs.Bounds.{Bounded}
use Rattle.table.specs.declared.ShelfPair.{ShelfPair}

pub record ShelfPairRange (p : ShelfPair) : Type 0 where
  pub shelf : Bounded p.shelf (pos 245760)
  pub tnl : Bounded p.tnl (pos 8192)
