-- What contracts see of an opened table: its bytes.
use Rattle.std.specs.Prelude.{ℕ, List}

pub record OpenedTable : Type 0 where
  pub bytes : List ℕ
