-- What contracts see of an opened bias file: its bytes.
use Rattle.std.specs.Prelude.{ℕ, List}

pub record OpenedBias : Type 0 where
  pub bytes : List ℕ
