-- Behind a line stand zeros, and behind a longer one fewer of them.
use Prim.Native.Nat.{ℕ, ◌+◌, ◌-◌}
use native.Mathlib.Omega.{arith}
use mathlib.Core.Path.{◌≡◌, sym, ap, ◌∙◌}
use mathlib.Core.List.{List}
use lib.ListN.{drop, replicate}
use Rattle.std.proofs.lemmas.List.{drop-drop, drop-replicate}
use Rattle.lines.specs.declared.TheConstants.{LONGEST}

pub fewer_zeros : (size more : ℕ) (bytes : List ℕ) → drop size bytes ≡ replicate (LONGEST - size) 0 → drop (size + more) bytes ≡ replicate (LONGEST - (size + more)) 0
fewer_zeros size more bytes zeros =
    let left : LONGEST - size - more ≡ LONGEST - (size + more) = omega arith in
    sym (drop-drop more size bytes) ∙ ap (drop more) zeros ∙ drop-replicate more (LONGEST - size) 0 ∙ ap (λ (n : ℕ). replicate n 0) left
