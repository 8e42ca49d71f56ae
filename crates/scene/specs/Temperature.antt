-- Document 01, "Scenes", on whole numbers. The letters are document 01's; rise is Tw - Tc.
use Rattle.std.specs.Prelude.{Bool, ◌||◌, ℤ, pos, ◌+ℤ◌, ◌-ℤ◌, ◌*ℤ◌}
use Rattle.std.specs.Int.Signed.{lt_z}
use Rattle.integers.specs.Rounding.{r}

-- N = (12 × Wc × C - Ac) × Ww
abbrev pub N : (Ww Wc Ac C : ℤ) → ℤ
N Ww Wc Ac C = (pos 12 *ℤ Wc *ℤ C -ℤ Ac) *ℤ Ww

-- where N is negative or 4N exceeds 5D, the scene is outside
abbrev pub outside : (N D : ℤ) → Bool
outside n d = lt_z n (pos 0) || lt_z (pos 5 *ℤ d) (pos 4 *ℤ n)

-- X = r(65,536 N, D)
abbrev pub X : (N D : ℤ) → ℤ
X n d = r (pos 65536 *ℤ n) d

-- T = Tc + r(N(Tw - Tc), D) + r(4X(65,536 - X) × TNL, 2^32)
unfoldable pub temperature : (tc rise tnl D N : ℤ) → ℤ
temperature tc rise tnl d n = tc +ℤ r (n *ℤ rise) d +ℤ r (pos 4 *ℤ X n d *ℤ (pos 65536 -ℤ X n d) *ℤ tnl) (pos 4294967296)

-- the guard fails where T is below 1 or above 16,777,215
abbrev pub guard_fails : ℤ → Bool
guard_fails t = lt_z t (pos 1) || lt_z (pos 16777215) t

-- Request W1, scan bias (equation 30): the delivered temperature is c0 + r((65,536 + e) × T, 65,536)
unfoldable pub biased : (c0 e T : ℤ) → ℤ
biased c0 e t = c0 +ℤ r ((pos 65536 +ℤ e) *ℤ t) (pos 65536)
