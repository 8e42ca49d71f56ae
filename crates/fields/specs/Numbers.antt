-- Document 01, head: bytes are big-endian, signed fields are two's complement.
use Rattle.std.specs.Prelude.{ℕ, ◌+◌, ◌*◌, ◌/◌, ◌%◌, List, [], ◌∷◌, cond, ltb, ℤ, pos, ◌-ℤ◌, get_or}

-- ---- the number that starts at place i of a list of bytes
abbrev pub u16_at : List ℕ → ℕ → ℕ
u16_at s i = 256 * get_or s i 0 + get_or s (i + 1) 0

abbrev pub u32_at : List ℕ → ℕ → ℕ
u32_at s i = 65536 * u16_at s i + u16_at s (i + 2)

-- the number whose two's complement n is, where `half` is the first n that stands for a number below 0
abbrev pub signed : ℕ → ℕ → ℤ
signed half n = cond (ltb n half) (pos n) (pos n -ℤ pos (half + half))

abbrev pub i16_at : List ℕ → ℕ → ℤ
i16_at s i = signed 0x8000 (u16_at s i)

abbrev pub i32_at : List ℕ → ℕ → ℤ
i32_at s i = signed 0x8000_0000 (u32_at s i)

-- ---- a number as bytes
abbrev pub u16_bytes : ℕ → List ℕ
u16_bytes n = n / 256 ∷ n % 256 ∷ []

abbrev pub u32_bytes : ℕ → List ℕ
u32_bytes n = n / 16777216 ∷ n / 65536 % 256 ∷ n / 256 % 256 ∷ n % 256 ∷ []
