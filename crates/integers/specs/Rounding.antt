-- Document 01, "Units and rounding", with r as request W6 has it. Every division of document 01 is `floor` or `r`.
use Rattle.std.specs.Prelude.{◌/◌, ◌%◌, Bool, cond, eqb, ℤ, pos, negsuc, nat_abs, ◌+ℤ◌, ◌-ℤ◌, ◌*ℤ◌}
use Rattle.std.specs.Int.Signed.{lt_z}

-- the floor of a / b, b above 0: the greatest whole number that is at most a / b
unfoldable pub floor : ℤ → ℤ → ℤ
floor (pos n) b = pos (n / nat_abs b)
floor (negsuc n) b = negsuc (n / nat_abs b)

abbrev pub is_even : ℤ → Bool
is_even n = eqb (nat_abs n % 2) 0

-- of a whole number and the one after it the even one
abbrev pub even_of : ℤ → ℤ
even_of n = cond (is_even n) n (n +ℤ pos 1)

-- r(a, b), b above 0: the nearest whole number to a / b, and of two equally near the even one. a / b is past / b above its floor, and
-- short / b below the whole number after it.
unfoldable pub r : ℤ → ℤ → ℤ
r a b =
    let low = floor a b in
    let past = a -ℤ b *ℤ low in
    let short = b -ℤ past in
    cond (lt_z past short) low (cond (lt_z short past) (low +ℤ pos 1) (even_of low))
