-- Document 01, "Scenes", document 004, equations 25 to 29, and requests W1 and W4: the unrounded temperature as a fraction.
use Rattle.std.specs.Prelude.{ℤ, pos, ◌*ℤ◌}
use Rattle.integers.specs.Fractions.{Fraction, ◌/ᶠ◌, whole, ◌+ᶠ◌, ◌-ᶠ◌, ◌*ᶠ◌, ◌÷ᶠ◌}

-- the unrounded Tw leaves out r: sum of v p T over sum of v p, and b
abbrev pub unrounded_tw : (sumVPT sumVP b : ℤ) → Fraction
unrounded_tw sumVPT sumVP b = sumVPT /ᶠ sumVP +ᶠ whole b

-- E is Tc + x(Tw - Tc) + 4x(1 - x) TNL with Tw and, by request W4, TNL unrounded
abbrev pub E : (x tw tc tnl : Fraction) → Fraction
E x tw tc tnl = tc +ᶠ x *ᶠ (tw -ᶠ tc) +ᶠ whole (pos 4) *ᶠ x *ᶠ (whole (pos 1) -ᶠ x) *ᶠ tnl

-- Request W1: equation 30 over E, c0 + (1 + e / 65,536) E
abbrev pub biased_e : (c0 e : ℤ) → Fraction → Fraction
biased_e c0 e unrounded = whole c0 +ᶠ (whole (pos 1) +ᶠ e /ᶠ pos 65536) *ᶠ unrounded

-- ---- equations 25 to 29 one by one; cw and cc are the mean warm and cold counts, c is the scene's count
abbrev pub gain : (cw cc tw tc : Fraction) → Fraction
gain cw cc tw tc = (cw -ᶠ cc) ÷ᶠ (tw -ᶠ tc)

abbrev pub linear : (cw cc tw tc c : Fraction) → Fraction
linear cw cc tw tc c = tw +ᶠ (c -ᶠ cw) ÷ᶠ gain cw cc tw tc

abbrev pub relative : (cw cc tw tc c : Fraction) → Fraction
relative cw cc tw tc c = (linear cw cc tw tc c -ᶠ tc) ÷ᶠ (tw -ᶠ tc)

abbrev pub quadratic : (x tnl : Fraction) → Fraction
quadratic x tnl = whole (pos 4) *ᶠ x *ᶠ (whole (pos 1) -ᶠ x) *ᶠ tnl

abbrev pub corrected : (cw cc tw tc tnl c : Fraction) → Fraction
corrected cw cc tw tc tnl c = linear cw cc tw tc c +ᶠ quadratic (relative cw cc tw tc c) tnl

-- the mean warm or cold count: A / (12 W)
abbrev pub mean_count : (A W : ℤ) → Fraction
mean_count a w = a /ᶠ (pos 12 *ℤ w)
