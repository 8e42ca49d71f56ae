-- `constants_inside` meets its contract: the value of each `&&` is what its two tests make together.
use Rattle.std.proofs.Common.{◌≡◌, ℕ, ◌*◌, Bool, true, false, ◌&&◌, leb, get_or, refl, sym, ◌∙◌, rules, tests}
use Rattle.fields.specs.Numbers.{signed}
use Rattle.thermometer.specs.Reading.{from_to}
use Rattle.table.specs.Ranges.{size_to}
use Rattle.lastscan.specs.Numbers.{wide, constants_inside}
use Rattle.lastscan.proofs.constants_inside.Goals as goal

pub returns-then-part-le780300 : goal.returns-then-part-le780300
unfolding constants_inside
returns-then-part-le780300 c = search (rules, tests)

-- one of five tests that fails decides, whatever the sixth says
five_fail_all : (a b c d e f : Bool) → (a && b && c && d && e) ≡ false → (a && (b && (c && (d && (e && (f && true)))))) ≡ false
five_fail_all false b c d e f fail = refl
five_fail_all true false c d e f fail = refl
five_fail_all true true false d e f fail = refl
five_fail_all true true true false e f fail = refl
five_fail_all true true true true e f fail = rw fail

pub returns-else-part-le780300 : goal.returns-else-part-le780300
unfolding constants_inside
returns-else-part-le780300 c =
    let at : ℕ → ℕ = λ i. get_or c.args.part.now i 0 in
    let tc : Bool = from_to 11166 43934 (at 1) in
    let rise : Bool = from_to 825032 1357512 (at 2) in
    let tnl : Bool = size_to 8192 (signed 0x8000_0000 (at 3)) in
    let d : Bool = from_to 1 (65535 * at 6) (wide (at 4) (at 5)) in
    let slope : Bool = leb (at 6) 780300 in
    let two : c.if-contains.value ≡ (tc && rise) = search (rules, tests) in
    let three : c.if-contains-2.value ≡ (c.if-contains.value && tnl) = search (rules, tests) in
    let four : c.if-size_to.value ≡ (c.if-contains-2.value && d) = search (rules, tests) in
    let five : c.if-d_inside.value ≡ (c.if-size_to.value && slope) = search (rules, tests) in
    let fail : (tc && rise && tnl && d && slope) ≡ false = cc in
    c.if-part-le780300.false ∙ sym (five_fail_all tc rise tnl d slope (leb (wide (at 7) (at 8)) 51136960500) fail)
