-- `only_candidate` meets its contract: what is placed for the middle count tells in which half of the counts one that fits is.
use Rattle.std.proofs.Common.{◌≡◌, ℕ, suc, ◌+◌, ◌-◌, ◌*◌, ◌^◌, ◌<◌, ◌≤◌, ap, ◌∙◌, refl, arith}
use Rattle.std.proofs.Math.Nat.{pow-suc}
use Rattle.integers.proofs.Machine.{result_reads_back}
use Rattle.integers.proofs.Order.{le_z_true, le_z_false}
use Rattle.lookup.proofs.FitLaws.{fits_from, fits_below}
use Rattle.lookup.proofs.only_candidate.Goals as goal
use Rattle.lookup.proofs.only_candidate.Goals.{then-placed_units-from, else-placed_units-from}

power_halves : (i : ℕ) → i < 16 → 2 ^ (16 - i) ≡ 2 * 2 ^ (16 - (i + 1))
power_halves i below = let next : 16 - i ≡ suc (16 - (i + 1)) = omega arith in ap (λ n. 2 ^ n) next ∙ omega (arith, pow-suc 2 (16 - (i + 1)))

pub loop-init : goal.loop-init
loop-init c = record { half = refl; room = omega arith; among = λ count small fits. omega arith }

pub loop-preserved : goal.loop-preserved
loop-preserved c =
    let half : 2 ^ (16 - c.loop.counter) ≡ 2 * 2 ^ (16 - (c.loop.counter + 1)) = power_halves c.loop.counter (omega arith) in
    let placed_is = result_reads_back c.placed_units.result c.placed_units.type_inv ∙ c.placed_units.ensures in
    let wanted_is = result_reads_back c.from.result c.from.type_inv ∙ c.from.ensures in
    let middle : ℕ = c.loop.first + c.loop.half in
    elim c.if-placed_units-from.branch [
      | then-placed_units-from w ↦ record {
        half = omega arith;
        room = omega arith;
        among = λ count small fits.
            let from : middle ≤ count = fits_from c.args.curve.range c.args.wanted middle count fits (le_z_true (rw (placed_is, wanted_is) at w.if-placed_units-from.true)) in
            omega (arith, c.loop.invariant.among count small fits);
      }
      | else-placed_units-from w ↦ record {
        half = omega arith;
        room = omega arith;
        among = λ count small fits.
            let below : count < middle = fits_below c.args.curve.range c.args.wanted middle count fits (le_z_false (rw (placed_is, wanted_is) at w.if-placed_units-from.false)) in
            omega (arith, c.loop.invariant.among count small fits);
      }
    ]

pub returns : goal.returns
returns c count small fits =
    let end : 16 - c.loop.counter ≡ 0 = omega arith in
    let one : 2 ^ (16 - c.loop.counter) ≡ 1 = ap (λ n. 2 ^ n) end in
    omega (arith, c.loop.invariant.among count small fits)
