-- `numbers_inside` meets its contract: the chain asks each number at its place.
use Rattle.std.proofs.Common.{◌≡◌, ◌||◌, ◌&&◌, eqb, ltb, get_or, ap, ◌∙◌, rules, tests}
use Rattle.std.proofs.Math.Nat.{zero-add}
use Rattle.std.proofs.lemmas.Iterator.{YieldsList-from_slice}
use Rattle.std.proofs.lemmas.Iterator.Consumers.{YieldsList-from_enumerate}
use Rattle.std.proofs.lemmas.List.FromFn.{length-enumerate_from, get_or-enumerate_from}
use Rattle.lists.proofs.Chains.{every_from_yields}
use Rattle.thermometer.specs.Reading.{from_to}
use Rattle.state.specs.State.{numbers_inside}
use Rattle.state.proofs.numbers_inside.Goals as goal

pub returns : goal.returns
unfolding numbers_inside
returns c =
    let a = c.args in
    let numbers = a.numbers.now in
    every_from_yields {holds = λ i. eqb (get_or numbers i 0) 0 || (ltb i a.reached && from_to a.low a.high (get_or numbers i 0))} _ (0, 0) c.all.ensures.ran
    (YieldsList-from_enumerate (YieldsList-from_slice numbers (cc)) c.enumerate.ensures.count)
    (length-enumerate_from 0 numbers)
    (λ i x b q below at k.
    let there = at ∙ get_or-enumerate_from 0 numbers i (0, 0) below in
    let place : x.0 ≡ i = ap (λ p. p.0) there ∙ zero-add i in
    let number : x.1.now ≡ get_or numbers i 0 = ap (λ p. p.1) there in
    search (rules, tests, place, number))
