-- `numbers_of` meets its contract: each turn puts the numbers of a channel, all of which are small, right behind those before it.
use Rattle.std.proofs.Common.{◌≡◌, ℕ, ◌+◌, ◌*◌, ◌≤◌, List, ◌∷◌, ◌++◌, length, take, drop, sym, ap, ap₂, subst, ◌∙◌, arith, rules, add-one, length-append, length-take}
use Rattle.std.proofs.Math.Seq.{take_at, take_all}
use Rattle.lists.specs.Build.{put, cells}
use Rattle.instrument.specs.Instrument.{channels}
use Rattle.lastscan.specs.Ranges.{LastRange}
use Rattle.lastscan.specs.Numbers.{channel_numbers, last_numbers, numbers_of_channel, numbers_of}
use Rattle.lastscan.proofs.ChannelLaws.{length_channel_numbers}
use Rattle.lastscan.proofs.NumberLaws.{numbers_at}
use Rattle.lastscan.proofs.numbers_of.Goals as goal

take_to_put : {A : Type 0} (b v : List A) (at : ℕ) → at ≤ length b → take (at + length v) (put b at v) ≡ take at b ++ v
take_to_put b v at fits = take_at (take at b ++ v) (drop (at + length v) b) (at + length v) (simp (length-append, length-take) (omega arith))

pub loop-c-init : goal.loop-c-init
unfolding cells
loop-c-init c = record { long = search rules; numbers = search rules }

pub numbers_of_channel-requires : goal.numbers_of_channel-requires
numbers_of_channel-requires c =
    let range = subst LastRange c.in-Some.is c.requires in
    range.each c.loop-c.c (omega arith)

pub loop-c-preserved : goal.loop-c-preserved
unfolding cells
loop-c-preserved c =
    let at : ℕ = 1 + channel_numbers * c.loop-c.c in
    let f : ℕ → List ℕ = numbers_at c.in-Some.all in
    let long : length (f c.loop-c.c) ≡ channel_numbers = length_channel_numbers _ in
    let next : 1 + channel_numbers * (c.loop-c.c + 1) ≡ at + length (f c.loop-c.c) = omega arith in
    record {
      long = c.copy.auto.out ∙ c.loop-c.invariant.long;
      numbers =
          ap₂ take next (c.copy.ensures ∙ ap (put c.loop-c.out at) c.numbers_of_channel.ensures)
          ∙ take_to_put c.loop-c.out (f c.loop-c.c) at (omega arith)
          ∙ ap (λ (l : List ℕ). l ++ f c.loop-c.c) c.loop-c.invariant.numbers
          ∙ ap (λ (n : ℕ). 1 ∷ cells f n) (sym (add-one c.loop-c.c));
    }

pub returns : goal.returns
unfolding numbers_of
returns c =
    let last : c.loop-c.c ≡ channels = omega arith in
    sym (take_all last_numbers c.loop-c.out (omega arith))
    ∙ ap (λ (n : ℕ). take (1 + channel_numbers * n) c.loop-c.out) (sym last)
    ∙ c.loop-c.invariant.numbers
    ∙ ap (λ (n : ℕ). 1 ∷ cells (numbers_at c.in-Some.all) n) last
    ∙ sym (ap numbers_of c.in-Some.is)
