-- The numbers of what is kept: how many there are, that they are read back and pass the test, and that numbers which pass it are what is
-- kept of a scan.
use Prim.Native.Nat.{ℕ, suc, ◌+◌, ◌*◌, ◌<◌}
use native.Mathlib.Nat.{mul_comm}
use native.Mathlib.Omega.{arith}
use mathlib.Core.Path.{◌≡◌, refl, sym, ap, subst, ◌∙◌}
use mathlib.Core.List.{List}
use mathlib.Core.Logic.{◌⊎◌, inl, inr, ⊎_elim}
use mathlib.Core.Bool.{Bool, true, false, and-eq-true_iff}
use lib.Dec.{eqb}
use lib.ListN.{length, get_or, take, drop}
use lib.Seq.{drop-drop, ext_get_or}
use Rattle.std.specs.Prelude.{None, Some, is_some}
use Rattle.lists.specs.Build.{tabulate, cells}
use Rattle.lists.specs.Count.{every}
use Rattle.lists.proofs.Cells.{length_cells, cell_of_cells}
use Rattle.lists.proofs.Elements.{each_of_drop, each_of_take}
use Rattle.lists.proofs.Every.{each_of_every, every_when_each}
use Rattle.lists.proofs.Tabulate.{length_tabulate, get_d_tabulate}
use Rattle.instrument.specs.Instrument.{channels}
use Rattle.product.specs.Scenes.{no_channel}
use Rattle.product.specs.Ranges.{ChannelRange}
use Rattle.scene.specs.Channel.{Channel}
use Rattle.lastscan.specs.LastScan.{LastScan}
use Rattle.lastscan.specs.Ranges.{ChannelsRange, LastRange}
use Rattle.lastscan.specs.Numbers.{channel_numbers, last_numbers, numbers_of_channel, numbers_of, numbers_part, channel_by, last_by, all_zero, channel_numbers_inside, last_inside, SmallPart}
use Rattle.lastscan.proofs.ChannelLaws.{channel_read_back, length_channel_numbers, channel_is_inside, each_is_zero, zeros_are_small, inside_in_channel_range, inside_is_small_part}

-- ---- the numbers of each channel

abbrev pub numbers_at : List Channel → ℕ → List ℕ
numbers_at all c = numbers_of_channel (get_or all c no_channel)

-- of numbers: channel c, and whether it passes the test
abbrev pub channel_at : List ℕ → ℕ → Channel
channel_at numbers c = channel_by (numbers_part numbers c)

abbrev inside_at : List ℕ → ℕ → Bool
inside_at numbers c = channel_numbers_inside (numbers_part numbers c)

module _ (all : List Channel) where
  length_kept_numbers : length (numbers_of (Some all)) ≡ last_numbers
  unfolding numbers_of
  length_kept_numbers = ap suc (length_cells (numbers_at all) channel_numbers (λ c. length_channel_numbers (get_or all c no_channel)) channels)

  part_of_numbers : (c : ℕ) → c < channels → numbers_part (numbers_of (Some all)) c ≡ numbers_at all c
  unfolding numbers_of
  part_of_numbers c below =
      ap (take channel_numbers) (sym (drop-drop (channel_numbers * c) 1 (numbers_of (Some all))))
      ∙ ap (λ n. take channel_numbers (drop n (cells (numbers_at all) channels))) (mul_comm channel_numbers c)
      ∙ cell_of_cells (numbers_at all) channel_numbers (λ k. length_channel_numbers (get_or all k no_channel)) channels c below

pub length_numbers : (last : LastScan) → length (numbers_of last) ≡ last_numbers
unfolding numbers_of
length_numbers None = refl
length_numbers (Some all) = length_kept_numbers all

-- ---- a scan in its ranges

module _ {all : List Channel} (range : ChannelsRange all) where
  abbrev read : ℕ → Channel
  read = channel_at (numbers_of (Some all))

  channels_read_back : tabulate read channels ≡ all
  channels_read_back =
      ext_get_or no_channel (tabulate read channels) all (length_tabulate read channels ∙ sym range.long)
      (λ c inside.
      let below : c < channels = omega (arith, length_tabulate read channels) in
      get_d_tabulate read channels c no_channel below ∙ ap channel_by (part_of_numbers all c below) ∙ channel_read_back (get_or all c no_channel) (range.each c below))

  kept_read_back : last_by (numbers_of (Some all)) ≡ Some all
  unfolding last_by numbers_of
  kept_read_back = ap Some channels_read_back

  kept_is_inside : last_inside true (numbers_of (Some all)) ≡ true
  unfolding last_inside numbers_of
  kept_is_inside =
      every_when_each (inside_at (numbers_of (Some all))) channels
      (λ c below. ap channel_numbers_inside (part_of_numbers all c below) ∙ channel_is_inside (get_or all c no_channel) (range.each c below))

nothing_read_back : last_by (numbers_of None) ≡ None
unfolding last_by numbers_of
nothing_read_back = refl

nothing_is_inside : (accepted : Bool) → last_inside accepted (numbers_of None) ≡ true
unfolding last_inside numbers_of all_zero every
nothing_is_inside accepted = refl

-- ---- the numbers are read back and pass the test

pub last_read_back : (last : LastScan) → LastRange last → last_by (numbers_of last) ≡ last
last_read_back None range = nothing_read_back
last_read_back (Some all) range = kept_read_back range

pub last_is_inside : (last : LastScan) → LastRange last → (accepted : Bool) → (is_some last ≡ true → accepted ≡ true) → last_inside accepted (numbers_of last) ≡ true
last_is_inside None range accepted where-accepted = nothing_is_inside accepted
last_is_inside (Some all) range accepted where-accepted = ap (λ b. last_inside b (numbers_of (Some all))) (where-accepted refl) ∙ kept_is_inside range

-- ---- numbers that pass the test

module _ (accepted : Bool) (numbers : List ℕ) where
  -- what it says of them
  abbrev Passed : Type 0
  Passed =
      ((eqb (get_or numbers 0 0) 1 ≡ true) × ((c : ℕ) → c < channels → inside_at numbers c ≡ true))
      ⊎ ((eqb (get_or numbers 0 0) 1 ≡ false) × ((c i : ℕ) → get_or (numbers_part numbers c) i 0 ≡ 0))

  passed : last_inside accepted numbers ≡ true → Passed
  unfolding last_inside
  passed inside = by_first (eqb (get_or numbers 0 0) 1) refl
    where
      by_first : (one : Bool) → eqb (get_or numbers 0 0) 1 ≡ one → Passed
      by_first true first =
          let tests = (and-eq-true_iff accepted (every (inside_at numbers) channels)).0 (rw first at inside) in
          inl (first, λ c below. each_of_every (inside_at numbers) channels c tests.1 below)
      by_first false first =
          let zeros = each_is_zero numbers (rw first at inside) in
          inr (first, λ c. each_of_take 0 (λ n. n ≡ 0) refl channel_numbers (drop (1 + channel_numbers * c) numbers) (each_of_drop 0 (λ n. n ≡ 0) refl (1 + channel_numbers * c) numbers zeros))

  module _ (long : length numbers ≡ last_numbers) (inside : last_inside accepted numbers ≡ true) where
    pub inside_in_range : LastRange (last_by numbers)
    unfolding last_by
    inside_in_range =
        ⊎_elim
        (λ kept. rw kept.0
        record {
          long = length_tabulate (channel_at numbers) channels;
          each = λ c below. subst ChannelRange (sym (get_d_tabulate (channel_at numbers) channels c no_channel below)) (inside_in_channel_range (numbers_part numbers c) (kept.1 c below));
        })
        (λ nothing. rw nothing.0 tt)
        (passed inside)

    pub inside_is_small : (c : ℕ) → c < channels → SmallPart (numbers_part numbers c)
    inside_is_small c below =
        ⊎_elim (λ kept. inside_is_small_part (numbers_part numbers c) (kept.1 c below)) (λ nothing. zeros_are_small (numbers_part numbers c) (nothing.1 c)) (passed inside)
