-- Whether bytes are a state, by the tests that led to the answer; and what is read from a state.
use Prim.Native.Nat.{ℕ, ◌≤◌}
use native.Mathlib.Omega.{arith}
use mathlib.Core.Path.{◌≡◌, refl, sym, ap, ap₂, subst, ◌∙◌}
use mathlib.Core.List.{List, [], ◌∷◌}
use mathlib.Core.Bool.{Bool, true, false, ◌&&◌, false≢true, and-eq-true_iff}
use lib.Dec.{eqb, leb}
use lib.ListN.{length, get_or}
use borrow.Author.Tests.{le-leb, leb-true, ne_eqb}
use Rattle.std.specs.Prelude.{Result, Ok, Err, is_err, Option, None, Some, is_some}
use Rattle.std.specs.Result.{result_ok, IfOk}
use Rattle.std.proofs.lemmas.Option.{same_Some}
use Rattle.lists.specs.Count.{all_hold}
use Rattle.lists.specs.Tests.{Verdict, passes, number_of}
use Rattle.lists.proofs.Every.{each_of_all}
use Rattle.lists.proofs.Tabulate.{length_tabulate}
use Rattle.table.specs.declared.Table.{Table}
use Rattle.table.specs.declared.Refusal.{Refusal}
use Rattle.table.specs.declared.Refusal.TheVariants.{LengthWrong, FieldWrong, ValueOutside}
use Rattle.table.specs.Opening.{verdict_of, opening}
use Rattle.bias.specs.declared.Bias.{Bias}
use Rattle.bias.specs.Opening.{bias_opening, both_opening}
use Rattle.bias.proofs.OpeningLaws.{both_by_table, both_by_bias, both_pass}
use Rattle.window.specs.declared.Window.{Window}
use Rattle.lastscan.specs.LastScan.{LastScan}
use Rattle.lastscan.specs.Numbers.{last_numbers, last_inside}
use Rattle.calibrator.specs.Steps.{calibrator_of, calibrator_with}
use Rattle.state.specs.State.{state_size, numbers_at, table_in, bias_in, window_in, last_numbers_in, last_in, calibrator_in, number_is_right, window_inside, front_is_right, is_state}
use Rattle.state.specs.Steps.{values_inside}

-- ---- what the answer of an opening tells

-- a refusal's number is not 0
refused_has_number : {Opened : Type 0} (answer : Result Opened Refusal) → ◌≡◌ {A = Option Opened} None (result_ok answer) → number_of (verdict_of answer) ≡ 0 → ⊥
refused_has_number (Ok opened) none zero = cc
refused_has_number (Err LengthWrong) none zero = omega (arith, zero)
refused_has_number (Err FieldWrong) none zero = omega (arith, zero)
refused_has_number (Err ValueOutside) none zero = omega (arith, zero)

err_is_no_ok : {Opened : Type 0} (answer : Result Opened Refusal) → is_err answer ≡ true → ◌≡◌ {A = Option Opened} None (result_ok answer)
err_is_no_ok (Ok opened) err = absurd (false≢true err)
err_is_no_ok (Err refusal) err = refl

pub opened_passes : {Opened : Type 0} (answer : Result Opened Refusal) {verdict : Verdict} {opened : Opened} → verdict_of answer ≡ verdict → Some opened ≡ result_ok answer → verdict ≡ passes
opened_passes (Ok opened) is some = sym is
opened_passes (Err refusal) is some = cc

-- what an opening's clause says of what it opened
pub opened_has : {Opened : Type 0} (answer : Result Opened Refusal) (Has : Opened → Type 0) {opened : Opened} → IfOk answer Has → Some opened ≡ result_ok answer → Has opened
opened_has (Ok other) Has has some = subst Has (same_Some _ _ (sym some)) has
opened_has (Err refusal) Has has some = cc

-- ---- by the tests

pub and_fails : (a : Bool) {b : Bool} → b ≡ false → (a && b) ≡ false
and_fails true wrong = wrong
and_fails false wrong = refl

module _ (state : List ℕ) where
  abbrev tests : List Bool
  tests =
      leb state_size (length state) ∷ front_is_right state ∷ eqb (number_of (both_opening (table_in state) (bias_in state))) 0 ∷ number_is_right state ∷ window_inside (window_in state)
      ∷ last_inside (is_some (window_in state).last) (last_numbers_in state) ∷ []

  pub is_state_by_tests : is_state state ≡ all_hold tests
  unfolding is_state
  is_state_by_tests = refl

  -- a test that fails, by its place
  pub no_state_by : (i : ℕ) → get_or tests i true ≡ false → is_state state ≡ false
  no_state_by i fails = is_state_by_tests ∙ by_answer (all_hold tests) refl
    where
      by_answer : (b : Bool) → all_hold tests ≡ b → b ≡ false
      by_answer true all = absurd (false≢true (sym fails ∙ each_of_all tests all i))
      by_answer false some = refl

  pub wrong_front_is_no_state : front_is_right state ≡ false → is_state state ≡ false
  wrong_front_is_no_state wrong = no_state_by 1 wrong

  refused_is_no_state : {n : ℕ} → n ≡ number_of (both_opening (table_in state) (bias_in state)) → (n ≡ 0 → ⊥) → is_state state ≡ false
  refused_is_no_state is some = no_state_by 2 (ne_eqb _ 0 (λ none. some (is ∙ none)))

  module _ (opened : Result Table Refusal) (opens : verdict_of opened ≡ opening (table_in state)) where
    pub refused_table_is_no_state : None ≡ result_ok opened → is_state state ≡ false
    refused_table_is_no_state none =
        let some = refused_has_number opened none in
        refused_is_no_state (both_by_table (table_in state) (bias_in state) (ap number_of opens) some) some

    module _ (second : Result Bias Refusal) (also : verdict_of second ≡ bias_opening (bias_in state)) {table : Table} (some : Some table ≡ result_ok opened) where
      pub refused_bias_is_no_state : None ≡ result_ok second → is_state state ≡ false
      refused_bias_is_no_state none =
          refused_is_no_state (both_by_bias (table_in state) (bias_in state) (opened_passes opened opens some) (ap number_of also)) (refused_has_number second none)

      pub both_opened : {bias : Bias} → Some bias ≡ result_ok second → both_opening (table_in state) (bias_in state) ≡ passes
      both_opened more = both_pass (table_in state) (bias_in state) (opened_passes opened opens some) (opened_passes second also more)

  pub state_by : state_size ≤ length state → front_is_right state ≡ true → both_opening (table_in state) (bias_in state) ≡ passes → number_is_right state ≡ true
      → window_inside (window_in state) ≡ true → last_inside (is_some (window_in state).last) (last_numbers_in state) ≡ true → is_state state ≡ true
  unfolding is_state
  state_by long right passed number window last = rw (le-leb state_size (length state) long, right, passed, number, window, last)

  -- by the answers of the openings
  pub table_in_error : (opened : Result Table Refusal) → verdict_of opened ≡ opening (table_in state) → is_err opened ≡ true → is_state state ≡ false
  table_in_error opened opens err = refused_table_is_no_state opened opens (err_is_no_ok opened err)

  pub bias_in_error : (opened : Result Table Refusal) → verdict_of opened ≡ opening (table_in state) → is_err opened ≡ false
      → (second : Result Bias Refusal) → verdict_of second ≡ bias_opening (bias_in state) → is_err second ≡ true → is_state state ≡ false
  bias_in_error (Ok table) opens right second also err = refused_bias_is_no_state (Ok table) opens second also refl (err_is_no_ok second err)
  bias_in_error (Err refusal) opens right second also err = absurd (false≢true (sym right))

  pub none_in_error : (opened : Result Table Refusal) → verdict_of opened ≡ opening (table_in state) → is_err opened ≡ false
      → (second : Result Bias Refusal) → verdict_of second ≡ bias_opening (bias_in state) → is_err second ≡ false → both_opening (table_in state) (bias_in state) ≡ passes
  none_in_error (Ok table) opens right (Ok bias) also fine = both_opened (Ok table) opens (Ok bias) also refl refl
  none_in_error (Err refusal) opens right second also fine = absurd (false≢true (sym right))
  none_in_error (Ok table) opens right (Err refusal) also fine = absurd (false≢true (sym fine))

  -- the last three tests in one
  pub wrong_values_are_no_state : values_inside state ≡ false → is_state state ≡ false
  unfolding values_inside
  wrong_values_are_no_state wrong = by_number (number_is_right state) refl
    where
      numbers : Bool
      numbers = last_inside (is_some (window_in state).last) (last_numbers_in state)

      by_window : (inside : Bool) → window_inside (window_in state) ≡ inside → number_is_right state ≡ true → is_state state ≡ false
      by_window false is right = no_state_by 4 is
      by_window true is right = no_state_by 5 (sym (ap₂ (λ a b. a && (b && numbers)) right is) ∙ wrong)

      by_number : (right : Bool) → number_is_right state ≡ right → is_state state ≡ false
      by_number false is = no_state_by 3 is
      by_number true is = by_window (window_inside (window_in state)) refl is

  module _ (right : values_inside state ≡ true) where
    values_are_right : (number_is_right state ≡ true) × ((window_inside (window_in state) ≡ true) × (last_inside (is_some (window_in state).last) (last_numbers_in state) ≡ true))
    unfolding values_inside
    values_are_right =
        let tests = (and-eq-true_iff _ _).0 right in
        (tests.0, (and-eq-true_iff _ _).0 tests.1)

    pub window_is_right : window_inside (window_in state) ≡ true
    window_is_right = values_are_right.1.0

    pub last_is_right : last_inside (is_some (window_in state).last) (last_numbers_in state) ≡ true
    last_is_right = values_are_right.1.1

    pub state_by_values : state_size ≤ length state → front_is_right state ≡ true → both_opening (table_in state) (bias_in state) ≡ passes → is_state state ≡ true
    state_by_values long front passed = state_by long front passed values_are_right.0 window_is_right last_is_right

  -- where the other tests hold, the values decide
  pub by_values : state_size ≤ length state → front_is_right state ≡ true → both_opening (table_in state) (bias_in state) ≡ passes → values_inside state ≡ is_state state
  by_values long front passed = decided (values_inside state) refl
    where
      decided : (right : Bool) → values_inside state ≡ right → values_inside state ≡ is_state state
      decided true is = is ∙ sym (state_by_values is long front passed)
      decided false is = is ∙ sym (wrong_values_are_no_state is)

  pub state_is_long : is_state state ≡ true → state_size ≤ length state
  state_is_long right = leb-true state_size (length state) (each_of_all tests (sym is_state_by_tests ∙ right) 0)

  pub state_keeps_window : is_state state ≡ true → window_inside (window_in state) ≡ true
  state_keeps_window right = each_of_all tests (sym is_state_by_tests ∙ right) 4

  pub state_keeps_last : is_state state ≡ true → last_inside (is_some (window_in state).last) (last_numbers_in state) ≡ true
  state_keeps_last right = each_of_all tests (sym is_state_by_tests ∙ right) 5

-- ---- what is read from a state

module _ (state : List ℕ) where
  pub length_last_numbers : length (last_numbers_in state) ≡ last_numbers
  unfolding numbers_at
  length_last_numbers = length_tabulate _ last_numbers

  pub calibrator_read : {table : Table} {bias : Bias} {window : Window} {last : LastScan} → table.bytes ≡ table_in state → bias.bytes ≡ bias_in state → window ≡ window_in state → last ≡ last_in state
      → calibrator_of table bias window last ≡ calibrator_in state
  calibrator_read {window = window} {last = last} table-is bias-is window-is last-is =
      ap₂ (λ (t b : List ℕ). calibrator_with t b window last) table-is bias-is ∙ ap₂ (λ (w : Window) (l : LastScan). calibrator_with (table_in state) (bias_in state) w l) window-is last-is
