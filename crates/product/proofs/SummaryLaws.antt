-- Summaries: a summary's count is that of the delivered scenes, its ends are -1.0 where none is delivered, and else each end is a delivered
-- temperature beyond which no other lies.
use Prim.Native.Nat.{ℕ, zero, suc, ◌+◌, ◌≤◌, ◌<◌}
use native.Mathlib.Decide.{dec_lt}
use native.Mathlib.Nat.{add-zero}
use native.Mathlib.Numerals.{add-one}
use native.Mathlib.Omega.{arith}
use mathlib.Core.Path.{◌≡◌, refl, sym, ap, ap₂, subst, ◌∙◌}
use mathlib.Core.Bool.{Bool, true, false, cond}
use mathlib.Core.List.{List}
use lib.Dec.{eqb, ltb}
use lib.IntN.{pos}
use lib.Ieee.{Float, fin, lt}
use lib.ListN.{get_or}
use borrow.Author.Tests.{eq-eqb, ne_eqb, le-ltb, ltb-true, ltb-false}
use Rattle.lists.specs.Count.{count}
use Rattle.lists.specs.Sum.{sum}
use Rattle.lists.proofs.Count as tests
use Rattle.lists.proofs.Sum.{sum_same}
use Rattle.lists.proofs.Tabulate.{get_d_tabulate}
use Rattle.scene.specs.declared.Scene.{Scene}
use Rattle.scene.specs.declared.Scene.TheVariants.{Kelvin, Flagged, Outside, Guard}
use Rattle.scene.specs.Scene.{value}
use Rattle.scene.proofs.Exact.{kelvin_order}
use Rattle.scene.specs.Channel.{Channel}
use Rattle.instrument.specs.Instrument.{channels, positions}
use Rattle.product.specs.declared.Summary.{Summary}
use Rattle.product.specs.Scenes.{Deliver, scene_at, no_channel, scene_delivered}
use Rattle.record.specs.Record.{earth_part}
use Rattle.product.specs.Summary.{none_delivered, with_temperature, with_scene, summary_to, summary_of}
use Rattle.product.specs.Product.{summaries, delivered_count}
use Rattle.product.proofs.SceneLaws.{InUnits, InUnitsBy, temperature_in_units}

-- ---- scene by scene

module _ (scenes : ℕ → Scene) where
  pub summary_to_none : summary_to scenes 0 ≡ none_delivered
  unfolding summary_to
  summary_to_none = refl

  pub summary_to_more : (n : ℕ) → summary_to scenes (n + 1) ≡ with_scene (summary_to scenes n) (scenes n)
  unfolding summary_to
  summary_to_more n = rw (add-one n)

-- ---- the count

count_with_scene : (s : Summary) (scene : Scene) → (with_scene s scene).count ≡ s.count + cond (scene_delivered scene) 1 0
unfolding with_scene with_temperature
count_with_scene s (Kelvin x) = refl
count_with_scene s Flagged = sym (add-zero s.count)
count_with_scene s Outside = sym (add-zero s.count)
count_with_scene s Guard = sym (add-zero s.count)

module _ (scenes : ℕ → Scene) where
  count_is_delivered : (n : ℕ) → (summary_to scenes n).count ≡ count (λ i. scene_delivered (scenes i)) n
  unfolding summary_to count
  count_is_delivered zero = refl
  count_is_delivered (suc n) =
      count_with_scene (summary_to scenes n) (scenes n) ∙ ap (λ k. k + cond (scene_delivered (scenes n)) 1 0) (count_is_delivered n)

  pub count_at_most : (n : ℕ) → (summary_to scenes n).count ≤ n
  count_at_most n = rw (count_is_delivered n) (tests.count_at_most (λ i. scene_delivered (scenes i)) n)

  -- a delivered scene is counted
  counted : (n i : ℕ) → i < n → scene_delivered (scenes i) ≡ true → 0 < (summary_to scenes n).count
  counted n i below is =
      let holds : ℕ → Bool = λ k. scene_delivered (scenes k) in
      omega (arith, count_is_delivered n, tests.count_when_true holds i is, tests.count_rises holds (i + 1) n (omega arith))

pub summary_count : (deliver : Deliver) (channel : Channel) (part : List ℕ) → (summary_of deliver channel part).count ≡ count (λ i. scene_delivered (scene_at deliver channel part i)) positions
summary_count deliver channel part = count_is_delivered (scene_at deliver channel part) positions

module _ (deliver : ℕ → Deliver) (states : List Channel) (earth : List ℕ) where
  -- what a product delivers is the sum over its channels
  pub delivered_count_lem : delivered_count deliver states earth
      ≡ sum (λ c. count (λ i. scene_delivered (scene_at (deliver c) (get_or states c no_channel) (earth_part earth c) i)) positions) channels
  unfolding delivered_count
  delivered_count_lem = sum_same _ _ channels (λ c below. summary_count (deliver c) (get_or states c no_channel) (earth_part earth c))

  -- the counts of the summaries that a product holds add up to what it delivers
  pub counts_of_summaries : sum (λ c. (get_or (summaries deliver states earth) c none_delivered).count) channels ≡ delivered_count deliver states earth
  unfolding summaries delivered_count
  counts_of_summaries =
      let each : ℕ → Summary = λ c. summary_of (deliver c) (get_or states c no_channel) (earth_part earth c) in
      sum_same _ (λ c. (each c).count) channels (λ c below. ap (λ (s : Summary). s.count) (get_d_tabulate each channels c none_delivered below))

-- ---- no scene delivered

none_with_scene : (s : Summary) (scene : Scene) → (s.count ≡ 0 → s ≡ none_delivered) → (with_scene s scene).count ≡ 0 → with_scene s scene ≡ none_delivered
unfolding with_scene with_temperature
none_with_scene s (Kelvin x) before none = absurd (omega arith)
none_with_scene s Flagged before none = before none
none_with_scene s Outside before none = before none
none_with_scene s Guard before none = before none

none_to : (scenes : ℕ → Scene) (n : ℕ) → (summary_to scenes n).count ≡ 0 → summary_to scenes n ≡ none_delivered
unfolding summary_to
none_to scenes zero none = refl
none_to scenes (suc n) none = none_with_scene (summary_to scenes n) (scenes n) (none_to scenes n) none

pub ends_when_none : (deliver : Deliver) (channel : Channel) (part : List ℕ) → (summary_of deliver channel part).count ≡ 0
    → ((summary_of deliver channel part).low ≡ fin true 1 (pos 0)) × ((summary_of deliver channel part).high ≡ fin true 1 (pos 0))
ends_when_none deliver channel part none =
    let is = none_to (scene_at deliver channel part) positions none in
    (ap (λ (s : Summary). s.low) is, ap (λ (s : Summary). s.high) is)

-- ---- the ends, for either order: `before` is `lt` for the lowest, and `lt` the other way round for the highest

module _ (before : Float → Float → Bool) where
  -- x is the temperature of one of the first n scenes, and none of theirs lies before it
  pub record IsEnd (scenes : ℕ → Scene) (n : ℕ) (x : Float) : Type 0 where
    pub place : ℕ
    pub below : place < n
    pub there : scenes place ≡ Kelvin x
    pub none_before : (i : ℕ) (y : Float) → i < n → scenes i ≡ Kelvin y → before y x ≡ false

  -- what an end needs of an order, on temperatures in units
  record Ordered : Type 0 where
    not_itself : (x : Float) → InUnits x → before x x ≡ false
    not_past : (x y z : Float) → InUnits x → InUnits y → InUnits z → before x z ≡ false → before y z ≡ true → before x y ≡ false

module _ (scenes : ℕ → Scene) (units : (i : ℕ) (x : Float) → scenes i ≡ Kelvin x → InUnits x) (before : Float → Float → Bool) (ordered : Ordered before) where
  -- none before x among the first n scenes, and none at scene n: none among the first n + 1
  one_more : (x : Float) (n : ℕ) → ((i : ℕ) (y : Float) → i < n → scenes i ≡ Kelvin y → before y x ≡ false)
      → ((y : Float) → scenes n ≡ Kelvin y → before y x ≡ false)
      → (i : ℕ) (y : Float) → i < suc n → scenes i ≡ Kelvin y → before y x ≡ false
  one_more x n earlier last i y below is = by_order (dec_lt i n) below
    where
      by_order : Dec (i < n) → i < suc n → before y x ≡ false
      by_order (yes less) below = earlier i y less is
      by_order (no not-less) below =
          let same : i ≡ n = omega arith in
          last y (subst (λ k. scenes k ≡ Kelvin y) same is)

  module _ (n : ℕ) (x : Float) (is : scenes n ≡ Kelvin x) where
    at_last : (y : Float) → scenes n ≡ Kelvin y → before y x ≡ false
    at_last y also =
        let same : x ≡ y = cc in
        subst (λ z. before z x ≡ false) same (ordered.not_itself x (units n x is))

    first_end : ((i : ℕ) (y : Float) → i < n → scenes i ≡ Kelvin y → before y x ≡ false) → IsEnd before scenes (suc n) x
    first_end earlier = record { place = n; below = omega arith; there = is; none_before = one_more x n earlier at_last }

    moved_end : (z : Float) → IsEnd before scenes n z → before x z ≡ true → IsEnd before scenes (suc n) x
    moved_end z end moves =
        first_end
        (λ i y below also. ordered.not_past y x z (units i y also) (units n x is) (units end.place z end.there) (end.none_before i y below also) moves)

  kept_end : (n : ℕ) (z : Float) → IsEnd before scenes n z → ((y : Float) → scenes n ≡ Kelvin y → before y z ≡ false) → IsEnd before scenes (suc n) z
  kept_end n z end last = record {
    place = end.place;
    below = omega (arith, end.below);
    there = end.there;
    none_before = one_more z n end.none_before last;
  }

  module _ (chosen : Summary → Float)
      (step : (s : Summary) (x : Float) → chosen (with_temperature s x) ≡ cond (eqb s.count 0) x (cond (before x (chosen s)) x (chosen s))) where
    end_with_temperature : (n : ℕ) (s : Summary) (x : Float) → scenes n ≡ Kelvin x → (s.count ≡ 0 → (i : ℕ) (y : Float) → i < n → scenes i ≡ Kelvin y → ⊥)
        → (0 < s.count → IsEnd before scenes n (chosen s)) → IsEnd before scenes (suc n) (chosen (with_temperature s x))
    end_with_temperature n s x is none earlier = rw (step s x) (by_count (dec_lt 0 s.count))
      where
        by_test : 0 < s.count → (b : Bool) → before x (chosen s) ≡ b → IsEnd before scenes (suc n) (cond b x (chosen s))
        by_test some true moves = moved_end n x is (chosen s) (earlier some) moves
        by_test some false stays =
            kept_end n (chosen s) (earlier some) (λ y also. subst (λ z. before z (chosen s) ≡ false) (ap value (sym is ∙ also)) stays)

        by_count : Dec (0 < s.count) → IsEnd before scenes (suc n) (cond (eqb s.count 0) x (cond (before x (chosen s)) x (chosen s)))
        by_count (yes some) =
            let other : s.count ≡ 0 → ⊥ = λ z. omega arith in
            rw (ne_eqb s.count 0 other) (by_test some (before x (chosen s)) refl)
        by_count (no not_some) =
            let zero-count : s.count ≡ 0 = omega arith in
            rw (eq-eqb s.count 0 zero-count) (first_end n x is (λ i y below also. absurd (none zero-count i y below also)))

    end_with_scene : (n : ℕ) (s : Summary) (scene : Scene) → scenes n ≡ scene → (s.count ≡ 0 → (i : ℕ) (y : Float) → i < n → scenes i ≡ Kelvin y → ⊥)
        → (0 < s.count → IsEnd before scenes n (chosen s)) → 0 < (with_scene s scene).count → IsEnd before scenes (suc n) (chosen (with_scene s scene))
    unfolding with_scene
    end_with_scene n s (Kelvin x) is none earlier some = end_with_temperature n s x is none earlier
    end_with_scene n s Flagged is none earlier some = kept_end n (chosen s) (earlier some) (λ y also. let z : ◌≡◌ {A = ℕ} 0 1 = cc in absurd (omega arith))
    end_with_scene n s Outside is none earlier some = kept_end n (chosen s) (earlier some) (λ y also. let z : ◌≡◌ {A = ℕ} 0 1 = cc in absurd (omega arith))
    end_with_scene n s Guard is none earlier some = kept_end n (chosen s) (earlier some) (λ y also. let z : ◌≡◌ {A = ℕ} 0 1 = cc in absurd (omega arith))

    end_of_first : (n : ℕ) → 0 < (summary_to scenes n).count → IsEnd before scenes n (chosen (summary_to scenes n))
    unfolding summary_to
    end_of_first zero some = absurd (omega arith)
    end_of_first (suc n) some =
        end_with_scene n (summary_to scenes n) (scenes n) refl
        (λ none i y below is. let c = counted scenes n i below (ap scene_delivered is) in omega arith)
        (end_of_first n) some

-- ---- both orders, on temperatures in units

lt_of_units : (x y : Float) (p : InUnits x) (q : InUnits y) → lt x y ≡ ltb p.units q.units
lt_of_units x y p q = ap₂ lt p.same q.same ∙ kelvin_order p.units q.units p.low p.high q.low q.high

upwards : Ordered lt
upwards = record {
  not_itself = λ x p. lt_of_units x x p p ∙ le-ltb p.units p.units (omega arith);
  not_past = λ x y z p q r past moves.
      let a = ltb-false p.units r.units (sym (lt_of_units x z p r) ∙ past) in
      let b = ltb-true q.units r.units (sym (lt_of_units y z q r) ∙ moves) in
      lt_of_units x y p q ∙ le-ltb p.units q.units (omega arith);
}

abbrev pub above : Float → Float → Bool
above x y = lt y x

downwards : Ordered above
downwards = record {
  not_itself = upwards.not_itself;
  not_past = λ x y z p q r past moves.
      let a = ltb-false r.units p.units (sym (lt_of_units z x r p) ∙ past) in
      let b = ltb-true r.units q.units (sym (lt_of_units z y r q) ∙ moves) in
      lt_of_units y x q p ∙ le-ltb q.units p.units (omega arith);
}

module _ (deliver : Deliver) (channel : Channel) (part : List ℕ) (units : (i : ℕ) → InUnitsBy (deliver i) channel) (some : 0 < (summary_of deliver channel part).count) where
  pub lowest : IsEnd lt (scene_at deliver channel part) positions (summary_of deliver channel part).low
  unfolding with_temperature
  lowest = end_of_first (scene_at deliver channel part) (λ i. temperature_in_units (deliver i) channel _ (units i)) lt upwards (λ s. s.low) (λ s x. refl) positions some

  pub highest : IsEnd above (scene_at deliver channel part) positions (summary_of deliver channel part).high
  unfolding with_temperature
  highest = end_of_first (scene_at deliver channel part) (λ i. temperature_in_units (deliver i) channel _ (units i)) above downwards (λ s. s.high) (λ s x. refl) positions some
