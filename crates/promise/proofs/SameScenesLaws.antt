-- N is 12 × Wc × Ww times the count less Ac × Ww, so that a scene before scan bias is a function of the six numbers and the count; and the
-- word of a scene in a product is that of its mark, or of what scan bias makes of its T.
use Prim.Native.Nat.{ℕ, ◌<◌}
use mathlib.Core.Path.{◌≡◌, refl, sym, ap, ap₂, subst, ◌∙◌}
use mathlib.Core.List.{List, [], ◌++◌}
use mathlib.Core.Bool.{Bool, true, false, cond}
use lib.Dec.{eqb}
use lib.IntN.{ℤ, pos, nat_abs, ◌-ℤ◌, ◌*ℤ◌}
use lib.ListN.{drop, get_or}
use borrow.Author.Tests.{eqb-true, eq-eqb}
use Rattle.lists.specs.Tests.{Verdict}
use Rattle.instrument.specs.Instrument.{channels, positions}
use Rattle.table.specs.declared.Table.{Table}
use Rattle.table.specs.Settings.{Settings}
use Rattle.table.specs.ValueRanges.{SettingsRange}
use Rattle.table.proofs.OpeningLaws.{accepted_ranges}
use Rattle.bias.specs.Opening.{AcceptedBias}
use Rattle.window.specs.Means.{Tw, Tc, constants_of}
use Rattle.scene.specs.declared.Scene.{Scene}
use Rattle.scene.specs.declared.Scene.TheVariants.{Kelvin, Outside, Guard}
use Rattle.scene.specs.Scene.{kelvin, bits, scene_of}
use Rattle.scene.specs.Temperature.{temperature, outside, guard_fails}
use Rattle.scene.proofs.Delivered.{N_by_products}
use Rattle.product.specs.Scenes.{by_bias, scene_delivered}
use Rattle.product.specs.Product.{product_size}
use Rattle.calibrator.specs.Feeding.{Outcome}
use Rattle.promise.specs.Restart.{rolled_by}
use Rattle.promise.specs.Outcomes.{outcome_by}
use Rattle.promise.specs.Moments.{Moment, means_at, shelf_at, tnl_at, d_at, n_at, t_at, count_at, product_at}
use Rattle.scene.specs.BeforeBias.{TOrMark, just_t, flagged_mark, outside_mark, guard_mark, by_tests}
use Rattle.promise.specs.SameScenes.{flag_at, scene_before_bias, six_numbers, settings_of_fed, moment_of_fed, fed_scene_at, SameScenes, Shows, ScenesShown}
use Rattle.promise.proofs.SceneClaims.{scene, flag_zero_scene, flagged_scene, n_is_numerator, count, word_is, word_delivered, scene_claim}
use Rattle.promise.proofs.RestartLaws.{left_by_lem}

-- ---- a scene by the six numbers, in their order
abbrev pub by_numbers : List ℤ → ℤ → TOrMark
by_numbers numbers count =
    let at : ℕ → ℤ = λ k. get_or numbers k (pos 0) in
    let n = at 4 *ℤ count -ℤ at 5 in
    by_tests n (at 3) (temperature (at 0) (at 1) (at 2) (at 3) n)

pub scene_by_numbers : (s : Settings) (m : Moment) (c : ℕ) → flag_at s m c ≡ 0 → (count : ℤ) → scene_before_bias s m c count ≡ by_numbers (six_numbers s m c) count
scene_by_numbers s m c zero_flag count =
    let channel = s.channel c in
    let sums = means_at s m c in
    rw (eq-eqb (flag_at s m c) 0 zero_flag)
    (ap (λ n. by_tests n (d_at s m c) (temperature (Tc channel) (Tw sums channel -ℤ Tc channel) (tnl_at s m c) (d_at s m c) n)) (N_by_products (pos sums.Ww) (pos sums.Wc) (pos sums.Ac) count))

pub same_scenes : SameScenes
same_scenes one other zero_flag other-zero agree n small =
    scene_by_numbers (settings_of_fed one) (moment_of_fed one) one.channel zero_flag (pos n)
    ∙ ap (λ numbers. by_numbers numbers (pos n)) agree
    ∙ sym (scene_by_numbers (settings_of_fed other) (moment_of_fed other) other.channel other-zero (pos n))

-- ---- the word of a scene
module _ (s : Settings) (bias : List ℕ) (m : Moment) (c i : ℕ) (range : SettingsRange s) (file : AcceptedBias bias) (below : c < channels) (inside : i < positions) (rest : List ℕ) where
  abbrev deliver : ℤ → ℤ
  deliver = by_bias bias c i

  abbrev product : List ℕ
  product = product_at s m (by_bias bias) ++ rest

  abbrev kelvins : Scene
  kelvins = Kelvin (kelvin (nat_abs (deliver (t_at s m c i))))

  -- of a channel with flag 0, by the outcomes of the scene's tests
  module _ (away fails : Bool) (f : outside (n_at s m c i) (d_at s m c) ≡ away) (g : guard_fails (t_at s m c i) ≡ fails) where
    scene_by_tests : eqb (flag_at s m c) 0 ≡ true → scene s m c i deliver ≡ cond away Outside (cond fails Guard kelvins)
    unfolding scene_of constants_of
    scene_by_tests e =
        flag_zero_scene s c (shelf_at s m c) (means_at s m c) deliver (count s m c i) (eqb-true (flag_at s m c) 0 e)
        ∙ ap (λ n. let k = constants_of (means_at s m c) (s.channel c) (shelf_at s m c) in let t = temperature k.tc k.rise k.tnl k.d n in cond (outside n k.d) Outside (cond (guard_fails t) Guard (Kelvin (kelvin (nat_abs (deliver t)))))) (sym (n_is_numerator s m c i))
        ∙ ap₂ (λ a b. cond a Outside (cond b Guard kelvins)) f g

  shows_by : (unflagged away fails : Bool) → eqb (flag_at s m c) 0 ≡ unflagged → outside (n_at s m c i) (d_at s m c) ≡ away → guard_fails (t_at s m c i) ≡ fails
      → Shows product bias c i (cond unflagged (cond away outside_mark (cond fails guard_mark (just_t (t_at s m c i)))) flagged_mark)
  shows_by false away fails e f g = word_is s bias m c i range file below inside rest ∙ ap bits (flagged_scene s c (shelf_at s m c) (means_at s m c) deliver (count s m c i) e)
  shows_by true true fails e f g = word_is s bias m c i range file below inside rest ∙ ap bits (scene_by_tests true fails f g e)
  shows_by true false true e f g = word_is s bias m c i range file below inside rest ∙ ap bits (scene_by_tests false true f g e)
  shows_by true false false e f g =
      let word = word_delivered s bias m c i range file below inside rest ∙ ap scene_delivered (scene_by_tests false false f g e) in
      (word, (scene_claim s bias m c i range file below inside rest).exact word)

  shows : Shows product bias c i (scene_before_bias s m c (count_at s m c i))
  shows = shows_by (eqb (flag_at s m c) 0) (outside (n_at s m c i) (d_at s m c)) (guard_fails (t_at s m c i)) refl refl refl

-- ---- and what an accepted feed leaves in its buffer
pub scenes_shown : ScenesShown
scenes_shown f bias file i inside =
    let table : Table = record { bytes = f.table } in
    let s = settings_of_fed f in
    let m = moment_of_fed f in
    let left = left_by_lem table bias f.before f.feed ∙ ap (λ (v : Verdict). outcome_by s (by_bias bias.bytes) v (rolled_by [] f.before) f.feed) f.feed_accepted in
    subst (λ (o : Outcome). Shows o.buffer bias.bytes f.channel i (fed_scene_at f i)) (sym left)
    (shows s bias.bytes m f.channel i (accepted_ranges f.table_accepted) file f.is_channel inside (drop product_size f.feed.buffer))
