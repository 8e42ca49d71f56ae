-- What a product holds, read back from the front of any buffer that starts with it: its length, its tags and lengths, and each number at
-- its place.
use Prim.Native.Nat.{ℕ, ◌+◌, ◌*◌, ◌<◌}
use native.Mathlib.Nat.{add-zero}
use native.Mathlib.Omega.{arith}
use mathlib.Core.Path.{◌≡◌, refl, sym, ap, subst, ◌∙◌}
use mathlib.Core.List.{List, [], ◌∷◌, ◌++◌, append_assoc, append-nil}
use mathlib.Core.Bool.{true}
use lib.ListN.{length, get_or}
use lib.Ieee.{binary32, to_bits}
use Rattle.lists.proofs.Stands.{StandsAt, stands_at_front, stands_behind, stands_inside, cell_stands}
use Rattle.lists.proofs.Tabulate.{get_d_tabulate}
use Rattle.fields.specs.Numbers.{u16_at, u32_at, u16_bytes, u32_bytes}
use Rattle.fields.specs.Fields.{layout_is_right, field_bytes, field_at, value_start, laid_out}
use Rattle.fields.proofs.FieldBytes.{u16_that_stands, u32_that_stands, Sized, length_laid_out, value_stands, laid_out_is_right}
use Rattle.instrument.specs.Instrument.{channels, positions}
use Rattle.record.specs.Record.{earth_part}
use Rattle.scene.specs.Scene.{bits}
use Rattle.scene.specs.Channel.{Channel}
use Rattle.product.specs.declared.Summary.{Summary}
use Rattle.scene.specs.Channel.{channel_flag}
use Rattle.product.specs.Scenes.{Deliver, scene_at, no_channel}
use Rattle.product.specs.Summary.{none_delivered, summary_of}
use Rattle.product.specs.Product.{product_layout, product_size, stretch_size, summary_size, channel_scenes, scene_bytes, summary_bytes, summaries, summaries_bytes, flag_bytes, product_of}
use Rattle.product.proofs.Lengths.{length_channel_scenes, length_scene_bytes, length_summary_bytes, length_summaries_bytes, length_flag_bytes}

-- ---- the four fields of a product

regroup : (a b c d rest : List ℕ) → (a ++ (b ++ (c ++ d))) ++ rest ≡ a ++ (b ++ (c ++ (d ++ rest)))
regroup a b c d rest = simp append_assoc

module _ (deliver : ℕ → Deliver) (number : ℕ) (states : List Channel) (earth : List ℕ) where
  abbrev values : List (List ℕ)
  values = u32_bytes number ∷ flag_bytes states ∷ scene_bytes deliver states earth ∷ summaries_bytes (summaries deliver states earth) ∷ []

  values_are_sized : Sized product_layout values
  values_are_sized =
      (refl, (length_flag_bytes states, (length_scene_bytes deliver states earth, (length_summaries_bytes (summaries deliver states earth), tt))))

  product_is_laid_out : (rest : List ℕ) → product_of deliver number states earth ++ rest ≡ laid_out product_layout values rest
  unfolding product_of
  product_is_laid_out rest =
      regroup (field_bytes (field_at product_layout 0) (u32_bytes number)) (field_bytes (field_at product_layout 1) (flag_bytes states))
      (field_bytes (field_at product_layout 2) (scene_bytes deliver states earth))
      (field_bytes (field_at product_layout 3) (summaries_bytes (summaries deliver states earth))) rest

  pub length_product : length (product_of deliver number states earth) ≡ product_size
  length_product =
      ap length (sym (append-nil (product_of deliver number states earth)) ∙ product_is_laid_out [])
      ∙ length_laid_out product_layout values [] values_are_sized

  module _ (rest : List ℕ) where
    pub layout_of_product : layout_is_right (product_of deliver number states earth ++ rest) 0 product_layout ≡ true
    layout_of_product = rw (product_is_laid_out rest) (laid_out_is_right product_layout values rest values_are_sized)

    value_in_product : (k : ℕ) → k < length product_layout → StandsAt (product_of deliver number states earth ++ rest) (value_start product_layout k) (get_or values k [])
    value_in_product k below = rw (product_is_laid_out rest) (value_stands product_layout values rest values_are_sized k below)

    -- ---- each number of a product

    pub number_in_product : u32_at (product_of deliver number states earth ++ rest) (value_start product_layout 0) ≡ number
    number_in_product = u32_that_stands _ (value_start product_layout 0) number (value_in_product 0 (omega arith))

    module _ (c : ℕ) (below : c < channels) where
      abbrev channel : Channel
      channel = get_or states c no_channel

      abbrev summary : Summary
      summary = summary_of (deliver c) channel (earth_part earth c)

      abbrev summary_place : ℕ
      summary_place = value_start product_layout 3 + summary_size * c

      pub flag_in_product : get_or (product_of deliver number states earth ++ rest) (value_start product_layout 1 + c) 0 ≡ channel_flag (get_or states c no_channel)
      unfolding flag_bytes
      flag_in_product =
          (value_in_product 1 (omega arith)).each c 0 (omega (arith, length_flag_bytes states))
          ∙ get_d_tabulate (λ k. channel_flag (get_or states k no_channel)) channels c 0 below

      summary_stands : StandsAt (product_of deliver number states earth ++ rest) summary_place (summary_bytes summary)
      unfolding summaries_bytes summaries
      summary_stands =
          let all = summaries deliver states earth in
          let bytes : ℕ → List ℕ = λ k. summary_bytes (get_or all k none_delivered) in
          let same : bytes c ≡ summary_bytes summary =
          ap summary_bytes (get_d_tabulate (λ k. summary_of (deliver k) (get_or states k no_channel) (earth_part earth k)) channels c none_delivered below) in
          subst (StandsAt (product_of deliver number states earth ++ rest) summary_place) same
          (stands_inside _ (summaries_bytes all) (bytes c) (value_start product_layout 3) (summary_size * c)
          (omega (arith, length_summary_bytes (get_or all c none_delivered), length_summaries_bytes all))
          (value_in_product 3 (omega arith))
          (cell_stands bytes summary_size (λ k. length_summary_bytes (get_or all k none_delivered)) channels c below))

      pub count_in_product : u16_at (product_of deliver number states earth ++ rest) (value_start product_layout 3 + summary_size * c)
          ≡ (summary_of (deliver c) (get_or states c no_channel) (earth_part earth c)).count
      unfolding summary_bytes
      count_in_product =
          let count = u16_bytes summary.count in
          u16_that_stands _ summary_place summary.count
          (subst (λ k. StandsAt (product_of deliver number states earth ++ rest) k count) (add-zero summary_place)
          (stands_inside _ (summary_bytes summary) count summary_place 0 (omega arith) summary_stands (stands_at_front count _)))

      pub low_in_product : u32_at (product_of deliver number states earth ++ rest) (value_start product_layout 3 + summary_size * c + 2)
          ≡ to_bits binary32 (summary_of (deliver c) (get_or states c no_channel) (earth_part earth c)).low
      unfolding summary_bytes
      low_in_product =
          let low = u32_bytes (to_bits binary32 summary.low) in
          u32_that_stands _ (summary_place + 2) (to_bits binary32 summary.low)
          (stands_inside _ (summary_bytes summary) low summary_place 2 (omega arith) summary_stands
          (stands_behind (u16_bytes summary.count) _ low 2 0 refl (stands_at_front low _)))

      pub high_in_product : u32_at (product_of deliver number states earth ++ rest) (value_start product_layout 3 + summary_size * c + 6)
          ≡ to_bits binary32 (summary_of (deliver c) (get_or states c no_channel) (earth_part earth c)).high
      unfolding summary_bytes
      high_in_product =
          let low = u32_bytes (to_bits binary32 summary.low) in
          let high = u32_bytes (to_bits binary32 summary.high) in
          u32_that_stands _ (summary_place + 6) (to_bits binary32 summary.high)
          (stands_inside _ (summary_bytes summary) high summary_place 6 (omega arith) summary_stands
          (stands_behind (u16_bytes summary.count ++ low) high high 6 0 refl (stands_at_front high [])))

      module _ (i : ℕ) (inside : i < positions) where
        abbrev scene_place : ℕ
        scene_place = value_start product_layout 2 + stretch_size * c + 4 * i

        pub scene_stands : StandsAt (product_of deliver number states earth ++ rest) (value_start product_layout 2 + stretch_size * c + 4 * i)
            (u32_bytes (bits (scene_at (deliver c) (get_or states c no_channel) (earth_part earth c) i)))
        unfolding scene_bytes channel_scenes
        scene_stands =
            let scenes = scene_bytes deliver states earth in
            let stretch : ℕ → List ℕ = λ k. channel_scenes (deliver k) (get_or states k no_channel) (earth_part earth k) in
            let bytes : ℕ → List ℕ = λ k. u32_bytes (bits (scene_at (deliver c) channel (earth_part earth c) k)) in
            let long = length_channel_scenes (deliver c) channel (earth_part earth c) in
            stands_inside _ (stretch c) (bytes i) (value_start product_layout 2 + stretch_size * c) (4 * i) (omega arith)
            (stands_inside _ scenes (stretch c) (value_start product_layout 2) (stretch_size * c) (omega (arith, length_scene_bytes deliver states earth))
            (value_in_product 2 (omega arith))
            (cell_stands stretch stretch_size (λ k. length_channel_scenes (deliver k) (get_or states k no_channel) (earth_part earth k)) channels c below))
            (cell_stands bytes 4 (λ k. refl) positions i inside)

        pub scene_in_product : u32_at (product_of deliver number states earth ++ rest) (value_start product_layout 2 + stretch_size * c + 4 * i)
            ≡ bits (scene_at (deliver c) (get_or states c no_channel) (earth_part earth c) i)
        scene_in_product = u32_that_stands _ scene_place _ scene_stands
