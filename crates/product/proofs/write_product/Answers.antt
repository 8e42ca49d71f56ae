-- `write_product` meets its contract: each head and each value goes right behind what stands already, so that at the end the whole product
-- stands at the front, and the counts that are summed are those of the summaries that were written.
use Rattle.std.proofs.Common.{◌≡◌, ℕ, List, [], ◌++◌, get_or, drop, refl, sym, ap, subst, ◌∙◌, append_assoc, rules}
use Rattle.lists.specs.Sum.{sum}
use Rattle.lists.proofs.Fronts.{front_none, front_and_put, front_and_lent}
use Rattle.fields.specs.Numbers.{u32_bytes}
use Rattle.fields.specs.Fields.{field_at, field_bytes}
use Rattle.instrument.specs.Instrument.{channels}
use Rattle.product.specs.declared.Summary.{Summary}
use Rattle.product.specs.Scenes.{Deliver}
use Rattle.product.specs.Summary.{none_delivered}
use Rattle.product.specs.Product.{product_layout, product_size, flag_bytes, scene_bytes, summaries, summaries_bytes, product_of}
use Rattle.product.specs.Steps.{Plain, by_pairs}
use Rattle.product.proofs.Lengths.{length_flag_bytes, length_scene_bytes, length_summaries_bytes}
use Rattle.product.proofs.Plain.{plain_summaries}
use Rattle.product.proofs.SummaryLaws.{counts_of_summaries}
use Rattle.product.proofs.write_product.Goals as goal

pub write_summaries-requires : goal.write_summaries-requires
write_summaries-requires c = (
  search rules,
  λ k below. subst (λ (all : List Summary). Plain (get_or all k none_delivered)) (sym c.write_scenes-all.ensures.0) (plain_summaries (by_pairs c.args.pairs.now) c.args.states c.args.earth.now k below),
)

abbrev head_of : ℕ → List ℕ
head_of k = field_bytes (field_at product_layout k) []

regroup : (a b c d e f g h : List ℕ) → a ++ b ++ c ++ d ++ e ++ f ++ g ++ h ≡ (a ++ b) ++ ((c ++ d) ++ ((e ++ f) ++ (g ++ h)))
regroup a b c d e f g h = simp append_assoc

pub returns : goal.returns
unfolding product_of
returns c =
    let a = c.args in
    let b = a.buffer.now in
    let earth = a.earth.now in
    let deliver : ℕ → Deliver = by_pairs a.pairs.now in
    let flags : List ℕ = flag_bytes a.states in
    let scenes : List ℕ = scene_bytes deliver a.states earth in
    let all : List Summary = summaries deliver a.states earth in
    let number_head = front_and_put (front_none b) (head_of 0) refl c.put_head.ensures in
    let number = front_and_put number_head (u32_bytes a.number) refl c.put_u32.ensures in
    let flags_head = front_and_put number (head_of 1) refl c.put_head-2.ensures in
    let flags_back = front_and_lent flags_head flags (length_flag_bytes a.states) c.write_flags.ensures in
    let scenes_head = front_and_put flags_back (head_of 2) refl c.put_head-3.ensures in
    let scenes_back = front_and_lent scenes_head scenes (length_scene_bytes deliver a.states earth) c.write_scenes-all.ensures.1 in
    let summaries_head = front_and_put scenes_back (head_of 3) refl c.put_head-4.ensures in
    let summaries_back = front_and_lent summaries_head (summaries_bytes all) (length_summaries_bytes all) (c.write_summaries.ensures ∙ ap summaries_bytes c.write_scenes-all.ensures.0) in (
      c.total_count.ensures
          ∙ ap (λ (s : List Summary). sum (λ k. (get_or s k none_delivered).count) channels) c.write_scenes-all.ensures.0
          ∙ counts_of_summaries deliver a.states earth,
      summaries_back.same
          ∙ ap (λ (l : List ℕ). l ++ drop product_size b) (regroup (head_of 0) (u32_bytes a.number) (head_of 1) flags (head_of 2) scenes (head_of 3) _),
    )
