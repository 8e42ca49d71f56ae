-- `layout_size` meets its contract: what is added is below 65,539, and there are at most 8 fields.
use Rattle.std.proofs.Common.{rules, ◌≡◌, ◌+◌, ◌∙◌, ℕ, List, [], ◌∷◌, refl, ap}
use Rattle.std.specs.List.{sum_by}
use Rattle.std.proofs.lemmas.List.Sums.{sum_by-cons}
use Rattle.fields.specs.declared.Field.{Field}
use Rattle.fields.specs.Fields.{head_size, layout_size}
use Rattle.comparison.proofs.layout_size.Goals as goal

sum_of_layout : (fs : List Field) → sum_by (λ (f : Field). head_size + f.size) fs ≡ layout_size fs
sum_of_layout [] = refl
sum_of_layout (f ∷ fs) = sum_by-cons (λ (f : Field). head_size + f.size) f fs ∙ ap (λ (n : ℕ). head_size + f.size + n) (sum_of_layout fs)

pub returns : goal.returns
returns c =
    let added : c.sum.result ≡ sum_by (λ (f : Field). head_size + f.size) c.args.layout.now = search rules in
    added ∙ sum_of_layout c.args.layout.now
