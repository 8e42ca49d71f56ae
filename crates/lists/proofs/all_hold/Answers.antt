-- `all_hold` meets its contract: std's test of a whole list recurses as `all_hold` does.
use Rattle.std.proofs.Common.{◌∙◌, rules, tests, ◌&&◌, refl}
use Rattle.std.specs.List.{list_all}
use Rattle.std.proofs.lemmas.Iterator.{YieldsList-from_slice}
use Rattle.std.proofs.lemmas.Iterator.Search.{all_from_yields_List}
use Rattle.std.proofs.lemmas.List.Recursion.{same_from_clauses}
use Rattle.lists.specs.Count.{all_hold}
use Rattle.lists.proofs.all_hold.Goals as goal

pub returns : goal.returns
returns c =
    let xs = c.args.tests.now in
    all_from_yields_List (λ test. test) _ _ _ c.all.ensures.ran (YieldsList-from_slice xs cc) (λ x b q k. search (rules, tests))
    ∙ same_from_clauses (list_all (λ test. test)) all_hold ◌&&◌ refl (λ _ _. refl) (λ _ _. refl) xs
