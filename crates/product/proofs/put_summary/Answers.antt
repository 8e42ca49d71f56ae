-- `put_summary` meets its contract: the count and the two ends are put one right behind the other.
use Rattle.std.proofs.Common.{◌+◌, List, ◌++◌, ℕ, ap, ◌∙◌, arith}
use Rattle.std.specs.Float.{binary32}
use Rattle.std.specs.Float.Ieee.{to_bits}
use Rattle.lists.specs.Build.{put}
use Rattle.lists.proofs.Put.{put_after_put}
use Rattle.fields.specs.Numbers.{u16_bytes, u32_bytes}
use Rattle.product.specs.Product.{summary_bytes}
use Rattle.product.proofs.put_summary.Goals as goal

pub returns : goal.returns
unfolding summary_bytes
returns c =
    let a = c.args in
    let b = a.out.now in
    let count = u16_bytes a.s.count in
    let low = u32_bytes (to_bits binary32 a.s.low) in
    let high = u32_bytes (to_bits binary32 a.s.high) in
    c.put_u32-2.ensures
    ∙ ap (λ (l : List ℕ). put l (a.at + 6) high)
    (c.put_u32.ensures
    ∙ ap (λ (l : List ℕ). put l (a.at + 2) low) c.put_u16.ensures
    ∙ put_after_put b count low a.at (a.at + 2) (omega arith) (omega arith))
    ∙ put_after_put b (count ++ low) high a.at (a.at + 6) (omega arith) (omega arith)
