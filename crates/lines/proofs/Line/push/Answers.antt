-- `push` keeps the invariant: the text stands where zeros stood, and as many fewer stand behind it.
use Rattle.std.proofs.Common.{arith, rules, sym, ap, ◌∙◌, length, length-take-le}
use Rattle.std.proofs.lemmas.Slice.{overwrites}
use Rattle.lines.proofs.ZeroLaws.{fewer_zeros}
use Rattle.lines.proofs.Line.push.Goals as goal

pub invariant_of-self : goal.invariant_of-self
invariant_of-self c =
    let line = c.self.inside in
    let long = ap length (sym c.self.view_is) ∙ length-take-le line.size line.bytes (grind arith) in
    (omega (arith, long), search (rules, overwrites), search (rules, overwrites, fewer_zeros line.size (length c.args.text.now) line.bytes c.self.invariant.2))
