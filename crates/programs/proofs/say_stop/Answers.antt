-- `say_stop` meets what `write_to` asks: the line is the one that `lines::stop_line` made.
use Rattle.std.proofs.Common.{refl, ◌∙◌}
use Rattle.programs.specs.Steps.{stop_due}
use Rattle.programs.proofs.say_stop.Goals as goal

pub write_to-requires : goal.write_to-requires
write_to-requires c = stop_due c.args.stop (c.as_bytes.ensures ∙ c.stop_line-line.ensures) refl
