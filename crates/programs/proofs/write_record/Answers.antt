-- `write_record` meets its contract: the step of `lines` for each program is the case of `made_of` and `product_left` for it.
use Rattle.std.proofs.Common.{rules}
use Rattle.lines.specs.Steps.{listed_of, calibrated_of}
use Rattle.programs.specs.Steps.{written_of, made_of, product_left}
use Rattle.programs.proofs.write_record.Goals as goal

pub returns-in-Listing-clause-made : goal.returns-in-Listing-clause-made
unfolding listed_of written_of made_of
returns-in-Listing-clause-made c = search rules

pub returns-in-Listing-clause-product : goal.returns-in-Listing-clause-product
unfolding product_left
returns-in-Listing-clause-product c = search rules

pub returns-in-Calibrate-clause-made : goal.returns-in-Calibrate-clause-made
unfolding calibrated_of written_of made_of
returns-in-Calibrate-clause-made c = search rules

pub returns-in-Calibrate-clause-product : goal.returns-in-Calibrate-clause-product
unfolding product_left
returns-in-Calibrate-clause-product c = search rules
