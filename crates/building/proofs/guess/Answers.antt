-- `building::guess` meets its contract: the sum of which it takes the bits is no NaN.
-- Assumes nothing.
use lib.Ieee.{binary64, of_bits}
use Rattle.building.proofs.Floats.{add_number, div_number}
use Rattle.building.proofs.guess.Goals as goal

pub float_to_bits-result : goal.float_to_bits-result
unfolding of_bits
float_to_bits-result c =
    add_number binary64 _ _ (div_number binary64 c.args.dividend c.args.divisor c.requires.0 c.requires.1) tt
