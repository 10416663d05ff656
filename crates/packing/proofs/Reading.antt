-- When `word_read` and `field_read` are what stands there and when they are 0.
-- Assumes nothing.
use Rattle.std.proofs.Common.{◌≡◌, ℕ, ◌*◌, ◌^◌, ◌<◌, ◌≤◌, Bool, true, false, cond, leb, List, pow_pos, le-leb}
use borrow.Author.Tests.{lt-leb}
use Rattle.packing.specs.Packing.{field_at, word_at}
use Rattle.packing.specs.Inner.{field_read, word_read, widest}
use Rattle.packing.proofs.Fields.{field_lt}

-- too many bits
pub field_wide : (s : List ℕ) (b w : ℕ) → widest < w → field_read s b w ≡ 0
field_wide s b w h = rw (lt-leb w widest h)

-- as many as are read at once
pub field_there : (s : List ℕ) (b w : ℕ) → w ≤ widest → field_read s b w ≡ field_at s b w
field_there s b w wide = rw (le-leb w widest wide)

-- a word that is not too wide
pub read_there : (w : ℕ) (s : List ℕ) (j : ℕ) → w ≤ widest → word_read w s j ≡ word_at w s j
unfolding word_at
read_there w s j wide = field_there s (j * w) w wide

-- what is read has as many bits
pub field_read_lt : (s : List ℕ) (b w : ℕ) → field_read s b w < 2 ^ w
field_read_lt s b w = by (leb w widest)
  where
    by : (t : Bool) → cond t (field_at s b w) 0 < 2 ^ w
    by true = field_lt s b w
    by false = pow_pos w
