-- The terms in which the theorems speak of a precision k, guard bits a and b, a format F, a buffer s, a node j and an
-- operand X with n fraction bits.
--
-- A format asks for a precision, `precision_of F`, and a form, plain or full words.
-- It asks for guard bits, a of the table, `table_bits F`, and b of the input, `input_bits F`.
-- `asked f k a b` is the one that asks for these.
-- `word_count F` is how many words its image has, 2^k plain and 2^k + 1 full.
-- `word_width F` is the bits of one, 2k + a plain and 2k + a + 2 full.
-- `image_length F` is the bytes that these words take, the last one filled with zero bits.
-- `plain_of k` and `full_of k` are the two formats of precision k with a = 2 and b = 3.
-- The pages Plain and Full have all of this in numbers.
-- Assumes nothing.
use Rattle.std.specs.Prelude.{◌≡◌, List, ℕ, ◌+◌, ◌-◌, ◌*◌, ◌/◌, ◌%◌, ◌^◌, ◌≤◌, ◌<◌, length}
use Rattle.format.specs.Format.{precision_of, table_bits, input_bits, word_count, word_width, image_length}
use Rattle.format.specs.declared.Form.{Form}
use Rattle.format.specs.declared.Form.TheVariants.{Plain, Full}
use Rattle.format.specs.declared.Format.{Format}
use Rattle.nodes.specs.Nodes.{node}
use Rattle.packing.specs.Packing.{bit_at}
use Rattle.image.specs.Image.{word_of}

-- k is a precision
abbrev pub IsPrecision : ℕ → Type 0
IsPrecision k = (1 ≤ k) × (k ≤ 12)

-- a and b are guard bits that can be ordered: a from 2 to 4, b from 3 to 5
abbrev pub AreGuardBits : ℕ → ℕ → Type 0
AreGuardBits a b = (2 ≤ a) × (a ≤ 4) × (3 ≤ b) × (b ≤ 5)

-- a format can be ordered: its precision and its guard bits are in their ranges
abbrev pub IsOffered : Format → Type 0
IsOffered F = IsPrecision (precision_of F) × AreGuardBits (table_bits F) (input_bits F)

-- a buffer is long enough for the image
abbrev pub IsLongEnough : Format → List ℕ → Type 0
IsLongEnough F s = image_length F ≤ length s

-- the construction's word for node j: c(j) modulo 2^(2k+a) in plain words, c(j) itself in full ones
abbrev pub right_word : Form → ℕ → ℕ → ℕ → ℕ
right_word Plain k a j = node k a j % 2 ^ (2 * k + a)
right_word Full k a j = node k a j

-- the word that a buffer holds for node j is the construction's
abbrev pub IsRightAt : Format → List ℕ → ℕ → Type 0
IsRightAt F s j = word_of F s j ≡ right_word F.form (precision_of F) (table_bits F) j

-- byte i of a buffer has a one behind the last word: one of the buffer's bits from there on that stand in it is one
abbrev pub IsSetPast : Format → List ℕ → ℕ → Type 0
IsSetPast F s i = (i < length s) × ((bit : ℕ) × (word_count F * word_width F ≤ bit) × (bit / 8 ≡ i) × (bit_at s bit ≡ 1))

-- nothing stands behind the last word of a buffer: each bit there is zero, whether it fills the image's last byte or
-- stands past the image
abbrev pub IsTailZero : Format → List ℕ → Type 0
IsTailZero F s = (bit : ℕ) → word_count F * word_width F ≤ bit → bit < 8 * length s → bit_at s bit ≡ 0

-- n is from 1 to 63
abbrev pub IsFractionCount : ℕ → Type 0
IsFractionCount n = (1 ≤ n) × (n ≤ 63)

-- X is normalised: from 2^n to 2^(n+1) - 1
abbrev pub IsNormalised : ℕ → ℕ → Type 0
IsNormalised n X = (2 ^ n ≤ X) × (X < 2 ^ (n + 1))

-- t is a cut operand: it has 2k + b fraction bits behind its leading one
abbrev pub IsCutOperand : ℕ → ℕ → ℕ → Type 0
IsCutOperand k b t = (2 ^ (2 * k + b) ≤ t) × (t < 2 ^ (2 * k + (b + 1)))

-- how far two numbers lie apart: one of the two differences stops at 0
abbrev pub apart : ℕ → ℕ → ℕ
apart x y = (x - y) + (y - x)
