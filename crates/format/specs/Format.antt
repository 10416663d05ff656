-- The description of the table that a call is asked for: a precision k, a form and guard bits a and b; and the words
-- and bytes that its image has.
-- Assumes nothing.
use Rattle.std.specs.Prelude.{ℕ, zero, suc, ◌+◌, ◌*◌, Bool, ◌&&◌, cond}
use Rattle.packing.specs.Packing.{byte_count}
use Rattle.precision.specs.Precision as plain
use Rattle.precision.specs.Precision.{last_node, in_range}
use Rattle.format.specs.GuardBits.{guard_bits, guards_in}
use Rattle.format.specs.declared.Form.{Form}
use Rattle.format.specs.declared.Form.TheVariants.{Plain, Full}
use Rattle.format.specs.declared.Format.{Format}
use Rattle.format.specs.declared.FormatNumbers.{FormatNumbers}

-- the precision k that is asked for
abbrev pub precision_of : Format → ℕ
precision_of F = F.precision.0

-- a, the table guard bits
abbrev pub table_bits : Format → ℕ
table_bits F = F.guard_bits.table

-- b, the input guard bits
abbrev pub input_bits : Format → ℕ
input_bits F = F.guard_bits.input

-- precision k in a form, with guard bits a and b
abbrev pub asked : Form → ℕ → ℕ → ℕ → Format
asked f k a b = record { precision = record { 0 = k }; form = f; guard_bits = guard_bits a b }

-- the same with two table guard bits and three input guard bits, the usual guard bits
abbrev pub usual : Form → ℕ → Format
usual f k = asked f k 2 3

-- plain and full words of precision k with those
abbrev pub plain_of : ℕ → Format
plain_of k = usual Plain k

abbrev pub full_of : ℕ → Format
full_of k = usual Full k

-- a format with other guard bits
abbrev pub guarded : Format → ℕ → ℕ → Format
guarded F a b = asked F.form (precision_of F) a b

-- a format with another form
abbrev pub formed : Format → Form → Format
formed F f = asked f (precision_of F) (table_bits F) (input_bits F)

-- a form by its number in C: 0 is plain, anything else full
abbrev pub form_of : ℕ → Form
form_of zero = Plain
form_of (suc n) = Full

-- a format by its numbers
abbrev pub format_of : FormatNumbers → Format
format_of N = asked (form_of N.form) N.precision N.table_guard_bits N.input_guard_bits

-- the bits of one word: w = 2k + a plain, two more full
abbrev pub width_in : Form → ℕ → ℕ → ℕ
width_in Plain k a = plain.word_width k a
width_in Full k a = 2 * k + (a + 2)

abbrev pub word_width : Format → ℕ
word_width F = width_in F.form (precision_of F) (table_bits F)

-- the words of an image: one for each node, but that the last node has none plain
abbrev pub count_in : Form → ℕ → ℕ
count_in Plain k = plain.word_count k
count_in Full k = last_node k + 1

abbrev pub word_count : Format → ℕ
word_count F = count_in F.form (precision_of F)

-- the bytes of an image
abbrev pub image_length : Format → ℕ
image_length F = byte_count (word_width F) (word_count F)

-- precision and guard bits are in their ranges: the table can be ordered
abbrev pub is_offered : Format → Bool
is_offered F = in_range (precision_of F) && guards_in F.guard_bits

-- the bytes of an image, and 0 where the table cannot be ordered
abbrev pub length_or_0 : Format → ℕ
length_or_0 F = cond (is_offered F) (image_length F) 0
