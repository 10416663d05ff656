-- What only inner promises cite: the numbers by which the words of a table are made and judged.
-- Assumes nothing.
use Rattle.std.specs.Prelude.{ℕ, ◌+◌, ◌%◌, ◌^◌, cond, Option, Some, None}
use Rattle.units.specs.declared.TableUnits.{TableUnits}
use Rattle.format.specs.Format.{precision_of, table_bits, word_width, word_count}
use Rattle.format.specs.declared.Form.{Form}
use Rattle.format.specs.declared.Form.TheVariants.{Plain, Full}
use Rattle.format.specs.declared.Format.{Format}
use Rattle.quotient.specs.Inner.{numerator_bits, rounds_up}
use Rattle.nodes.specs.Nodes.{numerator, leading_one, decode_under}
use Rattle.nodes.specs.declared.Quotients.{Quotients}

-- the leading one that words leave out in a form; none, 0, where they hold it
abbrev pub lead_in : Form → ℕ → ℕ → ℕ
lead_in Plain k a = leading_one k a
lead_in Full k a = 0

-- those of a format
abbrev pub quotients_of : Format → Quotients
quotients_of F =
    let k = precision_of F in
    let a = table_bits F in
    record { count = word_count F; width = word_width F; numerator = numerator k a; first = 2 ^ k; lead = lead_in F.form k a }

-- What the word at node j of a table stands for, where a product tells that it is the quotient rounded up.
-- Of the divisor and of the value the lowest 32 bits count.
abbrev pub judged_word : Quotients → ℕ → ℕ → Option TableUnits
judged_word t j word =
    cond (rounds_up (numerator_bits t.numerator) ((t.first + j) % 2 ^ 32) (decode_under t.lead j word % 2 ^ 32))
    (Some (record { 0 = decode_under t.lead j word }))
    None
