-- Examples: the set examples hold of the definitions that the contracts cite.
--
-- They stand as literals in specs/Examples.antt, the printed table of precision 2 among them.
-- They are settled by computation, all tables in one statement: examples_hold.
use mathlib.Core.Path.{refl}
use Rattle.quotient.specs.Quotient.{rounded_up}
use Rattle.packing.specs.Packing.{word_at, field_at}
use Rattle.bools.specs.Lowest.{lowest}
use Rattle.std.specs.Fmt.{digits}
use Rattle.lines.specs.Lines.{line_reading, field}
use Rattle.table_text.specs.TableText.{precision_of, line, lines, header, table_of, table_text}
use Rattle.statements.specs.Examples.{length_examples, LengthHolds, image_examples, ImageHolds, rom_examples, RomHolds, fault_examples, FaultHolds, dirty_examples, DirtyHolds, reciprocal_examples, ReciprocalHolds, step_examples, StepHolds, refused_examples, RefusedHolds, limit_examples, LimitHolds, text_examples, TextHolds, Each, ExamplesHold}

-- a row and those after it
infixr 4 ◌also◌
◌also◌ : {A B : Type 0} → A → B → A × B
a also b = (a, b)

lengths_hold : Each LengthHolds length_examples
lengths_hold =
    (refl, refl) also (refl, refl) also (refl, refl) also (refl, refl) also (refl, refl) also (refl, refl)
    also (refl, refl) also (refl, refl) also (refl, refl) also (refl, refl) also (refl, refl) also (refl, refl)
    also (refl, refl) also (refl, refl) also (refl, refl) also (refl, refl) also (refl, refl) also (refl, refl)
    also (refl, refl) also (refl, refl) also tt

images_hold : Each ImageHolds image_examples
unfolding rounded_up word_at field_at lowest
images_hold =
    record { answered = refl; built = refl; read = refl; passes = refl }
    also record { answered = refl; built = refl; read = refl; passes = refl }
    also record { answered = refl; built = refl; read = refl; passes = refl }
    also record { answered = refl; built = refl; read = refl; passes = refl }
    also record { answered = refl; built = refl; read = refl; passes = refl }
    also record { answered = refl; built = refl; read = refl; passes = refl }
    also record { answered = refl; built = refl; read = refl; passes = refl }
    also record { answered = refl; built = refl; read = refl; passes = refl }
    also record { answered = refl; built = refl; read = refl; passes = refl }
    also record { answered = refl; built = refl; read = refl; passes = refl }
    also record { answered = refl; built = refl; read = refl; passes = refl }
    also record { answered = refl; built = refl; read = refl; passes = refl }
    also tt

roms_hold : Each RomHolds rom_examples
unfolding rounded_up word_at field_at lowest
roms_hold =
    record { answered = refl; built = refl; passes = refl }
    also record { answered = refl; built = refl; passes = refl }
    also record { answered = refl; built = refl; passes = refl }
    also tt

faults_hold : Each FaultHolds fault_examples
unfolding rounded_up word_at field_at lowest
faults_hold =
    refl also refl also refl also refl also refl also refl also refl also refl also refl
    also refl also refl also refl also refl also refl also refl also refl also tt

dirty_hold : Each DirtyHolds dirty_examples
unfolding rounded_up word_at field_at lowest
dirty_hold =
    record { turned_back = refl; read = refl; given = refl }
    also record { turned_back = refl; read = refl; given = refl }
    also record { turned_back = refl; read = refl; given = refl }
    also tt

reciprocals_hold : Each ReciprocalHolds reciprocal_examples
unfolding rounded_up word_at field_at
reciprocals_hold =
    record { is_R = refl; given = refl; is_P = tt }
    also record { is_R = refl; given = refl; is_P = tt }
    also record { is_R = refl; given = refl; is_P = refl also tt }
    also record { is_R = refl; given = refl; is_P = tt }
    also record { is_R = refl; given = refl; is_P = tt }
    also record { is_R = refl; given = refl; is_P = tt }
    also record { is_R = refl; given = refl; is_P = tt }
    also record { is_R = refl; given = refl; is_P = tt }
    also record { is_R = refl; given = refl; is_P = tt }
    also record { is_R = refl; given = refl; is_P = tt }
    also record { is_R = refl; given = refl; is_P = tt }
    also record { is_R = refl; given = refl; is_P = tt }
    also record { is_R = refl; given = refl; is_P = tt }
    also record { is_R = refl; given = refl; is_P = tt }
    also record { is_R = refl; given = refl; is_P = refl also tt }
    also record { is_R = refl; given = refl; is_P = tt }
    also record { is_R = refl; given = refl; is_P = tt }
    also record { is_R = refl; given = refl; is_P = tt }
    also record { is_R = refl; given = refl; is_P = tt }
    also record { is_R = refl; given = refl; is_P = tt }
    also record { is_R = refl; given = refl; is_P = tt }
    also record { is_R = refl; given = refl; is_P = tt }
    also record { is_R = refl; given = refl; is_P = tt }
    also record { is_R = refl; given = refl; is_P = tt }
    also tt

steps_hold : Each StepHolds step_examples
unfolding rounded_up
steps_hold =
    record { is_R = refl; is_next = refl; largest = refl }
    also record { is_R = refl; is_next = refl; largest = refl }
    also record { is_R = refl; is_next = refl; largest = refl }
    also record { is_R = refl; is_next = refl; largest = refl }
    also record { is_R = refl; is_next = refl; largest = refl }
    also record { is_R = refl; is_next = refl; largest = refl }
    also record { is_R = refl; is_next = refl; largest = refl }
    also tt

refusals_hold : Each RefusedHolds refused_examples
unfolding rounded_up word_at field_at
refusals_hold = refl also refl also refl also refl also refl also refl also refl also tt

limits_hold : Each LimitHolds limit_examples
limits_hold =
    record { build = refl; leaves = refl; check = refl; node = refl; no_node = refl; operand = refl; no_operand = refl; part = refl }
    also record { build = refl; leaves = refl; check = refl; node = refl; no_node = refl; operand = refl; no_operand = refl; part = refl }
    also record { build = refl; leaves = refl; check = refl; node = refl; no_node = refl; operand = refl; no_operand = refl; part = refl }
    also record { build = refl; leaves = refl; check = refl; node = refl; no_node = refl; operand = refl; no_operand = refl; part = refl }
    also record { build = refl; leaves = refl; check = refl; node = refl; no_node = refl; operand = refl; no_operand = refl; part = refl }
    also record { build = refl; leaves = refl; check = refl; node = refl; no_node = refl; operand = refl; no_operand = refl; part = refl }
    also record { build = refl; leaves = refl; check = refl; node = refl; no_node = refl; operand = refl; no_operand = refl; part = refl }
    also record { build = refl; leaves = refl; check = refl; node = refl; no_node = refl; operand = refl; no_operand = refl; part = refl }
    also record { build = refl; leaves = refl; check = refl; node = refl; no_node = refl; operand = refl; no_operand = refl; part = refl }
    also record { build = refl; leaves = refl; check = refl; node = refl; no_node = refl; operand = refl; no_operand = refl; part = refl }
    also record { build = refl; leaves = refl; check = refl; node = refl; no_node = refl; operand = refl; no_operand = refl; part = refl }
    also record { build = refl; leaves = refl; check = refl; node = refl; no_node = refl; operand = refl; no_operand = refl; part = refl }
    also tt

texts_hold : Each TextHolds text_examples
unfolding precision_of line_reading digits rounded_up field line lines header table_of table_text
texts_hold = refl also refl also refl also tt

pub examples_hold : ExamplesHold
examples_hold = record { lengths = lengths_hold; images = images_hold; roms = roms_hold; faults = faults_hold; dirty = dirty_hold; reciprocals = reciprocals_hold; steps = steps_hold; refusals = refusals_hold; limits = limits_hold; texts = texts_hold }
