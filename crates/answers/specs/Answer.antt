-- The answers of the calls as the code has them, and the number, the place and the value of each.
-- Assumes nothing.
use Rattle.std.specs.Prelude.{ℕ, Result, Ok, Err}
use Rattle.units.specs.declared.TableUnits.{TableUnits}
use Rattle.units.specs.declared.Ulps.{Ulps}
use Rattle.answers.specs.Refusal.{Outcome, served}
use Rattle.answers.specs.declared.Refused.{Refused}
use Rattle.answers.specs.declared.Refused.TheVariants.{Precision, GuardBits, Length, Node, FractionBits, Operand}
use Rattle.answers.specs.declared.Refused.TheVariants.{Word, Tail}
use Rattle.answers.specs.declared.Done.{Done}
use Rattle.answers.specs.declared.NodeRead.{NodeRead}
use Rattle.answers.specs.declared.ReciprocalGiven.{ReciprocalGiven}
use Rattle.answers.specs.declared.Part.{Part}

-- the number of a refusal
abbrev pub number_of : Refused → ℕ
number_of Precision = 1
number_of GuardBits = 18
number_of Length = 2
number_of Node = 3
number_of FractionBits = 4
number_of Operand = 5
number_of (Word j) = 6
number_of (Tail at) = 7

-- its place: the node whose word is wrong, the byte with a one, and else 0
abbrev pub place_of : Refused → ℕ
place_of Precision = 0
place_of GuardBits = 0
place_of Length = 0
place_of Node = 0
place_of FractionBits = 0
place_of Operand = 0
place_of (Word j) = j
place_of (Tail at) = at

-- turned back for a reason
abbrev pub refused : Refused → Outcome
refused why = record { number = number_of why; place = place_of why; value = 0 }

-- an answer as number, place and value, by what its value counts
abbrev pub outcome_of : {T : Type 0} → (T → ℕ) → Result T Refused → Outcome
outcome_of count (Ok v) = served (count v)
outcome_of count (Err why) = refused why

-- the answer of the builder or of the check, whose value is 0
abbrev pub outcome_of_done : Result (Unit {0}) Refused → Outcome
outcome_of_done = outcome_of (λ _. 0)

-- the answer of reading a node, in table units
abbrev pub outcome_of_node : Result TableUnits Refused → Outcome
outcome_of_node = outcome_of (λ c. c.0)

-- the answer of the reciprocal, in ulps
abbrev pub outcome_of_reciprocal : Result Ulps Refused → Outcome
outcome_of_reciprocal = outcome_of (λ R. R.0)

-- an outcome as C has it: of the builder or of the check
abbrev pub done : Outcome → Done
done o = record { number = o.number; place = o.place; value = o.value }

-- of reading a node, its value in table units
abbrev pub node_read : Outcome → NodeRead
node_read o = record { number = o.number; place = o.place; value = record { 0 = o.value } }

-- of the reciprocal, its value in ulps
abbrev pub reciprocal_given : Outcome → ReciprocalGiven
reciprocal_given o = record { number = o.number; place = o.place; value = record { 0 = o.value } }

-- a part of an image, by its first byte's place and its length
abbrev pub part : ℕ → ℕ → Part
part first n = record { offset = first; count = n }
