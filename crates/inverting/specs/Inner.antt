-- What only inner promises cite: what is asked of the fraction bits of a cut operand and of the nodes at the ends of
-- its piece, and what the words of both, side by side in one number, give for it.
-- Assumes nothing.
use Rattle.std.specs.Prelude.{ℕ, ◌+◌, ◌-◌, ◌*◌, ◌/◌, ◌%◌, ◌^◌, ◌≤◌, ◌<◌, Bool, cond, not, List, length}
use Rattle.format.specs.Format.{precision_of, table_bits, input_bits, usual, word_width, image_length}
use Rattle.format.specs.declared.Form.{Form}
use Rattle.format.specs.declared.Format.{Format}
use Rattle.quotient.specs.Inner.{rounds_up}
use Rattle.nodes.specs.Nodes.{numerator, decode_under}
use Rattle.nodes.specs.Inner.{lead_in}
use Rattle.answers.specs.Refusal.{Outcome, served}
use Rattle.interpolation.specs.Algorithm.{product_sum, chopped}

-- precision and buffer keep their limits, and bits is a number of 2k + 3 bits
pub record IsCut (f : Form) (k : ℕ) (s : List ℕ) (bits : ℕ) : Type 0 where
  pub low : 1 ≤ k
  pub high : k ≤ 12
  pub long : image_length (usual f k) ≤ length s
  pub below : bits < 2 ^ (2 * k + 3)

-- k is a precision, and a piece begins at node j
pub record IsPieceOf (k j : ℕ) : Type 0 where
  pub low : 1 ≤ k
  pub high : k ≤ 12
  pub below : j < 2 ^ k

-- c and c' can stand at the ends of a piece of width 2^w, f is a fraction of it, and P has its place in 64 bits
pub record IsPiece (c c' f w : ℕ) : Type 0 where
  pub small : w < 64
  pub fits : c * 2 ^ w < 2 ^ 64
  pub falls : c' ≤ c
  pub inside : f ≤ 2 ^ w

-- two words, side by side at the top of 64 bits
abbrev pub both_in : Format → ℕ → ℕ
both_in F window = window / 2 ^ (64 - 2 * word_width F)

-- what the first word, in the high bits, stands for: node j, at the lower end of a piece
abbrev pub lower_end : Format → ℕ → ℕ → ℕ
lower_end F both j = decode_under (lead_in F.form (precision_of F) (table_bits F)) j (both / 2 ^ word_width F)

-- what the second word, in the low bits, stands for: node j + 1, at its upper end
abbrev pub upper_end : Format → ℕ → ℕ → ℕ
upper_end F both j = decode_under (lead_in F.form (precision_of F) (table_bits F)) (j + 1) (both % 2 ^ word_width F)

-- c is the quotient of node j rounded up, by a product
abbrev pub passes : ℕ → ℕ → ℕ → ℕ → Bool
passes k a j c = rounds_up (numerator k a) (2 ^ k + j) c

-- refusal 6 at a node
abbrev pub wrong_at : ℕ → Outcome
wrong_at j = record { number = 6; place = j; value = 0 }

-- the word of node j is judged first; where both pass R is interpolated between what they stand for
abbrev pub ends_outcome : Format → ℕ → ℕ → ℕ → Outcome
ends_outcome F both j f =
    let k = precision_of F in
    let a = table_bits F in
    let b = input_bits F in
    cond (not (passes k a j (lower_end F both j))) (wrong_at j)
    (cond (not (passes k a (j + 1) (upper_end F both j))) (wrong_at (j + 1))
    (served (chopped k a b (product_sum k b (lower_end F both j) (upper_end F both j) f))))
