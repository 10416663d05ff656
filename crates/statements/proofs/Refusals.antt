-- Refusals: what is turned back, by which number and at which place, in a fixed order, with every lent byte as found.
--
-- A call that breaks a limit is turned back by the number of the first refusal that applies, and names a place.
-- A call that breaks none is served.
-- Numbers and order are those of docs/SCOPE.md, "Turned back, in checking order".
-- Each theorem is of every format F, that is of every precision, both forms of words and all guard bits.
-- The pages Plain and Full say in the numbers of one form what reads otherwise there.
-- The page Guards says what guard bits do.
-- Each clause names the theorems that settle it, which stand on this page where no other is named.
--
-- 1. A limit that is broken turns the call back by the number that is listed for it.
--    The builder: build_refuses_1, build_refuses_18, build_refuses_2.
--    The check: check_refuses_1, check_refuses_18, check_refuses_2, check_refuses_6, check_refuses_7.
--    A node: node_refuses_1, node_refuses_18, node_refuses_2, node_refuses_3, node_refuses_6.
--    The reciprocal: reciprocal_refuses_1, reciprocal_refuses_18, reciprocal_refuses_2, reciprocal_refuses_4,
--    reciprocal_refuses_5, reciprocal_refuses_6.
--    A call has no other numbers: build_numbers, check_numbers, node_numbers, reciprocal_numbers.
-- 2. The order is the listed one, in which 18 stands right behind 1.
--    By the theorems of 1 the number is r exactly where refusal r applies and none that is listed before it.
--    They say nothing of those listed after it, so that where two apply the earlier one gives the number.
-- 3. The place is 0 but under 6 and 7: build_place, check_place, node_place_0, reciprocal_place_0.
--    Under 6 it is the lowest node whose word is read and wrong: check_place_6, node_place_6, reciprocal_place_lower,
--    reciprocal_place_upper.
--    Under 7, which the check alone gives, it is the lowest byte that has a one behind the last word: check_place_7.
--    That byte is the image's last one where a filling bit is one: check_place_filling.
--    Otherwise it is the lowest byte past the image that is not zero: check_place_byte.
--    The value is then 0: build_value, check_value, node_refused_value, reciprocal_refused_value.
-- 4. Where bytes are shown there is no number, and the call is turned back by an empty part: part_empty.
--    As place and number of bytes: part_at_front, part_none.
--    What is shown otherwise: part_length, part_from, part_bytes.
-- 5. Where a call is turned back, every lent byte is left as found: build_refused_leaves.
--    Where the builder serves, the buffer is the image and zeros: built_rom, on the page Construction.
--    In any case it has the length that it had: build_leaves_length.
--    Of these calls the builder alone is lent a `&mut [u8]`.
--    What is behind a `&[u8]` no call can write, by its type.
-- 6. What breaks no limit is served, and the number is 0 exactly where none is broken: build_serves, check_serves,
--    node_serves, reciprocal_serves.
--    The place is then 0: build_place, check_place, node_place_0, reciprocal_served_place.
--    The value is 0 of the builder and the check: build_value, check_value.
--    Of a node it is c(j): node_served_value.
--    Of the reciprocal it is R: given_is_R, on the page Bound.
-- 7. The same holds through a bound table, whose making turns nothing back: bound-node, bound-reciprocal.
-- 8. All of it holds for all contents: F, j, n and X are any, F of any numbers k, a and b.
--    s is any list of numbers, of any length, whether they are bytes or not.
--    Where a whole byte is said to be zero or not, s is a list of bytes, as every lent slice is: check_place_byte.
--    Beside it a theorem assumes at most which number was given, whether the word of node j is right, whether a filling
--    bit is one, or whether a word is shown.
-- 9. All of it holds whether or not the caller has looked first.
--    No open function has a `requires`, those for C among them.
--    What a call promises is, on all inputs, an equation with the definitions of which this page speaks.
--    These are `build_outcome` and `build_leaves` of `building::build`, and `check_outcome` of `checking::check`.
--    `node_outcome` is of `reading::node` and `BoundTable::node`.
--    `reciprocal_outcome` is of `inverting::reciprocal` and `BoundTable::reciprocal`.
--    `shown_part` and `shown_from` are of `reading::word_bytes`, `shown_from` and `shown_count` of
--    `reading::word_part`.
--    `bound` is of `BoundTable::new`.
--    Clauses beside the equations say what they come to: `value`, `within_ulp`, `passes`.
use mathlib.Core.Path.{◌≡◌, refl}
use mathlib.Core.Logic.{◌↔◌, ◌⊎◌}
use mathlib.Core.List.{List, [], ◌∷◌}
use Prim.Native.Nat.{ℕ, ◌+◌, ◌-◌, ◌*◌, ◌/◌, ◌^◌, ◌≤◌, ◌<◌}
use lib.Dec.{T}
use lib.ListN.{length, get_or}
use denote.Ref.{Bor}
use Rattle.format.specs.Format.{precision_of, table_bits, input_bits, word_count, word_width, image_length}
use Rattle.format.specs.declared.Format.{Format}
use Rattle.nodes.specs.Nodes.{node}
use Rattle.packing.specs.Packing.{Bytes, bit_at}
use Rattle.answers.specs.Refusal.{is_one_of}
use Rattle.answers.proofs.Order.{listed, first, later, placed, value_of_0, refused_value, served_value}
use Rattle.layout.specs.Refusals.{image_refusal, word_refusal, tail_refusal}
use Rattle.image.specs.Image.{table_of, node_of}
use Rattle.image.specs.Refusals.{node_refusal}
use Rattle.image.proofs.Given.{node_given}
use Rattle.image.specs.Calls.{build_refusals, build_outcome, build_leaves, check_refusals, check_outcome, node_refusals, node_outcome, shown_part, shown_from, shown_count}
use Rattle.operand.specs.Operand.{cut_operand}
use Rattle.interpolation.specs.Algorithm.{node_number}
use Rattle.interpolation.specs.Reciprocal.{read_reciprocal}
use Rattle.interpolation.specs.Calls.{reciprocal_refusals, reciprocal_outcome}
use Rattle.binding.specs.Bound.{bound}
use Rattle.statements.specs.Terms.{IsPrecision, AreGuardBits, IsOffered, IsLongEnough, IsRightAt, IsSetPast, IsTailZero, IsFractionCount, IsNormalised}
use Rattle.statements.proofs.Iff.{joined, both, row3, row4, same, some_wrong, none_wrong, some_past, none_past}
use Rattle.statements.proofs.Built.{left_as_found, built_as_long}
use Rattle.statements.proofs.Numbers.{alone, refuses_1, refuses_18, refuses_2, later_number, of_content, first-wrong, number_7, set_place, node_number_3, node_number_6, node_number_0, node_place}
use Rattle.statements.proofs.Reciprocals
use Rattle.statements.proofs.Tails.{filling_place, byte_place}
use Rattle.statements.proofs.Parts.{shown_empty, shown_length, shown_first, shown_bytes, shown_none, hidden_at_front}

-- The builder.
module _ (F : Format) (s : List ℕ) where
  -- 1: the precision is below 1 or above 12
  pub build_refuses_1 : ((build_outcome F s).number ≡ 1) ↔ (IsPrecision (precision_of F) → ⊥)
  build_refuses_1 = refuses_1 F s [] 0 tt

  -- 18: the table guard bits are not 2 to 4, or the input guard bits, which play no part in an image, not 3 to 5
  pub build_refuses_18 : ((build_outcome F s).number ≡ 18) ↔ (IsPrecision (precision_of F) × (AreGuardBits (table_bits F) (input_bits F) → ⊥))
  build_refuses_18 = refuses_18 F s [] 0 tt

  -- 2: the image buffer is shorter than the image of the format
  pub build_refuses_2 : ((build_outcome F s).number ≡ 2) ↔ (IsOffered F × (length s < image_length F))
  build_refuses_2 = refuses_2 F s [] 0 tt

  -- whatever breaks none is served
  pub build_serves : ((build_outcome F s).number ≡ 0) ↔ (IsOffered F × IsLongEnough F s)
  build_serves = joined (later_number F s [] 0 0 tt tt tt) (both same alone)

  -- and there is no other number
  pub build_numbers : T (is_one_of (build_outcome F s).number (0 ∷ 1 ∷ 18 ∷ 2 ∷ []))
  build_numbers = listed (0 ∷ 1 ∷ 18 ∷ 2 ∷ []) (build_refusals F s) 0 tt tt

  -- place and value are 0
  pub build_place : (build_outcome F s).place ≡ 0
  build_place = placed [] (build_refusals F s) 0 tt tt

  pub build_value : (build_outcome F s).value ≡ 0
  build_value = value_of_0 (build_refusals F s)

  -- every lent byte is left as found where the call is turned back, and in any case their number
  pub build_refused_leaves : ((build_outcome F s).number ≡ 0 → ⊥) → build_leaves F s ≡ s
  build_refused_leaves = left_as_found F s

  pub build_leaves_length : length (build_leaves F s) ≡ length s
  build_leaves_length = built_as_long F s

-- The check.
module _ (F : Format) (s : List ℕ) where
  pub check_refuses_1 : ((check_outcome F s).number ≡ 1) ↔ (IsPrecision (precision_of F) → ⊥)
  check_refuses_1 = refuses_1 F s (of_content F s) 0 tt

  pub check_refuses_18 : ((check_outcome F s).number ≡ 18) ↔ (IsPrecision (precision_of F) × (AreGuardBits (table_bits F) (input_bits F) → ⊥))
  check_refuses_18 = refuses_18 F s (of_content F s) 0 tt

  pub check_refuses_2 : ((check_outcome F s).number ≡ 2) ↔ (IsOffered F × (length s < image_length F))
  check_refuses_2 = refuses_2 F s (of_content F s) 0 tt

  -- 6: a word is not the construction's, whatever the tail holds
  pub check_refuses_6 : ((check_outcome F s).number ≡ 6) ↔ (IsOffered F × IsLongEnough F s × ((j : ℕ) × (j < word_count F) × (IsRightAt F s j → ⊥)))
  check_refuses_6 =
      joined (later_number F s (of_content F s) 0 6 tt tt tt)
      (joined (both same (both same (joined (first (image_refusal (table_of F) s) (tail_refusal (table_of F) s ∷ []) 0 tt) (some_wrong F s)))) row3)

  -- 7: the words are right, and a byte has a one behind the last of them
  pub check_refuses_7 : ((check_outcome F s).number ≡ 7)
      ↔ (IsOffered F × IsLongEnough F s × ((j : ℕ) → j < word_count F → IsRightAt F s j) × ((i : ℕ) × IsSetPast F s i))
  check_refuses_7 = joined (number_7 F s) (joined (both same (both same (both same (some_past F s)))) row4)

  pub check_serves : ((check_outcome F s).number ≡ 0) ↔ (IsOffered F × IsLongEnough F s × ((j : ℕ) → j < word_count F → IsRightAt F s j) × IsTailZero F s)
  check_serves =
      joined (later_number F s (of_content F s) 0 0 tt tt tt)
      (joined (both same (both same
      (joined (later 0 (image_refusal (table_of F) s) (tail_refusal (table_of F) s ∷ []) 0 tt)
      (both (none_wrong F s) (joined (later 0 (tail_refusal (table_of F) s) [] 0 tt) (joined alone (none_past F s))))))) row4)

  pub check_numbers : T (is_one_of (check_outcome F s).number (0 ∷ 1 ∷ 18 ∷ 2 ∷ 6 ∷ 7 ∷ []))
  check_numbers = listed (0 ∷ 1 ∷ 18 ∷ 2 ∷ 6 ∷ 7 ∷ []) (check_refusals F s) 0 tt tt

  -- the place is 0 but under 6 and 7
  pub check_place : ((check_outcome F s).number ≡ 6 → ⊥) → ((check_outcome F s).number ≡ 7 → ⊥) → (check_outcome F s).place ≡ 0
  check_place f g = placed (6 ∷ 7 ∷ []) (check_refusals F s) 0 tt (f, (g, tt))

  -- under 6 it is the lowest wrong node: its word is wrong and every word before it is right
  pub check_place_6 : (check_outcome F s).number ≡ 6 → ((check_outcome F s).place < word_count F) × (IsRightAt F s (check_outcome F s).place → ⊥) × ((i : ℕ) → i < (check_outcome F s).place → IsRightAt F s i)
  check_place_6 e = let t = check_refuses_6.0 e in first-wrong F s t.0 t.1 t.2.0 t.2.1 t.2.2

  -- under 7 it is the lowest byte with a one behind the last word: it has one, and every bit from there on before that
  -- byte is zero
  pub check_place_7 : (check_outcome F s).number ≡ 7
      → IsSetPast F s (check_outcome F s).place × ((bit : ℕ) → word_count F * word_width F ≤ bit → bit < 8 * (check_outcome F s).place → bit_at s bit ≡ 0)
  check_place_7 e = set_place F s e

  -- a filling bit that is one, a bit behind the last word in the image, counts at the image's last byte
  pub check_place_filling : (check_outcome F s).number ≡ 7 → (bit : ℕ) → word_count F * word_width F ≤ bit → bit < 8 * image_length F → bit_at s bit ≡ 1 → (check_outcome F s).place ≡ image_length F - 1
  check_place_filling = filling_place F s

  -- where none is, the place is the lowest byte past the image that is not zero
  pub check_place_byte : Bytes s → (check_outcome F s).number ≡ 7 → ((bit : ℕ) → word_count F * word_width F ≤ bit → bit < 8 * image_length F → bit_at s bit ≡ 0)
      → ((image_length F ≤ (check_outcome F s).place) × ((check_outcome F s).place < length s) × (get_or s (check_outcome F s).place 0 ≡ 0 → ⊥)) × ((i : ℕ) → image_length F ≤ i → i < (check_outcome F s).place → get_or s i 0 ≡ 0)
  check_place_byte = byte_place F s

  pub check_value : (check_outcome F s).value ≡ 0
  check_value = value_of_0 (check_refusals F s)

-- Reading a node.
module _ (F : Format) (s : List ℕ) (j : ℕ) where
  pub node_refuses_1 : ((node_outcome F s j).number ≡ 1) ↔ (IsPrecision (precision_of F) → ⊥)
  node_refuses_1 = refuses_1 F s (node_refusal (precision_of F) j ∷ word_refusal (table_of F) s j ∷ []) (node_of F s j) tt

  pub node_refuses_18 : ((node_outcome F s j).number ≡ 18) ↔ (IsPrecision (precision_of F) × (AreGuardBits (table_bits F) (input_bits F) → ⊥))
  node_refuses_18 = refuses_18 F s (node_refusal (precision_of F) j ∷ word_refusal (table_of F) s j ∷ []) (node_of F s j) tt

  pub node_refuses_2 : ((node_outcome F s j).number ≡ 2) ↔ (IsOffered F × (length s < image_length F))
  node_refuses_2 = refuses_2 F s (node_refusal (precision_of F) j ∷ word_refusal (table_of F) s j ∷ []) (node_of F s j) tt

  -- 3: the node number is above 2^k
  pub node_refuses_3 : ((node_outcome F s j).number ≡ 3) ↔ (IsOffered F × IsLongEnough F s × (2 ^ precision_of F < j))
  node_refuses_3 =
      joined (later_number F s (node_refusal (precision_of F) j ∷ word_refusal (table_of F) s j ∷ []) (node_of F s j) 3 tt tt tt)
      (joined (both same (both same (node_number_3 F s j (node_of F s j)))) row3)

  -- 6: the word of node j is not the construction's; a node that has none, as node 2^k in plain words, never gives it
  pub node_refuses_6 : ((node_outcome F s j).number ≡ 6) ↔ (IsOffered F × IsLongEnough F s × (j < word_count F) × (IsRightAt F s j → ⊥))
  node_refuses_6 =
      joined (later_number F s (node_refusal (precision_of F) j ∷ word_refusal (table_of F) s j ∷ []) (node_of F s j) 6 tt tt tt)
      (joined (both same (both same (node_number_6 F s j (node_of F s j)))) row4)

  pub node_serves : ((node_outcome F s j).number ≡ 0) ↔ (IsOffered F × IsLongEnough F s × (j ≤ 2 ^ precision_of F) × (j < word_count F → IsRightAt F s j))
  node_serves =
      joined (later_number F s (node_refusal (precision_of F) j ∷ word_refusal (table_of F) s j ∷ []) (node_of F s j) 0 tt tt tt)
      (joined (both same (both same (node_number_0 F s j (node_of F s j)))) row4)

  pub node_numbers : T (is_one_of (node_outcome F s j).number (0 ∷ 1 ∷ 18 ∷ 2 ∷ 3 ∷ 6 ∷ []))
  node_numbers = listed (0 ∷ 1 ∷ 18 ∷ 2 ∷ 3 ∷ 6 ∷ []) (node_refusals F s j) (node_of F s j) tt tt

  -- the place is 0 but under 6, and there it is node j
  pub node_place_0 : ((node_outcome F s j).number ≡ 6 → ⊥) → (node_outcome F s j).place ≡ 0
  node_place_0 f = placed (6 ∷ []) (node_refusals F s j) (node_of F s j) tt (f, tt)

  pub node_place_6 : (node_outcome F s j).number ≡ 6 → (node_outcome F s j).place ≡ j
  node_place_6 e = let t = node_refuses_6.0 e in node_place F s j (node_of F s j) t.0 t.1 t.2 t.3

  -- a refusal has the value 0, and a node that is served is c(j), whatever bytes the image holds
  pub node_refused_value : ((node_outcome F s j).number ≡ 0 → ⊥) → (node_outcome F s j).value ≡ 0
  node_refused_value = refused_value (node_refusals F s j) (node_of F s j)

  pub node_served_value : (node_outcome F s j).number ≡ 0 → (node_outcome F s j).value ≡ node (precision_of F) (table_bits F) j
  node_served_value = node_given F s j

-- The reciprocal of X with n fraction bits.
module _ (F : Format) (s : List ℕ) (n X : ℕ) where
  -- the words that are read are those of node j and, where it has one, of node j + 1
  abbrev j : ℕ
  j = node_number (precision_of F) (input_bits F) (cut_operand (precision_of F) (input_bits F) n X)

  pub reciprocal_refuses_1 : ((reciprocal_outcome F s n X).number ≡ 1) ↔ (IsPrecision (precision_of F) → ⊥)
  reciprocal_refuses_1 = Reciprocals.reciprocal_1 F s n X

  pub reciprocal_refuses_18 : ((reciprocal_outcome F s n X).number ≡ 18) ↔ (IsPrecision (precision_of F) × (AreGuardBits (table_bits F) (input_bits F) → ⊥))
  reciprocal_refuses_18 = Reciprocals.reciprocal_18 F s n X

  pub reciprocal_refuses_2 : ((reciprocal_outcome F s n X).number ≡ 2) ↔ (IsOffered F × (length s < image_length F))
  reciprocal_refuses_2 = Reciprocals.reciprocal_2 F s n X

  -- 4: n is below 1 or above 63
  pub reciprocal_refuses_4 : ((reciprocal_outcome F s n X).number ≡ 4) ↔ (IsOffered F × IsLongEnough F s × (IsFractionCount n → ⊥))
  reciprocal_refuses_4 = Reciprocals.reciprocal_4 F s n X

  -- 5: X is not from 2^n to 2^(n+1) - 1
  pub reciprocal_refuses_5 : ((reciprocal_outcome F s n X).number ≡ 5) ↔ (IsOffered F × IsLongEnough F s × IsFractionCount n × (IsNormalised n X → ⊥))
  reciprocal_refuses_5 = Reciprocals.reciprocal_5 F s n X

  -- 6: one of the words that are read is not the construction's; where node j + 1 has none, as node 2^k in plain words,
  -- only the word of j is read
  pub reciprocal_refuses_6 : ((reciprocal_outcome F s n X).number ≡ 6)
      ↔ (IsOffered F × IsLongEnough F s × IsFractionCount n × IsNormalised n X × ((IsRightAt F s j → ⊥) ⊎ ((j + 1 < word_count F) × (IsRightAt F s (j + 1) → ⊥))))
  reciprocal_refuses_6 = Reciprocals.reciprocal_6 F s n X

  pub reciprocal_serves : ((reciprocal_outcome F s n X).number ≡ 0)
      ↔ (IsOffered F × IsLongEnough F s × IsFractionCount n × IsNormalised n X × IsRightAt F s j × (j + 1 < word_count F → IsRightAt F s (j + 1)))
  reciprocal_serves = Reciprocals.reciprocal_0 F s n X

  pub reciprocal_numbers : T (is_one_of (reciprocal_outcome F s n X).number (0 ∷ 1 ∷ 18 ∷ 2 ∷ 4 ∷ 5 ∷ 6 ∷ []))
  reciprocal_numbers = listed (0 ∷ 1 ∷ 18 ∷ 2 ∷ 4 ∷ 5 ∷ 6 ∷ []) (reciprocal_refusals F s n X) (read_reciprocal F s (cut_operand (precision_of F) (input_bits F) n X)) tt tt

  -- the place is 0 but under 6, and there it is the lowest node whose word is read and wrong: j, or j + 1 where the
  -- word of j is right
  pub reciprocal_place_0 : ((reciprocal_outcome F s n X).number ≡ 6 → ⊥) → (reciprocal_outcome F s n X).place ≡ 0
  reciprocal_place_0 f = placed (6 ∷ []) (reciprocal_refusals F s n X) (read_reciprocal F s (cut_operand (precision_of F) (input_bits F) n X)) tt (f, tt)

  pub reciprocal_place_lower : (reciprocal_outcome F s n X).number ≡ 6 → (IsRightAt F s j → ⊥) → (reciprocal_outcome F s n X).place ≡ j
  reciprocal_place_lower = Reciprocals.lower_place F s n X

  pub reciprocal_place_upper : (reciprocal_outcome F s n X).number ≡ 6 → IsRightAt F s j → (reciprocal_outcome F s n X).place ≡ j + 1
  reciprocal_place_upper = Reciprocals.upper_place F s n X

  -- a refusal has the value 0
  pub reciprocal_refused_value : ((reciprocal_outcome F s n X).number ≡ 0 → ⊥) → (reciprocal_outcome F s n X).value ≡ 0
  reciprocal_refused_value = refused_value (reciprocal_refusals F s n X) (read_reciprocal F s (cut_operand (precision_of F) (input_bits F) n X))

  pub reciprocal_served_place : (reciprocal_outcome F s n X).number ≡ 0 → (reciprocal_outcome F s n X).place ≡ 0
  reciprocal_served_place e = (served_value (reciprocal_refusals F s n X) (read_reciprocal F s (cut_operand (precision_of F) (input_bits F) n X)) tt e).0

-- Through a bound table. Making one has no number and refuses nothing; a node and the reciprocal through it are what
-- the calls on an image give for its format and image, so that all that is said above of these calls is said of them
-- through a table.
module _ (F : Format) (image : Bor (List ℕ)) where
  pub bound-node : (j : ℕ) → node_outcome (bound F image).format (bound F image).image.now j ≡ node_outcome F image.now j
  bound-node j = refl

  pub bound-reciprocal : (n X : ℕ) → reciprocal_outcome (bound F image).format (bound F image).image.now n X ≡ reciprocal_outcome F image.now n X
  bound-reciprocal n X = refl

-- Showing the bytes of one word. That call has no numbers.
module _ (F : Format) (s : List ℕ) (j : ℕ) where
  -- an empty part exactly when refusal 1, 18 or 2 applies or node j has no word: j is above 2^k - 1 in plain words,
  -- above 2^k in full ones
  pub part_empty : (shown_part F s j ≡ []) ↔ ((IsOffered F × IsLongEnough F s × (j < word_count F)) → ⊥)
  part_empty = shown_empty F s j

  -- so by its place and number: no bytes, at the front of the image
  pub part_none : (shown_count F s j ≡ 0) ↔ ((IsOffered F × IsLongEnough F s × (j < word_count F)) → ⊥)
  part_none = shown_none F s j

  pub part_at_front : ((IsOffered F × IsLongEnough F s × (j < word_count F)) → ⊥) → shown_from F s j ≡ 0
  part_at_front = hidden_at_front F s j

  -- and otherwise it runs from byte floor(j × w / 8) to byte floor((j × w + w - 1) / 8), both included, of the caller's
  -- image
  pub part_length : IsOffered F → IsLongEnough F s → j < word_count F → length (shown_part F s j) ≡ (j * word_width F + word_width F - 1) / 8 + 1 - j * word_width F / 8
  part_length = shown_length F s j

  pub part_from : IsOffered F → IsLongEnough F s → j < word_count F → shown_from F s j ≡ j * word_width F / 8
  part_from = shown_first F s j

  pub part_bytes : IsOffered F → IsLongEnough F s → j < word_count F → (i : ℕ) → i < length (shown_part F s j) → get_or (shown_part F s j) i 0 ≡ get_or s (j * word_width F / 8 + i) 0
  part_bytes = shown_bytes F s j
