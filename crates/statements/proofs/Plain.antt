-- Plain words, in numbers.
--
-- What Refusals and Construction say of every format is said here of `plain_of k`, the plain words of precision k with
-- the usual guard bits: two of the table and three of the input.
-- Its image is 2^k words of 2k + 2 bits, in whole bytes, so that nothing fills the last one.
-- The word of node j is c(j) modulo 2^(2k+2), and node 2^k has none.
--
-- The format: plain_count, plain_width, plain_length, plain_table, plain_right, plain_place.
-- Refusal 2: plain_refuses_2.
-- Refusal 6, which node 2^k never gives: plain_check_refuses_6, plain_check_place_6, plain_node_refuses_6,
-- plain_last_never_6, plain_reciprocal_refuses_6.
-- Refusal 7, for a byte past the image that is not zero, at the lowest: plain_check_refuses_7, plain_check_place_7.
-- What is served: plain_check_serves, plain_node_serves, plain_reciprocal_serves.
-- The bytes that are shown: plain_part_empty, plain_part_length, plain_part_from, plain_part_bytes.
-- The image: plain_built_word, plain_built_tail, plain_read_back, plain_passes_words, plain_words_right.
-- The reciprocal in the last piece, which reads one word: plain_by_lower_word.
-- A zero word at node 0, and node 2^k: plain_zero_word, plain_last_node.
--
-- All else that Refusals, Construction and Bound say of a format F reads so too: 2^k for `word_count F`, 2k + 2 for
-- `word_width F`, k for `precision_of F`, 2 and 3 for its guard bits, and `IsPrecision k` for `IsOffered F`.
-- So 18 is never given, by the page Usual.
use mathlib.Core.Path.{◌≡◌, refl}
use mathlib.Core.Logic.{◌↔◌, ◌⊎◌}
use mathlib.Core.List.{List, []}
use Prim.Native.Nat.{ℕ, ◌+◌, ◌-◌, ◌*◌, ◌/◌, ◌%◌, ◌^◌, ◌≤◌, ◌<◌}
use native.Mathlib.Omega.{arith}
use lib.ListN.{length, take, get_or}
use Rattle.precision.specs.Precision.{image_length}
use Rattle.format.specs.Format.{plain_of, word_count, word_width}
use Rattle.format.specs.Format as formats
use Rattle.nodes.specs.Nodes.{node}
use Rattle.packing.specs.Packing.{Bytes, word_at}
use Rattle.packing.specs.Writing.{writer_before}
use Rattle.answers.specs.Refusal.{served}
use Rattle.image.specs.Image.{table_of, image}
use Rattle.image.specs.Calls.{build_outcome, build_leaves, check_outcome, node_outcome, shown_part, shown_from}
use Rattle.image.proofs.Laws.{whole_bytes}
use Rattle.operand.specs.Operand.{cut_operand}
use Rattle.interpolation.specs.Algorithm.{node_number}
use Rattle.interpolation.specs.Calls.{reciprocal_outcome}
use Rattle.statements.specs.Terms.{IsPrecision, IsRightAt, IsTailZero, IsFractionCount, IsNormalised}
use Rattle.statements.proofs.Iff.{joined, none, same, usual_guards, usual2, usual3, usual4, usual5, usual6}
use Rattle.statements.proofs.Refusals
use Rattle.statements.proofs.Construction
use Rattle.statements.proofs.Guards
use Rattle.statements.proofs.Built
use Rattle.statements.proofs.Tails.{none_filling, zero_parts, set_byte}

module _ (k : ℕ) where
  pub plain_count : word_count (plain_of k) ≡ 2 ^ k
  plain_count = refl

  pub plain_width : word_width (plain_of k) ≡ 2 * k + 2
  plain_width = refl

  -- the image length is the precision's, 2^k × (2k + 2) / 8 (length_eighth, on the page Construction)
  pub plain_length : formats.image_length (plain_of k) ≡ image_length k
  plain_length = refl

  pub plain_table : table_of (plain_of k) ≡ record { count = 2 ^ k; width = 2 * k + 2; word = λ (j : ℕ). node k 2 j % 2 ^ (2 * k + 2) }
  plain_table = refl

  -- the word of node j is right
  pub plain_right : (s : List ℕ) (j : ℕ) → IsRightAt (plain_of k) s j ↔ (word_at (2 * k + 2) s j ≡ node k 2 j % 2 ^ (2 * k + 2))
  plain_right s j = same

  -- where the bit place stands after the last word
  pub plain_place : IsPrecision k → (writer_before (2 * k + 2) (node k 2) (2 ^ k)).place ≡ 2 ^ k * (2 * k + 2)
  plain_place p = Construction.place_after_plain k 2 3 p usual_guards

-- A buffer s.
module _ (k : ℕ) (s : List ℕ) where
  -- the bytes past the image are zero
  tail_bytes : IsPrecision k → image_length k ≤ length s → Bytes s → IsTailZero (plain_of k) s ↔ ((i : ℕ) → image_length k ≤ i → i < length s → get_or s i 0 ≡ 0)
  tail_bytes p l bytes =
      joined (zero_parts (plain_of k) s bytes l) (λ t. t.1, λ z. (none_filling (plain_of k) s (whole_bytes k p.0), z))

  -- 2: the buffer is shorter than the image
  pub plain_refuses_2 : ((build_outcome (plain_of k) s).number ≡ 2) ↔ (IsPrecision k × (length s < image_length k))
  plain_refuses_2 = joined (Refusals.build_refuses_2 (plain_of k) s) usual2

  -- 6: a word is not the construction's, at the lowest such node
  pub plain_check_refuses_6 : ((check_outcome (plain_of k) s).number ≡ 6)
      ↔ (IsPrecision k × (image_length k ≤ length s) × ((j : ℕ) × (j < 2 ^ k) × (word_at (2 * k + 2) s j ≡ node k 2 j % 2 ^ (2 * k + 2) → ⊥)))
  plain_check_refuses_6 = joined (Refusals.check_refuses_6 (plain_of k) s) usual3

  pub plain_check_place_6 : (check_outcome (plain_of k) s).number ≡ 6
      → ((check_outcome (plain_of k) s).place < 2 ^ k) × (IsRightAt (plain_of k) s (check_outcome (plain_of k) s).place → ⊥) × ((i : ℕ) → i < (check_outcome (plain_of k) s).place → IsRightAt (plain_of k) s i)
  plain_check_place_6 = Refusals.check_place_6 (plain_of k) s

  -- 7: the words are right, and a byte past the image is not zero
  pub plain_check_refuses_7 : Bytes s → ((check_outcome (plain_of k) s).number ≡ 7)
      ↔ (IsPrecision k × (image_length k ≤ length s) × ((j : ℕ) → j < 2 ^ k → IsRightAt (plain_of k) s j) × ((i : ℕ) × (image_length k ≤ i) × (i < length s) × (get_or s i 0 ≡ 0 → ⊥)))
  plain_check_refuses_7 bytes =
      joined (joined (Refusals.check_refuses_7 (plain_of k) s) usual4) (
        λ t. let w = (set_byte (plain_of k) s (whole_bytes k t.0.0) bytes t.3.0).0 t.3.1 in (t.0, t.1, t.2, (t.3.0, w.0, w.1, w.2)),
        λ t. (t.0, t.1, t.2, (t.3.0, (set_byte (plain_of k) s (whole_bytes k t.0.0) bytes t.3.0).1 (t.3.1, t.3.2, t.3.3))),
      )

  -- the place is the lowest such byte: every byte of the tail before it is zero
  pub plain_check_place_7 : Bytes s → (check_outcome (plain_of k) s).number ≡ 7
      → ((image_length k ≤ (check_outcome (plain_of k) s).place) × ((check_outcome (plain_of k) s).place < length s) × (get_or s (check_outcome (plain_of k) s).place 0 ≡ 0 → ⊥)) × ((i : ℕ) → image_length k ≤ i → i < (check_outcome (plain_of k) s).place → get_or s i 0 ≡ 0)
  plain_check_place_7 bytes e =
      let p = ((Refusals.check_refuses_7 (plain_of k) s).0 e).0.0 in
      Refusals.check_place_byte (plain_of k) s bytes e (none_filling (plain_of k) s (whole_bytes k p.0))

  pub plain_check_serves : Bytes s → ((check_outcome (plain_of k) s).number ≡ 0)
      ↔ (IsPrecision k × (image_length k ≤ length s) × ((j : ℕ) → j < 2 ^ k → IsRightAt (plain_of k) s j) × ((i : ℕ) → image_length k ≤ i → i < length s → get_or s i 0 ≡ 0))
  plain_check_serves bytes =
      joined (joined (Refusals.check_serves (plain_of k) s) usual4)
      (λ t. (t.0, t.1, t.2, (tail_bytes t.0 t.1 bytes).0 t.3), λ t. (t.0, t.1, t.2, (tail_bytes t.0 t.1 bytes).1 t.3))

  -- reading node j, up to 2^k - 1 from its word and at 2^k from none
  module _ (j : ℕ) where
    pub plain_node_refuses_6 : ((node_outcome (plain_of k) s j).number ≡ 6) ↔ (IsPrecision k × (image_length k ≤ length s) × (j < 2 ^ k) × (IsRightAt (plain_of k) s j → ⊥))
    plain_node_refuses_6 = joined (Refusals.node_refuses_6 (plain_of k) s j) usual4

    pub plain_node_serves : ((node_outcome (plain_of k) s j).number ≡ 0) ↔ (IsPrecision k × (image_length k ≤ length s) × (j ≤ 2 ^ k) × (j < 2 ^ k → IsRightAt (plain_of k) s j))
    plain_node_serves = joined (Refusals.node_serves (plain_of k) s j) usual4

  -- a zero word means 2^(2k+3) at node 0
  pub plain_zero_word : IsPrecision k → image_length k ≤ length s → (word_at (2 * k + 2) s 0 ≡ 0) ↔ (node_outcome (plain_of k) s 0 ≡ served (2 ^ (2 * k + 3)))
  plain_zero_word p = Construction.zero_word_first k 2 3 s (p, usual_guards)

  -- node 2^k, which has no word, is implied, and is 2^(2k+2)
  pub plain_last_node : IsPrecision k → image_length k ≤ length s → node_outcome (plain_of k) s (2 ^ k) ≡ served (2 ^ (2 * k + 2))
  plain_last_node p l = Guards.last_node_served k 2 3 s l (p, usual_guards)

  -- so node 2^k never gives 6
  pub plain_last_never_6 : (node_outcome (plain_of k) s (2 ^ k)).number ≡ 6 → ⊥
  plain_last_never_6 e = omega (arith, ((plain_node_refuses_6 (2 ^ k)).0 e).2)

  -- the reciprocal: where j + 1 is 2^k only the word of j is read
  module _ (n X : ℕ) where
    abbrev j : ℕ
    j = node_number k 3 (cut_operand k 3 n X)

    pub plain_reciprocal_refuses_6 : ((reciprocal_outcome (plain_of k) s n X).number ≡ 6)
        ↔ (IsPrecision k × (image_length k ≤ length s) × IsFractionCount n × IsNormalised n X × ((IsRightAt (plain_of k) s j → ⊥) ⊎ ((j + 1 < 2 ^ k) × (IsRightAt (plain_of k) s (j + 1) → ⊥))))
    plain_reciprocal_refuses_6 = joined (Refusals.reciprocal_refuses_6 (plain_of k) s n X) usual5

    pub plain_reciprocal_serves : ((reciprocal_outcome (plain_of k) s n X).number ≡ 0)
        ↔ (IsPrecision k × (image_length k ≤ length s) × IsFractionCount n × IsNormalised n X × IsRightAt (plain_of k) s j × (j + 1 < 2 ^ k → IsRightAt (plain_of k) s (j + 1)))
    plain_reciprocal_serves = joined (Refusals.reciprocal_serves (plain_of k) s n X) usual6

    pub plain_by_lower_word : (s' : List ℕ) → image_length k ≤ length s → image_length k ≤ length s' → j + 1 ≡ 2 ^ k → word_at (2 * k + 2) s j ≡ word_at (2 * k + 2) s' j
        → reciprocal_outcome (plain_of k) s n X ≡ reciprocal_outcome (plain_of k) s' n X
    plain_by_lower_word s' l m last = Construction.reciprocal_by_lower_word (plain_of k) s s' l m n X (omega (arith, last))

  -- the bytes of words 0 to 2^k - 1 are shown, from byte floor(j × w / 8) to byte floor((j × w + w - 1) / 8) with w =
  -- 2k + 2
  module _ (j : ℕ) where
    pub plain_part_empty : (shown_part (plain_of k) s j ≡ []) ↔ ((IsPrecision k × (image_length k ≤ length s) × (j < 2 ^ k)) → ⊥)
    plain_part_empty = joined (Refusals.part_empty (plain_of k) s j) (none usual3)

    module _ (p : IsPrecision k) (l : image_length k ≤ length s) (h : j < 2 ^ k) where
      pub plain_part_length : length (shown_part (plain_of k) s j) ≡ (j * (2 * k + 2) + (2 * k + 2) - 1) / 8 + 1 - j * (2 * k + 2) / 8
      plain_part_length = Refusals.part_length (plain_of k) s j (p, usual_guards) l h

      pub plain_part_from : shown_from (plain_of k) s j ≡ j * (2 * k + 2) / 8
      plain_part_from = Refusals.part_from (plain_of k) s j (p, usual_guards) l h

      pub plain_part_bytes : (i : ℕ) → i < length (shown_part (plain_of k) s j) → get_or (shown_part (plain_of k) s j) i 0 ≡ get_or s (j * (2 * k + 2) / 8 + i) 0
      plain_part_bytes = Refusals.part_bytes (plain_of k) s j (p, usual_guards) l h

-- A buffer that is long enough for the image of a precision.
module _ (k : ℕ) (p : IsPrecision k) (s : List ℕ) (l : image_length k ≤ length s) where
  -- behind the builder
  pub plain_built_word : (j : ℕ) → j < 2 ^ k → word_at (2 * k + 2) (build_leaves (plain_of k) s) j ≡ node k 2 j % 2 ^ (2 * k + 2)
  plain_built_word = Construction.built_word (plain_of k) (p, usual_guards) s l

  pub plain_built_tail : (i : ℕ) → image_length k ≤ i → i < length s → get_or (build_leaves (plain_of k) s) i 0 ≡ 0
  plain_built_tail i h m = Built.tail_bytes (plain_of k) s (p, usual_guards) l i h (omega (arith, m, Refusals.build_leaves_length (plain_of k) s))

  pub plain_read_back : (j : ℕ) → j ≤ 2 ^ k → node_outcome (plain_of k) (build_leaves (plain_of k) s) j ≡ served (node k 2 j)
  plain_read_back = Construction.node_read_back (plain_of k) (p, usual_guards) s l

  -- before the check: each word is right and each byte past the image is zero
  module _ (bytes : Bytes s) where
    pub plain_passes_words : ((check_outcome (plain_of k) s).number ≡ 0)
        ↔ (((j : ℕ) → j < 2 ^ k → word_at (2 * k + 2) s j ≡ node k 2 j % 2 ^ (2 * k + 2)) × ((i : ℕ) → image_length k ≤ i → i < length s → get_or s i 0 ≡ 0))
    plain_passes_words = joined (plain_check_serves k s bytes) (λ t. (t.2, t.3), λ t. (p, l, t.0, t.1))

    -- the words are right exactly when the first bytes are the image
    pub plain_words_right : ((j : ℕ) → j < 2 ^ k → word_at (2 * k + 2) s j ≡ node k 2 j % 2 ^ (2 * k + 2)) ↔ (take (image_length k) s ≡ image (plain_of k))
    plain_words_right =
        joined (λ r. (r, none_filling (plain_of k) s (whole_bytes k p.0)), λ t. t.0) (Construction.words_right_bytes (plain_of k) (omega arith) s bytes l)
