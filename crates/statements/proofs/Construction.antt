-- Construction: nodes, image and reciprocal are those of Das Sarma and Matula, Algorithms 1 and 2.
--
-- The paper is "Faithful Interpolation in Reciprocal Tables".
-- What was built is read back, and a buffer passes the check exactly where it is an image and then zeros.
-- Each theorem is in the table guard bits a and the input guard bits b.
-- What speaks of an image is of every format F, that is of every precision, both forms of words and all guard bits.
-- The page Usual has nodes and reciprocal in numbers for a = 2 and b = 3, and Plain and Full have each form.
-- The page Guards says what guard bits do.
-- Each clause names the theorems that settle it, which stand on this page where no other is named.
--
-- 1. The nodes are those of Algorithm 1, 2^(3k+a+1) / i rounded up: node_reaches, node_least.
--    Their sizes and order: first_node, last-node, node_between, node_leading_one, node_step.
--    What the call on the constant list of precision 8 gives: node_8_listed, no_node_8.
-- 2. A node is counted in table units, a bits finer than the ulps of R: ulp_in_table_units, one_in_both_units,
--    first_node_is_one, exact_in_table_units.
-- 3. The image is that of these nodes.
--    Its length: length_in_bits, image_bytes; in plain words: length_plain; in full ones: length_full.
--    The longest of all: longest_image, longest_reached.
--    With two table guard bits plain words take whole bytes: length_eighth, image_whole.
--    With three and four all but three images do, by the page Guards.
--    What the call for a length gives: length_listed, no_length.
--    Its words: built_word; what these are: right_word_low, right_word_fits.
--    Its bits: image_bit.
--    The builder leaves it at the front of the buffer, and zeros behind it: built_rom, built_front, built_tail.
--    What a word of any bytes is: word_below, word_bit.
--    What a zero word is: zero_word_first, zero_word_wrong, zero_full_word_wrong.
-- 4. The reciprocal is that of Algorithm 2.
--    Its steps: step_t, step_t_cut, step_t_padded, step_i, step_j, step_f, step_P, step_R.
--    P lies on the line between both nodes: line_P.
--    No difference falls below 0: differences.
--    The call gives it from every image that was built: built_gives.
--    It gives no other from any image: given_is_R, on the page Bound.
--    What is answered to an operand from an image that was built is 4, 5 or R: built_answers.
--    So plain and full images that were built for one precision and equal guard bits give every operand the same
--    answer: forms_agree.
-- 5. With b input guard bits t has 2k + b fraction bits, b more than 2k: step_t, size_t.
--    Of these k go to i and k + b to f: step_i, step_f.
-- 6. Nodes that are read back from a built image are those that were put in: node_read_back.
-- 7. A buffer passes the check exactly where all words of its image are right, and the bits that fill its last byte and
--    its tail are zero: check_passes_words.
--    It does exactly where it is the image and then zeros: check_passes_rom.
--    Words and filling bits are right exactly where its first bytes are the image: words_right_bytes.
--    A buffer that was built passes: built_passes.
-- 8. All of it holds for all contents: what a buffer s holds, also before it is built, is any list of numbers.
--    These alone ask that they are bytes: word_bit, check_passes_words, words_right_bytes, check_passes_rom,
--    node_by_bits, reciprocal_by_bits, check_by_bits.
-- 9. While an image is built, the bit place of the next word is one number, which starts at 0 and grows by the width at
--    each word, for any words and any width that can be put, up to 32: place_starts, place_grows.
--    A word that has room can be put: room_to_put.
--    Where one cannot be put, all stays: put_keeps.
--    Before word j the place is j × w, while that is below 2^64: place_before_word.
--    Each word of up to 32 bits that has room is put so: word_is_put.
--    Of a format the place is j × w before word j, and w times the number of words after the last: place_before_node,
--    place_after_last.
--    That is 2^k × (2k + a) in plain words, (2^k + 1) × (2k + a + 2) in full ones: place_after_plain, place_after_full.
--    What is put then is the image: puts_image.
-- 10. Which words and bytes a call reads is said by what its answer depends on: node_by_its_word, check_by_words,
--    reciprocal_by_words, reciprocal_by_lower_word, word_by_its_bytes.
--    None past the image counts: node_by_image, reciprocal_by_image, part_by_image, part_place_by_image.
--    So it is for the check where a word is wrong: check_by_image.
--    Nor do the filling bits count, but for a check that finds all words right, and in the last of the bytes that are
--    shown of the last word: node_by_bits, reciprocal_by_bits, check_by_bits.
--    The reciprocal reads both words, whatever f is: lower_word_named, upper_word_named, upper_word_named_at_0.
--
-- A theorem assumes no more than ranges of its numbers: that a format can be ordered, that k is a precision or from 1
-- on, that a and b can be ordered, that n is from 1 to 63, or at most or at least 2k + b, that X is normalised, that a
-- buffer is long enough, that its elements are bytes.
-- Where two buffers are compared or a wrong word is named, it assumes which of their words, bytes or bits agree or are
-- wrong, or that both were built.
-- Of puts it assumes that a width is at most 32, that a place is below 2^64, that a word has room, or that it can or
-- cannot be put.
use mathlib.Core.Path.{◌≡◌, refl, sym}
use mathlib.Core.Logic.{◌↔◌}
use mathlib.Core.Bool.{true, false}
use mathlib.Core.List.{List, ◌++◌}
use Prim.Native.Nat.{ℕ, suc, ◌+◌, ◌-◌, ◌*◌, ◌/◌, ◌%◌, ◌^◌, ◌≤◌, ◌<◌}
use native.Mathlib.Omega.{arith}
use lib.ListN.{length, take, drop, get_or}
use Rattle.format.specs.Format.{precision_of, table_bits, input_bits, asked, plain_of, word_count, word_width, image_length, length_or_0}
use Rattle.format.specs.declared.Form.TheVariants.{Plain, Full}
use Rattle.format.specs.declared.Format.{Format}
use Rattle.units.specs.Units.{table_units_in_one, ulps_in_one, table_units_in_ulp}
use Rattle.units.proofs.Laws.{ulp_in_units}
use Rattle.nodes.specs.Nodes.{node, node_or_0}
use Rattle.nodes.proofs.Forms.{stored_lt, stored_low}
use Rattle.nodes.proofs.Nodes.{node_first, node_last, node_above, node_below, node_falls, node_there, node_past}
use Rattle.quotient.proofs.Laws.{reaches, least}
use Rattle.packing.specs.Packing.{Bytes, bit_at, bit_of_word}
use Rattle.packing.specs.Writing.{can_put, put_writer, put_leaves, finish_leaves, writer_before, bytes_before}
use Rattle.packing.specs.declared.writing.Writer.{Writer}
use Rattle.packing.proofs.Written.{can-put, place_after, place-before, word_put}
use Rattle.tail.specs.Tail.{zeros}
use Rattle.packing.proofs.Words.{word_lt}
use Rattle.packing.proofs.Bits.{bit-of-word}
use Rattle.answers.specs.Refusal.{outcome, served}
use Rattle.image.specs.Image.{table_of, image, word_of}
use Rattle.image.specs.Calls.{build_outcome, build_leaves, check_outcome, node_outcome, shown_part, shown_from}
use Rattle.layout.proofs.Laws as layouts
use Rattle.image.proofs.Given
use Rattle.image.proofs.Laws.{eighths, eighth_of_bits}
use Rattle.operand.specs.Operand.{cut_operand}
use Rattle.operand.specs.Refusals.{operand_refusals}
use Rattle.operand.proofs.Laws.{cut_long, cut_short, cut_normalised}
use Rattle.interpolation.specs.Algorithm.{index, node_number, fraction, cut_product_sum}
use Rattle.interpolation.specs.Reciprocal.{reciprocal}
use Rattle.interpolation.specs.Calls.{reciprocal_outcome}
use Rattle.statements.specs.Terms.{IsPrecision, AreGuardBits, IsOffered, IsLongEnough, right_word, IsRightAt, IsTailZero, IsFractionCount, IsNormalised}
use Rattle.statements.proofs.Iff.{joined, both, same, row3, is_told, not_told}
use Rattle.statements.proofs.Refusals.{build_serves, check_serves}
use Rattle.statements.proofs.Bits.{same_words}
use Rattle.statements.proofs.Built
use Rattle.statements.proofs.Depends
use Rattle.statements.proofs.Nodes
use Rattle.statements.proofs.Puts
use Rattle.statements.proofs.Reciprocals
use Rattle.statements.proofs.Sizes
use Rattle.statements.proofs.Tails.{zero_parts}
use Rattle.statements.proofs.Units

-- The nodes (Das Sarma and Matula, Algorithm 1), for every k and a.
module _ (k a : ℕ) where
  -- c(j) is the least whole number with c × i ≥ 2^(3k+a+1), where i = 2^k + j
  pub node_reaches : (j : ℕ) → 2 ^ (3 * k + (a + 1)) ≤ node k a j * (2 ^ k + j)
  node_reaches j = reaches (2 ^ (3 * k + (a + 1))) (2 ^ k + j) (Nodes.index_positive k j)

  pub node_least : (j c : ℕ) → 2 ^ (3 * k + (a + 1)) ≤ c * (2 ^ k + j) → node k a j ≤ c
  node_least j = least (2 ^ (3 * k + (a + 1))) (2 ^ k + j) (Nodes.index_positive k j)

  -- a node is counted in table units and a reciprocal in ulps: one ulp is 2^a table units
  pub ulp_in_table_units : table_units_in_one k a ≡ 2 ^ a * ulps_in_one k
  ulp_in_table_units = ulp_in_units k a

  pub one_in_both_units : table_units_in_one k a ≡ table_units_in_ulp a * ulps_in_one k
  one_in_both_units = ulp_in_units k a

  -- node 0 is one, and 2^(3k+a+1) / i is the exact reciprocal of i / 2^k, which is 2^k / i, in table units
  pub first_node_is_one : node k a 0 ≡ table_units_in_one k a
  first_node_is_one = node_first k a

  pub exact_in_table_units : 2 ^ (3 * k + (a + 1)) ≡ table_units_in_one k a * 2 ^ k
  exact_in_table_units = Units.node_exact k a

  -- c(0) = 2^(2k+a+1) and c(2^k) = 2^(2k+a)
  pub first_node : node k a 0 ≡ 2 ^ (2 * k + (a + 1))
  first_node = node_first k a

  pub last-node : node k a (2 ^ k) ≡ 2 ^ (2 * k + a)
  last-node = node_last k a

  -- every other value lies between them
  pub node_between : (j : ℕ) → 0 < j → j < 2 ^ k → (2 ^ (2 * k + a) < node k a j) × (node k a j < 2 ^ (2 * k + (a + 1)))
  node_between j h l = (node_above k a j l, node_below k a j h)

  -- so but for node 0 every value has 2k + a + 1 bits with a leading one
  pub node_leading_one : (j : ℕ) → 0 < j → j ≤ 2 ^ k → node k a j / 2 ^ (2 * k + a) ≡ 1
  node_leading_one = Nodes.leading-one k a

  -- c falls from node to node
  pub node_step : (j : ℕ) → j < 2 ^ k → node k a (j + 1) < node k a j
  node_step = node_falls k a

-- The reciprocal (Das Sarma and Matula, Algorithm 2), for every k, a, b, n and X: the definitions by the paper's
-- letters, and its steps. Further down `j k b n X` and `f k b n X` are j and f of an operand.
module _ (k b n X : ℕ) where
  abbrev t : ℕ
  t = cut_operand k b n X

  abbrev i : ℕ
  i = index k b t

  abbrev j : ℕ
  j = node_number k b t

  abbrev f : ℕ
  f = fraction k b t

  -- 1. t has 2k + b fraction bits: floor(X / 2^(n-2k-b)) where X has as many or more, X × 2^(2k+b-n) where it has as
  --    many or fewer
  pub step_t : t ≡ X * 2 ^ (2 * k + b - n) / 2 ^ (n - (2 * k + b))
  step_t = refl

  pub step_t_cut : 2 * k + b ≤ n → t ≡ X / 2 ^ (n - (2 * k + b))
  step_t_cut enough = cut_long (2 * k + b) n enough X

  pub step_t_padded : n ≤ 2 * k + b → t ≡ X * 2 ^ (2 * k + b - n)
  step_t_padded few = cut_short (2 * k + b) n few X

  pub size_t : 2 ^ n ≤ X → X < 2 ^ (n + 1) → (2 ^ (2 * k + b) ≤ t) × (t < 2 ^ (2 * k + (b + 1)))
  size_t = cut_normalised k b n X

  -- 2. i = floor(t / 2^(k+b)), j = i - 2^k, f = t modulo 2^(k+b)
  pub step_i : i ≡ t / 2 ^ (k + b)
  step_i = refl

  pub step_j : j ≡ i - 2 ^ k
  step_j = refl

  pub step_f : f ≡ t % 2 ^ (k + b)
  step_f = refl

  module _ (a : ℕ) where
    abbrev c : ℕ → ℕ
    c = node k a

    abbrev P : ℕ
    P = cut_product_sum k a b t

    abbrev R : ℕ
    R = reciprocal k a b n X

    -- 3. P = c(j) × 2^(k+b) - (c(j) - c(j+1)) × f
    pub step_P : P ≡ c j * 2 ^ (k + b) - (c j - c (j + 1)) * f
    step_P = refl

    -- 4. R = floor(P / 2^(k+a+b))
    pub step_R : R ≡ P / 2 ^ (k + (a + b))
    step_R = refl

    -- so P lies on the line between both nodes
    pub line_P : P ≡ c j * (2 ^ (k + b) - f) + c (j + 1) * f
    line_P = Sizes.on_the_line k a b t

    -- no difference of steps 2 and 3 falls below 0 where X is normalised
    pub differences : IsNormalised n X → (2 ^ k + j ≡ i) × (j < 2 ^ k) × (c (j + 1) ≤ c j) × ((c j - c (j + 1)) * f ≤ c j * 2 ^ (k + b))
    differences = Reciprocals.differences k a b n X

-- The image of a format: its words of w bits one behind the other, and zero bits to the end of the last byte.
module _ (F : Format) where
  pub length_in_bits : image_length F ≡ (word_count F * word_width F + 7) / 8
  length_in_bits = refl

  pub image_bytes : length (image F) ≡ image_length F
  image_bytes = layouts.image-length (table_of F)

  -- its words: c(j) modulo 2^(2k+a) in plain words and c(j) itself in full ones, which are in both forms the lowest w
  -- bits of c(j)
  pub right_word_low : (j : ℕ) → right_word F.form (precision_of F) (table_bits F) j ≡ node (precision_of F) (table_bits F) j % 2 ^ word_width F
  right_word_low j = sym (stored_low F.form (precision_of F) (table_bits F) j)

  pub right_word_fits : (j : ℕ) → right_word F.form (precision_of F) (table_bits F) j < 2 ^ word_width F
  right_word_fits = stored_lt F.form (precision_of F) (table_bits F)

-- Plain words take 2^k × (2k + a) bits and full ones (2^k + 1) × (2k + a + 2), and an image the bytes that hold these,
-- whatever b is.
module _ (k a b : ℕ) where
  pub length_plain : image_length (asked Plain k a b) ≡ (2 ^ k * (2 * k + a) + 7) / 8
  length_plain = refl

  pub length_full : image_length (asked Full k a b) ≡ ((2 ^ k + 1) * (2 * k + (a + 2)) + 7) / 8
  length_full = refl

-- No image is longer than 15,364 bytes, which full words of precision 12 with four table guard bits take.
pub longest_image : (F : Format) → IsOffered F → image_length F ≤ 15364
longest_image = Sizes.length_most

pub longest_reached : (b : ℕ) → image_length (asked Full 12 4 b) ≡ 15364
longest_reached b = refl

-- With two table guard bits plain words take 2^k × (2k + 2) / 8 bytes, and these are whole, for every k from 1.
module _ (k : ℕ) (one : 1 ≤ k) where
  pub length_eighth : image_length (plain_of k) ≡ 2 ^ k * (2 * k + 2) / 8
  length_eighth = eighth_of_bits k one

  pub image_whole : 8 * (2 ^ k * (2 * k + 2) / 8) ≡ 2 ^ k * (2 * k + 2)
  image_whole = eighths k one

-- What it holds.
module _ (F : Format) (p : IsOffered F) where
  -- the builder leaves the image and zeros to the end of the buffer, whatever stood there before: of what it is lent,
  -- only the length counts
  pub built_rom : (s : List ℕ) → IsLongEnough F s → build_leaves F s ≡ image F ++ zeros (length s - image_length F)
  built_rom s l = Built.built F s p l

  pub built_front : (s : List ℕ) → IsLongEnough F s → take (image_length F) (build_leaves F s) ≡ image F
  built_front s l = Built.front F s p l

  -- no bit behind the last word is one
  pub built_tail : (s : List ℕ) → IsLongEnough F s → IsTailZero F (build_leaves F s)
  built_tail s l = Built.tail_zero F s p l

  -- the words of a built image are those of the nodes, whatever the buffer held before
  pub built_word : (s : List ℕ) → IsLongEnough F s → (j : ℕ) → j < word_count F → word_of F (build_leaves F s) j ≡ right_word F.form (precision_of F) (table_bits F) j
  built_word s l j h = Built.built_words F s p l j h

  -- every node, from 0 to 2^k, read back from a buffer that was built is served and is c(j), whatever the buffer held
  -- before
  pub node_read_back : (s : List ℕ) → IsLongEnough F s → (j : ℕ) → j ≤ 2 ^ precision_of F → node_outcome F (build_leaves F s) j ≡ served (node (precision_of F) (table_bits F) j)
  node_read_back s l j h = Built.read_back F s p l j h

  -- and the buffer passes the check
  pub built_passes : (s : List ℕ) → IsLongEnough F s → check_outcome F (build_leaves F s) ≡ served 0
  built_passes s l = Given.built_passes F s ((build_serves F s).1 (p, l))

  -- every operand in range is given its R from a buffer that was built, whatever the buffer held before
  pub built_gives : (s : List ℕ) → IsLongEnough F s → (n X : ℕ) → IsFractionCount n → IsNormalised n X → reciprocal_outcome F (build_leaves F s) n X ≡ served (reciprocal (precision_of F) (table_bits F) (input_bits F) n X)
  built_gives s l = Built.built_gives F s p l

  -- so the answer to any operand is 4 or 5 where one of them applies, and R otherwise
  pub built_answers : (s : List ℕ) → IsLongEnough F s → (n X : ℕ) → reciprocal_outcome F (build_leaves F s) n X ≡ outcome (operand_refusals n X) (reciprocal (precision_of F) (table_bits F) (input_bits F) n X)
  built_answers s l = Built.built_answers F s p l

  words_and_tail : (s : List ℕ) → IsLongEnough F s → ((check_outcome F s).number ≡ 0) ↔ (((j : ℕ) → j < word_count F → IsRightAt F s j) × IsTailZero F s)
  words_and_tail s l = joined (check_serves F s) (λ t. (t.2, t.3), λ t. (p, l, t.0, t.1))

  -- a buffer passes the check exactly when each word is the construction's, each bit that fills the image's last byte
  -- is zero, and so is each byte past the image
  pub check_passes_words : (s : List ℕ) → Bytes s → IsLongEnough F s
      → ((check_outcome F s).number ≡ 0)
      ↔ (((j : ℕ) → j < word_count F → word_of F s j ≡ right_word F.form (precision_of F) (table_bits F) j) × ((bit : ℕ) → word_count F * word_width F ≤ bit → bit < 8 * image_length F → bit_at s bit ≡ 0) × ((i : ℕ) → image_length F ≤ i → i < length s → get_or s i 0 ≡ 0))
  check_passes_words s b l = joined (words_and_tail s l) (joined (both same (zero_parts F s b l)) row3)

  -- and the buffer passes exactly when it is the image and then zeros
  pub check_passes_rom : (s : List ℕ) → Bytes s → IsLongEnough F s → ((check_outcome F s).number ≡ 0) ↔ (s ≡ image F ++ zeros (length s - image_length F))
  check_passes_rom s b l = joined (Given.passes_full F s b) (λ t. t.1, λ e. (is_told F p, e))

-- The bytes of an image, for every k and a with which a word has bits.
module _ (F : Format) (some : 1 ≤ word_width F) where
  -- most significant bit first, with no padding: bit q of word j is bit j × w + q of the image
  pub image_bit : (j q : ℕ) → j < word_count F → q < word_width F → bit_at (image F) (j * word_width F + q) ≡ bit_of_word (word_width F) (right_word F.form (precision_of F) (table_bits F) j) q
  image_bit j q h l = Built.image_bits F some j q h l

  -- the words and the filling bits are right exactly when the first bytes are the image
  pub words_right_bytes : (s : List ℕ) → Bytes s → IsLongEnough F s
      → (((j : ℕ) → j < word_count F → word_of F s j ≡ right_word F.form (precision_of F) (table_bits F) j) × ((bit : ℕ) → word_count F * word_width F ≤ bit → bit < 8 * image_length F → bit_at s bit ≡ 0)) ↔ (take (image_length F) s ≡ image F)
  words_right_bytes s b l = Built.right_is_image F s some b l

-- R does not depend on the form: from a plain image and a full one of the same precision and guard bits, both built,
-- whatever their buffers held before and however long they are, every operand has the same answer, number, place and
-- value.
pub forms_agree : (k a b : ℕ) (s s' : List ℕ) → (build_outcome (asked Plain k a b) s).number ≡ 0 → (build_outcome (asked Full k a b) s').number ≡ 0 → (n X : ℕ)
    → reciprocal_outcome (asked Plain k a b) (build_leaves (asked Plain k a b) s) n X ≡ reciprocal_outcome (asked Full k a b) (build_leaves (asked Full k a b) s') n X
forms_agree k a b s s' e d n X =
    let t = (build_serves (asked Plain k a b) s).0 e in
    let u = (build_serves (asked Full k a b) s').0 d in
    Built.same_in_both k a b s s' t.0 t.1 u.1 n X

-- A put, by any writer r, of any word v of w bits into any buffer s. Where the word can be put, the place grows by w,
-- while it stays below 2^64; where the word is wider than 32 bits, or eight bytes are to be stored and have no room,
-- the writer is given back and every byte stays.
module _ (s : List ℕ) (r : Writer) (w v : ℕ) where
  pub place_grows : can_put (length s) r w ≡ true → r.place + w < 2 ^ 64 → (put_writer s r w v).place ≡ r.place + w
  place_grows can few = place_after s r w v can few

  pub put_keeps : can_put (length s) r w ≡ false → (put_writer s r w v ≡ r) × (put_leaves s r w v ≡ s)
  put_keeps cannot = rw cannot (refl, refl)

  -- a word of up to 32 bits that ends within the buffer can be put
  pub room_to_put : w ≤ 32 → r.place + w ≤ 8 * length s → can_put (length s) r w ≡ true
  room_to_put wide room = can-put (length s) r w wide room

-- The bit place while words f(0), f(1), .. of w bits are put one by one, for any f.
module _ (w : ℕ) (f : ℕ → ℕ) where
  pub place_starts : (writer_before w f 0).place ≡ 0
  place_starts = refl

  pub place_before_word : (j : ℕ) → j * w < 2 ^ 64 → (writer_before w f j).place ≡ j * w
  place_before_word j few = place-before w f j few

  -- what a put of word j gives, where it has room, is what stands before word j + 1
  pub word_is_put : (s : List ℕ) (j : ℕ) → w ≤ 32 → j * w + w < 2 ^ 64 → j * w + w ≤ 8 * length s
      → (put_writer (bytes_before w f s j) (writer_before w f j) w (f j) ≡ writer_before w f (suc j)) × (put_leaves (bytes_before w f s j) (writer_before w f j) w (f j) ≡ bytes_before w f s (suc j))
  word_is_put s j wide few room = word_put w f s j wide few room

-- Of a format, whose words are the lowest w bits of the nodes: before word j the place is j × w, after the last it is w
-- times the number of words.
module _ (F : Format) (p : IsOffered F) where
  pub place_before_node : (j : ℕ) → j ≤ word_count F → (writer_before (word_width F) (node (precision_of F) (table_bits F)) j).place ≡ j * word_width F
  place_before_node j h = Puts.place F p j h

  pub place_after_last : (writer_before (word_width F) (node (precision_of F) (table_bits F)) (word_count F)).place ≡ word_count F * word_width F
  place_after_last = Puts.place F p (word_count F) (omega arith)

  -- and with what still waits, the image stands at the front of the buffer, and what was behind it stays
  pub puts_image : (s : List ℕ) → IsLongEnough F s
      → finish_leaves (bytes_before (word_width F) (node (precision_of F) (table_bits F)) s (word_count F)) (writer_before (word_width F) (node (precision_of F) (table_bits F)) (word_count F)) ≡ image F ++ drop (image_length F) s
  puts_image s l = Puts.finished F p s l

-- That is 2^k × w with w = 2k + a for plain words, and (2^k + 1) × w with w = 2k + a + 2 for full ones.
module _ (k a b : ℕ) (p : IsPrecision k) (g : AreGuardBits a b) where
  pub place_after_plain : (writer_before (2 * k + a) (node k a) (2 ^ k)).place ≡ 2 ^ k * (2 * k + a)
  place_after_plain = place_after_last (asked Plain k a b) (p, g)

  pub place_after_full : (writer_before (2 * k + (a + 2)) (node k a) (2 ^ k + 1)).place ≡ (2 ^ k + 1) * (2 * k + (a + 2))
  place_after_full = place_after_last (asked Full k a b) (p, g)

-- What an answer depends on.
module _ (F : Format) (s s' : List ℕ) (l : IsLongEnough F s) (m : IsLongEnough F s') where
  -- a node's answer depends on its own word alone, and of a node that has none on no word
  pub node_by_its_word : (j : ℕ) → (j < word_count F → word_of F s j ≡ word_of F s' j) → node_outcome F s j ≡ node_outcome F s' j
  node_by_its_word = Depends.node_same F s s' l m

  -- where a word is wrong, the check's depends on the words of the image alone, whatever the tail holds; where all are
  -- right, the tail decides (check_serves, check_refuses_7 and check_place_7, on the page Refusals)
  pub check_by_words : (j : ℕ) → j < word_count F → (IsRightAt F s j → ⊥) → ((i : ℕ) → i < word_count F → word_of F s i ≡ word_of F s' i) → check_outcome F s ≡ check_outcome F s'
  check_by_words = Depends.check_same F s s' l m

  -- the reciprocal's depends on the words of j and j + 1 alone, and where node j + 1 has none on that of j
  pub reciprocal_by_words : (n X : ℕ) → word_of F s (j (precision_of F) (input_bits F) n X) ≡ word_of F s' (j (precision_of F) (input_bits F) n X) → (j (precision_of F) (input_bits F) n X + 1 < word_count F → word_of F s (j (precision_of F) (input_bits F) n X + 1) ≡ word_of F s' (j (precision_of F) (input_bits F) n X + 1)) → reciprocal_outcome F s n X ≡ reciprocal_outcome F s' n X
  reciprocal_by_words n X e = Depends.reciprocal_same F s s' l m n X (λ h. e)

  pub reciprocal_by_lower_word : (n X : ℕ) → word_count F ≤ j (precision_of F) (input_bits F) n X + 1 → word_of F s (j (precision_of F) (input_bits F) n X) ≡ word_of F s' (j (precision_of F) (input_bits F) n X) → reciprocal_outcome F s n X ≡ reciprocal_outcome F s' n X
  reciprocal_by_lower_word n X last e = reciprocal_by_words n X e (λ h. absurd (omega (arith, h, last)))

-- The reciprocal reads both words, whatever f is: a wrong one is named, the lower first.
module _ (F : Format) (s : List ℕ) (n X : ℕ) (p : IsOffered F) (l : IsLongEnough F s) (q : IsFractionCount n) (o : IsNormalised n X) where
  pub lower_word_named : (IsRightAt F s (j (precision_of F) (input_bits F) n X) → ⊥) → reciprocal_outcome F s n X ≡ record { number = 6; place = j (precision_of F) (input_bits F) n X; value = 0 }
  lower_word_named = Reciprocals.lower_named F s n X p l q o

  pub upper_word_named : IsRightAt F s (j (precision_of F) (input_bits F) n X) → j (precision_of F) (input_bits F) n X + 1 < word_count F → (IsRightAt F s (j (precision_of F) (input_bits F) n X + 1) → ⊥) → reciprocal_outcome F s n X ≡ record { number = 6; place = j (precision_of F) (input_bits F) n X + 1; value = 0 }
  upper_word_named = Reciprocals.upper_named F s n X p l q o

  -- also when f is 0 and R does not depend on node j + 1
  pub upper_word_named_at_0 : f (precision_of F) (input_bits F) n X ≡ 0 → IsRightAt F s (j (precision_of F) (input_bits F) n X) → j (precision_of F) (input_bits F) n X + 1 < word_count F → (IsRightAt F s (j (precision_of F) (input_bits F) n X + 1) → ⊥) → reciprocal_outcome F s n X ≡ record { number = 6; place = j (precision_of F) (input_bits F) n X + 1; value = 0 }
  upper_word_named_at_0 e = upper_word_named

-- The word at j of any bytes, whoever wrote them: a number of w bits, and bit q of it is bit j × w + q of the buffer,
-- the most significant bit of a word and of a byte being bit 0.
module _ (F : Format) (s : List ℕ) (j : ℕ) where
  pub word_below : word_of F s j < 2 ^ word_width F
  word_below = word_lt (word_width F) s j

  pub word_bit : Bytes s → (q : ℕ) → q < word_width F → bit_of_word (word_width F) (word_of F s j) q ≡ bit_at s (j * word_width F + q)
  word_bit bytes q = bit-of-word (word_width F) s j q bytes

-- The word of node j stands in its own bytes.
pub word_by_its_bytes : (F : Format) (s s' : List ℕ) (j : ℕ) → 1 ≤ word_width F → ((i : ℕ) → j * word_width F / 8 ≤ i → i ≤ (j * word_width F + word_width F - 1) / 8 → get_or s i 0 ≡ get_or s' i 0) → word_of F s j ≡ word_of F s' j
word_by_its_bytes F s s' j = Depends.word_same F s s' j

-- A node, the reciprocal and the bytes of a word do not depend on the tail: two buffers with the same image at their
-- front get the same answers, whatever follows it and however long they are. So does the check where a word is wrong.
module _ (F : Format) (s s' : List ℕ) (p : IsOffered F) (l : IsLongEnough F s) (m : IsLongEnough F s') (e : take (image_length F) s ≡ take (image_length F) s') where
  pub check_by_image : (j : ℕ) → j < word_count F → (IsRightAt F s j → ⊥) → check_outcome F s ≡ check_outcome F s'
  check_by_image = Depends.front_check F s s' p l m e

  pub node_by_image : (j : ℕ) → node_outcome F s j ≡ node_outcome F s' j
  node_by_image = Depends.front_node F s s' p l m e

  pub reciprocal_by_image : (n X : ℕ) → reciprocal_outcome F s n X ≡ reciprocal_outcome F s' n X
  reciprocal_by_image = Depends.front_reciprocal F s s' p l m e

  pub part_by_image : (j : ℕ) → shown_part F s j ≡ shown_part F s' j
  part_by_image = Depends.front_part F s s' p l m e

  pub part_place_by_image : (j : ℕ) → shown_from F s j ≡ shown_from F s' j
  part_place_by_image = Depends.front_place F s s' p l m e

-- A node's answer and the reciprocal's depend, of the bits of a buffer, on those of its words alone: two buffers that
-- agree there get the same answers, whatever fills the image's last byte and whatever stands behind it. So does the
-- check where a word is wrong.
module _ (F : Format) (s s' : List ℕ) (b : Bytes s) (b' : Bytes s') (l : IsLongEnough F s) (m : IsLongEnough F s') (e : (i : ℕ) → i < word_count F * word_width F → bit_at s i ≡ bit_at s' i) where
  pub node_by_bits : (j : ℕ) → node_outcome F s j ≡ node_outcome F s' j
  node_by_bits j = Depends.node_same F s s' l m j (same_words F s s' b b' e j)

  pub reciprocal_by_bits : (n X : ℕ) → reciprocal_outcome F s n X ≡ reciprocal_outcome F s' n X
  reciprocal_by_bits n X =
      Depends.reciprocal_same F s s' l m n X (same_words F s s' b b' e (j (precision_of F) (input_bits F) n X)) (same_words F s s' b b' e (j (precision_of F) (input_bits F) n X + 1))

  pub check_by_bits : (j : ℕ) → j < word_count F → (IsRightAt F s j → ⊥) → check_outcome F s ≡ check_outcome F s'
  check_by_bits j h f = Depends.check_same F s s' l m j h f (same_words F s s' b b' e)

-- In plain words a zero word means 2^(2k+a+1) at node 0, and at any other node it is wrong. In full words it is wrong
-- at every node.
module _ (k a b : ℕ) (s : List ℕ) where
  pub zero_word_first : IsOffered (asked Plain k a b) → IsLongEnough (asked Plain k a b) s → (word_of (asked Plain k a b) s 0 ≡ 0) ↔ (node_outcome (asked Plain k a b) s 0 ≡ served (2 ^ (2 * k + (a + 1))))
  zero_word_first = Nodes.zero_node k a b s

  pub zero_word_wrong : (j : ℕ) → 0 < j → j < 2 ^ k → word_of (asked Plain k a b) s j ≡ 0 → IsRightAt (asked Plain k a b) s j → ⊥
  zero_word_wrong = Nodes.zero_wrong k a b s

  pub zero_full_word_wrong : (j : ℕ) → j ≤ 2 ^ k → word_of (asked Full k a b) s j ≡ 0 → IsRightAt (asked Full k a b) s j → ⊥
  zero_full_word_wrong = Nodes.zero_full k a b s

-- What the calls for an image length and for a node of precision 8 with two table guard bits give: the length and the
-- node, and 0 where there is none.
module _ (F : Format) where
  pub length_listed : IsOffered F → length_or_0 F ≡ image_length F
  length_listed p = rw (is_told F p)

  pub no_length : (IsOffered F → ⊥) → length_or_0 F ≡ 0
  no_length f = rw (not_told F f)

module _ (j : ℕ) where
  pub node_8_listed : j ≤ 256 → node_or_0 8 j ≡ node 8 2 j
  node_8_listed = node_there 8 refl j

  pub no_node_8 : 256 < j → node_or_0 8 j ≡ 0
  no_node_8 = node_past 8 j
