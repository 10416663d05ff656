-- Guard bits to order: a of the table, from 2 to 4, and b of the input, from 3 to 5.
--
-- Each clause names the theorems that settle it, which stand on this page where no other is named.
--
-- 1. c(j) is 2^(3k+a+1) / i rounded up: node_reaches, node_least, on the page Construction.
--    Plain words have 2k + a bits and full ones 2k + a + 2: plain_words, full_words.
--    The bytes of an image: length_plain, length_full, on the page Construction.
--    Those of the longest of all: longest_image, longest_reached, there too.
--    One ulp is 2^a table units: ulp_in_table_units, there too.
-- 2. t has 2k + b fraction bits, cut above and padded below, f has k + b, and R is floor(P / 2^(k+a+b)): step_t_cut,
--    step_t_padded, step_f, step_P, step_R, on the page Construction.
--    Nothing overflows: from product_below to judged_product_fits, on the page Bound.
-- 3. Images end in zero bits where needed: built_tail, on the page Construction.
--    Refusal 7 covers these bits: check_refuses_7, check_place_filling, on the page Refusals.
--    Plain words take whole bytes from k = 3 on, and at k = 2 with 4 table guard bits: whole_from_3, whole_2_4.
--    With 2 they do at every k: image_whole, on the page Construction.
--    The three plain images that end in zero bits are those of (k, a) = (1, 3), (1, 4) and (2, 3): filling_1_3,
--    filling_1_4, filling_2_3.
-- 4. What stands behind the last plain word is not node 2^k, which no bit of the buffer has a part in:
--    last_node_served, last_node_of_no_bit.
--    What fills the last byte, and what stands behind it, changes no node and no reciprocal: node_by_bits,
--    reciprocal_by_bits, on the page Construction.
--    The check alone judges it.
-- 5. 18 is given right behind 1, for a or b out of range, by every call that takes them, also where b plays no part:
--    build_refuses_18, check_refuses_18, node_refuses_18, reciprocal_refuses_18, on the page Refusals.
--    Where bytes are shown the part is empty: part_empty, there too.
--    The length is then 0: no_length, on the page Construction.
--    Its place is 0: build_place, check_place, node_place_0, reciprocal_place_0, on the page Refusals.
-- 6. b plays no part in an image, nor in what the builder, the check and the reading of it answer, but that it must be
--    in its range: image_for_any_b, length_for_any_b, build_for_any_b, leaves_for_any_b, check_for_any_b,
--    node_for_any_b, part_for_any_b, part_place_for_any_b.
-- 7. The page Bound has the bound for general a and b.
--    The page Neighbours has the steps of neighbours, at most d / 2^(b-1) rounded up.
--    The page Usual has the case a = 2 and b = 3.
use mathlib.Core.Path.{◌≡◌, refl}
use mathlib.Core.Bool.{true}
use mathlib.Core.List.{List}
use Prim.Native.Nat.{ℕ, ◌+◌, ◌*◌, ◌%◌, ◌^◌, ◌≤◌}
use native.Mathlib.Omega.{arith}
use Rattle.format.specs.GuardBits.{guard_bits, guards_in}
use Rattle.format.specs.Format.{asked, image_length, length_or_0}
use Rattle.format.specs.declared.Form.{Form}
use Rattle.format.specs.declared.Form.TheVariants.{Plain, Full}
use Rattle.format.proofs.Range.{in_guards}
use Rattle.nodes.specs.Nodes.{node}
use Rattle.answers.specs.Refusal.{served}
use Rattle.image.specs.Image.{table_of, image}
use Rattle.image.specs.Calls.{build_outcome, build_leaves, check_outcome, node_outcome, shown_part, shown_from}
use Rattle.statements.specs.Terms.{AreGuardBits, IsOffered, IsLongEnough}
use Rattle.statements.proofs.Iff.{guards_of}
use Rattle.statements.proofs.Construction
use Rattle.statements.proofs.Nodes
use Rattle.statements.proofs.Sizes

-- The tables, which b has no part in.
module _ (k a b : ℕ) where
  pub plain_words : table_of (asked Plain k a b) ≡ record { count = 2 ^ k; width = 2 * k + a; word = λ (j : ℕ). node k a j % 2 ^ (2 * k + a) }
  plain_words = refl

  pub full_words : table_of (asked Full k a b) ≡ record { count = 2 ^ k + 1; width = 2 * k + (a + 2); word = node k a }
  full_words = refl

  -- plain words take whole bytes from k = 3 on
  pub whole_from_3 : 3 ≤ k → 8 * image_length (asked Plain k a b) ≡ 2 ^ k * (2 * k + a)
  whole_from_3 = Sizes.whole_plain k a b

-- and at k = 2 with four table guard bits, as with two; at k = 1 with three and four and at k = 2 with three, bits are
-- left over: 6, 4 and 4 of them.
module _ (b : ℕ) where
  pub whole_2_4 : 8 * image_length (asked Plain 2 4 b) ≡ 2 ^ 2 * (2 * 2 + 4)
  whole_2_4 = refl

  pub filling_1_3 : 8 * image_length (asked Plain 1 3 b) ≡ 2 ^ 1 * (2 * 1 + 3) + 6
  filling_1_3 = refl

  pub filling_1_4 : 8 * image_length (asked Plain 1 4 b) ≡ 2 ^ 1 * (2 * 1 + 4) + 4
  filling_1_4 = refl

  pub filling_2_3 : 8 * image_length (asked Plain 2 3 b) ≡ 2 ^ 2 * (2 * 2 + 3) + 4
  filling_2_3 = refl

-- Node 2^k of plain words has no word: it is 2^(2k+a) where 1, 18 and 2 do not apply, whatever the buffer holds, behind
-- the last word or before.
module _ (k a b : ℕ) (s : List ℕ) (l : IsLongEnough (asked Plain k a b) s) where
  pub last_node_served : IsOffered (asked Plain k a b) → node_outcome (asked Plain k a b) s (2 ^ k) ≡ served (2 ^ (2 * k + a))
  last_node_served o = Nodes.last_served k a b s o l

  pub last_node_of_no_bit : (s' : List ℕ) → IsLongEnough (asked Plain k a b) s' → node_outcome (asked Plain k a b) s (2 ^ k) ≡ node_outcome (asked Plain k a b) s' (2 ^ k)
  last_node_of_no_bit s' m = Construction.node_by_its_word (asked Plain k a b) s s' l m (2 ^ k) (λ h. absurd (omega (arith, h)))

-- The image is the same for every b,
pub image_for_any_b : (f : Form) (k a b b' : ℕ) → image (asked f k a b) ≡ image (asked f k a b')
image_for_any_b f k a b b' = refl

-- and for any two in range so is what is answered of it.
module _ (f : Form) (k a b b' : ℕ) (g : AreGuardBits a b) (g' : AreGuardBits a b') where
  told : guards_in (guard_bits a b) ≡ true
  told = in_guards (guard_bits a b) (guards_of (guard_bits a b) g)

  told' : guards_in (guard_bits a b') ≡ true
  told' = in_guards (guard_bits a b') (guards_of (guard_bits a b') g')

  pub length_for_any_b : length_or_0 (asked f k a b) ≡ length_or_0 (asked f k a b')
  length_for_any_b = rw (told, told')

  module _ (s : List ℕ) where
    pub build_for_any_b : build_outcome (asked f k a b) s ≡ build_outcome (asked f k a b') s
    build_for_any_b = rw (told, told')

    pub leaves_for_any_b : build_leaves (asked f k a b) s ≡ build_leaves (asked f k a b') s
    leaves_for_any_b = rw (told, told')

    pub check_for_any_b : check_outcome (asked f k a b) s ≡ check_outcome (asked f k a b') s
    check_for_any_b = rw (told, told')

    pub node_for_any_b : (j : ℕ) → node_outcome (asked f k a b) s j ≡ node_outcome (asked f k a b') s j
    node_for_any_b j = rw (told, told')

    pub part_for_any_b : (j : ℕ) → shown_part (asked f k a b) s j ≡ shown_part (asked f k a b') s j
    part_for_any_b j = rw (told, told')

    pub part_place_for_any_b : (j : ℕ) → shown_from (asked f k a b) s j ≡ shown_from (asked f k a b') s j
    part_place_for_any_b j = rw (told, told')
