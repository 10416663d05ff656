-- The set examples as literals, and what each says of the definitions that the contracts cite.
-- They are of image lengths, images, full ROMs, faulty buffers, reciprocals, steps, refusals and the printed table.
-- Assumes nothing.
use Rattle.std.specs.Prelude.{◌≡◌, ◌+◌, ◌-◌, ◌^◌, List, [], ◌∷◌, ◌++◌, map, ℕ, zero, suc, length, replicate}
use Rattle.quotient.specs.Quotient.{rounded_up}
use Rattle.format.specs.Format.{precision_of, table_bits, input_bits, asked, plain_of, full_of, image_length}
use Rattle.format.specs.declared.Form.TheVariants.{Plain, Full}
use Rattle.format.specs.declared.Format.{Format}
use Rattle.answers.specs.Refusal.{Outcome, served}
use Rattle.image.specs.Calls.{build_outcome, build_leaves, check_outcome, node_outcome, shown_part}
use Rattle.operand.specs.Operand.{cut_operand}
use Rattle.interpolation.specs.Algorithm.{cut_product_sum, cut_reciprocal}
use Rattle.interpolation.specs.Reciprocal.{reciprocal}
use Rattle.interpolation.specs.Calls.{reciprocal_outcome}
use Rattle.table_text.specs.TableText.{table_text}

-- what holds of each row of a table
abbrev pub Each : {A : Type 0} → (A → Type 0) → List A → Type 0
Each P [] = Unit {0}
Each P (x ∷ xs) = P x × Each P xs

-- a precision and table guard bits, and the lengths of their images, in plain and in full words
pub record LengthExample : Type 0 where
  pub k : ℕ
  pub a : ℕ
  pub plain : ℕ
  pub full : ℕ

abbrev pub length_examples : List LengthExample
length_examples =
    record { k = 1; a = 2; plain = 1; full = 3 }
    ∷ record { k = 2; a = 2; plain = 3; full = 5 }
    ∷ record { k = 3; a = 2; plain = 8; full = 12 }
    ∷ record { k = 4; a = 2; plain = 20; full = 26 }
    ∷ record { k = 5; a = 2; plain = 48; full = 58 }
    ∷ record { k = 6; a = 2; plain = 112; full = 130 }
    ∷ record { k = 7; a = 2; plain = 256; full = 291 }
    ∷ record { k = 8; a = 2; plain = 576; full = 643 }
    ∷ record { k = 9; a = 2; plain = 1280; full = 1411 }
    ∷ record { k = 10; a = 2; plain = 2816; full = 3075 }
    ∷ record { k = 11; a = 2; plain = 6144; full = 6660 }
    ∷ record { k = 12; a = 2; plain = 13312; full = 14340 }
    ∷ record { k = 1; a = 3; plain = 2; full = 3 }
    ∷ record { k = 1; a = 4; plain = 2; full = 3 }
    ∷ record { k = 2; a = 3; plain = 4; full = 6 }
    ∷ record { k = 2; a = 4; plain = 4; full = 7 }
    ∷ record { k = 8; a = 3; plain = 608; full = 675 }
    ∷ record { k = 8; a = 4; plain = 640; full = 707 }
    ∷ record { k = 12; a = 3; plain = 13824; full = 14852 }
    ∷ record { k = 12; a = 4; plain = 14336; full = 15364 }
    ∷ []

abbrev pub LengthHolds : LengthExample → Type 0
LengthHolds e = (image_length (asked Plain e.k e.a 3) ≡ e.plain) × (image_length (asked Full e.k e.a 3) ≡ e.full)

-- a format, its nodes 0 to 2^k and its image
pub record ImageExample : Type 0 where
  pub F : Format
  pub nodes : List ℕ
  pub bytes : List ℕ

abbrev pub image1 : ImageExample
image1 = record { F = plain_of 1; nodes = 32 ∷ 22 ∷ 16 ∷ []; bytes = 0x06 ∷ [] }

abbrev pub image2 : ImageExample
image2 = record { F = plain_of 2; nodes = 128 ∷ 103 ∷ 86 ∷ 74 ∷ 64 ∷ []; bytes = 0x02 ∷ 0x75 ∷ 0x8A ∷ [] }

abbrev pub image3 : ImageExample
image3 =
    record {
      F = plain_of 3;
      nodes = 512 ∷ 456 ∷ 410 ∷ 373 ∷ 342 ∷ 316 ∷ 293 ∷ 274 ∷ 256 ∷ [];
      bytes = 0x00 ∷ 0xC8 ∷ 0x9A ∷ 0x75 ∷ 0x56 ∷ 0x3C ∷ 0x25 ∷ 0x12 ∷ [];
    }

-- the same of full words
abbrev pub full1 : ImageExample
full1 = record { F = full_of 1; nodes = 32 ∷ 22 ∷ 16 ∷ []; bytes = 0x81 ∷ 0x64 ∷ 0x00 ∷ [] }

abbrev pub full2 : ImageExample
full2 = record { F = full_of 2; nodes = 128 ∷ 103 ∷ 86 ∷ 74 ∷ 64 ∷ []; bytes = 0x80 ∷ 0x67 ∷ 0x56 ∷ 0x4A ∷ 0x40 ∷ [] }

-- and with other guard bits, a and b in their names
abbrev pub image1_24 : ImageExample
image1_24 = record { F = asked Plain 1 2 4; nodes = 32 ∷ 22 ∷ 16 ∷ []; bytes = 0x06 ∷ [] }

abbrev pub image1_33 : ImageExample
image1_33 = record { F = asked Plain 1 3 3; nodes = 64 ∷ 43 ∷ 32 ∷ []; bytes = 0x02 ∷ 0xC0 ∷ [] }

abbrev pub image1_25 : ImageExample
image1_25 = record { F = asked Plain 1 2 5; nodes = 32 ∷ 22 ∷ 16 ∷ []; bytes = 0x06 ∷ [] }

abbrev pub image1_45 : ImageExample
image1_45 = record { F = asked Plain 1 4 5; nodes = 128 ∷ 86 ∷ 64 ∷ []; bytes = 0x01 ∷ 0x60 ∷ [] }

abbrev pub image2_34 : ImageExample
image2_34 =
    record {
      F = asked Plain 2 3 4;
      nodes = 256 ∷ 205 ∷ 171 ∷ 147 ∷ 128 ∷ [];
      bytes = 0x01 ∷ 0x35 ∷ 0x59 ∷ 0x30 ∷ [];
    }

abbrev pub full1_33 : ImageExample
full1_33 = record { F = asked Full 1 3 3; nodes = 64 ∷ 43 ∷ 32 ∷ []; bytes = 0x80 ∷ 0xAD ∷ 0x00 ∷ [] }

abbrev pub full1_45 : ImageExample
full1_45 = record { F = asked Full 1 4 5; nodes = 128 ∷ 86 ∷ 64 ∷ []; bytes = 0x80 ∷ 0x56 ∷ 0x40 ∷ [] }

abbrev pub image_examples : List ImageExample
image_examples =
    image1 ∷ image2 ∷ image3 ∷ full1 ∷ full2 ∷ image1_24 ∷ image1_25 ∷ image1_33 ∷ image1_45 ∷ image2_34 ∷ full1_33 ∷ full1_45 ∷ []

-- the answers of reading the first n nodes
abbrev pub read_nodes : Format → List ℕ → ℕ → List Outcome
read_nodes F s zero = []
read_nodes F s (suc n) = read_nodes F s n ++ (node_outcome F s n ∷ [])

-- a buffer of as many bytes as the image, all of them 255, is served and built to the image; its nodes are read back;
-- it passes the check
pub record ImageHolds (e : ImageExample) : Type 0 where
  pub answered : build_outcome e.F (replicate (length e.bytes) 255) ≡ served 0
  pub built : build_leaves e.F (replicate (length e.bytes) 255) ≡ e.bytes
  pub read : read_nodes e.F e.bytes (length e.nodes) ≡ map served e.nodes
  pub passes : check_outcome e.F e.bytes ≡ served 0

-- an image above in a longer buffer
pub record RomExample : Type 0 where
  pub from : ImageExample
  pub bytes : List ℕ

abbrev pub rom_examples : List RomExample
rom_examples =
    record { from = image2; bytes = 0x02 ∷ 0x75 ∷ 0x8A ∷ 0x00 ∷ [] }
    ∷ record { from = full1; bytes = 0x81 ∷ 0x64 ∷ 0x00 ∷ 0x00 ∷ 0x00 ∷ [] }
    ∷ record { from = image1_33; bytes = 0x02 ∷ 0xC0 ∷ 0x00 ∷ [] }
    ∷ []

-- a buffer of as many bytes, all of them 255, is served and built to it; it passes the check
pub record RomHolds (e : RomExample) : Type 0 where
  pub answered : build_outcome e.from.F (replicate (length e.bytes) 255) ≡ served 0
  pub built : build_leaves e.from.F (replicate (length e.bytes) 255) ≡ e.bytes
  pub passes : check_outcome e.from.F e.bytes ≡ served 0

-- a buffer that the check turns back, by which number and at which place
pub record FaultExample : Type 0 where
  pub F : Format
  pub bytes : List ℕ
  pub number : ℕ
  pub place : ℕ

-- of the second both 6 and 7 apply, and of the seventh, the ninth and the thirteenth too.
-- The full words of k = 1 leave six bits of byte 2: the third example has the last one set, the fourth the first one
-- and a byte past the image with it. The fifth has a one too many in the word of node 2, which is node 2^k.
-- Those of k = 3 leave six bits of byte 11, and the word of node 8, which is node 2^k, ends in it: there the places of
-- 6 and 7 are apart.
-- With three table guard bits the plain words of k = 1 leave six bits of byte 1. The last, the first and all are set;
-- then the word of node 1, which ends in that byte, is wrong; then a byte past the image is not zero.
-- The full words leave three bits of byte 2. The first is set; then the bit before it, the last of node 2's word
abbrev pub fault_examples : List FaultExample
fault_examples =
    record { F = plain_of 2; bytes = 0x02 ∷ 0x75 ∷ 0x8A ∷ 0x00 ∷ 0x01 ∷ []; number = 7; place = 4 }
    ∷ record { F = plain_of 2; bytes = 0x02 ∷ 0x75 ∷ 0x8B ∷ 0x01 ∷ []; number = 6; place = 3 }
    ∷ record { F = full_of 1; bytes = 0x81 ∷ 0x64 ∷ 0x01 ∷ []; number = 7; place = 2 }
    ∷ record { F = full_of 1; bytes = 0x81 ∷ 0x64 ∷ 0x20 ∷ 0x01 ∷ []; number = 7; place = 2 }
    ∷ record { F = full_of 1; bytes = 0x81 ∷ 0x64 ∷ 0x40 ∷ []; number = 6; place = 2 }
    ∷ record { F = full_of 1; bytes = 0x81 ∷ 0x64 ∷ 0x00 ∷ 0x00 ∷ 0x80 ∷ []; number = 7; place = 4 }
    ∷ record { F = full_of 1; bytes = 0x81 ∷ 0x64 ∷ 0x41 ∷ 0x01 ∷ []; number = 6; place = 2 }
    ∷ record {
      F = full_of 3;
      bytes = 0x80 ∷ 0x1C ∷ 0x86 ∷ 0x69 ∷ 0x75 ∷ 0x55 ∷ 0x93 ∷ 0xC4 ∷ 0x95 ∷ 0x12 ∷ 0x40 ∷ 0x01 ∷ [];
      number = 7;
      place = 11;
    }
    ∷ record {
      F = full_of 3;
      bytes = 0x80 ∷ 0x1C ∷ 0x86 ∷ 0x69 ∷ 0x75 ∷ 0x55 ∷ 0x93 ∷ 0xC4 ∷ 0x95 ∷ 0x12 ∷ 0x40 ∷ 0x41 ∷ [];
      number = 6;
      place = 8;
    }
    ∷ record { F = asked Plain 1 3 3; bytes = 0x02 ∷ 0xC1 ∷ []; number = 7; place = 1 }
    ∷ record { F = asked Plain 1 3 3; bytes = 0x02 ∷ 0xE0 ∷ 0x01 ∷ []; number = 7; place = 1 }
    ∷ record { F = asked Plain 1 3 3; bytes = 0x02 ∷ 0xFF ∷ []; number = 7; place = 1 }
    ∷ record { F = asked Plain 1 3 3; bytes = 0x02 ∷ 0x81 ∷ []; number = 6; place = 1 }
    ∷ record { F = asked Plain 1 3 3; bytes = 0x02 ∷ 0xC0 ∷ 0x00 ∷ 0x80 ∷ []; number = 7; place = 3 }
    ∷ record { F = asked Full 1 3 3; bytes = 0x80 ∷ 0xAD ∷ 0x04 ∷ []; number = 7; place = 2 }
    ∷ record { F = asked Full 1 3 3; bytes = 0x80 ∷ 0xAD ∷ 0x08 ∷ []; number = 6; place = 2 }
    ∷ []

abbrev pub FaultHolds : FaultExample → Type 0
FaultHolds e = check_outcome e.F e.bytes ≡ record { number = e.number; place = e.place; value = 0 }

-- an image above with other bits behind its last word: the check turns it back by 7 at its last byte, but the nodes are
-- read as from the image, node 2^k among them, and so is the reciprocal of X with n fraction bits given, R, which
-- stands on node 2^k
pub record DirtyExample : Type 0 where
  pub from : ImageExample
  pub bytes : List ℕ
  pub n : ℕ
  pub X : ℕ
  pub R : ℕ

abbrev pub dirty_examples : List DirtyExample
dirty_examples =
    record { from = image1_33; bytes = 0x02 ∷ 0xFF ∷ []; n = 5; X = 53; R = 4 }
    ∷ record { from = image1_45; bytes = 0x01 ∷ 0x6F ∷ 0xFF ∷ []; n = 5; X = 53; R = 4 }
    ∷ record { from = image2_34; bytes = 0x01 ∷ 0x35 ∷ 0x59 ∷ 0x3F ∷ []; n = 7; X = 240; R = 17 }
    ∷ []

pub record DirtyHolds (e : DirtyExample) : Type 0 where
  pub turned_back : check_outcome e.from.F e.bytes ≡ record { number = 7; place = image_length e.from.F - 1; value = 0 }
  pub read : read_nodes e.from.F e.bytes (length e.from.nodes) ≡ map served e.from.nodes
  pub given : reciprocal_outcome e.from.F e.bytes e.n e.X ≡ served e.R

-- the image above whose format and bytes are used, the operand X with n fraction bits, P for some, and R
pub record ReciprocalExample : Type 0 where
  pub from : ImageExample
  pub n : ℕ
  pub X : ℕ
  pub P : List ℕ
  pub R : ℕ

-- 2^63 + 1 and 2^64 - 1 are written out.
-- With three table guard bits R of 53 / 32 at k = 1 is another than with two.
-- With four input guard bits R of 65 / 64 is another than with three.
-- With five that of 129 / 128 is another than with four
abbrev pub reciprocal_examples : List ReciprocalExample
reciprocal_examples =
    record { from = image2; n = 7; X = 128; P = []; R = 32 }
    ∷ record { from = image2; n = 7; X = 129; P = []; R = 31 }
    ∷ record { from = image2; n = 7; X = 135; P = 3921 ∷ []; R = 30 }
    ∷ record { from = image2; n = 7; X = 160; P = []; R = 25 }
    ∷ record { from = image2; n = 7; X = 255; P = []; R = 16 }
    ∷ record { from = image2; n = 6; X = 64; P = []; R = 32 }
    ∷ record { from = image2; n = 6; X = 127; P = []; R = 16 }
    ∷ record { from = image2; n = 63; X = 9223372036854775809; P = []; R = 32 }
    ∷ record { from = image2; n = 63; X = 18446744073709551615; P = []; R = 16 }
    ∷ record { from = image1; n = 5; X = 32; P = []; R = 8 }
    ∷ record { from = image1; n = 5; X = 63; P = []; R = 4 }
    ∷ record { from = full2; n = 7; X = 135; P = []; R = 30 }
    ∷ record { from = full2; n = 7; X = 255; P = []; R = 16 }
    ∷ record { from = full1; n = 5; X = 63; P = []; R = 4 }
    ∷ record { from = image2_34; n = 7; X = 135; P = 15670 ∷ []; R = 30 }
    ∷ record { from = image1; n = 5; X = 53; P = []; R = 5 }
    ∷ record { from = image1_33; n = 5; X = 53; P = []; R = 4 }
    ∷ record { from = full1_33; n = 5; X = 53; P = []; R = 4 }
    ∷ record { from = image1; n = 6; X = 65; P = []; R = 8 }
    ∷ record { from = image1_24; n = 6; X = 65; P = []; R = 7 }
    ∷ record { from = image1_24; n = 7; X = 129; P = []; R = 8 }
    ∷ record { from = image1_25; n = 7; X = 129; P = []; R = 7 }
    ∷ record { from = image1_45; n = 7; X = 129; P = []; R = 7 }
    ∷ record { from = full1_45; n = 7; X = 129; P = []; R = 7 }
    ∷ []

-- R and P are those of X, and the call from the image gives R
pub record ReciprocalHolds (e : ReciprocalExample) : Type 0 where
  pub is_R : reciprocal (precision_of e.from.F) (table_bits e.from.F) (input_bits e.from.F) e.n e.X ≡ e.R
  pub given : reciprocal_outcome e.from.F e.from.bytes e.n e.X ≡ served e.R
  pub is_P : Each (λ (P : ℕ). cut_product_sum (precision_of e.from.F) (table_bits e.from.F) (input_bits e.from.F) (cut_operand (precision_of e.from.F) (input_bits e.from.F) e.n e.X) ≡ P) e.P

-- a step from t to t + d that is as large as a step of d can be, and R of both
pub record StepExample : Type 0 where
  pub k : ℕ
  pub a : ℕ
  pub b : ℕ
  pub t : ℕ
  pub d : ℕ
  pub R : ℕ
  pub next : ℕ

-- the first three lie inside a piece; the others lead across a node, or onto it, at 576, 320, 1152 and 2304
abbrev pub step_examples : List StepExample
step_examples =
    record { k = 2; a = 2; b = 3; t = 128; d = 1; R = 32; next = 31 }
    ∷ record { k = 3; a = 2; b = 3; t = 512; d = 4; R = 128; next = 127 }
    ∷ record { k = 3; a = 2; b = 3; t = 512; d = 5; R = 128; next = 126 }
    ∷ record { k = 3; a = 2; b = 3; t = 571; d = 6; R = 115; next = 113 }
    ∷ record { k = 2; a = 2; b = 4; t = 307; d = 13; R = 27; next = 25 }
    ∷ record { k = 3; a = 3; b = 4; t = 1141; d = 11; R = 115; next = 113 }
    ∷ record { k = 3; a = 4; b = 5; t = 2282; d = 22; R = 115; next = 113 }
    ∷ []

-- both are R, and they differ by d / 2^(b-1) rounded up
pub record StepHolds (e : StepExample) : Type 0 where
  pub is_R : cut_reciprocal e.k e.a e.b e.t ≡ e.R
  pub is_next : cut_reciprocal e.k e.a e.b (e.t + e.d) ≡ e.next
  pub largest : e.R - e.next ≡ rounded_up e.d (2 ^ (e.b - 1))

-- an operand that is turned back from an image above, and by which number
pub record RefusedExample : Type 0 where
  pub from : ImageExample
  pub n : ℕ
  pub X : ℕ
  pub number : ℕ

-- 2^64 is written out; of 0 with no fraction bit both 4 and 5 apply
abbrev pub refused_examples : List RefusedExample
refused_examples =
    record { from = image2; n = 0; X = 1; number = 4 }
    ∷ record { from = image2; n = 0; X = 0; number = 4 }
    ∷ record { from = image2; n = 64; X = 18446744073709551616; number = 4 }
    ∷ record { from = image2; n = 6; X = 63; number = 5 }
    ∷ record { from = image2; n = 6; X = 128; number = 5 }
    ∷ record { from = full2; n = 64; X = 18446744073709551616; number = 4 }
    ∷ record { from = full2; n = 6; X = 128; number = 5 }
    ∷ []

abbrev pub RefusedHolds : RefusedExample → Type 0
RefusedHolds e = reciprocal_outcome e.from.F e.from.bytes e.n e.X ≡ record { number = e.number; place = 0; value = 0 }

-- a format and a buffer of which every call on them is turned back, and by which number
pub record LimitExample : Type 0 where
  pub F : Format
  pub bytes : List ℕ
  pub number : ℕ

-- guard bits out of their ranges, each alone in a buffer that is long enough, and one of them and both in buffers that
-- are too short; behind a precision that is none; and, in their ranges, before a buffer that is too short
abbrev pub limit_examples : List LimitExample
limit_examples =
    record { F = asked Plain 2 1 3; bytes = 0x00 ∷ 0x00 ∷ 0x00 ∷ []; number = 18 }
    ∷ record { F = asked Plain 2 5 3; bytes = 0x00 ∷ 0x00 ∷ 0x00 ∷ 0x00 ∷ 0x00 ∷ []; number = 18 }
    ∷ record { F = asked Plain 2 2 2; bytes = 0x02 ∷ 0x75 ∷ 0x8A ∷ []; number = 18 }
    ∷ record { F = asked Plain 2 2 6; bytes = 0x02 ∷ 0x75 ∷ 0x8A ∷ []; number = 18 }
    ∷ record { F = asked Full 1 2 6; bytes = 0x81 ∷ 0x64 ∷ 0x00 ∷ []; number = 18 }
    ∷ record { F = asked Plain 2 5 4; bytes = []; number = 18 }
    ∷ record { F = asked Full 12 4 2; bytes = []; number = 18 }
    ∷ record { F = asked Full 1 0 4294967295; bytes = []; number = 18 }
    ∷ record { F = asked Plain 0 1 3; bytes = []; number = 1 }
    ∷ record { F = asked Full 13 2 6; bytes = []; number = 1 }
    ∷ record { F = asked Plain 1 3 3; bytes = 0x02 ∷ []; number = 2 }
    ∷ record { F = asked Full 2 4 5; bytes = 0x80 ∷ 0x19 ∷ 0xA5 ∷ 0x59 ∷ 0x25 ∷ 0x40 ∷ []; number = 2 }
    ∷ []

-- the builder and the check, reading of a node that is there and of one that is not, and the reciprocal of an operand
-- in its limits and of one that breaks both; the builder leaves the buffer, and no bytes are shown
pub record LimitHolds (e : LimitExample) : Type 0 where
  pub build : build_outcome e.F e.bytes ≡ record { number = e.number; place = 0; value = 0 }
  pub leaves : build_leaves e.F e.bytes ≡ e.bytes
  pub check : check_outcome e.F e.bytes ≡ record { number = e.number; place = 0; value = 0 }
  pub node : node_outcome e.F e.bytes 0 ≡ record { number = e.number; place = 0; value = 0 }
  pub no_node : node_outcome e.F e.bytes 9999 ≡ record { number = e.number; place = 0; value = 0 }
  pub operand : reciprocal_outcome e.F e.bytes 5 32 ≡ record { number = e.number; place = 0; value = 0 }
  pub no_operand : reciprocal_outcome e.F e.bytes 0 0 ≡ record { number = e.number; place = 0; value = 0 }
  pub part : shown_part e.F e.bytes 0 ≡ []

-- an input and the text that is printed for it, as bytes
pub record TextExample : Type 0 where
  pub input : List ℕ
  pub text : List ℕ

-- the table of precision 2 in full, which "2" and a line feed ask for, line by line
abbrev pub text_of_2 : List ℕ
text_of_2 =
    112 ∷ 114 ∷ 101 ∷ 99 ∷ 105 ∷ 115 ∷ 105 ∷ 111 ∷ 110 ∷ 32 ∷ 50 ∷ 32 ∷ 98 ∷ 121 ∷ 116 ∷ 101 ∷ 115 ∷ 32 ∷ 51 ∷ 10
    ∷ 48 ∷ 32 ∷ 49 ∷ 50 ∷ 56 ∷ 32 ∷ 48 ∷ 10
    ∷ 49 ∷ 32 ∷ 49 ∷ 48 ∷ 51 ∷ 32 ∷ 51 ∷ 57 ∷ 10
    ∷ 50 ∷ 32 ∷ 56 ∷ 54 ∷ 32 ∷ 50 ∷ 50 ∷ 10
    ∷ 51 ∷ 32 ∷ 55 ∷ 52 ∷ 32 ∷ 49 ∷ 48 ∷ 10
    ∷ 52 ∷ 32 ∷ 54 ∷ 52 ∷ 32 ∷ 45 ∷ 10
    ∷ []

-- "refused 1" and a line feed
abbrev pub text_refused : List ℕ
text_refused = 114 ∷ 101 ∷ 102 ∷ 117 ∷ 115 ∷ 101 ∷ 100 ∷ 32 ∷ 49 ∷ 10 ∷ []

-- "2" and "13", each with a line feed, and "2" without one
abbrev pub text_examples : List TextExample
text_examples =
    record { input = 50 ∷ 10 ∷ []; text = text_of_2 }
    ∷ record { input = 49 ∷ 51 ∷ 10 ∷ []; text = text_refused }
    ∷ record { input = 50 ∷ []; text = text_refused }
    ∷ []

abbrev pub TextHolds : TextExample → Type 0
TextHolds e = table_text e.input ≡ e.text

-- every example of each table holds
pub record ExamplesHold : Type 0 where
  pub lengths : Each LengthHolds length_examples
  pub images : Each ImageHolds image_examples
  pub roms : Each RomHolds rom_examples
  pub faults : Each FaultHolds fault_examples
  pub dirty : Each DirtyHolds dirty_examples
  pub reciprocals : Each ReciprocalHolds reciprocal_examples
  pub steps : Each StepHolds step_examples
  pub refusals : Each RefusedHolds refused_examples
  pub limits : Each LimitHolds limit_examples
  pub texts : Each TextHolds text_examples
