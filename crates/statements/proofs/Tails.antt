-- What stands behind the last word of a buffer, bit by bit and byte by byte: the bits that fill the image's last byte,
-- and the bytes past the image.
-- Assumes nothing.
use mathlib.Core.Path.{◌≡◌, refl, ◌∙◌, ap}
use mathlib.Core.Logic.{◌↔◌, ⊎_elim}
use mathlib.Core.Bool.{Bool, true, false}
use mathlib.Core.List.{List}
use Prim.Native.Nat.{ℕ, ◌-◌, ◌*◌, ◌/◌, ◌≤◌, ◌<◌}
use native.Mathlib.Omega.{arith}
use lib.ListN.{length, get_or}
use Rattle.bools.proofs.Bools.{below_or_not}
use Rattle.bools.proofs.Lowest.{lowest_none}
use Rattle.packing.specs.Packing.{Bytes, bit_at}
use Rattle.tail.specs.Tail.{has_one_from}
use Rattle.tail.proofs.Laws.{byte_zero, none_zero, set_one}
use Rattle.tail.proofs.Bits.{none_bit, one_bit, before_first}
use Rattle.format.specs.Format.{word_count, word_width, image_length}
use Rattle.format.specs.declared.Format.{Format}
use Rattle.layout.specs.Layout.{first_past}
use Rattle.layout.proofs.Laws.{Whole}
use Rattle.image.specs.Image.{table_of}
use Rattle.image.specs.Calls.{check_outcome}
use Rattle.statements.specs.Terms.{IsSetPast, IsTailZero}
use Rattle.statements.proofs.Numbers.{set_place}

module _ (F : Format) where
  -- where the words end, in bits
  abbrev end : ℕ
  end = word_count F * word_width F

  -- the bits that fill the image's last byte are zero
  abbrev pub IsFilledZero : List ℕ → Type 0
  IsFilledZero s = (b : ℕ) → end ≤ b → b < 8 * image_length F → bit_at s b ≡ 0

  -- a byte past the image is not zero, and each is zero
  abbrev pub IsSetByte : List ℕ → ℕ → Type 0
  IsSetByte s i = (image_length F ≤ i) × (i < length s) × (get_or s i 0 ≡ 0 → ⊥)

  abbrev pub IsZeroBytes : List ℕ → Type 0
  IsZeroBytes s = (i : ℕ) → image_length F ≤ i → i < length s → get_or s i 0 ≡ 0

  module _ (s : List ℕ) where
    -- a zero byte has no bits that are one
    zero_bit : (b : ℕ) → end ≤ b → get_or s (b / 8) 0 ≡ 0 → bit_at s b ≡ 0
    zero_bit b h e = none_bit end s b h (byte_zero end s (b / 8) e)

    -- where no bit behind the words is one, no byte has one there
    none_there : IsTailZero F s → (i : ℕ) → i < length s → has_one_from end s i ≡ false
    none_there z i l = by (has_one_from end s i) refl
      where
        by : (b : Bool) → has_one_from end s i ≡ b → b ≡ false
        by true e = let c = one_bit end s i e in absurd (omega (arith, c.3, z c.0 c.1 (omega (arith, c.2, l))))
        by false e = refl

    pub past_end : IsTailZero F s → first_past (table_of F) s ≡ length s
    past_end z = lowest_none (has_one_from end s) (length s) (none_there z)

    -- the other way round
    pub end_zero : length s ≤ first_past (table_of F) s → IsTailZero F s
    end_zero h b f l = before_first end s b f (omega (arith, l, h))

    -- nothing stands behind the words exactly where the filling bits and the bytes past the image are zero
    pub zero_parts : Bytes s → image_length F ≤ length s → IsTailZero F s ↔ (IsFilledZero s × IsZeroBytes s)
    zero_parts bytes long = (to, from)
      where
        to : IsTailZero F s → IsFilledZero s × IsZeroBytes s
        to z = (
          λ b h l. z b h (omega (arith, l, long)),
          λ i h l. none_zero end s i (omega (arith, h)) (bytes i) (none_there z i l),
        )

        from : IsFilledZero s × IsZeroBytes s → IsTailZero F s
        from t b h l =
            ⊎_elim (λ m. t.0 b h m) (λ g. zero_bit b h (t.1 (b / 8) (omega (arith, g)) (omega (arith, l))))
            (below_or_not b (8 * image_length F))

    -- under 7 the place is the image's last byte where one of the filling bits is one
    pub filling_place : (check_outcome F s).number ≡ 7 → (b : ℕ) → end ≤ b → b < 8 * image_length F → bit_at s b ≡ 1 → (check_outcome F s).place ≡ image_length F - 1
    filling_place e b h l one =
        let t = set_place F s e in
        let c = t.0.1 in
        let from : image_length F - 1 ≤ (check_outcome F s).place = omega (arith, c.1, c.2) in
        let upto : (check_outcome F s).place < image_length F =
        ⊎_elim (λ m. m) (λ g. absurd (omega (arith, one, t.1 b h (omega (arith, l, g))))) (below_or_not (check_outcome F s).place (image_length F)) in
        omega (arith, from, upto)

    -- and the lowest byte past the image that is not zero where none of them is
    pub byte_place : Bytes s → (check_outcome F s).number ≡ 7 → IsFilledZero s → IsSetByte s (check_outcome F s).place × ((i : ℕ) → image_length F ≤ i → i < (check_outcome F s).place → get_or s i 0 ≡ 0)
    byte_place bytes e none =
        let t = set_place F s e in
        let c = t.0.1 in
        ((behind t.0, t.0.0, λ z. absurd (omega (arith, c.3, zero_bit c.0 c.1 (ap (λ (i : ℕ). get_or s i 0) c.2 ∙ z)))), before t.0.0 t.1)
      where
        behind : IsSetPast F s (check_outcome F s).place → image_length F ≤ (check_outcome F s).place
        behind w =
            let c = w.1 in
            ⊎_elim (λ m. absurd (omega (arith, c.3, none c.0 c.1 (omega (arith, c.2, m))))) (λ g. g) (below_or_not (check_outcome F s).place (image_length F))

        before : (check_outcome F s).place < length s → ((b : ℕ) → end ≤ b → b < 8 * (check_outcome F s).place → bit_at s b ≡ 0) → (i : ℕ) → image_length F ≤ i → i < (check_outcome F s).place → get_or s i 0 ≡ 0
        before l z i h m = none_zero end s i (omega (arith, h)) (bytes i) (by (has_one_from end s i) refl)
          where
            by : (b : Bool) → has_one_from end s i ≡ b → b ≡ false
            by true e = let c = one_bit end s i e in absurd (omega (arith, c.3, z c.0 c.1 (omega (arith, c.2, m))))
            by false e = refl

    -- where the words take whole bytes, no bits fill the last one
    module _ (whole : Whole (table_of F)) where
      pub none_filling : IsFilledZero s
      none_filling b h l = absurd (omega (arith, h, l, whole))

      pub set_byte : Bytes s → (i : ℕ) → IsSetPast F s i ↔ IsSetByte s i
      set_byte bytes i = (to, from)
        where
          to : IsSetPast F s i → IsSetByte s i
          to w =
              let c = w.1 in
              (omega (arith, c.1, c.2, whole), w.0, λ z. absurd (omega (arith, c.3, zero_bit c.0 c.1 (ap (λ (x : ℕ). get_or s x 0) c.2 ∙ z))))

          from : IsSetByte s i → IsSetPast F s i
          from t = (t.1, one_bit end s i (set_one end s i (omega (arith, t.0, whole)) (bytes i) t.2))
