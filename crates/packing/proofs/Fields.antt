-- Laws of `field_at`: the bits from some bit on are a digit of the list's number, and 8 bytes hold them.
-- Assumes nothing.
use Rattle.std.proofs.Common.{◌≡◌, ℕ, zero, suc, ◌+◌, ◌-◌, ◌*◌, ◌/◌, ◌%◌, ◌^◌, ◌<◌, ◌≤◌, List, length, get_or, sym, ap, ◌∙◌, subst, ap₂, add-zero, mod-lt, mod-eq_of_lt, mul_assoc, mul_comm, zero-add, zero-mul, arith, pow_pos, pow-add, shr-shr}
use native.Mathlib.Nat.{zero-div, mul-add-div_right, mul-add-mod_self_right, mod-one, div-eq_of_lt, mul-div-mul_right, add-mul-mod_self_right}
use lib.ListN.{get_or-eq_default}
use lib.Pow.{high, low, field, mod-pow-add}
use Rattle.packing.specs.Packing.{bytes_value, Bytes, last_of, field_at}
use Rattle.packing.specs.Inner.{window_at}
use Rattle.packing.proofs.Bytes.{value_add}
use Rattle.packing.proofs.Numbers.{packed_ext, packed_zero, packed_add, packed_front}

-- bits from x + w on above do not reach the w bits from k on
cut : (p q x w k : ℕ) → (p * 2 ^ (x + w + k) + q) / 2 ^ k % 2 ^ w ≡ q / 2 ^ k % 2 ^ w
cut p q x w k =
    ap (λ (y : ℕ). (y + q) / 2 ^ k % 2 ^ w) apart
    ∙ ap (λ (y : ℕ). y % 2 ^ w) (mul-add-div_right (pow_pos k) (p * 2 ^ x * 2 ^ w) q)
    ∙ mul-add-mod_self_right (p * 2 ^ x) (2 ^ w) (q / 2 ^ k)
  where
    regroup : (a b c d : ℕ) → a * (b * c * d) ≡ a * b * c * d
    regroup a b c d = omega arith

    apart : p * 2 ^ (x + w + k) ≡ p * 2 ^ x * 2 ^ w * 2 ^ k
    apart =
        ap (λ (y : ℕ). p * y) (pow-add 2 (x + w) k ∙ ap (λ (y : ℕ). y * 2 ^ k) (pow-add 2 x w))
        ∙ regroup p (2 ^ x) (2 ^ w) (2 ^ k)

-- w bits are a digit of the number that the bytes around them make, which hold them whole
covered : (w : ℕ) (s : List ℕ) (a m r x k : ℕ) → ((i : ℕ) → i < a + m + r → get_or s i 0 < 256) → 8 * m ≡ x + w + k
    → bytes_value s 0 (a + m + r) / 2 ^ (8 * r + k) % 2 ^ w ≡ bytes_value s a m / 2 ^ k % 2 ^ w
covered w s a m r x k h e =
    ap (λ (y : ℕ). y % 2 ^ w) (sym (shr-shr (bytes_value s 0 (a + m + r)) (8 * r) k))
    ∙ ap (λ (y : ℕ). y / 2 ^ k % 2 ^ w)
    (ap (λ (y : ℕ). bytes_value s 0 (a + m + r) / 2 ^ y) (mul_comm 8 r)
    ∙ packed_front 8 (λ (i : ℕ). get_or s (0 + i) 0) (a + m) r (λ i l. rw zero-add (h i l))
    ∙ packed_add 8 (λ (i : ℕ). get_or s (0 + i) 0) a m
    ∙ ap₂ (λ (y z : ℕ). bytes_value s 0 a * 2 ^ y + z) (mul_comm m 8 ∙ e)
    (packed_ext 8 (λ (i : ℕ). get_or s (0 + (a + i)) 0) (λ (i : ℕ). get_or s (a + i) 0) m (λ i l. rw zero-add)))
    ∙ cut (bytes_value s 0 a) (bytes_value s a m) x w k

-- the places of the bytes that hold w bits from bit b on: before them, they, and the rest of L bytes
module _ (b w L : ℕ) (one : 1 ≤ w) (within : b + w ≤ 8 * L) where
  before : b / 8 + (last_of b w + 1 - b / 8) + (L - (last_of b w + 1)) ≡ L
  before = omega arith

  inside : 8 * (last_of b w + 1 - b / 8) ≡ (b - 8 * (b / 8)) + w + (8 * (last_of b w + 1) - (b + w))
  inside = omega arith

  behind : 8 * (L - (last_of b w + 1)) + (8 * (last_of b w + 1) - (b + w)) ≡ 8 * L - (b + w)
  behind = omega arith

  -- the key law: bits of a byte list are a digit of the number that its first L bytes make
  pub field_is_digit_below : (s : List ℕ) → ((i : ℕ) → i < L → get_or s i 0 < 256)
      → field_at s b w ≡ bytes_value s 0 L / 2 ^ (8 * L - (b + w)) % 2 ^ w
  unfolding field_at
  field_is_digit_below s h =
      sym (covered w s (b / 8) (last_of b w + 1 - b / 8) (L - (last_of b w + 1)) (b - 8 * (b / 8)) (8 * (last_of b w + 1) - (b + w)) (λ i l. h i (subst (λ (x : ℕ). i < x) before l)) inside)
      ∙ ap₂ (λ (x y : ℕ). bytes_value s 0 x / 2 ^ y % 2 ^ w) before behind

-- a number of w bits
pub field_lt : (s : List ℕ) (b w : ℕ) → field_at s b w < 2 ^ w
unfolding field_at
field_lt s b w = mod-lt (bytes_value s (b / 8) (last_of b w + 1 - b / 8) / 2 ^ (8 * (last_of b w + 1) - (b + w))) (pow_pos w)

-- bits depend on the bytes that hold them alone
pub field_local : (s t : List ℕ) (b w : ℕ) → 1 ≤ w
    → ((i : ℕ) → b / 8 ≤ i → i ≤ last_of b w → get_or s i 0 ≡ get_or t i 0) → field_at s b w ≡ field_at t b w
unfolding field_at
field_local s t b w one h =
    ap (λ (x : ℕ). x / 2 ^ (8 * (last_of b w + 1) - (b + w)) % 2 ^ w)
    (packed_ext 8 (λ (i : ℕ). get_or s (b / 8 + i) 0) (λ (i : ℕ). get_or t (b / 8 + i) 0) (last_of b w + 1 - b / 8)
    (λ i l. h (b / 8 + i) (omega arith) (omega arith)))

-- past the end of the bytes all bits are 0
pub field_past : (s : List ℕ) (b w : ℕ) → 8 * length s ≤ b → field_at s b w ≡ 0
unfolding field_at
field_past s b w h =
    ap (λ (x : ℕ). x / 2 ^ (8 * (last_of b w + 1) - (b + w)) % 2 ^ w)
    (packed_ext 8 (λ (i : ℕ). get_or s (b / 8 + i) 0) (λ (i : ℕ). 0) (last_of b w + 1 - b / 8) (λ i l. get_or-eq_default s 0 (omega arith))
    ∙ packed_zero 8 (last_of b w + 1 - b / 8))
    ∙ ap (λ (x : ℕ). x % 2 ^ w) (zero-div (2 ^ (8 * (last_of b w + 1) - (b + w))))
    ∙ mod-eq_of_lt (pow_pos w)

-- bits, then bits
pub field_split : (s : List ℕ) (b u v : ℕ) → Bytes s → 1 ≤ u → 1 ≤ v → field_at s b (u + v) ≡ field_at s b u * 2 ^ v + field_at s (b + u) v
field_split s b u v h one one' =
    field_is_digit_below b (u + v) L (omega arith) (omega arith) s (λ i l. h i)
    ∙ mod-pow-add (bytes_value s 0 L / 2 ^ (8 * L - (b + (u + v)))) u v
    ∙ ap₂ (λ (x y : ℕ). x * 2 ^ v + y)
    (ap (λ (x : ℕ). x % 2 ^ u) (shr-shr (bytes_value s 0 L) (8 * L - (b + (u + v))) v ∙ ap (λ (x : ℕ). bytes_value s 0 L / 2 ^ x) front)
    ∙ sym (field_is_digit_below b u L one (omega arith) s (λ i l. h i)))
    (ap (λ (x : ℕ). bytes_value s 0 L / 2 ^ x % 2 ^ v) back ∙ sym (field_is_digit_below (b + u) v L one' (omega arith) s (λ i l. h i)))
  where
    -- bytes enough to hold them all
    L : ℕ
    L = b + u + v

    front : 8 * L - (b + (u + v)) + v ≡ 8 * L - (b + u)
    front = omega arith

    back : 8 * L - (b + (u + v)) ≡ 8 * L - (b + u + v)
    back = omega arith

-- eight bytes from the first on hold bits that lie within 64 from its first one on: moved up past the bits before them,
-- and down
module _ (s : List ℕ) (b w : ℕ) (hs : Bytes s) (one : 1 ≤ w) (within : b % 8 + w ≤ 64) where
  -- how many bytes hold them
  abbrev span : ℕ
  span = last_of b w + 1 - b / 8

  eight : span + (8 - span) ≡ 8
  eight = omega arith

  cut_down : (8 - span) * 8 + (8 * (last_of b w + 1) - (b + w)) ≡ 64 - (b % 8 + w)
  cut_down = omega arith

  by_eight : field_at s b w ≡ bytes_value s (b / 8) 8 / 2 ^ (64 - (b % 8 + w)) % 2 ^ w
  unfolding field_at
  by_eight =
      ap (λ (x : ℕ). x / 2 ^ (8 * (last_of b w + 1) - (b + w)) % 2 ^ w)
      (sym (packed_front 8 (λ (i : ℕ). get_or s (b / 8 + i) 0) span (8 - span) (λ i l. hs (b / 8 + i)))
      ∙ ap (λ (n : ℕ). bytes_value s (b / 8) n / 2 ^ ((8 - span) * 8)) eight)
      ∙ ap (λ (x : ℕ). x % 2 ^ w)
      (shr-shr (bytes_value s (b / 8) 8) ((8 - span) * 8) (8 * (last_of b w + 1) - (b + w)) ∙ ap (λ (x : ℕ). bytes_value s (b / 8) 8 / 2 ^ x) cut_down)

  -- v without the bits before them, down to the last of them
  down : (v o : ℕ) → o + w ≤ 64 → (v * 2 ^ o) % 2 ^ 64 / 2 ^ (64 - w) ≡ v / 2 ^ (64 - (o + w)) % 2 ^ w
  down v o h =
      ap (λ (x : ℕ). (v * 2 ^ o) % 2 ^ x / 2 ^ (64 - w)) whole
      ∙ field (v * 2 ^ o) w (64 - w)
      ∙ ap (λ (x : ℕ). v * 2 ^ o / 2 ^ x % 2 ^ w) apart
      ∙ ap (λ (x : ℕ). v * 2 ^ o / x % 2 ^ w) (pow-add 2 (64 - (o + w)) o)
      ∙ ap (λ (x : ℕ). x % 2 ^ w) (mul-div-mul_right v (2 ^ (64 - (o + w))) (pow_pos o))
    where
      whole : 64 ≡ w + (64 - w)
      whole = omega arith

      apart : 64 - w ≡ 64 - (o + w) + o
      apart = omega arith

  moved : window_at s b / 2 ^ (64 - w) ≡ field_at s b w
  moved = down (bytes_value s (b / 8) 8) (b % 8) (omega arith) ∙ sym by_eight

pub window_within : (s : List ℕ) (b w : ℕ) → Bytes s → b % 8 + w ≤ 64 → window_at s b / 2 ^ (64 - w) ≡ field_at s b w
unfolding field_at
window_within s b (suc w) hs within = moved s b (suc w) hs (omega arith) within
window_within s b zero hs within =
    div-eq_of_lt (mod-lt (bytes_value s (b / 8) 8 * 2 ^ (b % 8)) (pow_pos 64))
    ∙ sym (mod-one (bytes_value s (b / 8) (last_of b 0 + 1 - b / 8) / 2 ^ (8 * (last_of b 0 + 1) - (b + 0))))

-- as up to 57 bits do, whatever the first is
pub window_field : (s : List ℕ) (b w : ℕ) → Bytes s → w ≤ 57 → window_at s b / 2 ^ (64 - w) ≡ field_at s b w
window_field s b w hs wide = window_within s b w hs (omega arith)

-- a window near the end of the bytes: those that are there, and zeros behind them
module _ (s : List ℕ) (b : ℕ) (below : b / 8 < length s) (near : length s < b / 8 + 8) where
  abbrev there : ℕ
  there = length s - b / 8

  abbrev value : ℕ
  value = bytes_value s (b / 8) (length s - b / 8)

  none : bytes_value s (b / 8 + there) (8 - there) ≡ 0
  none =
      packed_ext 8 (λ (i : ℕ). get_or s (b / 8 + there + i) 0) (λ (i : ℕ). 0) (8 - there) (λ i l. get_or-eq_default s 0 (omega arith))
      ∙ packed_zero 8 (8 - there)

  all_eight : 8 ≡ there + (8 - there)
  all_eight = omega arith

  padded : bytes_value s (b / 8) 8 ≡ value * 2 ^ (8 * (8 - there))
  padded =
      ap (bytes_value s (b / 8)) all_eight
      ∙ value_add s (b / 8) there (8 - there)
      ∙ ap₂ (λ (x y : ℕ). value * 2 ^ x + y) (mul_comm (8 - there) 8) none
      ∙ add-zero (value * 2 ^ (8 * (8 - there)))

  pub window_near : (value * 2 ^ (8 * (8 - there) + b % 8)) % 2 ^ 64 ≡ window_at s b
  window_near =
      ap (λ (x : ℕ). x % 2 ^ 64)
      (ap (λ (x : ℕ). value * x) (pow-add 2 (8 * (8 - there)) (b % 8))
      ∙ sym (mul_assoc value (2 ^ (8 * (8 - there))) (2 ^ (b % 8)))
      ∙ ap (λ (x : ℕ). x * 2 ^ (b % 8)) (sym padded))

  -- where there are eight bytes, the last eight are those and others before them, which fall off at the top
  module _ (some : 8 ≤ length s) where
    abbrev last : ℕ
    last = length s - 8

    -- how many come before
    abbrev earlier : ℕ
    earlier = b / 8 - last

    abbrev others : ℕ
    others = bytes_value s last earlier

    last_eight : bytes_value s last 8 ≡ others * 2 ^ (there * 8) + value
    last_eight =
        ap (bytes_value s last) {x = 8} {y = earlier + there} (omega arith)
        ∙ value_add s last earlier there
        ∙ ap (λ (x : ℕ). others * 2 ^ (there * 8) + bytes_value s x there) {x = last + earlier} {y = b / 8} (omega arith)

    off : 2 ^ (there * 8) * 2 ^ (8 * earlier + b % 8) ≡ 2 ^ (b % 8) * 2 ^ 64
    off =
        sym (pow-add 2 (there * 8) (8 * earlier + b % 8))
        ∙ ap (λ (e : ℕ). 2 ^ e) {x = there * 8 + (8 * earlier + b % 8)} {y = b % 8 + 64} (omega arith)
        ∙ pow-add 2 (b % 8) 64

    lifted : bytes_value s last 8 * 2 ^ (8 * earlier + b % 8) ≡ value * 2 ^ (8 * earlier + b % 8) + others * 2 ^ (b % 8) * 2 ^ 64
    lifted = omega (arith, ap (λ (x : ℕ). x * 2 ^ (8 * earlier + b % 8)) last_eight, ap (λ (x : ℕ). others * x) off)

    pub window_last : (bytes_value s last 8 * 2 ^ (8 * earlier + b % 8)) % 2 ^ 64 ≡ window_at s b
    window_last =
        ap (λ (x : ℕ). x % 2 ^ 64) lifted
        ∙ add-mul-mod_self_right (value * 2 ^ (8 * earlier + b % 8)) (others * 2 ^ (b % 8)) (2 ^ 64)
        ∙ ap (λ (e : ℕ). (value * 2 ^ (8 * e + b % 8)) % 2 ^ 64) {x = earlier} {y = 8 - there} (omega arith)
        ∙ window_near

-- and past it
pub window_past : (s : List ℕ) (b : ℕ) → length s ≤ b / 8 → window_at s b ≡ 0
window_past s b h =
    ap (λ (x : ℕ). (x * 2 ^ (b % 8)) % 2 ^ 64)
    (packed_ext 8 (λ (i : ℕ). get_or s (b / 8 + i) 0) (λ (i : ℕ). 0) 8 (λ i l. get_or-eq_default s 0 (omega arith)) ∙ packed_zero 8 8)
    ∙ ap (λ (x : ℕ). x % 2 ^ 64) (zero-mul (2 ^ (b % 8)))

-- of two numbers side by side, each
pub pair_high : (s : List ℕ) (b w : ℕ) → Bytes s → 1 ≤ w → field_at s b (2 * w) / 2 ^ w ≡ field_at s b w
pair_high s b w h one = ap (λ (x : ℕ). x / 2 ^ w) (doubled ∙ field_split s b w w h one one) ∙ high (field_at s b w) w (field_lt s (b + w) w)
  where
    doubled : field_at s b (2 * w) ≡ field_at s b (w + w)
    doubled = ap (field_at s b) (omega arith)

pub pair_low : (s : List ℕ) (b w : ℕ) → Bytes s → 1 ≤ w → field_at s b (2 * w) % 2 ^ w ≡ field_at s (b + w) w
pair_low s b w h one = ap (λ (x : ℕ). x % 2 ^ w) (doubled ∙ field_split s b w w h one one) ∙ low (field_at s b w) w (field_lt s (b + w) w)
  where
    doubled : field_at s b (2 * w) ≡ field_at s b (w + w)
    doubled = ap (field_at s b) (omega arith)
