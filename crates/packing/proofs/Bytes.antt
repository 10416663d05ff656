-- Laws of `to_bytes` and `bytes_value`: a number as bytes and back.
-- Assumes nothing.
use Rattle.std.proofs.Common.{◌≡◌, ℕ, zero, suc, ◌+◌, ◌-◌, ◌*◌, ◌/◌, ◌%◌, ◌^◌, ◌<◌, ◌≤◌, List, [], ◌∷◌, ◌++◌, length, get_or, take, sym, refl, ap, ◌∙◌, ap₂, append_assoc, append-nil, le_trans, add-zero, add-suc, mod-eq_of_lt, mul_assoc, mul_comm, zero-add, mul-suc, div-one, add-one, arith, length-append, take-suc, take_at, pow-add, shr-shr, pow_mono}
use native.Mathlib.Nat.{le-suc, mul-add-mod_self_right, mod-one}
use lib.Seq.{get_or_at}
use lib.Pow.{high, low, mod-pow-add}
use Rattle.packing.specs.Packing.{to_bytes, bytes_value, Bytes}
use Rattle.packing.proofs.Numbers.{packed_lt, packed_add, packed_ext}

-- as many bytes as asked for
pub length-to_bytes : (n v : ℕ) → length (to_bytes n v) ≡ n
length-to_bytes zero v = refl
length-to_bytes (suc n) v = length-append (to_bytes n (v / 256)) (v % 256 ∷ []) ∙ ap (λ (x : ℕ). x + 1) (length-to_bytes n (v / 256)) ∙ add-one n

-- bytes, then bytes
pub bytes_append : (s t : List ℕ) → Bytes s → Bytes t → Bytes (s ++ t)
bytes_append [] t hs ht i = ht i
bytes_append (x ∷ s) t hs ht zero = hs 0
bytes_append (x ∷ s) t hs ht (suc i) = bytes_append s t (λ j. hs (suc j)) ht i

-- the first n of them
pub bytes_take : (n : ℕ) (s : List ℕ) → Bytes s → Bytes (take n s)
bytes_take zero s hs i = omega arith
bytes_take (suc n) [] hs i = hs i
bytes_take (suc n) (x ∷ s) hs zero = hs 0
bytes_take (suc n) (x ∷ s) hs (suc i) = bytes_take n s (λ j. hs (suc j)) i

-- one byte
pub bytes_one : (b : ℕ) → b < 256 → Bytes (b ∷ [])
bytes_one b h zero = h
bytes_one b h (suc i) = omega arith

-- what to_bytes gives are bytes
pub bytes-to_bytes : (n v : ℕ) → Bytes (to_bytes n v)
bytes-to_bytes zero v i = omega arith
bytes-to_bytes (suc n) v i = bytes_append (to_bytes n (v / 256)) (v % 256 ∷ []) (bytes-to_bytes n (v / 256)) (bytes_one (v % 256) (omega arith)) i

-- L bytes make a number of 8 × L bits
pub value_lt : (s : List ℕ) (a n : ℕ) → ((i : ℕ) → i < n → get_or s (a + i) 0 < 256) → bytes_value s a n < 2 ^ (8 * n)
value_lt s a n h = rw (mul_comm 8 n) (packed_lt 8 (λ (i : ℕ). get_or s (a + i) 0) n h)

-- so that behind fewer than eight a byte more has its place in 64 bits
pub value_lt_56 : (s : List ℕ) (a n : ℕ) → Bytes s → n < 8 → bytes_value s a n < 2 ^ 56
value_lt_56 s a n h few = let most : 8 * n ≤ 56 = omega arith in omega (arith, value_lt s a n (λ i l. h (a + i)), pow_mono most)

-- the bytes of a number make its lowest 8 × n bits, whatever follows them
pub value-to_bytes : (n v : ℕ) (t : List ℕ) → bytes_value (to_bytes n v ++ t) 0 n ≡ v % 2 ^ (8 * n)
value-to_bytes zero v t = sym (mod-one v)
value-to_bytes (suc n) v t =
    ap (λ (l : List ℕ). bytes_value l 0 (suc n)) (append_assoc (to_bytes n (v / 256)) (v % 256 ∷ []) t)
    ∙ ap₂ (λ (x y : ℕ). x * 2 ^ 8 + y) (value-to_bytes n (v / 256) (v % 256 ∷ t)) last
    ∙ sym (mod-pow-add v (8 * n) 8) ∙ ap (λ (x : ℕ). v % 2 ^ x) (sym (mul-suc 8 n))
  where
    last : get_or (to_bytes n (v / 256) ++ (v % 256 ∷ t)) (0 + n) 0 ≡ v % 256
    last = ap (λ (i : ℕ). get_or (to_bytes n (v / 256) ++ (v % 256 ∷ t)) i 0) (zero-add n) ∙ get_or_at (to_bytes n (v / 256)) (v % 256) t 0 n (length-to_bytes n (v / 256))

-- a number of 8 × n bits comes back whole
pub value_to_bytes_exact : (n v : ℕ) (t : List ℕ) → v < 2 ^ (8 * n) → bytes_value (to_bytes n v ++ t) 0 n ≡ v
value_to_bytes_exact n v t h = value-to_bytes n v t ∙ mod-eq_of_lt h

-- the bytes of the value of n bytes are those bytes
pub to_bytes_value : (n : ℕ) (s : List ℕ) → Bytes s → n ≤ length s → to_bytes n (bytes_value s 0 n) ≡ take n s
to_bytes_value zero s hs h = refl
to_bytes_value (suc n) s hs h =
    ap₂ (λ (x y : ℕ). to_bytes n x ++ (y ∷ [])) (high (bytes_value s 0 n) 8 (hs (0 + n))) (low (bytes_value s 0 n) 8 (hs (0 + n)))
    ∙ ap₂ (λ (x : List ℕ) (y : ℕ). x ++ (y ∷ [])) (to_bytes_value n s hs (le_trans (le-suc n) h)) (ap (λ (i : ℕ). get_or s i 0) (zero-add n))
    ∙ sym (take-suc s n 0 h)

-- bytes, then bytes: the high part of a number and its low part
pub to_bytes_add : (a b v : ℕ) → to_bytes (a + b) v ≡ to_bytes a (v / 2 ^ (8 * b)) ++ to_bytes b v
to_bytes_add a zero v =
    ap (λ (n : ℕ). to_bytes n v) (add-zero a) ∙ ap (to_bytes a) (sym (div-one v)) ∙ sym (append-nil (to_bytes a (v / 1)))
to_bytes_add a (suc b) v =
    ap (λ (n : ℕ). to_bytes n v) (add-suc a b)
    ∙ ap (λ (l : List ℕ). l ++ (v % 256 ∷ [])) (to_bytes_add a b (v / 256))
    ∙ append_assoc (to_bytes a (v / 256 / 2 ^ (8 * b))) (to_bytes b (v / 256)) (v % 256 ∷ [])
    ∙ ap (λ (x : ℕ). to_bytes a x ++ (to_bytes b (v / 256) ++ (v % 256 ∷ []))) (shr-shr v 8 (8 * b) ∙ ap (λ (e : ℕ). v / 2 ^ e) more)
  where
    more : 8 + 8 * b ≡ 8 * suc b
    more = omega arith

-- only the lowest bits of a number show in its bytes
pub to_bytes_low : (n v : ℕ) → to_bytes n (v % 2 ^ (8 * n)) ≡ to_bytes n v
to_bytes_low n v =
    ap (to_bytes n) (sym (value-to_bytes n v []))
    ∙ to_bytes_value n (to_bytes n v ++ []) (bytes_append (to_bytes n v) [] (bytes-to_bytes n v) (λ i. omega arith)) (omega (arith, long))
    ∙ take_at (to_bytes n v) [] n (length-to_bytes n v)
  where
    long : length (to_bytes n v ++ []) ≡ n
    long = ap length (append-nil (to_bytes n v)) ∙ length-to_bytes n v

pub to_bytes_same : (n x y : ℕ) → x % 2 ^ (8 * n) ≡ y % 2 ^ (8 * n) → to_bytes n x ≡ to_bytes n y
to_bytes_same n x y e = sym (to_bytes_low n x) ∙ ap (to_bytes n) e ∙ to_bytes_low n y

-- bytes, then bytes: the number of both is that of the first, moved up, and that of the second
pub value_add : (s : List ℕ) (a m n : ℕ) → bytes_value s a (m + n) ≡ bytes_value s a m * 2 ^ (n * 8) + bytes_value s (a + m) n
value_add s a m n =
    packed_add 8 (λ (i : ℕ). get_or s (a + i) 0) m n
    ∙ ap (λ (x : ℕ). bytes_value s a m * 2 ^ (n * 8) + x)
    (packed_ext 8 (λ (i : ℕ). get_or s (a + (m + i)) 0) (λ (i : ℕ). get_or s (a + m + i) 0) n (λ i l. ap (λ (x : ℕ). get_or s x 0) (omega arith)))

-- the lowest bits of the number are those of the last byte
pub value_low : (s : List ℕ) (n f : ℕ) → f ≤ 8 → bytes_value s 0 (suc n) % 2 ^ f ≡ get_or s n 0 % 2 ^ f
value_low s n f h =
    ap (λ (x : ℕ). (x + get_or s (0 + n) 0) % 2 ^ f)
    (ap (λ (x : ℕ). bytes_value s 0 n * x) (ap (λ (e : ℕ). 2 ^ e) all ∙ pow-add 2 (8 - f) f) ∙ sym (mul_assoc (bytes_value s 0 n) (2 ^ (8 - f)) (2 ^ f)))
    ∙ mul-add-mod_self_right (bytes_value s 0 n * 2 ^ (8 - f)) (2 ^ f) (get_or s (0 + n) 0)
    ∙ ap (λ (i : ℕ). get_or s i 0 % 2 ^ f) (zero-add n)
  where
    all : 8 ≡ 8 - f + f
    all = omega (arith, h)
