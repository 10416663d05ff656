-- Bytes of a number stored in a list, eight at once or one by one.
-- Assumes nothing.
use Rattle.std.proofs.Common.{◌≡◌, ℕ, suc, ◌+◌, ◌-◌, ◌*◌, ◌/◌, ◌%◌, ◌^◌, ◌<◌, ◌≤◌, List, [], ◌∷◌, ◌++◌, length, get_or, take, drop, set, sym, ap, ◌∙◌, ap₂, append_assoc, add-one, arith, length-take, drop-cons, drop-drop, drop_of_length-le, append-nil, take_at, pow-add, shr-shr}
use lib.Seq.{set_at, drop-append-add}
use lib.Pow.{shl-shr, field}
use borrow.Rule.Slice.PartMut.{put_mid}
use Rattle.packing.specs.Packing.{to_bytes}
use Rattle.packing.specs.Writing.{stored}
use Rattle.packing.proofs.Bytes.{length-to_bytes, to_bytes_low}

-- a byte is stored behind those written over a list
pub write_next : (t before : List ℕ) (at b : ℕ) → length t ≡ at → at < length before → set (t ++ drop at before) at b ≡ (t ++ (b ∷ [])) ++ drop (at + 1) before
write_next t before at b e h =
    ap (λ (l : List ℕ). set (t ++ l) at b) (drop-cons before at 0 h)
    ∙ set_at t (get_or before at 0) (drop (suc at) before) b at e
    ∙ sym (append_assoc t (b ∷ []) (drop (suc at) before))
    ∙ ap (λ (i : ℕ). (t ++ (b ∷ [])) ++ drop i before) (sym (add-one at))

-- bytes stored behind those that were written over a list
pub stored_behind : (t s : List ℕ) (a n v : ℕ) → length t ≡ a → stored (t ++ drop a s) a n v ≡ (t ++ to_bytes n v) ++ drop (a + n) s
stored_behind t s a n v e =
    ap₂ (λ (x y : List ℕ). x ++ (to_bytes n v ++ y)) (take_at t (drop a s) a e) behind
    ∙ sym (append_assoc t (to_bytes n v) (drop (a + n) s))
  where
    behind : drop (a + n) (t ++ drop a s) ≡ drop (a + n) s
    behind = ap (λ (x : ℕ). drop (x + n) (t ++ drop a s)) (sym e) ∙ drop-append-add t (drop a s) n ∙ drop-drop n a s

-- the first m bytes of a number of 64 bits written over a list
abbrev pub written : List ℕ → ℕ → ℕ → List ℕ
written s v m = to_bytes m (v / 2 ^ (64 - 8 * m)) ++ drop m s

-- and a byte more: the highest of what is left when those are shifted out
module _ (s : List ℕ) (v m : ℕ) where
  pub written_more : m < 8 → m < length s → set (written s v m) m (v * 2 ^ (8 * m) % 2 ^ 64 / 2 ^ 56) ≡ written s v (m + 1)
  written_more few room =
      write_next (to_bytes m x) s m b (length-to_bytes m x) room
      ∙ ap (λ (l : List ℕ). l ++ drop (m + 1) s) (ap₂ (λ (z c : ℕ). to_bytes m z ++ (c ∷ [])) up byte ∙ ap (λ (n : ℕ). to_bytes n y) (sym (add-one m)))
    where
      x : ℕ
      x = v / 2 ^ (64 - 8 * m)

      y : ℕ
      y = v / 2 ^ (64 - 8 * (m + 1))

      b : ℕ
      b = v * 2 ^ (8 * m) % 2 ^ 64 / 2 ^ 56

      eight_more : 64 - 8 * m ≡ 64 - 8 * (m + 1) + 8
      eight_more = omega arith

      up : x ≡ y / 256
      up = ap (λ (e : ℕ). v / 2 ^ e) eight_more ∙ sym (shr-shr v (64 - 8 * (m + 1)) 8)

      seven : 56 ≡ 8 * m + (64 - 8 * (m + 1))
      seven = omega arith

      byte : b ≡ y % 256
      byte =
          field (v * 2 ^ (8 * m)) 8 56
          ∙ ap (λ (z : ℕ). z % 256)
          (ap (λ (e : ℕ). v * 2 ^ (8 * m) / 2 ^ e) seven
          ∙ sym (shr-shr (v * 2 ^ (8 * m)) (8 * m) (64 - 8 * (m + 1)))
          ∙ ap (λ (z : ℕ). z / 2 ^ (64 - 8 * (m + 1))) (shl-shr v (8 * m)))

  -- and what is left then
  pub rest_more : v * 2 ^ (8 * m) % 2 ^ 64 * 256 % 2 ^ 64 ≡ v * 2 ^ (8 * (m + 1)) % 2 ^ 64
  rest_more = shifted (v * 2 ^ (8 * m)) ∙ ap (λ (x : ℕ). x % 2 ^ 64) (regroup v (2 ^ (8 * m)) ∙ ap (λ (x : ℕ). v * x) (sym (pow-add 2 (8 * m) 8) ∙ ap (λ (e : ℕ). 2 ^ e) more))
    where
      shifted : (x : ℕ) → x % 2 ^ 64 * 256 % 2 ^ 64 ≡ x * 256 % 2 ^ 64
      shifted x = omega arith

      regroup : (x y : ℕ) → x * y * 256 ≡ x * (y * 256)
      regroup x y = omega arith

      more : 8 * m + 8 ≡ 8 * (m + 1)
      more = omega arith

-- with all of a part of a list written over, the bytes are stored there
pub part_written : (s : List ℕ) (a n v : ℕ) → a + n ≤ length s → put_mid a n s (written (take n (drop a s)) v n) ≡ stored s a n (v / 2 ^ (64 - 8 * n))
part_written s a n v room =
    ap₂ (λ (x y : List ℕ). take a s ++ (x ++ y))
    (ap (λ (l : List ℕ). to_bytes n (v / 2 ^ (64 - 8 * n)) ++ l) (drop_of_length-le (take n (drop a s)) (omega (arith, length-take n (drop a s)))) ∙ append-nil (to_bytes n (v / 2 ^ (64 - 8 * n))))
    (drop-drop n a s)

-- the first n bytes of the lowest k bits of a number, moved up to the top of 64
pub bytes_top : (W k n : ℕ) → k ≤ 8 * n → n ≤ 8 → to_bytes n (W * 2 ^ (64 - k) % 2 ^ 64 / 2 ^ (64 - 8 * n)) ≡ to_bytes n (W * 2 ^ (8 * n - k))
bytes_top W k n h few =
    ap (to_bytes n)
    (ap (λ (e : ℕ). W * 2 ^ (64 - k) % 2 ^ e / 2 ^ (64 - 8 * n)) whole
    ∙ field (W * 2 ^ (64 - k)) (8 * n) (64 - 8 * n)
    ∙ ap (λ (x : ℕ). x / 2 ^ (64 - 8 * n) % 2 ^ (8 * n)) (ap (λ (e : ℕ). W * 2 ^ e) apart ∙ ap (λ (x : ℕ). W * x) (pow-add 2 (8 * n - k) (64 - 8 * n)) ∙ regroup W (2 ^ (8 * n - k)) (2 ^ (64 - 8 * n)))
    ∙ ap (λ (x : ℕ). x % 2 ^ (8 * n)) (shl-shr (W * 2 ^ (8 * n - k)) (64 - 8 * n)))
    ∙ to_bytes_low n (W * 2 ^ (8 * n - k))
  where
    whole : 64 ≡ 8 * n + (64 - 8 * n)
    whole = omega arith

    apart : 64 - k ≡ 8 * n - k + (64 - 8 * n)
    apart = omega arith

    regroup : (x y z : ℕ) → x * (y * z) ≡ x * y * z
    regroup x y z = omega arith
