-- Laws of the writer: its place grows by the width, what it has taken in is the number that the words make, and at the
-- end they stand packed. For any width up to 32 and any word function.
-- Assumes nothing.
use Rattle.std.proofs.Common.{◌≡◌, ℕ, zero, suc, ◌+◌, ◌-◌, ◌*◌, ◌/◌, ◌%◌, ◌^◌, ◌<◌, ◌≤◌, Bool, true, false, leb, List, ◌++◌, length, take, drop, sym, refl, ap, ◌∙◌, subst, ap₂, add-zero, mod-lt, mod-eq_of_lt, add_comm, arith, length-append, length-drop, pow_pos, pow-add, shr-shr, shr_lt, le-leb, leb-false, leb-true}
use native.Mathlib.Nat.{mul-mod_left, mul-div-mul_right}
use lib.Pow.{shl-shr, split, high, low, field, mod-mod-pow, mod-pow-add}
use borrow.Author.Tests.{lt-leb}
use Rattle.packing.specs.Packing.{packed, to_bytes, bytes_taken, byte_count, packed_bytes}
use Rattle.packing.specs.Writing.{stored, wait_from, joined, taken_in, put_bytes, can_put, put_writer, put_leaves, finish_leaves, writer_before, bytes_before}
use Rattle.packing.specs.declared.writing.Writer.{Writer}
use Rattle.packing.proofs.Bytes.{length-to_bytes, to_bytes_add, to_bytes_low, to_bytes_same}
use Rattle.packing.proofs.Storing.{stored_behind}

-- a word v of w bits is taken: the bytes stay, and the bits that wait are followed by the word
take_high : (p v w left : ℕ) → v < 2 ^ w → (p * 2 ^ w + v) / 2 ^ (left + w) ≡ p / 2 ^ left
take_high p v w left h =
    ap (λ (x : ℕ). (p * 2 ^ w + v) / 2 ^ x) (add_comm left w)
    ∙ sym (shr-shr (p * 2 ^ w + v) w left) ∙ ap (λ (x : ℕ). x / 2 ^ left) (high p w h)

take_low : (p v w left : ℕ) → v < 2 ^ w → (p * 2 ^ w + v) % 2 ^ (left + w) ≡ (p % 2 ^ left) * 2 ^ w + v
take_low p v w left h =
    mod-pow-add (p * 2 ^ w + v) left w ∙ ap₂ (λ (x y : ℕ). (x % 2 ^ left) * 2 ^ w + y) (high p w h) (low p w h)

-- a power of two within another
mod_within : (x i j : ℕ) → i ≤ j → x % 2 ^ j % 2 ^ i ≡ x % 2 ^ i
mod_within x i j h = ap (λ (e : ℕ). x % 2 ^ e % 2 ^ i) up ∙ mod-mod-pow x (j - i) i
  where
    up : j ≡ (j - i) + i
    up = omega arith

-- a word behind what waits, of which 64 bits are kept
pub joined_low : (W b w : ℕ) → w ≤ 64 → b < 2 ^ w → W * 2 ^ w % 2 ^ 64 + b ≡ (W * 2 ^ w + b) % 2 ^ 64
joined_low W b w h l =
    ap (λ (x : ℕ). x + b)
    (ap₂ (λ (x y : ℕ). x % 2 ^ y) (sym (add-zero (W * 2 ^ w))) up ∙ take_low W 0 w (64 - w) (pow_pos w) ∙ add-zero (W % 2 ^ (64 - w) * 2 ^ w))
    ∙ sym (take_low W b w (64 - w) l) ∙ ap (λ (x : ℕ). (W * 2 ^ w + b) % 2 ^ x) (sym up)
  where
    up : 64 ≡ (64 - w) + w
    up = omega arith

-- and what is left of it when its last bits are cut off
joined_high : (W b w o : ℕ) → o ≤ w → (W * 2 ^ w + b) / 2 ^ o ≡ W * 2 ^ (w - o) + b / 2 ^ o
joined_high W b w o h =
    ap (λ (x : ℕ). x / 2 ^ o) (ap₂ (λ (x y : ℕ). W * x + y) apart (sym (split b o)) ∙ regroup W (2 ^ (w - o)) (2 ^ o) (b / 2 ^ o) (b % 2 ^ o))
    ∙ high (W * 2 ^ (w - o) + b / 2 ^ o) o (mod-lt b (pow_pos o))
  where
    up : w ≡ (w - o) + o
    up = omega arith

    apart : 2 ^ w ≡ 2 ^ (w - o) * 2 ^ o
    apart = ap (λ (x : ℕ). 2 ^ x) up ∙ pow-add 2 (w - o) o

    regroup : (a b c d e : ℕ) → a * (b * c) + (d * c + e) ≡ (a * b + d) * c + e
    regroup a b c d e = omega arith

module _ (r : Writer) (w v : ℕ) where
  -- 64 bits are complete: those that wait, as far up as there is room behind them, and the first of the word
  abbrev pub over : ℕ
  over = r.place % 64 + w - 64

  abbrev pub eight : ℕ
  eight = r.waiting * 2 ^ (w - over) % 2 ^ 64 + v % 2 ^ w / 2 ^ over

  pub eight_is : w ≤ 32 → 64 ≤ r.place % 64 + w → eight ≡ joined r w v / 2 ^ over % 2 ^ 64
  eight_is wide long =
      joined_low r.waiting (v % 2 ^ w / 2 ^ over) (w - over) (omega arith)
      (shr_lt (w - over) over (subst (λ (x : ℕ). v % 2 ^ w < 2 ^ x) up (mod-lt v (pow_pos w))))
      ∙ ap (λ (x : ℕ). x % 2 ^ 64) (sym (joined_high r.waiting (v % 2 ^ w) w over (omega arith)))
    where
      up : w ≡ (w - over) + over
      up = omega arith

-- what a put leaves, by the way it goes
module _ (s : List ℕ) (r : Writer) (w v : ℕ) where
  -- the word is too wide, or 64 bits are complete and their bytes have no room: all stays
  pub put_wide : 32 < w → (r ≡ put_writer s r w v) × (s ≡ put_leaves s r w v)
  put_wide h = rw (lt-leb w 32 h) (refl, refl)

  pub put_full : w ≤ 32 → 64 ≤ r.place % 64 + w → length s < wait_from r.place + 8 → (r ≡ put_writer s r w v) × (s ≡ put_leaves s r w v)
  put_full wide long full = rw (le-leb w 32 wide, le-leb 64 (r.place % 64 + w) long, lt-leb (wait_from r.place + 8) (length s) full) (refl, refl)

  -- the word is taken in, and all that was there before waits on
  pub put_waits : w ≤ 32 → r.place % 64 + w < 64
      → (record { waiting = r.waiting * 2 ^ w % 2 ^ 64 + v % 2 ^ w; place = (r.place + w) % 2 ^ 64 } ≡ put_writer s r w v) × (s ≡ put_leaves s r w v)
  put_waits wide short =
      rw (le-leb w 32 wide, lt-leb 64 (r.place % 64 + w) short)
      (ap (λ (x : ℕ). record { waiting = x; place = (r.place + w) % 2 ^ 64 }) (joined_low r.waiting (v % 2 ^ w) w (omega arith) (mod-lt v (pow_pos w))), refl)

  pub put_stores : w ≤ 32 → 64 ≤ r.place % 64 + w → wait_from r.place + 8 ≤ length s
      → (record { waiting = v % 2 ^ w; place = (r.place + w) % 2 ^ 64 } ≡ put_writer s r w v) × (stored s (wait_from r.place) 8 (eight r w v) ≡ put_leaves s r w v)
  put_stores wide long room =
      rw (le-leb w 32 wide, le-leb 64 (r.place % 64 + w) long, le-leb (wait_from r.place + 8) (length s) room) (
        refl,
        ap (λ (l : List ℕ). take (wait_from r.place) s ++ (l ++ drop (wait_from r.place + 8) s))
            (ap (to_bytes 8) (eight_is r w v wide long) ∙ to_bytes_low 8 (joined r w v / 2 ^ over r w v)),
      )

-- a word that is not too wide and ends within the bytes can be put
pub can-put : (n : ℕ) (r : Writer) (w : ℕ) → w ≤ 32 → r.place + w ≤ 8 * n → can_put n r w ≡ true
can-put n r w wide room = by (leb 64 (r.place % 64 + w)) refl
  where
    by : (t : Bool) → leb 64 (r.place % 64 + w) ≡ t → can_put n r w ≡ true
    by true e =
        let there : wait_from r.place + 8 ≤ n = omega (arith, leb-true 64 (r.place % 64 + w) e) in
        rw (le-leb w 32 wide, e, le-leb (wait_from r.place + 8) n there) refl
    by false e = rw (le-leb w 32 wide, e) refl

-- so it is
pub put_taken : (s : List ℕ) (r : Writer) (w v : ℕ) → w ≤ 32 → r.place + w ≤ 8 * length s
    → (put_writer s r w v ≡ taken_in r w v) × (put_leaves s r w v ≡ put_bytes s r w v)
put_taken s r w v wide room = rw (can-put (length s) r w wide room) (refl, refl)

-- and the place grows by its width
pub place_after : (s : List ℕ) (r : Writer) (w v : ℕ) → can_put (length s) r w ≡ true → r.place + w < 2 ^ 64 → (put_writer s r w v).place ≡ r.place + w
place_after s r w v can few = rw can (mod-eq_of_lt few)

-- the number P is taken in: the bits that wait are its last, and the bytes of those before them are written over s
record Holds (s now : List ℕ) (r : Writer) (P : ℕ) : Type 0 where
  bits : r.waiting % 2 ^ (r.place % 64) ≡ P % 2 ^ (r.place % 64)
  bytes : now ≡ to_bytes (wait_from r.place) (P / 2 ^ (r.place % 64)) ++ drop (wait_from r.place) s

module _ (s now : List ℕ) (r : Writer) (P : ℕ) (h : Holds s now r P) where
  -- the bytes written lie within the list, whose length stays
  holds_length : wait_from r.place ≤ length s → length now ≡ length s
  holds_length within =
      ap length h.bytes
      ∙ length-append (to_bytes (wait_from r.place) (P / 2 ^ (r.place % 64))) (drop (wait_from r.place) s)
      ∙ omega (arith, length-to_bytes (wait_from r.place) (P / 2 ^ (r.place % 64)), length-drop (wait_from r.place) s)

  -- a word is put: the number that is taken in is followed by it
  module _ (w v : ℕ) (wide : w ≤ 32) (few : r.place + w < 2 ^ 64) where
    -- the last bits, with the word behind them
    last : joined r w v % 2 ^ (r.place % 64 + w) ≡ (P * 2 ^ w + v % 2 ^ w) % 2 ^ (r.place % 64 + w)
    last =
        take_low r.waiting (v % 2 ^ w) w (r.place % 64) (mod-lt v (pow_pos w))
        ∙ ap (λ (x : ℕ). x * 2 ^ w + v % 2 ^ w) h.bits
        ∙ sym (take_low P (v % 2 ^ w) w (r.place % 64) (mod-lt v (pow_pos w)))

    -- and those before them
    front : (P * 2 ^ w + v % 2 ^ w) / 2 ^ (r.place % 64 + w) ≡ P / 2 ^ (r.place % 64)
    front = take_high P (v % 2 ^ w) w (r.place % 64) (mod-lt v (pow_pos w))

    grown : (r.place + w) % 2 ^ 64 ≡ r.place + w
    grown = mod-eq_of_lt few

    waits : r.place % 64 + w < 64 → Holds s (put_bytes now r w v) (taken_in r w v) (P * 2 ^ w + v % 2 ^ w)
    waits short =
        let same : (r.place + w) % 64 ≡ r.place % 64 + w = omega arith in
        let stay : wait_from (r.place + w) ≡ wait_from r.place = omega arith in
        rw (lt-leb 64 (r.place % 64 + w) short, grown)
        (record {
          bits = rw same (mod_within (joined r w v) (r.place % 64 + w) 64 (omega arith) ∙ last);
          bytes =
              h.bytes
              ∙ ap₂ (λ (x y : ℕ). to_bytes x y ++ drop x s) (sym stay) (sym front ∙ ap (λ (x : ℕ). (P * 2 ^ w + v % 2 ^ w) / 2 ^ x) (sym same));
        })

    stores : 64 ≤ r.place % 64 + w → Holds s (put_bytes now r w v) (taken_in r w v) (P * 2 ^ w + v % 2 ^ w)
    stores long =
        let o : ℕ = r.place % 64 + w - 64 in
        let Q : ℕ = P * 2 ^ w + v % 2 ^ w in
        let over : (r.place + w) % 64 ≡ o = omega arith in
        let up : wait_from (r.place + w) ≡ wait_from r.place + 8 = omega arith in
        let whole : 64 + o ≡ r.place % 64 + w = omega arith in
        rw (le-leb 64 (r.place % 64 + w) long, grown)
        (record {
          bits =
              rw over
              (ap (λ (x : ℕ). x % 2 ^ o) (sym (low P w (mod-lt v (pow_pos w))))
              ∙ mod_within Q o w (omega arith));
          bytes =
              rw (over, up)
              (ap (λ (l : List ℕ). stored l (wait_from r.place) 8 (joined r w v / 2 ^ o)) h.bytes
              ∙ stored_behind (to_bytes (wait_from r.place) (P / 2 ^ (r.place % 64))) s (wait_from r.place) 8 (joined r w v / 2 ^ o) (length-to_bytes (wait_from r.place) (P / 2 ^ (r.place % 64)))
              ∙ ap (λ (l : List ℕ). l ++ drop (wait_from r.place + 8) s)
              (ap₂ (λ (x : ℕ) (y : List ℕ). to_bytes (wait_from r.place) x ++ y)
              (sym front ∙ ap (λ (x : ℕ). Q / 2 ^ x) (sym whole ∙ omega arith) ∙ sym (shr-shr Q o 64))
              (to_bytes_same 8 (joined r w v / 2 ^ o) (Q / 2 ^ o)
              (sym (field (joined r w v) 64 o)
              ∙ ap (λ (x : ℕ). x / 2 ^ o) (ap (λ (x : ℕ). joined r w v % 2 ^ x) whole ∙ last ∙ ap (λ (x : ℕ). Q % 2 ^ x) (sym whole))
              ∙ field Q 64 o))
              ∙ sym (to_bytes_add (wait_from r.place) 8 (Q / 2 ^ o))));
        })

    put_holds : Holds s (put_bytes now r w v) (taken_in r w v) (P * 2 ^ w + v % 2 ^ w)
    put_holds = by (leb 64 (r.place % 64 + w)) refl
      where
        by : (t : Bool) → leb 64 (r.place % 64 + w) ≡ t → Holds s (put_bytes now r w v) (taken_in r w v) (P * 2 ^ w + v % 2 ^ w)
        by true e = stores (leb-true 64 (r.place % 64 + w) e)
        by false e = waits (leb-false 64 (r.place % 64 + w) e)

  -- what waits is stored, with zero bits to the byte's end: all that is taken in stands at the front
  finish_holds : bytes_taken r.place ≤ length s
      → finish_leaves now r ≡ to_bytes (bytes_taken r.place) (P * 2 ^ (8 * bytes_taken r.place - r.place)) ++ drop (bytes_taken r.place) s
  finish_holds room =
      rw (le-leb (bytes_taken r.place) (length now) (omega (arith, holds_length (omega arith))))
      (ap (λ (l : List ℕ). stored l a n (r.waiting * 2 ^ e)) h.bytes
      ∙ stored_behind (to_bytes a (P / 2 ^ left)) s a n (r.waiting * 2 ^ e) (length-to_bytes a (P / 2 ^ left))
      ∙ ap (λ (l : List ℕ). l ++ drop (a + n) s)
      (ap₂ (λ (x : ℕ) (y : List ℕ). to_bytes a x ++ y) high_part (to_bytes_same n (r.waiting * 2 ^ e) (P * 2 ^ e) low_part)
      ∙ sym (to_bytes_add a n (P * 2 ^ e)))
      ∙ ap₂ (λ (x y : ℕ). to_bytes x (P * 2 ^ y) ++ drop x s) all fill)
    where
      left : ℕ
      left = r.place % 64

      a : ℕ
      a = wait_from r.place

      n : ℕ
      n = bytes_taken left

      e : ℕ
      e = 8 * n - left

      all : a + n ≡ bytes_taken r.place
      all = omega arith

      fill : e ≡ 8 * bytes_taken r.place - r.place
      fill = omega arith

      up : left + e ≡ 8 * n
      up = omega arith

      high_part : P / 2 ^ left ≡ P * 2 ^ e / 2 ^ (8 * n)
      high_part =
          sym (mul-div-mul_right P (2 ^ left) (pow_pos e))
          ∙ ap (λ (x : ℕ). P * 2 ^ e / x) (sym (pow-add 2 left e) ∙ ap (λ (x : ℕ). 2 ^ x) up)

      shifted : (x : ℕ) → x * 2 ^ e % 2 ^ (8 * n) ≡ x % 2 ^ left * 2 ^ e + 0
      shifted x =
          ap (λ (y : ℕ). x * 2 ^ e % 2 ^ y) (sym up)
          ∙ mod-pow-add (x * 2 ^ e) left e
          ∙ ap₂ (λ (y z : ℕ). (y % 2 ^ left) * 2 ^ e + z) (shl-shr x e) (mul-mod_left x (2 ^ e))

      low_part : r.waiting * 2 ^ e % 2 ^ (8 * n) ≡ P * 2 ^ e % 2 ^ (8 * n)
      low_part = shifted r.waiting ∙ ap (λ (x : ℕ). x * 2 ^ e + 0) h.bits ∙ sym (shifted P)

-- the bit place before word j is j × w: it starts at 0 and grows by w at each word
pub place-before : (w : ℕ) (f : ℕ → ℕ) (j : ℕ) → j * w < 2 ^ 64 → (writer_before w f j).place ≡ j * w
place-before w f zero h = omega arith
place-before w f (suc j) h =
    let more : j * w + w < 2 ^ 64 = omega arith in
    ap (λ (p : ℕ). (p + w) % 2 ^ 64) (place-before w f j (omega arith)) ∙ mod-eq_of_lt more ∙ omega arith

-- before word j the number of the words before it is taken in
words_held : (w : ℕ) (f : ℕ → ℕ) (s : List ℕ) (j : ℕ) → w ≤ 32 → j * w < 2 ^ 64
    → Holds s (bytes_before w f s j) (writer_before w f j) (packed w (λ (i : ℕ). f i % 2 ^ w) j)
words_held w f s zero wide few = record { bits = refl; bytes = refl }
words_held w f s (suc j) wide few =
    put_holds s (bytes_before w f s j) (writer_before w f j) (packed w (λ (i : ℕ). f i % 2 ^ w) j) (words_held w f s j wide (omega arith)) w (f j) wide
    (omega (arith, place-before w f j (omega arith)))

-- which have their length
pub words_length : (w : ℕ) (f : ℕ → ℕ) (s : List ℕ) (j : ℕ) → w ≤ 32 → j * w < 2 ^ 64 → j * w ≤ 8 * length s → length (bytes_before w f s j) ≡ length s
words_length w f s j wide few room =
    holds_length s (bytes_before w f s j) (writer_before w f j) (packed w (λ (i : ℕ). f i % 2 ^ w) j) (words_held w f s j wide few)
    (omega (arith, place-before w f j few))

-- so a put of word j, where it has room, gives the writer and the bytes before the word after it
pub word_put : (w : ℕ) (f : ℕ → ℕ) (s : List ℕ) (j : ℕ) → w ≤ 32 → j * w + w < 2 ^ 64 → j * w + w ≤ 8 * length s
    → (put_writer (bytes_before w f s j) (writer_before w f j) w (f j) ≡ writer_before w f (suc j)) × (put_leaves (bytes_before w f s j) (writer_before w f j) w (f j) ≡ bytes_before w f s (suc j))
word_put w f s j wide few room =
    put_taken (bytes_before w f s j) (writer_before w f j) w (f j) wide
    (omega (arith, place-before w f j (omega arith), words_length w f s j wide (omega arith) (omega arith)))

-- at the end the words stand packed at the front of the bytes
pub words_finished : (w : ℕ) (f : ℕ → ℕ) (s : List ℕ) (n : ℕ) → w ≤ 32 → n * w < 2 ^ 64 → byte_count w n ≤ length s
    → finish_leaves (bytes_before w f s n) (writer_before w f n) ≡ packed_bytes w (λ (j : ℕ). f j % 2 ^ w) n ++ drop (byte_count w n) s
words_finished w f s n wide few room =
    finish_holds s (bytes_before w f s n) (writer_before w f n) P (words_held w f s n wide few) (omega (arith, at))
    ∙ ap (λ (p : ℕ). to_bytes (bytes_taken p) (P * 2 ^ (8 * bytes_taken p - p)) ++ drop (bytes_taken p) s) at
  where
    P : ℕ
    P = packed w (λ (j : ℕ). f j % 2 ^ w) n

    at : (writer_before w f n).place ≡ n * w
    at = place-before w f n few
