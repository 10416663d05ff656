-- The laws of the nodes over plain numbers: K nodes have words, and H is the leading one that a word leaves out. The
-- numerator is 2 × H × K. At K = 2^k and H = 2^(2k+a) they are the laws of a table with a guard bits.
-- Assumes nothing.
use mathlib.Core.Path.{◌≡◌, sym, ap, ◌∙◌}
use mathlib.Core.Bool.{true}
use Prim.Native.Nat.{ℕ, zero, suc, ◌+◌, ◌-◌, ◌*◌, ◌%◌, ◌≤◌, ◌<◌}
use native.Mathlib.Nat.{le_refl, zero-lt-suc, not-suc-le-zero, add_assoc, mul-le-mul, mul-le-mul_left, mul-le-mul_right, mod-eq_of_lt, mod-eq-sub-mod, mul-mod_left, add-mod_left, lt_of_not-le}
use native.Mathlib.Omega.{arith}
use lib.Dec.{eqb}
use borrow.Author.Tests.{eq-eqb, ne_eqb, eqb-true, lt-ltb, le-leb}
use Rattle.bools.proofs.Bools.{same}
use Rattle.quotient.specs.Quotient.{rounded_up}
use Rattle.quotient.specs.Inner.{rounds_up}
use Rattle.quotient.proofs.Laws.{reaches, passes_less, unique, rounds-up}
use Rattle.nodes.specs.Nodes.{decode_under}

-- what is asked of H and K
pub record Shape (H K : ℕ) : Type 0 where
  pub some : 0 < K
  pub wide : 2 * K ≤ H + 1

-- node j: the numerator over K + j, rounded up
abbrev pub node_at : ℕ → ℕ → ℕ → ℕ
node_at H K j = rounded_up (2 * H * K) (K + j)

-- a word decodes to a value that has the word as its rest
pub decode_rest : (H j word : ℕ) → word < H → decode_under H j word % H ≡ word
decode_rest H zero zero h = mul-mod_left 2 H
decode_rest H zero (suc w) h = rw (ne_eqb (suc w) 0 (λ e. omega (arith, e))) (add-mod_left H (suc w) ∙ mod-eq_of_lt h)
decode_rest H (suc j) word h = rw (ne_eqb (suc j) 0 (λ e. omega (arith, e))) (add-mod_left H word ∙ mod-eq_of_lt h)

-- and to at most twice the leading one
pub decode_le : (H j word : ℕ) → word < H → decode_under H j word ≤ 2 * H
decode_le H zero zero h = le_refl (2 * H)
decode_le H zero (suc w) h = rw (ne_eqb (suc w) 0 (λ e. omega (arith, e))) (omega arith)
decode_le H (suc j) word h = rw (ne_eqb (suc j) 0 (λ e. omega (arith, e))) (omega arith)

near_core : (D K i c c' M : ℕ) → K < D → K ≤ i → M ≡ D * K * K → c * i < M + i → M ≤ c' * (i + 1) → c' * (i + 1) < M + (i + 1) → c < c' + D
near_core zero K i c c' M kd ki m h l l' = absurd (not-suc-le-zero kd)
near_core (suc E) K i c c' M kd ki m h l l' =
    lt_of_not-le (λ (n : c' + suc E ≤ c).
    let ke : K ≤ E = omega arith in
    let a : E * i + 1 ≤ c' = omega (arith, mul-le-mul_right i n) in
    let ki' : K + 1 ≤ i + 1 = omega arith in
    omega (arith, mul-le-mul_right (i + 1) a, mul-le-mul_left E (mul-le-mul ki ki'), mul-le-mul_right K ke))

module _ {H K : ℕ} (shape : Shape H K) where
  -- node 0 is twice the leading one
  pub first : node_at H K 0 ≡ 2 * H
  first = sym (unique (2 * H * K) (K + 0) (omega arith) (2 * H) (omega arith) (omega arith))

  -- node K is the leading one
  pub last : node_at H K K ≡ H
  last = sym (unique (2 * H * K) (K + K) (omega arith) H (omega arith) (omega arith))

  -- a node before node K is above the leading one
  pub above : (j : ℕ) → j < K → H < node_at H K j
  above j h =
      lt_of_not-le (λ (n : node_at H K j ≤ H).
      omega
      (arith, reaches (2 * H * K) (K + j) (omega arith), mul-le-mul_right (K + j) n, mul-le-mul_left {m = suc j} {n = K} H h))

  -- a node after node 0 is below its double
  pub below : (j : ℕ) → 0 < j → node_at H K j < 2 * H
  below j h =
      let room : K + 1 ≤ 2 * H = omega arith in
      lt_of_not-le (λ (n : 2 * H ≤ node_at H K j).
      omega (
        arith,
        passes_less (2 * H * K) (K + j) (omega arith),
        mul-le-mul_right (K + j) n,
        mul-le-mul_right j room,
        mul-le-mul_left {m = 1} {n = j} K h,
      ))

  -- no node before node K is below its own divisor
  pub steep : (j : ℕ) → j < K → K + j < node_at H K j
  steep j h =
      let low : K + j ≤ H = omega arith in
      let high : suc (K + j) ≤ 2 * K = omega arith in
      lt_of_not-le (λ (n : node_at H K j ≤ K + j).
      omega (
        arith,
        reaches (2 * H * K) (K + j) (omega arith),
        mul-le-mul_right (K + j) n,
        mul-le-mul_right (K + j) low,
        mul-le-mul_left H high,
      ))

  -- the nodes fall strictly
  pub falls : (j : ℕ) → j < K → node_at H K (j + 1) < node_at H K j
  falls j h =
      lt_of_not-le (λ (n : node_at H K j ≤ node_at H K (j + 1)).
      omega (
        arith,
        steep j h,
        reaches (2 * H * K) (K + j) (omega arith),
        passes_less (2 * H * K) (K + (j + 1)) (omega arith),
        mul-le-mul_right (K + (j + 1)) n,
      ))

  -- the word of node 0 is zero
  pub word_first : node_at H K 0 % H ≡ 0
  word_first = rw first (mul-mod_left 2 H)

  -- the word of a node between is what the node has above the leading one
  pub word_between : (j : ℕ) → 0 < j → j < K → node_at H K j % H ≡ node_at H K j - H
  word_between j h l =
      let a : H < node_at H K j = above j l in
      let b : node_at H K j < 2 * H = below j h in
      mod-eq-sub-mod (omega arith) ∙ mod-eq_of_lt (omega arith)

  -- the word of a node decodes to the node
  pub decodes : (j : ℕ) → j < K → decode_under H j (node_at H K j % H) ≡ node_at H K j
  decodes zero h = rw word_first (sym first)
  decodes (suc j) h =
      let a : H < node_at H K (suc j) = above (suc j) h in
      rw (ne_eqb (suc j) 0 (λ e. omega (arith, e)), word_between (suc j) (zero-lt-suc j) h) (omega arith)

  -- a right word decodes to the node
  pub right_decodes : (j word : ℕ) → j < K → word ≡ node_at H K j % H → decode_under H j word ≡ node_at H K j
  right_decodes j word h e = rw e (decodes j h)

  -- the test by a product alone says whether a word is the node's
  pub judges : (j word : ℕ) → j < K → word < H → rounds_up (2 * H * K) (K + j) (decode_under H j word) ≡ eqb word (node_at H K j % H)
  judges j word h l =
      rounds-up (2 * H * K) (K + j) (omega arith) (decode_under H j word)
      ∙ same _ _
      (λ t. eq-eqb word (node_at H K j % H) (sym (decode_rest H j word l) ∙ ap (λ (x : ℕ). x % H) (eqb-true _ _ t)))
      (λ t. eq-eqb (decode_under H j word) (node_at H K j) (right_decodes j word h (eqb-true word (node_at H K j % H) t)))

  -- and it passes zero bits behind the last word for the last node, which is the leading one
  pub judges_last : rounds_up (2 * H * K) (K + K) (decode_under H K 0) ≡ true
  judges_last =
      rw (
        ne_eqb K 0 (λ e. omega (arith, e)),
        le-leb (2 * H * K) ((H + 0) * (K + K)) (omega arith),
        lt-ltb ((H + 0) * (K + K)) (2 * H * K + (K + K)) (omega arith),
      )

  -- neighbours differ by less than D, where D × K is twice the leading one (Das Sarma and Matula, Lemma 1)
  pub near : (D : ℕ) → D * K ≡ 2 * H → K < D → (j : ℕ) → node_at H K j < node_at H K (j + 1) + D
  near D e l j =
      near_core D K (K + j) (node_at H K j) (node_at H K (j + 1)) (2 * H * K) l (omega arith) (ap (λ (x : ℕ). x * K) (sym e))
      (passes_less (2 * H * K) (K + j) (omega arith))
      (rw add_assoc (reaches (2 * H * K) (K + (j + 1)) (omega arith)))
      (rw add_assoc (passes_less (2 * H * K) (K + (j + 1)) (omega arith)))
