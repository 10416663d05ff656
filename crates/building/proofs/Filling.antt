-- A buffer that is being filled with the words of a table: what the divisor of the next word tells of it.
-- Assumes nothing.
use mathlib.Core.Path.{◌≡◌, sym, ap, ap₂, ◌∙◌}
use mathlib.Core.List.{List}
use Prim.Native.Nat.{ℕ, suc, ◌+◌, ◌-◌, ◌*◌, ◌^◌, ◌≤◌, ◌<◌}
use native.Mathlib.Nat.{mul-le-mul, mul-le-mul_right}
use native.Mathlib.Omega.{arith}
use lib.ListN.{length}
use Rattle.packing.specs.Writing.{started, taken_in, put_bytes, writer_before, bytes_before}
use Rattle.packing.specs.declared.writing.Writer.{Writer}
use Rattle.packing.proofs.Written.{place-before, words_length}
use Rattle.quotient.specs.Quotient.{rounded_up}
use Rattle.nodes.specs.declared.Quotients.{Quotients}
use Rattle.image.specs.Inner.{quotients}
use Rattle.building.specs.Inner.{CanFill}

-- a word behind those before the divisor i takes as many bits more
pub more : (i first w : ℕ) → first ≤ i → (i - first) * w + w ≡ (i + 1 - first) * w
more i first w h = step (i - first) ∙ ap (λ (n : ℕ). n * w) next
  where
    step : (n : ℕ) → n * w + w ≡ (n + 1) * w
    step n = omega arith

    next : i - first + 1 ≡ i + 1 - first
    next = omega arith

-- before the word of i, the words of the divisors before it are put
pub record Filled (t : Quotients) (s image : List ℕ) (w : Writer) (i : ℕ) : Type 0 where
  pub from : t.first ≤ i
  pub upto : i ≤ t.first + t.count
  pub bytes : image ≡ bytes_before t.width (quotients t) s (i - t.first)
  pub writer : w ≡ writer_before t.width (quotients t) (i - t.first)

-- at first none is
pub filled_none : (t : Quotients) (s : List ℕ) (w : Writer) → w ≡ started → Filled t s s w t.first
filled_none t s w e =
    record {
      from = omega arith;
      upto = omega arith;
      bytes = ap (bytes_before t.width (quotients t) s) (sym none);
      writer = e ∙ ap (writer_before t.width (quotients t)) (sym none);
    }
  where
    none : t.first - t.first ≡ 0
    none = omega arith

module _ (t : Quotients) (s image : List ℕ) (w : Writer) (i : ℕ) (h : Filled t s image w i) where
  abbrev j : ℕ
  j = i - t.first

  abbrev f : ℕ → ℕ
  f = quotients t

  -- the word of i is put
  pub filled_more : (image' : List ℕ) (w' : Writer) → i < t.first + t.count → w' ≡ taken_in w t.width (rounded_up t.numerator i)
      → image' ≡ put_bytes image w t.width (rounded_up t.numerator i) → Filled t s image' w' (i + 1)
  filled_more image' w' l e b =
      record {
        from = omega (arith, h.from);
        upto = omega arith;
        bytes =
            b ∙ ap₂ (λ (r : Writer) (l : List ℕ). put_bytes l r t.width (rounded_up t.numerator i)) h.writer h.bytes
            ∙ ap (λ (n : ℕ). put_bytes (bytes_before t.width f s j) (writer_before t.width f j) t.width (rounded_up t.numerator n)) there
            ∙ ap (bytes_before t.width f s) next;
        writer =
            e ∙ ap (λ (r : Writer). taken_in r t.width (rounded_up t.numerator i)) h.writer
            ∙ ap (λ (n : ℕ). taken_in (writer_before t.width f j) t.width (rounded_up t.numerator n)) there
            ∙ ap (writer_before t.width f) next;
      }
    where
      there : i ≡ t.first + j
      there = omega (arith, h.from)

      next : suc j ≡ i + 1 - t.first
      next = omega (arith, h.from)

  module _ (ok : CanFill t (length s)) where
    -- the words up to there end where all end, and those have far fewer than 2^64 bits
    within : j * t.width ≤ t.count * t.width
    within = mul-le-mul_right t.width (omega (arith, h.from, h.upto))

    small : t.count * t.width < 2 ^ 64
    small = omega (arith, mul-le-mul few ok.wide)
      where
        few : t.count ≤ 2 ^ 32
        few = omega (arith, ok.few)

    pub filled_place : w.place ≡ j * t.width
    filled_place = ap (λ (r : Writer). r.place) h.writer ∙ place-before t.width f j (omega (arith, within, small))

    pub filled_length : length image ≡ length s
    filled_length =
        ap length h.bytes ∙ words_length t.width f s j ok.wide (omega (arith, within, small)) (omega (arith, within, ok.room))

    -- so the buffer can still be filled
    pub filled_can : CanFill t (length image)
    filled_can = record { wide = ok.wide; few = ok.few; above = ok.above; exact = ok.exact; room = omega (arith, ok.room, filled_length) }
