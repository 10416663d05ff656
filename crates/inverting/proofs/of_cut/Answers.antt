-- `inverting::of_cut` meets its contract: it reads the words of nodes j and j + 1 of the image's own bytes at once.
-- Assumes nothing.
use mathlib.Core.Path.{◌≡◌, sym, ap, ap₂, ◌∙◌}
use mathlib.Core.List.{List}
use Prim.Native.Nat.{ℕ, ◌+◌, ◌*◌, ◌/◌, ◌%◌, ◌^◌, ◌<◌}
use native.Mathlib.Omega.{arith}
use Rattle.std.proofs.Common.{Result}
use Rattle.units.specs.declared.Ulps.{Ulps}
use Rattle.answers.specs.declared.Refused.{Refused}
use Rattle.format.specs.Format.{usual, word_width}
use Rattle.format.specs.declared.Form.{Form}
use Rattle.format.proofs.Range.{usual-in-range}
use Rattle.format.specs.declared.Format.{Format}
use Rattle.format.proofs.Laws.{width_most}
use Rattle.packing.specs.Packing.{Bytes}
use Rattle.packing.specs.Inner.{window_at}
use Rattle.packing.proofs.Fields.{window_field}
use Rattle.answers.specs.Answer.{outcome_of_reciprocal}
use Rattle.nodes.specs.declared.Quotients.{Quotients}
use Rattle.image.specs.Inner.{front_of}
use Rattle.image.proofs.Limits.{ImageKept}
use Rattle.image.proofs.OwnBytes.{own_bytes, own-bytes}
use Rattle.interpolation.specs.Algorithm.{node_number}
use Rattle.interpolation.specs.Inner.{cut_of, cut_outcome}
use Rattle.interpolation.proofs.Cut.{cut_number_below, bits_number, bits_fraction, bits_least, bits_most}
use Rattle.inverting.specs.Inner.{IsCut, IsPieceOf, both_in, ends_outcome}
use Rattle.inverting.proofs.Ends.{both_words, ends_of_cut}
use Rattle.inverting.proofs.of_cut.Goals as goal

-- the precision, the image and the fraction bits keep their limits, and the bytes are bytes
module _ (f : Form) (k : ℕ) (s : List ℕ) (bits : ℕ) (p : IsCut f k s bits) where
  abbrev F : Format
  F = usual f k

  -- the cut operand
  abbrev t : ℕ
  t = cut_of k 3 bits

  most : t < 2 ^ (2 * k + 4)
  most = bits_most k 3 bits p.below

  kept : ImageKept F s
  kept = record { low = p.low; high = p.high; guard = usual-in-range; long = p.long }

  -- the number j that the code has is below 2^k
  module _ {j : ℕ} (high : j ≡ bits / 2 ^ (k + 3)) where
    is_number : j ≡ node_number k 3 t
    is_number = high ∙ sym (bits_number k 3 bits)

    is_piece : IsPieceOf k j
    is_piece = record {
      low = p.low;
      high = p.high;
      below = omega (arith, is_number, cut_number_below k 3 t (bits_least k 3 bits) most);
    }

    module _ (bytes : Bytes s) where
      -- the words in its window are those of nodes j and j + 1
      reads : {own : List ℕ} {width x : ℕ} → own ≡ own_bytes F s → width ≡ word_width F → x ≡ window_at own (j * width)
          → both_in F x ≡ both_words f k s t kept (bits_least k 3 bits) most bytes
      reads {width = width} is-own is_width read =
          ap (both_in F)
          (read
          ∙ ap (λ (f : List ℕ). window_at f (j * width)) is-own
          ∙ ap (λ (i : ℕ). window_at (own_bytes F s) (i * width)) is_number
          ∙ ap (λ (w : ℕ). window_at (own_bytes F s) (node_number k 3 t * w)) is_width)
          ∙ window_field (own_bytes F s) (node_number k 3 t * word_width F) (2 * word_width F)
          (own-bytes F s kept bytes) (omega (arith, p.high, width_most f k 2))

      -- and what they give is the answer
      answers : (answer : Result Ulps Refused) {own : List ℕ} {width x : ℕ} → own ≡ own_bytes F s → width ≡ word_width F
          → x ≡ window_at own (j * width)
          → outcome_of_reciprocal answer ≡ ends_outcome F (both_in F x) j (bits % 2 ^ (k + 3))
          → outcome_of_reciprocal answer ≡ cut_outcome F s t
      answers answer is-own is_width read e =
          e
          ∙ ap (λ (b : ℕ). ends_outcome F b j (bits % 2 ^ (k + 3))) (reads is-own is_width read)
          ∙ ap₂ (ends_outcome F (both_words f k s t kept (bits_least k 3 bits) most bytes)) is_number
          (sym (bits_fraction k 3 bits))
          ∙ ends_of_cut f k s t kept (bits_least k 3 bits) most bytes

pub by_form-requires : goal.by_form-requires
by_form-requires c = is_piece c.args.form c.args.k.0 c.args.image.now c.args.kept c.requires.cut c.high-j.ensures

pub returns : goal.returns
returns c =
    let a = c.args in
    let numbers = c.requires.numbers in
    let bytes : Bytes a.image.now = λ i. omega (arith, c.type_inv.image i) in
    answers a.form a.k.0 a.image.now a.kept c.requires.cut c.high-j.ensures bytes c.by_form.result
    (c.own_bytes.ensures.bytes ∙ ap (λ (q : Quotients). front_of q a.image.now) numbers)
    (ap (λ (q : Quotients). q.width) numbers) c.window-window.ensures c.by_form.ensures
