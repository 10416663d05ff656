-- The reciprocal R of an operand X with n fraction bits, and what the words of a buffer give for it.
-- Assumes nothing.
use Rattle.std.specs.Prelude.{ℕ, ◌+◌, ◌*◌, ◌^◌, ◌<◌, List}
use Rattle.format.specs.Format.{precision_of, table_bits, input_bits}
use Rattle.format.specs.declared.Format.{Format}
use Rattle.image.specs.Image.{node_of}
use Rattle.operand.specs.Operand.{cut_operand}
use Rattle.interpolation.specs.Algorithm.{node_number, fraction, product_sum, chopped, cut_reciprocal}

-- R, in ulps: by Das Sarma and Matula, Algorithms 1 and 2. The form of an image plays no part.
abbrev pub reciprocal : ℕ → ℕ → ℕ → ℕ → ℕ → ℕ
reciprocal k a b n X = cut_reciprocal k a b (cut_operand k b n X)

-- R is within an ulp of the exact reciprocal of X: R × X differs from 2^(n+2k+1) by less than X.
-- The exact one, in ulps, is 2^(n+2k+1) / X.
abbrev pub IsWithinUlp : ℕ → ℕ → ℕ → ℕ → Type 0
IsWithinUlp k n X R = (2 ^ (n + 2 * k + 1) < R * X + X) × (R * X < 2 ^ (n + 2 * k + 1) + X)

-- What a buffer gives for a cut operand t: Algorithm 2 with the nodes that its words stand for.
abbrev pub read_reciprocal : Format → List ℕ → ℕ → ℕ
read_reciprocal F s t =
    let k = precision_of F in
    let a = table_bits F in
    let b = input_bits F in
    chopped k a b (product_sum k b (node_of F s (node_number k b t)) (node_of F s (node_number k b t + 1))
    (fraction k b t))
