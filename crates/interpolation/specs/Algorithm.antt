-- The reciprocal of a cut operand t at precision k, with a table guard bits and b input guard bits: Das Sarma and
-- Matula, Algorithm 2, as docs/SCOPE.md, "The reciprocal", reads it.
-- Assumes nothing.
use Rattle.std.specs.Prelude.{ℕ, ◌+◌, ◌-◌, ◌*◌, ◌/◌, ◌%◌, ◌^◌}
use Rattle.nodes.specs.Nodes.{node}

-- i = floor(t / 2^(k+b))
abbrev pub index : ℕ → ℕ → ℕ → ℕ
index k b t = t / 2 ^ (k + b)

-- j = i - 2^k: the piece of t lies between nodes j and j + 1
abbrev pub node_number : ℕ → ℕ → ℕ → ℕ
node_number k b t = index k b t - 2 ^ k

-- f = t modulo 2^(k+b)
abbrev pub fraction : ℕ → ℕ → ℕ → ℕ
fraction k b t = t % 2 ^ (k + b)

-- P over a piece of any width F: c × F - (c - c') × f, with c and c' the nodes at its ends
abbrev pub sum_over : ℕ → ℕ → ℕ → ℕ → ℕ
sum_over F c c' f = c * F - (c - c') * f

-- P = c × 2^(k+b) - (c - c') × f
abbrev pub product_sum : ℕ → ℕ → ℕ → ℕ → ℕ → ℕ
product_sum k b = sum_over (2 ^ (k + b))

-- R = floor(P / 2^(k+a+b)), in ulps
abbrev pub chopped : ℕ → ℕ → ℕ → ℕ → ℕ
chopped k a b P = P / 2 ^ (k + (a + b))

-- P of t, by the nodes of the construction
abbrev pub cut_product_sum : ℕ → ℕ → ℕ → ℕ → ℕ
cut_product_sum k a b t = product_sum k b (node k a (node_number k b t)) (node k a (node_number k b t + 1))
    (fraction k b t)

-- R of t
abbrev pub cut_reciprocal : ℕ → ℕ → ℕ → ℕ → ℕ
cut_reciprocal k a b t = chopped k a b (cut_product_sum k a b t)
