-- A piece of text at a place of a buffer.
-- Assumes nothing.
use Rattle.std.specs.Prelude.{ℕ, ◌+◌, List, ◌++◌, length, take, drop}

-- s with the text t written over it from place `at` on; the bytes before and after it are as they were
unfoldable pub written : List ℕ → ℕ → List ℕ → List ℕ
written s at t = take at s ++ t ++ drop (at + length t) s
