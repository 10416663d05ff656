-- What only inner promises cite: a text that is written piece by piece, where there is room, and a piece that was
-- written.
-- Assumes nothing.
use Rattle.std.specs.Prelude.{◌≡◌, ℕ, ◌+◌, ◌≤◌, Bool, cond, List, leb, length}
use Rattle.decimal.specs.declared.text.Text.{Text}
use Rattle.decimal.specs.Text.{written}

-- n bytes more lie within the buffer of s
abbrev pub has_room : Text → ℕ → Bool
has_room s n = leb (s.at + n) (length s.out.now)

-- the same as a fact
abbrev pub Room : Text → ℕ → Type 0
Room s n = s.at + n ≤ length s.out.now

-- a call that asks for room for n bytes in s and then writes t left r, over the same buffer: where there is no room,
-- all as found
pub record Puts (s : Text) (n : ℕ) (t : List ℕ) (r : Text) : Type 0 where
  pub same : r.out.ghost_name ≡ s.out.ghost_name
  pub place : r.at ≡ cond (has_room s n) (s.at + length t) s.at
  pub bytes : r.out.now ≡ cond (has_room s n) (written s.out.now s.at t) s.out.now

-- a call wrote the text t into s and left r, over the same buffer
pub record Wrote (s : Text) (t : List ℕ) (r : Text) : Type 0 where
  pub same : r.out.ghost_name ≡ s.out.ghost_name
  pub place : r.at ≡ s.at + length t
  pub bytes : r.out.now ≡ written s.out.now s.at t
