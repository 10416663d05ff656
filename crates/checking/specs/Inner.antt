-- What only inner promises cite: what is asked of the words that are checked, and the lowest of them that is wrong.
-- Assumes nothing.
use Rattle.std.specs.Prelude.{◌≡◌, ℕ, ◌+◌, ◌^◌, ◌≤◌, ◌<◌, not, false, List, Option, Some, None, if◌then◌else◌, eqb, ltb}
use Rattle.std.specs.Option.{is_none}
use Rattle.layout.specs.Layout.{Layout, is_wrong, first_wrong}
use Rattle.nodes.specs.Inner.{judged_word}
use Rattle.nodes.specs.declared.Quotients.{Quotients}
use Rattle.image.specs.Inner.{layout_of}

-- words, two or more, of 4 to 30 bits, which are judged as the table's words
pub record AreWords (t : Quotients) : Type 0 where
  pub some : 2 ≤ t.count
  pub wide : 4 ≤ t.width
  pub narrow : t.width ≤ 30
  pub judges : (j word : ℕ) → j < t.count → word < 2 ^ t.width → is_none (judged_word t j word) ≡ not (eqb word ((layout_of t).word j))

-- none of the first n words is wrong
abbrev pub AreRight : Layout → List ℕ → ℕ → Type 0
AreRight t s n = (i : ℕ) → i < n → is_wrong t s i ≡ false

-- the lowest of words j and j + 1 that is wrong, if one is
abbrev pub wrong_of_two : Layout → List ℕ → ℕ → Option ℕ
wrong_of_two t s j = if is_wrong t s j then Some j else (if is_wrong t s (j + 1) then Some (j + 1) else None)

-- the lowest j whose word is wrong, if one is
abbrev pub wrong_word : Layout → List ℕ → Option ℕ
wrong_word t s = if ltb (first_wrong t s) t.count then Some (first_wrong t s) else None
