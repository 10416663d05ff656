-- Lines of text: what is read from one, a number and the byte behind it, and the line of a refusal.
-- Assumes nothing.
use Rattle.std.specs.Prelude.{ℕ, ◌+◌, ◌-◌, Bool, cond, ◌&&◌, List, [], ◌∷◌, ◌++◌, leb, eqb, length, take, get_or, Option, None, decimal}
use Rattle.decimal.specs.Reading.{reading}

abbrev pub line_feed : ℕ
line_feed = 10

abbrev pub space : ℕ
space = 32

-- a line without its last byte
abbrev pub body : List ℕ → List ℕ
body s = take (length s - 1) s

-- s ends in a line feed, and at most `most` bytes stand before it
abbrev pub ends_within : List ℕ → ℕ → Bool
ends_within s most = leb (length s) (most + 1) && eqb (get_or s (length s - 1) 0) line_feed

-- the number where s is 1 to `most` digits, then one line feed and nothing more, and the number is below 2^64; None for
-- anything else
unfoldable pub line_reading : List ℕ → ℕ → Option ℕ
line_reading s most = cond (ends_within s most) (reading (body s)) None

-- a number and the byte behind it
unfoldable pub field : ℕ → ℕ → List ℕ
field n b = decimal n ++ (b ∷ [])

-- "refused "
abbrev pub refused_title : List ℕ
refused_title = 114 ∷ 101 ∷ 102 ∷ 117 ∷ 115 ∷ 101 ∷ 100 ∷ space ∷ []

-- "refused ", the number of a refusal and a line feed
abbrev pub refused_text : ℕ → List ℕ
refused_text number = refused_title ++ field number line_feed
